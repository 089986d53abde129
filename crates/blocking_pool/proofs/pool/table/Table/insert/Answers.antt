use Rattle.std.proofs.Common.{◌<◌, ◌++◌, ◌∷◌, [], sym, subst, length}
use Rattle.std.specs.FinMap.{insert}
use Rattle.blocking_pool.specs.Clients.{enrolled}
use Rattle.blocking_pool.specs.Jobs.{new_job}
use Rattle.blocking_pool.specs.Tables.{Becomes, retallied, table_of}
use Rattle.blocking_pool.proofs.ParkLemmas.{has_room, Enrols, enrols}
use Rattle.blocking_pool.proofs.pool.table.Table.insert.Goals as goal

pub enroll-requires-clause-room : goal.enroll-requires-clause-room
enroll-requires-clause-room g c = (has_room c.self.inside.entries c.self.inside.queue
    c.self.inside.parked c.args.client c.args.self.now c.self.view_is c.requires.room).2

done : (g : _) (c : goal.After-new g)
    → Enrols c.args.self.now c.insert_reserved-place.new.self c.enter.new.self c.self.inside.parked
    c.insert_reserved-place.result c.args.serial c.args.client c.args.value
done g c =
    let room = has_room c.self.inside.entries c.self.inside.queue c.self.inside.parked c.args.client
    c.args.self.now c.self.view_is c.requires.room in
    enrols c.self.inside.entries c.insert_reserved-place.new.self c.self.inside.queue
    c.enroll.new.self c.enter.new.self c.self.inside.parked c.insert_reserved-place.result
    c.args.serial c.args.client c.args.value c.args.self.now
    c.self.invariant c.self.view_is c.insert_reserved-place.ensures.was_vacant c.requires.fresh
    (subst (λ place. place < length c.self.inside.queue.owners)
    (sym c.insert_reserved-place.ensures.key) room.0)
    (subst (λ place. place < c.self.inside.parked.room) (sym c.insert_reserved-place.ensures.key)
    room.1)
    c.insert_reserved-place.ensures.updates c.enroll.ensures c.enter.ensures

pub invariant_of-self : goal.invariant_of-self
invariant_of-self g c = (done g c).kept

pub returns-clause-becomes : goal.returns-clause-becomes
returns-clause-becomes g c =
    subst (λ n. Becomes c.args.self.now (table_of c.insert_reserved-place.new.self
    c.enter.new.self c.self.inside.parked) (c.args.self.now.queue ++ c.args.serial ∷ [])
    (insert c.args.self.now.jobs c.args.serial (new_job n.place c.args.client c.args.value))
    (retallied c.args.self.now.tallies c.args.client enrolled))
    (sym c.new.ensures) (done g c).becomes
