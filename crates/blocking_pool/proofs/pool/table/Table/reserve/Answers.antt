use Rattle.blocking_pool.proofs.OwnerLemmas.{reserved, seated}
use Rattle.blocking_pool.proofs.pool.table.Table.reserve.Goals as goal

pub invariant_of-self-in_err-make_room-3 : goal.invariant_of-self-in_err-make_room-3
invariant_of-self-in_err-make_room-3 g c =
    reserved c.self.inside.entries c.reserve.new.self c.self.inside.queue c.make_room-2.new.self
    c.self.inside.parked c.make_room-3.new.self
    c.self.invariant c.reserve.ensures.rest_kept c.make_room-2.ensures.same
    c.make_room-3.ensures.places c.make_room-3.ensures.kept

pub invariant_of-self-2 : goal.invariant_of-self-2
invariant_of-self-2 g c =
    seated c.reserve.new.self c.make_room-2.new.self c.make_seat.new.self c.make_room-3.new.self
    (reserved c.self.inside.entries c.reserve.new.self c.self.inside.queue c.make_room-2.new.self
    c.self.inside.parked c.make_room-3.new.self
    c.self.invariant c.reserve.ensures.rest_kept c.make_room-2.ensures.same
    c.make_room-3.ensures.places c.make_room-3.ensures.kept)
    c.make_seat.ensures.same.places_are c.make_seat.ensures.same.owners_are
