use Rattle.std.proofs.Common.{◌≡◌, ap, ◌∙◌, sym, refl}
use Rattle.blocking_world_pool.proofs.Types.{Accepted}
use Rattle.blocking_world_pool.proofs.Words.{Add, Adds, next_start, added_act}
use Rattle.blocking_world_pool.proofs.crew.Crew.add.Goals as goal
use Rattle.blocking_world_pool.proofs.crew.Crew.add.Goals.{in-Ok, in-Err}
use Rattle.blocking_world_pool.proofs.ready.Moves.{moved_ready}

number_is : (g : _) (c : goal.After-seen-event g) → c.match-number.number ≡ c.add-number.result.0
number_is g c = elim c.match-number.branch [
  | in-Ok w ↦ w.number-is ∙ sym w.in-Ok.is
  | in-Err w ↦ w.number-is ∙ sym w.in-Err.is
]

act_is : (g : _) (c : goal.After-seen-event g)
    → c.match-number.act ≡ added_act c.match-number.number
act_is g c = elim c.match-number.branch [
  | in-Ok w ↦ w.act-is ∙ ap Accepted w.serial.ensures ∙ ap added_act (sym w.number-is)
  | in-Err w ↦ w.act-is ∙ ap added_act (sym w.number-is)
]

pub returns : goal.returns
returns g c =
    rw (sym c.self.view_is)
    (record {
      move = Adds c.args.party c.args.client c.add-number.result.0 c.add-number.result.1
          c.add-number.new.self;
      may = c.add-number.ensures;
      call_is = ap (Add c.args.party c.args.client) (number_is g c);
      event_is =
          let act = act_is g c ∙ ap added_act (number_is g c) in
          let start = c.next_start-first.ensures ∙ ap next_start (sym c.self.view_is) in
          cc (c.seen-event.ensures, act, start);
      after_is = refl;
    })

pub invariant_of-self : goal.invariant_of-self
invariant_of-self g c = moved_ready c.self.invariant c.self.view_is (returns g c)
