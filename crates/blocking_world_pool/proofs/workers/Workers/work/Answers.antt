use Rattle.std.proofs.Common.{is_some, ap, ◌∙◌, sym, if◌then◌else◌}
use Rattle.blocking_world_pool.proofs.Types.{Hand}
use Rattle.blocking_world_pool.proofs.Words.{hand_in, with_hand, hand_after_act}
use Rattle.blocking_world_pool.proofs.hands.Loans.{hand_is, lent_hand, changed_if}
use Rattle.blocking_world_pool.proofs.workers.Workers.work.Goals as goal

pub returns-clause-after : goal.returns-clause-after
returns-clause-after c =
    let row = c.args.self.now in
    let v = c.args.worker in
    let hand = c.in_ok-at.field-0.now in
    let same = hand_is row v ∙ sym (ap hand_in c.in_ok-at.ensures.hand) in
    changed_if row v (is_some c.work.result)
    (hand_after_act hand c.args.act.now) c.in_ok-at.ensures.hand c.work.ensures.after
    (lent_hand c.in_ok-at.was (c.at.follows.holds c.work.new.self))
    ∙ ap (λ (h : Hand). if is_some c.work.result
    then with_hand row v (hand_after_act h c.args.act.now) else row) (sym same)
