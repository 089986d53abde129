use Rattle.std.proofs.Common.{◌++◌, sym, ap, ◌∙◌, arith}
use Rattle.std.proofs.lemmas.List.{append-nil}
use Rattle.blocking_pool.proofs.SweepLemmas.{told, gathering_begins, gathering_fits, gathering_on}
use Rattle.blocking_pool.proofs.SweepLemmas.{gathering_shorter}
use Rattle.blocking_pool.proofs.pool.table.gather.Goals.{in-Some-marked_at, in_default-marked_at}
use Rattle.blocking_pool.proofs.pool.table.gather.Goals as goal

pub places-init : goal.places-init
places-init g c = (
  gathering_begins g.J.Job.may_answer c.args.entries.now c.args.parked.now c.first-next.result
      c.clear.new.self.numbers c.first-next.ensures.first (ap (λ due. due.numbers) c.clear.ensures),
  omega (arith, ap (λ due. due.room) c.clear.ensures),
)

pub push-requires : goal.push-requires
push-requires g c =
    gathering_fits g.J.Job.may_answer c.args.entries.now c.args.parked.now c.places.next
    c.places.due.numbers c.in-Some.place c.args.due.now.room c.places.due.room
    c.requires.parked c.in-Some.is c.places.invariant.0 c.requires.room c.places.invariant.1

pub places-smaller : goal.places-smaller
places-smaller g c =
    gathering_shorter c.args.entries.now c.args.parked.now c.places.next c.after-next.result
    c.in-Some.place c.requires.parked c.in-Some.is c.after-next.ensures

pub places-preserved : goal.places-preserved
places-preserved g c =
    elim c.match-marked_at.branch [
      | in-Some-marked_at w ↦ (
        gathering_on g.J.Job.may_answer c.args.entries.now c.args.parked.now c.places.next
            c.after-next.result c.places.due.numbers c.match-marked_at.due.numbers c.in-Some.place
            c.marked_at.result
            c.requires.parked c.in-Some.is c.places.invariant.0 c.marked_at.ensures
            (ap (λ due. due.numbers) w.due-is ∙ w.push.ensures.numbers
            ∙ ap (λ found. c.places.due.numbers ++ told found) (sym w.in-Some-marked_at.is))
            c.after-next.ensures,
        omega (arith, ap (λ due. due.room) w.due-is, w.push.ensures.kept, c.places.invariant.1),
      )
      | in_default-marked_at w ↦ (
        gathering_on g.J.Job.may_answer c.args.entries.now c.args.parked.now c.places.next
            c.after-next.result c.places.due.numbers c.match-marked_at.due.numbers c.in-Some.place
            c.marked_at.result
            c.requires.parked c.in-Some.is c.places.invariant.0 c.marked_at.ensures
            (ap (λ due. due.numbers) w.due-is ∙ sym (append-nil c.places.due.numbers) ∙ ap
            (λ found. c.places.due.numbers ++ told found) (sym w.in_default-marked_at.is))
            c.after-next.ensures,
        omega (arith, ap (λ due. due.room) w.due-is, c.places.invariant.1),
      )
    ]
