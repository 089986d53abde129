-- What each call of the pool does that lets it grow, with the growth that was read.
use Rattle.std.proofs.Common.{◌≡◌, ◌<◌, ℕ, ◌+◌, ◌≤◌, Bool, true, false, List, length, arith, refl}
use Rattle.std.proofs.Common.{sym, ap, ◌∙◌, Option, Some}
use Rattle.std.specs.FinMap.{get}
use Rattle.std.proofs.lemmas.Bool.Decides.{nat_tests}
use Rattle.blocking_pool.specs.Pools.{TakesFront as CoreTakesFront}
use Rattle.blocking_pool.proofs.Lists.{length-without}
use Rattle.blocking_pool.proofs.ReadyLemmas.{first_queued, ready_with_one, ready_after_entry}
use Rattle.blocking_world_pool.proofs.Types.{Took, Idle, Run, Drop, One, WorkerPass, Queued, Ticket}
use Rattle.blocking_world_pool.proofs.Words.{limit_of, after_ring, greatest, is_due, Asking, Growth}
use Rattle.blocking_world_pool.proofs.Words.{number_after, JobNumber, Job, Takes, IsSound, ready}
use Rattle.blocking_world_pool.proofs.Words.{ready_with, with_taken, is_queued_job, after_pickup}
use Rattle.blocking_world_pool.proofs.Words.{after_entry, after_requeue, Enters, FindsNobody}
use Rattle.blocking_world_pool.proofs.Words.{EnterAgain, new_ticket, JobPool, Accepts}
use Rattle.blocking_world_pool.proofs.Words.{FindsNoWorker, TakesFront, TakesTo, EntersAgain}
use Rattle.blocking_world_pool.proofs.growth.Reads.{IsRead, reads, numbers_last}

-- what a ticket answers where it is asked for its mark
abbrev pub is_marked_so : Ticket → Bool → Type 0
is_marked_so ticket marked = ticket.is_marked ≡ marked

-- ---- takes

queued_is : (found : Option (Job Ticket)) (job : Job Ticket) → found ≡ Some job
    → is_queued_job found ≡ true → job.standing ≡ Queued
queued_is found job is queued = grind arith

-- a take, with the growth that is read after it
module _ (asking : Asking) (old new : JobPool) (seen : Growth) (sound : IsSound old) (read :
    IsRead (length (ready new)) old.counts.workers (limit_of old.counts) new.counts seen) where
  takes_front : (number : JobNumber) (ticket : Ticket) (to_drop : Bool)
      → CoreTakesFront is_marked_so asking old number ticket to_drop new
      → TakesFront asking.may_answer old number ticket to_drop seen new
  takes_front number ticket to_drop takes =
      let taken = with_taken old number.serial takes.job in
      let queued = first_queued old number.serial takes.front in
      let shorter = length-without number.serial old.queue queued sound.queue.once in
      let grown = reads asking (length (ready taken)) (after_pickup old.counts) takes.counts
      takes.growth seen takes.grows (rw takes.after_is at read) in
      record {
        front = takes.front;
        once = omega (arith, shorter);
        job = takes.job;
        found = takes.found;
        stands = queued_is (get old.jobs number.serial) takes.job takes.found
            (sym (sound.queue.each number.serial) ∙ queued);
        place = takes.place;
        value_is = takes.value_is;
        wanted = rw takes.wanted.1 takes.wanted.2;
        starts = rw takes.after_is grown.starts;
        after_is = takes.after_is ∙ ap (λ counts. record taken { counts = counts }) grown.counts;
      }

  pub takes_to : (took : Took Ticket) → ((pass : WorkerPass) → took ≡ Idle pass → ⊥)
      → Takes is_marked_so asking old took new
      → TakesTo asking.may_answer old took seen new
  takes_to (Run turn ticket) some taken = takes_front turn ticket false taken
  takes_to (Drop turn ticket) some taken = takes_front turn ticket true taken
  takes_to (Idle pass) some taken = absurd (some pass refl)

-- the starts of a take have numbers
pub take_numbers : (may_answer : ℕ → Bool → Type 0) (old new : JobPool) (took : Took Ticket)
    (seen : Growth) → TakesTo may_answer old took seen new
    → old.counts.next_worker ≤ greatest → old.counts.next_worker + seen.started ≤ greatest
take_numbers may_answer old new took seen takes = grind (arith, numbers_last)

-- what it leaves of the numbers
module _ (may_answer : ℕ → Bool → Type 0) (old new : JobPool) (seen : Growth) where
  abbrev pub Leaves : Type 0
  Leaves = (new.counts.setting ≡ old.counts.setting)
      × (new.counts.next_worker ≡ number_after (old.counts.next_worker + seen.started) seen.refused)
      × (new.next_serial ≡ old.next_serial)

  front_leaves : (number : JobNumber) (ticket : Ticket) (to_drop : Bool)
      → TakesFront may_answer old number ticket to_drop seen new → Leaves
  front_leaves number ticket to_drop takes = rw takes.after_is (refl, refl, refl)

  pub take_leaves : (took : Took Ticket) → ((pass : WorkerPass) → took ≡ Idle pass → ⊥)
      → TakesTo may_answer old took seen new → Leaves
  take_leaves (Run turn ticket) some taken = front_leaves turn ticket false taken
  take_leaves (Drop turn ticket) some taken = front_leaves turn ticket true taken
  take_leaves (Idle pass) some taken = absurd (some pass refl)

-- ---- new jobs

pub accepts : (asking : Asking) (old new : JobPool) (client : ℕ) (number : JobNumber)
    (seen : Growth) → IsSound old → Enters asking old client new_ticket number new
    → IsRead (length (ready new)) old.counts.workers (limit_of old.counts) new.counts seen
    → Accepts asking.may_answer old client number seen new
accepts asking old new client number seen sound enters read =
    let unused = sound.unused old.next_serial (omega arith) in
    let more : length (ready new) ≡ ready_with old client =
    ap (λ (p : JobPool). length (ready p)) enters.after_is
    ∙ ready_after_entry old number.place client new_ticket enters.counts sound.queue unused in
    let counts : new.counts ≡ after_ring One enters.counts =
    ap (λ (p : JobPool). p.counts) enters.after_is in
    let grown = reads asking (length (ready new)) old.counts enters.counts enters.growth seen
    (rw (← more) at enters.grows) (rw counts at read) in
    record {
      serial = enters.serial;
      left = enters.left;
      unused = unused;
      starts = grown.starts;
      staffed = rw grown.counts at enters.staffed;
      after_is = enters.after_is ∙ ap (after_entry old number.place client new_ticket) grown.counts;
    }

due_itself : (ready idle workers limit : ℕ) → 0 < ready → idle ≡ 0 → workers ≡ 0
    → is_due 1 idle workers limit 0 ≡ is_due ready idle workers limit 0
due_itself ready idle workers limit some none nobody = grind (arith, nat_tests, some, none, nobody)

-- Where nobody works no job runs, so that the new one is ready, and a start is due, however many
-- jobs are.
pub finds_no_worker : (asking : Asking) (old new : JobPool) (client : ℕ) (seen : Growth)
    → IsSound old → new.counts.idle ≤ new.counts.workers → FindsNobody asking old client new
    → IsRead 1 old.counts.workers (limit_of old.counts) new.counts seen
    → FindsNoWorker asking.may_answer old client seen new
finds_no_worker asking old new client seen sound order finds read =
    let counts : finds.counts ≡ new.counts = ap (λ (p : JobPool). p.counts) (sym finds.after_is) in
    let nobody : new.counts.workers ≡ 0 = ap (λ c. c.workers) (sym counts) ∙ finds.unstaffed in
    let before : old.counts.workers ≡ 0 = (let grew : finds.counts.workers
    ≡ old.counts.workers + finds.growth.started = ap (λ c. c.workers) finds.grows.counts in
    let none = finds.unstaffed in omega (arith, grew, none)) in
    let some : 0 < ready_with old client =
    (let one = ready_with_one old client sound before in omega (arith, one)) in
    let due = due_itself (ready_with old client) new.counts.idle new.counts.workers
    (limit_of old.counts) some (omega (arith, order, nobody)) nobody in
    let grown = reads asking (ready_with old client) old.counts finds.counts finds.growth seen
    finds.grows (rw counts (read.0, read.1 ∙ due)) in
    record {
      left = finds.left;
      starts = grown.starts;
      unstaffed = ap (λ c. c.workers) (sym grown.counts) ∙ finds.unstaffed;
      after_is = finds.after_is ∙ ap (λ c. record old { counts = c }) grown.counts;
    }

-- ---- wakes and cancels

-- jobs enter again
pub enters_again : (asking : Asking) (old new : JobPool) (serials : List ℕ) (seen : Growth)
    → EnterAgain asking old serials new
    → IsRead (length (ready new)) old.counts.workers (limit_of old.counts) new.counts seen
    → EntersAgain asking.may_answer old serials seen new
enters_again asking old new serials seen again read =
    let entered = after_requeue old serials old.counts in
    let grown = reads asking (length (ready entered)) old.counts again.counts again.growth seen
    again.grows (rw again.after_is at read) in
    record {
      starts = rw again.after_is grown.starts;
      after_is = again.after_is ∙ ap (after_requeue old serials) grown.counts;
    }
