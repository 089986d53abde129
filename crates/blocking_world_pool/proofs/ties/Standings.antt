-- What a crew and the laws tell of one job: the next one stands nowhere, the one in a hand runs,
-- the first ready one is queued.
use Rattle.std.proofs.Common.{◌≡◌, ℕ, ◌+◌, ◌==◌, List, [], ◌∷◌, length, Bool, true, false, refl}
use Rattle.std.proofs.Common.{sym, ap, ◌∙◌, subst, arith, Option, Some, None, inl, inr}
use Rattle.std.proofs.Common.{if◌then◌else◌, ◌&&◌, not, nat_lt, is_some}
use Rattle.std.specs.FinMap.{get}
use Rattle.std.proofs.lemmas.Bool.{ne_eqb, cases_eq}
use Rattle.std.proofs.lemmas.Bool.Decides.{nat_tests}
use Rattle.blocking_world_pool.proofs.Types.{Woke, Standing, Done, Dropped, Queued, Running, Act}
use Rattle.blocking_world_pool.proofs.Types.{Accepted, Moment, Holds, JobInHand, Ticket}
use Rattle.blocking_world_pool.proofs.Words.{Growth, JobNumber, one_if, ready, is_running_job}
use Rattle.blocking_world_pool.proofs.Words.{standing_of, is_in, without, accepted_by}
use Rattle.blocking_world_pool.proofs.Words.{accepted_jobs, accepts, newcomer, holder, standing}
use Rattle.blocking_world_pool.proofs.Words.{running, times, joined, Crew, hand_at, JobPool}
use Rattle.blocking_world_pool.proofs.Words.{TakesFront, FiledHere, IsNumberOf, CrewHolds}
use Rattle.blocking_world_laws.specs.Jobs.{is_running}
use Rattle.blocking_pool.specs.Pools.{has_room}
use Rattle.blocking_pool.proofs.Lists.{is_in-last, is_in-push}
use Rattle.blocking_world_laws.specs.Queue.{has_room as has_room_by_law, ready as ready_by_law}
use Rattle.blocking_world_laws.proofs.Queues.{sound_of, runs_so, known_so}
use Rattle.blocking_world_pool.proofs.jobs.Lookups.{runs_at}
use Rattle.blocking_world_pool.proofs.ties.Entries.{filed_runs, filed_none}
use Rattle.blocking_world_pool.proofs.ties.Lists.{in_times, times_below, times_first, without_times}
use Rattle.blocking_world_pool.proofs.ties.Ready.{ready_is, room_is}

unknown_is : (st : Option Standing) → one_if (is_some st) ≡ 0 → st ≡ None
unknown_is st e = grind arith

known_by : (k z l : Bool) → one_if k + one_if z ≡ one_if l → k ≡ (not z && l)
known_by k z l e = grind (arith, e)

-- a job that wasn't accepted is held by nobody
held_by_none : (past : List Moment) (s : ℕ) → is_in s (accepted_jobs past) ≡ false
    → holder past s ≡ None
held_by_none [] s none = refl
held_by_none (now ∷ past) s none = by now.event.act none (held_by_none past s)
  where
    by : (act : Act) → is_in s (joined (accepted_jobs past) (accepted_by act)) ≡ false
        → (is_in s (accepted_jobs past) ≡ false → holder past s ≡ None)
        → (if accepts s act then Some (newcomer past now.event.party) else holder past s) ≡ None
    by (Accepted t) none before =
        elim (cases_eq s t) [
          | inl same ↦ (let bad : true ≡ false = sym (is_in-last s t (accepted_jobs past) same)
              ∙ none in absurd cc)
          | inr far ↦
              ap (λ b. if b then Some (newcomer past now.event.party) else holder past s)
              (ne_eqb t s (λ same. far (sym same)))
              ∙ before (sym (is_in-push s t (accepted_jobs past) far) ∙ none)
        ]
    by _ none before = before none

module _ (setting : ℕ) (plan : List Bool) (crew : Crew) (past : List Moment)
    (h : CrewHolds setting plan crew past) where
  serials : (s : ℕ)
      → times s (accepted_jobs past) + one_if (0 == s) ≡ one_if (nat_lt s crew.pool.next_serial)
  serials s = times_first s 0 (accepted_jobs past) (one_if (nat_lt s crew.pool.next_serial))
      (ap (times s) (sym h.tied.numbered.all_are) ∙ times_below crew.pool.next_serial s)

  nowhere : (s : ℕ) → times s (accepted_jobs past) ≡ 0 → standing past s ≡ None
  nowhere s none = unknown_is (standing past s) (sym (known_so setting plan past h.laws s) ∙ none)

  -- the next job stands nowhere
  pub fresh : standing past crew.pool.next_serial ≡ None
  fresh = nowhere crew.pool.next_serial (let all = serials crew.pool.next_serial in
      grind (arith, nat_tests, all))

  -- nor does a job of the number 0
  pub none_zero : standing past 0 ≡ None
  none_zero = nowhere 0 (let all = serials 0 in grind (arith, nat_tests, all))

  -- and the pool has none
  pub get_zero : get crew.pool.jobs 0 ≡ None
  get_zero = filed_none (get crew.pool.jobs 0) (standing past 0) _ _ _ _ (h.tied.filed 0) none_zero

  -- what was accepted stands somewhere
  pub accepted_in : (s : ℕ) → is_in s (accepted_jobs past) ≡ is_some (standing past s)
  accepted_in s = in_times s (accepted_jobs past) (is_some (standing past s))
      (known_so setting plan past h.laws s)

  -- what stands nowhere is held by nobody
  pub unheld : (s : ℕ) → standing past s ≡ None → holder past s ≡ None
  unheld s none = held_by_none past s (accepted_in s ∙ ap is_some none)

  -- and that is each job from 1 up to the next
  pub known_is : (s : ℕ)
      → is_some (standing past s) ≡ (not (0 == s) && nat_lt s crew.pool.next_serial)
  known_is s =
      known_by (is_some (standing past s)) (0 == s) (nat_lt s crew.pool.next_serial)
      (ap (λ k. k + one_if (0 == s)) (sym (known_so setting plan past h.laws s)) ∙ serials s)

  -- a job is answered as it was seen to stand
  pub met : (answer : Option Standing → Woke) (number : JobNumber)
      → answer None ≡ answer (Some Done) → answer None ≡ answer (Some Dropped)
      → IsNumberOf crew.pool number
      → answer (standing_of crew.pool.jobs number) ≡ answer (standing past number.serial)
  met answer number done dropped placed = grind arith

  -- the job in a hand runs
  pub held_here : (v : ℕ) (held : JobInHand) → hand_at crew.hands v ≡ Holds held
      → is_running_job (get crew.pool.jobs held.turn.serial) ≡ true
  held_here v held at =
      runs_at held.turn.place (get crew.pool.jobs held.turn.serial) (h.ready.runs v held at)

  -- and was seen to run
  pub held_runs : (v : ℕ) (held : JobInHand) → hand_at crew.hands v ≡ Holds held
      → standing past held.turn.serial ≡ Some Running
  held_runs v held at =
      filed_runs (get crew.pool.jobs held.turn.serial) (standing past held.turn.serial) _ _ _ _
      (h.tied.filed held.turn.serial) (held_here v held at)

  -- so it is among the running jobs, once
  pub held_once : (v : ℕ) (held : JobInHand) → hand_at crew.hands v ≡ Holds held
      → length (without held.turn.serial (running past)) + 1 ≡ length (running past)
  held_once v held at =
      let s = held.turn.serial in
      let one : times s (running past) ≡ 1 = runs_so setting plan past h.laws s
      ∙ ap (λ o. one_if (is_running o)) (held_runs v held at) in
      ap (λ k. length (without s (running past)) + k) (sym one) ∙ without_times s (running past)

  -- The ready jobs are those that the past tells, and each client has room where it was seen to
  -- have.
  pub ready_seen : ready crew.pool ≡ ready_by_law past
  ready_seen = ready_is crew.pool past (sound_of setting plan past h.laws) h.tied.numbered
      h.tied.filed h.tied.assigned h.tied.limited h.tied.lined

  pub room_seen : (c : ℕ) → has_room crew.pool c ≡ has_room_by_law past c
  room_seen = room_is crew.pool past (sound_of setting plan past h.laws) h.tied.numbered
      h.tied.filed h.tied.assigned h.tied.limited h.tied.lined

  -- the first ready job is queued
  pub front_filed : (may_answer : ℕ → Bool → Type 0) (number : JobNumber)
      (value : Ticket) (to_drop : Bool) (growth : Growth) (new : JobPool)
      (f : TakesFront may_answer crew.pool number value to_drop growth new)
      → FiledHere (Some f.job) past number.serial
  front_filed may_answer number value to_drop growth new f =
      subst (λ o. FiledHere o past number.serial) f.found (h.tied.filed number.serial)

  pub front_stands : (may_answer : ℕ → Bool → Type 0)
      (number : JobNumber) (value : Ticket) (to_drop : Bool) (growth : Growth) (new : JobPool)
      → TakesFront may_answer crew.pool number value to_drop growth new
      → standing past number.serial ≡ Some Queued
  front_stands may_answer number value to_drop growth new f =
      (front_filed may_answer number value to_drop growth new f).0 ∙ ap Some f.stands

  -- it runs nowhere
  pub front_rests : (may_answer : ℕ → Bool → Type 0) (number : JobNumber)
      (value : Ticket) (to_drop : Bool) (growth : Growth) (new : JobPool)
      → TakesFront may_answer crew.pool number value to_drop growth new
      → is_in number.serial (running past) ≡ false
  front_rests may_answer number value to_drop growth new f =
      in_times number.serial (running past) false
      (runs_so setting plan past h.laws number.serial ∙ ap (λ o. one_if (is_running o))
      (front_stands may_answer number value to_drop growth new f))
