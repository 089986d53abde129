-- A run: what it has added to a world so far.
use Rattle.std.proofs.Common.{◌≡◌, ◌<◌, ◌+◌, ℕ, Bool, List, [], ◌∷◌, ◌++◌, length, map, take, drop}
use Rattle.std.proofs.Common.{ap, sym, ◌∙◌, arith}
use Rattle.std.proofs.lemmas.List.{map-append, reverse-append, length-map, length-take-le}
use Rattle.std.proofs.lemmas.List.{take-append-drop}
use Rattle.blocking_world_laws.specs.declared.event.Event.{Event}
use Rattle.blocking_world_laws.specs.declared.event.Moment.{Moment}
use Rattle.blocking_world_laws.specs.declared.step.Step.{Step}
use Rattle.blocking_world_laws.specs.Behind.{AllWriteBehind}
use Rattle.blocking_world_laws.specs.Queue.{NeverLimited, entries, queue, takes}
use Rattle.blocking_world_laws.specs.Seen.{IsBeginning}
use Rattle.blocking_world_laws.proofs.Queues.{unlimited_so}
use Rattle.blocking_world_laws.proofs.WrittenBytes.{all_write_behind}
use Rattle.blocking_world_copiers.specs.Assemblies.{Assembled}
use Rattle.blocking_world_copiers.specs.Ties.{IsLawful}
use Rattle.blocking_world.specs.Runs.{History, Follow, StopsShort}

-- so many of the steps were taken, with these events
pub record Taken (steps : List Step) (count : ℕ) (events : List Event) (old new : History) :
    Type 0 where
  pub moments : List Moment
  pub steps_are : map (λ moment. moment.step) moments ≡ take count steps
  pub events_are : map (λ moment. moment.event) moments ≡ events
  pub follow : Follow moments old new

-- one more
pub taken_more : (steps : List Step) (count : ℕ) (events : List Event) (old now new : History)
    (step : Step) (event : Event) → Taken steps count events old now
    → take (count + 1) steps ≡ take count steps ++ step ∷ []
    → new ≡ record now { past = record { step = step; event = event } ∷ now.past }
    → Taken steps (count + 1) (events ++ event ∷ []) old new
taken_more steps count events old now new step event t next is =
    let moment : Moment = record { step = step; event = event } in
    record {
      moments = t.moments ++ moment ∷ [];
      steps_are = map-append (λ (m : Moment). m.step) t.moments (moment ∷ [])
          ∙ ap (λ xs. xs ++ step ∷ []) t.steps_are ∙ sym next;
      events_are = map-append (λ (m : Moment). m.event) t.moments (moment ∷ [])
          ∙ ap (λ xs. xs ++ event ∷ []) t.events_are;
      follow =
          is ∙ ap (λ (h : History). record h { past = moment ∷ h.past }) t.follow
          ∙ ap (λ xs. record old { past = xs ++ old.past })
          (sym (reverse-append t.moments (moment ∷ [])));
    }

-- fewer were taken than there are
pub taken_fewer : (steps : List Step) (count : ℕ) (events : List Event) (old new : History)
    → Taken steps count events old new → count < length steps → StopsShort steps old new
taken_fewer steps count events old new t less =
    let many : length t.moments ≡ count =
    sym (length-map t.moments (λ (m : Moment). m.step)) ∙ ap length t.steps_are
    ∙ length-take-le count steps (omega (arith, less)) in
    record {
      moments = t.moments;
      rest = drop count steps;
      steps_are = ap (λ xs. xs ++ drop count steps) t.steps_are ∙ take-append-drop count steps;
      fewer = omega (arith, many, less);
      follow = t.follow;
    }

-- ---- what comes of the laws

module _ (setting : ℕ) (plan : List Bool) (w : Assembled) (past : List Moment)
    (lawful : IsLawful setting plan w past) where
  -- no more of what an owner wrote waits than its pipe holds
  pub behind_now : AllWriteBehind past
  behind_now = all_write_behind setting plan past lawful.legal

  -- jobs are taken in the order in which they entered, where no client limit was ever set
  pub unlimited_now : NeverLimited past → IsBeginning (takes past) (entries past)
  unlimited_now free = (queue past, unlimited_so setting plan past lawful.legal.pool free)
