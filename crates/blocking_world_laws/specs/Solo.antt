-- Independence: what an owner sees depends on no other owner, on no worker and on no pool.
use Rattle.std.specs.Prelude.{◌≡◌, ℕ, ◌&&◌, not, Bool, true, false, List, [], ◌∷◌}
use Rattle.blocking_world_laws.specs.OwnerLaws.{OwnerLaws}
use Rattle.blocking_world_laws.specs.Seen.{events, cut}
use Rattle.blocking_world_laws.specs.declared.event.Act.{Act}
use Rattle.blocking_world_laws.specs.declared.event.Act.TheVariants.{Refused}
use Rattle.blocking_world_laws.specs.declared.event.Event.{Event}
use Rattle.blocking_world_laws.specs.declared.event.Moment.{Moment}

-- whether an act is the refusal of a new job
abbrev pub is_refusal : Act → Bool
is_refusal (Refused why) = true
is_refusal _ = false

-- whether no new job was refused
abbrev pub is_without_refusal : List Event → Bool
is_without_refusal [] = true
is_without_refusal (e ∷ more) = not (is_refusal e.act) && is_without_refusal more

-- What owner h may see where it is alone: its own events and those of its jobs, none of them a
-- refusal, by its own laws, which name no pool, no worker's number and no other owner.
pub record Solo (h : ℕ) (seen : List Event) : Type 0 where
  pub own : cut h seen ≡ seen
  pub sound : is_without_refusal seen ≡ true
  pub laws : OwnerLaws seen

-- Where no new job was refused, each owner saw what it might have seen alone, the replies among it.
abbrev pub AreIndependent : List Moment → Type 0
AreIndependent past = is_without_refusal (events past) ≡ true → (h : ℕ)
    → Solo h (cut h (events past))
