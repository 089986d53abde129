-- Which owners are lent to copiers, and which copiers there are.
use Rattle.std.specs.Prelude.{ℕ, ◌==◌, ◌||◌, not, if◌then◌else◌, Bool, true, false, List, [], ◌∷◌}
use Rattle.std.specs.Prelude.{length, filter, Option, Some, None}
use Rattle.blocking_world_laws.specs.declared.event.Act.{Act}
use Rattle.blocking_world_laws.specs.declared.event.Act.TheVariants.{Linked, Copied, CopyFailed}
use Rattle.blocking_world_laws.specs.declared.event.Moment.{Moment}
use Rattle.blocking_world_laws.specs.declared.step.Step.{Step}
use Rattle.blocking_world_laws.specs.declared.step.Step.TheVariants.{Link, Copy}

-- A copier: its number, whom it reads and whom it writes, and how many bytes it reads at once.
pub record Copier : Type 0 where
  pub number : ℕ
  pub reader : ℕ
  pub writer : ℕ
  pub piece : ℕ

-- these copiers without that of this number
abbrev pub without_copier : ℕ → List Copier → List Copier
without_copier k before = filter (λ c. not (c.number == k)) before

-- the copiers that have told no end, after a moment
abbrev pub copiers_by : Step → Act → List Copier → List Copier
copiers_by (Link a b n) (Linked k) before =
    record { number = k; reader = a; writer = b; piece = n } ∷ before
copiers_by (Copy k) (Copied n) before = without_copier k before
copiers_by (Copy k) (CopyFailed side) before = without_copier k before
copiers_by step act before = before

-- the copiers that were made and have told no end, the newest first
abbrev pub copiers : List Moment → List Copier
copiers [] = []
copiers (now ∷ past) = copiers_by now.step now.event.act (copiers past)

-- whether a step and its act make a copier
abbrev pub is_linking : Step → Act → Bool
is_linking (Link a b n) (Linked k) = true
is_linking step act = false

-- how many copiers were made
abbrev pub links : List Moment → ℕ
links past = length (filter (λ now. is_linking now.step now.event.act) past)

-- whether the owner belongs to one of these copiers
abbrev pub has_owner : ℕ → List Copier → Bool
has_owner h [] = false
has_owner h (c ∷ more) = c.reader == h || c.writer == h || has_owner h more

-- the copier of this number, if it is one of these
abbrev pub copier_in : ℕ → List Copier → Option Copier
copier_in k [] = None
copier_in k (c ∷ more) = if c.number == k then Some c else copier_in k more
