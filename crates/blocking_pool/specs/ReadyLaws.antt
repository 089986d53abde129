-- What calls do to the jobs that are ready.
use Rattle.std.specs.Prelude.{◌≡◌, ℕ, Bool, true, false}
use Rattle.blocking_pool.specs.Lists.{is_in}
use Rattle.blocking_pool.specs.Pools.{Pool, ready}
use Rattle.blocking_pool.specs.declared.pool.bell.BellKind.{BellKind}
use Rattle.blocking_pool.specs.declared.pool.bell.BellKind.TheVariants.{Silent, All}

-- whether anyone is notified
abbrev pub is_loud : BellKind → Bool
is_loud Silent = false
is_loud _ = true

module _ {J : Type 0} where
  -- a job is ready that wasn't
  abbrev pub IsNewlyReady : Pool J → Pool J → ℕ → Type 0
  IsNewlyReady old new serial =
      (is_in serial (ready new) ≡ true) × (is_in serial (ready old) ≡ false)

  -- where a job is ready that wasn't, someone is notified
  abbrev pub RingsForReady : Pool J → Pool J → Type 0
  RingsForReady old new = (serial : ℕ) → IsNewlyReady old new serial
      → is_loud new.counts.bell ≡ true

  -- and so are all
  abbrev pub RingsAllForReady : Pool J → Pool J → Type 0
  RingsAllForReady old new = (serial : ℕ) → IsNewlyReady old new serial → new.counts.bell ≡ All

  -- no job is ready that wasn't
  abbrev pub MakesNoneReady : Pool J → Pool J → Type 0
  MakesNoneReady old new = (serial : ℕ) → is_in serial (ready new) ≡ true
      → is_in serial (ready old) ≡ true
