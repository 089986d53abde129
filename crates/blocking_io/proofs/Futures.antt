-- What the trait of futures asks of a poll, where a future promises at most how many bytes there
-- are in its output and waits for no source of its own.
use Rattle.std.specs.Prelude.{◌≡◌, ℕ, ◌≤◌, Result, IfOk, ⊤}
use Rattle.std.proofs.Common.{subst}
use Rattle.futures.specs.Poll.{IfReady, OnPending}
use Rattle.futures.specs.Task.{Covers, IsArmed}
use Rattle.futures.specs.declared.task.Poll.{Poll}
use Rattle.futures.specs.declared.task.Poll.TheVariants.{Ready, Pending}
use Rattle.futures.specs.declared.task.context.Context.{Context}

pub ready_anyhow : {A : Type 0} (r : Poll A) → IfReady r (λ _. ⊤)
ready_anyhow (Ready _) = tt
ready_anyhow Pending = tt

pub pending_anyhow : {A : Type 0} (r : Poll A) → OnPending r ⊤
pending_anyhow (Ready _) = tt
pending_anyhow Pending = tt

pub pending_so : {A P : Type 0} (r : Poll A) → P → OnPending r P
pending_so (Ready _) _ = tt
pending_so Pending holds = holds

-- within so many is within as many
pub within_as_many : {E : Type 0} {most others : ℕ} → most ≡ others → (out : Result ℕ E)
    → IfOk out (λ n. n ≤ most) → IfOk out (λ n. n ≤ others)
within_as_many same out within = subst (λ m. IfOk out (λ n. n ≤ m)) same within

pub promises_no_less : {A : Type 0} (r : Poll A) → OnPending r ((x : A) → ⊤ → ⊤)
promises_no_less (Ready _) = tt
promises_no_less Pending = λ _ _. tt

pub covers_none : {A : Type 0} (r : Poll A) (cx : Context) → OnPending r (IsArmed cx)
    → OnPending r (Covers cx (λ _. ⊥))
covers_none (Ready _) _ _ = tt
covers_none Pending _ armed = (armed, λ _ e. absurd e)
