use Rattle.std.specs.Prelude.{⊤}
use Rattle.futures.specs.Poll.{IfReady, OnPending}
use Rattle.futures.specs.declared.task.Poll.{Poll}
use Rattle.futures.specs.declared.task.Poll.TheVariants.{Ready, Pending}
use Rattle.blocking_files.proofs.changing.ChangingFuture.TheImpl.Goals as goal

-- what the trait asks of a poll, where a future promises nothing of its output and may always be
-- polled
ready_anyhow : {A : Type 0} (r : Poll A) → IfReady r (λ _. ⊤)
ready_anyhow (Ready _) = tt
ready_anyhow Pending = tt

pending_anyhow : {A : Type 0} (r : Poll A) → OnPending r ⊤
pending_anyhow (Ready _) = tt
pending_anyhow Pending = tt

promises_no_less : {A : Type 0} (r : Poll A) → OnPending r ((x : A) → ⊤ → ⊤)
promises_no_less (Ready _) = tt
promises_no_less Pending = λ _ _. tt

pub poll-tells : goal.poll-tells
poll-tells g x c = record {
  value = ready_anyhow c.result;
  again = pending_anyhow c.result;
  same = promises_no_less c.result;
  registered = c.ensures.armed;
  kept = c.ensures.kept;
}
