-- What the machines of the jobs of all kinds have in common. A machine keeps what it does next, and
-- whether it has to call a waker before that; the laws have a word for each thing that it does.
use Rattle.std.proofs.Common.{arith, ◌≡◌, ℕ, List, ◌∷◌, Bool, true, false, refl, sym, ap, ◌∙◌}
use Rattle.std.proofs.Common.{Option, None}
use Rattle.blocking_world_holders.proofs.Types.{Fault, Act, Answered, HandleAnswer}
use Rattle.blocking_world_holders.proofs.Words.{Machine, machine, wake_first, JobAction, Kind}
use Rattle.blocking_world_holders.proofs.Words.{WakeHolder, job_earlier, fault, fault_in, is_answer}
use Rattle.blocking_world_holders.proofs.Words.{job_next_after_answer as next_after_answer}
use Rattle.blocking_world_holders.proofs.Words.{next_but_wake, next_of_job, job_wake_first}
use Rattle.blocking_world_holders.proofs.Words.{has_waker, is_over}

-- A machine does this next, which is no call of a waker: it took none, and the job's table and the
-- law have its word for it.
pub record Does {A : Type 0} (word : A → JobAction) (kind : Kind) (acts : List Act)
    (core : Machine A) (now : A) : Type 0 where
  pub core_is : core ≡ machine now false
  pub table : next_but_wake kind acts ≡ word now
  pub law : next_of_job kind acts ≡ word now

-- And so it is where the job is to be answered.
pub record Asks {A : Type 0} (word : A → JobAction) (kind : Kind) (acts : List Act)
    (core : Machine A) (answer : HandleAnswer) (now : A) : Type 0 where
  pub does : Does word kind acts core now
  pub fits : is_answer (word now) answer ≡ true

-- ---- what it does next

-- what a job does next, by what it has done
next_by : (kind : Kind) (acts : List Act)
    → next_of_job kind acts ≡ job_wake_first (has_waker acts) (next_but_wake kind acts)
next_by kind acts = grind arith

module _ {A : Type 0} (word : A → JobAction) (deliver : A) (calls : word deliver ≡ WakeHolder)
    (kind : Kind) (acts : List Act) (core : Machine A)
    (next : word core.next ≡ next_but_wake kind acts)
    (waking : core.is_waking ≡ has_waker acts) where
  -- it does what the law says
  pub law_is : next_of_job kind acts ≡ word (wake_first core.is_waking deliver core.next)
  law_is =
      next_by kind acts ∙ ap (λ b. job_wake_first b (next_but_wake kind acts)) (sym waking)
      ∙ ap (job_wake_first core.is_waking) (sym next) ∙ by core.is_waking
    where
      by : (b : Bool) → job_wake_first b (word core.next) ≡ word (wake_first b deliver core.next)
      by true = sym calls
      by false = refl

  -- whoever does something else than calling a waker took none
  pub does : {now : A} → wake_first core.is_waking deliver core.next ≡ now → (now ≡ deliver → ⊥)
      → Does word kind acts core now
  does {now} is other =
      let awake : core ≡ machine now false = by core.is_waking core.next is in
      record {
        core_is = awake;
        table = sym next ∙ ap (λ (c : Machine A). word c.next) awake;
        law = law_is ∙ ap word is;
      }
    where
      by : (b : Bool) (held : A) → wake_first b deliver held ≡ now
          → machine held b ≡ machine now false
      by true held is = absurd (other (sym is))
      by false held is = ap (λ a. machine a false) is

  -- and so did whoever is to be answered
  pub asks : {now : A} (answer : HandleAnswer) → wake_first core.is_waking deliver core.next ≡ now
      → is_answer (word (wake_first core.is_waking deliver core.next)) answer ≡ true
      → Asks word kind acts core answer now
  asks {now} answer is asked =
      let fits = ap (λ a. is_answer (word a) answer) (sym is) ∙ asked in
      let asks_word = λ (e : now ≡ deliver).
      ap (λ w. is_answer w answer) (sym calls) ∙ ap (λ a. is_answer (word a) answer) (sym e)
      ∙ fits in
      record { does = does is (λ e. let none = asks_word e in cc); fits = fits }

-- what is answered asks, and isn't over
pub asking_goes : (action : JobAction) (answer : HandleAnswer) → is_answer action answer ≡ true
    → is_over action ≡ false
asking_goes action answer is = grind arith

pub goes_on : {A : Type 0} {word : A → JobAction} {kind : Kind} {acts : List Act} {core : Machine A}
    {answer : HandleAnswer} {now : A} → Asks word kind acts core answer now
    → is_over (next_but_wake kind acts) ≡ false
goes_on {word = word} {answer = answer} {now = now} q =
    ap is_over q.does.table ∙ asking_goes (word now) answer q.fits

-- ---- what it leaves

-- the waker that it took is called
pub called : {A C : Type 0} (deliver held : A) (waking : Bool) (after : Bool → A → C) (left : A → C)
    → ((a : A) → after true a ≡ left a) → after false deliver ≡ left deliver
    → wake_first waking deliver held ≡ deliver → after waking held ≡ left held
called deliver held true after left woken same is = woken held
called deliver held false after left woken same is = ap (after false) is ∙ same ∙ ap left (sym is)

-- where no fault is told, the first one stays
pub no_fault : (held : Option (Fault ℕ)) → held ≡ job_earlier held None
no_fault held = grind arith

module _ {A : Type 0} {word : A → JobAction} {kind : Kind} {acts : List Act} {core : Machine A}
    {now : A} (d : Does word kind acts core now) (answer : HandleAnswer) where
  -- what is next after an answer, and the job's fault, by the table
  pub next_on : next_after_answer (word now) answer ≡ next_but_wake kind (Answered answer ∷ acts)
  next_on = ap (λ action. next_after_answer action answer) (sym d.table)

  pub fault_on : (held : Option (Fault ℕ)) → held ≡ fault kind acts
      → job_earlier held (fault_in (word now) answer) ≡ fault kind (Answered answer ∷ acts)
  fault_on held same =
      ap (λ action. job_earlier held (fault_in action answer)) (sym d.table)
      ∙ ap (λ f. job_earlier f (fault_in (next_but_wake kind acts) answer)) same
