-- What contracts see of the job of an iterator, and what each of its steps does.
use Rattle.std.specs.Prelude.{◌+◌, ◌≡◌, ℕ, Bool, true, Option, Some, None, IsSome, refl}
use Rattle.std.specs.Coded.{Coded, code_by, coded×, coded_bool, coded_ℕ, coded_option}
use Rattle.blocking_core.specs.Machines.{Machine}
use Rattle.blocking_core.specs.Items.{item_next, item_after}
use Rattle.blocking_core.specs.declared.job.item.ItemAction.{ItemAction}
use Rattle.blocking_core.specs.declared.job.item.ItemAction.TheVariants.{Next, Send, Close, Finish}
use Rattle.blocking_core.specs.declared.job.item.ItemAction.TheVariants.{Deliver, Done}
use Rattle.blocking_core.specs.declared.job.item.ItemAnswer.{ItemAnswer}
use Rattle.blocking_core.specs.declared.job.item.ItemAnswer.TheVariants as by
use Rattle.blocking_core.specs.contracts.job.item.ItemAction.{the_row}
use Rattle.blocking_pool.specs.declared.pool.job.JobStep.{JobStep}
use Rattle.blocking_pool.specs.declared.pool.job.JobStep.TheVariants as step

-- the job of an iterator: what it does next, its iterator until that is given back, the item in its
-- hand, how many it has sent, and whether its end said of one that it isn't sent
pub record ItemSeen (T I : Type 0) : Type 0 where
  pub core : Machine ItemAction
  pub iterator : Option T
  pub hand : Option I
  pub sent : ℕ
  pub is_unsent : Bool

abbrev pub item_code : {T I : Type 0} → Coded T → Coded I → Coded (ItemSeen T I)
item_code {T} {I} code item =
    code_by (ItemAction × (Bool × (Option T × (Option I × (ℕ × Bool)))))
    (coded× the_row.coded (coded× coded_bool
    (coded× (coded_option code) (coded× (coded_option item) (coded× coded_ℕ coded_bool)))))
    (λ seen. (
      seen.core.next,
      (seen.core.is_waking, (seen.iterator, (seen.hand, (seen.sent, seen.is_unsent)))),
    ))
    (λ parts. record {
      core = record { next = parts.0; is_waking = parts.1.0 };
      iterator = parts.1.1.0;
      hand = parts.1.1.1.0;
      sent = parts.1.1.1.1.0;
      is_unsent = parts.1.1.1.1.1;
    }) (λ _. refl)

-- this is an answer to that action
abbrev pub Answers : ItemAction → ItemAnswer → Type 0
Answers Next by.Gave = Unit {0}
Answers Next by.Ended = Unit {0}
Answers Send (by.Sent woke) = Unit {0}
Answers Send by.Parked = Unit {0}
Answers Send by.Shut = Unit {0}
Answers Close (by.Closed woke) = Unit {0}
Answers Finish (by.Finished woke) = Unit {0}
Answers Deliver by.Delivered = Unit {0}
Answers action answer = ⊥

-- what a step tells its worker: a job that was seated waits, one that has nothing more to do is
-- done, and else it goes on
abbrev pub told_by : ItemAnswer → ItemAction → JobStep
told_by by.Parked then = step.Waiting
told_by answer Done = step.Done
told_by answer then = step.Again

-- how many items an answer means to be sent
abbrev pub sent_by : ItemAnswer → ℕ
sent_by (by.Sent woke) = 1
sent_by answer = 0

module _ {T I : Type 0} where
  -- the iterator gave this item, or none at its end
  abbrev pub Gives : (T → Option I → T → Type 0) → Option T → Option I → Option T → Type 0
  Gives next_gives (Some old) item (Some new) = next_gives old item new
  Gives next_gives _ item _ = ⊥

  -- What becomes of the iterator and of the item in hand: what the iterator gave is in hand, and
  -- stays there until it is sent or the end says that it isn't; at the iterator's end none is in
  -- hand. Only a finish gives the iterator away.
  abbrev pub Hands : (T → Option I → T → Type 0) → ItemAnswer → ItemSeen T I → ItemSeen T I → Type 0
  Hands next_gives by.Gave old new =
      Gives next_gives old.iterator new.hand new.iterator × IsSome new.hand
  Hands next_gives by.Ended old new =
      Gives next_gives old.iterator None new.iterator × (new.hand ≡ None)
  Hands next_gives (by.Sent woke) old new = (new.iterator ≡ old.iterator) × (new.hand ≡ None)
  Hands next_gives by.Shut old new =
      (new.iterator ≡ old.iterator) × (new.hand ≡ None) × (new.is_unsent ≡ true)
  Hands next_gives (by.Finished woke) old new = (new.iterator ≡ None) × (new.hand ≡ old.hand)
  Hands next_gives answer old new = (new.iterator ≡ old.iterator) × (new.hand ≡ old.hand)

  -- the machine got one answer, to the action that was next, and what it says of the item is what
  -- became of it
  abbrev pub OneAnswer : (T → Option I → T → Type 0) → ItemAction → ItemSeen T I → ItemSeen T I
      → JobStep → Type 0
  OneAnswer next_gives action old new told =
      (answer : ItemAnswer) × (new.core ≡ item_after old.core answer) × Answers action answer
      × (new.sent ≡ old.sent + sent_by answer) × (told ≡ told_by answer (item_next new.core))
      × Hands next_gives answer old new

  -- What one step does: the machine gets one answer, to the action that was next; a job that is
  -- over does nothing.
  abbrev pub IsSteppedBy : (T → Option I → T → Type 0) → ItemAction → ItemSeen T I → ItemSeen T I
      → JobStep → Type 0
  IsSteppedBy next_gives Done old new told = (new ≡ old) × (told ≡ step.Done)
  IsSteppedBy next_gives action old new told = OneAnswer next_gives action old new told

  abbrev pub IsStepped : (T → Option I → T → Type 0) → ItemSeen T I → ItemSeen T I → JobStep
      → Type 0
  IsStepped next_gives old new told = IsSteppedBy next_gives (item_next old.core) old new told

-- The job has what its next action is about: its iterator until that is given back, and an item in
-- hand exactly where one is to be sent.
abbrev pub Fits : {T I : Type 0} → ItemAction → Option I → Option T → Type 0
Fits Next None (Some iterator) = Unit {0}
Fits Send (Some item) (Some iterator) = Unit {0}
Fits Close None (Some iterator) = Unit {0}
Fits Finish None (Some iterator) = Unit {0}
Fits Done None iterator = Unit {0}
Fits action hand iterator = ⊥

-- a job that has its handle to give back has closed its end of the pipe
abbrev pub HasClosed : {C : Type 0} → ItemAction → Option C → Type 0
HasClosed Finish closed = IsSome closed
HasClosed action closed = Unit {0}
