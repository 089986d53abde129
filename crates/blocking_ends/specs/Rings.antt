-- What stands beside an item ring, and what a look at one means.
use Rattle.std.specs.Prelude.{◌≡◌, ℕ, ⊤, Option, Some, None, Result, Ok, Err, refl}
use Rattle.std.specs.Coded.{Coded, code_by, coded×, coded_ℕ, coded_option}
use Rattle.blocking_pool.specs.Jobs.{JobNumber}
use Rattle.blocking_core.specs.Pipes.{job_number_code}
use Rattle.blocking_core.specs.declared.pipe.Received.{Received}
use Rattle.blocking_ends.specs.Answers.{got_by_receive}
use Rattle.blocking_ends.specs.declared.ring.item_send_end.ItemSending.{ItemSending}
use Rattle.blocking_ends.specs.declared.ring.item_send_end.ItemSending.TheVariants as sending
use Rattle.blocking_ends.specs.declared.ring.item_send_end.WhyUnsent.TheVariants as why
use Rattle.blocking_ends.specs.declared.ring.kept.Told.{Told}
use Rattle.blocking_ends.specs.declared.ring.kept.Told.TheVariants as told
use Rattle.blocking_ends.specs.declared.ring.shared.Again.{Again}
use Rattle.blocking_ends.specs.declared.ring.shared.Again.TheVariants as again
use Rattle.blocking_ends.specs.declared.ring.shared.Asked.{Asked}
use Rattle.blocking_ends.specs.declared.ring.shared.Asked.TheVariants as asked

-- the seats of the owner and of the job, and after how many items the job closed its end, once it
-- did
pub record Kept (W : Type 0) : Type 0 where
  pub owner : Option W
  pub job : Option JobNumber
  pub end : Option ℕ

abbrev pub kept_code : {W : Type 0} → Coded W → Coded (Kept W)
kept_code {W} waker =
    code_by (Option W × (Option JobNumber × Option ℕ))
    (coded× (coded_option waker) (coded× (coded_option job_number_code) (coded_option coded_ℕ)))
    (λ seen. (seen.owner, (seen.job, seen.end)))
    (λ parts. record { owner = parts.0; job = parts.1.0; end = parts.1.1 }) (λ _. refl)

-- what holds where the end was told and all was received
abbrev pub IfEnd : Told → Type 0 → Type 0
IfEnd told.Nothing P = ⊤
IfEnd told.More P = ⊤
IfEnd (told.End seen) P = P

-- what is told to who has received so many, by where the items end
abbrev pub IsTold : Option ℕ → ℕ → Told → Type 0
IsTold None received told.Nothing = ⊤
IsTold (Some all) received told.More = all ≡ received → ⊥
IsTold (Some all) received (told.End seen) = all ≡ received
IsTold end received answer = ⊥

-- what holds where an owner was told the end, whatever it looked by
abbrev pub IfAsked : {S : Type 0} → Asked S → Type 0 → Type 0
IfAsked (asked.Nothing by) P = ⊤
IfAsked (asked.More by) P = ⊤
IfAsked (asked.End seen) P = P

-- what holds where a seated job found room
abbrev pub IfRoom : Again → Type 0 → Type 0
IfRoom (again.Seated stays) P = ⊤
IfRoom again.Room P = P
IfRoom (again.Shut seen) P = ⊤

module _ {X : Type 0} where
  -- how many items a look has got
  abbrev pub got_by_look : {S : Type 0} → Result (Received X) S → ℕ
  got_by_look (Ok answer) = got_by_receive answer
  got_by_look (Err by) = 0

  -- how many items a send has sent
  abbrev pub sent_by_send : ItemSending X → ℕ
  sent_by_send (sending.Sent waker) = 1
  sent_by_send (sending.Parked item seat) = 0
  sent_by_send (sending.Unsent item reason) = 0

  -- an item that isn't sent comes back
  abbrev pub ComesBack : X → ItemSending X → Type 0
  ComesBack item (sending.Sent waker) = ⊤
  ComesBack item (sending.Parked back seat) = back ≡ item
  ComesBack item (sending.Unsent back reason) = back ≡ item

  -- what holds where no further item has a number
  abbrev pub IfNumbersEnd : ItemSending X → Type 0 → Type 0
  IfNumbersEnd (sending.Unsent item why.NumbersEnd) P = P
  IfNumbersEnd answer P = ⊤
