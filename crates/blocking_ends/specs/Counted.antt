-- What contracts see of a pipe that counts, and what it keeps of its place rule.
use Rattle.std.specs.Prelude.{◌≡◌, ℕ, ◌+◌, max, Bool, false, List, length, Option, refl}
use Rattle.std.specs.Coded.{Coded, code_by, coded×, coded_ℕ, coded_list, coded_option}
use Rattle.blocking_ends.specs.Rules.{HoldFrom}
use Rattle.blocking_ends.specs.declared.locked.tally.Closed.{Closed}
use Rattle.blocking_ends.specs.contracts.locked.tally.Closed.{the_row}

-- a pipe, and how many items were sent into it since it was made, and how many its other side took
-- or let go; what an owner is lent counts as taken
pub record Counted (P : Type 0) : Type 0 where
  pub pipe : P
  pub sent : ℕ
  pub received : ℕ

abbrev pub counted_code : {P : Type 0} → Coded P → Coded (Counted P)
counted_code {P} pipe =
    code_by (P × (ℕ × ℕ)) (coded× pipe (coded× coded_ℕ coded_ℕ))
    (λ seen. (seen.pipe, (seen.sent, seen.received)))
    (λ parts. record { pipe = parts.0; sent = parts.1.0; received = parts.1.1 }) (λ _. refl)

-- an end that looks at items before it lets them go: how many it let go, those that it was lent and
-- has in its hand, and how many of those that it looked at last it still may let go, and that it
-- was closed, once it was
pub record Peeking (X : Type 0) : Type 0 where
  pub received : ℕ
  pub shown : List X
  pub peeked : ℕ
  pub closed : Option Closed

abbrev pub peeking_code : {X : Type 0} → Coded X → Coded (Peeking X)
peeking_code {X} item =
    code_by (ℕ × (List X × (ℕ × Option Closed)))
    (coded× coded_ℕ (coded× (coded_list item) (coded× coded_ℕ (coded_option the_row.coded))))
    (λ seen. (seen.received, (seen.shown, (seen.peeked, seen.closed))))
    (λ parts. record {
      received = parts.0;
      shown = parts.1.0;
      peeked = parts.1.1.0;
      closed = parts.1.1.1;
    }) (λ _. refl)

-- how many items it may let go: what it was lent, or what it looked at
abbrev pub may_consume : {X : Type 0} → Peeking X → ℕ
may_consume seen = max (length seen.shown) seen.peeked

-- a hand: how many items were let go, and those that it was lent and didn't let go yet
pub record InHand (X : Type 0) : Type 0 where
  pub received : ℕ
  pub left : List X

abbrev pub in_hand_code : {X : Type 0} → Coded X → Coded (InHand X)
in_hand_code {X} item =
    code_by (ℕ × List X) (coded× coded_ℕ (coded_list item)) (λ seen. (seen.received, seen.left))
    (λ parts. record { received = parts.0; left = parts.1 })
    (λ _. refl)

-- What a pipe keeps of a rule: what was sent was received, or is lent, or stands in it; each item
-- that stands in it holds at its place; and where the sender's end is closed the number that was
-- sent is one at which it may end. (What is lent counts as received here.)
pub record IsKept {X : Type 0} (holds : ℕ → X → Type 0) (ended : ℕ → Type 0) (items : List X)
    (sent received : ℕ) (is_open : Bool) : Type 0 where
  pub count : sent ≡ received + length items
  pub each : HoldFrom holds received items
  pub whole : is_open ≡ false → ended sent
