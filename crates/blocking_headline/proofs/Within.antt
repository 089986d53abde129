-- No start passes the limit.
use Rattle.std.proofs.Common.{◌≡◌, ℕ, zero, suc, ◌+◌, ◌<◌, ◌≤◌, Bool, true, false}
use Rattle.std.proofs.Common.{nat_lt, List, ◌∷◌, arith}
use Rattle.std.proofs.lemmas.Bool.{ltb-true}
use Rattle.blocking_pool.specs.Growth.{is_due}
use Rattle.blocking_world_laws.specs.Counts.{workers, limit}
use Rattle.blocking_world_laws.specs.Growth.{StartsRightly, grows}
use Rattle.blocking_world_laws.specs.Legal.{Legal}
use Rattle.blocking_world_laws.specs.declared.event.Moment.{Moment}
use Rattle.blocking_headline.proofs.Bools.{then_so}

below : (n : ℕ) (workers limit ready idle : ℕ) → 0 < n
    → ((m : ℕ) → m < n → is_due ready idle workers limit m ≡ true) → workers + n ≤ limit
below zero w l r i some due = absurd (omega (arith, some))
below (suc n) w l r i some due =
    let last = due n (omega arith) in
    let less = ltb-true (w + n) l (then_so _ (nat_lt (w + n) l) last) in omega (arith, less)

within_by : (b : Bool) (setting : ℕ) (plan : List Bool) (past : List Moment) (now : Moment)
    → StartsRightly b setting plan past now → 0 < now.event.started
    → workers past + now.event.started ≤ limit setting past
within_by false setting plan past now starts some = absurd (let none = starts.0 in omega (arith, some, none))
within_by true setting plan past now starts some = below now.event.started (workers past)
    (limit setting past) _ _ some (λ m less. (starts.each m less).0)

pub within : (setting : ℕ) (plan : List Bool) (past : List Moment) (now : Moment)
    → Legal setting plan (now ∷ past) → 0 < now.event.started
    → workers past + now.event.started ≤ limit setting past
within setting plan past now legal some =
    within_by (grows past now.event.act) setting plan past now legal.pool.0.growth.starting some
