-- What a pipe that counts keeps of its place rule, call by call.
use Rattle.std.proofs.Common.{◌≡◌, ◌⊎◌, ℕ, ◌+◌, ◌-◌, ◌<◌, ◌≤◌, ◌==◌, if◌then◌else◌, min, Bool, true}
use Rattle.std.proofs.Common.{false, List, [], ◌∷◌, ◌++◌, length, take, drop, get_or, slice_get}
use Rattle.std.proofs.Common.{refl, sym, ap, ◌∙◌, subst, inl, inr, arith, Option, Some, None}
use Rattle.std.proofs.lemmas.List.{drop_all, length-append, length-take, length-take-le}
use Rattle.std.proofs.lemmas.List.{length-drop, take_at}
use Rattle.std.proofs.lemmas.Option.{slice_get_within, slice_get_cases}
use Rattle.circular_buffer.proofs.Places.{below_or_not, slice_get-append_left}
use Rattle.circular_buffer.proofs.Places.{slice_get-append_right, slice_get-drop, slice_get-take}
use Rattle.blocking_core.specs.Pipes.{Pipe, room}
use Rattle.blocking_core.specs.Places.{Met, Served, Waiting, receive, fill}
use Rattle.blocking_core.specs.PipeAnswers.{Puts, Drains, Receives, Fetches, Fills, Lends, let_go}
use Rattle.blocking_core.specs.PipeAnswers.{front_lent}
use Rattle.blocking_core.specs.declared.pipe.Put.{Put}
use Rattle.blocking_core.specs.declared.pipe.Put.TheVariants as putting
use Rattle.blocking_core.specs.declared.pipe.Drained.{Drained}
use Rattle.blocking_core.specs.declared.pipe.Drained.TheVariants as draining
use Rattle.blocking_core.specs.declared.pipe.Fetched.{Fetched}
use Rattle.blocking_core.specs.declared.pipe.Fetched.TheVariants as fetching
use Rattle.blocking_core.specs.declared.pipe.Received.{Received}
use Rattle.blocking_core.specs.declared.pipe.Received.TheVariants as receiving
use Rattle.blocking_core.specs.declared.pipe.Filled.{Filled}
use Rattle.blocking_core.specs.declared.pipe.Filled.TheVariants as filling
use Rattle.blocking_core.specs.declared.pipe.Peeked.{Peeked}
use Rattle.blocking_core.specs.declared.pipe.Peeked.TheVariants as peeking
use Rattle.blocking_pool.specs.Jobs.{JobNumber}
use Rattle.blocking_pool.specs.declared.pool.token.WakeNote.{WakeNote}
use Rattle.blocking_ends.specs.Answers.{IfReceived, IfTook, OnFetched, got_by_drain}
use Rattle.blocking_ends.specs.Counted.{IsKept}
use Rattle.blocking_ends.specs.Rules.{HoldFrom}

module _ {X : Type 0} (holds : ℕ → X → Type 0) where
  -- the first items hold where all do
  pub hold_front : (n count : ℕ) (items : List X) → HoldFrom holds n items
      → HoldFrom holds n (take count items)
  hold_front n count items held i x at =
      let within : i < length (take count items) = slice_get_within (take count items) i x at in
      let front = length-take count items in
      held i x (sym (slice_get-take count items i (omega (arith, within, front))) ∙ at)

  -- none hold from anywhere
  pub hold_none : (n : ℕ) (items : List X) → HoldFrom holds n (take 0 items)
  hold_none n items i x at =
      let within : i < length (take 0 items) = slice_get_within (take 0 items) i x at in
      let none = length-take 0 items in
      absurd (omega (arith, within, none))

  -- and the others, from their own first place on
  pub hold_rest : (n count : ℕ) (items : List X) → HoldFrom holds n items
      → HoldFrom holds (n + count) (drop count items)
  hold_rest n count items held i x at =
      let here : n + (count + i) ≡ n + count + i = omega arith in
      subst (λ place. holds place x) here
      (held (count + i) x (sym (slice_get-drop count items i (count + i) refl) ∙ at))

  -- of those that are left some more go
  pub hold_more : (n m consumed count : ℕ) (items : List X) → m ≡ n + count
      → HoldFrom holds n (drop consumed items) → HoldFrom holds m (drop (consumed + count) items)
  hold_more n m consumed count items is held i x at =
      let place : n + (count + i) ≡ m + i = omega (arith, is) in
      let there =
      slice_get-drop (consumed + count) items i (consumed + (count + i)) (omega arith) in
      let here = slice_get-drop consumed items (count + i) (consumed + (count + i)) refl in
      subst (λ k. holds k x) place (held (count + i) x (here ∙ sym there ∙ at))

  -- or all of them
  pub hold_after : (n m consumed count : ℕ) (items : List X) → m ≡ n + count
      → HoldFrom holds n (drop consumed items)
      → HoldFrom holds m (drop (consumed + min count (length (drop consumed items))) items)
  hold_after n m consumed count items is held =
      elim (below_or_not (length (drop consumed items)) count) [
        | inl past ↦
            let left = length-drop consumed items in
            let none : drop (consumed + min count (length (drop consumed items))) items ≡ [] =
            drop_all (consumed + min count (length (drop consumed items))) items
            (omega (arith, left, past))
            in
            subst (λ rest. HoldFrom holds m rest) (sym none) (hold_none m [])
        | inr inside ↦
            let some : count ≡ min count (length (drop consumed items)) = omega (arith, inside) in
            subst (λ k. HoldFrom holds m (drop (consumed + k) items)) some
            (hold_more n m consumed count items is held)
      ]

  -- items that join at the end hold from there on
  pub hold_joined : (n m : ℕ) (items more : List X) → m ≡ n + length items → HoldFrom holds n items
      → HoldFrom holds m more → HoldFrom holds n (items ++ more)
  hold_joined n m items more is held also i x at = by (slice_get_cases items i).1 where
    by : ((y : X) × (i < length items) × (slice_get items i ≡ Some y) × (get_or items i y ≡ y))
        ⊎ ((length items ≤ i) × (slice_get items i ≡ None)) → holds (n + i) x
    by (inl inside) = held i x (sym (slice_get-append_left items more i inside.1) ∙ at)
    by (inr past) =
        let from : i ≡ length items + (i - length items) = omega (arith, past.0) in
        let here : m + (i - length items) ≡ n + i = omega (arith, is, past.0) in
        subst (λ place. holds place x) here (also (i - length items) x
        (sym (slice_get-append_right items more i (i - length items) from) ∙ at))

  -- the first items that were copied before others hold where all do
  pub hold_copied : (n count : ℕ) (items others : List X) → count ≤ length items
      → HoldFrom holds n items
      → HoldFrom holds n (take count (take count items ++ drop count others))
  hold_copied n count items others some held =
      let front : take count (take count items ++ drop count others) ≡ take count items =
      take_at (take count items) (drop count others) count (length-take-le count items some)
      in
      subst (λ all. HoldFrom holds n all) (sym front) (hold_front n count items held)

  -- as they stand where they were copied to
  pub hold_moved : (n count : ℕ) (items copied others : List X) → copied ≡ take count items
      → count ≤ length items → HoldFrom holds n items
      → HoldFrom holds n (take count (copied ++ drop count others))
  hold_moved n count items copied others is some held =
      subst (λ front. HoldFrom holds n (take count (front ++ drop count others))) (sym is)
      (hold_copied n count items others some held)

-- an item that is received was the first one inside
first_received : {X N : Type 0} (items : List X) (is_open : Bool)
    (seat of_job : Option N) (item : X) → receive items is_open seat ≡ Served (item, of_job)
    → (0 < length items) × (slice_get items 0 ≡ Some item)
first_received [] true seat of_job item e = absurd cc
first_received [] false seat of_job item e = absurd cc
first_received {X} {N} (x ∷ xs) is_open seat of_job item e =
    let pair : ◌≡◌ {A = X × Option N} (x, seat) (item, of_job) = cc in
    let same : x ≡ item = ap (λ p. p.0) pair in
    (omega arith, subst (λ y. slice_get (x ∷ xs) 0 ≡ Some y) same refl)

filled_by : {N : Type 0} (b : Bool) (n free count : ℕ) (seat of_job : Option N)
    → (if◌then◌else◌ {A = Met (ℕ × Option N)} b Waiting (Served (min n free, seat)))
    ≡ Served (count, of_job) → count ≤ n
filled_by true n free count seat of_job e = absurd cc
filled_by {N} false n free count seat of_job e =
    let pair : ◌≡◌ {A = ℕ × Option N} (min n free, seat) (count, of_job) = cc in
    let same : min n free ≡ count = ap (λ p. p.0) pair in
    omega (arith, same)

-- a fill takes no more than was given
filled_within : {N : Type 0} (n free count : ℕ) (is_open : Bool) (seat of_job : Option N)
    → fill n free is_open seat ≡ Served (count, of_job) → count ≤ n
filled_within n free count false seat of_job e = absurd cc
filled_within n free count true seat of_job e = filled_by (free == 0) n free count seat of_job e

module _ {X : Type 0} (holds : ℕ → X → Type 0) (ended : ℕ → Type 0) where
  -- the first items leave
  pub left_kept : (items : List X) (sent received count : ℕ) (is_open : Bool) → count ≤ length items
      → IsKept holds ended items sent received is_open
      → IsKept holds ended (drop count items) sent (received + count) is_open
  left_kept items sent received count is_open some kept =
      record {
        count = (let rest = length-drop count items in omega (arith, some, rest, kept.count));
        each = hold_rest holds received count items kept.each;
        whole = kept.whole;
      }

  -- items join, while the sender's end is open
  pub joined_kept : (items more : List X) (sent received : ℕ) (is_open : Bool) → is_open ≡ true
      → HoldFrom holds sent more
      → IsKept holds ended items sent received is_open
      → IsKept holds ended (items ++ more) (sent + length more) received is_open
  joined_kept items more sent received is_open lasts also kept =
      record {
        count = (let all = length-append items more in omega (arith, all, kept.count));
        each = hold_joined holds received sent items more kept.count kept.each also;
        whole = λ shut. absurd cc;
      }

  module _ {W : Type 0} where
    -- an item was received
    pub received_kept : (old new : Pipe X W) (waker : W) (answer : Received X) (spare : Option W)
        (item : X) (of_job : Option WakeNote) (sent received : ℕ)
        → answer ≡ receiving.Got item of_job → Receives old waker answer spare new
        → IsKept holds ended old.items sent received old.is_job_open
        → IsKept holds ended new.items sent (received + 1) new.is_job_open
    received_kept old new waker answer spare item of_job sent received is receives kept =
        let one : Receives old waker (receiving.Got item of_job) spare new =
        subst (λ a. Receives old waker a spare new) is receives in
        subst (λ p. IsKept holds ended p.items sent (received + 1) p.is_job_open) (sym one.1)
        (left_kept old.items sent received 1 old.is_job_open (let some = (first_received old.items
        old.is_job_open old.job_seat of_job item one.0).0 in omega (arith, some)) kept)

    -- what was received holds at its place
    pub received_held : (old new : Pipe X W) (waker : W) (answer : Received X) (spare : Option W)
        (sent received : ℕ)
        → IsKept holds ended old.items sent received old.is_job_open
        → Receives old waker answer spare new → IfReceived answer (holds received)
    received_held old new waker (receiving.Got item of_job) spare sent received kept receives =
        let here : received + 0 ≡ received = omega arith in
        subst (λ place. holds place item) here (kept.each 0 item
        (first_received old.items old.is_job_open old.job_seat of_job item receives.0).1)
    received_held old new waker receiving.Ended spare sent received kept receives = tt
    received_held old new waker (receiving.Waits seat) spare sent received kept receives = tt

    -- items were drained
    pub drained_kept : (old new : Pipe X W) (waker : W) (out got : List X) (answer : Drained)
        (spare : Option W) (count : ℕ) (of_job : Option WakeNote) (sent received : ℕ)
        → answer ≡ draining.Got count of_job → Drains old waker out answer spare new got
        → IsKept holds ended old.items sent received old.is_job_open
        → IsKept holds ended new.items sent (received + count) new.is_job_open
    drained_kept old new waker out got answer spare count of_job sent received is drains kept =
        let one : Drains old waker out (draining.Got count of_job) spare new got =
        subst (λ a. Drains old waker out a spare new got) is drains in
        let least = one.2 in
        subst (λ p. IsKept holds ended p.items sent (received + count) p.is_job_open) (sym one.3)
        (left_kept old.items sent received count old.is_job_open (omega (arith, least)) kept)

    -- what was drained holds at its places
    pub drained_held : (old new : Pipe X W) (waker : W) (out got : List X) (answer : Drained)
        (spare : Option W) (sent received : ℕ)
        → IsKept holds ended old.items sent received old.is_job_open
        → Drains old waker out answer spare new got
        → HoldFrom holds received (take (got_by_drain answer) got)
    drained_held old new waker out got (draining.Got count of_job) spare sent received kept drains =
        let least = drains.2 in
        subst (λ all. HoldFrom holds received (take count all)) (sym drains.4)
        (hold_copied holds received count old.items out (omega (arith, least)) kept.each)
    drained_held old new waker out got draining.Ended spare sent received kept drains =
        hold_none holds received got
    drained_held old new waker out got (draining.Waits seat) spare sent received kept drains =
        hold_none holds received got

    -- items were fetched
    pub fetched_kept : (old new : Pipe X W) (count sent received : ℕ) → new ≡ front_lent old count
        → count ≤ length old.items
        → IsKept holds ended old.items sent received old.is_job_open
        → IsKept holds ended new.items sent (received + count) new.is_job_open
    fetched_kept old new count sent received after some kept =
        subst (λ p. IsKept holds ended p.items sent (received + count) p.is_job_open) (sym after)
        (left_kept old.items sent received count old.is_job_open some kept)

    pub fetch_kept : (old new : Pipe X W) (waker : W) (most : ℕ) (answer : Fetched)
        (spare : Option W) (piece : List X) (count sent received : ℕ)
        → answer ≡ fetching.Got count → Fetches old waker most answer spare piece new
        → IsKept holds ended old.items sent received old.is_job_open
        → IsKept holds ended new.items sent (received + count) new.is_job_open
    fetch_kept old new waker most answer spare piece count sent received is fetches kept =
        let one : Fetches old waker most (fetching.Got count) spare piece new =
        subst (λ a. Fetches old waker most a spare piece new) is fetches in
        fetched_kept old new count sent received one.3 (omega (arith, one.1)) kept

    -- what was fetched holds at its places
    pub fetch_held : (old new : Pipe X W) (waker : W) (most : ℕ) (answer : Fetched)
        (spare : Option W) (piece : List X) (sent received : ℕ)
        → IsKept holds ended old.items sent received old.is_job_open
        → Fetches old waker most answer spare piece new
        → OnFetched answer (HoldFrom holds received piece)
    fetch_held old new waker most (fetching.Got n) spare piece sent received kept fetches =
        subst (λ all. HoldFrom holds received all) (sym fetches.2)
        (hold_front holds received n old.items kept.each)
    fetch_held old new waker most fetching.Ended spare piece sent received kept fetches = tt
    fetch_held old new waker most (fetching.Waits seat) spare piece sent received kept fetches = tt

    -- items were put, by a job whose end is open
    pub put_kept : (old new : Pipe X W) (given : List X) (answer : Put W) (waker : Option W)
        (sent after received : ℕ)
        → answer ≡ putting.In waker → Puts old given answer new → after ≡ sent + length given
        → old.is_job_open ≡ true → HoldFrom holds sent given
        → IsKept holds ended old.items sent received old.is_job_open
        → IsKept holds ended new.items after received new.is_job_open
    put_kept old new given answer waker sent after received is puts more lasts held kept =
        let one : Puts old given (putting.In waker) new =
        subst (λ a. Puts old given a new) is puts in
        subst (λ p. IsKept holds ended p.items after received p.is_job_open) (sym one.1)
        (subst (λ n. IsKept holds ended (old.items ++ given) n received old.is_job_open) (sym more)
        (joined_kept old.items given sent received old.is_job_open lasts held kept))

    -- items were let go, of those that were lent and then of those inside
    pub consumed_kept : (old new : Pipe X W) (count sent received : ℕ) → new ≡ let_go old count
        → count ≤ old.lent + length old.items
        → IsKept holds ended old.items sent (received + old.lent) old.is_owner_open
        → IsKept holds ended new.items sent (received + count + new.lent) new.is_owner_open
    consumed_kept old new count sent received after some kept =
        let place : received + old.lent + (count - old.lent)
        ≡ received + count + (old.lent - count) = omega arith in
        subst (λ p. IsKept holds ended p.items sent (received + count + p.lent) p.is_owner_open)
        (sym after)
        (subst (λ n. IsKept holds ended (drop (count - old.lent) old.items) sent n
        old.is_owner_open) place
        (left_kept old.items sent (received + old.lent) (count - old.lent) old.is_owner_open
        (omega (arith, some)) kept))

    -- items were filled in, by an owner whose end is open
    pub filled_kept : (old new : Pipe X W) (waker : W) (given : List X) (answer : Filled)
        (spare : Option W) (count : ℕ) (of_job : Option WakeNote) (sent received : ℕ)
        → answer ≡ filling.Took count of_job → Fills old waker given answer spare new
        → old.is_owner_open ≡ true → HoldFrom holds sent given
        → IsKept holds ended old.items sent (received + old.lent) old.is_owner_open
        → IsKept holds ended new.items (sent + count) (received + new.lent) new.is_owner_open
    filled_kept old new waker given answer spare count of_job sent received is fills lasts held
        kept =
        let one : Fills old waker given (filling.Took count of_job) spare new =
        subst (λ a. Fills old waker given a spare new) is fills in
        let taken : length (take count given) ≡ count =
        length-take-le count given (filled_within (length given) (room old) count old.is_job_open
        old.job_seat of_job one.0) in
        subst (λ p. IsKept holds ended p.items (sent + count) (received + p.lent) p.is_owner_open)
        (sym one.2)
        (subst (λ n. IsKept holds ended (old.items ++ take count given) (sent + n)
        (received + old.lent) old.is_owner_open) taken
        (joined_kept old.items (take count given) sent (received + old.lent) old.is_owner_open lasts
        (hold_front holds sent count given held) kept))

    -- the front was lent
    pub lent_kept : (old new : Pipe X W) (me : JobNumber) (most : ℕ) (answer : Peeked)
        (piece : List X) (sent received : ℕ)
        → Lends old me most answer piece new
        → IsKept holds ended old.items sent (received + old.lent) old.is_owner_open
        → IsKept holds ended new.items sent (received + new.lent) new.is_owner_open
    lent_kept old new me most (peeking.Some n) piece sent received lends kept =
        let place : received + old.lent + n ≡ received + (old.lent + n) = omega arith in
        subst (λ p. IsKept holds ended p.items sent (received + p.lent) p.is_owner_open)
        (sym lends.3)
        (subst (λ m. IsKept holds ended (drop n old.items) sent m old.is_owner_open) place
        (left_kept old.items sent (received + old.lent) n old.is_owner_open (omega (arith, lends.1))
        kept))
    lent_kept old new me most peeking.Parked piece sent received lends kept =
        subst (λ p. IsKept holds ended p.items sent (received + p.lent) p.is_owner_open)
        (sym lends.2) kept
    lent_kept old new me most peeking.Drained piece sent received lends kept =
        subst (λ p. IsKept holds ended p.items sent (received + p.lent) p.is_owner_open)
        (sym lends.2) kept

module _ {X W : Type 0} where
  -- a fill takes some of what was given
  pub filled_some : (old new : Pipe X W) (waker : W) (given : List X) (answer : Filled)
      (spare : Option W) → Fills old waker given answer spare new
      → IfTook answer (λ n. (0 < n) × (n ≤ length given))
  filled_some old new waker given (filling.Took count of_job) spare fills = (
    fills.1,
    filled_within (length given) (room old) count old.is_job_open old.job_seat of_job
        fills.0,
  )
  filled_some old new waker given filling.Shut spare fills = tt
  filled_some old new waker given (filling.Waits seat) spare fills = tt
