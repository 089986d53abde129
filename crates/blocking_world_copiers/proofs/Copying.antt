-- How a copier goes on: by what its owners do.
use Rattle.std.proofs.Common.{◌≡◌, ◌⊎◌, ⊎_elim, inl, inr, ℕ, zero, suc, ◌+◌, ◌-◌, ◌<◌, ◌≤◌, ◌^◌}
use Rattle.std.proofs.Common.{min, nat_lt, nat_le, if◌then◌else◌, ◌||◌, List, [], ◌∷◌, ◌++◌, length}
use Rattle.std.proofs.Common.{take, drop, Bool, true, false, refl, sym, ap, ◌∙◌, subst, Option}
use Rattle.std.proofs.Common.{Some, None, arith, append-nil, append_assoc}
use Rattle.std.proofs.lemmas.Bool.Decides.{nat_tests}
use Rattle.std.proofs.lemmas.List.{length-take, length-drop, drop-drop, take-append-drop}
use Rattle.std.proofs.lemmas.List.{length-append, length-take-le}
use Rattle.blocking_core.specs.Copying.{end_of_copy}
use Rattle.blocking_core.specs.declared.copy.CopyAction.{CopyAction}
use Rattle.blocking_core.specs.declared.copy.CopyAction.TheVariants as action
use Rattle.blocking_core.specs.declared.copy.CopyEnd.TheVariants as end
use Rattle.blocking_world_laws.specs.Copies.{CopierAction, AskReader, AskWriter, Tells, NoReply}
use Rattle.blocking_world_laws.specs.Copies.{HasReplied, all_got, all_accepted, is_short, is_write}
use Rattle.blocking_world_laws.specs.Copies.{outcome, once_more, after_reply, write_on}
use Rattle.blocking_world_laws.specs.Copies.{ends_flushed}
use Rattle.blocking_world_laws.specs.declared.event.Act.TheVariants.{Copied}
use Rattle.blocking_world_copiers.specs.Copiers.{CopierState, between, heard, next_by, as_action}
use Rattle.blocking_world_copiers.specs.Ties.{got_now, filled_now, IsOpen, StandsBy, next_from}
use Rattle.blocking_world_copiers.specs.Ties.{IsAsking, CopierBy, CopierOf}
use Rattle.blocking_world_copiers.proofs.Words.{Act, Made, Asked, Got, Filled, Replied, Waits}
use Rattle.blocking_world_copiers.proofs.Words.{HolderDropped, data_of, HandleCall, Read, Write}
use Rattle.blocking_world_copiers.proofs.Words.{Flush, Reply, Count, Okay, Failed, call, under_way}
use Rattle.blocking_world_copiers.proofs.Polls.{StepAs, ReadReply, WriteReply, IsCopiers}
use Rattle.blocking_world_copiers.proofs.Polls.{under_way_call}

-- ---- owners stay open

pub open_asked : (acts : List Act) (asked : HandleCall) → IsCopiers asked → IsOpen acts
    → IsOpen (Asked asked ∷ acts)
open_asked acts asked its o = grind arith

pub open_replied : (acts : List Act) (asked : HandleCall) (reply : Reply) → IsCopiers asked
    → call acts ≡ Some asked → IsOpen acts → IsOpen (Replied reply ∷ acts)
open_replied acts asked reply its called o = grind arith

-- an act that neither makes, asks nor drops an owner, and is no reply
abbrev IsStill : Act → Type 0
IsStill (Made h capacity) = ⊥
IsStill (Asked asked) = ⊥
IsStill (Replied reply) = ⊥
IsStill HolderDropped = ⊥
IsStill act = Unit {0}

-- Over such an act an owner stays open.
open_still : (acts : List Act) (act : Act) → IsStill act → IsOpen acts → IsOpen (act ∷ acts)
open_still acts act still o = grind arith

-- ---- what is asked, and what is next

-- no call is under way twice
pub none_asked : {o : Option HandleCall} {asked : HandleCall} → o ≡ None → o ≡ Some asked → ⊥
none_asked none some = let both = sym none ∙ some in cc

-- where no poll is under way nothing is asked once more
pub none_asking : {reader writer polls since : List Act} → under_way reader ≡ None
    → under_way writer ≡ None → IsAsking reader writer polls since
none_asking read wrote = record {
  reading = λ asked is. absurd (none_asked read is);
  writing = λ asked is. absurd (none_asked wrote is);
}

-- a call without a reply is next once more
asked_next : (size : ℕ) (pa pb p : List Act) (asked : HandleCall) → outcome p ≡ NoReply
    → call p ≡ Some asked → once_more (Some asked) size ≡ next_from size pa pb p (outcome p)
asked_next size pa pb p asked none called =
    sym (ap (next_from size pa pb p) none ∙ ap (λ o. once_more o size) called)

-- what is next after a reply to this call
abbrev after : ℕ → List Act → List Act → Option HandleCall → Reply → CopierAction
after size pa pb asked reply = after_reply size (drop (length (all_accepted pb)) (all_got pa))
    (length (all_accepted pb)) (is_short pb) asked reply

replied_next : (size : ℕ) (pa pb p : List Act) (asked : HandleCall) (reply : Reply)
    → call p ≡ Some asked
    → after size pa pb (Some asked) reply ≡ next_from size pa pb p (HasReplied reply)
replied_next size pa pb p asked reply called = sym (ap (λ o. after size pa pb o reply) called)

-- nothing is put behind
behind_none : (xs ys : List ℕ) → ys ≡ [] → xs ++ ys ≡ xs
behind_none xs ys none = ap (λ l. xs ++ l) none ∙ append-nil xs

-- ---- pieces

whole_piece : (n : ℕ) (piece : List ℕ) → length piece ≡ n → between 0 n piece ≡ piece
whole_piece n piece many =
    ap (λ k. take k piece) (let e : n - 0 ≡ length piece = omega (arith, many) in e)
    ∙ take_whole piece
  where
    take_whole : (xs : List ℕ) → take (length xs) xs ≡ xs
    take_whole [] = refl
    take_whole (x ∷ xs) = ap (λ l. x ∷ l) (take_whole xs)

drop_front : (before rest : List ℕ) → drop (length before) (before ++ rest) ≡ rest
drop_front [] rest = refl
drop_front (x ∷ before) rest = drop_front before rest

abbrev nothing : List ℕ
nothing = []

take_none : (m : ℕ) → nothing ≡ take m nothing
take_none zero = refl
take_none (suc m) = refl

drop_taken : (k n : ℕ) (xs : List ℕ) → drop k (take n xs) ≡ take (n - k) (drop k xs)
drop_taken zero n xs = ap (λ m. take m xs) (let e : n ≡ n - 0 = omega arith in e)
drop_taken (suc k) zero xs =
    ap (λ m. take m (drop (suc k) xs)) (let e : 0 ≡ 0 - suc k = omega arith in e)
drop_taken (suc k) (suc n) [] = take_none (suc n - suc k)
drop_taken (suc k) (suc n) (x ∷ xs) = drop_taken k n xs
    ∙ ap (λ m. take m (drop k xs)) (let e : n - k ≡ suc n - suc k = omega arith in e)

-- the pieces of a write: what it took, and the rest
split_piece : (from to k : ℕ) (piece : List ℕ)
    → between from to piece ≡ take k (between from to piece) ++ between (from + k) to piece
split_piece from to k piece =
    sym (take-append-drop k (between from to piece))
    ∙ ap (λ l. take k (between from to piece) ++ l)
    (drop_taken k (to - from) (drop from piece) ∙ ap (λ n. take n (drop k (drop from piece)))
    (let e : to - from - k ≡ to - (from + k) = omega arith in e)
    ∙ ap (take (to - (from + k))) (drop-drop k from piece))

many_between : (from to : ℕ) (piece : List ℕ) → to ≤ length piece
    → length (between from to piece) ≡ to - from
many_between from to piece within = grind (arith, length-take, length-drop)

none_left : (bytes : List ℕ) → length bytes ≡ 0 → bytes ≡ []
none_left [] none = refl
none_left (x ∷ bytes) none = absurd (omega (arith, none))

write_some : (bytes : List ℕ) (size : ℕ) → 0 < length bytes
    → write_on bytes size ≡ AskWriter (Write bytes)
write_some bytes size some = grind arith

write_none : (bytes : List ℕ) (size : ℕ) → length bytes ≡ 0
    → write_on bytes size ≡ AskReader (Read size)
write_none bytes size none = grind arith

count_more : (n k : ℕ) → min (min n (2 ^ 64 - 1) + k) (2 ^ 64 - 1) ≡ min (n + k) (2 ^ 64 - 1)
count_more n k = grind (arith, nat_tests)

-- what was read and isn't written yet
rest_is : (written read before rest : List ℕ) → written ≡ before → read ≡ before ++ rest
    → drop (length written) read ≡ rest
rest_is written read before rest wrote is =
    ap (λ l. drop (length l) read) wrote ∙ ap (drop (length before)) is ∙ drop_front before rest

-- ---- what stays of a copier's tie

module _ {size copied : ℕ} {short : Bool} {piece : List ℕ} {a b pa pb p : List Act} where
  -- All was written before the poll under way, where nothing went in.
  pub wrote_before : {act : CopyAction ℕ} (t : CopierBy size act copied short piece a b pa pb p)
      → filled_now b ≡ [] → all_accepted pb ≡ t.before
  wrote_before t none = t.wrote ∙ behind_none t.before (filled_now b) none

  -- Over an act of its reader all stays that its writer did.
  by_reader : {act next : CopyAction ℕ} {kept : List ℕ} (x : Act)
      (t : CopierBy size act copied short piece a b pa pb p) → IsOpen (x ∷ a)
      → StandsBy next size kept t.before (all_got (x ∷ pa)) copied short (x ∷ a) b (x ∷ p)
      → as_action (next_by next kept) ≡ next_from size (x ∷ pa) pb (x ∷ p) (outcome (x ∷ p))
      → IsAsking (x ∷ a) b (x ∷ p) pb
      → CopierBy size next copied short kept (x ∷ a) b (x ∷ pa) pb (x ∷ p)
  by_reader x t stays stands is asking = record {
    positive = t.positive;
    reader_open = stays;
    writer_open = t.writer_open;
    before = t.before;
    wrote = t.wrote;
    count = t.count;
    short = t.short;
    stands = stands;
    next_is = is;
    asking = asking;
  }

  -- Over an act of its writer all stays that its reader did. `now` is what was written before.
  by_writer : {act next : CopyAction ℕ} {sum : ℕ} {cut : Bool} (x : Act)
      (t : CopierBy size act copied short piece a b pa pb p) (now : List ℕ) → IsOpen (x ∷ b)
      → all_accepted (x ∷ pb) ≡ now ++ filled_now (x ∷ b) → sum ≡ min (length now) (2 ^ 64 - 1)
      → cut ≡ is_short (x ∷ pb)
      → StandsBy next size piece now (all_got pa) sum cut a (x ∷ b) (x ∷ p)
      → as_action (next_by next piece) ≡ next_from size pa (x ∷ pb) (x ∷ p) (outcome (x ∷ p))
      → IsAsking a (x ∷ b) (x ∷ p) (x ∷ pb)
      → CopierBy size next sum cut piece a (x ∷ b) pa (x ∷ pb) (x ∷ p)
  by_writer x t now stays wrote count same stands is asking = record {
    positive = t.positive;
    reader_open = t.reader_open;
    writer_open = stays;
    before = now;
    wrote = wrote;
    count = count;
    short = same;
    stands = stands;
    next_is = is;
    asking = asking;
  }

  -- After this act a poll of its reader is under way.
  reader_runs : {kept : List ℕ} (x : Act) (most : ℕ)
      (t : CopierBy size (action.Read most) copied short piece a b pa pb p) → IsOpen (x ∷ a)
      → all_got (x ∷ pa) ≡ t.before ++ got_now (x ∷ a)
      → (got_now (x ∷ a) ≡ []) ⊎ (kept ≡ got_now (x ∷ a)) → under_way (x ∷ a) ≡ Some (Read most)
      → (outcome (x ∷ p) ≡ NoReply) × (call (x ∷ p) ≡ Some (Read most))
      → CopierBy size (action.Read most) copied short kept (x ∷ a) b (x ∷ pa) pb (x ∷ p)
  reader_runs x most t stays read keeps runs asks =
      by_reader x t stays (t.stands.0, t.stands.1, t.stands.2, inr (runs, read, keeps))
      (ap (λ n. AskReader (Read n)) t.stands.0
      ∙ asked_next size (x ∷ pa) pb (x ∷ p) (Read most) asks.0 asks.1)
      (record {
        reading = λ asked is. (asks.0, asks.1 ∙ sym runs ∙ is);
        writing = λ asked is. absurd (none_asked t.stands.2.0 is);
      })

  -- After this act a poll of its writer is under way.
  writer_runs : {act : CopyAction ℕ} (x : Act) (asked : HandleCall)
      (t : CopierBy size act copied short piece a b pa pb p) → under_way a ≡ None
      → IsOpen (x ∷ b) → all_accepted (x ∷ pb) ≡ t.before ++ filled_now (x ∷ b)
      → short ≡ is_short (x ∷ pb) → under_way (x ∷ b) ≡ Some asked
      → (outcome (x ∷ p) ≡ NoReply) × (call (x ∷ p) ≡ Some asked) × (call (x ∷ pb) ≡ Some asked)
      → StandsBy act size piece t.before (all_got pa) copied short a (x ∷ b) (x ∷ p)
      → as_action (next_by act piece) ≡ once_more (Some asked) size
      → CopierBy size act copied short piece a (x ∷ b) pa (x ∷ pb) (x ∷ p)
  writer_runs x asked t rests stays wrote same runs asks stands is =
      by_writer x t t.before stays wrote t.count same stands
      (is ∙ asked_next size pa (x ∷ pb) (x ∷ p) asked asks.0 asks.1)
      (record {
        reading = λ one is. absurd (none_asked rests is);
        writing = λ one is. let so = sym runs ∙ is in (asks.0, asks.1 ∙ so, asks.2 ∙ so);
      })

  -- Its writer waits, and nothing went in.
  writer_waits : {act : CopyAction ℕ} (asked : HandleCall)
      (t : CopierBy size act copied short piece a b pa pb p) → under_way a ≡ None
      → under_way b ≡ Some asked → filled_now b ≡ []
      → StandsBy act size piece t.before (all_got pa) copied short a (Waits ∷ b) (Waits ∷ p)
      → as_action (next_by act piece) ≡ once_more (Some asked) size
      → CopierBy size act copied short piece a (Waits ∷ b) pa (Waits ∷ pb) (Waits ∷ p)
  writer_waits asked t rests runs none stands is =
      by_writer Waits t t.before (open_still b Waits tt t.writer_open)
      (t.wrote ∙ ap (λ l. t.before ++ l) none) t.count t.short stands
      (is ∙ asked_next size pa (Waits ∷ pb) (Waits ∷ p) asked refl (t.asking.writing asked runs).1)
      (none_asking rests refl)

  -- Its writer replies, where `now` is all that was written.
  writer_replies : {act next : CopyAction ℕ} {sum : ℕ} {cut : Bool} (reply : Reply)
      (asked : HandleCall) (t : CopierBy size act copied short piece a b pa pb p) (now : List ℕ)
      → IsCopiers asked → under_way a ≡ None → under_way b ≡ Some asked → all_accepted pb ≡ now
      → sum ≡ min (length now) (2 ^ 64 - 1) → cut ≡ is_short (Replied reply ∷ pb)
      → StandsBy next size piece now (all_got pa) sum cut a (Replied reply ∷ b) (Replied reply ∷ p)
      → as_action (next_by next piece) ≡ after size pa (Replied reply ∷ pb) (Some asked) reply
      → CopierBy size next sum cut piece a (Replied reply ∷ b) pa (Replied reply ∷ pb)
      (Replied reply ∷ p)
  writer_replies reply asked t now its rests runs wrote count same stands is =
      by_writer (Replied reply) t now
      (open_replied b asked reply its (under_way_call b asked runs) t.writer_open)
      (wrote ∙ sym (append-nil now)) count same stands (is ∙ replied_next size pa
      (Replied reply ∷ pb) (Replied reply ∷ p) asked reply (t.asking.writing asked runs).1)
      (none_asking rests refl)

-- ---- the copier asks

module _ (size copied : ℕ) (short : Bool) (piece : List ℕ) (a b pa pb p : List Act) where
  abbrev By : CopyAction ℕ → Type 0
  By act = CopierBy size act copied short piece a b pa pb p

  pub asks_reader : (most : ℕ) → By (action.Read most) → under_way a ≡ None
      → CopierBy size (action.Read most) copied short piece (Asked (Read most) ∷ a) b
      (Asked (Read most) ∷ pa) pb (Asked (Read most) ∷ p)
  asks_reader most t rest =
      reader_runs (Asked (Read most)) most t (open_asked a (Read most) tt t.reader_open)
      (⊎_elim (λ rests. rests.1 ∙ sym (append-nil t.before))
      (λ runs. absurd (none_asked rest runs.0)) t.stands.3) (inl refl) refl (refl, refl)

  pub asks_write : (from to : ℕ) → By (action.Write from to) → under_way b ≡ None
      → CopierBy size (action.Write from to) copied
      short piece a (Asked (Write (between from to piece)) ∷ b) pa
      (Asked (Write (between from to piece)) ∷ pb) (Asked (Write (between from to piece)) ∷ p)
  asks_write from to t rest =
      let asked = Write (between from to piece) in
      let none : filled_now b ≡ [] =
      ⊎_elim (λ rests. rests.1) (λ runs. absurd (none_asked rest runs)) t.stands.4 in
      writer_runs (Asked asked) asked t t.stands.2.0 (open_asked b asked tt t.writer_open)
      (t.wrote ∙ ap (λ l. t.before ++ l) none) t.short refl (refl, refl, refl)
      (t.stands.0, t.stands.1, t.stands.2, t.stands.3, inr refl) refl

  pub asks_flush : By action.Flush → under_way b ≡ None
      → CopierBy size action.Flush copied short piece a (Asked Flush ∷ b) pa (Asked Flush ∷ pb)
      (Asked Flush ∷ p)
  asks_flush t rest =
      let none : filled_now b ≡ [] = ⊎_elim (λ rests. rests.1) (λ runs. runs.1) t.stands.3 in
      writer_runs (Asked Flush) Flush t t.stands.2.0 (open_asked b Flush tt t.writer_open)
      (t.wrote ∙ ap (λ l. t.before ++ l) none) t.short refl (refl, refl, refl)
      (t.stands.0, t.stands.1, t.stands.2, inr (refl, refl)) refl

-- ---- what it hears

abbrev max_count : ℕ
max_count = 2 ^ 64 - 1

count_same : (k n c : ℕ) → c ≡ min n max_count
    → (if nat_le 0 k then min (c + 0) max_count else c) ≡ c
count_same k n c is = grind (arith, nat_tests)

all_true : (short : Bool) → (if short then true else true) ≡ true
all_true short = grind arith

-- A copier's test whether a write was short stays over any other reply.
if_short : {size copied : ℕ} {act : CopyAction ℕ} {piece : List ℕ} {a b pa pb p : List Act}
    (short : Bool) → CopierBy size act copied short piece a b pa pb p
    → CopierBy size act copied (if short then true else false) piece a b pa pb p
if_short true t = t
if_short false t = t

module _ (k h g size copied : ℕ) (short : Bool) (piece : List ℕ) (a b pa pb p : List Act) where
  abbrev pub with_next : CopyAction ℕ → CopierState
  with_next act = record {
    number = k;
    reader = h;
    writer = g;
    core = record {
      next = act;
      piece = size;
      copied = copied;
      is_short = short;
    };
    piece = piece;
  }

  -- ---- from its reader

  module _ (most : ℕ) (t : CopierOf (with_next (action.Read most)) a b pa pb p)
      (runs : under_way a ≡ Some (Read most)) where
    asks_read : (outcome p ≡ NoReply) × (call p ≡ Some (Read most))
    asks_read = t.asking.reading (Read most) runs

    -- what was read by now
    reads : (all_got pa ≡ t.before ++ got_now a) × ((got_now a ≡ []) ⊎ (piece ≡ got_now a))
    reads = ⊎_elim (λ rests. absurd (none_asked rests.0.0 runs)) (λ now. (now.1, now.2)) t.stands.3

    -- what was read before its poll is written
    read_all : got_now a ≡ [] → all_got pa ≡ t.before
    read_all none = reads.0 ∙ behind_none t.before (got_now a) none

    -- Its reader replies: its poll is over.
    reader_replies : {next : CopyAction ℕ} (reply : Reply)
        → StandsBy next size piece t.before (all_got pa) copied short (Replied reply ∷ a) b
        (Replied reply ∷ p)
        → as_action (next_by next piece) ≡ after size pa pb (Some (Read most)) reply
        → CopierBy size next copied (if short then true else false) piece (Replied reply ∷ a) b
        (Replied reply ∷ pa) pb (Replied reply ∷ p)
    reader_replies reply stands is =
        if_short short (by_reader (Replied reply) t
        (open_replied a (Read most) reply tt (under_way_call a (Read most) runs) t.reader_open)
        stands (is ∙ replied_next size (Replied reply ∷ pa) pb (Replied reply ∷ p) (Read most) reply
        asks_read.1) (none_asking refl t.stands.2.0))

    -- a reply with bytes, which are written next
    reader_counts : (n : ℕ) → length (got_now a) ≡ suc n
        → CopierBy size (action.Write 0 (suc n)) copied (if short then true else false) piece
        (Replied (Count (suc n)) ∷ a) b (Replied (Count (suc n)) ∷ pa) pb
        (Replied (Count (suc n)) ∷ p)
    reader_counts n many =
        let kept : piece ≡ got_now a = ⊎_elim (λ none. absurd (let zeroed = ap length none in
        omega (arith, zeroed, many))) (λ kept. kept) reads.1 in
        let many_kept : length piece ≡ suc n = ap length kept ∙ many in
        let whole : between 0 (suc n) piece ≡ got_now a =
        whole_piece (suc n) piece many_kept ∙ kept in
        let rest : drop (length (all_accepted pb)) (all_got pa) ≡ got_now a =
        rest_is (all_accepted pb) (all_got pa) t.before (got_now a)
        (wrote_before t t.stands.2.1) reads.0 in
        reader_replies (Count (suc n)) (
          t.stands.1,
          reads.0 ∙ ap (λ l. t.before ++ l) (sym whole),
          (refl, refl),
          (omega arith, omega (arith, many_kept)),
          inl t.stands.2,
        )
        (ap (λ l. AskWriter (Write l)) (whole ∙ sym rest))

    reader_told : (reply : Reply) → ReadReply most a reply
        → CopierOf (heard (with_next (action.Read most)) (Replied reply)) (Replied reply ∷ a) b
        (Replied reply ∷ pa) pb (Replied reply ∷ p)
    reader_told (Count zero) none =
        let all = read_all none in
        reader_replies (Count 0)
        (([], all ∙ sym (append-nil t.before)), (λ is. sym all), (refl, refl), inl t.stands.2) refl
    reader_told (Count (suc n)) many =
        let fits : nat_le (suc n) most ≡ true = (let less = many.1 in grind (arith, nat_tests)) in
        subst (λ x. CopierBy size (if x then action.Write 0 (suc n) else action.Read most)
        copied (if short then true else false) piece (Replied (Count (suc n)) ∷ a) b
        (Replied (Count (suc n)) ∷ pa) pb (Replied (Count (suc n)) ∷ p)) (sym fits)
        (reader_counts n many.0)
    reader_told (Failed why) none = reader_replies (Failed why)
        (([], read_all none ∙ sym (append-nil t.before)), (refl, refl), t.stands.2) refl
    reader_told reply none = reader_replies reply
        (t.stands.0, t.stands.1, t.stands.2, inl ((refl, refl), read_all none))
        (ap (λ n. AskReader (Read n)) t.stands.0)

    reader_does : (x : Act) → StepAs (Read most) a x
        → CopierOf (heard (with_next (action.Read most)) x) (x ∷ a) b (x ∷ pa) pb (x ∷ p)
    reader_does (Asked other) step = absurd step
    reader_does (Made n capacity) step = absurd step
    reader_does HolderDropped step = absurd step
    reader_does (Got bytes told) none =
        reader_runs (Got bytes told) most t (open_still a (Got bytes told) tt t.reader_open)
        (ap (λ l. l ++ bytes) reads.0 ∙ append_assoc t.before (got_now a) bytes)
        (inr (sym (ap (λ l. l ++ bytes) none))) runs asks_read
    reader_does Waits none =
        by_reader Waits t (open_still a Waits tt t.reader_open)
        (t.stands.0, t.stands.1, t.stands.2, inl ((refl, refl), read_all none))
        (ap (λ n. AskReader (Read n)) t.stands.0
        ∙ asked_next size (Waits ∷ pa) pb (Waits ∷ p) (Read most) refl asks_read.1)
        (none_asking refl t.stands.2.0)
    reader_does (Replied reply) step = reader_told reply step
    reader_does x step =
        reader_runs x most t (open_still a x tt t.reader_open) reads.0 reads.1 runs asks_read

  pub reader_acts : (act : CopyAction ℕ) (x : Act) (asked : HandleCall)
      → CopierOf (with_next act) a b pa pb p → under_way a ≡ Some asked → StepAs asked a x
      → CopierOf (heard (with_next act) x) (x ∷ a) b (x ∷ pa) pb (x ∷ p)
  reader_acts (action.Write from to) x asked t runs step = absurd (none_asked t.stands.2.0 runs)
  reader_acts action.Flush x asked t runs step = absurd (none_asked t.stands.2.0 runs)
  reader_acts (action.Done (end.Copied n)) x asked t runs step =
      absurd (none_asked t.stands.2.0 runs)
  reader_acts (action.Done (end.Reading why)) x asked t runs step =
      absurd (none_asked t.stands.1.0 runs)
  reader_acts (action.Done (end.Writing why)) x asked t runs step =
      absurd (none_asked t.stands.1.0 runs)
  reader_acts (action.Read most) x asked t runs step =
      let its : under_way a ≡ Some (Read most) =
      ⊎_elim (λ rests. absurd (none_asked rests.0.0 runs)) (λ now. now.0) t.stands.3 in
      let both : Some asked ≡ Some (Read most) = sym runs ∙ its in
      let same : asked ≡ Read most = cc in
      reader_does most t its x (subst (λ c. StepAs c a x) same step)

  -- ---- from its writer, where it writes

  module _ (from to : ℕ) (t : CopierOf (with_next (action.Write from to)) a b pa pb p)
      (runs : under_way b ≡ Some (Write (between from to piece))) where
    abbrev rest : List ℕ
    rest = between from to piece

    asks_it : (outcome p ≡ NoReply) × (call p ≡ Some (Write rest)) × (call pb ≡ Some (Write rest))
    asks_it = t.asking.writing (Write rest) runs

    -- some of it was taken
    module _ (m : ℕ) (took : filled_now b ≡ take (suc m) rest) (fits : suc m ≤ length rest) where
      abbrev now : List ℕ
      now = t.before ++ take (suc m) rest

      abbrev left : List ℕ
      left = between (from + suc m) to piece

      many_left : length left ≡ to - (from + suc m)
      many_left = many_between (from + suc m) to piece t.stands.3.1

      read_now : all_got pa ≡ now ++ left
      read_now = t.stands.1 ∙ ap (λ l. t.before ++ l) (split_piece from to (suc m) piece)
          ∙ sym (append_assoc t.before (take (suc m) rest) left)

      many_now : length now ≡ length t.before + suc m
      many_now = length-append t.before (take (suc m) rest)
          ∙ ap (λ n. length t.before + n) (length-take-le (suc m) rest fits)

      -- its reply counts it
      writer_took : {next : CopyAction ℕ}
          → StandsBy next size piece now (all_got pa) (min (copied + suc m) max_count) short a
          (Replied (Count (suc m)) ∷ b) (Replied (Count (suc m)) ∷ p)
          → as_action (next_by next piece) ≡ write_on left size
          → CopierBy size next (min (copied + suc m) max_count) short piece a
          (Replied (Count (suc m)) ∷ b) pa (Replied (Count (suc m)) ∷ pb)
          (Replied (Count (suc m)) ∷ p)
      writer_took stands is =
          let wrote : all_accepted pb ≡ now = t.wrote ∙ ap (λ l. t.before ++ l) took in
          writer_replies (Count (suc m)) (Write rest) t now tt t.stands.2.0 runs wrote
          (ap (λ n. min (n + suc m) max_count) t.count ∙ count_more (length t.before) (suc m)
          ∙ sym (ap (λ n. min n max_count) many_now)) t.short stands
          (is ∙ sym (ap (λ l. write_on l size)
          (rest_is (all_accepted pb) (all_got pa) now left wrote read_now)))

      writer_counts : (less fits : Bool) → nat_lt (suc m) (to - from) ≡ less
          → nat_le (suc m) (to - from) ≡ fits
          → CopierBy size (if less then action.Write (from + suc m) to
          else if fits then action.Read size else action.Write from to)
          (if fits then min (copied + suc m) max_count else copied) short piece
          a (Replied (Count (suc m)) ∷ b) pa (Replied (Count (suc m)) ∷ pb)
          (Replied (Count (suc m)) ∷ p)
      writer_counts true true is_less is_fit =
          let smaller : suc m < to - from = grind (arith, nat_tests) in
          writer_took (
            t.stands.0,
            read_now,
            t.stands.2,
            (omega (arith, smaller), t.stands.3.1),
            inl (refl, refl),
          )
          (sym (write_some left size (omega (arith, many_left, smaller))))
      writer_counts false true is_less is_fit =
          let all : suc m ≡ to - from = grind (arith, nat_tests) in
          let none : length left ≡ 0 =
          many_left ∙ (let e : to - (from + suc m) ≡ 0 = omega (arith, all) in e) in
          writer_took (
            refl,
            t.stands.0,
            (refl, refl),
            inl (t.stands.2, read_now ∙ behind_none now left (none_left left none)),
          )
          (sym (write_none left size none))
      writer_counts less false is_less is_fit =
          let many = many_between from to piece t.stands.3.1 in
          let no : ⊥ = grind (arith, nat_tests) in
          absurd no

    writer_told : (reply : Reply) → WriteReply rest b reply
        → CopierOf (heard (with_next (action.Write from to)) (Replied reply)) a (Replied reply ∷ b)
        pa (Replied reply ∷ pb) (Replied reply ∷ p)
    writer_told (Count zero) none =
        writer_replies (Count 0) (Write rest) t t.before tt t.stands.2.0 runs (wrote_before t none)
        (count_same (to - from) (length t.before) copied t.count ∙ t.count)
        (all_true short ∙ sym (ap (λ c. is_write c || is_short pb) asks_it.2)) (
          (rest, t.stands.1),
          (λ is. absurd (let no = sym (all_true short) ∙ is in cc)),
          t.stands.2,
          inl (refl, refl),
        ) refl
    writer_told (Count (suc k)) took = if_short short
        (writer_counts k took.0 took.1 (nat_lt (suc k) (to - from)) (nat_le (suc k) (to - from))
        refl refl)
    writer_told (Failed why) none = if_short short
        (writer_replies (Failed why) (Write rest) t t.before tt t.stands.2.0 runs
        (wrote_before t none) t.count t.short ((rest, t.stands.1), t.stands.2, (refl, refl)) refl)
    writer_told reply none = if_short short
        (writer_replies reply (Write rest) t t.before tt t.stands.2.0 runs (wrote_before t none)
        t.count t.short (t.stands.0, t.stands.1, t.stands.2, t.stands.3, inl (refl, refl)) refl)

    writer_does : (x : Act) → StepAs (Write rest) b x
        → CopierOf (heard (with_next (action.Write from to)) x) a (x ∷ b) pa (x ∷ pb) (x ∷ p)
    writer_does (Asked other) step = absurd step
    writer_does (Made n capacity) step = absurd step
    writer_does HolderDropped step = absurd step
    writer_does (Got bytes told) step = absurd step
    writer_does (Filled n told) step =
        writer_runs (Filled n told) (Write rest) t t.stands.2.0
        (open_still b (Filled n told) tt t.writer_open)
        (ap (λ l. l ++ take n (data_of (call pb))) t.wrote
        ∙ append_assoc t.before (filled_now b) (take n (data_of (call pb)))
        ∙ ap (λ c. t.before ++ (filled_now b ++ take n (data_of c)))
        (asks_it.2 ∙ sym (under_way_call b (Write rest) runs)))
        t.short runs asks_it (t.stands.0, t.stands.1, t.stands.2, t.stands.3, inr runs) refl
    writer_does Waits none = writer_waits (Write rest) t t.stands.2.0 runs none
        (t.stands.0, t.stands.1, t.stands.2, t.stands.3, inl (refl, refl)) refl
    writer_does (Replied reply) step = writer_told reply step
    writer_does x step =
        writer_runs x (Write rest) t t.stands.2.0 (open_still b x tt t.writer_open)
        t.wrote t.short runs asks_it (t.stands.0, t.stands.1, t.stands.2, t.stands.3, inr runs) refl

  -- ---- from its writer, where it flushes

  module _ (t : CopierOf (with_next action.Flush) a b pa pb p)
      (runs : under_way b ≡ Some Flush) where
    asks_flushed : (outcome p ≡ NoReply) × (call p ≡ Some Flush) × (call pb ≡ Some Flush)
    asks_flushed = t.asking.writing Flush runs

    none_filled : filled_now b ≡ []
    none_filled = ⊎_elim (λ rests. rests.1) (λ now. now.1) t.stands.3

    wrote_all : all_accepted pb ≡ t.before
    wrote_all = wrote_before t none_filled

    flush_short : (reply : Reply) → is_short (Replied reply ∷ pb) ≡ is_short pb
    flush_short reply = grind (arith, asks_flushed)

    flush_ends : (ended : Bool) → short ≡ ended
        → CopierBy size (action.Done (end_of_copy ended copied)) copied ended piece a
        (Replied Okay ∷ b) pa (Replied Okay ∷ pb) (Replied Okay ∷ p)
    flush_ends true is =
        writer_replies Okay Flush t t.before tt t.stands.2.0 runs wrote_all t.count
        (sym is ∙ t.short) (t.stands.0, t.stands.2, (refl, refl))
        (ap (λ s. Tells (ends_flushed s (length (all_accepted pb)))) (sym is ∙ t.short))
    flush_ends false is =
        writer_replies Okay Flush t t.before tt t.stands.2.0 runs wrote_all t.count
        (sym is ∙ t.short) (t.stands.1 is, refl, t.stands.2, (refl, refl), asks_flushed.1, refl)
        (ap (λ n. Tells (Copied n)) (t.count ∙ ap (λ l. min (length l) max_count) (sym wrote_all))
        ∙ ap (λ s. Tells (ends_flushed s (length (all_accepted pb)))) (sym is ∙ t.short))

    flush_told : (reply : Reply)
        → CopierOf (heard (with_next action.Flush) (Replied reply)) a (Replied reply ∷ b) pa
        (Replied reply ∷ pb) (Replied reply ∷ p)
    flush_told Okay = if_short short (flush_ends short refl)
    flush_told (Failed why) = if_short short
        (writer_replies (Failed why) Flush t t.before tt t.stands.2.0 runs wrote_all t.count t.short
        (t.stands.0, t.stands.2, (refl, refl)) refl)
    flush_told reply = if_short short
        (writer_replies reply Flush t t.before tt t.stands.2.0 runs wrote_all t.count
        (t.short ∙ sym (flush_short reply))
        (t.stands.0, t.stands.1, t.stands.2, inl (refl, refl)) refl)

    flush_does : (x : Act) → StepAs Flush b x
        → CopierOf (heard (with_next action.Flush) x) a (x ∷ b) pa (x ∷ pb) (x ∷ p)
    flush_does (Asked other) step = absurd step
    flush_does (Made n capacity) step = absurd step
    flush_does HolderDropped step = absurd step
    flush_does (Filled n told) step = absurd step
    flush_does (Got bytes told) step = absurd step
    flush_does Waits step = writer_waits Flush t t.stands.2.0 runs none_filled
        (t.stands.0, t.stands.1, t.stands.2, inl (refl, refl)) refl
    flush_does (Replied reply) step = flush_told reply
    flush_does x step =
        writer_runs x Flush t t.stands.2.0 (open_still b x tt t.writer_open) t.wrote t.short runs
        asks_flushed (t.stands.0, t.stands.1, t.stands.2, inr (runs, none_filled)) refl

  pub writer_acts : (act : CopyAction ℕ) (x : Act) (asked : HandleCall)
      → CopierOf (with_next act) a b pa pb p → under_way b ≡ Some asked → StepAs asked b x
      → CopierOf (heard (with_next act) x) a (x ∷ b) pa (x ∷ pb) (x ∷ p)
  writer_acts (action.Read most) x asked t runs step = absurd (none_asked t.stands.2.0 runs)
  writer_acts (action.Done (end.Copied n)) x asked t runs step =
      absurd (none_asked t.stands.3.0 runs)
  writer_acts (action.Done (end.Reading why)) x asked t runs step =
      absurd (none_asked t.stands.2.0 runs)
  writer_acts (action.Done (end.Writing why)) x asked t runs step =
      absurd (none_asked t.stands.2.0 runs)
  writer_acts (action.Write from to) x asked t runs step =
      let its : under_way b ≡ Some (Write (between from to piece)) =
      ⊎_elim (λ rests. absurd (none_asked rests.0 runs)) (λ now. now) t.stands.4 in
      let both : Some asked ≡ Some (Write (between from to piece)) = sym runs ∙ its in
      let same : asked ≡ Write (between from to piece) = cc in
      writer_does from to t its x (subst (λ c. StepAs c b x) same step)
  writer_acts action.Flush x asked t runs step =
      let its : under_way b ≡ Some Flush =
      ⊎_elim (λ rests. absurd (none_asked rests.0 runs)) (λ now. now.0) t.stands.3 in
      let both : Some asked ≡ Some Flush = sym runs ∙ its in
      let same : asked ≡ Flush = cc in
      flush_does t its x (subst (λ c. StepAs c b x) same step)
