-- An act of its job keeps the law of a task, and the tie of the task to its cut.
use Rattle.std.proofs.Common.{◌≡◌, ℕ, List, [], ◌∷◌, Bool, true, false, refl, sym, ap, ◌∙◌, subst}
use Rattle.std.proofs.Common.{Option, Some, None, inl, inr, ◌⊎◌, ◌||◌, not, is_some, eq-eqb}
use Rattle.std.proofs.lemmas.Bool.{or_left, or_right}
use Rattle.blocking_world_holders.proofs.Types.{Act, Answered, Finished, GaveUp, HolderWoken, Event}
use Rattle.blocking_world_holders.proofs.Types.{Number, TaskStage}
use Rattle.blocking_world_holders.proofs.Words.{Abandoned, Content, Empty, Full, GivenUp, answer_of}
use Rattle.blocking_world_holders.proofs.Words.{slot_after, slot_without_job, waker_out_of, Growth}
use Rattle.blocking_world_holders.proofs.Words.{Calling, WakeHolder, has_finished, has_given_up}
use Rattle.blocking_world_holders.proofs.Words.{is_over, is_taken, next_but_wake, next_of_job}
use Rattle.blocking_world_holders.proofs.Words.{number, task_seat, waker_in, acts_of, is_nothing}
use Rattle.blocking_world_holders.proofs.Words.{is_of_pool, own, Calls, is_in_time, was_cancelled}
use Rattle.blocking_world_holders.proofs.Words.{is_waiting, was_woken, by_job, Task}
use Rattle.blocking_world_holders.proofs.Words.{task_finish_wakes as finish_wakes}
use Rattle.blocking_world_holders.proofs.Words.{task_give_up_wakes as give_up_wakes, has_let_go}
use Rattle.blocking_world_holders.proofs.Words.{task_after_finish, task_after_give_up, CancelAs}
use Rattle.blocking_world_holders.proofs.Words.{TaskSlotAs as SlotAs, TaskAs}
use Rattle.blocking_world_holders.proofs.acts.TaskActs.{Goes}

acts_more : (v s : ℕ) (act : Act) (first : ℕ) (growth : Growth) (cut : List Event)
    → is_of_pool act ≡ false → is_nothing act ≡ false
    → acts_of s (by_job v s act first growth ∷ cut) ≡ act ∷ acts_of s cut
acts_more v s act first growth cut pool nothing = rw (pool, nothing, eq-eqb s s refl) refl

-- the parts of a tie that the job's acts are in
abbrev SlotBy : Task → Bool → List Act → Type 0
SlotBy task in_time acts = SlotAs task.stage task.slot.content task.found (has_finished acts)
    (has_given_up acts) in_time (number acts)

abbrev ToldBy : List Event → List Act → Type 0
ToldBy cut acts = is_waiting (own cut) ≡ true → (was_woken cut ≡ true)
    ⊎ ((task_seat cut ≡ true) × (has_finished acts || has_given_up acts ≡ false))

-- no number came yet, where no answer did
none_in_time : (how : TaskStage) (content : Content ℕ) (found : Option ℕ) (in_time : Bool) (n m : ℕ)
    → (in_time ≡ true → false ≡ true)
    → SlotAs how content found false false in_time n
    → SlotAs how content found false false in_time m
none_in_time TaskStage.Attached Empty found in_time n m timely slot = slot
none_in_time TaskStage.Attached (Full x) found in_time n m timely slot =
    absurd (let f = slot.0 in cc)
none_in_time TaskStage.Attached GivenUp found in_time n m timely slot =
    absurd (let f = slot.1 in cc)
none_in_time TaskStage.Attached (Abandoned over) found in_time n m timely slot = absurd slot
none_in_time TaskStage.Cancelled (Abandoned over) None in_time n m timely slot = slot
none_in_time TaskStage.Cancelled (Abandoned over) (Some x) in_time n m timely slot =
    absurd (let f = timely slot.1.0 in cc)
none_in_time TaskStage.Cancelled _ found in_time n m timely slot = absurd slot
none_in_time _ content found in_time n m timely slot = slot

-- the call is answered
pub answer_goes : (task : Task) (v s n first : ℕ) (growth : Growth) (cut : List Event)
    → acts_of s cut ≡ [] → (is_in_time cut ≡ true → has_finished (acts_of s cut) ≡ true)
    → TaskAs task s cut
    → Goes task s cut (by_job v s (Answered (Number n)) first growth)
answer_goes task v s n first growth cut acts timely t =
    let e = by_job v s (Answered (Number n)) first growth in
    let more : acts_of s (e ∷ cut) ≡ Answered (Number n) ∷ [] =
    acts_more v s (Answered (Number n)) first growth cut refl refl
    ∙ ap (λ (l : List Act). Answered (Number n) ∷ l) acts in
    let timely_now : is_in_time cut ≡ true → false ≡ true =
    subst (λ (l : List Act). is_in_time cut ≡ true → has_finished l ≡ true) acts timely in
    let slot : SlotBy task (is_in_time cut) [] = subst (SlotBy task (is_in_time cut)) acts t.slot in
    let told : ToldBy cut [] = subst (ToldBy cut) acts t.told in
    record {
      law = subst (λ (l : List Act). Calls cut (next_of_job Calling l) (Answered (Number n)))
          (sym acts) refl;
      tie = record {
        gone = t.gone;
        cancel = t.cancel;
        let_go = t.let_go;
        seat = t.seat;
        slot = subst (SlotBy task (is_in_time cut)) (sym more) (none_in_time task.stage
            task.slot.content task.found (is_in_time cut) 0 n timely_now slot);
        told = subst (ToldBy cut) (sym more) told;
      };
    }

-- the job calls the waker that it took
pub wake_goes : (task : Task) (v s first : ℕ) (growth : Growth) (cut : List Event)
    → next_of_job Calling (acts_of s cut) ≡ WakeHolder → TaskAs task s cut
    → Goes task s cut (by_job v s HolderWoken first growth)
wake_goes task v s first growth cut next t =
    let e = by_job v s HolderWoken first growth in
    let more : acts_of s (e ∷ cut) ≡ HolderWoken ∷ acts_of s cut =
    acts_more v s HolderWoken first growth cut refl refl in
    record {
      law = subst (λ action. Calls cut action HolderWoken) (sym next) refl;
      tie = record {
        gone = t.gone;
        cancel = t.cancel;
        let_go = t.let_go;
        seat = t.seat;
        slot = subst (SlotBy task (is_in_time cut)) (sym more) t.slot;
        told = subst (ToldBy cut) (sym more) t.told;
      };
    }

-- a task that waits is woken by the act that takes its waker
woken_by : (wake woken seated over : Bool) → wake ≡ seated
    → (woken ≡ true) ⊎ ((seated ≡ true) × (over ≡ false)) → is_taken (waker_in wake) || woken ≡ true
woken_by wake woken seated over same (inl is) = or_right (is_taken (waker_in wake)) woken is
woken_by wake woken seated over same (inr is) = or_left (is_taken (waker_in wake)) woken
    (ap (λ (b : Bool). is_taken (waker_in b)) (same ∙ is.0))

-- ---- finishing

-- a slot to which nothing came yet
abbrev Pends : TaskStage → Content ℕ → Option ℕ → Bool → Type 0
Pends TaskStage.Attached Empty found cancel = cancel ≡ false
Pends TaskStage.Cancelled (Abandoned false) None cancel = cancel ≡ true
Pends TaskStage.Gone Empty found cancel = Unit {0}
Pends TaskStage.Gone (Abandoned false) found cancel = Unit {0}
Pends TaskStage.LetGo Empty found cancel = Unit {0}
Pends TaskStage.LetGo (Abandoned false) found cancel = Unit {0}
Pends how content found cancel = ⊥

none_came : (how : TaskStage) (content : Content ℕ) (found : Option ℕ) (cancel in_time : Bool)
    (n : ℕ) → (in_time ≡ true → false ≡ true) → CancelAs how cancel
    → SlotAs how content found false false in_time n → Pends how content found cancel
none_came TaskStage.Attached Empty found cancel in_time n timely was slot = was
none_came TaskStage.Attached (Full x) found cancel in_time n timely was slot =
    absurd (let f = slot.0 in cc)
none_came TaskStage.Attached GivenUp found cancel in_time n timely was slot =
    absurd (let f = slot.1 in cc)
none_came TaskStage.Cancelled (Abandoned false) None cancel in_time n timely was slot = was
none_came TaskStage.Cancelled (Abandoned true) None cancel in_time n timely was slot =
    absurd (let f = slot.0 in cc)
none_came TaskStage.Cancelled (Abandoned over) (Some x) cancel in_time n timely was slot =
    absurd (let f = timely slot.1.0 in cc)
none_came TaskStage.Gone Empty found cancel in_time n timely was slot = tt
none_came TaskStage.Gone (Abandoned false) found cancel in_time n timely was slot = tt
none_came TaskStage.Gone _ found cancel in_time n timely was slot = absurd (slot refl)
none_came TaskStage.LetGo Empty found cancel in_time n timely was slot = tt
none_came TaskStage.LetGo (Abandoned false) found cancel in_time n timely was slot = tt
none_came TaskStage.LetGo _ found cancel in_time n timely was slot = absurd (slot refl)
none_came _ _ found cancel in_time n timely was slot = absurd slot

-- such a slot takes a number, and its waker leaves the seat
pub record Puts (how : TaskStage) (content : Content ℕ) (seat : Option (Unit {0}))
    (found : Option ℕ) (cancel : Bool) (n : ℕ) : Type 0 where
  pub slot : SlotAs how (slot_after content seat n).content found true false (not cancel) n
  pub empty : (slot_after content seat n).seat ≡ None
  pub wake : (answer_of content seat n).wake ≡ seat

puts : (how : TaskStage) (content : Content ℕ) (seat : Option (Unit {0})) (found : Option ℕ)
    (cancel : Bool) (n : ℕ) → Pends how content found cancel → Puts how content seat found cancel n
puts TaskStage.Attached Empty seat found cancel n p =
    record { slot = (refl, ap not p, refl); empty = refl; wake = refl }
puts TaskStage.Cancelled (Abandoned false) seat None cancel n p =
    record { slot = (refl, ap not p); empty = refl; wake = refl }
puts TaskStage.Gone Empty seat found cancel n p =
    record { slot = λ idle. absurd (cc); empty = refl; wake = refl }
puts TaskStage.Gone (Abandoned false) seat found cancel n p =
    record { slot = λ idle. absurd (cc); empty = refl; wake = refl }
puts TaskStage.LetGo Empty seat found cancel n p =
    record { slot = λ idle. absurd (cc); empty = refl; wake = refl }
puts TaskStage.LetGo (Abandoned false) seat found cancel n p =
    record { slot = λ idle. absurd (cc); empty = refl; wake = refl }
puts _ _ seat _ cancel n p = absurd p

-- the job puts its number
pub finish_goes : (task : Task) (v s n first : ℕ) (growth : Growth) (cut : List Event)
    → acts_of s cut ≡ Answered (Number n) ∷ []
    → (is_in_time cut ≡ true → has_finished (acts_of s cut) ≡ true) → TaskAs task s cut
    → Goes (task_after_finish task n) s cut
    (by_job v s (Finished (waker_in (finish_wakes task n))) first growth)
finish_goes task v s n first growth cut acts timely t =
    let wake = finish_wakes task n in
    let e = by_job v s (Finished (waker_in wake)) first growth in
    let more : acts_of s (e ∷ cut) ≡ Finished (waker_in wake) ∷ Answered (Number n) ∷ [] =
    acts_more v s (Finished (waker_in wake)) first growth cut refl refl
    ∙ ap (λ (l : List Act). Finished (waker_in wake) ∷ l) acts in
    let timely_now : is_in_time cut ≡ true → false ≡ true =
    subst (λ (l : List Act). is_in_time cut ≡ true → has_finished l ≡ true) acts timely in
    let slot : SlotBy task (is_in_time cut) (Answered (Number n) ∷ []) =
    subst (SlotBy task (is_in_time cut)) acts t.slot in
    let came = none_came task.stage task.slot.content task.found (was_cancelled (own cut))
    (is_in_time cut) n timely_now t.cancel slot in
    let put = puts task.stage task.slot.content task.slot.seat task.found (was_cancelled (own cut))
    n came in
    let new = task_after_finish task n in
    let seated : wake ≡ task_seat cut = ap is_some put.wake ∙ sym t.seat in
    record {
      law = subst (λ (l : List Act). Calls cut (next_of_job Calling l) (Finished (waker_in wake)))
          (sym acts) (ap (λ (b : Bool). Finished (waker_in b)) seated);
      tie = record {
        gone = t.gone;
        cancel = t.cancel;
        let_go = t.let_go;
        seat = sym (ap is_some put.empty);
        slot = subst (SlotBy new (not (was_cancelled (own cut)))) (sym more) put.slot;
        told = λ w. inl (woken_by wake (was_woken cut) (task_seat cut)
            (has_finished (acts_of s cut) || has_given_up (acts_of s cut)) seated (t.told w));
      };
    }

-- ---- giving up

-- a slot to which nothing came yet takes note that nothing will come
pub record Ceases (how : TaskStage) (content : Content ℕ) (seat : Option (Unit {0}))
    (found : Option ℕ) (in_time : Bool) (n : ℕ) : Type 0 where
  pub slot : SlotAs how (slot_without_job content seat).content found false true in_time n
  pub empty : (slot_without_job content seat).seat ≡ None
  pub wake : waker_out_of content seat ≡ seat

ceases : (how : TaskStage) (content : Content ℕ) (seat : Option (Unit {0})) (found : Option ℕ)
    (cancel in_time : Bool) (n : ℕ) → SlotAs how content found false false in_time n
    → Pends how content found cancel
    → Ceases how content seat found in_time n
ceases TaskStage.Attached Empty seat found cancel in_time n slot p =
    record { slot = (refl, refl, slot.2); empty = refl; wake = refl }
ceases TaskStage.Cancelled (Abandoned false) seat None cancel in_time n slot p =
    record { slot = (refl, slot.1); empty = refl; wake = refl }
ceases TaskStage.Gone Empty seat found cancel in_time n slot p =
    record { slot = λ idle. absurd (cc); empty = refl; wake = refl }
ceases TaskStage.Gone (Abandoned false) seat found cancel in_time n slot p =
    record { slot = λ idle. absurd (cc); empty = refl; wake = refl }
ceases TaskStage.LetGo Empty seat found cancel in_time n slot p =
    record { slot = λ idle. absurd (cc); empty = refl; wake = refl }
ceases TaskStage.LetGo (Abandoned false) seat found cancel in_time n slot p =
    record { slot = λ idle. absurd (cc); empty = refl; wake = refl }
ceases _ _ seat _ cancel in_time n slot p = absurd p

-- the job gives up
pub give_up_goes : (task : Task) (v s first : ℕ) (growth : Growth) (cut : List Event)
    → acts_of s cut ≡ [] → (is_in_time cut ≡ true → has_finished (acts_of s cut) ≡ true)
    → has_let_go task.stage ≡ true → TaskAs task s cut
    → Goes (task_after_give_up task) s cut
    (by_job v s (GaveUp (waker_in (give_up_wakes task))) first growth)
give_up_goes task v s first growth cut acts timely gone t =
    let wake = give_up_wakes task in
    let e = by_job v s (GaveUp (waker_in wake)) first growth in
    let more : acts_of s (e ∷ cut) ≡ GaveUp (waker_in wake) ∷ [] =
    acts_more v s (GaveUp (waker_in wake)) first growth cut refl refl
    ∙ ap (λ (l : List Act). GaveUp (waker_in wake) ∷ l) acts in
    let timely_now : is_in_time cut ≡ true → false ≡ true =
    subst (λ (l : List Act). is_in_time cut ≡ true → has_finished l ≡ true) acts timely in
    let slot : SlotBy task (is_in_time cut) [] = subst (SlotBy task (is_in_time cut)) acts t.slot in
    let came = none_came task.stage task.slot.content task.found (was_cancelled (own cut))
    (is_in_time cut) 0 timely_now t.cancel slot in
    let cease = ceases task.stage task.slot.content task.slot.seat task.found
    (was_cancelled (own cut)) (is_in_time cut) 0 slot came in
    let new = task_after_give_up task in
    let seated : wake ≡ task_seat cut = ap is_some cease.wake ∙ sym t.seat in
    record {
      law = (
        t.let_go ∙ gone,
        subst (λ (l : List Act). is_over (next_but_wake Calling l) ≡ false)
            (sym acts) refl,
        ap waker_in seated,
      );
      tie = record {
        gone = t.gone;
        cancel = t.cancel;
        let_go = t.let_go;
        seat = sym (ap is_some cease.empty);
        slot = subst (SlotBy new (is_in_time cut)) (sym more) cease.slot;
        told = λ w. inl (woken_by wake (was_woken cut) (task_seat cut)
            (has_finished (acts_of s cut) || has_given_up (acts_of s cut)) seated (t.told w));
      };
    }
