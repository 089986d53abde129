-- An act of a task itself keeps the law of the task, and the tie of the task to its cut.
use Rattle.std.proofs.Common.{◌≡◌, ℕ, List, ◌∷◌, Bool, true, false, refl, Option, Some, None, inr}
use Rattle.std.proofs.Common.{◌||◌}
use Rattle.std.proofs.lemmas.Bool.{or_from, or_left, or_right}
use Rattle.blocking_world_holders.proofs.Types.{Act, HolderDropped, TaskCancelled, TaskDetached}
use Rattle.blocking_world_holders.proofs.Types.{TaskGot, TaskGotNone, Waits, Event, TaskCall}
use Rattle.blocking_world_holders.proofs.Types.{Cancel, Detach, Drop, Poll, TaskStage}
use Rattle.blocking_world_holders.proofs.Words.{IsPending, Abandoned, Content, Empty, Full, GivenUp}
use Rattle.blocking_world_holders.proofs.Words.{full_with, without_owner, Growth, JobNumber}
use Rattle.blocking_world_holders.proofs.Words.{has_finished, has_given_up, number, poll_task}
use Rattle.blocking_world_holders.proofs.Words.{acts_of, TaskLaw, is_in_time, poll_answer, by_task}
use Rattle.blocking_world_holders.proofs.Words.{Task, may_be, poll_of, task_act, task_after_call}
use Rattle.blocking_world_holders.proofs.Words.{task_after_cancel, task_after_detach}
use Rattle.blocking_world_holders.proofs.Words.{task_after_drop, task_after_poll}
use Rattle.blocking_world_holders.proofs.Words.{TaskSlotAs as SlotAs, TaskAs}
use Rattle.blocking_world_holders.proofs.Clashes.{never}

-- a task by its parts
abbrev pub task_by : JobNumber → TaskStage → Content ℕ → Option (Unit {0}) → Option ℕ → Task
task_by place how content seat found = record {
  number = place;
  slot = record { content = content; seat = seat };
  found = found;
  stage = how;
}

-- An event keeps the law of its task, and leaves the task tied.
pub record Goes (new : Task) (s : ℕ) (cut : List Event) (e : Event) : Type 0 where
  pub law : TaskLaw s cut e
  pub tie : TaskAs new s (e ∷ cut)

-- ---- polls

waits_is : (in_time finished gave : Bool) (n : ℕ) → finished ≡ false → gave ≡ false
    → in_time ≡ false → Waits ≡ poll_task in_time (finished || gave) n
waits_is in_time finished gave n a b c = rw (a, b, c) refl

got_is : (in_time over : Bool) (m n : ℕ) → in_time ≡ true → m ≡ n
    → TaskGot m ≡ poll_task in_time over n
got_is in_time over m n a b = rw (a, b) refl

none_is : (in_time over : Bool) (n : ℕ) → over ≡ true → in_time ≡ false
    → TaskGotNone ≡ poll_task in_time over n
none_is in_time over n a b = rw (a, b) refl

still_is : (in_time over : Bool) (n : ℕ) → over ≡ false → in_time ≡ false
    → Waits ≡ poll_task in_time over n
still_is in_time over n a b = rw (a, b) refl

-- a poll finds nothing yet, and seats the waker
poll_waits : (place : JobNumber) (how : TaskStage) (content : Content ℕ) (seat : Option (Unit {0}))
    (found : Option ℕ) (s k first : ℕ) (growth : Growth) (cut : List Event)
    → may_be how Poll ≡ true → Waits ≡ poll_answer s cut
    → has_finished (acts_of s cut) || has_given_up (acts_of s cut) ≡ false
    → TaskAs (task_by place how content seat found) s cut
    → Goes (task_by place how content (Some tt) found) s cut (by_task k Waits first growth)
poll_waits place TaskStage.Gone content seat found s k first growth cut may law idle t = absurd (cc)
poll_waits place TaskStage.LetGo content seat found s k first growth cut may law idle t =
    absurd (cc)
poll_waits place _ content seat found s k first growth cut may law idle t =
    record {
      law = (t.gone, law);
      tie = record {
        gone = t.gone;
        cancel = t.cancel;
        let_go = t.let_go;
        seat = refl;
        slot = t.slot;
        told = λ w. inr (refl, idle);
      };
    }

-- whether it is an answer, and which
abbrev poll_with : Option ℕ → Act
poll_with (Some n) = TaskGot n
poll_with None = TaskGotNone

-- a task that is awaited has its answer
attached_got : (place : JobNumber) (content left : Content ℕ) (seat : Option (Unit {0}))
    (found answer : Option ℕ) (s k first : ℕ) (growth : Growth) (cut : List Event)
    → poll_with answer ≡ poll_answer s cut
    → has_finished (acts_of s cut) || has_given_up (acts_of s cut) ≡ true
    → TaskAs (task_by place TaskStage.Attached content seat found) s cut
    → Goes (task_by place TaskStage.Gone left seat found) s cut
    (by_task k (poll_with answer) first growth)
attached_got place content left seat found (Some n) s k first growth cut law over t =
    record {
      law = (t.gone, law);
      tie = record {
        gone = refl;
        cancel = tt;
        let_go = t.let_go;
        seat = t.seat;
        slot = λ idle. absurd (cc);
        told = λ w. absurd (cc);
      };
    }
attached_got place content left seat found None s k first growth cut law over t =
    record {
      law = (t.gone, law);
      tie = record {
        gone = refl;
        cancel = tt;
        let_go = t.let_go;
        seat = t.seat;
        slot = λ idle. absurd (cc);
        told = λ w. absurd (cc);
      };
    }

-- an abandoned slot is pending while its job goes on
pending : (over done : Bool) → done ≡ over → done ≡ false → IsPending {T = ℕ} (Abandoned over)
pending true done is idle = absurd (cc)
pending false done is idle = tt

-- a task that was cancelled has its answer
cancelled_got : (place : JobNumber) (over : Bool) (seat : Option (Unit {0}))
    (found answer : Option ℕ) (s k first : ℕ) (growth : Growth) (cut : List Event)
    → poll_with answer ≡ poll_answer s cut
    → TaskAs (task_by place TaskStage.Cancelled (Abandoned over) seat found) s cut
    → Goes (task_by place TaskStage.LetGo (Abandoned over) seat found) s cut
    (by_task k (poll_with answer) first growth)
cancelled_got place over seat found (Some n) s k first growth cut law t =
    record {
      law = (t.gone, law);
      tie = record {
        gone = refl;
        cancel = tt;
        let_go = t.let_go;
        seat = t.seat;
        slot = pending over (has_finished (acts_of s cut)
            || has_given_up (acts_of s cut)) t.slot.0;
        told = λ w. absurd (never w);
      };
    }
cancelled_got place over seat found None s k first growth cut law t =
    record {
      law = (t.gone, law);
      tie = record {
        gone = refl;
        cancel = tt;
        let_go = t.let_go;
        seat = t.seat;
        slot = pending over (has_finished (acts_of s cut)
            || has_given_up (acts_of s cut)) t.slot.0;
        told = λ w. absurd (never w);
      };
    }

-- a poll of a task that may be polled
pub poll_goes : (place : JobNumber) (how : TaskStage) (found : Option ℕ) (content : Content ℕ)
    (seat : Option (Unit {0})) (s k first : ℕ) (growth : Growth) (cut : List Event)
    → may_be how Poll ≡ true → TaskAs (task_by place how content seat found) s cut
    → Goes (task_after_poll (task_by place how content seat found)) s cut
    (by_task k (poll_of (task_by place how content seat found)) first growth)
poll_goes place TaskStage.Attached found Empty seat s k first growth cut may t =
    poll_waits place TaskStage.Attached Empty seat found s k first growth cut may
    (waits_is (is_in_time cut) (has_finished (acts_of s cut)) (has_given_up (acts_of s cut))
    (number (acts_of s cut)) t.slot.0 t.slot.1 t.slot.2)
    (or_from (has_finished (acts_of s cut)) (has_given_up (acts_of s cut)) t.slot.0 t.slot.1) t
poll_goes place TaskStage.Attached found (Full m) seat s k first growth cut may t =
    attached_got place (Full m) Empty seat found (Some m) s k first growth cut
    (got_is (is_in_time cut) (has_finished (acts_of s cut) || has_given_up (acts_of s cut)) m
    (number (acts_of s cut)) t.slot.1 t.slot.2)
    (or_left (has_finished (acts_of s cut)) (has_given_up (acts_of s cut)) t.slot.0) t
poll_goes place TaskStage.Attached found GivenUp seat s k first growth cut may t =
    let over = or_right (has_finished (acts_of s cut)) (has_given_up (acts_of s cut)) t.slot.1 in
    attached_got place GivenUp GivenUp seat found None s k first growth cut
    (none_is (is_in_time cut) (has_finished (acts_of s cut) || has_given_up (acts_of s cut))
    (number (acts_of s cut)) over t.slot.2) over t
poll_goes place TaskStage.Cancelled (Some m) (Abandoned over) seat s k first growth cut may t =
    cancelled_got place over seat (Some m) (Some m) s k first growth cut
    (got_is (is_in_time cut) (has_finished (acts_of s cut) || has_given_up (acts_of s cut)) m
    (number (acts_of s cut)) t.slot.1.0 t.slot.1.1) t
poll_goes place TaskStage.Cancelled None (Abandoned true) seat s k first growth cut may t =
    cancelled_got place true seat None None s k first growth cut
    (none_is (is_in_time cut) (has_finished (acts_of s cut) || has_given_up (acts_of s cut))
    (number (acts_of s cut)) t.slot.0 t.slot.1) t
poll_goes place TaskStage.Cancelled None (Abandoned false) seat s k first growth cut may t =
    poll_waits place TaskStage.Cancelled (Abandoned false) seat None s k first growth cut may
    (still_is (is_in_time cut) (has_finished (acts_of s cut) || has_given_up (acts_of s cut))
    (number (acts_of s cut)) t.slot.0 t.slot.1) t.slot.0 t
poll_goes place TaskStage.Gone found content seat s k first growth cut may t = absurd (cc)
poll_goes place TaskStage.LetGo found content seat s k first growth cut may t = absurd (cc)
poll_goes place _ _ _ seat s k first growth cut may t = absurd t.slot

-- ---- cancels, detaching and drops

not_over : (content : Content ℕ) (finished gave in_time : Bool) (n : ℕ)
    → SlotAs TaskStage.Attached content None finished gave in_time n → finished || gave ≡ false
    → IsPending (without_owner content)
not_over Empty finished gave in_time n slot idle = tt
not_over (Full m) finished gave in_time n slot idle =
    absurd (let f = or_left finished gave slot.0 in cc)
not_over GivenUp finished gave in_time n slot idle =
    absurd (let f = or_right finished gave slot.1 in cc)
not_over (Abandoned over) finished gave in_time n slot idle = absurd slot

-- what a cancel finds
keeps_found : (content : Content ℕ) (finished gave in_time : Bool) (n : ℕ)
    → SlotAs TaskStage.Attached content None finished gave in_time n
    → SlotAs TaskStage.Cancelled (without_owner content) (full_with content) finished gave in_time n
keeps_found Empty finished gave in_time n slot = (or_from finished gave slot.0 slot.1, slot.2)
keeps_found (Full m) finished gave in_time n slot = (or_left finished gave slot.0, (slot.1, slot.2))
keeps_found GivenUp finished gave in_time n slot = (or_right finished gave slot.1, slot.2)
keeps_found (Abandoned over) finished gave in_time n slot = absurd slot

cancel_goes : (place : JobNumber) (how : TaskStage) (found : Option ℕ) (content : Content ℕ)
    (seat : Option (Unit {0})) (s k first : ℕ) (growth : Growth) (cut : List Event)
    → may_be how Cancel ≡ true → TaskAs (task_by place how content seat found) s cut
    → Goes (task_after_cancel (task_by place how content seat found)) s cut
    (by_task k TaskCancelled first growth)
cancel_goes place TaskStage.Attached found content seat s k first growth cut may t =
    record {
      law = (t.gone, t.cancel);
      tie = record {
        gone = t.gone;
        cancel = refl;
        let_go = refl;
        seat = t.seat;
        slot = keeps_found content (has_finished (acts_of s cut)) (has_given_up (acts_of s cut))
            (is_in_time cut) (number (acts_of s cut)) t.slot;
        told = λ w. absurd (never w);
      };
    }
cancel_goes place _ found content seat s k first growth cut may t = absurd (cc)

detach_goes : (place : JobNumber) (how : TaskStage) (found : Option ℕ) (content : Content ℕ)
    (seat : Option (Unit {0})) (s k first : ℕ) (growth : Growth) (cut : List Event)
    → may_be how Detach ≡ true → TaskAs (task_by place how content seat found) s cut
    → Goes (task_after_detach (task_by place how content seat found)) s cut
    (by_task k TaskDetached first growth)
detach_goes place TaskStage.Attached found content seat s k first growth cut may t =
    record {
      law = (t.gone, t.cancel);
      tie = record {
        gone = refl;
        cancel = tt;
        let_go = t.let_go;
        seat = t.seat;
        slot = not_over content (has_finished (acts_of s cut)) (has_given_up (acts_of s cut))
            (is_in_time cut) (number (acts_of s cut)) t.slot;
        told = λ w. absurd (never w);
      };
    }
detach_goes place _ found content seat s k first growth cut may t = absurd (cc)

drop_goes : (place : JobNumber) (how : TaskStage) (found : Option ℕ) (content : Content ℕ)
    (seat : Option (Unit {0})) (s k first : ℕ) (growth : Growth) (cut : List Event)
    → may_be how Drop ≡ true → TaskAs (task_by place how content seat found) s cut
    → Goes (task_after_drop (task_by place how content seat found)) s cut
    (by_task k HolderDropped first growth)
drop_goes place TaskStage.Attached found content seat s k first growth cut may t =
    record {
      law = (t.gone, tt);
      tie = record {
        gone = refl;
        cancel = tt;
        let_go = refl;
        seat = t.seat;
        slot = not_over content (has_finished (acts_of s cut)) (has_given_up (acts_of s cut))
            (is_in_time cut) (number (acts_of s cut)) t.slot;
        told = λ w. absurd (never w);
      };
    }
drop_goes place TaskStage.Cancelled found (Abandoned over) seat s k first growth cut may t =
    record {
      law = (t.gone, tt);
      tie = record {
        gone = refl;
        cancel = tt;
        let_go = refl;
        seat = t.seat;
        slot = pending over (has_finished (acts_of s cut)
            || has_given_up (acts_of s cut)) t.slot.0;
        told = λ w. absurd (never w);
      };
    }
drop_goes place TaskStage.Cancelled found _ seat s k first growth cut may t = absurd t.slot
drop_goes place _ found content seat s k first growth cut may t = absurd (cc)

-- each call of a task that may be called so
pub call_goes : (call : TaskCall) (task : Task) (s k first : ℕ) (growth : Growth) (cut : List Event)
    → may_be task.stage call ≡ true → TaskAs task s cut
    → Goes (task_after_call call task) s cut (by_task k (task_act call task) first growth)
call_goes Poll task s k first growth cut may t = poll_goes task.number task.stage task.found
    task.slot.content task.slot.seat s k first growth cut may t
call_goes Cancel task s k first growth cut may t = cancel_goes task.number task.stage task.found
    task.slot.content task.slot.seat s k first growth cut may t
call_goes Detach task s k first growth cut may t = detach_goes task.number task.stage task.found
    task.slot.content task.slot.seat s k first growth cut may t
call_goes Drop task s k first growth cut may t = drop_goes task.number task.stage task.found
    task.slot.content task.slot.seat s k first growth cut may t
