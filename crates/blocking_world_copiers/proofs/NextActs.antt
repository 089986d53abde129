-- What the poll of a writer does next, by its call and by where its handle is.
use Rattle.std.proofs.Common.{◌≡◌, ⊎_elim, ℕ, ◌<◌, List, [], ◌∷◌, Bool, true, false, refl, sym}
use Rattle.std.proofs.Common.{ap, ◌∙◌, subst, Option, Some, None, arith}
use Rattle.blocking_world_laws.specs.Seen.{acts_of}
use Rattle.blocking_world_laws.specs.Sessions.{Idle}
use Rattle.blocking_world_copiers.proofs.Words.{Kind, Writing, Fault, Session, State, In, table}
use Rattle.blocking_world_copiers.proofs.Words.{after_end, OwnerActs, OwnerLaws, Polls, OwnerAction}
use Rattle.blocking_world_copiers.proofs.Words.{Begin, Fill, Say, Rest, at_asked, at_accepted}
use Rattle.blocking_world_copiers.proofs.Words.{at_back, after_back, is_at_end, owner_next_but_wake}
use Rattle.blocking_world_copiers.proofs.Words.{next_of_owner_by, has_begun, refusal, fault, number}
use Rattle.blocking_world_copiers.proofs.Words.{last_session, session, is_closed, is_shut, state}
use Rattle.blocking_world_copiers.proofs.Words.{state_by, own, call, under_way, Act, Made, Asked}
use Rattle.blocking_world_copiers.proofs.Words.{Accepted, Refused, OwnerClosed, GotEnd, Back}
use Rattle.blocking_world_copiers.proofs.Words.{JobWoken, Replied, HolderDropped, Event, Reply}
use Rattle.blocking_world_copiers.proofs.Words.{Okay, Failed, HandleCall, Read, Write, Flush, Next}
use Rattle.blocking_world_copiers.specs.Ties.{ends_flush}
use Rattle.blocking_world_copiers.proofs.Polls.{IsFor, is_for, acts_now, own_after, own_law}
use Rattle.blocking_world_copiers.proofs.Polls.{no_poll, no_ask, no_owner}

-- ---- the end of a pipe is seen by reads alone

abbrev takes_out : Option HandleCall → Bool
takes_out (Some (Read n)) = true
takes_out (Some Next) = true
takes_out asked = false

-- who sees an end reads, or takes items
abbrev pub EndsAs : List Act → Type 0
EndsAs (GotEnd ∷ acts) = takes_out (call acts) ≡ true
EndsAs (JobWoken s woke ∷ acts) = EndsAs acts
EndsAs acts = Unit {0}

end_by : (cut : List Event) → OwnerActs cut GotEnd → takes_out (call (own cut)) ≡ true
end_by cut does = ⊎_elim
    (λ receives.
    ap takes_out (subst (λ a. IsFor a (call (own cut))) receives (is_for cut (own cut))))
    (λ drains.
    let for : (call (own cut) ≡ Some (Read drains.0)) × (0 < drains.0) =
    subst (λ a. IsFor a (call (own cut))) drains.1 (is_for cut (own cut)) in
    ap takes_out for.0)
    (acts_now cut GotEnd does tt)

ends_on : (cut : List Event) (act : Act) → EndsAs (own cut) → OwnerActs cut act
    → EndsAs (act ∷ own cut)
ends_on cut GotEnd was does = end_by cut does
ends_on cut (JobWoken s woke) was does = was
ends_on cut act was does = tt

pub ends_as : (cut : List Event) → OwnerLaws cut → EndsAs (own cut)
ends_as [] laws = tt
ends_as (now ∷ cut) laws =
    let was = ends_as cut laws.1 in
    own_after EndsAs now cut (λ is. was)
    (λ is. ends_on cut now.act was (own_law now cut laws is))

-- ---- where a handle is

-- not in a session whose pipe is shut, where it is in one that is open
shut_open : (closed : Bool) (last : Option Session) (kind : Kind)
    → state_by closed last true ≡ In kind true → ⊥
shut_open true last kind is = absurd cc
shut_open false None kind is = absurd cc
shut_open false (Some s) kind is = absurd cc

pub shut_now : (closed : Bool) (last : Option Session) (shut b : Bool) (kind : Kind)
    → state_by closed last shut ≡ In kind b → state_by closed last true ≡ In kind false
shut_now true last shut b kind is = absurd cc
shut_now false None shut b kind is = absurd cc
shut_now false (Some s) shut b kind is = let same : s.kind ≡ kind = cc in ap (λ k. In k false) same

-- not in a session, where it is back
back_out : (closed : Bool) (shut b : Bool) (kind : Kind) → state_by closed None shut ≡ In kind b → ⊥
back_out true shut b kind is = absurd cc
back_out false shut b kind is = absurd cc

-- where it is in one, that is the last
pub in_last : (acts : List Act) (kind : Kind) (b : Bool) → state acts ≡ In kind b
    → (s : Session) × (last_session acts ≡ Some s) × (s.kind ≡ kind)
in_last acts kind b is =
    let one = of_state (is_closed acts) (session acts) (is_shut acts) is in
    (one.0, of_session acts one.0 one.1, one.2)
  where
    of_state : (closed : Bool) (o : Option Session) (shut : Bool)
        → state_by closed o shut ≡ In kind b → (s : Session) × (o ≡ Some s) × (s.kind ≡ kind)
    of_state true o shut is = absurd cc
    of_state false None shut is = absurd cc
    of_state false (Some s) shut is = (s, refl, (let same : s.kind ≡ kind = cc in same))

    of_session : (acts : List Act) (s : Session) → session acts ≡ Some s
        → last_session acts ≡ Some s
    of_session [] s is = absurd cc
    of_session (Back ∷ acts) s is = absurd cc
    of_session (Accepted n ∷ acts) s is = is
    of_session (act ∷ acts) s is = of_session acts s is

-- ---- a pipe is filled only where it is open

fills_here : (asked : HandleCall) (at : State) (bytes : List ℕ) → table asked at ≡ Fill bytes
    → at ≡ In Writing true
fills_here asked at bytes is = grind arith

fills_asked : (asked : HandleCall) (begun : Bool) (at : State) (bytes : List ℕ)
    → at_asked asked begun at ≡ Fill bytes → at ≡ In Writing true
fills_asked asked begun at bytes is = grind (arith, fills_here)

fills_begun : (asked : Option HandleCall) (at : State) (bytes : List ℕ)
    → at_accepted asked at ≡ Fill bytes → at ≡ In Writing true
fills_begun asked at bytes is = grind (arith, fills_here)

-- not where the handle is idle, or has come back
idle_fills : (asked : HandleCall) (bytes : List ℕ) → table asked Idle ≡ Fill bytes → ⊥
idle_fills asked bytes is = let fits = fills_here asked Idle bytes is in absurd cc

end_fills : (asked : HandleCall) (ended : Bool) (kind : Kind) (n : ℕ) (bytes : List ℕ)
    → after_end asked ended kind n ≡ Fill bytes → ⊥
end_fills asked ended kind n bytes is = grind (arith, idle_fills)

back_fills : (asked : HandleCall) (found : Option (Fault ℕ)) (ended : Bool) (kind : Kind) (n : ℕ)
    (bytes : List ℕ) → after_back asked found ended kind n ≡ Fill bytes → ⊥
back_fills asked found ended kind n bytes is = grind (arith, end_fills)

return_fills : (asked : Option HandleCall) (last : Option Session) (ended : Bool) (cut : List Event)
    (bytes : List ℕ) → at_back asked last ended cut ≡ Fill bytes → ⊥
return_fills (Some asked) (Some s) ended cut bytes is = back_fills asked
    (fault s.kind (acts_of s.serial cut)) ended s.kind (number (acts_of s.serial cut)) bytes is
return_fills None last ended cut bytes is = absurd cc
return_fills (Some asked) None ended cut bytes is = absurd cc

pub fills_open : (cut : List Event) (acts : List Act) (bytes : List ℕ)
    → owner_next_but_wake cut acts ≡ Fill bytes → state acts ≡ In Writing true
fills_open cut [] bytes is = absurd cc
fills_open cut (Asked asked ∷ acts) bytes is =
    fills_asked asked (has_begun acts) (state acts) bytes is
fills_open cut (Accepted s ∷ acts) bytes is =
    fills_begun (call acts) (state (Accepted s ∷ acts)) bytes is
fills_open cut (Back ∷ acts) bytes is =
    absurd (return_fills (call acts) (last_session acts) (is_at_end acts) cut bytes is)
fills_open cut (JobWoken s woke ∷ acts) bytes is = fills_open cut acts bytes is
fills_open cut (act ∷ acts) bytes is = absurd cc

-- ---- a write whose pipe is open

-- it fills the pipe, or replies
abbrev pub IsOfWrite : OwnerAction → Type 0
IsOfWrite (Fill bytes) = Unit {0}
IsOfWrite (Say reply) = Unit {0}
IsOfWrite Rest = Unit {0}
IsOfWrite action = ⊥

write_asked : (bytes : List ℕ) (begun : Bool)
    → IsOfWrite (at_asked (Write bytes) begun (In Writing true))
write_asked [] begun = tt
write_asked (x ∷ bytes) begun = tt

write_begun : (bytes : List ℕ) → IsOfWrite (at_accepted (Some (Write bytes)) (In Writing true))
write_begun [] = tt
write_begun (x ∷ bytes) = tt

pub write_next : (cut : List Event) (acts : List Act) (bytes : List ℕ)
    → call acts ≡ Some (Write bytes) → state acts ≡ In Writing true → EndsAs acts
    → IsOfWrite (owner_next_but_wake cut acts)
write_next cut [] bytes called at ends = tt
write_next cut (Asked asked ∷ acts) bytes called at ends =
    let same : asked ≡ Write bytes = cc in
    subst (λ c. IsOfWrite (at_asked c (has_begun acts) (state acts)))
    (sym same) (subst (λ s. IsOfWrite (at_asked (Write bytes) (has_begun acts) s)) (sym at)
    (write_asked bytes (has_begun acts)))
write_next cut (Accepted s ∷ acts) bytes called at ends =
    subst (λ c. IsOfWrite (at_accepted c (state (Accepted s ∷ acts)))) (sym called)
    (subst (λ s. IsOfWrite (at_accepted (Some (Write bytes)) s)) (sym at) (write_begun bytes))
write_next cut (OwnerClosed told ∷ acts) bytes called at ends =
    absurd (shut_open (is_closed acts) (session acts) Writing at)
write_next cut (GotEnd ∷ acts) bytes called at ends =
    absurd (let none = sym (ap takes_out called) ∙ ends in cc)
write_next cut (Back ∷ acts) bytes called at ends =
    absurd (back_out (is_closed acts) (is_shut acts) true Writing at)
write_next cut (JobWoken s woke ∷ acts) bytes called at ends =
    write_next cut acts bytes called at ends
write_next cut (act ∷ acts) bytes called at ends = tt

-- ---- a flush

-- while the handle is out it begins nothing, fills nothing and doesn't say that all went well
abbrev pub IsOfFlush : OwnerAction → Type 0
IsOfFlush Begin = ⊥
IsOfFlush (Fill bytes) = ⊥
IsOfFlush (Say Okay) = ⊥
IsOfFlush action = Unit {0}

flush_asked : (begun b : Bool) → IsOfFlush (at_asked Flush begun (In Writing b))
flush_asked begun true = tt
flush_asked begun false = tt

flush_begun : (b : Bool) → IsOfFlush (at_accepted (Some Flush) (In Writing b))
flush_begun true = tt
flush_begun false = tt

pub flush_next : (cut : List Event) (acts : List Act) (b : Bool) → call acts ≡ Some Flush
    → state acts ≡ In Writing b → IsOfFlush (owner_next_but_wake cut acts)
flush_next cut [] b called at = tt
flush_next cut (Asked asked ∷ acts) b called at =
    let same : asked ≡ Flush = cc in
    subst (λ c. IsOfFlush (at_asked c (has_begun acts) (state acts)))
    (sym same) (subst (λ s. IsOfFlush (at_asked Flush (has_begun acts) s)) (sym at)
    (flush_asked (has_begun acts) b))
flush_next cut (Accepted s ∷ acts) b called at =
    subst (λ c. IsOfFlush (at_accepted c (state (Accepted s ∷ acts)))) (sym called)
    (subst (λ s. IsOfFlush (at_accepted (Some Flush) s)) (sym at) (flush_begun b))
flush_next cut (Refused reason ∷ acts) b called at =
    subst (λ c. IsOfFlush (Say (refusal c reason))) (sym called) tt
flush_next cut (Back ∷ acts) b called at =
    absurd (back_out (is_closed acts) (is_shut acts) b Writing at)
flush_next cut (JobWoken s woke ∷ acts) b called at = flush_next cut acts b called at
flush_next cut (act ∷ acts) b called at = tt

-- the handle has just come back from it
abbrev pub IsJustBack : List Act → Type 0
IsJustBack (Back ∷ acts) = (under_way acts ≡ Some Flush) × (is_at_end acts ≡ false)
IsJustBack acts = ⊥

pub not_at_end : (acts : List Act) → EndsAs acts → call acts ≡ Some Flush → is_at_end acts ≡ false
not_at_end [] ends called = refl
not_at_end (GotEnd ∷ acts) ends called = absurd (let none = sym (ap takes_out called) ∙ ends in cc)
not_at_end (act ∷ acts) ends called = refl

-- then it ends
abbrev IsFlushEnd : OwnerAction → Type 0
IsFlushEnd (Say Okay) = Unit {0}
IsFlushEnd (Say (Failed why)) = Unit {0}
IsFlushEnd Rest = Unit {0}
IsFlushEnd action = ⊥

ends_by : (found : Option (Fault ℕ)) (kind : Kind) (n : ℕ)
    → IsFlushEnd (after_back Flush found false kind n)
ends_by None kind n = tt
ends_by (Some why) kind n = tt

ends_at : (last : Option Session) (cut : List Event)
    → IsFlushEnd (at_back (Some Flush) last false cut)
ends_at None cut = tt
ends_at (Some s) cut =
    ends_by (fault s.kind (acts_of s.serial cut)) s.kind (number (acts_of s.serial cut))

back_next : (cut : List Event) (acts : List Act) → call acts ≡ Some Flush → is_at_end acts ≡ false
    → IsFlushEnd (at_back (call acts) (last_session acts) (is_at_end acts) cut)
back_next cut acts called ended =
    subst (λ c. IsFlushEnd (at_back c (last_session acts) (is_at_end acts) cut)) (sym called)
    (subst (λ b. IsFlushEnd (at_back (Some Flush) (last_session acts) b cut)) (sym ended)
    (ends_at (last_session acts) cut))

-- what is done is a reply that ends a flush
abbrev pub IsEnd : Act → Type 0
IsEnd act = (reply : Reply) × (act ≡ Replied reply) × (ends_flush (Some Flush) reply ≡ true)

end_is : (cut : List Event) (action : OwnerAction) (act : Act) → IsFlushEnd action
    → Polls cut action act → IsEnd act
end_is cut (Say Okay) act ends does = (Okay, does, refl)
end_is cut (Say (Failed why)) act ends does = (Failed why, does, refl)
end_is cut Rest act ends does = absurd does
end_is cut action act ends does = absurd ends

said_back : (cut : List Event) (acts : List Act) (act : Act) → IsJustBack acts
    → call acts ≡ Some Flush → Polls cut (next_of_owner_by cut acts) act → IsEnd act
said_back cut (Back ∷ acts) act back called does =
    end_is cut (at_back (call acts) (last_session acts) (is_at_end acts) cut) act
    (back_next cut acts called back.1) does
said_back cut acts act back called does = absurd back

pub back_under : (acts : List Act) → IsJustBack acts → under_way acts ≡ Some Flush
back_under (Back ∷ acts) back = back.0
back_under acts back = absurd back

pub after_return : (cut : List Event) (act : Act) → IsJustBack (own cut)
    → call (own cut) ≡ Some Flush → OwnerActs cut act → IsEnd act
after_return cut (Made h capacity) back called does =
    absurd (no_owner cut Flush (back_under (own cut) back) does)
after_return cut (Asked asked) back called does =
    absurd (no_ask (own cut) Flush asked (back_under (own cut) back) does)
after_return cut HolderDropped back called does =
    absurd (no_poll (own cut) Flush (back_under (own cut) back) does)
after_return cut act back called does = said_back cut (own cut) act back called does
