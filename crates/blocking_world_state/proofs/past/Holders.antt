-- Who holds a job: it has a holder exactly if it was accepted.
use Rattle.std.proofs.Common.{◌≡◌, ℕ, ◌==◌, List, [], ◌∷◌, Bool, true, false, refl, sym, ◌∙◌}
use Rattle.std.proofs.Common.{Option, Some, if◌then◌else◌, is_some}
use Rattle.std.proofs.lemmas.Bool.{eqb-true, eqb-false}
use Rattle.blocking_world_state.proofs.Types.{Act, Accepted, Moment, Party}
use Rattle.blocking_world_state.proofs.Words.{is_in, accepted_by, accepted_jobs, accepts, newcomer}
use Rattle.blocking_world_state.proofs.Words.{holder, joined}
use Rattle.blocking_pool.proofs.Lists.{is_in-last, is_in-push}

known_by : (act : Act) (s : ℕ) (jobs : List ℕ) (new : Party) (held : Option Party)
    → is_some held ≡ is_in s jobs
    → is_some (if accepts s act then Some new else held) ≡ is_in s (joined jobs (accepted_by act))
known_by (Accepted t) s jobs new held before = by (t == s) refl
  where
    by : (b : Bool) → (t == s) ≡ b
        → is_some (if b then Some new else held) ≡ is_in s (joined jobs (t ∷ []))
    by true same = sym (is_in-last s t jobs (sym (eqb-true t s same)))
    by false other = before ∙ sym (is_in-push s t jobs (λ same. eqb-false t s other (sym same)))
known_by _ s jobs new held before = before

pub holder_known : (past : List Moment) (s : ℕ)
    → is_some (holder past s) ≡ is_in s (accepted_jobs past)
holder_known [] s = refl
holder_known (now ∷ past) s = known_by now.event.act s (accepted_jobs past)
    (newcomer past now.event.party) (holder past s) (holder_known past s)
