-- Each move keeps whose each job is, and the client limit, as they were seen.
use Rattle.std.proofs.Common.{◌≡◌, ℕ, ◌<◌, ◌==◌, if◌then◌else◌, List, ◌∷◌, Bool, true, false, refl}
use Rattle.std.proofs.Common.{sym, ap, ◌∙◌, subst, Option, Some, None, Ok, Err, IfSome, option_map}
use Rattle.std.proofs.Common.{arith}
use Rattle.std.specs.FinMap.{get}
use Rattle.std.proofs.lemmas.Bool.{cond_both}
use Rattle.blocking_world_laws.specs.Jobs.{client}
use Rattle.blocking_world_laws.specs.Queue.{client_limit}
use Rattle.blocking_world_pool.proofs.Types.{Stay, Stop, Moment, Worker, Step, Ticket}
use Rattle.blocking_world_pool.proofs.Words.{Job as Entry, new_job, new_ticket, IsPlanned, Crew}
use Rattle.blocking_world_pool.proofs.Words.{Move, Adds, TakesJob, Works, EndsTurn, Parks}
use Rattle.blocking_world_pool.proofs.Words.{HasWaited, SetsClientLimit, IsLetGo, Tells, call_of}
use Rattle.blocking_world_pool.proofs.Words.{next_start, after, May, no_growth, JobPool, Assigned}
use Rattle.blocking_world_pool.proofs.Words.{Limited, CrewHolds, moment_of, IsAsked}
use Rattle.blocking_world_pool.specs.declared.tickets.Parking.TheVariants as parking
use Rattle.blocking_world_pool.proofs.growth.Sweeps.{sweep_limit}
use Rattle.blocking_world_pool.proofs.jobs.Changes.{change_of, found_after}
use Rattle.blocking_world_pool.proofs.jobs.Marks.{mark_by, let_go_alone}
use Rattle.blocking_world_pool.proofs.ties.Acts.{now_with, plain, aside_plain, by_work, by_let_go}
use Rattle.blocking_world_pool.proofs.ties.Acts.{by_end}

-- ---- whose a job is

-- a job is this client's, where it is there
abbrev IsOf : Option (Entry Ticket) → ℕ → Type 0
IsOf found c = (entry : Entry Ticket) → found ≡ Some entry → entry.client ≡ c

-- a change that leaves it its client's
same_client : (change : Entry Ticket → Entry Ticket)
    → ((entry : Entry Ticket) → (change entry).client ≡ entry.client)
    → (found : Option (Entry Ticket)) (c : ℕ) → IsOf found c → IsOf (option_map change found) c
same_client change same None c its entry is = absurd cc
same_client change same (Some old) c its entry is =
    let changed : change old ≡ entry = cc in
    ap (λ (e : Entry Ticket). e.client) (sym changed) ∙ same old ∙ its old refl

mark_client : (value : Option Ticket) (entry : Entry Ticket)
    → (mark_by value entry).client ≡ entry.client
mark_client value entry = grind arith

-- whether a move makes a job, or sets the client limit
abbrev pub is_for_clients : Move → Bool
is_for_clients (Adds who c (Ok number) growth pool) = true
is_for_clients (SetsClientLimit limit) = true
is_for_clients move = false

-- What an act leaves as it was that makes no job and doesn't set the client limit.
record LeavesClients (past : List Moment) (last : Moment) : Type 0 where
  clients : (s : ℕ) → client (last ∷ past) s ≡ client past s
  limit : client_limit (last ∷ past) ≡ client_limit past

module _ (setting : ℕ) (plan : List Bool) (crew : Crew) (past : List Moment) (step : Step)
    (owner : Option ℕ) (h : CrewHolds setting plan crew past) where
  left : (move : Move) → May (IsPlanned plan) crew move → is_for_clients move ≡ false
      → LeavesClients past (moment_of crew move step owner)
  left (Adds who c (Ok number) growth pool) may is = absurd cc
  left (Adds who c (Err why) growth pool) may is = record { clients = λ s. refl; limit = refl }
  left (TakesJob v old true turn ticket growth pool) may is =
      record { clients = λ s. refl; limit = refl }
  left (TakesJob v old false turn ticket growth pool) may is =
      record { clients = λ s. refl; limit = refl }
  left (Works v held act) may is =
      by_work (λ at act. LeavesClients past (now_with step owner (Worker v) (Some held.turn.serial)
      act (next_start crew) no_growth))
      (λ at act is same fits. let p = plain setting
      past step owner (Worker v) (Some held.turn.serial) (next_start crew) no_growth act is in
      record { clients = p.client_is; limit = p.limit_is })
      (record { clients = λ s. refl; limit = refl })
      (λ w. record { clients = λ s. refl; limit = refl }) held.stage act may.1
  left (EndsTurn v held pass) may is =
      by_end (λ act. LeavesClients past (now_with step owner (Worker v) (Some held.turn.serial) act
      (next_start crew) no_growth)) held.turn.serial
      (record { clients = λ s. refl; limit = refl }) (record { clients = λ s. refl; limit = refl })
      held.stage
  left (Parks v held ticket (parking.Parked pass) pool) may is =
      record { clients = λ s. refl; limit = refl }
  left (Parks v held ticket (parking.Queued pass) pool) may is =
      record { clients = λ s. refl; limit = refl }
  left (Parks v held ticket (parking.HandedOut back) pool) may is =
      record { clients = λ s. refl; limit = refl }
  left (HasWaited v pass end (Stay back) growth pool) may is =
      record { clients = λ s. refl; limit = refl }
  left (HasWaited v pass end Stop growth pool) may is = record { clients = λ s. refl; limit = refl }
  left (SetsClientLimit limit) may is = absurd cc
  left (IsLetGo who act number) may is =
      by_let_go
      (λ act. LeavesClients past (now_with step owner who None act (next_start crew) no_growth))
      (record { clients = λ s. refl; limit = refl })
      (record { clients = λ s. refl; limit = refl }) act may
  left (Tells who act) may is =
      let p = plain setting past step owner who None (next_start crew) no_growth act
      (aside_plain act may) in record { clients = p.client_is; limit = p.limit_is }
  left move may is = record { clients = λ s. refl; limit = refl }

  -- ---- each job's client

  becomes_its : (move : Move) (s c : ℕ)
      → May (IsPlanned plan) crew move → is_for_clients move ≡ false → IsOf (get crew.pool.jobs s) c
      → IsOf ((change_of crew move).becomes (get crew.pool.jobs s)) c
  becomes_its move s c may is its = grind (arith, same_client, mark_client)

  kept : (move : Move) (s c : ℕ) → May (IsPlanned plan) crew move → is_for_clients move ≡ false
      → IsOf (get crew.pool.jobs s) c → IsOf (get (after crew move).pool.jobs s) c
  kept move s c may is its =
      let change = change_of crew move in
      subst (λ o. IsOf o c) (sym (found_after (IsPlanned plan) crew move s may))
      (cond_both (change.which s) (change.becomes (get crew.pool.jobs s)) (get crew.pool.jobs s)
      (λ o. IsOf o c) (λ changes. becomes_its move s c may is its) (λ stays. its))

  clients_kept : (move : Move) → May (IsPlanned plan) crew move → is_for_clients move ≡ false
      → Assigned (after crew move).pool (moment_of crew move step owner ∷ past)
  clients_kept move may is s =
      subst (IsOf (get (after crew move).pool.jobs s)) (sym ((left move may is).clients s))
      (kept move s (client past s) may is (h.tied.assigned s))

  new_client : (place c new before : ℕ) (b : Bool) (found : Option (Entry Ticket))
      → c ≡ new → IsOf found before
      → IsOf (if b then Some (new_job place c new_ticket) else found) (if b then new else before)
  new_client place c new before true found asked its entry is =
      let made : new_job place c new_ticket ≡ entry = cc in
      ap (λ (e : Entry Ticket). e.client) (sym made) ∙ asked
  new_client place c new before false found asked its entry is = its entry is

  -- Each move keeps each job its client's.
  pub clients_after : (move : Move)
      → May (IsPlanned plan) crew move → IsAsked crew past step (call_of move)
      → Assigned (after crew move).pool (moment_of crew move step owner ∷ past)
  clients_after (Adds who c (Ok number) growth pool) may asked s =
      subst (λ o. IsOf
      o (client (moment_of crew (Adds who c (Ok number) growth pool) step owner ∷ past) s))
      (sym (found_after (IsPlanned plan) crew (Adds who c (Ok number) growth pool) s may))
      (new_client number.place c _ (client past s) (number.serial == s) (get crew.pool.jobs s) asked
      (h.tied.assigned s))
  clients_after (SetsClientLimit limit) may asked s = h.tied.assigned s
  clients_after move may asked s = clients_kept move may refl s

  -- ---- the client limit

  same_limit : (move : Move) → May (IsPlanned plan) crew move → is_for_clients move ≡ false
      → (after crew move).pool.client_limit ≡ crew.pool.client_limit
  same_limit move may is = grind (arith, sweep_limit, let_go_alone)

  limited : (pool : JobPool) (last : Moment) → pool.client_limit ≡ crew.pool.client_limit
      → client_limit (last ∷ past) ≡ client_limit past → Limited pool (last ∷ past)
  limited pool last same seen = record {
    limit_is = same ∙ h.tied.limited.limit_is ∙ sym seen;
    positive = subst (λ (limit : Option ℕ). IfSome limit (λ most. 0 < most)) (sym same)
        h.tied.limited.positive;
  }

  -- Each move keeps the client limit the one that was seen.
  pub client_limit_after : (move : Move) → May (IsPlanned plan) crew move
      → Limited (after crew move).pool (moment_of crew move step owner ∷ past)
  client_limit_after (Adds who c (Ok number) growth pool) may =
      limited pool _ (ap (λ (p : JobPool). p.client_limit) may.after_is) refl
  client_limit_after (SetsClientLimit limit) may = record { limit_is = refl; positive = may }
  client_limit_after move may =
      limited (after crew move).pool _ (same_limit move may refl) (left move may refl).limit
