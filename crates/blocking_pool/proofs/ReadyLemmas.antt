-- What is known of the jobs that are ready.
use Rattle.std.proofs.Common.{◌≡◌, ◌≢◌, ℕ, ◌+◌, ◌<◌, Bool, true, false, cond, eqb, List, [], ◌∷◌}
use Rattle.std.proofs.Common.{filter, length, Option, Some, None, IfSome, refl, ap, ◌∙◌, sym, arith}
use Rattle.std.proofs.lemmas.Bool.{eqb-true, lt-ltb, false≢true}
use Rattle.std.proofs.lemmas.List.{length-append}
use Rattle.std.proofs.lemmas.List.Elements.{filter-append}
use Rattle.std.specs.FinMap.{get}
use Rattle.blocking_pool.specs.Clients.{is_below, enrolled}
use Rattle.blocking_pool.specs.Counts.{Counts}
use Rattle.blocking_pool.specs.Jobs.{new_job, one_if}
use Rattle.blocking_pool.specs.Lists.{is_in, first_of}
use Rattle.blocking_pool.specs.Pools.{Pool, IsQueueOf, IsSound, is_queued_job, has_room, ready}
use Rattle.blocking_pool.specs.Pools.{ready_with, after_entry}
use Rattle.blocking_pool.specs.Ready.{client_of, of_client, running_of}
use Rattle.blocking_pool.specs.Tables.{tally_of}
use Rattle.blocking_pool.proofs.Lists.{first_in, kept_in, filter_same}
use Rattle.blocking_pool.proofs.HangLemmas.{first_of_client}
use Rattle.blocking_pool.proofs.TableLemmas.{at_insert_same, at_insert_other}
use Rattle.blocking_pool.proofs.TallyLemmas.{retold, running_at_most, entered_tally}

-- where each passes, all are kept
filter_all : (p : ℕ → Bool) (xs : List ℕ) → ((x : ℕ) → p x ≡ true) → filter p xs ≡ xs
filter_all p [] each = refl
filter_all p (x ∷ xs) each = ap (λ b. cond b (x ∷ filter p xs) (filter p xs)) (each x)
    ∙ ap (λ ys. x ∷ ys) (filter_all p xs each)

module _ {J : Type 0} where
  -- a ready job is queued
  pub ready_queued : (pool : Pool J) (serial : ℕ) → is_in serial (ready pool) ≡ true
      → is_in serial pool.queue ≡ true
  ready_queued pool serial found =
      (kept_in (λ s. has_room pool (client_of (get pool.jobs s))) serial pool.queue found).0

  -- and so is the first of them
  pub first_queued : (pool : Pool J) (serial : ℕ) → first_of (ready pool) ≡ Some serial
      → is_in serial pool.queue ≡ true
  first_queued pool serial first = ready_queued pool serial (first_in serial (ready pool) first)

  -- where each client has room, each queued job is ready
  pub all_roomy : (pool : Pool J) → ((client : ℕ) → has_room pool client ≡ true)
      → ready pool ≡ pool.queue
  all_roomy pool roomy = filter_all (λ s. has_room pool (client_of (get pool.jobs s))) pool.queue
      (λ s. roomy (client_of (get pool.jobs s)))

  -- so it is where no client limit is set
  pub all_ready : (pool : Pool J) → pool.client_limit ≡ None → ready pool ≡ pool.queue
  all_ready pool none = all_roomy pool
      (λ client. ap (λ limit. is_below limit (running_of pool.jobs client pool.next_serial)) none)

  -- where nobody works, each client has room
  pub nobody_runs : (pool : Pool J) (client : ℕ) → IsSound pool → pool.counts.workers ≡ 0
      → has_room pool client ≡ true
  nobody_runs pool client sound nobody = by_limit pool.client_limit sound.positive
    where
      none : running_of pool.jobs client pool.next_serial ≡ 0
      none = omega (arith, sound.running, nobody, running_at_most pool.jobs pool.next_serial client)

      by_limit : (limit : Option ℕ) → IfSome limit (λ most. 0 < most)
          → is_below limit (running_of pool.jobs client pool.next_serial) ≡ true
      by_limit None some = refl
      by_limit (Some most) some = lt-ltb _ most (omega (arith, none, some))

  -- and each queued job is ready
  pub ready_unstaffed : (pool : Pool J) → IsSound pool → pool.counts.workers ≡ 0
      → ready pool ≡ pool.queue
  ready_unstaffed pool sound nobody =
      all_roomy pool (λ client. nobody_runs pool client sound nobody)

  -- where nobody works, a new job is ready, whosever it is
  pub ready_with_one : (pool : Pool J) (client : ℕ) → IsSound pool → pool.counts.workers ≡ 0
      → ready_with pool client ≡ length (ready pool) + 1
  ready_with_one pool client sound nobody =
      ap (λ b. length (ready pool) + one_if b) (nobody_runs pool client sound nobody)

  -- the first ready job is the first of its client's
  pub first_of_its_client : (pool : Pool J) (serial : ℕ) → first_of (ready pool) ≡ Some serial
      → first_of (of_client pool.jobs (client_of (get pool.jobs serial)) pool.queue) ≡ Some serial
  first_of_its_client pool serial first =
      first_of_client (has_room pool) (λ s. client_of (get pool.jobs s)) pool.queue serial first

  -- so many jobs are ready after a new one has entered
  pub ready_after_entry : (pool : Pool J) (place client : ℕ) (value : J) (counts : Counts)
      → IsQueueOf pool.queue pool.jobs → get pool.jobs pool.next_serial ≡ None
      → length (ready (after_entry pool place client value counts)) ≡ ready_with pool client
  ready_after_entry pool place client value counts queue unused =
      ap length (filter-append passes pool.queue (serial ∷ []))
      ∙ length-append (filter passes pool.queue) (filter passes (serial ∷ []))
      ∙ ap (λ xs. length xs + length (filter passes (serial ∷ []))) before
      ∙ ap (λ n. length (ready pool) + n) (last (passes serial) refl)
    where
      serial : ℕ
      serial = pool.next_serial

      new : Pool J
      new = after_entry pool place client value counts

      passes : ℕ → Bool
      passes s = has_room new (client_of (get new.jobs s))

      same_room : (c : ℕ) → has_room new c ≡ has_room pool c
      same_room c = ap (is_below pool.client_limit)
          (ap (λ t. t.running) (entered_tally pool.jobs place client serial value unused c) ∙ kept)
        where
          kept : (retold (tally_of pool.jobs serial) client enrolled c).running
              ≡ running_of pool.jobs c serial
          kept = enrolled_runs (eqb c client) refl
            where
              enrolled_runs : (b : Bool)
                  → eqb c client ≡ b → (cond b (enrolled (tally_of pool.jobs serial client))
                  (tally_of pool.jobs serial c)).running ≡ running_of pool.jobs c serial
              enrolled_runs true is =
                  ap (λ n. running_of pool.jobs n serial) (sym (eqb-true c client is))
              enrolled_runs false is = refl

      before : filter passes pool.queue ≡ ready pool
      before =
          filter_same passes (λ s. has_room pool (client_of (get pool.jobs s))) pool.queue
          (λ s found.
          let far : s ≢ serial =
          λ same. false≢true (sym (ap is_queued_job (ap (get pool.jobs) same ∙ unused))
          ∙ sym (queue.each s) ∙ found) in
          same_room (client_of (get new.jobs s)) ∙ ap (λ j. has_room pool (client_of j))
          (at_insert_other pool.jobs serial (new_job place client value) s far))

      last : (b : Bool) → passes serial ≡ b
          → length (cond b (serial ∷ []) []) ≡ one_if (has_room pool client)
      last b is =
          by_test b (sym is ∙ ap (λ j. has_room new (client_of j))
          (at_insert_same pool.jobs serial (new_job place client value)) ∙ same_room client)
        where
          by_test : (b : Bool) → b ≡ has_room pool client
              → length (cond b (serial ∷ []) []) ≡ one_if (has_room pool client)
          by_test true is = ap one_if is
          by_test false is = ap one_if is
