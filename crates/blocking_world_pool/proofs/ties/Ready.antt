-- The ready jobs of a pool are those that the past tells.
use Rattle.std.proofs.Common.{◌≡◌, ℕ, ◌==◌, ◌&&◌, List, length, Bool, true, sym, ap, ◌∙◌, arith}
use Rattle.std.proofs.Common.{Option, Some}
use Rattle.std.specs.FinMap.{get}
use Rattle.blocking_pool.specs.Clients.{is_below}
use Rattle.blocking_pool.specs.Pools.{has_room}
use Rattle.blocking_pool.specs.Ready.{client_of, is_running_for, running_of}
use Rattle.blocking_world_laws.specs.Jobs.{client, is_running as runs_by_law}
use Rattle.blocking_world_laws.specs.Queue.{client_limit, of_client, has_room as has_room_by_law}
use Rattle.blocking_world_laws.specs.Queue.{ready as ready_by_law}
use Rattle.blocking_world_laws.proofs.Counted.{count_same, runs_for, running_of_so, ready_so}
use Rattle.blocking_world_laws.proofs.Queues.{Sound}
use Rattle.blocking_world_pool.proofs.Types.{Moment, Standing, Ticket}
use Rattle.blocking_world_pool.proofs.Words.{Job as Entry, is_in, ready, is_woken, is_cancelled}
use Rattle.blocking_world_pool.proofs.Words.{is_marked, has_ended, is_queued, standing, queue}
use Rattle.blocking_world_pool.proofs.Words.{running, JobPool, FiledAs, Filed, Assigned, Limited}
use Rattle.blocking_world_pool.proofs.Words.{Lined, Numbered}
use Rattle.blocking_world_pool.proofs.ties.Lists.{in_times}

-- ---- one job

-- a running job of a client, by its entry
runs_as_filed : (c its : ℕ) (found : Option (Entry Ticket)) (stand : Option Standing)
    (wake cancel mark ended : Bool) → FiledAs found stand wake cancel mark ended
    → ((entry : Entry Ticket) → found ≡ Some entry → entry.client ≡ its)
    → is_running_for c found ≡ (runs_by_law stand && its == c)
runs_as_filed c its found stand wake cancel mark ended filed of_its = grind arith

-- the client of a queued job, by its entry
client_as_filed : (its : ℕ) (found : Option (Entry Ticket)) (stand : Option Standing)
    (wake cancel mark ended : Bool) → FiledAs found stand wake cancel mark ended
    → ((entry : Entry Ticket) → found ≡ Some entry → entry.client ≡ its) → is_queued stand ≡ true
    → client_of found ≡ its
client_as_filed its found stand wake cancel mark ended filed of_its queued = grind arith

module _ (pool : JobPool) (past : List Moment) (sound : Sound past) (numbered : Numbered pool past)
    (filed : Filed pool past) (assigned : Assigned pool past) (limited : Limited pool past)
    (lined : Lined pool past) where
  -- as many jobs of a client run as were seen to
  counted : (c : ℕ)
      → running_of pool.jobs c pool.next_serial ≡ length (of_client past c (running past))
  counted c =
      let next = numbered.next in
      count_same (λ s. is_running_for c (get pool.jobs s)) (runs_for past c) pool.next_serial
      (λ s below.
      runs_as_filed c (client past s) (get pool.jobs s) (standing past s) (is_woken past s)
      (is_cancelled past s) (is_marked past s) (has_ended past s) (filed s) (assigned s))
      ∙ sym (running_of_so past sound c pool.next_serial (omega (arith, next)))

  -- so it has room where it was seen to have
  pub room_is : (c : ℕ) → has_room pool c ≡ has_room_by_law past c
  room_is c =
      ap (is_below pool.client_limit) (counted c)
      ∙ ap (λ (limit : Option ℕ). is_below limit (length (of_client past c (running past))))
      limited.limit_is

  -- each queued job is of the client that was seen
  its_client : (s : ℕ) → is_in s (queue past) ≡ true → client_of (get pool.jobs s) ≡ client past s
  its_client s found =
      client_as_filed (client past s) (get pool.jobs s) (standing past s) (is_woken past s)
      (is_cancelled past s) (is_marked past s) (has_ended past s) (filed s) (assigned s)
      (sym (in_times s (queue past) (is_queued (standing past s)) (sound.queued s)) ∙ found)

  -- The ready jobs are those that the past tells.
  pub ready_is : ready pool ≡ ready_by_law past
  ready_is =
      ready_so past pool.client_limit pool.queue (λ s. client_of (get pool.jobs s))
      (λ c. running_of pool.jobs c pool.next_serial) limited.limit_is lined its_client counted
