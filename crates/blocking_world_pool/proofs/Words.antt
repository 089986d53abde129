-- The words of the definitions that the proofs here speak of, by their names.
-- of the pool
pub use Rattle.blocking_pool.specs.Counts.{Counts, limit_of, louder, after_ring, after_pickup}
pub use Rattle.blocking_pool.specs.Counts.{after_release, after_arrival, after_stop}
pub use Rattle.blocking_pool.specs.Growth.{greatest, is_due, Asking, Narrows, StartAnswer, Growth}
pub use Rattle.blocking_pool.specs.Growth.{IsGrowth, number_after, limit_after, after_growth, Grows}
pub use Rattle.blocking_pool.specs.Jobs.{JobNumber, is_running, is_parked, Job, Jobs, one_if}
pub use Rattle.blocking_pool.specs.Jobs.{new_job, entry_after_take, is_running_job}
pub use Rattle.blocking_pool.specs.Jobs.{entry_after_requeue, entry_after_park, entry_after_wake}
pub use Rattle.blocking_pool.specs.Jobs.{entry_after_cancel, if_at, job_of, standing_of}
pub use Rattle.blocking_pool.specs.Jobs.{is_running_as, value_at, entry_with, jobs_after_change}
pub use Rattle.blocking_pool.specs.Jobs.{amend, jobs_after_requeue, is_parked_job}
pub use Rattle.blocking_pool.specs.Lists.{is_in, without, first_of}
pub use Rattle.blocking_pool.specs.PoolAnswers.{is_empty, Takes, must_stop, StaysOrStops}
pub use Rattle.blocking_pool.specs.Pools.{is_queued_job, IsSound, ready, ready_with, with_taken}
pub use Rattle.blocking_pool.specs.Pools.{empty_pool, after_entry, Enters, FindsNobody}
pub use Rattle.blocking_pool.specs.Pools.{after_requeue, EnterAgain, with_job, without_job}
pub use Rattle.blocking_pool.specs.Starters.{asked}
pub use Rattle.blocking_pool.specs.Sweeps.{serials_below, AreAsked, swept}
pub use Rattle.blocking_pool.specs.Wakes.{wake_of, cancel_of}
-- of the laws
pub use Rattle.blocking_world_laws.specs.Answers.{take_from, take_answer, end_of, end_answer}
pub use Rattle.blocking_world_laws.specs.Answers.{PoolAnswers, AnswerLaw}
pub use Rattle.blocking_world_laws.specs.Counts.{added, starts, refused_starts, is_arrival}
pub use Rattle.blocking_world_laws.specs.Counts.{arrivals, is_stop, workers, idle, limit_by, limit}
pub use Rattle.blocking_world_laws.specs.Growth.{grows, turned_away, IsPlanned, StartsRightly}
pub use Rattle.blocking_world_laws.specs.Growth.{HasWorker, GrowthLaw, is_limit_set, has_limit}
pub use Rattle.blocking_world_laws.specs.Jobs.{accepted_by, accepted_jobs, accepts, newcomer}
pub use Rattle.blocking_world_laws.specs.Jobs.{holder, is_holder, is_woken, is_cancelled, has_ended}
pub use Rattle.blocking_world_laws.specs.Jobs.{lets_go, is_marked, is_to_drop, is_queued, standing}
pub use Rattle.blocking_world_laws.specs.Queue.{to_sweep as seen_to_sweep, entered_by, taken_by}
pub use Rattle.blocking_world_laws.specs.Queue.{queue, ended_by, running, times}
pub use Rattle.blocking_world_laws.specs.Seen.{without_all, joined, is_of_pool, has_timed_out}
pub use Rattle.blocking_world_laws.specs.Seen.{is_nothing}
pub use Rattle.blocking_world_laws.specs.Steps.{is_there, is_free}
pub use Rattle.blocking_world_laws.specs.Turns.{Turn, GoesOn, IsWaiting, MustGiveUp, HasGivenUp}
pub use Rattle.blocking_world_laws.specs.Turns.{turn, hand, HoldsOne, FitsTurn, ActsInTurn, TurnLaw}
-- of the crew
pub use Rattle.blocking_world_pool.specs.Closing.{RunsIn, NoneDue, AreIdle, PassesOver}
pub use Rattle.blocking_world_pool.specs.Crews.{Crew, may_act, stage_after, may_end, is_waiting}
pub use Rattle.blocking_world_pool.specs.Crews.{outcome_of, standing_after, hand_in, hand_at}
pub use Rattle.blocking_world_pool.specs.Crews.{with_hand, hand_of, is_free_hand, pass_in, held_if}
pub use Rattle.blocking_world_pool.specs.Crews.{acting_in, held_after_act, hand_after_act, Joins}
pub use Rattle.blocking_world_pool.specs.Crews.{sum_of, one_if_free, free_hands, one_if_busy}
pub use Rattle.blocking_world_pool.specs.Crews.{busy_hands, IsReady}
pub use Rattle.blocking_world_pool.specs.Moves.{Call, Add, Arrive, Take, Work, End, Park, Wait}
pub use Rattle.blocking_world_pool.specs.Moves.{SetLimit, SetClientLimit, Move, Idles, Adds}
pub use Rattle.blocking_world_pool.specs.Moves.{Arrives, TakesJob, TakesNone, Works, EndsTurn}
pub use Rattle.blocking_world_pool.specs.Moves.{Parks, HasWaited, SetsLimit, SetsClientLimit}
pub use Rattle.blocking_world_pool.specs.Moves.{Sweeps, IsWoken, IsCancelled, IsLetGo, Tells}
pub use Rattle.blocking_world_pool.specs.Moves.{call_of, next_start, seen, nothing, named}
pub use Rattle.blocking_world_pool.specs.Moves.{added_act, took_act, job_of_take, act_of_take}
pub use Rattle.blocking_world_pool.specs.Moves.{parked_act, event_of, first_stage, hand_after_take}
pub use Rattle.blocking_world_pool.specs.Moves.{hand_after_park, after, has_action, is_aside, May}
pub use Rattle.blocking_world_pool.specs.Moves.{Moves, NeverAsked}
pub use Rattle.blocking_world_pool.specs.Tickets.{no_growth, new_ticket, JobPool, GrowsBy, Accepts}
pub use Rattle.blocking_world_pool.specs.Tickets.{FindsNoWorker, AddsTo, TakesFront, TakesTo}
pub use Rattle.blocking_world_pool.specs.Tickets.{EntersAgain, is_marked_ticket, is_due_to_sweep}
pub use Rattle.blocking_world_pool.specs.Tickets.{to_sweep, is_valued, AreValued, SweepsTo}
pub use Rattle.blocking_world_pool.specs.Tickets.{SweepsIf, WaitsSo, ParksTo, ParksSo}
pub use Rattle.blocking_world_pool.specs.Tickets.{ticket_after_mark, pool_after_mark_of}
pub use Rattle.blocking_world_pool.specs.Tickets.{pool_after_mark, pool_after_let_go}
pub use Rattle.blocking_world_pool.specs.Tickets.{with_client_limit}
pub use Rattle.blocking_world_pool.specs.Ties.{ValueAs, AbsentAs, FiledAs, FiledHere, Filed}
pub use Rattle.blocking_world_pool.specs.Ties.{Assigned, Limited, Lined, Numbered, IsNumberOf}
pub use Rattle.blocking_world_pool.specs.Ties.{Counted, HandAs, turn_of, Handed, Crewed, Holding}
pub use Rattle.blocking_world_pool.specs.Ties.{Served, CrewHolds, seen_as, moment_of, has_ticket}
pub use Rattle.blocking_world_pool.specs.Ties.{is_serial_of, HoldsAtRest, IsAsked, IsAside}
