-- What is read off a lawful assembly.
use Rattle.std.proofs.Common.{◌≡◌, ℕ, List, Bool, not, slice_get}
use Rattle.blocking_world_laws.specs.Seen.{acts_of_owner, events}
use Rattle.blocking_world_laws.specs.Served.{IsServed}
use Rattle.blocking_world_laws.specs.Sessions.{is_poll_over, under_way}
use Rattle.blocking_world_laws.specs.Staffed.{IsStaffed, AreAsSeen}
use Rattle.blocking_world_laws.specs.Steps.{has_action, is_job_action}
use Rattle.blocking_world_laws.specs.declared.event.Moment.{Moment}
use Rattle.blocking_world_laws.specs.declared.step.Step.TheVariants.{Job}
use Rattle.blocking_world_pool.specs.Crews.{free_hands, busy_hands}
use Rattle.blocking_world_state.specs.Carried.{polls_in}
use Rattle.blocking_world_state.specs.Parts.{next_at}
use Rattle.blocking_world_state.proofs.laws.Legality as parts
use Rattle.blocking_world_copiers.specs.Assemblies.{Assembled}
use Rattle.blocking_world_copiers.specs.Ties.{IsLawful}

module _ (setting : ℕ) (plan : List Bool) (w : Assembled) (past : List Moment)
    (lawful : IsLawful setting plan w past) where
  -- queued jobs are served
  pub served_now : IsServed past
  served_now = parts.served_now setting plan w.parts past lawful.parts

  -- what the workers hold accounts for them
  pub staffed_now : IsStaffed (free_hands w.parts.crew.hands) (busy_hands w.parts.crew.hands) past
  staffed_now = parts.staffed_now setting plan w.parts past lawful.parts

  -- and is what they were seen to hold
  pub held_now : AreAsSeen (free_hands w.parts.crew.hands) (busy_hands w.parts.crew.hands) past
  held_now = parts.held_now setting plan w.parts past lawful.parts

  -- the step of a worker's job has an action where its next action is the job's own
  pub acts_is : (v : ℕ) → has_action past (Job v) ≡ is_job_action (next_at w.parts v)
  acts_is v = parts.acts_is setting plan w.parts past lawful.parts.tied v

  -- an owner's poll is under way where it was seen to be
  pub polls_is : (h : ℕ) → polls_in (slice_get w.parts.owners h)
      ≡ not (is_poll_over (under_way (acts_of_owner h (events past))))
  polls_is h = parts.polls_is setting plan w.parts past lawful.parts.tied h
