-- The words that the laws take from the definitions of the pool, of the pipe and of seeks. (Beside
-- them they take `without`, `is_in` and `one_if`, which say what they are called, and types of the
-- code.) They are about numbers, standings, lists and positions, and name no state of a pool or a
-- pipe. `blocking_pool/specs/Growth.antt`,
-- `blocking_pool/specs/Clients.antt`, `blocking_pool/specs/Wakes.antt`,
-- `blocking_core/specs/Places.antt` and `blocking_core/specs/Positions.antt` say what they mean.
-- The greatest number of 64 bits; whether one more start is due; how a start may be answered; the
-- starts of a growth; and the limit that it leaves.
pub use Rattle.blocking_pool.specs.Growth.{greatest, is_due, StartAnswer, Growth, IsGrowth}
pub use Rattle.blocking_pool.specs.Growth.{limit_after}
-- Whether a number is below a limit: where there is none, each is.
pub use Rattle.blocking_pool.specs.Clients.{is_below}
-- What a wake and a cancel do to a job, by how it stands.
pub use Rattle.blocking_pool.specs.Wakes.{wake_of, cancel_of}
-- What the owner and the job are answered at a pipe, by what is inside, how much room there is,
-- which ends are open, and who is seated.
pub use Rattle.blocking_core.specs.Places.{Met, Served, Waiting, Closed, drain, receive, fill}
pub use Rattle.blocking_core.specs.Places.{find_room, hand_in, peek}
-- Whether two seeks go to the same position.
pub use Rattle.blocking_core.specs.Positions.{same_position}
