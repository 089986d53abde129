-- What passes between an owner and the job of its session.
use Rattle.std.specs.Prelude.{ℕ, Bool, true, false, Option, None}
use Rattle.blocking_core.specs.Pipes.{Pipe, empty_pipe}
use Rattle.blocking_world_holders.specs.declared.passage.Passage.{Passage}
use Rattle.blocking_world_holders.specs.declared.passage.Passage.TheVariants as passage

-- what passes through the pipe of a session: bytes, or items, or nothing, where it has no pipe
pub data Goods : Type 0 where
  OfBytes : Goods
  OfItems : Goods
  OfNothing : Goods

abbrev pub is_bytes : Goods → Bool
is_bytes OfBytes = true
is_bytes _ = false

abbrev pub is_items : Goods → Bool
is_items OfItems = true
is_items _ = false

-- whether there is a pipe
abbrev pub is_piped : Goods → Bool
is_piped OfNothing = false
is_piped _ = true

-- what passes here, and the pipe: where there is none, one that stays empty; bytes and items are
-- told by their numbers
abbrev pub goods_in : Passage → Goods
goods_in (passage.Bytes pipe) = OfBytes
goods_in (passage.Items pipe) = OfItems
goods_in (passage.Without capacity) = OfNothing

abbrev pub pipe_in : Passage → Pipe ℕ (Unit {0})
pipe_in (passage.Bytes pipe) = pipe
pipe_in (passage.Items pipe) = pipe
pipe_in (passage.Without capacity) = empty_pipe capacity

-- the pipe once its owner closed its end, and once its job did
abbrev pub closed_by_owner : Pipe ℕ (Unit {0}) → Pipe ℕ (Unit {0})
closed_by_owner pipe = record pipe { is_owner_open = false; job_seat = None }

abbrev pub closed_by_job : Pipe ℕ (Unit {0}) → Pipe ℕ (Unit {0})
closed_by_job pipe = record pipe { is_job_open = false; owner_seat = None }

-- what is done where such things pass as are wanted: else nothing
abbrev pub through : {A : Type 0} → Goods → Goods → Option A → Option A
through OfBytes OfBytes does = does
through OfItems OfItems does = does
through OfNothing OfNothing does = does
through wanted there does = None

-- what is done at a pipe, where there is one
abbrev pub if_piped : {A : Type 0} → Goods → Option A → Option A
if_piped OfNothing does = None
if_piped there does = does
