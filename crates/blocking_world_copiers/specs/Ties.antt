-- How copiers hang together with what was seen: what each has read and written, and what it does
-- next.
use Rattle.std.specs.Prelude.{◌≡◌, ◌⊎◌, ◌<◌, ◌≤◌, ◌^◌, ◌-◌, ◌&&◌, ◌==◌, ℕ, min, not, Bool, true}
use Rattle.std.specs.Prelude.{false, List, [], ◌∷◌, ◌++◌, length, take, drop, map, All, Option}
use Rattle.std.specs.Prelude.{Some, None}
use Rattle.blocking_core.specs.declared.copy.CopyAction.{CopyAction}
use Rattle.blocking_core.specs.declared.copy.CopyAction.TheVariants as action
use Rattle.blocking_core.specs.declared.copy.CopyEnd.TheVariants as end
use Rattle.blocking_world_laws.specs.Copies.{CopierAction, AskReader, Outcome, NotAsked, NoReply}
use Rattle.blocking_world_laws.specs.Copies.{HasReplied, acts_since, polls_of, all_got}
use Rattle.blocking_world_laws.specs.Copies.{all_accepted, is_short, is_write, outcome, after_reply}
use Rattle.blocking_world_laws.specs.Copies.{once_more}
use Rattle.blocking_world_laws.specs.Legal.{Legal}
use Rattle.blocking_world_laws.specs.Lent.{Copier, copiers, copier_in, has_owner, links}
use Rattle.blocking_world_laws.specs.Passed.{data_of}
use Rattle.blocking_world_laws.specs.Seen.{IsBeginning, events, cut, own, acts_of_owner}
use Rattle.blocking_world_laws.specs.Sessions.{call, under_way, is_made, is_owner_gone, is_closed}
use Rattle.blocking_world_laws.specs.Sessions.{was_asked_inner}
use Rattle.blocking_world_laws.specs.declared.event.Act.{Act}
use Rattle.blocking_world_laws.specs.declared.event.Act.TheVariants.{Asked, Got, Filled, Waits}
use Rattle.blocking_world_laws.specs.declared.event.Act.TheVariants.{Replied}
use Rattle.blocking_world_laws.specs.declared.event.Event.{Event}
use Rattle.blocking_world_laws.specs.declared.event.Moment.{Moment}
use Rattle.blocking_world_laws.specs.declared.event.Reply.{Reply}
use Rattle.blocking_world_laws.specs.declared.event.Reply.TheVariants.{Okay, Failed}
use Rattle.blocking_world_laws.specs.declared.step.HandleCall.{HandleCall}
use Rattle.blocking_world_laws.specs.declared.step.HandleCall.TheVariants.{Read, Write, Flush}
use Rattle.blocking_world_state.specs.Ties.{IsLawful as PartsAreLawful}
use Rattle.blocking_world_copiers.specs.Assemblies.{Assembled}
use Rattle.blocking_world_copiers.specs.Copiers.{CopierState, shown, between, next_by, as_action}
use Rattle.blocking_world_copiers.specs.Copiers.{copier_at, is_lent}

-- ---- what passes in the poll under way

-- the bytes that an owner got in it
abbrev pub got_now : List Act → List ℕ
got_now [] = []
got_now (Asked asked ∷ past) = []
got_now (Waits ∷ past) = []
got_now (Replied reply ∷ past) = []
got_now (Got bytes told ∷ past) = got_now past ++ bytes
got_now (_ ∷ past) = got_now past

-- and those that were accepted of its write
abbrev pub filled_now : List Act → List ℕ
filled_now [] = []
filled_now (Asked asked ∷ past) = []
filled_now (Waits ∷ past) = []
filled_now (Replied reply ∷ past) = []
filled_now (Filled n told ∷ past) = filled_now past ++ take n (data_of (call past))
filled_now (_ ∷ past) = filled_now past

-- ---- the order in which a copier asks its writer

-- whether nothing but writes was asked
abbrev pub asks_writes : List Act → Bool
asks_writes [] = true
asks_writes (Asked asked ∷ past) = is_write (Some asked) && asks_writes past
asks_writes (_ ∷ past) = asks_writes past

-- whether a reply to this call ends a flush
abbrev pub ends_flush : Option HandleCall → Reply → Bool
ends_flush (Some Flush) Okay = true
ends_flush (Some Flush) (Failed why) = true
ends_flush asked reply = false

-- whether nothing but writes was asked, and after them at most a flush that hasn't ended
abbrev pub asks_flushes : List Act → Bool
asks_flushes [] = true
asks_flushes (Asked Flush ∷ past) = asks_flushes past
asks_flushes (Asked asked ∷ past) = is_write (Some asked) && asks_writes past
asks_flushes (Replied reply ∷ past) = not (ends_flush (call past) reply) && asks_flushes past
asks_flushes (_ ∷ past) = asks_flushes past

-- that flush has just ended, without a fault
abbrev pub IsJustFlushed : List Act → Type 0
IsJustFlushed (Replied Okay ∷ past) = (call past ≡ Some Flush) × (asks_flushes past ≡ true)
IsJustFlushed acts = ⊥

-- By its core: what the writer's own acts are since the copier was made.
abbrev pub InOrder : CopyAction ℕ → List Act → Type 0
InOrder (action.Read most) acts = asks_writes acts ≡ true
InOrder (action.Write from to) acts = asks_writes acts ≡ true
InOrder action.Flush acts = asks_flushes acts ≡ true
InOrder (action.Done (end.Copied n)) acts = IsJustFlushed acts
InOrder (action.Done why) acts = Unit {0}

-- ---- the owners of a copier

-- An owner that is lent is there with its handle, which was never asked for for good.
pub record IsOpen (acts : List Act) : Type 0 where
  pub made : is_made acts ≡ true
  pub gone : is_owner_gone acts ≡ false
  pub closed : is_closed acts ≡ false
  pub inner : was_asked_inner acts ≡ false

-- no poll of the reader is under way, nor of the writer; what passes in one is nothing then
abbrev pub ReaderRests : List Act → Type 0
ReaderRests reader = (under_way reader ≡ None) × (got_now reader ≡ [])

abbrev pub WriterRests : List Act → Type 0
WriterRests writer = (under_way writer ≡ None) × (filled_now writer ≡ [])

-- ---- how far a copier is

-- A copier that reads: all that it read before is written. While it asks, what its reader got now
-- is what it keeps.
abbrev pub Reads : ℕ → List ℕ → List ℕ → List ℕ → List Act → Type 0
Reads most piece before read reader =
    (ReaderRests reader × (read ≡ before))
    ⊎ ((under_way reader ≡ Some (Read most)) × (read ≡ before ++ got_now reader)
    × ((got_now reader ≡ []) ⊎ (piece ≡ got_now reader)))

-- By its core: what it has read by now, where it had written `before` when it asked last.
abbrev pub StandsBy : CopyAction ℕ → ℕ → List ℕ → List ℕ → List ℕ → ℕ → Bool → List Act → List Act
    → List Act → Type 0
StandsBy (action.Read most) size piece before read copied short reader writer polls =
    (most ≡ size) × (short ≡ false) × WriterRests writer × Reads most piece before read reader
StandsBy (action.Write from to) size piece before read copied short reader writer polls =
    (short ≡ false) × (read ≡ before ++ between from to piece) × ReaderRests reader
    × ((from < to) × (to ≤ length piece))
    × (WriterRests writer ⊎ (under_way writer ≡ Some (Write (between from to piece))))
StandsBy action.Flush size piece before read copied short reader writer polls =
    IsBeginning before read × (short ≡ false → before ≡ read) × ReaderRests reader
    × (WriterRests writer ⊎ ((under_way writer ≡ Some Flush) × (filled_now writer ≡ [])))
StandsBy (action.Done (end.Copied n)) size piece before read copied short reader writer polls =
    (before ≡ read) × (n ≡ copied) × ReaderRests reader × WriterRests writer
    × (call polls ≡ Some Flush) × (outcome polls ≡ HasReplied Okay)
StandsBy (action.Done why) size piece before read copied short reader writer polls =
    IsBeginning before read × ReaderRests reader × WriterRests writer

-- what a copier does next, by the own acts of its reader and its writer since it was made, and its
-- polls
abbrev pub next_from : ℕ → List Act → List Act → List Act → Outcome → CopierAction
next_from size read written polls NotAsked = AskReader (Read size)
next_from size read written polls NoReply = once_more (call polls) size
next_from size read written polls (HasReplied reply) =
    after_reply size (drop (length (all_accepted written)) (all_got read))
    (length (all_accepted written)) (is_short written) (call polls) reply

-- The call of the poll under way, which is asked once more until there is a reply.
pub record IsAsking (reader writer polls since : List Act) : Type 0 where
  pub reading : (asked : HandleCall) → under_way reader ≡ Some asked
      → (outcome polls ≡ NoReply) × (call polls ≡ Some asked)
  pub writing : (asked : HandleCall) → under_way writer ≡ Some asked
      → (outcome polls ≡ NoReply) × (call polls ≡ Some asked) × (call since ≡ Some asked)

-- A copier with this core and this piece, over these lists: the own acts of its reader and its
-- writer, those since it was made, and its polls.
pub record CopierBy (size : ℕ) (action : CopyAction ℕ) (copied : ℕ) (is_short_by : Bool)
    (piece : List ℕ) (reader writer since_read since_written polls : List Act) : Type 0 where
  pub positive : 0 < size
  pub reader_open : IsOpen reader
  pub writer_open : IsOpen writer
  pub before : List ℕ
  pub wrote : all_accepted since_written ≡ before ++ filled_now writer
  pub count : copied ≡ min (length before) (2 ^ 64 - 1)
  pub short : is_short_by ≡ is_short since_written
  pub stands : StandsBy action size piece before (all_got since_read) copied is_short_by reader
      writer polls
  pub next_is : as_action (next_by action piece)
      ≡ next_from size since_read since_written polls (outcome polls)
  pub asking : IsAsking reader writer polls since_written

-- (of a copier)
abbrev pub CopierOf : CopierState → List Act → List Act → List Act → List Act → List Act → Type 0
CopierOf c reader writer since_read since_written polls =
    CopierBy c.core.piece c.core.next c.core.copied c.core.is_short c.piece reader writer since_read
    since_written polls

-- ---- all of them

-- A copier over what was seen.
pub record CopierAs (c : CopierState) (past : List Moment) : Type 0 where
  pub known : c.number < links past
  pub differ : (c.reader == c.writer) ≡ false
  pub order : InOrder c.core.next (acts_since c.number c.writer past)
  pub by : CopierOf c (acts_of_owner c.reader (events past)) (acts_of_owner c.writer (events past))
      (acts_since c.number c.reader past) (acts_since c.number c.writer past)
      (polls_of (shown c) past)

-- No two have one number, or an owner in common.
abbrev pub AreApart : List CopierState → Type 0
AreApart [] = Unit {0}
AreApart (c ∷ more) = (copier_at c.number more ≡ None) × (is_lent c.reader more ≡ false)
    × (is_lent c.writer more ≡ false) × AreApart more

-- each of these is tied to what was seen
abbrev pub AllAs : List CopierState → List Moment → Type 0
AllAs [] past = Unit {0}
AllAs (c ∷ more) past = CopierAs c past × AllAs more past

-- The copiers hang together with what was seen: they are those that have told no end, and so many
-- were made.
pub record Copied (w : Assembled) (past : List Moment) : Type 0 where
  pub shown_are : map shown w.copiers ≡ copiers past
  pub made_is : w.made ≡ links past
  pub apart : AreApart w.copiers
  pub each : AllAs w.copiers past

-- What all assemblies keep: they hang together with what was seen, and what was seen is legal.
pub record IsLawful (setting : ℕ) (plan : List Bool) (w : Assembled) (past : List Moment) :
    Type 0 where
  pub parts : PartsAreLawful setting plan w.parts past
  pub copied : Copied w past
  pub legal : Legal setting plan past
