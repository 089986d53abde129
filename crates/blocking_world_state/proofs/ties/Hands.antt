-- What the hands of a crew have after a call of it: what they had, or a job that begins its turn.
use Rattle.std.proofs.Common.{◌≡◌, ◌⊎◌, inl, ℕ, ◌+◌, ◌==◌, List, length, Bool, true, false, sym}
use Rattle.std.proofs.Common.{◌∙◌, if◌then◌else◌, arith}
use Rattle.blocking_world_state.proofs.Types.{Waited, Act, Event, Hand}
use Rattle.blocking_world_state.proofs.Types.{Free, Holds, JobInHand, Parking}
use Rattle.blocking_world_state.proofs.Words.{Crew, hand_at, with_hand, GaveAs}
use Rattle.blocking_world_pool.specs.Moves as crew
use Rattle.blocking_world_pool.proofs.hands.Rows.{IsAt, at_free, at_held, hand_set, hand_pushed}

-- what holds only of a hand with a job that begins its turn
abbrev Begins : Hand → Type 0
Begins (Holds held) = (acts : List Act) → GaveAs held.stage acts
Begins hand = Unit {0}

-- a job is in a hand as before, or begins its turn
abbrev pub IsOldOrBegins : List Hand → ℕ → JobInHand → Type 0
IsOldOrBegins row u held =
    (hand_at row u ≡ Holds held) ⊎ ((acts : List Act) → GaveAs held.stage acts)

one_of : (b : Bool) (new before : Hand) (held : JobInHand) → Begins new
    → (if b then new else before)
    ≡ Holds held → (before ≡ Holds held) ⊎ ((acts : List Act) → GaveAs held.stage acts)
one_of b new before held begins is = grind arith

set_hand : (row : List Hand) (v u : ℕ) (old new : Hand) (held : JobInHand) → IsAt row v old
    → Begins new
    → hand_at (with_hand row v new) u ≡ Holds held → IsOldOrBegins row u held
set_hand row v u old new held at begins is =
    one_of (v == u) new (hand_at row u) held begins (sym (hand_set row v u old new at) ∙ is)

taken : (to_drop : Bool) (acts : List Act) → GaveAs (crew.first_stage to_drop) acts
taken to_drop acts = grind arith

waited : (answer : Waited) → Begins (crew.hand_after_wait answer)
waited answer = grind arith

parked : (how : Parking) → Begins (crew.hand_after_park how)
parked how = grind arith

-- whether by a call no job in a hand acts
abbrev pub leaves_turns : crew.Call → Bool
leaves_turns (crew.Work v act) = false
leaves_turns call = true

hands_by : (may_answer : ℕ → Bool → Type 0) (crew_now : Crew) (move : crew.Move)
    → crew.May may_answer crew_now move → leaves_turns (crew.call_of move) ≡ true
    → (u : ℕ) (held : JobInHand) → hand_at (crew.after crew_now move).hands u ≡ Holds held
    → IsOldOrBegins crew_now.hands u held
hands_by may_answer crew_now (crew.Arrives pass) may other u held is =
    one_of (length crew_now.hands + 1 == u) (Free pass) (hand_at crew_now.hands u) held tt
    (sym (hand_pushed crew_now.hands u (Free pass)) ∙ is)
hands_by may_answer crew_now (crew.TakesJob v old to_drop turn ticket growth pool) may other
    u held is = set_hand crew_now.hands v u (Free old) _ held (at_free crew_now.hands v old may.0)
    (taken to_drop) is
hands_by may_answer crew_now (crew.TakesNone v old pass) may other u held is = set_hand
    crew_now.hands v u (Free old) (Free pass) held (at_free crew_now.hands v old may.0) tt is
hands_by may_answer crew_now (crew.Works v job act) may other u held is = absurd cc
hands_by may_answer crew_now (crew.EndsTurn v job pass) may other u held is = set_hand
    crew_now.hands v u (Holds job) (Free pass) held (at_held crew_now.hands v job may.0) tt is
hands_by may_answer crew_now (crew.Parks v job ticket how pool) may other u held is = set_hand
    crew_now.hands v u (Holds job) _ held (at_held crew_now.hands v job may.0) (parked how) is
hands_by may_answer crew_now (crew.HasWaited v pass end answer growth pool) may other u held is =
    set_hand crew_now.hands v u (Free pass) _ held (at_free crew_now.hands v pass may.0)
    (waited answer) is
hands_by may_answer crew_now _ may other u held is = inl is

-- A call by which no job in a hand acts leaves each hand with the job that it had, with none, or
-- with one that begins its turn.
pub hands_moved : (may_answer : ℕ → Bool → Type 0) (call : crew.Call) (crew_now new : Crew)
    (e : Event) → leaves_turns call ≡ true → crew.Moves may_answer call crew_now e new
    → (u : ℕ) (held : JobInHand) → hand_at new.hands u ≡ Holds held
    → IsOldOrBegins crew_now.hands u held
hands_moved may_answer call crew_now new e other m u held is = grind (arith, hands_by)
