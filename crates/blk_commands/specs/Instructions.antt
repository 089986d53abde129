-- Which instruction the words of a line are.
use Rattle.std.specs.Prelude.{ℕ, ◌==◌, Bool, List, [], ◌∷◌, codes, bytes_eq, Option, Some, None}
use Rattle.std.specs.Prelude.{option_map, if◌then◌else◌}
use Rattle.std.specs.List.{slice_split}
use Rattle.std.specs.Option.{option_and_then}
use Rattle.blocking_world_laws.specs.declared.step.HandleAnswer.{HandleAnswer}
use Rattle.blocking_world_laws.specs.declared.step.HandleAnswer.TheVariants.{Number, Gave}
use Rattle.blocking_world_laws.specs.declared.step.HandleAnswer.TheVariants.{Fine, Item}
use Rattle.blocking_world_laws.specs.declared.step.HandleAnswer.TheVariants.{NoItem, Failed}
use Rattle.blocking_world_laws.specs.declared.step.HandleCall.{HandleCall}
use Rattle.blocking_world_laws.specs.declared.step.HandleCall.TheVariants.{Read, Write, Flush}
use Rattle.blocking_world_laws.specs.declared.step.HandleCall.TheVariants.{Close, Seek, Next}
use Rattle.blocking_world_laws.specs.declared.step.HandleCall.TheVariants.{Operate, OperateAgain}
use Rattle.blocking_world_laws.specs.declared.step.HandleCall.TheVariants.{GetMut, IntoInner}
use Rattle.blocking_world_laws.specs.declared.step.Step.{Step}
use Rattle.blocking_world_laws.specs.declared.step.Step.TheVariants.{New, Ask, Own, DropOwner}
use Rattle.blocking_world_laws.specs.declared.step.Step.TheVariants.{Spawn, OfTask, Arrive, Take}
use Rattle.blocking_world_laws.specs.declared.step.Step.TheVariants.{Job, Io, End, Wait, Late}
use Rattle.blocking_world_laws.specs.declared.step.Step.TheVariants.{SetLimit, SetClientLimit}
use Rattle.blocking_world_laws.specs.declared.step.Step.TheVariants.{Sweep, Stray, Strike, Link}
use Rattle.blocking_world_laws.specs.declared.step.Step.TheVariants.{Copy}
use Rattle.blocking_world_laws.specs.declared.step.TaskCall.{TaskCall}
use Rattle.blocking_world_laws.specs.declared.step.TaskCall.TheVariants.{Poll, Cancel, Detach, Drop}
use Rattle.blk_commands.specs.Bytes.{bytes_of}
use Rattle.blk_commands.specs.Numbers.{number_of}
use Rattle.blk_commands.specs.Positions.{position_of}
use Rattle.blk_commands.specs.declared.instruction.Actor.{Actor}
use Rattle.blk_commands.specs.declared.instruction.Actor.TheVariants.{JobOf, PollOf}
use Rattle.blk_commands.specs.declared.instruction.Instruction.{Instruction}
use Rattle.blk_commands.specs.declared.instruction.Instruction.TheVariants.{One, AllOf}

abbrev pub is_space : ℕ → Bool
is_space byte = byte == 32

-- the words of a line: what stands before, between and behind its spaces
abbrev pub words_of : List ℕ → List (List ℕ)
words_of line = slice_split is_space line

-- what one word asks for
abbrev pub plain_step : List ℕ → Option Step
plain_step name =
    if bytes_eq name (codes "spawn") then Some (Spawn 0)
    else (if bytes_eq name (codes "arrive") then Some Arrive
    else (if bytes_eq name (codes "sweep") then Some Sweep
    else None))

-- the client limit that a word says: a number, or none
abbrev pub client_limit_of : List ℕ → Option (Option ℕ)
client_limit_of word =
    if bytes_eq word (codes "none") then Some None else option_map Some (number_of 64 word)

-- the owner whose pipes hold so many bytes, and whose client isn't named
abbrev pub new_of : ℕ → Step
new_of capacity = New capacity 0

-- what a word and a number ask for
abbrev pub numbered_step : List ℕ → List ℕ → Option Step
numbered_step name word =
    if bytes_eq name (codes "new") then option_map new_of (number_of 64 word)
    else (if bytes_eq name (codes "own") then option_map Own (number_of 64 word)
    else (if bytes_eq name (codes "drop") then option_map DropOwner (number_of 64 word)
    else (if bytes_eq name (codes "take") then option_map Take (number_of 64 word)
    else (if bytes_eq name (codes "job") then option_map Job (number_of 64 word)
    else (if bytes_eq name (codes "end") then option_map End (number_of 64 word)
    else (if bytes_eq name (codes "wait") then option_map Wait (number_of 64 word)
    else (if bytes_eq name (codes "late") then option_map Late (number_of 64 word)
    else (if bytes_eq name (codes "limit") then option_map SetLimit (number_of 64 word)
    else (if bytes_eq name (codes "clients") then option_map SetClientLimit (client_limit_of word)
    else (if bytes_eq name (codes "stray") then option_map Stray (number_of 64 word)
    else (if bytes_eq name (codes "strike") then option_map Strike (number_of 64 word)
    else (if bytes_eq name (codes "copy") then option_map Copy (number_of 64 word)
    else None))))))))))))

-- ---- three words

-- the actor that a word and a number name
abbrev pub actor_named : List ℕ → List ℕ → Option Actor
actor_named name word =
    if bytes_eq name (codes "job") then option_map JobOf (number_of 64 word)
    else (if bytes_eq name (codes "own") then option_map PollOf (number_of 64 word)
    else None)

-- the call of a task that has this name
abbrev pub task_call : List ℕ → Option TaskCall
task_call name =
    if bytes_eq name (codes "poll") then Some Poll
    else (if bytes_eq name (codes "cancel") then Some Cancel
    else (if bytes_eq name (codes "detach") then Some Detach
    else (if bytes_eq name (codes "drop") then Some Drop
    else None)))

-- the call of an owner that one word asks for
abbrev pub plain_call : List ℕ → Option HandleCall
plain_call name =
    if bytes_eq name (codes "mut") then Some GetMut
    else (if bytes_eq name (codes "flush") then Some Flush
    else (if bytes_eq name (codes "close") then Some Close
    else (if bytes_eq name (codes "next") then Some Next
    else (if bytes_eq name (codes "op") then Some Operate
    else (if bytes_eq name (codes "op+") then Some OperateAgain
    else (if bytes_eq name (codes "inner") then Some IntoInner
    else None))))))

-- the answer that one word says
abbrev pub plain_answer : List ℕ → Option HandleAnswer
plain_answer kind =
    if bytes_eq kind (codes "ok") then Some Fine
    else (if bytes_eq kind (codes "none") then Some NoItem
    else None)

-- the call that is made for the client whom the words name
abbrev pub spawn_of : List ℕ → List ℕ → Option Step
spawn_of word client =
    if bytes_eq word (codes "for") then option_map Spawn (number_of 32 client) else None

-- what three words ask for: a call of the task or of the owner that the number names, an answer to
-- its worker's job, or a call that is made for a client
abbrev pub worded_step : List ℕ → List ℕ → List ℕ → Option Step
worded_step name word what =
    if bytes_eq name (codes "task")
    then option_and_then (λ k. option_map (OfTask k) (task_call what)) (number_of 64 word)
    else (if bytes_eq name (codes "ask")
    then option_and_then (λ h. option_map (Ask h) (plain_call what)) (number_of 64 word)
    else (if bytes_eq name (codes "io")
    then option_and_then (λ w. option_map (Io w) (plain_answer what)) (number_of 64 word)
    else (if bytes_eq name (codes "spawn") then spawn_of word what
    else None)))

-- the instruction that three words are: all the actions of an actor, or what the words ask for
abbrev pub longer_instruction : List ℕ → List ℕ → List ℕ → Option Instruction
longer_instruction name word what =
    if bytes_eq what (codes "*") then option_map AllOf (actor_named name word)
    else option_map One (worded_step name word what)

-- ---- four words

-- the call of an owner that two words ask for
abbrev pub longer_call : List ℕ → List ℕ → Option HandleCall
longer_call name word =
    if bytes_eq name (codes "read") then option_map Read (number_of 64 word)
    else (if bytes_eq name (codes "write") then option_map Write (bytes_of word)
    else (if bytes_eq name (codes "seek") then option_map Seek (position_of word)
    else None))

-- the answer that a word of its kind and its value say
abbrev pub answer_of : List ℕ → List ℕ → Option HandleAnswer
answer_of kind value =
    if bytes_eq kind (codes "n") then option_map Number (number_of 64 value)
    else (if bytes_eq kind (codes "b") then option_map Gave (bytes_of value)
    else (if bytes_eq kind (codes "item") then option_map Item (number_of 64 value)
    else (if bytes_eq kind (codes "fault") then option_map Failed (number_of 64 value)
    else None)))

-- the copier that reads this owner, writes the one that the first word names, and reads at most as
-- many bytes at once as the second says
abbrev pub link_of : ℕ → List ℕ → List ℕ → Option Step
link_of a writer piece =
    option_and_then (λ b. option_map (Link a b) (number_of 64 piece)) (number_of 64 writer)

-- the owner whose pipes hold so many bytes, for the client whom the words name
abbrev pub owner_of : ℕ → List ℕ → List ℕ → Option Step
owner_of capacity word client =
    if bytes_eq word (codes "for") then option_map (New capacity) (number_of 32 client) else None

-- what four words ask for: a call of an owner, an answer to a worker's job, a copier that is made,
-- or an owner for a client
abbrev pub longer_step : List ℕ → List ℕ → List ℕ → List ℕ → Option Step
longer_step name word what value =
    if bytes_eq name (codes "ask")
    then option_and_then (λ h. option_map (Ask h) (longer_call what value)) (number_of 64 word)
    else (if bytes_eq name (codes "io")
    then option_and_then (λ w. option_map (Io w) (answer_of what value)) (number_of 64 word)
    else (if bytes_eq name (codes "link")
    then option_and_then (λ a. link_of a what value) (number_of 64 word)
    else (if bytes_eq name (codes "new")
    then option_and_then (λ capacity. owner_of capacity what value) (number_of 64 word)
    else None)))

-- ---- all words

-- the instruction that words are
abbrev pub instruction_of : List (List ℕ) → Option Instruction
instruction_of (name ∷ []) = option_map One (plain_step name)
instruction_of (name ∷ word ∷ []) = option_map One (numbered_step name word)
instruction_of (name ∷ word ∷ what ∷ []) = longer_instruction name word what
instruction_of (name ∷ word ∷ what ∷ value ∷ []) = option_map One (longer_step name word what value)
instruction_of _ = None
