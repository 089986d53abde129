-- Which steps and events carry bytes, for which a further copy takes memory.
use Rattle.std.specs.Prelude.{Bool, true, false}
use Rattle.blocking_world_laws.specs.declared.event.Act.{Act}
use Rattle.blocking_world_laws.specs.declared.event.Act.TheVariants.{Asked, Got, Peeked, Answered}
use Rattle.blocking_world_laws.specs.declared.step.HandleAnswer.{HandleAnswer}
use Rattle.blocking_world_laws.specs.declared.step.HandleAnswer.TheVariants.{Gave}
use Rattle.blocking_world_laws.specs.declared.step.HandleCall.{HandleCall}
use Rattle.blocking_world_laws.specs.declared.step.HandleCall.TheVariants.{Write}

-- whether an answer carries no bytes
abbrev pub is_bare_answer : HandleAnswer → Bool
is_bare_answer (Gave bytes) = false
is_bare_answer _ = true

-- whether a call of an owner carries no bytes
abbrev pub is_bare_call : HandleCall → Bool
is_bare_call (Write bytes) = false
is_bare_call _ = true

-- whether an act carries no bytes
abbrev pub is_bare : Act → Bool
is_bare (Asked call) = is_bare_call call
is_bare (Got bytes told) = false
is_bare (Peeked bytes) = false
is_bare (Answered answer) = is_bare_answer answer
is_bare _ = true
