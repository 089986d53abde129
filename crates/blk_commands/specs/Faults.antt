-- What is said of a fault, and with which status.
use Rattle.std.specs.Prelude.{ℕ, List, ◌++◌, codes, decimal}
use Rattle.blk_commands.specs.declared.fault.BlkFault.{BlkFault}
use Rattle.blk_commands.specs.declared.fault.BlkFault.TheVariants.{Refused, Reading, Writing}
use Rattle.blk_commands.specs.declared.fault.BlkFault.TheVariants.{Running}
use Rattle.blk_commands.specs.declared.fault.CommandFault.{CommandFault}
use Rattle.blk_commands.specs.declared.fault.CommandFault.TheVariants.{Failed, NotText, NotAStep}
use Rattle.blk_commands.specs.declared.script.ScriptFault.{ScriptFault}
use Rattle.blk_commands.specs.declared.script.ScriptFault.TheVariants as script_fault
use Rattle.blocking_pool.specs.declared.pool.answer.Refusal.TheVariants.{Memory, NoWorker, Numbers}

-- the text of a failure
abbrev pub fault_text : BlkFault → List ℕ
fault_text (Refused Memory) = codes "blk: refused: memory"
fault_text (Refused NoWorker) = codes "blk: refused: no worker"
fault_text (Refused Numbers) = codes "blk: refused: numbers"
fault_text Reading = codes "blk: reading failed"
fault_text Writing = codes "blk: writing failed"
fault_text Running = codes "blk: running failed"

-- the text of a command's fault
abbrev pub command_fault_text : CommandFault → List ℕ
command_fault_text (Failed fault) = fault_text fault
command_fault_text NotText = codes "blk: not a text"
command_fault_text (NotAStep line) = codes "line " ++ decimal line ++ codes ": not a step"

-- the status of a fault: 2 where the input is at fault
abbrev pub fault_status : CommandFault → ℕ
fault_status (Failed fault) = 1
fault_status NotText = 2
fault_status (NotAStep line) = 2

-- what a fault of a script is told as
abbrev pub told_of : ScriptFault → CommandFault
told_of (script_fault.NotAStep line) = NotAStep line
told_of script_fault.Memory = Failed (Refused Memory)
