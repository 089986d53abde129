-- What the end of a copy is to whoever awaits it, and the texts of its faults, as lists of bytes.
use Rattle.std.specs.Prelude.{ℕ, List, ◌++◌, codes, Option, Some, None, Result, Ok, Err}
use Rattle.std.specs.declared.io.Error.{Error}
use Rattle.blocking_core.specs.Faults.{fault_text}
use Rattle.blocking_core.specs.declared.io.Fault.{Fault}
use Rattle.blocking_core.specs.declared.copy.CopyEnd.{CopyEnd}
use Rattle.blocking_core.specs.declared.copy.CopyEnd.TheVariants as end
use Rattle.blocking_io.specs.declared.copy.CopyFault.{CopyFault}
use Rattle.blocking_io.specs.declared.copy.CopyFault.TheVariants.{Reading, Writing}

-- the count of a copy that ended well, or the fault of one that didn't
abbrev pub told : CopyEnd Error → Result ℕ CopyFault
told (end.Copied copied) = Ok copied
told (end.Reading why) = Err (Reading why)
told (end.Writing why) = Err (Writing why)

-- what its side failed with
abbrev pub fault_of : CopyFault → Fault Error
fault_of (Reading why) = why
fault_of (Writing why) = why

abbrev pub behind : List ℕ → Option (List ℕ) → Option (List ℕ)
behind words None = None
behind words (Some text) = Some (words ++ text)

-- which side failed, and what its fault says, if that is stated
abbrev pub copy_fault_text : (Error → Option (List ℕ)) → CopyFault → Option (List ℕ)
copy_fault_text error_text (Reading why) =
    behind (codes "reading failed: ") (fault_text error_text why)
copy_fault_text error_text (Writing why) =
    behind (codes "writing failed: ") (fault_text error_text why)
