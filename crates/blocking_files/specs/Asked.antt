-- What is asked of a pool of files: each call by the texts of its paths, and by the file that it is
-- about.
use Rattle.std.specs.Prelude.{◌≡◌, ℕ, List, Option, IfSome, String, string_bytes, Vec, vec_items}
use Rattle.std.specs.Arc.{arc_value}
use Rattle.std.specs.declared.fs.File.{File}
use Rattle.blocking_files.specs.declared.calls.Changes.{Changes}
use Rattle.blocking_files.specs.declared.calls.Changes.TheVariants as change
use Rattle.blocking_files.specs.declared.calls.LookAt.{LookAt}
use Rattle.blocking_files.specs.declared.calls.LookAt.TheVariants as look

-- a text is that of a path, where the path's type says what that is
abbrev pub IsPath : {A : Type 0} → Option (List ℕ) → String A → Type 0
IsPath path text = IfSome path (λ bytes. string_bytes text ≡ bytes)

-- these are the bytes that are handed in, where their type says what they are
abbrev pub IsBytes : {A : Type 0} → Option (List ℕ) → Vec ℕ A → Type 0
IsBytes told bytes = IfSome told (λ all. vec_items bytes ≡ all)

-- what is changed of the path that is told, or of the two
abbrev pub IsWrite : Option (List ℕ) → Option (List ℕ) → Changes → Type 0
IsWrite path bytes (change.Write at all) = IsPath path at × IsBytes bytes all
IsWrite path bytes what = ⊥

abbrev pub IsRename : Option (List ℕ) → Option (List ℕ) → Changes → Type 0
IsRename from to (change.Rename first second) = IsPath from first × IsPath to second
IsRename from to what = ⊥

abbrev pub IsCreateDir : Option (List ℕ) → Changes → Type 0
IsCreateDir path (change.CreateDir at) = IsPath path at
IsCreateDir path what = ⊥

abbrev pub IsCreateDirAll : Option (List ℕ) → Changes → Type 0
IsCreateDirAll path (change.CreateDirAll at) = IsPath path at
IsCreateDirAll path what = ⊥

abbrev pub IsRemoveFile : Option (List ℕ) → Changes → Type 0
IsRemoveFile path (change.RemoveFile at) = IsPath path at
IsRemoveFile path what = ⊥

abbrev pub IsRemoveDir : Option (List ℕ) → Changes → Type 0
IsRemoveDir path (change.RemoveDir at) = IsPath path at
IsRemoveDir path what = ⊥

abbrev pub IsRemoveDirAll : Option (List ℕ) → Changes → Type 0
IsRemoveDirAll path (change.RemoveDirAll at) = IsPath path at
IsRemoveDirAll path what = ⊥

-- what is changed of this open file
abbrev pub IsSyncAll : File → Changes → Type 0
IsSyncAll file (change.SyncAll of) = arc_value of ≡ file
IsSyncAll file what = ⊥

abbrev pub IsSyncData : File → Changes → Type 0
IsSyncData file (change.SyncData of) = arc_value of ≡ file
IsSyncData file what = ⊥

abbrev pub IsSetLen : File → ℕ → Changes → Type 0
IsSetLen file size (change.SetLen of most) = (arc_value of ≡ file) × (most ≡ size)
IsSetLen file size what = ⊥

-- what is looked at
abbrev pub IsPathLook : Option (List ℕ) → LookAt → Type 0
IsPathLook path (look.Path at) = IsPath path at
IsPathLook path what = ⊥

abbrev pub IsLinkLook : Option (List ℕ) → LookAt → Type 0
IsLinkLook path (look.Link at) = IsPath path at
IsLinkLook path what = ⊥

abbrev pub IsFileLook : File → LookAt → Type 0
IsFileLook file (look.File of) = arc_value of ≡ file
IsFileLook file what = ⊥
