-- What calls on directories answer that aren't done.
use Rattle.std.specs.Prelude.{ℕ, List, Option, Result, Ok, Err}
use Rattle.disk_records.specs.declared.records.Page.{Page}
use Rattle.disk_records.specs.declared.records.Place.{Place}
use Rattle.disk_records.specs.Causes.{Cause, never, other}
use Rattle.page_seeking.specs.Causes.{cause_of_length}
use Rattle.page_seeking.specs.declared.refs.FileError.{FileError}
use Rattle.page_seeking.specs.declared.refs.FileError.TheVariants as fault
use Rattle.page_seeking.specs.Refs as refs
use Rattle.directory.specs.declared.errors.DirError.{DirError}
use Rattle.directory.specs.declared.errors.DirError.TheVariants.{NoSuchName, NameTaken, NoSlot, File}
use Rattle.directory.specs.declared.errors.ListError.{ListError}
use Rattle.directory.specs.declared.errors.ListError.TheVariants as list

-- ---- the device
abbrev pub disk_fault : DirError
disk_fault = File fault.DiskFault

abbrev pub out_of_memory : DirError
out_of_memory = File fault.Memory

-- ---- a hint that misled
abbrev pub IfMisled : {T : Type 0} → Result T DirError → (Place → ℕ → Page → Option (List ℕ) → Type 0) → Type 0
IfMisled (Ok x) P = Unit {0}
IfMisled (Err NoSuchName) P = Unit {0}
IfMisled (Err NameTaken) P = Unit {0}
IfMisled (Err (NoSlot largest)) P = Unit {0}
IfMisled (Err (File f)) P = refs.IfMisled {T = Unit {0}} (Err f) P

abbrev pub IfListMisled : {T : Type 0} → Result T ListError → (Place → ℕ → Page → Option (List ℕ) → Type 0) → Type 0
IfListMisled (Ok x) P = Unit {0}
IfListMisled (Err (list.File f)) P = refs.IfMisled {T = Unit {0}} (Err f) P
IfListMisled (Err list.Memory) P = Unit {0}

-- ---- causes
-- of a name that is absent, a name that is taken and a directory without room, each `never` of a call that doesn't answer it; Beyond never
-- comes
abbrev pub cause_of : Cause → Cause → Cause → DirError → Cause
cause_of absent taken full NoSuchName = absent
cause_of absent taken full NameTaken = taken
cause_of absent taken full (NoSlot largest) = full
cause_of absent taken full (File f) = cause_of_length f

-- the fault of a list is Misled or the device's
abbrev pub cause_in_list : FileError → Cause
cause_in_list (fault.Misled place at wanted found) = cause_of_length (fault.Misled place at wanted found)
cause_in_list (fault.Beyond length) = never
cause_in_list fault.DiskFault = cause_of_length fault.DiskFault
cause_in_list fault.Memory = never

abbrev pub cause_of_list : ListError → Cause
cause_of_list (list.File f) = cause_in_list f
cause_of_list list.Memory = other

-- an error of a call on the directory as a file, as that of a list
abbrev pub list_error : FileError → ListError
list_error (fault.Misled place at wanted found) = list.File (fault.Misled place at wanted found)
list_error (fault.Beyond length) = list.File (fault.Beyond length)
list_error fault.DiskFault = list.File fault.DiskFault
list_error fault.Memory = list.Memory

-- ---- refusals by the slots
abbrev pub IfNoSlot : {T : Type 0} → Result T DirError → (ℕ → Type 0) → Type 0
IfNoSlot (Ok x) P = Unit {0}
IfNoSlot (Err NoSuchName) P = Unit {0}
IfNoSlot (Err NameTaken) P = Unit {0}
IfNoSlot (Err (NoSlot largest)) P = P largest
IfNoSlot (Err (File f)) P = Unit {0}

abbrev pub IfBySlots : {T : Type 0} → Result T DirError → Type 0 → Type 0
IfBySlots (Ok x) P = Unit {0}
IfBySlots (Err NoSuchName) P = P
IfBySlots (Err NameTaken) P = P
IfBySlots (Err (NoSlot largest)) P = P
IfBySlots (Err (File f)) P = Unit {0}
