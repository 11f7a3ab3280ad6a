-- Where errors come from.
use Rattle.std.specs.Prelude.{◌≡◌, Result, Ok, Err}
use Rattle.disk_records.specs.Tapes.{Taped, Rose}

-- What an error stands for: one of the three devices failed; something else, of which its own clause speaks, out of memory alone
-- being free; or nothing, since the call never answers it.
pub data Cause : Type 0 where
  disk : Cause
  keyboard : Cause
  display : Cause
  other : Cause
  never : Cause

-- no fault of the disk came: its count is as it was
abbrev pub Unfailed : Taped → Taped → Type 0
Unfailed old new = new.disk_faults ≡ old.disk_faults

-- a device fails only in a call in which its own count rose; at any other error no fault of the disk came
abbrev pub IsCause : Taped → Taped → Cause → Type 0
IsCause old new disk = Rose old.disk_faults new.disk_faults
IsCause old new keyboard = Rose old.key_faults new.key_faults
IsCause old new display = Rose old.show_faults new.show_faults
IsCause old new other = Unfailed old new
IsCause old new never = ⊥

-- The error, if there is one, has its cause, by the table of its type; at Ok no fault of the disk came. So a fault that came is
-- answered, and none is answered that didn't come.
abbrev pub HasCause : {T E : Type 0} → (E → Cause) → Taped → Taped → Result T E → Type 0
HasCause cause_of old new (Ok x) = Unfailed old new
HasCause cause_of old new (Err error) = IsCause old new (cause_of error)

-- what is left of a cause in a call that is given the disk alone, keys alone or the display alone
abbrev pub of_disk : Cause → Cause
of_disk disk = disk
of_disk keyboard = never
of_disk display = never
of_disk other = other
of_disk never = never

abbrev pub of_keyboard : Cause → Cause
of_keyboard disk = never
of_keyboard keyboard = keyboard
of_keyboard display = never
of_keyboard other = other
of_keyboard never = never

abbrev pub of_display : Cause → Cause
of_display disk = never
of_display keyboard = never
of_display display = display
of_display other = other
of_display never = never
