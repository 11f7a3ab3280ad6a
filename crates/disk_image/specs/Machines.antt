-- What a caller sees of the machine over a pack file, or two.
use Rattle.std.specs.Prelude.{◌≡◌, ◌≢◌, ℕ, ◌+◌, ◌-◌, ◌<◌, ◌≤◌, false, length, slice_index, Option, None, IfSome}
use Rattle.std.specs.Io.Buffered.{reader_buffer}
use Rattle.std.specs.declared.io.buffered.BufReader.{BufReader}
use Rattle.disk_records.specs.Tapes.{Taped, capped}
use Rattle.disk_image.specs.declared.error.ImageError.{ImageError}
use Rattle.disk_image.specs.declared.error.ImageError.TheVariants as image
use Rattle.disk_image.specs.declared.error.ReachError.{ReachError}
use Rattle.disk_image.specs.declared.error.ReachError.TheVariants.{NoFile, InUse, BadLength, Unlike, Memory}
use Rattle.disk_image.specs.Images.{IsPackLength}
use Rattle.disk_image.specs.declared.placed.Placed.{Placed}

-- nothing has failed and nothing was written
pub record IsUntouched (t : Taped) : Type 0 where
  pub disk_faults : t.disk_faults ≡ 0
  pub key_faults : t.key_faults ≡ 0
  pub show_faults : t.show_faults ≡ 0
  pub writes : t.writes ≡ 0

-- a count of faults rises by one where the call failed, and stays where it didn't
pub record CountsFault (failed : Type 0) (old new : ℕ) : Type 0 where
  pub once : failed → new ≡ capped (old + 1)
  pub same : (failed → ⊥) → new ≡ old

-- an error of reaching a file: a bad length isn't a drive's
abbrev pub IsReaching : ReachError → Type 0
IsReaching NoFile = Unit {0}
IsReaching InUse = Unit {0}
IsReaching (BadLength bytes) = IsPackLength bytes → ⊥
IsReaching (Unlike first second) = ⊥
IsReaching Memory = Unit {0}

-- an error of reaching two: lengths that are unlike are a drive's each
abbrev pub IsReachingTwo : ReachError → Type 0
IsReachingTwo NoFile = Unit {0}
IsReachingTwo InUse = Unit {0}
IsReachingTwo (BadLength bytes) = IsPackLength bytes → ⊥
IsReachingTwo (Unlike first second) = IsPackLength first × IsPackLength second × (first ≢ second)
IsReachingTwo Memory = Unit {0}

-- an error of making files: their lengths are always right
abbrev pub IsMaking : ReachError → Type 0
IsMaking NoFile = Unit {0}
IsMaking InUse = Unit {0}
IsMaking (BadLength bytes) = ⊥
IsMaking (Unlike first second) = ⊥
IsMaking Memory = Unit {0}

-- why no machine was reached where the files are no pack
abbrev pub reached : ImageError → ReachError
reached (image.BadLength bytes) = BadLength bytes
reached (image.Unlike first second) = Unlike first second
reached image.Memory = Memory

-- of the keys that were read ahead no more are left than stood after the last line end among them, which were so many: so no line is there
-- whole
abbrev pub HasNoLine : {R A : Type 0} → ℕ → BufReader R A → Type 0
HasNoLine after keys = length (reader_buffer keys) ≤ after

-- where keys stand before the last ones of them, which are so many, the key right before those ends a line
abbrev pub EndsLine : {R A : Type 0} → ℕ → BufReader R A → Type 0
EndsLine after keys = after < length (reader_buffer keys) → slice_index (reader_buffer keys) (length (reader_buffer keys) - after - 1) ≡ 10

-- the device has all that was written to either file
pub record IsSettled {F : Type 0} (first : Placed F) (second : Option (Placed F)) : Type 0 where
  pub first_settled : first.is_unsettled ≡ false
  pub second_settled : IfSome second (λ file. file.is_unsettled ≡ false)

-- the length of neither file is known
pub record KnowsNoLength {F : Type 0} (first : Placed F) (second : Option (Placed F)) : Type 0 where
  pub first_unknown : first.known_length ≡ None
  pub second_unknown : IfSome second (λ file. file.known_length ≡ None)
