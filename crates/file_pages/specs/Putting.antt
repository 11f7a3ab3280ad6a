-- What a caller sees of bytes that are put in the place of others.
use Rattle.std.specs.Prelude.{Bool, IsErrOf, List, OnOk, Result, Some, [], false, length, true, ℕ, ◌%◌, ◌+◌, ◌<◌, ◌∷◌, ◌≡◌, ◌≢◌, ◌≤◌, ◌⊎◌}
use Rattle.alto_words.specs.declared.fid.Fid.{Fid}
use Rattle.disk_records.specs.Packs.{Pack, sector_at}
use Rattle.laws_call.specs.Acting.{Around, IsQuiet}
use Rattle.page_seeking.specs.Parts.{IsPast}
use Rattle.page_seeking.specs.Seeking.{file_length}
use Rattle.page_seeking.specs.declared.refs.FileError.TheVariants.{Memory}
use Rattle.page_seeking.specs.declared.refs.FileError.{FileError}
use Rattle.pack_model.specs.operations.Committing.{page_of_byte}
use Rattle.pack_model.specs.operations.PageWords.{put_value}
use Rattle.pack_model.specs.operations.Step.Operation.{put}
use Rattle.pack_model.specs.operations.Step.{Operation}
use Rattle.pack_model.specs.reading.Files.{place}
use Rattle.pack_model.specs.reading.Sights.{sights}
use Rattle.file_pages.specs.Values.{WroteValue}

abbrev pub to_put : Fid → ℕ → List ℕ → Operation
to_put f offset new = put f offset new

-- Words come after the bytes only where the file ends with these.
pub record MayBePut (p : Pack) (f : Fid) (offset : ℕ) (new past : List ℕ) : Type 0 where
  pub last : (past ≡ []) ⊎ (offset + length new ≡ file_length p f)

-- the value of the page in this sector with these bytes, and words after them, in the place of others
abbrev pub value_put : Pack → ℕ → ℕ → List ℕ → List ℕ → List ℕ
value_put p at offset new past = put_value (offset % 512) new past (sector_at p at).value

-- For every answer: nothing was written or counted, and it is neither Ok nor out of memory; or the file has bytes in the place of these,
-- and the value of the page that they are in was to be written, with these in it.
pub data Puts {T : Type 0} (p : Pack) (f : Fid) (offset : ℕ) (new past : List ℕ) (old now : Around) (result : Result T FileError) : Type 0 where
  unput : IsQuiet old now → OnOk result ⊥ → (IsErrOf result Memory → ⊥) → Puts p f offset new past old now result
  putting : {at : ℕ} → place (sights p) f (page_of_byte offset) ≡ Some at → offset + length new ≤ file_length p f → WroteValue at (value_put p at offset new past) (to_put f offset new) old now result → Puts p f offset new past old now result

-- the length is the file's, and another than this
pub record IsNotAt (p : Pack) (f : Fid) (end n : ℕ) : Type 0 where
  pub is : n ≡ file_length p f
  pub apart : n ≢ end

-- the file ends before this, or where it has to end there it may also end after it
abbrev pub IsNotEnd : Bool → Pack → Fid → ℕ → ℕ → Type 0
IsNotEnd false = IsPast
IsNotEnd true = IsNotAt

-- The length is the file's, the bytes would end after it, and nothing was written or counted.
pub record EndsBefore (p : Pack) (f : Fid) (end : ℕ) (old now : Around) (n : ℕ) : Type 0 where
  pub is : n ≡ file_length p f
  pub past : n < end
  pub quiet : IsQuiet old now

-- The length is the file's, the bytes would end before or after it, and nothing was written or counted.
pub record EndsApart (p : Pack) (f : Fid) (end : ℕ) (old now : Around) (n : ℕ) : Type 0 where
  pub is : n ≡ file_length p f
  pub apart : n ≢ end
  pub quiet : IsQuiet old now

-- one or the other: the second only where these words are to come after the bytes
abbrev pub EndsBeside : Pack → Fid → ℕ → List ℕ → Around → Around → ℕ → Type 0
EndsBeside p f end [] = EndsBefore p f end
EndsBeside p f end (w ∷ past) = EndsApart p f end
