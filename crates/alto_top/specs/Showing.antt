-- The listing of what a pack shows, as text, and the answers to the word `show`.
-- The texts are this project's choice.
use Rattle.std.specs.Prelude.{◌≡◌, ◌≤◌, ℕ, ◌+◌, ◌-◌, List, [], ◌∷◌, ◌++◌, length, take, codes, Option, Some, None}
use Rattle.std.specs.List.{flat_map}
use Rattle.std.specs.Fmt.{decimal}
use Rattle.disk_records.specs.Addresses.{pages_of}
use Rattle.disk_records.specs.Events.{IsFirstOf, shown_events}
use Rattle.disk_records.specs.Tapes.{Taped, pack, added}
use Rattle.pack_model.specs.showing.View.{View}
use Rattle.pack_model.specs.showing.Settling.{show}
use Rattle.pack_model.specs.showing.Listing.{Listed, listing, shown_files}
use Rattle.session_boot.specs.declared.status.Status.{Status}
use Rattle.session_boot.specs.declared.status.Status.TheVariants as status

-- a stored name without the `.` that ends it
abbrev pub stem : List ℕ → List ℕ
stem name = take (length name - 1) name

-- the directory of a row; SysDir has no name there
abbrev pub dir_text : Option (List ℕ) → List ℕ
dir_text None = codes "SysDir"
dir_text (Some name) = stem name

-- a length in bytes; that of a directory isn't told
abbrev pub listed_length : Option ℕ → List ℕ
listed_length None = codes " directory"
listed_length (Some n) = codes " length " ++ decimal n

-- one line
abbrev pub line_text : Listed → List ℕ
line_text l = dir_text l.dir_name ++ codes ">" ++ l.naming.name ++ listed_length l.size ++ (10 ∷ [])

-- the last line
abbrev pub count_text : ℕ → List ℕ
count_text n = decimal n ++ codes " files\n"

-- a line for each name in order, and then how many files there are
unfoldable pub listing_text : View → List ℕ
listing_text v = flat_map line_text (listing v) ++ count_text (length (shown_files v))

-- the answers to `show`
abbrev pub AnswersShow : Status → Type 0
AnswersShow status.Done = Unit {0}
AnswersShow status.Usage = ⊥
AnswersShow status.NeedsScavenge = ⊥
AnswersShow status.DiskFault = Unit {0}
AnswersShow status.KeyFault = ⊥
AnswersShow status.DisplayFault = Unit {0}
AnswersShow status.Memory = Unit {0}
AnswersShow status.CannotScavenge = ⊥

-- no key is taken and none fails
pub record KeepsKeys (old new : Taped) : Type 0 where
  pub keys : new.keys ≡ old.keys
  pub key_faults : new.key_faults ≡ old.key_faults

-- On a machine that is modelled: the listing of what the pack shows is shown, a prefix of it where the display failed, and
-- none where the disk failed or memory was refused; nothing is written, and there are fewer sector commands than sectors.
pub record ShowsPack (old new : Taped) (answer : Status) : Type 0 where
  pub some : IsFirstOf (shown_events (listing_text (show (pack old)))) (added old new)
  pub done : answer ≡ status.Done → added old new ≡ shown_events (listing_text (show (pack old)))
  pub disk : answer ≡ status.DiskFault → added old new ≡ []
  pub memory : answer ≡ status.Memory → added old new ≡ []
  pub runs : new.runs ≤ old.runs + (pages_of old.form - 1)
