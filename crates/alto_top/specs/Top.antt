-- The command line: what its words ask for.
use Rattle.std.specs.Prelude.{◌≡◌, ◌≢◌, ◌⊎◌, ◌&&◌, ℕ, cond, nat_le, List, [], ◌∷◌, codes, Option, Some, None}
use Rattle.alto_words.specs.Fid.{disk_descriptor}
use Rattle.alto_words.specs.Numbers.{number_in}
use Rattle.disk_descriptor.specs.Opening.{HasCleanPage}
use Rattle.disk_records.specs.Addresses.{disks_of}
use Rattle.disk_records.specs.Events.{IsFirstOf, shown_events, writes_in}
use Rattle.disk_records.specs.Tapes.{Taped, Grown, ShowAlone, added, pack}
use Rattle.alto_top.specs.Formats.{AnswersFormat, FormatsPack, PreparesPack, ShowsThroughout}
use Rattle.disk_records.specs.declared.records.Tally.{Tally}
use Rattle.pack_model.specs.sessions.Tallies.{no_tally}
use Rattle.session_boot.specs.Boots.{Booted}
use Rattle.alto_top.specs.Scavenging.{AnswersScavenge, ScavengesPack}
use Rattle.alto_top.specs.Showing.{AnswersShow, KeepsKeys, ShowsPack}
use Rattle.alto_top.specs.declared.top.Asked.{Asked}
use Rattle.alto_top.specs.declared.top.Asked.TheVariants.{Boot, Show, Scavenge, Format, Prepare, Nothing}
use Rattle.session_boot.specs.declared.status.Status.{Status}
use Rattle.session_boot.specs.declared.status.Status.TheVariants as status

-- the word `boot`, alone
abbrev pub AsksBoot : List (List ℕ) → Type 0
AsksBoot words = words ≡ codes "boot" ∷ []

-- the word `show`, alone
abbrev pub AsksShow : List (List ℕ) → Type 0
AsksShow words = words ≡ codes "show" ∷ []

-- the word `scavenge`, alone
abbrev pub AsksScavenge : List (List ℕ) → Type 0
AsksScavenge words = words ≡ codes "scavenge" ∷ []

-- a pack's number: 1 to 65,535
abbrev pub in_word : Option ℕ → Option ℕ
in_word None = None
in_word (Some n) = cond (nat_le 1 n && nat_le n 65535) (Some n) None

abbrev pub pack_number : List ℕ → Option ℕ
pack_number word = in_word (number_in word)

-- the word `format`, and a pack's number
pub record AsksFormat (words : List (List ℕ)) (n : ℕ) : Type 0 where
  pub word : List ℕ
  pub words_are : words ≡ codes "format" ∷ word ∷ []
  pub number : pack_number word ≡ Some n

-- the word `prepare`, and a pack's number
pub record AsksPrepare (words : List (List ℕ)) (n : ℕ) : Type 0 where
  pub word : List ℕ
  pub words_are : words ≡ codes "prepare" ∷ word ∷ []
  pub number : pack_number word ≡ Some n

-- any other words: they ask for `usage`
pub record AsksUsage (words : List (List ℕ)) : Type 0 where
  pub no_boot : AsksBoot words → ⊥
  pub no_show : AsksShow words → ⊥
  pub no_scavenge : AsksScavenge words → ⊥
  pub no_format : (n : ℕ) → AsksFormat words n → ⊥
  pub no_prepare : (n : ℕ) → AsksPrepare words n → ⊥

-- words that write no header, whatever they ask for: neither `format` nor `prepare`
pub record FormatsNothing (words : List (List ℕ)) : Type 0 where
  pub no_format : (n : ℕ) → AsksFormat words n → ⊥
  pub no_prepare : (n : ℕ) → AsksPrepare words n → ⊥

-- what the words ask for
abbrev pub AsksFor : List (List ℕ) → Asked → Type 0
AsksFor words Boot = AsksBoot words
AsksFor words Show = AsksShow words
AsksFor words Scavenge = AsksScavenge words
AsksFor words (Format n) = AsksFormat words n
AsksFor words (Prepare n) = AsksPrepare words n
AsksFor words Nothing = AsksUsage words

-- words that ask for what may write the pack
abbrev pub MayWrite : List (List ℕ) → Type 0
MayWrite words = AsksBoot words ⊎ (AsksScavenge words ⊎ (((n : ℕ) × AsksFormat words n) ⊎ ((n : ℕ) × AsksPrepare words n)))

abbrev pub usage_text : List ℕ
usage_text = codes "usage\n"

-- the answers to words that ask for `usage`
abbrev pub AnswersUsage : Status → Type 0
AnswersUsage status.Done = ⊥
AnswersUsage status.Usage = Unit {0}
AnswersUsage status.NeedsScavenge = ⊥
AnswersUsage status.DiskFault = ⊥
AnswersUsage status.KeyFault = ⊥
AnswersUsage status.DisplayFault = Unit {0}
AnswersUsage status.Memory = Unit {0}
AnswersUsage status.CannotScavenge = ⊥

-- Words that ask for `usage`: it is shown, a prefix of it if the display failed, nothing if no memory was left, and nothing
-- else happens.
pub record ShowsUsage (old new : Taped) (answer : Status) : Type 0 where
  pub some : IsFirstOf (shown_events usage_text) (added old new)
  pub usage : answer ≡ status.Usage → added old new ≡ shown_events usage_text
  pub memory : answer ≡ status.Memory → added old new ≡ []
  pub keys : new.keys ≡ old.keys
  pub runs : new.runs ≡ old.runs

-- ---- the word `prepare`: on one drive it asks for `usage`
-- its answers on so many drives: those of preparing on two, and those of `usage` on one
pub record AnswersPrepare (disks : ℕ) (answer : Status) : Type 0 where
  pub two : disks ≡ 2 → AnswersFormat answer
  pub one : disks ≢ 2 → AnswersUsage answer

-- On a machine that is modelled: on two drives the second one is prepared, and on one drive `usage` is shown.
pub record PreparesOrUsage (number : ℕ) (old new : Taped) (answer : Status) : Type 0 where
  pub two : disks_of old.form ≡ 2 → PreparesPack number old new answer
  pub shows : disks_of old.form ≡ 2 → ShowsThroughout old new
  pub one : disks_of old.form ≢ 2 → ShowsUsage old new answer

-- ---- the word `boot`: a session, of which nobody is shown the tally
-- Whatever stands on the pack, a record is written only after a key was taken, and a key is taken only where a sector carries DiskDescriptor's
-- page 1 with the clean mark and the right words.
pub record BootedAlone (moment : ℕ) (old new : Taped) (answer : Status) : Type 0 where
  pub tally : Tally
  pub booted : Booted moment old new (no_tally 0) tally answer
  pub unread : new.keys ≡ old.keys → writes_in (added old new) ≡ 0
  pub entered : new.keys ≢ old.keys → HasCleanPage (pack old) disk_descriptor

-- ---- the top call, by the words
-- `prepare` with a number, on so many drives: there is a second drive, or there is none
abbrev pub MayPrepare : List (List ℕ) → ℕ → Type 0
MayPrepare words disks = ((n : ℕ) × AsksPrepare words n) × (disks ≡ 2)

abbrev pub CannotPrepare : List (List ℕ) → ℕ → Type 0
CannotPrepare words disks = ((n : ℕ) × AsksPrepare words n) × (disks ≢ 2)

-- On so many drives. Usage is answered only to words that ask for it and to `prepare` where there is no second drive; Done only to `boot`,
-- `show`, `scavenge`, `format`, and `prepare` where there is one; NeedsScavenge only to `boot`, and CannotScavenge only to `scavenge`; and what
-- each of the words but `boot` can answer.
pub record AnswersTo (words : List (List ℕ)) (disks : ℕ) (answer : Status) : Type 0 where
  pub usage : answer ≡ status.Usage → AsksUsage words ⊎ CannotPrepare words disks
  pub done : answer ≡ status.Done → AsksBoot words ⊎ (AsksShow words ⊎ (AsksScavenge words ⊎ (((n : ℕ) × AsksFormat words n) ⊎ MayPrepare words disks)))
  pub needs : answer ≡ status.NeedsScavenge → AsksBoot words
  pub cannot : answer ≡ status.CannotScavenge → AsksScavenge words
  pub show : AsksShow words → AnswersShow answer
  pub scavenge : AsksScavenge words → AnswersScavenge answer
  pub format : (n : ℕ) → AsksFormat words n → AnswersFormat answer
  pub prepare : (n : ℕ) → AsksPrepare words n → AnswersPrepare disks answer
  pub others : AsksUsage words → AnswersUsage answer

-- No event is taken back; `show`, `scavenge`, `format` and `prepare` take no key; and words that ask for `usage` touch the display alone, as `prepare`
-- does where there is no second drive.
pub record Touches (words : List (List ℕ)) (old new : Taped) : Type 0 where
  pub grown : Grown old new
  pub show : AsksShow words → KeepsKeys old new
  pub scavenge : AsksScavenge words → KeepsKeys old new
  pub format : (n : ℕ) → AsksFormat words n → KeepsKeys old new
  pub prepare : (n : ℕ) → AsksPrepare words n → KeepsKeys old new
  pub unprepared : (n : ℕ) → AsksPrepare words n → disks_of old.form ≢ 2 → ShowAlone old new
  pub others : AsksUsage words → ShowAlone old new

-- On a machine that is modelled, at this moment: `boot` is a session, `show` shows what the pack shows, `scavenge` scavenges it, `format`
-- formats it, `prepare` prepares its second drive where there is one, and other words show `usage`.
pub record DoesAsAsked (words : List (List ℕ)) (moment : ℕ) (old new : Taped) (answer : Status) : Type 0 where
  pub boot : AsksBoot words → BootedAlone moment old new answer
  pub show : AsksShow words → ShowsPack old new answer
  pub scavenge : AsksScavenge words → ScavengesPack old new answer
  pub format : (n : ℕ) → AsksFormat words n → FormatsPack n moment old new answer
  pub prepare : (n : ℕ) → AsksPrepare words n → PreparesOrUsage n old new answer
  pub others : AsksUsage words → ShowsUsage old new answer
