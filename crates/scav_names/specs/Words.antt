-- Single words of directories: which are written, and their record writes.
use Rattle.std.specs.Prelude.{◌≡◌, ◌≢◌, ◌⊎◌, ℕ, ◌+◌, ◌/◌, ◌<◌, ◌≤◌, ◌==◌, true, cond, nat_eq, nat_le, List, [], ◌∷◌, ◌++◌, length, take, drop, All, Option, Some, None, Result, IfOk, OnOk, IsErrOf}
use Rattle.std.specs.Cmp.Lexicographic.{pointwise}
use Rattle.std.specs.declared.cmp.Ordering.TheVariants.{Less}
use Rattle.std.specs.Option.{option_map_or, option_to_list}
use Rattle.alto_words.specs.declared.fid.Fid.{Fid}
use Rattle.alto_words.specs.Fid.{fid_cmp, is_directory}
use Rattle.disk_records.specs.declared.records.Event.{Event}
use Rattle.disk_records.specs.declared.records.Page.{Page}
use Rattle.disk_records.specs.Commands.{value_writes}
use Rattle.disk_records.specs.Events.{IsFirstOf}
use Rattle.disk_records.specs.Packs.{Pack, after, sector_at}
use Rattle.disk_records.specs.Tapes.{Taped, added, pack}
use Rattle.pack_model.specs.hints.Links.{dir_words}
use Rattle.pack_model.specs.operations.PageWords.{in_page}
use Rattle.pack_model.specs.reading.Bytes.{put_at}
use Rattle.pack_model.specs.reading.Files.{lives, place}
use Rattle.pack_model.specs.reading.Sights.{sights}
use Rattle.pack_model.specs.reading.SlotWords.{address_word}
use Rattle.pack_model.specs.reading.Slots.{entry_length}
use Rattle.pack_model.specs.states.Sentences.{EachOnce}
use Rattle.scav_pages.specs.declared.errors.Stop.{Stop}
use Rattle.scav_pages.specs.declared.errors.Stop.TheVariants.{Astray}
use Rattle.scav_table.specs.declared.row.Row.{Row}
use Rattle.scav_names.specs.declared.living.Living.{Living}
use Rattle.scav_names.specs.declared.placed.PlacedEntry.{PlacedEntry}
use Rattle.scav_names.specs.declared.words.DirWord.{DirWord}
use Rattle.scav_names.specs.Living.{living_in}

-- the page of a directory with this word; none where no page has a number for it
abbrev pub page_with : Fid → ℕ → Option Page
page_with d place = cond (nat_le (place / 256 + 1) 65535) (Some (record { fid = d; number = place / 256 + 1 })) None

-- whatever its number
abbrev pub word_page : DirWord → Page
word_page w = record { fid = w.dir; number = w.place / 256 + 1 }

-- ---- record writes
-- words in the place of others in a sector's value: none where they stand there
abbrev pub page_writes : Pack → ℕ → ℕ → List ℕ → List Event
page_writes p at from words = cond (pointwise nat_eq (take (length words) (drop from (sector_at p at).value)) words) [] (value_writes at (put_at from words (sector_at p at).value))

-- another value of a sector: none where that one stands there
abbrev pub changed_writes : ℕ → List ℕ → List ℕ → List Event
changed_writes at old new = cond (pointwise nat_eq old new) [] (value_writes at new)

-- one word of a directory, in the sector of its page
abbrev pub word_writes : Pack → DirWord → List Event
word_writes p w = page_writes p (option_map_or (λ at. at) (place (sights p) w.dir (w.place / 256 + 1)) 0) (in_page w.place) (w.word ∷ [])

-- words one after another, each on the pack as it is then
abbrev pub words_writes : Pack → List DirWord → List Event
words_writes p [] = []
words_writes p (w ∷ ws) = word_writes p w ++ words_writes (after p (word_writes p w)) ws

-- ---- words of a pack
-- a word of a living directory
pub record IsWordOf (p : Pack) (w : DirWord) : Type 0 where
  pub lives : lives (sights p) w.dir ≡ true
  pub directory : is_directory w.dir ≡ true
  pub within : w.place < length (dir_words p w.dir)

-- it stands in an earlier directory, or no later in the same one
abbrev pub ComesFirst : DirWord → DirWord → Type 0
ComesFirst w v = (fid_cmp w.dir v.dir ≡ Less) ⊎ ((w.dir ≡ v.dir) × (w.place ≤ v.place))

-- each comes before those after it
abbrev pub Rises : List DirWord → Type 0
Rises [] = Unit {0}
Rises (w ∷ ws) = All (ComesFirst w) ws × Rises ws

-- on a pack that carries no page twice
pub record AreWordsOf (p : Pack) (words : List DirWord) : Type 0 where
  pub once : EachOnce (sights p)
  pub each : All (IsWordOf p) words
  pub rising : Rises words

-- A call that does these record writes: a prefix of them at every answer, all of them at Ok. Every sector is found as it has to be.
pub record WritesPageWords {T : Type 0} (writes : List Event) (old new : Taped) (result : Result T Stop) : Type 0 where
  pub some : IsFirstOf writes (added old new)
  pub ok : OnOk result (added old new ≡ writes)
  pub found : IsErrOf result Astray → ⊥

abbrev pub WritesWords : {T : Type 0} → List DirWord → Taped → Taped → Result T Stop → Type 0
WritesWords words old new result = WritesPageWords (words_writes (pack old) words) old new result

-- ---- the words of one page
-- a full name in three words
pub record IsInWords (f : Fid) : Type 0 where
  pub high : f.high < 65536
  pub low : f.low < 65536
  pub version : f.version < 65536

-- Of these words those in a page are written, up to the one numbered `more`, which lies in another one; the others are left as they are to
-- be written then.
pub record PageIsWritten (words : List DirWord) (done : ℕ) (page : Page) (old new : Taped) (more : ℕ) : Type 0 where
  pub writes : words_writes (pack old) (drop done words) ≡ added old new ++ words_writes (pack new) (drop more words)
  pub other : (w : DirWord) (ws : List DirWord) → drop more words ≡ w ∷ ws → (page_with w.dir w.place ≢ Some page) × IsInWords w.dir

-- A call that writes those of these words from the one numbered `done` on that stand in the page of a row.
pub record WritesInPage (words : List DirWord) (done : ℕ) (row : Row) (old new : Taped) (result : Result ℕ Stop) : Type 0 where
  pub some : IsFirstOf (words_writes (pack old) (drop done words)) (added old new)
  pub ok : IfOk result (PageIsWritten words done row.page old new)
  pub found : IsErrOf result Astray → ⊥

-- ---- which words
-- the first word of an entry's slot, with its length alone: so it is a free one
abbrev pub freeing_word : PlacedEntry → DirWord
freeing_word e = record { dir = e.dir; place = e.place; word = entry_length (length e.name) }

-- the address of an entry, where it isn't that of its file's leader page
abbrev pub other_address : PlacedEntry → Option Living → Option DirWord
other_address e None = None
other_address e (Some x) = cond (x.leader_at == e.leader_at) None (Some (record { dir = e.dir; place = address_word e.place; word = x.leader_at }))

abbrev pub true_address : List Living → PlacedEntry → Option DirWord
true_address files e = other_address e (living_in files e.fid)

abbrev pub address_words : List Living → List PlacedEntry → List DirWord
address_words files [] = []
address_words files (e ∷ es) = option_to_list (true_address files e) ++ address_words files es
