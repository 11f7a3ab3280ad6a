-- The mark of DiskDescriptor while a pack is scavenged.
use Rattle.std.specs.Prelude.{List, Some, [], ℕ, ◌∷◌, ◌≡◌, ◌≢◌}
use Rattle.laws_operation.specs.alto_words.specs.Fid.{disk_descriptor}
use Rattle.laws_operation.specs.disk_records.specs.Packs.{Pack, after, carried, sector_at}
use Rattle.laws_operation.specs.disk_records.specs.Words.{word}
use Rattle.laws_operation.specs.disk_records.specs.declared.records.Event.TheVariants.{Wrote}
use Rattle.laws_operation.specs.disk_records.specs.declared.records.Page.{Page}
use Rattle.laws_operation.specs.pack_model.specs.reading.Files.{place}
use Rattle.laws_operation.specs.pack_model.specs.scavenger.Scavenging.{Unmarked}
use Rattle.laws_operation.specs.pack_model.specs.reading.Sights.{sights}
use Rattle.laws_operation.specs.pack_model.specs.states.Sound.{Clean, mark_clean}
use Rattle.laws_record.specs.QuietLaws.{with_value}

-- the page whose value has the mark
abbrev pub mark_page : Page
mark_page = record { fid = disk_descriptor; number = 1 }

-- a value with another mark
abbrev pub OtherMark : List ℕ → Type 0
OtherMark value = word value 6 ≢ mark_clean

-- an unmarked pack isn't clean, whatever the byte count of the page says
abbrev pub UnmarkedIsUnclean : Type 0
UnmarkedIsUnclean = (p : Pack) → Unmarked p → Clean p → ⊥

-- The mark is opened: another one is written where the page is.
abbrev pub OpenedIsUnmarked : Type 0
OpenedIsUnmarked = (p : Pack) (at : ℕ) (value : List ℕ) → place (sights p) disk_descriptor 1 ≡ Some at → OtherMark value → Unmarked (with_value p at value)

-- A record write keeps a pack unmarked where its sector, if it is the place of the page, carries it afterwards too, and has another
-- mark wherever it carries it then.
abbrev pub UnmarkedStays : Type 0
UnmarkedStays = (p : Pack) (at part : ℕ) (words : List ℕ) → let q : Pack = after p (Wrote at part words ∷ []) in
    Unmarked p → (place (sights p) disk_descriptor 1 ≡ Some at → carried q at ≡ Some mark_page) → (carried q at ≡ Some mark_page → OtherMark (sector_at q at).value) → Unmarked q
