-- What a whole drop leaves: the releases of a file's sectors, and then the value that frees the slot of its entry.
use Rattle.std.specs.Prelude.{List, Some, false, ℕ, ◌≡◌}
use Rattle.laws_hint.specs.alto_words.specs.Fid.{is_fid}
use Rattle.laws_hint.specs.alto_words.specs.declared.fid.Fid.{Fid}
use Rattle.laws_hint.specs.disk_records.specs.Packs.{Pack, after, sector_at}
use Rattle.laws_hint.specs.laws_operation.specs.DirectoryWords.{HasEntry}
use Rattle.laws_hint.specs.laws_operation.specs.LifeLaws.{MayDrop}
use Rattle.laws_hint.specs.pack_model.specs.operations.Operations.{drop_writes}
use Rattle.laws_hint.specs.pack_model.specs.operations.PageWords.{freed_value}
use Rattle.laws_hint.specs.pack_model.specs.reading.Files.{file_bytes, lives, place}
use Rattle.laws_hint.specs.pack_model.specs.reading.Sights.{sights}
use Rattle.laws_hint.specs.pack_model.specs.reading.Slots.Item.{entry}
use Rattle.laws_hint.specs.pack_model.specs.reading.Slots.{Item, all_words, item_words}
use Rattle.laws_hint.specs.pack_model.specs.states.Whole.{Tidy, Whole}

-- All files except f and d are as they were, as in `LeavesOthers`, and the pages of d have their places.
pub record LeavesOthersOfTwo (f d : Fid) (p q : Pack) : Type 0 where
  pub living : (g : Fid) → is_fid g f ≡ false → is_fid g d ≡ false → lives (sights q) g ≡ lives (sights p) g
  pub places : (g : Fid) (n : ℕ) → is_fid g f ≡ false → place (sights q) g n ≡ place (sights p) g n
  pub sectors : (g : Fid) (n at : ℕ) → is_fid g f ≡ false → is_fid g d ≡ false → place (sights p) g n ≡ Some at → sector_at q at ≡ sector_at p at
  pub bytes : (g : Fid) → is_fid g f ≡ false → is_fid g d ≡ false → file_bytes (sights q) g ≡ file_bytes (sights p) g

-- so it is after a drop of f, on a whole and tidy pack where d has its entry, which is another file than f
pub record WholeDrop (f d : Fid) (p q : Pack) : Type 0 where
  pub apart : is_fid d f ≡ false
  pub others : LeavesOthersOfTwo f d p q

abbrev pub DropLeavesOthers : Type 0
DropLeavesOthers = (p : Pack) (f d : Fid) (at : ℕ) (pages : List ℕ) (slot_at : ℕ) (a b : List Item) (own : List ℕ) → Whole p → Tidy p → MayDrop p f at pages → HasEntry p d slot_at a b f own
    → WholeDrop f d p (after p (drop_writes at pages slot_at (freed_value (all_words a) (item_words (entry f own)) (sector_at p slot_at).value)))
