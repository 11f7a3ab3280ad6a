-- Where the pages of a file are after a growth, or those of a directory after a widening, and how long it is then.
use Rattle.std.specs.Prelude.{List, None, Some, length, suc, true, ℕ, ◌+◌, ◌/◌, ◌<◌, ◌≡◌, ◌≢◌, ◌≤◌}
use Rattle.laws_hint.specs.alto_words.specs.Fid.{is_directory}
use Rattle.laws_hint.specs.alto_words.specs.declared.fid.Fid.{Fid}
use Rattle.laws_hint.specs.disk_records.specs.Packs.{Pack, after, sector_at}
use Rattle.laws_hint.specs.laws_lookup.specs.OtherLaws.{KeepsPages, LeavesOthers}
use Rattle.laws_hint.specs.laws_operation.specs.ByteLaws.{Bear, IsOrdinary}
use Rattle.laws_hint.specs.laws_operation.specs.FileWords.{CanGrow}
use Rattle.laws_hint.specs.pack_model.specs.operations.Commands.{grown_claims, grown_label, grown_value}
use Rattle.laws_hint.specs.pack_model.specs.operations.Committing.{length_of, page_of_byte}
use Rattle.laws_hint.specs.pack_model.specs.operations.Operations.{grow_writes}
use Rattle.laws_hint.specs.pack_model.specs.operations.PageWords.{widening_bytes}
use Rattle.laws_hint.specs.pack_model.specs.operations.Step.Operation.{grow, widen}
use Rattle.laws_hint.specs.pack_model.specs.operations.Step.{step}
use Rattle.laws_hint.specs.pack_model.specs.reading.Files.{file_bytes, lives, place}
use Rattle.laws_hint.specs.pack_model.specs.reading.Model.{read_as}
use Rattle.laws_hint.specs.pack_model.specs.reading.Sights.{sights}
use Rattle.laws_hint.specs.pack_model.specs.states.Whole.{Tidy, Whole}

-- ---- lengths
-- the last page of each file of a whole pack has a number, so that the page after a full one has
abbrev pub LastPageHasANumber : Type 0
LastPageHasANumber = (p : Pack) (f : Fid) → Whole p → length (file_bytes (sights p) f) / 512 < 65535

-- in the model of any pack a growth makes a living ordinary file longer by its bytes
abbrev pub GrowLengthens : Type 0
GrowLengthens = (p : Pack) (f : Fid) (new : List ℕ) → IsOrdinary f → lives (sights p) f ≡ true → length_of (step (read_as p) (grow f new)) f ≡ length_of (read_as p) f + length new

-- and a widening makes a living directory longer by 512 bytes
abbrev pub WidenLengthens : Type 0
WidenLengthens = (p : Pack) (d : Fid) → is_directory d ≡ true → lives (sights p) d ≡ true → length_of (step (read_as p) (widen d)) d ≡ length_of (read_as p) d + 512

-- ---- pages
-- All pages up to `last` have places, where they are still, and the leader's sector its words; those that came after it are in these
-- sectors, of which the last one ends the file; there is no other page, and all other files are as they were.
pub record HasGrown (p q : Pack) (f : Fid) (last : ℕ) (fresh : List ℕ) : Type 0 where
  pub there : (n : ℕ) → n ≤ last → place (sights p) f n ≢ None
  pub kept : KeepsPages f last p q
  pub comes : Bear (sights q) f (suc last) fresh
  pub none : (n : ℕ) → last + length fresh < n → place (sights q) f n ≡ None
  pub leads : (at : ℕ) → place (sights p) f 0 ≡ Some at → sector_at q at ≡ sector_at p at
  pub ends : page_of_byte (length (file_bytes (sights q) f)) ≡ last + length fresh
  pub others : LeavesOthers f p q

-- so it is on a whole and tidy pack after a growth of a file of b bytes
abbrev pub FileHasGrown : Type 0
FileHasGrown = (p : Pack) (f : Fid) (b : ℕ) (new past fresh : List ℕ) (at : ℕ) → Whole p → Tidy p → IsOrdinary f → CanGrow p f b new past fresh at
    → HasGrown p (after p (grow_writes (grown_claims p.shape f b at new past fresh) at (grown_label p.shape b new fresh (sector_at p at).label) (grown_value b new past fresh (sector_at p at).value))) f (page_of_byte b) fresh

-- and after a widening
abbrev pub DirectoryHasGrown : Type 0
DirectoryHasGrown = (p : Pack) (d : Fid) (b : ℕ) (past fresh : List ℕ) (at : ℕ) → Whole p → Tidy p → is_directory d ≡ true → CanGrow p d b widening_bytes past fresh at
    → HasGrown p (after p (grow_writes (grown_claims p.shape d b at widening_bytes past fresh) at (grown_label p.shape b widening_bytes fresh (sector_at p at).label) (grown_value b widening_bytes past fresh (sector_at p at).value))) d (page_of_byte b) fresh
