-- The sectors in use, before and after an operation, and a claim that a scavenge makes.
use Rattle.std.specs.Prelude.{List, None, Some, false, length, suc, true, ℕ, ◌+◌, ◌/◌, ◌≡◌, ◌≤◌}
use Rattle.std.specs.FinMap.{contains_key}
use Rattle.laws_operation.specs.alto_words.specs.Fid.{disk_descriptor, is_directory}
use Rattle.laws_operation.specs.disk_records.specs.Labels.{page_of, tag}
use Rattle.laws_operation.specs.disk_records.specs.Packs.{Pack, is_free_at}
use Rattle.laws_operation.specs.disk_records.specs.declared.records.Page.{Page}
use Rattle.laws_operation.specs.pack_model.specs.operations.Committing.{length_of, pages_cut, pages_for_operation}
use Rattle.laws_operation.specs.pack_model.specs.reading.Files.{file_bytes, numbered, place}
use Rattle.laws_operation.specs.pack_model.specs.states.InUse.{available, counts, how_many, in_use}
use Rattle.laws_operation.specs.pack_model.specs.reading.Model.{Model, read_as}
use Rattle.laws_operation.specs.pack_model.specs.scavenger.Needed.{needed}
use Rattle.laws_operation.specs.pack_model.specs.reading.Bodies.{pages_for}
use Rattle.laws_operation.specs.pack_model.specs.reading.Sights.{sights}
use Rattle.laws_operation.specs.pack_model.specs.operations.Step.{Operation, step}
use Rattle.laws_operation.specs.pack_model.specs.operations.Step.Operation.{cut, drop_file, enter, grow, leave, make, put, stamp, title, widen}
use Rattle.laws_operation.specs.pack_model.specs.states.Whole.{Whole}
use Rattle.laws_record.specs.QuietLaws.{with_label}

-- how many sectors are in use
abbrev pub sectors_in_use : Pack → ℕ
sectors_in_use p = how_many (in_use p.shape (sights p)) (numbered 0 (sights p))

-- ---- the pages that an operation frees
abbrev pub pages_freed : Model → Operation → ℕ
pages_freed m (make f name moment) = 0
pages_freed m (put f offset new) = 0
pages_freed m (grow f new) = 0
pages_freed m (cut f n) = pages_cut (length_of m f) n
pages_freed m (title f name) = 0
pages_freed m (stamp f moment) = 0
pages_freed m (drop_file f) = pages_for (length_of m f)
pages_freed m (leave d name) = 0
pages_freed m (enter d name f) = 0
pages_freed m (widen d) = 0

-- it may be done on the model
abbrev pub MayBeDone : Model → Operation → Type 0
MayBeDone m (make f name moment) = contains_key m.files f ≡ false
MayBeDone m (put f offset new) = (is_directory f ≡ false) × (offset + length new ≤ length_of m f)
MayBeDone m (grow f new) = (is_directory f ≡ false) × (contains_key m.files f ≡ true)
MayBeDone m (cut f n) = (is_directory f ≡ false) × (n ≤ length_of m f)
MayBeDone m (title f name) = Unit {0}
MayBeDone m (stamp f moment) = Unit {0}
MayBeDone m (drop_file f) = contains_key m.files f ≡ true
MayBeDone m (leave d name) = Unit {0}
MayBeDone m (enter d name f) = Unit {0}
MayBeDone m (widen d) = (is_directory d ≡ true) × (contains_key m.files d ≡ true)

-- Between whole packs of which one is read as the other with an operation done, the sectors in use are more by the pages that it adds and
-- fewer by those that it frees.
abbrev pub UseFollowsTheOperation : Type 0
UseFollowsTheOperation = (p q : Pack) (o : Operation) → Whole p → Whole q → q.shape ≡ p.shape → MayBeDone (read_as p) o → read_as q ≡ step (read_as p) o
    → sectors_in_use q + pages_freed (read_as p) o ≡ sectors_in_use p + pages_for_operation (read_as p) o

-- ---- a claim that a scavenge makes
-- one sector more is in use, one fewer is available, and one fewer needed
pub record Lessens (p q : Pack) : Type 0 where
  pub in_use : sectors_in_use q ≡ sectors_in_use p + 1
  pub available_is : available p.shape (sights p) ≡ available q.shape (sights q) + 1
  pub needed_is : needed p.shape (sights p) ≡ needed q.shape (sights q) + 1

-- A page that a scavenge claims: with 0 bytes the one that the end of a file's bytes is in, or any data page of DiskDescriptor.
pub data IsClaimed (p : Pack) (page : Page) (label : List ℕ) : Type 0 where
  ends : (tag label).bytes ≡ 0 → page.number ≡ suc (length (file_bytes (sights p) page.fid) / 512) → IsClaimed p page label
  describes : (n : ℕ) → page ≡ record { fid = disk_descriptor; number = suc n } → IsClaimed p page label

-- such a page within its living file's end, that no sector carries, in the label of a free sector
abbrev pub ClaimTakesAnAvailableSector : Type 0
ClaimTakesAnAvailableSector = (p : Pack) (at : ℕ) (page : Page) (label : List ℕ) → is_free_at p at ≡ true → page_of label ≡ Some page → place (sights p) page.fid page.number ≡ None
    → counts p.shape (sights p) page.fid page.number ≡ true → IsClaimed p page label → Lessens p (with_label p at label)
