-- Record writes that concern one file leave all others as they were.
use Rattle.std.proofs.Common.{List, [], ap, sym, ℕ, ◌∙◌, ◌∷◌, length}
use Rattle.std.specs.Option.{is_some}
use Rattle.laws_operation.specs.alto_words.specs.declared.fid.Fid.{Fid}
use Rattle.laws_operation.specs.disk_records.specs.Packs.{Pack, after, sector_at}
use Rattle.laws_operation.specs.disk_records.specs.declared.records.Event.{Event}
use Rattle.laws_operation.specs.pack_model.specs.operations.Commands.{values_writes}
use Rattle.laws_operation.specs.pack_model.specs.operations.Committing.{page_of_byte}
use Rattle.laws_operation.specs.pack_model.specs.operations.Operations.{cut_writes, release_file_writes, grow_writes, make_writes}
use Rattle.laws_operation.specs.pack_model.specs.operations.PageWords.{page_number}
use Rattle.laws_operation.specs.pack_model.specs.reading.Files.{file_bytes}
use Rattle.laws_operation.specs.pack_model.specs.reading.Sights.{sights}
use Rattle.laws_operation.specs.pack_model.specs.states.Whole.{Whole}
use Rattle.laws_operation.specs.laws_record.proofs.Copying.{place_carried}
use Rattle.laws_operation.proofs.Cutting.{cut_law}
use Rattle.laws_operation.proofs.Dropped.{release_law}
use Rattle.laws_operation.proofs.Grown.{grow_law}
use Rattle.laws_operation.proofs.Making.{make_law}
use Rattle.laws_operation.proofs.Widening.{widen_law}
use Rattle.laws_operation.proofs.Concerning.{AllConcern, AllOf, cut_concerns, release_concerns, grow_concerns, grown_place, make_concerns, of_carried, other_bytes, other_place, other_sector, same_places, values_concern}
use Rattle.laws_operation.proofs.places.Laws.{file_lives_in_a_place}
use Rattle.laws_lookup.specs.OtherLaws.{AreOfFile, CutKeepsPages, CutLeavesOthers, GrowKeepsPages, GrowLeavesOthers, LeavesOthers, MakeLeavesOthers, PlaceIsOfItsFile, ReleaseLeavesOthers, ValuesLeaveOthers, WidenKeepsPages, WidenLeavesOthers}

-- ---- the other files
left_alone : (p : Pack) (f : Fid) (events : List Event) → Whole p → Whole (after p events) → AllConcern f p events → LeavesOthers f p (after p events)
left_alone p f events wp wq all = record {
  living = λ g other. file_lives_in_a_place (after p events) g ∙ ap is_some (other_place p f events wp wq all g 0 other) ∙ sym (file_lives_in_a_place p g);
  places = λ g n other. other_place p f events wp wq all g n other;
  sectors = λ g n at other there. other_sector p f events wp wq all g n at other (place_carried p (page_number g n) at there);
  bytes = λ g other. other_bytes p f events wp wq all g other;
}

pub place_is_of_its_file : PlaceIsOfItsFile
place_is_of_its_file p f n at there = of_carried f n p at (place_carried p (page_number f n) at there)

all_of : (p : Pack) (f : Fid) (values : List (ℕ × List ℕ)) → AreOfFile p f values → AllOf f p values
all_of p f [] h = tt
all_of p f (v ∷ values) h = (h.0, all_of p f values h.1)

pub of_all : (p : Pack) (f : Fid) (values : List (ℕ × List ℕ)) → AllOf f p values → AreOfFile p f values
of_all p f [] h = tt
of_all p f (v ∷ values) h = (h.0, of_all p f values h.1)

pub values_leave_others : ValuesLeaveOthers
values_leave_others p f values wp wq of = left_alone p f (values_writes values) wp wq (values_concern f values p (all_of p f values of))

pub grow_leaves_others : GrowLeavesOthers
grow_leaves_others p f new claims at label value w t h =
    left_alone p f (grow_writes claims at label value) w (grow_law p w t f h.file new claims at label value h).meets.whole (grow_concerns p w f (page_of_byte (length (file_bytes (sights p) f))) at claims label value h.sector h.claimable h.page)

pub widen_leaves_others : WidenLeavesOthers
widen_leaves_others p d added claims at label value w t h =
    left_alone p d (grow_writes claims at label value) w (widen_law p w t d added claims at label value h).meets.whole (grow_concerns p w d (page_of_byte (length (file_bytes (sights p) d))) at claims label value h.sector h.claimable h.page)

pub cut_leaves_others : CutLeavesOthers
cut_leaves_others p f n at label later w t h =
    left_alone p f (cut_writes at label (sector_at p at).value later) w (cut_law p w t f h.file n at label later h).meets.whole (cut_concerns p w t f n at label later h)

pub make_leaves_others : MakeLeavesOthers
make_leaves_others p f name moment page leader w t h = left_alone p f (make_writes page leader) w (make_law p w t f name moment page leader h).meets.whole (make_concerns p w t f name moment page leader h)

pub release_leaves_others : ReleaseLeavesOthers
release_leaves_others p f at pages w t h = left_alone p f (release_file_writes at pages) w (release_law p w t f at pages h).0.drops.whole (release_concerns p f at pages h)

-- ---- its own pages
pub grow_keeps_pages : GrowKeepsPages
grow_keeps_pages p f new claims at label value w t h n i l there =
    grown_place p w f (page_of_byte (length (file_bytes (sights p) f))) at claims label value h.sector h.claimable h.page (grow_law p w t f h.file new claims at label value h).meets.whole n l ∙ there

pub widen_keeps_pages : WidenKeepsPages
widen_keeps_pages p d added claims at label value w t h n i l there =
    grown_place p w d (page_of_byte (length (file_bytes (sights p) d))) at claims label value h.sector h.claimable h.page (widen_law p w t d added claims at label value h).meets.whole n l ∙ there

pub cut_keeps_pages : CutKeepsPages
cut_keeps_pages p f n at label later w t h m i l there = same_places p w t f n at label later h m l ∙ there
