-- What all record writes of each operation do, by the laws of the operations.
use Rattle.std.proofs.Common.{List, [], ap, refl, subst, suc, sym, true, ℕ, ◌∙◌, ◌∷◌, ◌≡◌}
use Rattle.std.specs.Prelude.{drop as drop_front, length}
use Rattle.laws_hint.specs.alto_words.specs.Fid.{is_directory}
use Rattle.laws_hint.specs.alto_words.specs.declared.fid.Fid.{Fid}
use Rattle.laws_hint.specs.disk_records.specs.Packs.{Pack, sector_at}
use Rattle.laws_hint.specs.disk_records.specs.declared.shape.Shape.{Shape}
use Rattle.laws_hint.specs.pack_model.specs.operations.Commands.{Claim, all_claimed, claims_of, cut_label, first_page_claim, grown_claims, grown_label, grown_value, leader_claim, sectors_of}
use Rattle.laws_hint.specs.pack_model.specs.operations.Committing.{page_of_byte}
use Rattle.laws_hint.specs.pack_model.specs.operations.Entering.{entry_value, values_first}
use Rattle.laws_hint.specs.pack_model.specs.operations.Operations.{grow_writes}
use Rattle.laws_hint.specs.pack_model.specs.operations.PageWords.{freed_value, widening_bytes}
use Rattle.laws_hint.specs.pack_model.specs.operations.Step.Operation.{grow, widen}
use Rattle.laws_hint.specs.pack_model.specs.reading.Files.{file_bytes}
use Rattle.laws_hint.specs.pack_model.specs.reading.SlotWords.{space_words}
use Rattle.laws_hint.specs.pack_model.specs.reading.Sights.{sights}
use Rattle.laws_hint.specs.pack_model.specs.reading.Slots.Item.{entry}
use Rattle.laws_hint.specs.pack_model.specs.reading.Slots.{all_words, item_words}
use Rattle.laws_hint.specs.pack_model.specs.states.Whole.{Tidy, Whole}
use Rattle.laws_call.specs.ActLaws.{ActsOfEachOperation}
use Rattle.laws_call.specs.Acting.{Acts}
use Rattle.laws_hint.proofs.changes.Laws.{claims_mark_the_map, releases_mark_the_map, values_leave_the_map}
use Rattle.laws_hint.specs.MapChanges.{ReleasesMark, ValuesLeave}
use Rattle.laws_hint.specs.laws_line.proofs.crashes.Laws.{crashes_of_each_operation, crashes_of_enter}
use Rattle.laws_hint.specs.laws_line.specs.EachLaws.{EachStays}
use Rattle.laws_hint.specs.laws_operation.proofs.cut.Laws.{cut_carries_out, cut_keeps_links, cut_takes_no_sector, cut_words_fit}
use Rattle.laws_hint.specs.laws_operation.proofs.drop.Laws.{drop_carries_out, drop_keeps_links, drop_takes_no_sector}
use Rattle.laws_hint.specs.laws_operation.proofs.enter.Laws.{enter_carries_out, enter_keeps_links, enter_leaves_free_sectors}
use Rattle.laws_hint.specs.laws_operation.proofs.grow.Laws.{grow_carries_out, grow_keeps_links, grow_keeps_unclaimed_free, grow_words_fit}
use Rattle.laws_hint.specs.laws_operation.proofs.leave.Laws.{leave_carries_out, leave_keeps_links}
use Rattle.laws_hint.specs.laws_operation.proofs.make.Laws.{make_carries_out, make_keeps_links, make_keeps_unclaimed_free, make_words_fit}
use Rattle.laws_hint.specs.laws_operation.proofs.put.Laws.{put_carries_out, put_keeps_links}
use Rattle.laws_hint.specs.laws_operation.proofs.stamp.Laws.{stamp_carries_out, stamp_keeps_links}
use Rattle.laws_hint.specs.laws_operation.proofs.title.Laws.{title_carries_out, title_keeps_links}
use Rattle.laws_hint.specs.laws_operation.proofs.values.Laws.{values_leave_free_sectors}
use Rattle.laws_hint.specs.laws_operation.proofs.widen.Laws.{widen_carries_out, widen_keeps_links, widen_words_fit}
use Rattle.laws_hint.specs.laws_operation.specs.ByteLaws.{IsOrdinary}
use Rattle.laws_hint.specs.laws_operation.specs.FileWords.{CanGrow}
use Rattle.laws_hint.specs.laws_operation.specs.NameLaws.{entry_room}

-- the sectors of claims are those that were given for them
claimed_are : (shape : Shape) (f : Fid) (number previous : ℕ) (bytes past fresh : List ℕ) → sectors_of (all_claimed (claims_of shape f number previous bytes past fresh)) ≡ fresh
claimed_are shape f number previous bytes past [] = refl
claimed_are shape f number previous bytes past (at ∷ fresh) = ap (λ l. at ∷ l) (claimed_are shape f (suc number) at (drop_front 512 bytes) past fresh)

module _ (p : Pack) (w : Whole p) (t : Tidy p) where
  -- bytes appended to a file of this length
  grown : (f : Fid) (new past fresh : List ℕ) (at : ℕ) → IsOrdinary f → let b : ℕ = length (file_bytes (sights p) f) in CanGrow p f b new past fresh at
      → Acts p (grow f new) fresh [] (grow_writes (grown_claims p.shape f b at new past fresh) at (grown_label p.shape b new fresh (sector_at p at).label) (grown_value b new past fresh (sector_at p at).value))
  grown f new past fresh at file can =
      let b : ℕ = length (file_bytes (sights p) f) in
      let claims : List Claim = grown_claims p.shape f b at new past fresh in
      let label : List ℕ = grown_label p.shape b new fresh (sector_at p at).label in
      let value : List ℕ = grown_value b new past fresh (sector_at p at).value in
      let may = grow_words_fit p f b new past fresh at w file can in
      let law = grow_carries_out p f new claims at label value w t may in
      subst (λ l. Acts p (grow f new) l [] (grow_writes claims at label value)) (claimed_are p.shape f _ at _ past fresh) (record {
        stays = (crashes_of_each_operation p w t).grows f new claims at label value may;
        descriptor = law.descriptor;
        fits = law.fits;
        links = grow_keeps_links p f new past fresh at w t may;
        map = (claims_mark_the_map p w t).grows f new claims at label value may;
        free = grow_keeps_unclaimed_free p f (page_of_byte b) claims at label value can.sector;
      })

  -- a free slot more for a directory of this length
  widened : (d : Fid) (past fresh : List ℕ) (at : ℕ) → is_directory d ≡ true → let b : ℕ = length (file_bytes (sights p) d) in CanGrow p d b widening_bytes past fresh at
      → Acts p (widen d) fresh [] (grow_writes (grown_claims p.shape d b at widening_bytes past fresh) at (grown_label p.shape b widening_bytes fresh (sector_at p at).label) (grown_value b widening_bytes past fresh (sector_at p at).value))
  widened d past fresh at directory can =
      let b : ℕ = length (file_bytes (sights p) d) in
      let claims : List Claim = grown_claims p.shape d b at widening_bytes past fresh in
      let label : List ℕ = grown_label p.shape b widening_bytes fresh (sector_at p at).label in
      let value : List ℕ = grown_value b widening_bytes past fresh (sector_at p at).value in
      let may = widen_words_fit p d b past fresh at w directory can in
      let law = widen_carries_out p d (space_words 256) claims at label value w t may in
      subst (λ l. Acts p (widen d) l [] (grow_writes claims at label value)) (claimed_are p.shape d _ at _ past fresh) (record {
        stays = (crashes_of_each_operation p w t).widens d (space_words 256) claims at label value may;
        descriptor = law.descriptor;
        fits = law.fits;
        links = widen_keeps_links p d (space_words 256) past fresh at w t may;
        map = (claims_mark_the_map p w t).widens d (space_words 256) claims at label value may;
        free = grow_keeps_unclaimed_free p d (page_of_byte b) claims at label value can.sector;
      })

pub acts_of_each_operation : ActsOfEachOperation
acts_of_each_operation p w t = record {
  puts = λ f offset new at value may.
      let law = put_carries_out p f offset new at value w t may in
      record { stays = each.puts f offset new at value may; descriptor = law.descriptor; fits = law.fits; links = put_keeps_links p f offset new at value w t may; map = values.puts f offset new at value may; free = λ i free all. values_leave_free_sectors p ((at, value) ∷ []) i ∙ free };
  grows = λ f b new past fresh at file can.
      subst (λ n. CanGrow p f n new past fresh at → Acts p (grow f new) fresh [] (grow_writes (grown_claims p.shape f n at new past fresh) at (grown_label p.shape n new fresh (sector_at p at).label) (grown_value n new past fresh (sector_at p at).value)))
      (sym can.size) (grown p w t f new past fresh at file) can;
  cuts = λ f n at later can.
      let may = cut_words_fit p f n at later can in
      let label : List ℕ = cut_label n (sector_at p at).label in
      let law = cut_carries_out p f n at label later w t may in
      record { stays = each.cuts f n at label later may; descriptor = law.descriptor; fits = law.fits; links = cut_keeps_links p f n at later w t may; map = releases.cuts f n at label later may; free = λ i free all. cut_takes_no_sector p f (page_of_byte n) at label (sector_at p at).value later can.sector i free };
  titles = λ f name at value may.
      let law = title_carries_out p f name at value w t may in
      record { stays = each.titles f name at value may; descriptor = law.descriptor; fits = law.fits; links = title_keeps_links p f name at value w t may; map = values.titles f name at value may; free = λ i free all. values_leave_free_sectors p ((at, value) ∷ []) i ∙ free };
  stamps = λ f moment at value may.
      let law = stamp_carries_out p f moment at value w t may in
      record { stays = each.stamps f moment at value may; descriptor = law.descriptor; fits = law.fits; links = stamp_keeps_links p f moment at value w t may; map = values.stamps f moment at value may; free = λ i free all. values_leave_free_sectors p ((at, value) ∷ []) i ∙ free };
  makes = λ f name moment leader_at page_at can.
      let page : Claim = first_page_claim p.shape f leader_at page_at in
      let leader : Claim = leader_claim p.shape f name moment leader_at page_at in
      let may = make_words_fit p f name moment leader_at page_at can in
      let law = make_carries_out p f name moment page leader w t may in
      record { stays = each.makes f name moment page leader may; descriptor = law.descriptor; fits = law.fits; links = make_keeps_links p f name moment leader_at page_at w t may; map = (claims_mark_the_map p w t).makes f name moment page leader may; free = make_keeps_unclaimed_free p page leader };
  drops = λ f at pages d slot_at a b own may frees.
      let law = drop_carries_out p f at pages d slot_at a b own w t may frees in
      record { stays = each.drops f at pages d slot_at a b own may frees; descriptor = law.descriptor; fits = law.fits; links = drop_keeps_links p f at pages d slot_at a b own w t may frees; map = releases.drops f at pages d slot_at a b own may frees; free = λ i free all. drop_takes_no_sector p at pages slot_at _ i free };
  leaves = λ d name at a b f own may.
      let law = leave_carries_out p d name at a b f own w t may in
      record { stays = each.leaves d name at a b f own may; descriptor = law.descriptor; fits = law.fits; links = leave_keeps_links p d name at a b f own w t may; map = values.leaves d name at a b f own may; free = λ i free all. values_leave_free_sectors p ((at, freed_value (all_words a) (item_words (entry f own)) (sector_at p at).value) ∷ []) i ∙ free };
  enters = λ d name f a old b left words at next_at may address.
      let law = enter_carries_out p d name f a old b left words at next_at w t may in
      record { stays = crashes_of_enter p d name f a old b left words at next_at w t may; descriptor = law.descriptor; fits = law.fits; links = enter_keeps_links p d name f a old b left words at next_at w t may address; map = values.enters d name f a old b left words at next_at may; free = λ i free all. enter_leaves_free_sectors p (values_first p (entry_room a old at next_at) words) at (entry_value p (entry_room a old at next_at) words) i ∙ free };
  widens = λ d b past fresh at directory can.
      subst (λ n. CanGrow p d n widening_bytes past fresh at → Acts p (widen d) fresh [] (grow_writes (grown_claims p.shape d n at widening_bytes past fresh) at (grown_label p.shape n widening_bytes fresh (sector_at p at).label) (grown_value n widening_bytes past fresh (sector_at p at).value)))
      (sym can.size) (widened p w t d past fresh at directory) can;
}
  where
    each : EachStays p
    each = crashes_of_each_operation p w t

    values : ValuesLeave p
    values = values_leave_the_map p w t

    releases : ReleasesMark p
    releases = releases_mark_the_map p w t
