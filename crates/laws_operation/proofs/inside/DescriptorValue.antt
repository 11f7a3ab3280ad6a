-- A data page of DiskDescriptor gets another value of as many bytes, on a whole pack.
use Rattle.std.proofs.Common.{List, Some, ap, arith, false, get_or, length, refl, set, subst, suc, sym, true, zero, ℕ, ◌++◌, ◌∙◌, ◌∷◌, ◌≡◌, ◌≤◌}
use Rattle.laws_contents.specs.alto_words.specs.Fid.{disk_descriptor, is_fid, sys_dir}
use Rattle.laws_contents.specs.alto_words.specs.declared.fid.Fid.{Fid}
use Rattle.laws_contents.specs.disk_records.specs.Commands.{value_writes}
use Rattle.laws_contents.specs.disk_records.specs.Labels.{Tag, tag}
use Rattle.laws_contents.specs.disk_records.specs.Packs.{Pack, after, sector_at}
use Rattle.laws_contents.specs.disk_records.specs.declared.shape.Shape.{Shape}
use Rattle.laws_contents.specs.pack_model.specs.reading.Bodies.{described}
use Rattle.laws_contents.specs.pack_model.specs.reading.Files.{carries_page, leader, lives, place}
use Rattle.laws_contents.specs.pack_model.specs.reading.Leaders.{Leader}
use Rattle.laws_contents.specs.pack_model.specs.reading.Model.{descriptor_words, good_one, good_sectors, is_named, last_serial, read_sights}
use Rattle.laws_contents.specs.pack_model.specs.reading.Namings.{IsTidy, tidied}
use Rattle.laws_contents.specs.pack_model.specs.reading.Sights.{Sight, sights, tag_sight}
use Rattle.laws_contents.specs.pack_model.specs.reading.Sights.Sight.{hidden, holds, leads}
use Rattle.laws_contents.specs.pack_model.specs.reading.Slots.{SlotsReachEnd}
use Rattle.laws_contents.specs.pack_model.specs.states.Whole.{FileWhole, SaysShape, TidySights, Whole, WholeSights}
use Rattle.laws_contents.specs.pack_laws.proofs.Keys.{same_fid}
use Rattle.laws_contents.specs.pack_laws.proofs.Placing.{page_of_place, place_same}
use Rattle.laws_contents.specs.laws_record.proofs.DirReads.{not_descriptor}
use Rattle.laws_contents.specs.laws_record.proofs.Framing.{lives_same, model_same}
use Rattle.laws_contents.specs.laws_record.proofs.Keeping.{described_kept}
use Rattle.laws_contents.specs.laws_record.proofs.Reading.{get_alike}
use Rattle.laws_contents.specs.laws_record.specs.QuietLaws.{counted_of}
use Rattle.laws_operation.proofs.Changing.{Changed, Placed, page_changed, seat_of}
use Rattle.laws_operation.proofs.Commanding.{value_shows}
use Rattle.laws_operation.proofs.inside.Elsewhere.{not_same, other_bytes, other_file, other_leader, other_used, same_good, there}
use Rattle.laws_operation.proofs.Grown.{old_counted}
use Rattle.laws_operation.proofs.Lying.{within}
use Rattle.laws_operation.proofs.Showing.{other_value, tag_is}
use Rattle.laws_operation.specs.ByteLaws.{together}

module _ (shape : Shape) (ss us : List Sight) (l : Leader) (b c : List ℕ) (h : Changed ss us disk_descriptor l l b c) where
  -- all leaders stay
  same_leader : (g : Fid) → leader us g ≡ leader ss g
  same_leader g = elim (is_fid g disk_descriptor) as (λ c. is_fid g disk_descriptor ≡ c → leader us g ≡ leader ss g) [
    | true ↦ λ e. ap (leader us) (same_fid g disk_descriptor e) ∙ h.now ∙ sym h.was ∙ ap (leader ss) (sym (same_fid g disk_descriptor e))
    | false ↦ λ e. other_leader disk_descriptor ss us h.same g e
  ] refl

  -- the same files live
  pub lives_still : lives us ≡ lives ss
  lives_still = lives_same us ss same_leader

  -- and they are the same
  described_still : described us ≡ described ss
  described_still = described_kept ss us (λ g e. get_alike ss us g (same_leader g) (other_bytes disk_descriptor ss us h.same g e))

  -- all but the last serial is read as before
  pub descriptor_reads : read_sights shape us ≡ record (read_sights shape ss) { last = last_serial (descriptor_words us) }
  unfolding read_sights
  descriptor_reads = model_same shape (good_sectors us) (good_sectors ss) (last_serial (descriptor_words us)) (last_serial (descriptor_words us)) (tidied (lives us) (described us)) (tidied (lives ss) (described ss))
      (same_good disk_descriptor ss us h.same) refl (λ i. tidied (lives_still i) (described_still i))

  -- tidy again
  pub descriptor_tidy : TidySights ss → TidySights us
  descriptor_tidy t = subst (λ v. IsTidy v (described us)) (sym lives_still) (subst (IsTidy (lives ss)) (sym described_still) t)

  -- whole again, where the words say the shape and no lower last serial
  pub descriptor_whole : WholeSights shape ss → SaysShape shape (descriptor_words us) → length c ≡ length b → (read_sights shape ss).last ≤ last_serial (descriptor_words us) → WholeSights shape us
  descriptor_whole w says size grows =
      let names : (g : Fid) → is_named (read_sights shape us) g ≡ is_named (read_sights shape ss) g = λ g. ap (λ m. is_named m g) descriptor_reads in
      record {
        files = λ g. elim (is_fid g disk_descriptor) as (λ c. is_fid g disk_descriptor ≡ c → FileWhole us g) [
          | true ↦ λ e. subst (FileWhole us) (sym (same_fid g disk_descriptor e)) h.whole
          | false ↦ λ e. other_file disk_descriptor ss us h.same g (not_same g disk_descriptor e) (w.files g)
        ] refl;
        used = other_used disk_descriptor ss us h.same w.used;
        directories = λ g live dir. subst SlotsReachEnd (sym (other_bytes disk_descriptor ss us h.same g (not_descriptor g dir))) (w.directories g (sym (ap (λ v. v g) lives_still) ∙ live) dir);
        root = (w.root.0, there disk_descriptor ss us h.same 1 (leads sys_dir true w.root.0) (not_same sys_dir disk_descriptor refl) w.root.1);
        root_named = names sys_dir ∙ w.root_named;
        descriptor_named = names disk_descriptor ∙ w.descriptor_named;
        descriptor_lives = ap (λ v. v disk_descriptor) lives_still ∙ w.descriptor_lives;
        descriptor_fits = record { says = says; size = ap length h.since ∙ size ∙ sym (ap length h.before) ∙ w.descriptor_fits.size };
        last = λ g live. let x = w.last g (sym (ap (λ v. v g) lives_still) ∙ live) in let y : (read_sights shape us).last ≡ last_serial (descriptor_words us) = ap (λ m. m.last) descriptor_reads in omega (arith, x, y, grows);
      }

-- ---- the record write
-- One data page of DiskDescriptor and a value with as many counted bytes.
pub record OnePage (p : Pack) (k at : ℕ) (value : List ℕ) : Type 0 where
  pub old : List ℕ
  pub shows : get_or (sights p) at hidden ≡ holds disk_descriptor k old
  pub old_is : old ≡ counted_of p at (sector_at p at).value
  pub spot : Placed (sights p) disk_descriptor k at old
  pub change : Changed (sights p) (set (sights p) at (holds disk_descriptor k (counted_of p at value))) disk_descriptor spot.lead spot.lead (together (spot.front ++ (at, old) ∷ spot.later)) (together (spot.front ++ (at, counted_of p at value) ∷ spot.later))
  pub sights_are : sights (after p (value_writes at value)) ≡ set (sights p) at (holds disk_descriptor k (counted_of p at value))

-- so it is where a sector bears such a page
pub one_page_of : (p : Pack) → Whole p → (k at : ℕ) (value : List ℕ) → place (sights p) disk_descriptor (suc k) ≡ Some at → length (counted_of p at value) ≡ length (counted_of p at (sector_at p at).value) → OnePage p k at value
one_page_of p w k at value sector size =
    let ss : List Sight = sights p in
    let here = page_of_place ss disk_descriptor k at sector in
    let old : List ℕ = here.bytes in
    let is : get_or ss at hidden ≡ holds disk_descriptor k old = here.shows hidden in
    let old_is : old ≡ counted_of p at (sector_at p at).value = old_counted p disk_descriptor k at old is in
    let pl = seat_of ss disk_descriptor k at old (w.files disk_descriptor) is in
    let t0 : Tag = tag (sector_at p at).label in
    let told : tag_sight t0 (sector_at p at).value ≡ holds disk_descriptor k old = sym (tag_is p at (ap good_one is)) ∙ is in
    record {
      old = old;
      shows = is;
      old_is = old_is;
      spot = pl;
      change = page_changed ss disk_descriptor k at old (counted_of p at value) pl is (size ∙ ap length (sym old_is));
      sights_are = value_shows p at (ap good_one is) value (holds disk_descriptor k (counted_of p at value)) (other_value t0 (sector_at p at).value value disk_descriptor k old told);
    }

-- places of DiskDescriptor's pages, and of all others, stay
pub page_stays : (p : Pack) (k at : ℕ) (value : List ℕ) → OnePage p k at value → (n : ℕ) → place (sights (after p (value_writes at value))) disk_descriptor n ≡ place (sights p) disk_descriptor n
page_stays p k at value o n = ap (λ us. place us disk_descriptor n) o.sights_are ∙ place_same (sights p) at (holds disk_descriptor k (counted_of p at value)) disk_descriptor n (within (sights p) at (ap good_one o.shows)) (same n k (counted_of p at value) o.old ∙ sym (ap (carries_page disk_descriptor n) o.shows))
  where
    same : (n k : ℕ) (x y : List ℕ) → carries_page disk_descriptor n (holds disk_descriptor k x) ≡ carries_page disk_descriptor n (holds disk_descriptor k y)
    same zero k x y = refl
    same (suc n) k x y = refl
