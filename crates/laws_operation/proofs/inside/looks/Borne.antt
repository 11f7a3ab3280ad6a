-- Places by labels, and places after values.
use Rattle.std.proofs.Common.{None, Option, Some, [], ap, arith, ltb-true, nat_lt, refl, sym, true, ℕ, ◌<◌, ◌∙◌, ◌∷◌, ◌≡◌}
use Rattle.std.specs.Option.{is_some}
use Rattle.laws_contents.specs.alto_words.specs.Fid.{serial_of}
use Rattle.laws_contents.specs.disk_records.specs.Addresses.{pages_of}
use Rattle.laws_contents.specs.disk_records.specs.Packs.{Pack, after, carried, is_usable, sector_at}
use Rattle.laws_contents.specs.disk_records.specs.declared.records.Page.{Page}
use Rattle.laws_contents.specs.pack_model.specs.operations.Commands.{values_writes}
use Rattle.laws_contents.specs.pack_model.specs.sessions.Descriptor.{serial_value}
use Rattle.laws_contents.specs.pack_model.specs.reading.Files.{lives, place}
use Rattle.laws_contents.specs.pack_model.specs.operations.PageWords.{page_number}
use Rattle.laws_contents.specs.pack_model.specs.reading.Sights.{sights}
use Rattle.laws_contents.specs.pack_laws.proofs.Guarding.{carried_parts}
use Rattle.laws_contents.specs.pack_laws.proofs.Placing.{leader_of_place, no_leader}
use Rattle.laws_contents.specs.laws_record.proofs.Copying.{place_carried}
use Rattle.laws_contents.specs.laws_record.proofs.Heads.{and_left, and_right}
use Rattle.laws_contents.specs.laws_record.proofs.Carried.{carried_place, values_carried}
use Rattle.laws_operation.specs.PlaceLaws.{CarriedInPlace, FileLivesInAPlace, NewSerialNamesNoLivingFile, NoneAboveTheLastSerial, SamePlaces, SerialKeepsPlaces, UncarriedPageHasNoPlace, ValuesKeepPlaces}
use Rattle.std.proofs.lemmas.Bool.{false_from_ne_true}
use Rattle.laws_contents.specs.pack_laws.proofs.files.Laws.{places_are_lowest}

-- ---- on any pack
pub file_lives_in_a_place : FileLivesInAPlace
file_lives_in_a_place p f = by (place (sights p) f 0) refl
  where
    by : (r : Option ℕ) → place (sights p) f 0 ≡ r → lives (sights p) f ≡ is_some (place (sights p) f 0)
    by None e = ap is_some (no_leader (sights p) f e) ∙ sym (ap is_some e)
    by (Some at) e = ap is_some (leader_of_place (sights p) f at e).leader_is ∙ sym (ap is_some e)

-- a sector that carries a page is one of the shape's
carried_below : (p : Pack) (at : ℕ) (page : Page) → carried p at ≡ Some page → at < pages_of p.shape
carried_below p at page is =
    let usable : is_usable p.shape at (sector_at p at) ≡ true = (carried_parts p at page is).0 in
    ltb-true at (pages_of p.shape) (and_left (nat_lt at (pages_of p.shape)) _ (and_right (nat_lt 0 at) _ usable))

pub uncarried_page_has_no_place : UncarriedPageHasNoPlace
uncarried_page_has_no_place p page none = by (place (sights p) page.fid page.number) refl
  where
    by : (r : Option ℕ) → place (sights p) page.fid page.number ≡ r → place (sights p) page.fid page.number ≡ None
    by None e = e
    by (Some at) e = let is : carried p at ≡ Some page = place_carried p page at e in absurd (none at (carried_below p at page is) is)

-- ---- on a whole pack
pub carried_in_place : CarriedInPlace
carried_in_place p page at w is = carried_place p w at page is

pub none_above_the_last_serial : NoneAboveTheLastSerial
none_above_the_last_serial p f w above = false_from_ne_true (lives (sights p) f) (λ live. let most = w.last f live in absurd (omega arith))

-- ---- values
-- where the same pages are carried they have the same places
module _ (p q : Pack) (same : (i : ℕ) → carried q i ≡ carried p i) where
  places_same : (page : Page) → place (sights q) page.fid page.number ≡ place (sights p) page.fid page.number
  places_same page = by (place (sights p) page.fid page.number) refl (place (sights q) page.fid page.number) refl
    where
      by : (r : Option ℕ) → place (sights p) page.fid page.number ≡ r → (s : Option ℕ) → place (sights q) page.fid page.number ≡ s → place (sights q) page.fid page.number ≡ place (sights p) page.fid page.number
      by (Some at) e s d =
          let h = (places_are_lowest p page).lowest at e in
          (places_are_lowest q page).place_is at (record { here = same at ∙ h.here; lowest = λ j l is. h.lowest j l (sym (same j) ∙ is) }) ∙ sym e
      by None e (Some at) d = let h = (places_are_lowest q page).lowest at d in absurd ((places_are_lowest p page).none e at (sym (same at) ∙ h.here))
      by None e None d = d ∙ sym e

  -- and the same files live
  pub same_places : SamePlaces p q
  same_places = record {
    living = λ f. file_lives_in_a_place q f ∙ ap is_some (places_same (page_number f 0)) ∙ sym (file_lives_in_a_place p f);
    places = λ f n. places_same (page_number f n);
  }

pub values_keep_places : ValuesKeepPlaces
values_keep_places p values = same_places p (after p (values_writes values)) (values_carried values p)

pub serial_keeps_places : SerialKeepsPlaces
serial_keeps_places p at last value = values_keep_places p ((at, serial_value last value) ∷ [])

pub new_serial_names_no_living_file : NewSerialNamesNoLivingFile
new_serial_names_no_living_file p f at value w above = (serial_keeps_places p at (serial_of f) value).living f ∙ none_above_the_last_serial p f w above
