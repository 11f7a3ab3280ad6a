-- Where the pages are that a make, a growth or a widening brings.
use Rattle.std.proofs.Common.{List, None, Option, Some, [], arith, inl, inr, length, refl, suc, ℕ, ◌<◌, ◌∷◌, ◌≡◌}
use Rattle.laws_contents.specs.alto_words.specs.declared.fid.Fid.{Fid}
use Rattle.laws_contents.specs.disk_records.specs.Packs.{Pack, after}
use Rattle.laws_contents.specs.pack_model.specs.operations.Commands.{Claim, all_claimed, sectors_of}
use Rattle.laws_contents.specs.pack_model.specs.operations.Committing.{page_of_byte}
use Rattle.laws_contents.specs.pack_model.specs.operations.Operations.{grow_writes, make_writes}
use Rattle.laws_contents.specs.pack_model.specs.operations.PageWords.{page_number}
use Rattle.laws_contents.specs.pack_model.specs.reading.Files.{file_bytes, place}
use Rattle.laws_contents.specs.pack_model.specs.reading.Sights.{sights}
use Rattle.laws_contents.specs.pack_model.specs.states.Whole.{Whole}
use Rattle.laws_contents.specs.laws_record.proofs.Carried.{carried_place}
use Rattle.laws_contents.specs.laws_record.proofs.Copying.{place_carried}
use Rattle.laws_operation.proofs.Grown.{grow_law}
use Rattle.laws_operation.proofs.Widening.{widen_law}
use Rattle.laws_operation.proofs.inside.links.ClaimsRow.{Rowed}
use Rattle.laws_operation.proofs.inside.links.Growing.{rows}
use Rattle.laws_operation.proofs.inside.links.Making.{head_there, never_carried, only_two, page_there, whole_then}
use Rattle.laws_operation.specs.ByteLaws.{Bear}
use Rattle.laws_operation.specs.PlaceLaws.{FileThatDoesNotLiveHasNoPage, GrowPlacesItsPages, MakePlacesItsPages, WidenPlacesItsPages}

-- a page that isn't carried has no place
unplaced : (p : Pack) (f : Fid) (n : ℕ) → ((i : ℕ) → place (sights p) f n ≡ Some i → ⊥) → place (sights p) f n ≡ None
unplaced p f n never = by (place (sights p) f n) refl
  where
    by : (r : Option ℕ) → place (sights p) f n ≡ r → place (sights p) f n ≡ None
    by None e = e
    by (Some i) e = absurd (never i e)

pub file_that_does_not_live_has_no_page : FileThatDoesNotLiveHasNoPage
file_that_does_not_live_has_no_page p f n w dead = unplaced p f n (λ i e. never_carried p w f dead n i (place_carried p (page_number f n) i e))

pub make_places_its_pages : MakePlacesItsPages
make_places_its_pages p f name moment page leader w t h =
    let q : Pack = after p (make_writes page leader) in
    let wq = whole_then p w t f name moment page leader h in
    record {
      leader = carried_place q wq leader.at (page_number f 0) (head_there p w t f name moment page leader h);
      page = carried_place q wq page.at (page_number f 1) (page_there p w t f name moment page leader h);
      none = λ n more. unplaced q f n (λ i e. elim (only_two p w t f name moment page leader h n i e) [ inl x ↦ (let z = x.0 in omega arith) | inr x ↦ (let z = x.0 in omega arith) ]);
    }

-- pages in a row that are carried are in their places
rowed_bear : (q : Pack) → Whole q → (f : Fid) (k : ℕ) (cs : List Claim) → Rowed q f k cs → Bear (sights q) f (suc k) (sectors_of (all_claimed cs))
rowed_bear q w f k [] row = tt
rowed_bear q w f k (c ∷ cs) row = (carried_place q w c.at (page_number f (suc k)) row.0, rowed_bear q w f (suc k) cs row.2)

pub grow_places_its_pages : GrowPlacesItsPages
grow_places_its_pages p f new claims at label value w t h =
    let last : ℕ = page_of_byte (length (file_bytes (sights p) f)) in
    rowed_bear (after p (grow_writes claims at label value)) (grow_law p w t f h.file new claims at label value h).meets.whole f last claims (rows p w f last at claims label value h.sector h.claimable h.page)

pub widen_places_its_pages : WidenPlacesItsPages
widen_places_its_pages p d added claims at label value w t h =
    let last : ℕ = page_of_byte (length (file_bytes (sights p) d)) in
    rowed_bear (after p (grow_writes claims at label value)) (widen_law p w t d added claims at label value h).meets.whole d last claims (rows p w d last at claims label value h.sector h.claimable h.page)
