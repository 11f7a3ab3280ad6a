-- Files by the places of their pages.
use Rattle.std.proofs.Common.{◌∙◌, ◌≡◌, List, None, Option, Some, ap, get_or, refl, suc, sym, ℕ}
use Rattle.std.specs.Option.{is_some}
use Rattle.laws_room.specs.alto_words.specs.declared.fid.Fid.{Fid}
use Rattle.laws_room.specs.pack_model.specs.reading.Files.{file_bytes, lives, page, place}
use Rattle.laws_room.specs.pack_model.specs.reading.Sights.{Sight}
use Rattle.laws_room.specs.pack_model.specs.reading.Sights.Sight.{hidden, holds}
use Rattle.laws_room.specs.pack_laws.proofs.Placing.{leader_of_place, no_leader, no_page, page_of_place}
use Rattle.laws_room.specs.laws_record.proofs.Framing.{bytes_frame}

-- a file lives where its leader page has a place
pub lives_place : (ss : List Sight) (f : Fid) → lives ss f ≡ is_some (place ss f 0)
lives_place ss f = by (place ss f 0) refl
  where
    by : (r : Option ℕ) → place ss f 0 ≡ r → lives ss f ≡ is_some (place ss f 0)
    by None e = ap is_some (no_leader ss f e) ∙ sym (ap is_some e)
    by (Some at) e = ap is_some (leader_of_place ss f at e).leader_is ∙ sym (ap is_some e)

pub lives_by_place : (ss tt : List Sight) (f : Fid) → place tt f 0 ≡ place ss f 0 → lives tt f ≡ lives ss f
lives_by_place ss tt f e = lives_place tt f ∙ ap is_some e ∙ sym (lives_place ss f)

-- a page is as before where its place is, and shows the same
pub page_by_place : (ss tt : List Sight) (f : Fid) (n : ℕ) → place tt f (suc n) ≡ place ss f (suc n) → ((k : ℕ) → place ss f (suc n) ≡ Some k → get_or tt k hidden ≡ get_or ss k hidden) → page tt f n ≡ page ss f n
page_by_place ss tt f n same shown = by (place ss f (suc n)) refl
  where
    by : (r : Option ℕ) → place ss f (suc n) ≡ r → page tt f n ≡ page ss f n
    by None e = no_page tt f n (same ∙ e) ∙ sym (no_page ss f n e)
    by (Some k) e =
        let old = page_of_place ss f n k e in
        let new = page_of_place tt f n k (same ∙ e) in
        let sights_are : holds f n new.bytes ≡ holds f n old.bytes = sym (new.shows hidden) ∙ shown k e ∙ old.shows hidden in
        let bytes : new.bytes ≡ old.bytes = cc in
        new.page_is ∙ ap Some bytes ∙ sym old.page_is

-- so are the bytes of a file
pub bytes_by_places : (ss tt : List Sight) (f : Fid) → ((n : ℕ) → place tt f (suc n) ≡ place ss f (suc n)) → ((n k : ℕ) → place ss f (suc n) ≡ Some k → get_or tt k hidden ≡ get_or ss k hidden) → file_bytes tt f ≡ file_bytes ss f
bytes_by_places ss tt f same shown = bytes_frame tt ss f (λ n r. page_by_place ss tt f n (same n) (shown n))
