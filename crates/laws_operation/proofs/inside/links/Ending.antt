-- A page that isn't full is the last of a whole file.
use Rattle.std.proofs.Common.{List, Some, [], ap, arith, get_or, inl, inr, length, suc, true, ℕ, ◌++◌, ◌<◌, ◌∙◌, ◌∷◌, ◌≡◌}
use Rattle.std.specs.Prelude.{nat_lt}
use Rattle.laws_contents.specs.alto_words.specs.declared.fid.Fid.{Fid}
use Rattle.laws_contents.specs.pack_model.specs.reading.Files.{place}
use Rattle.laws_contents.specs.pack_model.specs.reading.Sights.{Sight}
use Rattle.laws_contents.specs.pack_model.specs.reading.Sights.Sight.{hidden, holds}
use Rattle.laws_contents.specs.pack_model.specs.states.Whole.{FileWhole}
use Rattle.laws_contents.specs.pack_laws.proofs.Placing.{page_of_place}
use Rattle.laws_operation.proofs.Changing.{length-one, seat_of}
use Rattle.laws_contents.specs.laws_record.proofs.Seats.{seat_range}
use Rattle.laws_operation.proofs.Seating.{laid_back}
use Rattle.laws_operation.proofs.inside.Growing.{laid_last}

-- so no sector is the place of a later page
pub none_later : (ss : List Sight) (f : Fid) (n i : ℕ) (b : List ℕ) → FileWhole ss f → get_or ss i hidden ≡ holds f n b → nat_lt (length b) 512 ≡ true → (m j : ℕ) → n < m → place ss f (suc m) ≡ Some j → ⊥
none_later ss f n i b whole is short m j more there =
    let h = seat_of ss f n i b whole is in
    let here = page_of_place ss f m j there in
    let ends : h.later ≡ [] = laid_last i b h.later (laid_back h.front (i, b) h.later h.laid) short in
    elim (h.carries.only j m here.bytes (here.shows hidden)) [
      | inl s ↦
          let r = (seat_range 0 (h.front ++ (i, b) ∷ h.later) m j s).1 in
          let long : length (h.front ++ (i, b) ∷ h.later) ≡ suc n = ap (λ x. length (h.front ++ (i, b) ∷ x)) ends ∙ length-one h.front (i, b) ∙ ap suc h.number in
          omega (arith, r, long)
      | inr s ↦ s
    ]
