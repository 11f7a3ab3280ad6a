-- Handy hints over the operations of a session.
use Rattle.std.proofs.Common.{All, List, None, Option, Some, [], ap, arith, inl, inr, refl, subst, sym, ℕ, ◌∙◌, ◌∷◌, ◌≡◌, ◌≢◌, ◌≤◌}
use Rattle.std.proofs.lemmas.List.Elements.{All-tail}
use Rattle.std.proofs.lemmas.List.{get_or-set_other}
use Rattle.laws_line.specs.alto_words.specs.declared.fid.Fid.{Fid}
use Rattle.laws_line.specs.disk_records.specs.Commands.{value_writes}
use Rattle.laws_line.specs.disk_records.specs.Packs.{Pack, after, no_sector, sector_at, with_part}
use Rattle.laws_line.specs.disk_records.specs.Words.{word}
use Rattle.laws_line.specs.pack_model.specs.hints.Handy.{IsRightOrIdle, NamesLastPage, last_at_word, last_number_word, leader_word, row_word}
use Rattle.laws_line.specs.pack_model.specs.operations.Commands.{values_writes}
use Rattle.laws_line.specs.pack_model.specs.reading.Files.{place}
use Rattle.laws_line.specs.pack_model.specs.reading.Sights.{Sight, sights}
use Rattle.laws_hint.specs.HandyLaws.{HandyAfterLeaderValue, HandyAfterValues, HandyWherePagesCome, HandyWherePagesStayOrGo}
use Rattle.laws_line.specs.laws_operation.proofs.places.Laws.{values_keep_places}
use Rattle.laws_line.specs.laws_operation.specs.PlaceLaws.{SamePlaces}

-- ---- pages stay or go
-- an address that was right is so still, or no sector bears the page
right_still : (ss us : List Sight) (f : Fid) (n at : ℕ) → ((i : ℕ) → place us f n ≡ Some i → place ss f n ≡ Some i) → IsRightOrIdle ss f n at → IsRightOrIdle us f n at
right_still ss us f n at pages h = by (place us f n) refl h
  where
    one : (i : ℕ) → place ss f n ≡ Some i → IsRightOrIdle ss f n at → i ≡ at
    one i there (inl right) = let same : ◌≡◌ {A = Option ℕ} (Some i) (Some at) = sym there ∙ right in cc
    one i there (inr none) = let same : ◌≡◌ {A = Option ℕ} (Some i) None = sym there ∙ none in cc

    by : (r : Option ℕ) → place us f n ≡ r → IsRightOrIdle ss f n at → IsRightOrIdle us f n at
    by None e h = inr e
    by (Some i) e h = inl (e ∙ ap Some (one i (pages i e) h))

pub handy_where_pages_stay_or_go : HandyWherePagesStayOrGo
handy_where_pages_stay_or_go p q f cache k h = record {
  row = λ at there. elim (h.row at (k.pages 0 at there)) [
    | inl none ↦ inl ((k.words at there).row ∙ none)
    | inr row ↦ inr (λ n i is. row n i (k.pages n i is))
  ];
  last = λ at there. last at there (h.last at (k.pages 0 at there));
  cached = λ i d low e. right_still (sights p) (sights q) f _ _ (k.pages _) (h.cached i d low e);
}
  where
    last : (at : ℕ) → place (sights q) f 0 ≡ Some at → NamesLastPage (sights p) f (leader_word p at last_number_word) (leader_word p at last_at_word) → NamesLastPage (sights q) f (leader_word q at last_number_word) (leader_word q at last_at_word)
    last at there (inl none) = inl ((k.words at there).last_number ∙ none)
    last at there (inr said) =
        let w = k.words at there in
        inr (right_still (sights p) (sights q) f (leader_word q at last_number_word) (leader_word q at last_at_word) (k.pages (leader_word q at last_number_word))
        (subst (λ n. IsRightOrIdle (sights p) f n (leader_word q at last_at_word)) (sym w.last_number) (subst (IsRightOrIdle (sights p) f (leader_word p at last_number_word)) (sym w.last_at) said)))

-- ---- values
-- a sector that none of the values is written into
values_apart : (values : List (ℕ × List ℕ)) (p : Pack) (at : ℕ) → All (λ v. at ≢ v.0) values → sector_at (after p (values_writes values)) at ≡ sector_at p at
values_apart [] p at h = refl
values_apart (v ∷ values) p at h =
    values_apart values (after p (value_writes v.0 v.1)) at (All-tail (λ w. at ≢ w.0) v values h)
    ∙ get_or-set_other p.sectors v.0 at (with_part 2 v.1 (sector_at p v.0)) no_sector (h 0 v (omega arith))

pub handy_after_values : HandyAfterValues
handy_after_values p values f cache apart h =
    let q : Pack = after p (values_writes values) in
    let same = values_keep_places p values in
    handy_where_pages_stay_or_go p q f cache (record {
      pages = λ n at there. sym (same.places f n) ∙ there;
      words = λ at there.
          let was : place (sights p) f 0 ≡ Some at = sym (same.places f 0) ∙ there in
          let sector : sector_at q at ≡ sector_at p at = values_apart values p at (λ i d low e. apart i d low (was ∙ ap Some e)) in
          record { row = ap (λ s. word s.value row_word) sector; last_at = ap (λ s. word s.value last_at_word) sector; last_number = ap (λ s. word s.value last_number_word) sector };
    }) h

pub handy_after_leader_value : HandyAfterLeaderValue
handy_after_leader_value p at value f cache sector row last h = record {
  row = λ i there. elim (h.row i (was i there)) [
    | inl none ↦ inl (subst (λ j. leader_word q j row_word ≡ leader_word p j row_word) (here i there) row ∙ none)
    | inr rows ↦ inr (λ n j is. rows n j (sym (same.places f n) ∙ is))
  ];
  last = λ i there. subst (λ j. NamesLastPage (sights q) f (leader_word q j last_number_word) (leader_word q j last_at_word)) (here i there) (named last);
  cached = λ i d low e. right_still (sights p) (sights q) f _ _ (λ j is. sym (same.places f _) ∙ is) (h.cached i d low e);
}
  where
    q : Pack
    q = after p (values_writes ((at, value) ∷ []))

    same : SamePlaces p (after p (values_writes ((at, value) ∷ [])))
    same = values_keep_places p ((at, value) ∷ [])

    was : (i : ℕ) → place (sights (after p (values_writes ((at, value) ∷ [])))) f 0 ≡ Some i → place (sights p) f 0 ≡ Some i
    was i there = sym (same.places f 0) ∙ there

    here : (i : ℕ) → place (sights (after p (values_writes ((at, value) ∷ [])))) f 0 ≡ Some i → at ≡ i
    here i there = let e : ◌≡◌ {A = Option ℕ} (Some at) (Some i) = sym sector ∙ was i there in cc

    named : {number last_at : ℕ} → NamesLastPage (sights p) f number last_at → NamesLastPage (sights (after p (values_writes ((at, value) ∷ [])))) f number last_at
    named (inl none) = inl none
    named {number} {last_at} (inr said) = inr (right_still (sights p) (sights (after p (values_writes ((at, value) ∷ [])))) f number last_at (λ j is. sym (same.places f number) ∙ is) said)

-- ---- pages come
pub handy_where_pages_come : HandyWherePagesCome
handy_where_pages_come p q f last cache k h = record {
  row = λ at there. inl (k.row at there);
  last = λ at there. named at there (h.last at (sym (same 0 (omega arith)) ∙ there));
  cached = λ i d low e. elim (k.cached i d low e) [ inl old ↦ kept _ _ old.0 old.1 | inr now ↦ inl now ];
}
  where
    same : (n : ℕ) → n ≤ last → place (sights q) f n ≡ place (sights p) f n
    same n low = by (place (sights p) f n) refl
      where
        by : (r : Option ℕ) → place (sights p) f n ≡ r → place (sights q) f n ≡ place (sights p) f n
        by None e = absurd (k.there n low e)
        by (Some i) e = k.pages n i low e ∙ sym e

    kept : (n at : ℕ) → n ≤ last → IsRightOrIdle (sights p) f n at → IsRightOrIdle (sights q) f n at
    kept n at low (inl right) = inl (same n low ∙ right)
    kept n at low (inr none) = inr (same n low ∙ none)

    named : (at : ℕ) → place (sights q) f 0 ≡ Some at → NamesLastPage (sights p) f (leader_word p at last_number_word) (leader_word p at last_at_word) → NamesLastPage (sights q) f (leader_word q at last_number_word) (leader_word q at last_at_word)
    named at there (inl none) = inl ((k.words at there).last_number ∙ none)
    named at there (inr said) =
        let w = k.words at there in
        inr (kept (leader_word q at last_number_word) (leader_word q at last_at_word) (k.number at there)
        (subst (λ n. IsRightOrIdle (sights p) f n (leader_word q at last_at_word)) (sym w.last_number) (subst (IsRightOrIdle (sights p) f (leader_word p at last_number_word)) (sym w.last_at) said)))
