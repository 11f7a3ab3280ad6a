-- The pages of a file in a row, each in its place.
use Rattle.std.proofs.Common.{◌+◌, ◌<◌, ◌∙◌, ◌≡◌, ◌≤◌, ◌∷◌, List, None, Option, Some, [], ap, arith, get_or, inl, inr, length, lt-ltb, refl, subst, suc, sym, zero, ℕ}
use Rattle.std.proofs.lemmas.Bool.{cases_eq}
use Rattle.pack_laws.specs.alto_words.specs.declared.fid.Fid.{Fid}
use Rattle.pack_laws.specs.pack_model.specs.reading.Files.{page, place}
use Rattle.pack_laws.specs.pack_model.specs.reading.Sights.{Sight}
use Rattle.pack_laws.specs.pack_model.specs.reading.Sights.Sight.{hidden, holds}
use Rattle.pack_laws.specs.pack_model.specs.states.Whole.{IsLaid, IsSeat, PageAt, Seated}
use Rattle.pack_laws.proofs.Joining.{content}

-- the sector of a page that is there
abbrev pub sector_of : Option ℕ → ℕ
sector_of None = 0
sector_of (Some i) = i

module _ (ss : List Sight) (f : Fid) where
  -- page k in its place
  abbrev pub page_in : ℕ → PageAt
  page_in k = (sector_of (place ss f (suc k)), content (page ss f k))

  -- c pages from page k on
  abbrev pub row : ℕ → ℕ → List PageAt
  row k zero = []
  row k (suc c) = page_in k ∷ row (suc k) c

  -- are so many
  pub length-row : (k c : ℕ) → length (row k c) ≡ c
  length-row k zero = refl
  length-row k (suc c) = ap suc (length-row (suc k) c)

  -- they have their seats
  pub row_seated : (k c : ℕ) → ((m : ℕ) → m < k + c → get_or ss (page_in m).0 hidden ≡ holds f m (page_in m).1) → Seated ss f k (row k c)
  row_seated k zero there = tt
  row_seated k (suc c) there = (there k (omega arith), row_seated (suc k) c (λ m l. there m (omega arith)))

  -- and the place of each of them is its seat
  pub row_seat : (k c m i : ℕ) → k ≤ m → m < k + c → place ss f (suc m) ≡ Some i → IsSeat k (row k c) m i
  row_seat k zero m i low high e = absurd (omega arith)
  row_seat k (suc c) m i low high e = elim (cases_eq m k) [
    | inl is ↦ inl (is, sym (ap sector_of e) ∙ ap (λ n. sector_of (place ss f (suc n))) is)
    | inr other ↦ inr (row_seat (suc k) c m i (omega arith) (omega arith) e)
  ]

  -- full pages with a short one after them are laid
  pub row_laid : (k c : ℕ) → ((m : ℕ) → m < k + c → length (page_in m).1 ≡ 512) → length (page_in (k + c)).1 < 512 → IsLaid (row k (suc c))
  row_laid k zero full short = let z : k + 0 ≡ k = omega arith in lt-ltb (length (page_in k).1) 512 (subst (λ n. length (page_in n).1 < 512) z short)
  row_laid k (suc c) full short =
      let z : k + suc c ≡ suc k + c = omega arith in
      (full k (omega arith), row_laid (suc k) c (λ m l. full m (omega arith)) (subst (λ n. length (page_in n).1 < 512) z short))
