-- The seats of a file's pages, by their numbers.
use Rattle.std.proofs.Common.{◌+◌, ◌<◌, ◌∙◌, ◌≡◌, ◌∷◌, List, [], ap, arith, get_or, inl, inr, length, ltb-true, refl, suc, zero, ℕ}
use Rattle.pack_laws.specs.alto_words.specs.declared.fid.Fid.{Fid}
use Rattle.pack_laws.specs.pack_model.specs.reading.Sights.{Sight}
use Rattle.pack_laws.specs.pack_model.specs.reading.Sights.Sight.{hidden, holds}
use Rattle.pack_laws.specs.pack_model.specs.states.Whole.{IsLaid, IsSeat, PageAt, Seated}

-- page j of these
abbrev pub seat : List PageAt → ℕ → PageAt
seat cs j = get_or cs j (0, [])

-- sector i is the seat of page m, by its number among these, which begin with page k
pub record HasNumber (k : ℕ) (cs : List PageAt) (m i : ℕ) : Type 0 where
  pub number : ℕ
  pub within : number < length cs
  pub page_is : m ≡ k + number
  pub sector_is : i ≡ (seat cs number).0

-- each seat has a number
pub seat_number : (k : ℕ) (cs : List PageAt) (m i : ℕ) → IsSeat k cs m i → HasNumber k cs m i
seat_number k [] m i h = absurd h
seat_number k (c ∷ cs) m i h = elim h [
  | inl p ↦ let e = p.0 in record { number = 0; within = omega arith; page_is = omega arith; sector_is = p.1 }
  | inr q ↦ let r = seat_number (suc k) cs m i q in let l = r.within in let e = r.page_is in record { number = suc r.number; within = omega arith; page_is = omega arith; sector_is = r.sector_is }
]

-- what page j of them shows
pub seat_shows : (ss : List Sight) (f : Fid) (k : ℕ) (cs : List PageAt) (j : ℕ) → j < length cs → Seated ss f k cs → get_or ss (seat cs j).0 hidden ≡ holds f (k + j) (seat cs j).1
seat_shows ss f k [] j l h = absurd (omega arith)
seat_shows ss f k (c ∷ cs) zero l h = let z : k ≡ k + 0 = omega arith in h.0 ∙ ap (λ n. holds f n c.1) z
seat_shows ss f k (c ∷ cs) (suc j) l h = let z : suc k + j ≡ k + suc j = omega arith in seat_shows ss f (suc k) cs j (omega arith) h.1 ∙ ap (λ n. holds f n (seat cs j).1) z

-- ---- laid pages
-- there is a last one
pub laid_some : (cs : List PageAt) → IsLaid cs → (k : ℕ) × (length cs ≡ suc k)
laid_some [] h = absurd h
laid_some (c ∷ cs) h = (length cs, refl)

-- all before it are full
pub laid_full : (cs : List PageAt) (j : ℕ) → IsLaid cs → suc j < length cs → length (seat cs j).1 ≡ 512
laid_full [] j h l = absurd h
laid_full (c ∷ []) j h l = absurd (omega arith)
laid_full (c ∷ d ∷ cs) zero h l = h.0
laid_full (c ∷ d ∷ cs) (suc j) h l = laid_full (d ∷ cs) j h.1 (omega arith)

-- and it isn't
pub laid_last : (cs : List PageAt) (k : ℕ) → IsLaid cs → length cs ≡ suc k → length (seat cs k).1 < 512
laid_last [] k h e = absurd h
laid_last (c ∷ []) zero h e = ltb-true (length c.1) 512 h
laid_last (c ∷ []) (suc k) h e = absurd (omega arith)
laid_last (c ∷ d ∷ cs) zero h e = absurd (omega arith)
laid_last (c ∷ d ∷ cs) (suc k) h e = laid_last (d ∷ cs) k h.1 (omega arith)
