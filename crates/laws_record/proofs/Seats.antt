-- The seats of a file's pages: each page has one.
use Rattle.std.proofs.Common.{◌+◌, ◌<◌, ◌∙◌, ◌∷◌, ◌≡◌, ◌≤◌, List, [], arith, inl, inr, length, suc, sym, ℕ}
use Rattle.pack_laws.specs.pack_model.specs.states.Whole.{IsSeat, PageAt}

-- a seat's number is one of theirs
pub seat_range : (k : ℕ) (cs : List PageAt) (m i : ℕ) → IsSeat k cs m i → (k ≤ m) × (m < k + length cs)
seat_range k [] m i h = absurd h
seat_range k (c ∷ cs) m i h = elim h [
  | inl p ↦ let e = p.0 in (omega arith, omega arith)
  | inr q ↦ let r = seat_range (suc k) cs m i q in let a = r.0 in let b = r.1 in (omega arith, omega arith)
]

-- each page has one seat
pub seat_once : (k : ℕ) (cs : List PageAt) (m i j : ℕ) → IsSeat k cs m i → IsSeat k cs m j → i ≡ j
seat_once k [] m i j h g = absurd h
seat_once k (c ∷ cs) m i j h g = elim h [
  | inl p ↦ elim g [ inl q ↦ p.1 ∙ sym q.1 | inr q ↦ absurd (let r = (seat_range (suc k) cs m j q).0 in let e = p.0 in omega arith) ]
  | inr p ↦ elim g [ inl q ↦ absurd (let r = (seat_range (suc k) cs m i p).0 in let e = q.0 in omega arith) | inr q ↦ seat_once (suc k) cs m i j p q ]
]
