-- The page in which a byte of a file stands.
use Rattle.std.proofs.Common.{◌≡◌, ℕ, zero, suc, ◌+◌, ◌*◌, ◌<◌, ◌≤◌, Bool, true, false, cond, not, List, ◌++◌, length, Option, Some, None, refl, ap, subst, ◌∙◌, arith, ltb-false}
use Rattle.std.specs.Prelude.{nat_lt}
use Rattle.std.proofs.lemmas.List.{length-append}
use Rattle.pack_model.specs.reading.Files.{joined}
use Rattle.pack_laws.proofs.Joining.{AreShort, Reaches, Reaches-none, Reaches-suc, continue, is_full, joined-suc, joined-zero, next_pages, short_next}

-- ---- what the length says, where no page has more than 512 bytes
-- The byte r of page k stands there, and full pages lead to it.
pub record HasByte (fuel : ℕ) (pages : ℕ → Option (List ℕ)) (k r : ℕ) : Type 0 where
  pub number : k < fuel
  pub bytes : List ℕ
  pub there : pages k ≡ Some bytes
  pub within : r < length bytes
  pub before : Reaches pages k

-- a byte below 512 stands in the first page
first_byte : (fuel : ℕ) (pages : ℕ → Option (List ℕ)) (r : ℕ) → r < 512 → r < length (joined (suc fuel) pages) → HasByte (suc fuel) pages 0 r
first_byte fuel pages r low l = by (pages 0) refl (subst (λ x. r < length x) (joined-suc fuel pages) l)
  where
    within : (bytes rest : List ℕ) → r < length (cond (nat_lt (length bytes) 512) bytes (bytes ++ rest)) → r < length bytes
    within bytes rest = elim (nat_lt (length bytes) 512) as (λ t. nat_lt (length bytes) 512 ≡ t → r < length (cond t bytes (bytes ++ rest)) → r < length bytes) [
      | true ↦ λ e h. h
      | false ↦ λ e h. let full = ltb-false _ _ e in omega arith
    ] refl

    by : (p : Option (List ℕ)) → pages 0 ≡ p → r < length (continue p (joined fuel (λ n. pages (suc n)))) → HasByte (suc fuel) pages 0 r
    by None e h = absurd (omega arith)
    by (Some bytes) e h = record { number = omega arith; bytes = bytes; there = e; within = within bytes _ h; before = Reaches-none pages }

-- past the first page there is a first one, and it is full
record GoesOn (fuel : ℕ) (pages : ℕ → Option (List ℕ)) (n : ℕ) : Type 0 where
  full : is_full (pages 0) ≡ true
  later : n < length (joined fuel (next_pages pages))

-- the length says so
goes_on : (fuel : ℕ) (pages : ℕ → Option (List ℕ)) (n : ℕ) → AreShort pages → 512 + n < length (joined (suc fuel) pages) → GoesOn fuel pages n
goes_on fuel pages n short l = by (pages 0) refl (subst (λ x. 512 + n < length x) (joined-suc fuel pages) l)
  where
    rest : List ℕ
    rest = joined fuel (next_pages pages)

    split : (bytes : List ℕ) (t : Bool) → length bytes ≤ 512 → nat_lt (length bytes) 512 ≡ t → 512 + n < length (cond t bytes (bytes ++ rest)) → (not (nat_lt (length bytes) 512) ≡ true) × (n < length rest)
    split bytes true most e h = absurd (omega arith)
    split bytes false most e h = (ap not e, omega (arith, length-append bytes rest))

    by : (p : Option (List ℕ)) → pages 0 ≡ p → 512 + n < length (continue p rest) → GoesOn fuel pages n
    by None e h = absurd (omega arith)
    by (Some bytes) e h =
        let r = split bytes (nat_lt (length bytes) 512) (short.short 0 bytes e) refl h in
        record { full = ap is_full e ∙ r.0; later = r.1 }

-- A byte within the length stands in a page.
pub has_byte : (fuel : ℕ) (pages : ℕ → Option (List ℕ)) (k r : ℕ) → AreShort pages → r < 512 → 512 * k + r < length (joined fuel pages) → HasByte fuel pages k r
has_byte zero pages k r short low l = absurd (omega (arith, ap length (joined-zero pages)))
has_byte (suc fuel) pages zero r short low l = first_byte fuel pages r low (omega arith)
has_byte (suc fuel) pages (suc k) r short low l =
    let on = goes_on fuel pages (512 * k + r) short (omega arith) in
    let h = has_byte fuel (next_pages pages) k r (short_next pages short) low on.later in
    record { number = omega (arith, h.number); bytes = h.bytes; there = h.there; within = h.within; before = Reaches-suc pages k on.full h.before }
