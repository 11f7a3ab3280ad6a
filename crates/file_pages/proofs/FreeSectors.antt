-- Sectors that can carry a page, and free ones.
use Rattle.std.proofs.Common.{All, Bool, List, arith, false, get_or, inl, inr, length, nat_lt, refl, true, ℕ, ◌&&◌, ◌<◌, ◌≡◌, ◌≤◌, ◌⊎◌}
use Rattle.std.proofs.lemmas.Bool.Decides.{nat_tests}
use Rattle.std.specs.Prelude.{◌==◌}
use Rattle.disk_records.specs.Addresses.{pages_of, real_of}
use Rattle.disk_records.specs.Packs.{Pack, is_free_at, sector_at}
use Rattle.disk_records.specs.Words.{word}
use Rattle.disk_records.specs.declared.shape.Shape.{Shape}
use Rattle.laws_call.specs.pack_laws.proofs.Guarding.{free_parts}
use Rattle.file_pages.specs.Growing.{IsSector}

pub is_no_sector : (shape : Shape) (at : ℕ) → (at ≡ 0) ⊎ (pages_of shape ≤ at) → IsSector shape at → ⊥
is_no_sector shape at (inl zeroth) is = let first = is.first in omega (arith, first, zeroth)
is_no_sector shape at (inr past) is = let last = is.last in omega (arith, last, past)

pub none_are : (shape : Shape) (rest : List ℕ) → length rest ≡ 0 → All (IsSector shape) rest
none_are shape rest none k d within = absurd (omega (arith, none, within))

-- a free sector can carry a page
usable_is : (shape : Shape) (at real : ℕ) (header : List ℕ) → (nat_lt 0 at && (nat_lt at (pages_of shape) && word header 1 == real)) ≡ true → IsSector shape at
usable_is shape at real header is = record { first = low (nat_lt 0 at) (nat_lt at (pages_of shape)) (word header 1 == real) is refl; last = high (nat_lt 0 at) (nat_lt at (pages_of shape)) (word header 1 == real) is refl }
  where
    low : (a b c : Bool) → (a && (b && c)) ≡ true → nat_lt 0 at ≡ a → 1 ≤ at
    low true b c both e = grind (arith, nat_tests)
    low false b c both e = absurd cc

    high : (a b c : Bool) → (a && (b && c)) ≡ true → nat_lt at (pages_of shape) ≡ b → at < pages_of shape
    high true true c both e = grind (arith, nat_tests)
    high true false c both e = absurd cc
    high false b c both e = absurd cc

pub free_are_sectors : (p : Pack) (fresh : List ℕ) → All (λ i. is_free_at p i ≡ true) fresh → All (IsSector p.shape) fresh
free_are_sectors p fresh free k d within = let i = get_or fresh k d in usable_is p.shape i (real_of p.shape i) (sector_at p i).header (free_parts p i (free k d within)).0
