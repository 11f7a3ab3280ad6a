-- The lowest free sector.
use Rattle.std.specs.Prelude.{◌≡◌, ℕ, ◌<◌, ◌≤◌, true, false}
use Rattle.disk_records.specs.Packs.{Pack, is_free_at}

-- none is from this one on
abbrev pub NoneFreeFrom : Pack → ℕ → Type 0
NoneFreeFrom p from = (k : ℕ) → from ≤ k → is_free_at p k ≡ false

-- the lowest free sector from this one on
pub record IsNextFree (p : Pack) (from at : ℕ) : Type 0 where
  pub free : is_free_at p at ≡ true
  pub lowest : (k : ℕ) → from ≤ k → k < at → is_free_at p k ≡ false

-- none is below this one
abbrev pub NoneFreeBelow : Pack → ℕ → Type 0
NoneFreeBelow p from = (k : ℕ) → k < from → is_free_at p k ≡ false
