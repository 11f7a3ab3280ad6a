-- What the private functions say: errors of a look, the list that is gathered, and the bits that labels have corrected.
use Rattle.std.specs.Prelude.{◌≡◌, ℕ, ◌<◌, ◌≤◌, Bool, false, not, cond, nat_lt, ◌&&◌, List, [], ◌∷◌, ◌++◌, length, Option, Some, None}
use Rattle.disk_records.specs.Packs.{Pack, is_free_at}
use Rattle.hint_cache.specs.Bits.{busy_at}
use Rattle.label_check.specs.declared.errors.LookError.{LookError}
use Rattle.label_check.specs.declared.errors.LookError.TheVariants as look
use Rattle.page_alloc.specs.declared.errors.AllocError.{AllocError}
use Rattle.page_alloc.specs.declared.errors.AllocError.TheVariants.{DiskFault, Memory}

abbrev pub error_of_look : LookError → AllocError
error_of_look look.DiskFault = DiskFault
error_of_look look.Memory = Memory

-- a list that a free sector's address is appended to, unless it has as many as are wanted
abbrev pub listed : ℕ → ℕ → Bool → List ℕ → List ℕ
listed wanted at free found = cond (free && nat_lt (length found) wanted) (found ++ at ∷ []) found

-- the sectors that a table doesn't offer: they are left to the sweep
abbrev pub is_left : List Bool → ℕ → Bool
is_left bits at = nat_lt 0 at && busy_at bits at

-- the table whose offers are looked at: the one that was kept before its first bit changed, and itself while none has changed
abbrev pub first_offers : Option (List Bool) → List Bool → List Bool
first_offers (Some kept) now = kept
first_offers None now = now

-- the label of each sector that was offered has been looked at: its bit says by now what the label says
abbrev pub IsCheckedAt : Pack → List Bool → List Bool → ℕ → Type 0
IsCheckedAt p offers now at = busy_at offers at ≡ false → busy_at now at ≡ not (is_free_at p at)

abbrev pub AreChecked : Pack → List Bool → List Bool → ℕ → Type 0
AreChecked p offers now end = (at : ℕ) → 1 ≤ at → at < end → IsCheckedAt p offers now at
