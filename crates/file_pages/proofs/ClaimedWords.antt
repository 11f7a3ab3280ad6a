-- The words that a make claims.
use Rattle.std.proofs.Common.{Bool, List, Result, arith, cond, false, true, ℕ, ◌<◌, ◌≡◌, ◌≤◌}
use Rattle.std.proofs.lemmas.Bool.Decides.{nat_tests}
use Rattle.alto_words.specs.Fid.{is_directory, is_full_name}
use Rattle.alto_words.specs.declared.fid.Fid.{Fid}
use Rattle.disk_records.specs.Commands.{claim_writes, value_writes}
use Rattle.disk_records.specs.Labels.{in_range, label_of, tag}
use Rattle.disk_records.specs.Packs.{Pack}
use Rattle.disk_records.specs.Tapes.{Taped}
use Rattle.label_check.specs.Guarded.{Guarded}
use Rattle.label_check.specs.declared.errors.GuardError.{GuardError}
use Rattle.pack_model.specs.operations.PageWords.{new_bytes, page_number}

pub claimed_as : {guard : Pack → Type 0} {at count : ℕ} {a b : Taped} {result : Result (Unit {0}) GuardError} (label label2 value value2 : List ℕ) → label ≡ label2 → value ≡ value2
    → Guarded guard at (value_writes at value) (claim_writes at label value) count a b result → Guarded guard at (value_writes at value2) (claim_writes at label2 value2) count a b result
claimed_as label label2 value value2 x y g = rw (x, y) at g

pub label_ranged : (f : Fid) (n bytes next previous : ℕ) → is_full_name f ≡ true → bytes ≤ 512 → n < 65536 → in_range (tag (label_of (page_number f n) bytes next previous)) ≡ true
unfolding in_range
label_ranged f n bytes next previous full few small = grind (arith, nat_tests)

pub few_bytes : (f : Fid) → new_bytes f ≤ 512
few_bytes f = by (is_directory f)
  where
    by : (b : Bool) → cond b 510 0 ≤ 512
    by true = omega arith
    by false = omega arith
