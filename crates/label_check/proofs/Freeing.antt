-- The check against a free label is exact: no word that makes a label free is 0 in memory, nor is the real address.
use Rattle.std.proofs.Common.{Bool, Err, List, None, Ok, Option, Result, Some, [], ap, arith, cond, false, get_or, refl, set, subst, suc, sym, true, zero, ℕ, ◌<◌, ◌∙◌, ◌∷◌, ◌≡◌, ◌≢◌, ◌≤◌}
use Rattle.std.proofs.lemmas.Bool.Decides.{nat_tests}
use Rattle.std.specs.Option.{option_or, option_map}
use Rattle.disk_records.specs.declared.records.Sector.{Sector}
use Rattle.disk_records.specs.declared.records.Act.TheVariants.{Check, Write}
use Rattle.disk_records.specs.Frames.{IsFreeSector}
use Rattle.disk_records.specs.Words.{word}
use Rattle.disk_records.specs.Addresses.{pages_of, real_of}
use Rattle.disk_records.specs.Labels.{tag, is_free}
use Rattle.disk_records.specs.Checks.{mismatch, mismatch_from}
use Rattle.disk_records.specs.declared.records.Plan.{Plan}
use Rattle.disk_records.specs.declared.traits.DiskError.TheVariants.{Mismatch, Failed}
use Rattle.disk_records.specs.declared.traits.DiskError.TheVariants as disk_error
use Rattle.disk_records.specs.Commands.{value_writes, relabel_writes, claim_writes}
use Rattle.disk_records.specs.Packs.{Pack, after, sector_at, no_sector, with_part, is_usable, is_free_at}
use Rattle.disk_records.specs.Tapes.{Taped, DiskAlone, Ran, pack}
use Rattle.label_check.specs.declared.errors.GuardError.{GuardError}
use Rattle.label_check.specs.declared.errors.GuardError.TheVariants.{DiskFault, Memory}
use Rattle.label_check.specs.Guarded.{Guarded, DoneWhole}
use Rattle.label_check.specs.Steps.{Finished, Refused, asks_free}
use Rattle.label_check.proofs.Guarding.{guarded_then, guarded_whole, guarded_broken, guarded_short, guarded_refused}
use Rattle.disk_records.proofs.Growing.{pack-after}
use Rattle.disk_records.proofs.Checking.{no_mismatch, matched_word, all_matched}
use Rattle.disk_records.proofs.Reals.{real_of-above}

abbrev pub free_mask : List ℕ
free_mask = 0 ∷ 0 ∷ 0 ∷ 0 ∷ 0 ∷ 65535 ∷ 65535 ∷ 65535 ∷ []

abbrev pub header_of : ℕ → List ℕ
header_of real = 0 ∷ real ∷ []

abbrev pub check_and_write : Plan
check_and_write = record { header = Check; label = Check; value = Write }

abbrev pub check_and_relabel : Plan
check_and_relabel = record { header = Check; label = Write; value = Write }

-- two records without a mismatch, and back
no_first : (a b : Option ℕ) → option_or {T = ℕ × ℕ} (option_map (λ word. (0, word)) a) (option_or {T = ℕ × ℕ} (option_map (λ word. (1, word)) b) None) ≡ None → (a ≡ None) × (b ≡ None)
no_first None None is = (refl, refl)
no_first None (Some b) is = cc
no_first (Some a) b is = cc

header_matches : (real : ℕ) (disk : List ℕ) → word disk 1 ≡ real → mismatch_from 0 (header_of real) disk ≡ None
header_matches real disk is = all_matched 0 (header_of real) disk each
  where
    each : (k : ℕ) → word (header_of real) k ≢ 0 → word disk k ≡ word (header_of real) k
    each zero some = absurd (some refl)
    each (suc zero) some = is
    each (suc (suc k)) some = absurd (some refl)

free_matches : (disk : List ℕ) → is_free (tag disk) ≡ true → mismatch_from 0 free_mask disk ≡ None
unfolding is_free
free_matches disk free = all_matched 0 free_mask disk each
  where
    each : (k : ℕ) → word free_mask k ≢ 0 → word disk k ≡ word free_mask k
    each zero some = absurd (some refl)
    each (suc zero) some = absurd (some refl)
    each (suc (suc zero)) some = absurd (some refl)
    each (suc (suc (suc zero))) some = absurd (some refl)
    each (suc (suc (suc (suc zero)))) some = absurd (some refl)
    each (suc (suc (suc (suc (suc zero))))) some = grind (arith, nat_tests)
    each (suc (suc (suc (suc (suc (suc zero)))))) some = grind (arith, nat_tests)
    each (suc (suc (suc (suc (suc (suc (suc zero))))))) some = grind (arith, nat_tests)
    each (suc (suc (suc (suc (suc (suc (suc (suc k)))))))) some = absurd (some refl)

matched_free : (disk : List ℕ) → mismatch_from 0 free_mask disk ≡ None → is_free (tag disk) ≡ true
unfolding is_free
matched_free disk none =
    let version = matched_word 0 free_mask disk 5 none (omega arith) in
    let high = matched_word 0 free_mask disk 6 none (omega arith) in
    let low = matched_word 0 free_mask disk 7 none (omega arith) in
    grind (arith, nat_tests)

-- what a free sector holds
free_parts : (p : Pack) (at : ℕ) → is_free_at p at ≡ true → (is_usable p.shape at (sector_at p at) ≡ true) × (is_free (tag (sector_at p at).label) ≡ true)
free_parts p at free = both (is_usable p.shape at (sector_at p at)) (is_free (tag (sector_at p at).label)) free
  where
    both : (usable free : Bool) → cond usable free false ≡ true → (usable ≡ true) × (free ≡ true)
    both true free is = (refl, is)
    both false free is = cc

free_header : (p : Pack) (at : ℕ) → is_free_at p at ≡ true → word (sector_at p at).header 1 ≡ real_of p.shape at
free_header p at free =
    let usable = (free_parts p at free).0 in
    grind (arith, nat_tests)

-- a free sector matches, and a sector that matches is free
pub free_is_matched : (p : Pack) (at : ℕ) (value : List ℕ) → is_free_at p at ≡ true
    → mismatch check_and_write (asks_free p.shape at value) (sector_at p at) ≡ None
free_is_matched p at value free =
    rw (header_matches (real_of p.shape at) (sector_at p at).header (free_header p at free), free_matches (sector_at p at).label (free_parts p at free).1) refl

pub matched_is_free : (p : Pack) (at : ℕ) (value : List ℕ) → 1 ≤ at → at < pages_of p.shape
    → mismatch check_and_write (asks_free p.shape at value) (sector_at p at) ≡ None → is_free_at p at ≡ true
matched_is_free p at value first within none =
    let both = no_first (mismatch_from 0 (header_of (real_of p.shape at)) (sector_at p at).header) (mismatch_from 0 free_mask (sector_at p at).label) none in
    let header : word (sector_at p at).header 1 ≡ real_of p.shape at = matched_word 0 (header_of (real_of p.shape at)) (sector_at p at).header 1 both.0 (real_of-above p.shape at first within) in
    let free = matched_free (sector_at p at).label both.1 in
    grind (arith, nat_tests)

-- the same of a memory side that asks for a free sector
asked_is_free : (a : Taped) (at : ℕ) (memory : Sector) → 1 ≤ at → at < pages_of a.form → memory ≡ asks_free a.form at memory.value → mismatch check_and_write memory (sector_at (pack a) at) ≡ None → IsFreeSector (pack a) at
asked_is_free a at memory first within is none = matched_is_free (pack a) at memory.value first within (subst (λ (m : Sector). mismatch check_and_write m (sector_at (pack a) at) ≡ None) is none)

-- the four ways in which the command on a sector that is to be free may end
pub filled : {a b : Taped} {buffer : Sector} (at : ℕ) (memory : Sector) → 1 ≤ at → at < pages_of a.form → memory ≡ asks_free a.form at memory.value
    → Ran at check_and_write memory buffer a b (Ok tt) → Guarded {T = Unit {0}} (λ p. IsFreeSector p at) at [] (value_writes at memory.value) 1 a b (Ok tt)
filled {a} {b} {buffer} at memory first within is ran =
    guarded_whole (asked_is_free a at memory first within is) ran

pub half_filled : {a b : Taped} {buffer : Sector} (at : ℕ) (memory : Sector) → 1 ≤ at → at < pages_of a.form → memory ≡ asks_free a.form at memory.value
    → Ran at check_and_write memory buffer a b (Err Failed) → Guarded {T = Unit {0}} (λ p. IsFreeSector p at) at [] (value_writes at memory.value) 1 a b (Err DiskFault)
half_filled {a} {b} {buffer} at memory first within is ran =
    guarded_broken (asked_is_free a at memory first within is) ran

pub short_filled : {a b : Taped} {buffer : Sector} (at : ℕ) (memory : Sector) → 1 ≤ at → at < pages_of a.form → memory ≡ asks_free a.form at memory.value
    → Ran at check_and_write memory buffer a b (Err disk_error.Memory) → Guarded {T = Unit {0}} (λ p. IsFreeSector p at) at [] (value_writes at memory.value) 1 a b (Err Memory)
short_filled {a} {b} {buffer} at memory first within is ran =
    guarded_short (asked_is_free a at memory first within is) ran

pub not_filled : {a b c : Taped} {buffer : Sector} {part word : ℕ} {error : GuardError} (at : ℕ) (memory : Sector) → memory ≡ asks_free a.form at memory.value → DiskAlone a b → DiskAlone b c
    → Ran at check_and_write memory buffer a b (Err (Mismatch part word)) → Refused at b c error → Guarded {T = Unit {0}} (λ p. IsFreeSector p at) at [] (value_writes at memory.value) 1 a c (Err error)
not_filled {a} {error = error} at memory is x y ran refused =
    guarded_refused error (λ free. subst (λ (m : Sector). mismatch check_and_write m (sector_at (pack a) at) ≡ None) (sym is) (free_is_matched (pack a) at memory.value free)) x y ran refused

-- a sector keeps its header where its value is written
header_kept : (sectors : List Sector) (at : ℕ) (value : List ℕ) → (get_or (set sectors at (with_part 2 value (get_or sectors at no_sector))) at no_sector).header ≡ (get_or sectors at no_sector).header
header_kept [] at value = refl
header_kept (s ∷ sectors) zero value = refl
header_kept (s ∷ sectors) (suc at) value = header_kept sectors at value

-- so after its value was written the buffer has the header that stands there
pub header_stands : {a b : Taped} (at : ℕ) (memory buffer : Sector) → DiskAlone a b → Ran at check_and_write memory buffer a b (Ok tt) → buffer.header ≡ (sector_at (pack b) at).header
header_stands {a} {b} at memory buffer x ran =
    let now : pack b ≡ after (pack a) (value_writes at memory.value) = pack-after x.grown ∙ ap (after (pack a)) ran.ok.wrote in
    let kept : (sector_at (pack b) at).header ≡ (sector_at (pack a) at).header = ap (λ (p : Pack). (sector_at p at).header) now ∙ header_kept (pack a).sectors at memory.value in
    ap (λ (s : Sector). s.header) ran.ok.read ∙ sym kept

-- and its label can be written
pub claimed : {a b c : Taped} {result : Result (Unit {0}) GuardError} (at : ℕ) (label : List ℕ) (memory buffer : Sector) → DiskAlone a b → DiskAlone b c → buffer.header ≡ (sector_at (pack b) at).header → buffer.value ≡ memory.value
    → DoneWhole (λ p. IsFreeSector p at) (value_writes at memory.value) 1 a b → (mismatch check_and_relabel (record { header = buffer.header; label = label; value = buffer.value }) (sector_at (pack b) at) ≡ None → Finished (relabel_writes at label buffer.value) b c result)
    → Guarded (λ p. IsFreeSector p at) at (value_writes at memory.value) (claim_writes at label memory.value) 2 a c result
claimed {a} {b} {c} {result} at label memory buffer x y header value done finish =
    let matched : mismatch check_and_relabel (record { header = buffer.header; label = label; value = buffer.value }) (sector_at (pack b) at) ≡ None = rw (header, no_mismatch 0 (sector_at (pack b) at).header) refl in
    guarded_then x y done (subst (λ v. Finished (relabel_writes at label v) b c result) value (finish matched))
