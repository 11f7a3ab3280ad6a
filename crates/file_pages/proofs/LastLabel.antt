-- The old last page of a file that grows: what its label says.
use Rattle.std.proofs.Common.{Bool, List, Some, ap, arith, false, nat_le, nat_lt, not, refl, sym, true, ℕ, ◌&&◌, ◌∙◌, ◌≡◌, ◌<◌, ◌≤◌}
use Rattle.std.proofs.lemmas.Bool.Decides.{nat_tests}
use Rattle.std.specs.Prelude.{◌==◌}
use Rattle.alto_words.specs.Fid.{is_full_name, serial_of}
use Rattle.alto_words.specs.declared.fid.Fid.{Fid}
use Rattle.disk_records.specs.Labels.{in_range, page_of, tag}
use Rattle.disk_records.specs.Words.{word}
use Rattle.disk_records.specs.declared.records.Page.{Page}
use Rattle.laws_operation.proofs.Making.{named_page}
use Rattle.laws_call.specs.laws_record.proofs.Heads.{and_left}

-- ---- what a label says that names a page
middle_three : (a b c d e : Bool) → (a && b && c && d && e) ≡ true → (b && c && d) ≡ true
middle_three true b c d e h = and_left (b && c && d) e h
middle_three false b c d e h = absurd cc

first_of_five : (a b c d e : Bool) → (a && b && c && d && e) ≡ true → a ≡ true
first_of_five true b c d e h = refl
first_of_five false b c d e h = absurd cc

last_of_five : (a b c d e : Bool) → (a && b && c && d && e) ≡ true → e ≡ true
last_of_five true true true true e h = h
last_of_five true true true false e h = absurd cc
last_of_five true true false d e h = absurd cc
last_of_five true false c d e h = absurd cc
last_of_five false b c d e h = absurd cc

lt_of : (m n : ℕ) → nat_lt m n ≡ true → m < n
lt_of m n is = grind (arith, nat_tests)

le_of : (m n : ℕ) → nat_le m n ≡ true → m ≤ n
le_of m n is = grind (arith, nat_tests)

pub label_says : (label : List ℕ) (page : Page) → page_of label ≡ Some page → (is_full_name page.fid ≡ true) × (word label 3 ≤ 512) × (page.number ≤ 65535)
unfolding in_range
label_says label page names =
    let named = named_page label page names in
    let g : Fid = (tag label).fid in
    let e : g ≡ page.fid = ap (λ t. t.fid) named.0 in (
      ap is_full_name (sym e) ∙ middle_three (nat_le (tag label).bytes 512) (nat_le 1 g.version) (nat_le g.version 65534) (not (serial_of g == 0)) (nat_lt (tag label).page 65536) named.1,
      le_of (word label 3) 512 (first_of_five (nat_le (tag label).bytes 512) (nat_le 1 g.version) (nat_le g.version 65534) (not (serial_of g == 0)) (nat_lt (tag label).page 65536) named.1),
      (let number : (tag label).page ≡ page.number = ap (λ t. t.page) named.0 in let below = lt_of (tag label).page 65536 (last_of_five (nat_le (tag label).bytes 512) (nat_le 1 g.version) (nat_le g.version 65534) (not (serial_of g == 0)) (nat_lt (tag label).page 65536) named.1) in omega (arith, number, below)),
    )
