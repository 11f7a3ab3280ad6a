-- A label in range names a page below that of no row.
use Rattle.std.proofs.Common.{◌≡◌, ℕ, ◌+◌, ◌*◌, ◌<◌, ◌≤◌, Bool, true, false, cond, List, get_or, Some, None, refl, subst, arith}
use Rattle.std.proofs.lemmas.Bool.Decides.{nat_tests}
use Rattle.disk_records.specs.declared.records.Page.{Page}
use Rattle.disk_records.specs.Labels.{Tag, tag, in_range, page_of}
use Rattle.scav_table.specs.declared.row.Row.{Row}
use Rattle.scav_table.specs.Filled.{IsRowAt}
use Rattle.scav_table.specs.Rows.{rank, is_below, no_row}

-- a version that can be given
few_versions : (t : Tag) → in_range t ≡ true → t.fid.version ≤ 65534
unfolding in_range
few_versions t h = grind (arith, nat_tests, h)

below_no_row : (h l v n at : ℕ) → h < 65536 → l < 65536 → v ≤ 65534 → n < 65536 → at < 65536 → (((h * 65536 + l) * 65536 + v) * 65536 + n) * 65536 + at < (((65535 * 65536 + 65535) * 65536 + 65535) * 65536 + 65535) * 65536 + 0
below_no_row h l v n at a b c d e = omega arith

is_below_no_row : (r : Row) → r.page.fid.high < 65536 → r.page.fid.low < 65536 → r.page.fid.version ≤ 65534 → r.page.number < 65536 → r.at < 65536 → is_below r no_row ≡ true
unfolding rank
is_below_no_row r a b c d e = let h = below_no_row r.page.fid.high r.page.fid.low r.page.fid.version r.page.number r.at a b c d e in grind (arith, nat_tests, h)

pub named_low : (label : List ℕ) (at bytes : ℕ) (page : Page) → ((i : ℕ) → get_or label i 0 < 65536) → 1 ≤ at → at < 65536 → Some page ≡ page_of label → IsRowAt at (record { page = page; at = at; bytes = bytes })
named_low label at bytes page words first few is = by_case (in_range (tag label)) refl is
  where
    by_case : (b : Bool) → in_range (tag label) ≡ b → Some page ≡ cond b (Some (record { fid = (tag label).fid; number = (tag label).page })) None → IsRowAt at (record { page = page; at = at; bytes = bytes })
    by_case true range e =
        let named : Page = record { fid = (tag label).fid; number = (tag label).page } in
        let same : named ≡ page = cc in
        subst (λ x. IsRowAt at (record { page = x; at = at; bytes = bytes })) same
        (record { here = refl; low = record { first = first; within = omega arith; below = is_below_no_row (record { page = named; at = at; bytes = bytes }) (words 6) (words 7) (few_versions (tag label) range) (words 4) few } })
    by_case false range e = cc
