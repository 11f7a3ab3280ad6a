-- Pages in use and pages that aren't, met along a pass.
use Rattle.std.proofs.Common.{◌≡◌, inl, inr, ℕ, suc, ◌-◌, ◌/◌, ◌%◌, ◌≤◌, ◌&&◌, nat_le, ◌==◌, not, Bool, true, false, length, Option, Some, None, sym, ap, ◌∙◌, arith, rules}
use Rattle.std.proofs.lemmas.Bool.{cases_lt}
use Rattle.std.proofs.lemmas.Bool.Decides.{nat_tests}
use Rattle.alto_words.specs.declared.fid.Fid.{Fid}
use Rattle.alto_words.specs.Fid.{disk_descriptor, is_fid}
use Rattle.disk_records.specs.Packs.{Pack, carried}
use Rattle.laws_mend.specs.laws_contents.specs.PageLaws.{FullBefore, bytes_at}
use Rattle.laws_mend.specs.laws_contents.proofs.ends.Laws.{each_file_has_its_end}
use Rattle.laws_mend.specs.laws_contents.proofs.pages.Laws.{once_is_by_labels}
use Rattle.laws_mend.specs.Parts.{Ended}
use Rattle.laws_mend.proofs.counting.Laws.{counts_by_its_end, counts_by_its_format}
use Rattle.pack_model.specs.reading.Files.{file_bytes, lives, place}
use Rattle.pack_model.specs.reading.Sights.{sights}
use Rattle.pack_model.specs.sessions.Descriptor.{data_pages}
use Rattle.pack_model.specs.states.InUse.{counts}
use Rattle.scav_table.specs.declared.row.Row.{Row}
use Rattle.scav_table.specs.Laws.{IsFirstAbove}
use Rattle.scav_pages.specs.declared.files.FileWalk.{FileWalk}
use Rattle.scav_pages.specs.declared.files.Met.{Met}
use Rattle.scav_pages.specs.declared.files.Met.TheVariants.{Copy, Leader, Next, Past}
use Rattle.scav_pages.specs.Walks.{IsMet, Walked, file_in_hand}
use Rattle.scav_pages.proofs.Passing.{carried_row}

-- DiskDescriptor, as the words of its full name are compared
pub fid_by_words : (f : Fid) → (f.high == 0 && (f.low == 2 && f.version == 1)) ≡ is_fid f disk_descriptor
fid_by_words f = search rules

-- ---- whether the page of a row counts
-- full pages are before the end of the bytes
full_within : (p : Pack) (f : Fid) (k : ℕ) → FullBefore p f k → k ≤ length (file_bytes (sights p) f) / 512
full_within p f k full = elim (cases_lt (length (file_bytes (sights p) f) / 512) k) [
  | inl more ↦ absurd (no_full (full.each (length (file_bytes (sights p) f) / 512) more).at (full.each (length (file_bytes (sights p) f) / 512) more).sector (full.each (length (file_bytes (sights p) f) / 512) more).full)
  | inr few ↦ few
]
  where
    no_full : (at : ℕ) → place (sights p) f (suc (length (file_bytes (sights p) f) / 512)) ≡ Some at → length (bytes_at p at) ≡ 512 → ⊥
    no_full at is size = elim ((each_file_has_its_end p f).end) [
      | inl missing ↦ (let no_place : None ≡ Some at = sym missing.0 ∙ is in cc)
      | inr there ↦
          let both : Some there.0 ≡ Some at = sym there.1 ∙ is in
          let same : there.0 ≡ at = cc in
          let count : length (bytes_at p at) ≡ length (file_bytes (sights p) f) % 512 = ap (λ i. length (bytes_at p i)) (sym same) ∙ there.2 in
          omega (arith, size, count)
    ]

abbrev pub is_past : Met → Bool
is_past Copy = false
is_past Leader = false
is_past Next = false
is_past Past = true

-- a row that is no second copy is past its file's end, or it isn't
met_within : (p : Pack) (row : Row) (met : Met) → Ended p → carried p row.at ≡ Some row.page → IsMet p row met → nat_le row.page.number (suc (length (file_bytes (sights p) row.page.fid) / 512)) ≡ not (is_past met)
met_within p row Copy ended here is = absurd (let same : is.0 ≡ row.at = (once_is_by_labels p).0 ended.cleared.once is.0 row.at row.page is.2 here in let less = is.1 in omega (arith, same, less))
met_within p row Leader ended here is = let number = is.1 in grind (arith, nat_tests, number)
met_within p row Next ended here is = let few = full_within p row.page.fid (row.page.number - 1) is.2 in let some = is.1 in let low : row.page.number ≤ suc (length (file_bytes (sights p) row.page.fid) / 512) = omega (arith, few, some) in grind (arith, nat_tests, low)
met_within p row Past ended here is = let far = is.1 in grind (arith, nat_tests, far)

module _ {p : Pack} {last : Option Row} {walk : FileWalk} (row : Row) (most : ℕ) (met : Met) (ended : Ended p) (is : most ≡ data_pages p.shape) (first : IsFirstAbove p last row) (walked : Walked p (Some row) walk) (hand : file_in_hand walk ≡ Some row.page.fid) (meets : IsMet p row met) where
  living : walk.lives ≡ lives (sights p) row.page.fid
  living = (walked.file row.page.fid hand).lives_is

  -- of DiskDescriptor by its number
  pub counts_described : row.page.fid ≡ disk_descriptor → (walk.lives && nat_le row.page.number most) ≡ counts p.shape (sights p) row.page.fid row.page.number
  counts_described same =
      (λ i. living i && nat_le row.page.number (is i))
      ∙ ap (λ f. lives (sights p) f && nat_le row.page.number (data_pages p.shape)) same
      ∙ sym (counts_by_its_format p row.page.number)
      ∙ ap (λ f. counts p.shape (sights p) f row.page.number) (sym same)

  -- of any other file by what it is met as
  pub counts_met : is_fid row.page.fid disk_descriptor ≡ false → (walk.lives && not (is_past met)) ≡ counts p.shape (sights p) row.page.fid row.page.number
  counts_met other =
      (λ i. living i && sym (met_within p row met ended (carried_row p row.at row first.here) meets) i)
      ∙ sym (counts_by_its_end p row.page.fid row.page.number ended other)
