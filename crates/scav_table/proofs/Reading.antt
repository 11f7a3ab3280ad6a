-- What was read of a sector, as its row and whether it is bad.
use Rattle.std.proofs.Common.{◌≡◌, ℕ, zero, suc, ◌≤◌, Bool, true, false, cond, not, nat_lt, ◌&&◌, IsTrue, List, Option, None, refl, sym, ap, ◌∙◌, arith}
use Rattle.std.proofs.lemmas.Bool.Decides.{nat_tests}
use Rattle.alto_words.specs.declared.fid.Fid.{Fid}
use Rattle.disk_records.specs.declared.records.Sector.{Sector}
use Rattle.disk_records.specs.declared.shape.Shape.{Shape}
use Rattle.disk_records.specs.Addresses.{is_right_header}
use Rattle.disk_records.specs.Labels.{Tag, tag, in_range, is_free, page_of}
use Rattle.disk_records.specs.Packs.{sector_at, is_usable}
use Rattle.disk_records.specs.Tapes.{Taped, pack}
use Rattle.disk_records.specs.Words.{word}
use Rattle.pack_model.specs.reading.Sights.{sight, tag_sight, page_sight}
use Rattle.pack_model.specs.reading.Sights.Sight.{hidden, free, stray}
use Rattle.pack_model.specs.states.InUse.{is_good, one_if}
use Rattle.scav_table.specs.declared.row.Row.{Row}
use Rattle.scav_table.specs.Rows.{row_in, row_of}
use Rattle.scav_table.proofs.Filling.{Met}

good_page : (f : Fid) (n bytes : ℕ) (value : List ℕ) → is_good (page_sight f n bytes value) ≡ true
good_page f zero bytes value = refl
good_page f (suc n) bytes value = refl

good_tag : (t : Tag) (value : List ℕ) → is_good (tag_sight t value) ≡ true
good_tag t value = by_test (in_range t) (is_free t)
  where
    by_test : (a b : Bool) → is_good (cond a (page_sight t.fid t.page t.bytes value) (cond b free stray)) ≡ true
    by_test true b = good_page t.fid t.page t.bytes value
    by_test false true = refl
    by_test false false = refl

module _ (shape : Shape) (at : ℕ) (s : Sector) (first : 1 ≤ at) where
  usable : (b : Bool) → is_right_header shape at s.header ≡ b → is_usable shape at s ≡ b
  usable b right = let above : nat_lt 0 at ≡ true = grind (arith, nat_tests) in ap (λ t. t && is_right_header shape at s.header) above ∙ right

  row_read : is_right_header shape at s.header ≡ true → row_in at (word s.label 3) (page_of s.label) ≡ row_of shape at s
  unfolding row_of
  row_read right = sym (ap (λ t. cond t (row_in at (word s.label 3) (page_of s.label)) None) (usable true right))

  good_read : is_right_header shape at s.header ≡ true → 0 ≡ one_if (not (is_good (sight shape at s)))
  unfolding sight
  good_read right = sym (ap (λ t. one_if (not (is_good (cond t (tag_sight (tag s.label) s.value) hidden)))) (usable true right) ∙ ap (λ t. one_if (not t)) (good_tag (tag s.label) s.value))

  none_read : is_right_header shape at s.header ≡ false → None ≡ row_of shape at s
  unfolding row_of
  none_read wrong = sym (ap (λ t. cond t (row_in at (word s.label 3) (page_of s.label)) None) (usable false wrong))

  bad_read : is_right_header shape at s.header ≡ false → 1 ≡ one_if (not (is_good (sight shape at s)))
  unfolding sight
  bad_read wrong = sym (ap (λ t. one_if (not (is_good (cond t (tag_sight (tag s.label) s.value) hidden)))) (usable false wrong))

pub met_row : {told : Bool} {now : Taped} (at : ℕ) (buf : Sector) (s : Option Row) → 1 ≤ at → is_right_header now.form at buf.header ≡ true → (IsTrue told → buf ≡ sector_at (pack now) at) → s ≡ row_in at (word buf.label 3) (page_of buf.label) → Met told now at s 0
met_row {told} {now} at buf s first right holds e = record {
  is = λ h. e ∙ row_read now.form at buf first right ∙ ap (row_of now.form at) (holds h);
  bad = λ h. good_read now.form at buf first right ∙ ap (λ x. one_if (not (is_good (sight now.form at x)))) (holds h);
  one = omega arith;
}

pub met_bad : {told : Bool} {now : Taped} (at : ℕ) (buf : Sector) → 1 ≤ at → is_right_header now.form at buf.header ≡ false → (IsTrue told → buf ≡ sector_at (pack now) at) → Met told now at None 1
met_bad {told} {now} at buf first wrong holds = record {
  is = λ h. none_read now.form at buf first wrong ∙ ap (row_of now.form at) (holds h);
  bad = λ h. bad_read now.form at buf first wrong ∙ ap (λ x. one_if (not (is_good (sight now.form at x)))) (holds h);
  one = omega arith;
}
