-- What a label says is what its sector shows.
use Rattle.std.proofs.Common.{◌≡◌, ℕ, ◌≤◌, Bool, true, false, cond, List, Some, None, refl, arith}
use Rattle.std.proofs.lemmas.Bool.Decides.{nat_tests}
use Rattle.std.specs.Prelude.{nat_lt}
use Rattle.disk_records.specs.declared.records.Page.{Page}
use Rattle.disk_records.specs.declared.records.Sector.{Sector}
use Rattle.disk_records.specs.declared.shape.Shape.{Shape}
use Rattle.disk_records.specs.Addresses.{is_right_header}
use Rattle.disk_records.specs.Labels.{Tag, tag, in_range, page_of}
use Rattle.disk_records.specs.Words.{word}
use Rattle.pack_model.specs.reading.Sights.{sight, tag_sight}
use Rattle.pack_model.specs.reading.Sights.Sight.{hidden}

few_bytes : (t : Tag) → in_range t ≡ true → t.bytes ≤ 512
unfolding in_range
few_bytes t h = grind (arith, nat_tests, h)

-- a page that a label names has 512 bytes at most
pub names_few : (label : List ℕ) (page : Page) → page_of label ≡ Some page → word label 3 ≤ 512
names_few label page is = by_case (in_range (tag label)) refl is
  where
    by_case : (b : Bool) → in_range (tag label) ≡ b → cond b (Some (record { fid = (tag label).fid; number = (tag label).page })) None ≡ Some page → word label 3 ≤ 512
    by_case true range e = few_bytes (tag label) range
    by_case false range e = cc

module _ (shape : Shape) (at : ℕ) (s : Sector) (first : 1 ≤ at) where
  -- after a right header the label says what the sector shows
  pub sees : is_right_header shape at s.header ≡ true → tag_sight (tag s.label) s.value ≡ sight shape at s
  unfolding sight
  sees right =
      let above : nat_lt 0 at ≡ true = grind (arith, nat_tests) in
      rw (above, right) refl

  -- after a wrong one is nothing
  pub sees_nothing : is_right_header shape at s.header ≡ false → hidden ≡ sight shape at s
  unfolding sight
  sees_nothing wrong =
      let above : nat_lt 0 at ≡ true = grind (arith, nat_tests) in
      rw (above, wrong) refl
