-- How many sectors are in use, and how many are available.
use Rattle.std.proofs.Common.{◌&&◌, ◌+◌, ◌∙◌, ◌∷◌, ◌≡◌, Bool, List, None, Some, T, [], ap, arith, cond, false, nat_le, not, refl, suc, true, ℕ}
use Rattle.std.specs.FinMap.{entries, entries_sorted, find, get-entries, is_sorted}
use Rattle.std.specs.FinMap.Entries.{below_all}
use Rattle.laws_operation.specs.alto_words.specs.Fid.{fid_cmp, is_fid}
use Rattle.laws_operation.specs.alto_words.specs.declared.fid.Fid.{Fid}
use Rattle.laws_operation.specs.disk_records.specs.declared.shape.Shape.{Shape}
use Rattle.laws_operation.specs.pack_model.specs.reading.Bodies.{File, found}
use Rattle.laws_operation.specs.pack_model.specs.reading.Files.{numbered, place}
use Rattle.laws_operation.specs.pack_model.specs.states.InUse.{available, counts, how_many, in_use, is_good, is_place, is_within, last_page, of_page, one_if}
use Rattle.laws_operation.specs.pack_model.specs.reading.Model.{good_one, good_sectors}
use Rattle.laws_operation.specs.pack_model.specs.reading.Sights.{Sight}
use Rattle.laws_operation.specs.pack_model.specs.reading.Sights.Sight.{free, hidden, holds, leads, stray}
use Rattle.laws_room.proofs.inside.Pages.{file_many, none_many, none_page, same_many, same_page, sum_many, sum_page, up_to}
use Rattle.laws_room.specs.CountLaws.{count_placed}
use Rattle.laws_operation.specs.pack_laws.proofs.Keys.{same_fid}
use Rattle.laws_record.proofs.Around.{first_part, not_below, second_part}

-- ---- all files
module _ (shape : Shape) (ss : List Sight) where
  -- the sectors in use by these files
  abbrev used_by : List (Fid × File) → ℕ × Sight → Bool
  used_by es e = of_page (λ f n. is_within shape f n (find fid_cmp f es) && is_place e.0 (place ss f n)) e.1

  -- a page within the end of these files is within the first one's, or another's
  split_file : (f : Fid) (x : File) (es : List (Fid × File)) (g : Fid) (k : ℕ) (p : Bool) → find fid_cmp f es ≡ None
      → one_if (is_within shape g k (find fid_cmp g ((f, x) ∷ es)) && p) ≡ one_if (is_fid g f && nat_le k (last_page shape f x.body) && p) + one_if (is_within shape g k (find fid_cmp g es) && p)
  split_file f x es g k p none = by (is_fid g f) refl
    where
      by : (b : Bool) → is_fid g f ≡ b → one_if (is_within shape g k (cond b (Some x) (find fid_cmp g es)) && p) ≡ one_if (b && nat_le k (last_page shape f x.body) && p) + one_if (is_within shape g k (find fid_cmp g es) && p)
      by true e =
          let q = ap (λ r. one_if (is_within shape g k r && p)) (ap (λ h. find fid_cmp h es) (same_fid g f e) ∙ none) in
          let r = ap (λ h. one_if (nat_le k (last_page shape h x.body) && p)) (same_fid g f e) in omega arith
      by false e = omega arith

  -- sectors in use by these files are the carried pages up to the end of each
  all_many : (es : List (Fid × File)) → T (is_sorted fid_cmp es) → how_many (used_by es) (numbered 0 ss) ≡ count_placed shape ss es
  all_many [] s = none_many (used_by []) (λ e. none_page e.1) (numbered 0 ss)
  all_many (e ∷ es) s =
      let below = first_part (below_all fid_cmp e.0 es) (is_sorted fid_cmp es) s in
      let h = sum_many (used_by (e ∷ es)) (up_to ss e.0 (last_page shape e.0 e.1.body)) (used_by es)
      (λ q. sum_page (λ f n. is_within shape f n (find fid_cmp f (e ∷ es)) && is_place q.0 (place ss f n)) (λ g k. is_fid g e.0 && nat_le k (last_page shape e.0 e.1.body) && is_place q.0 (place ss g k)) (λ f n. is_within shape f n (find fid_cmp f es) && is_place q.0 (place ss f n))
      (λ g k. split_file e.0 e.1 es g k (is_place q.0 (place ss g k)) (not_below fid_cmp e.0 es below)) q.1) (numbered 0 ss) in
      let r = all_many es (second_part (below_all fid_cmp e.0 es) (is_sorted fid_cmp es) s) in
      let o = file_many ss e.0 (last_page shape e.0 e.1.body) in
      omega arith

  -- sectors in use are the pages within the ends of files that some sector carries
  pub in_use_many : how_many (in_use shape ss) (numbered 0 ss) ≡ count_placed shape ss (entries (found ss))
  in_use_many = same_many (in_use shape ss) (used_by (entries (found ss))) (λ e. same_page (λ f n. counts shape ss f n && is_place e.0 (place ss f n)) (λ f n. is_within shape f n (find fid_cmp f (entries (found ss))) && is_place e.0 (place ss f n)) (λ f n. ap (λ r. is_within shape f n r && is_place e.0 (place ss f n)) (get-entries (found ss) f)) e.1) (numbered 0 ss)
      ∙ all_many (entries (found ss)) (entries_sorted (found ss))

  -- a sector with a page is good: it is in use, or good and not in use
  use_is_good : (s : Sight) (t : Fid → ℕ → Bool) → one_if (is_good s) ≡ one_if (is_good s && not (of_page t s)) + one_if (of_page t s)
  use_is_good hidden t = refl
  use_is_good free t = refl
  use_is_good stray t = refl
  use_is_good (leads f r l) t = two (t f 0)
    where
      two : (b : Bool) → 1 ≡ one_if (not b) + one_if b
      two true = refl
      two false = refl
  use_is_good (holds f n bytes) t = two (t f (suc n))
    where
      two : (b : Bool) → 1 ≡ one_if (not b) + one_if b
      two true = refl
      two false = refl

  -- the good sectors, counted one by one
  good_many : (at : ℕ) (xs : List Sight) → how_many (λ e. is_good e.1) (numbered at xs) ≡ good_sectors xs
  good_many at [] = refl
  good_many at (x ∷ xs) = let h = good_many (suc at) xs in let g = one x in omega arith
    where
      one : (x : Sight) → one_if (is_good x) ≡ good_one x
      one hidden = refl
      one free = refl
      one stray = refl
      one (leads f r l) = refl
      one (holds f n bytes) = refl

  -- the available sectors are the good sectors except these pages
  pub available_is : available shape ss + count_placed shape ss (entries (found ss)) ≡ good_sectors ss
  unfolding available
  available_is =
      let h = sum_many (λ e. is_good e.1) (λ e. is_good e.1 && not (in_use shape ss e)) (in_use shape ss) (λ e. use_is_good e.1 (λ f n. counts shape ss f n && is_place e.0 (place ss f n))) (numbered 0 ss) in
      let g = good_many 0 ss in
      let u = in_use_many in
      omega arith
