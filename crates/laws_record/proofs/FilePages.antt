-- The pages of files together, where one file changes or comes.
use Rattle.std.proofs.Common.{◌++◌, ◌+◌, ◌∙◌, ◌∷◌, ◌≡◌, Equal, Greater, Less, List, None, Some, [], ap, arith, cond, refl, sym}
use Rattle.std.specs.FinMap.{entries, entries-insert, find, get, get-entries, insert}
use Rattle.std.specs.FinMap.Entries.{by_order, put}
use Rattle.std.specs.Ordering.{is_eq}
use Rattle.pack_laws.specs.alto_words.specs.Fid.{fid_cmp}
use Rattle.pack_laws.specs.alto_words.specs.declared.fid.Fid.{Fid}
use Rattle.pack_laws.specs.pack_model.specs.reading.Bodies.{File, Files, body_length, pages_for}
use Rattle.pack_laws.specs.pack_model.specs.reading.Model.{files_pages}
use Rattle.pack_laws.proofs.Keys.{fid_same, fid_total}
use Rattle.laws_record.proofs.Around.{around}

-- of files one after another
pages-append : (a b : List (Fid × File)) → files_pages (a ++ b) ≡ files_pages a + files_pages b
pages-append [] b = omega arith
pages-append (e ∷ a) b = let h = pages-append a b in omega arith

-- one file changes
pub changed_pages : (files : Files) (f : Fid) (x y : File) → get files f ≡ Some x → files_pages (entries (insert files f y)) + pages_for (body_length x.body) ≡ files_pages (entries files) + pages_for (body_length y.body)
changed_pages files f x y is =
    let r = around fid_total fid_same files f x is in
    let p = pages-append r.front ((f, y) ∷ r.back) in
    let q = pages-append r.front ((f, x) ∷ r.back) in
    let now = ap files_pages (entries-insert fid_total files f y ∙ r.now y) in
    let was = ap files_pages r.was in
    omega arith

-- a file comes, among entries
put_pages : (es : List (Fid × File)) (f : Fid) (x : File) → find fid_cmp f es ≡ None → files_pages (put fid_cmp f x es) ≡ pages_for (body_length x.body) + files_pages es
put_pages [] f x none = refl
put_pages (e ∷ es) f x none = elim (fid_cmp f e.0) as (λ r. cond (is_eq r) (Some e.1) (find fid_cmp f es) ≡ None → files_pages (by_order r ((f, x) ∷ e ∷ es) ((e.0, x) ∷ es) (e ∷ put fid_cmp f x es)) ≡ pages_for (body_length x.body) + files_pages (e ∷ es)) [
  | Less ↦ λ n. refl
  | Equal ↦ λ n. absurd (let m : Some e.1 ≡ None = n in cc)
  | Greater ↦ λ n. let h = put_pages es f x n in omega arith
] none

-- and in a map
pub new_pages : (files : Files) (f : Fid) (x : File) → get files f ≡ None → files_pages (entries (insert files f x)) ≡ pages_for (body_length x.body) + files_pages (entries files)
new_pages files f x none = ap files_pages (entries-insert fid_total files f x) ∙ put_pages (entries files) f x (sym (get-entries files f) ∙ none)
