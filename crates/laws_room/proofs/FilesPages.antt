-- The pages of files together, where one file changes, comes or goes.
use Rattle.std.proofs.Common.{◌+◌, ◌∙◌, ◌≡◌, Bool, None, Option, Some, ap, arith, cond, false, refl, sym, true, ℕ}
use Rattle.std.specs.FinMap.{entries, get, get-insert, get-remove, insert, remove, same_map}
use Rattle.laws_operation.specs.alto_words.specs.Fid.{is_fid}
use Rattle.laws_operation.specs.alto_words.specs.declared.fid.Fid.{Fid}
use Rattle.laws_operation.specs.pack_model.specs.reading.Bodies.{File, Files, body_length, pages_for}
use Rattle.laws_operation.specs.pack_model.specs.sessions.Maps.{update, update_found}
use Rattle.laws_operation.specs.pack_model.specs.reading.Model.{files_pages}
use Rattle.laws_operation.specs.pack_laws.proofs.Keys.{fid_same, fid_total, is_fid-itself, same_fid}
use Rattle.laws_record.proofs.FilePages.{changed_pages, new_pages}

-- the pages of one file
abbrev pub pages_of : File → ℕ
pages_of x = pages_for (body_length x.body)

-- where it is there; what comes and goes, whatever it was
pub updated_pages : (files : Files) (f : Fid) (g : File → File) (a b : ℕ) → ((x : File) → get files f ≡ Some x → pages_of (g x) + a ≡ pages_of x + b) → (get files f ≡ None → a ≡ b) → files_pages (entries (update files f g)) + a ≡ files_pages (entries files) + b
updated_pages files f g a b some none = by (get files f) refl
  where
    by : (r : Option File) → get files f ≡ r → files_pages (entries (update_found files f g r)) + a ≡ files_pages (entries files) + b
    by None e = let same = none e in omega arith
    by (Some x) e = let h = changed_pages files f x (g x) e in let size = some x e in omega arith

-- a file goes
pub gone_pages : (files : Files) (f : Fid) (x : File) → get files f ≡ Some x → files_pages (entries (remove files f)) + pages_of x ≡ files_pages (entries files)
gone_pages files f x is =
    let gone : get (remove files f) f ≡ None = get-remove fid_total files f f ∙ ap (λ b. cond b None (get files f)) (is_fid-itself f) in
    let h = new_pages (remove files f) f x gone in
    let same = ap (λ m. files_pages (entries m)) back in
    omega arith
  where
    at : (g : Fid) (b : Bool) → is_fid g f ≡ b → cond b (Some x) (cond b None (get files g)) ≡ get files g
    at g true e = sym (ap (get files) (same_fid g f e) ∙ is)
    at g false e = refl

    back : insert (remove files f) f x ≡ files
    back = same_map fid_total fid_same _ _ (λ g. get-insert fid_total (remove files f) f x g ∙ ap (cond (is_fid g f) (Some x)) (get-remove fid_total files f g) ∙ at g (is_fid g f) refl)
