-- The scan that keeps entries, when one file changes.
use Rattle.std.proofs.Common.{◌∙◌, ◌∷◌, ◌≡◌, Bool, Equal, Greater, Less, List, None, Option, Some, [], ap, cond, false, not, refl, subst, sym, true, ℕ}
use Rattle.std.specs.FinMap.{FinMap, entries, entries-insert, find, get, get-entries, get-from_entries, get-insert, get-retain_keys, insert, retain_keys, same_map}
use Rattle.std.specs.FinMap.Entries.{by_order, find-put, put}
use Rattle.std.specs.Ordering.{is_eq}
use Rattle.pack_laws.specs.alto_words.specs.Fid.{disk_descriptor, fid_cmp, is_fid}
use Rattle.pack_laws.specs.alto_words.specs.declared.fid.Fid.{Fid}
use Rattle.pack_laws.specs.pack_model.specs.reading.Bodies.{File, Files, described, found, is_described}
use Rattle.pack_laws.specs.pack_model.specs.reading.Bodies.Body.{data_of}
use Rattle.pack_laws.specs.pack_model.specs.reading.Leaders.{Leader}
use Rattle.pack_laws.specs.pack_model.specs.reading.Namings.{Naming, body_kept, files_kept, is_kept, kept_after_body, tidied}
use Rattle.pack_laws.specs.pack_model.specs.reading.Sights.{Sight}
use Rattle.pack_laws.proofs.Keys.{fid_same, fid_total, same_fid}

-- an ordinary file
abbrev pub plain : Leader → List ℕ → File
plain l bytes = record { leader = l; body = data_of bytes }

-- the file is ordinary
abbrev pub IsPlain : Option File → Type 0
IsPlain None = Unit {0}
IsPlain (Some x) = (old : List ℕ) × (x.body ≡ data_of old)

-- an ordinary file's new bytes leave the scan as it is
module _ (ok : List Naming → Naming → Bool) (f : Fid) (l : Leader) (new : List ℕ) where
  -- the scan passes it
  kept_put : (before : List Naming) (es : List (Fid × File)) → IsPlain (find fid_cmp f es) → files_kept ok before (put fid_cmp f (plain l new) es) ≡ put fid_cmp f (plain l new) (files_kept ok before es)
  kept_put before [] has = refl
  kept_put before (e ∷ es) has = elim (fid_cmp f e.0) as (λ r. IsPlain (cond (is_eq r) (Some e.1) (find fid_cmp f es)) → files_kept ok before (by_order r ((f, plain l new) ∷ e ∷ es) ((e.0, plain l new) ∷ es) (e ∷ put fid_cmp f (plain l new) es))
      ≡ by_order r ((f, plain l new) ∷ files_kept ok before (e ∷ es)) ((e.0, plain l new) ∷ files_kept ok (kept_after_body ok e.0 before e.1.body) es) ((e.0, record { leader = e.1.leader; body = body_kept ok e.0 before e.1.body }) ∷ put fid_cmp f (plain l new) (files_kept ok (kept_after_body ok e.0 before e.1.body) es))) [
        | Less ↦ λ h. refl
        | Equal ↦ λ h. ap (λ b. (e.0, plain l new) ∷ files_kept ok (kept_after_body ok e.0 before b) es) (sym h.1)
        | Greater ↦ λ h. ap (λ r. (e.0, record { leader = e.1.leader; body = body_kept ok e.0 before e.1.body }) ∷ r) (kept_put (kept_after_body ok e.0 before e.1.body) es h)
      ] has

-- so it changes as it does without the scan
pub tidied_insert : (lives : Fid → Bool) (files : Files) (f : Fid) (x : File) (l : Leader) (new : List ℕ) → get files f ≡ Some x → IsPlain (Some x) → tidied lives (insert files f (plain l new)) ≡ insert (tidied lives files) f (plain l new)
unfolding tidied
tidied_insert lives files f x l new is has =
    let ok = is_kept lives in
    same_map fid_total fid_same _ _ (λ g.
    get-from_entries fid_total _ g
    ∙ ap (λ es. find fid_cmp g (files_kept ok [] es)) (entries-insert fid_total files f (plain l new))
    ∙ ap (find fid_cmp g) (kept_put ok f l new [] (entries files) (subst IsPlain (sym is ∙ get-entries files f) has))
    ∙ find-put fid_cmp fid_total g f (plain l new) (files_kept ok [] (entries files))
    ∙ ap (cond (is_fid g f) (Some (plain l new))) (sym (get-from_entries fid_total _ g))
    ∙ sym (get-insert fid_total _ f (plain l new) g))

-- the scan leaves an ordinary file
find-kept : (ok : List Naming → Naming → Bool) (f : Fid) (before : List Naming) (es : List (Fid × File)) → IsPlain (find fid_cmp f es) → find fid_cmp f (files_kept ok before es) ≡ find fid_cmp f es
find-kept ok f before [] has = refl
find-kept ok f before (e ∷ es) has =
    elim (is_fid f e.0) as (λ b. IsPlain (cond b (Some e.1) (find fid_cmp f es)) → cond b (Some (record { leader = e.1.leader; body = body_kept ok e.0 before e.1.body })) (find fid_cmp f (files_kept ok (kept_after_body ok e.0 before e.1.body) es)) ≡ cond b (Some e.1) (find fid_cmp f es)) [
      | true ↦ λ h. ap (λ b. Some (record { leader = e.1.leader; body = body_kept ok e.0 before b })) h.1 ∙ ap (λ b. Some (record { leader = e.1.leader; body = b })) (sym h.1)
      | false ↦ λ h. find-kept ok f (kept_after_body ok e.0 before e.1.body) es h
    ] has

-- also in the map
pub get-tidied_plain : (lives : Fid → Bool) (files : Files) (f : Fid) (x : File) → get files f ≡ Some x → IsPlain (Some x) → get (tidied lives files) f ≡ Some x
unfolding tidied
get-tidied_plain lives files f x is has =
    get-from_entries fid_total _ f
    ∙ find-kept (is_kept lives) f [] (entries files) (subst IsPlain (sym is ∙ get-entries files f) has)
    ∙ sym (get-entries files f) ∙ is

-- a value whose key passes
pub get-where : {X : Type 0} (m : FinMap fid_cmp X) (p : Fid → Bool) (q : Fid) → get (retain_keys m p) q ≡ cond (p q) (get m q) None
get-where m p q = get-retain_keys m p q (λ x e. ap p (sym (fid_same q x e)))

-- DiskDescriptor is left out of the files
pub described_kept : (ss tt : List Sight) → ((g : Fid) → is_fid g disk_descriptor ≡ false → get (found tt) g ≡ get (found ss) g) → described tt ≡ described ss
described_kept ss tt e = same_map fid_total fid_same _ _ (λ g. get-where (found tt) is_described g ∙ at g ∙ sym (get-where (found ss) is_described g))
  where
    at : (g : Fid) → cond (is_described g) (get (found tt) g) None ≡ cond (is_described g) (get (found ss) g) None
    at g = elim (is_fid g disk_descriptor) as (λ b. is_fid g disk_descriptor ≡ b → cond (not b) (get (found tt) g) None ≡ cond (not b) (get (found ss) g) None) [
      | true ↦ λ is. refl
      | false ↦ λ is. e g is
    ] refl

-- a new value whose key passes
pub kept_insert : {X : Type 0} (m : FinMap fid_cmp X) (p : Fid → Bool) (f : Fid) (x : X) → p f ≡ true → retain_keys (insert m f x) p ≡ insert (retain_keys m p) f x
kept_insert m p f x e = same_map fid_total fid_same _ _ (λ g.
    get-where (insert m f x) p g ∙ ap (λ r. cond (p g) r None) (get-insert fid_total m f x g) ∙ at g
    ∙ ap (cond (is_fid g f) (Some x)) (sym (get-where m p g)) ∙ sym (get-insert fid_total (retain_keys m p) f x g))
  where
    at : (g : Fid) → cond (p g) (cond (is_fid g f) (Some x) (get m g)) None ≡ cond (is_fid g f) (Some x) (cond (p g) (get m g) None)
    at g = elim (is_fid g f) as (λ b. is_fid g f ≡ b → cond (p g) (cond b (Some x) (get m g)) None ≡ cond b (Some x) (cond (p g) (get m g) None)) [
      | true ↦ λ same. ap (λ b. cond b (Some x) None) (ap p (same_fid g f same) ∙ e)
      | false ↦ λ same. refl
    ] refl
