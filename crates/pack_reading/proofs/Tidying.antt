-- What is read of a pack, by lists: the files in order, and their entries.
use Rattle.std.proofs.Common.{◌≡◌, Bool, true, false, cond, not, List, [], ◌∷◌, ◌++◌, refl, sym, ap, subst, ◌∙◌}
use Rattle.std.specs.Prelude.{T, ◌&&◌}
use Rattle.std.specs.Ordering.{is_lt}
use Rattle.std.specs.FinMap.{entries, entries_sorted}
use Rattle.std.specs.FinMap.Entries.{is_sorted, below_all, where_key}
use Rattle.alto_words.specs.declared.fid.Fid.{Fid}
use Rattle.alto_words.specs.Fid.{fid_cmp, is_fid, disk_descriptor}
use Rattle.disk_records.specs.declared.shape.Shape.{Shape}
use Rattle.pack_model.specs.reading.Sights.{Sight}
use Rattle.pack_model.specs.reading.Files.{lives}
use Rattle.pack_model.specs.sessions.Maps.{map_entries}
use Rattle.pack_model.specs.reading.Stored.{StoredFile, files_shown}
use Rattle.pack_model.specs.reading.Bodies.{File, Files, found, file_of, body_of, described, is_described}
use Rattle.pack_model.specs.reading.Namings.{Naming, is_kept, tidied, files_kept, kept_after_body, namings, body_namings}
use Rattle.pack_model.specs.reading.Model.{read_sights}
use Rattle.label_sweep.specs.pack_laws.proofs.Keys.{fid_total, fid_same, same_fid}
use Rattle.label_sweep.specs.pack_laws.proofs.Mapping.{entries-map_values, entries-from_entries}
use Rattle.label_sweep.specs.pack_laws.proofs.ByLists.{entries-retain_keys}

-- ---- the files that are read
module _ (ok : List Naming → Naming → Bool) where
  -- files keep their full names where slots become free
  below_kept : (k : Fid) (before : List Naming) (es : List (Fid × File)) → below_all fid_cmp k (files_kept ok before es) ≡ below_all fid_cmp k es
  below_kept k before [] = refl
  below_kept k before (e ∷ es) = ap (λ b. is_lt (fid_cmp k e.0) && b) (below_kept k (kept_after_body ok e.0 before e.1.body) es)

  sorted_kept : (before : List Naming) (es : List (Fid × File)) → is_sorted fid_cmp (files_kept ok before es) ≡ is_sorted fid_cmp es
  sorted_kept before [] = refl
  sorted_kept before (e ∷ es) = λ i. below_kept e.0 (kept_after_body ok e.0 before e.1.body) es i && sorted_kept (kept_after_body ok e.0 before e.1.body) es i

tidied_entries : (alive : Fid → Bool) (files : Files) → entries (tidied alive files) ≡ files_kept (is_kept alive) [] (entries files)
unfolding tidied
tidied_entries alive files = entries-from_entries fid_total fid_same (files_kept (is_kept alive) [] (entries files)) (subst T (sym (sorted_kept (is_kept alive) [] (entries files))) (entries_sorted files))

pub found_entries : (ss : List Sight) → entries (found ss) ≡ map_entries file_of (entries (files_shown ss))
unfolding found
found_entries ss = entries-map_values fid_total fid_same file_of (files_shown ss)

-- the files of the model that sights are read as
pub model_files : (shape : Shape) (ss : List Sight) → entries (read_sights shape ss).files ≡ files_kept (is_kept (lives ss)) [] (where_key fid_cmp is_described (map_entries file_of (entries (files_shown ss))))
unfolding read_sights
model_files shape ss =
    tidied_entries (lives ss) (described ss)
    ∙ ap (files_kept (is_kept (lives ss)) []) (entries-retain_keys fid_total fid_same (found ss) is_described ∙ ap (where_key fid_cmp is_described) (found_entries ss))

-- ---- DiskDescriptor is no directory
not_true : (b : Bool) → not b ≡ false → b ≡ true
not_true true e = refl
not_true false e = cc

no_entries : (f : Fid) (x : StoredFile) → is_described f ≡ false → body_namings f (body_of f x.bytes) ≡ []
no_entries f x e =
    let is : f ≡ disk_descriptor = same_fid f disk_descriptor (not_true (is_fid f disk_descriptor) e) in
    subst (λ g. body_namings g (body_of g x.bytes) ≡ []) (sym is) refl

pub described_namings : (es : List (Fid × StoredFile)) → namings (where_key fid_cmp is_described (map_entries file_of es)) ≡ namings (map_entries file_of es)
described_namings [] = refl
described_namings (e ∷ es) =
    let rest = described_namings es in
    elim (is_described e.0) as (λ b. is_described e.0 ≡ b → namings (cond b ((e.0, file_of e.0 e.1) ∷ where_key fid_cmp is_described (map_entries file_of es)) (where_key fid_cmp is_described (map_entries file_of es))) ≡ body_namings e.0 (body_of e.0 e.1.bytes) ++ namings (map_entries file_of es)) [
      | true ↦ λ _. ap (λ l. body_namings e.0 (body_of e.0 e.1.bytes) ++ l) rest
      | false ↦ λ is. rest ∙ sym (ap (λ l. l ++ namings (map_entries file_of es)) (no_entries e.0 e.1 is))
    ] refl
