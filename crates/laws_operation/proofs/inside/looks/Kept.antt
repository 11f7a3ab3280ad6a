-- The entries that the scan of all directories leaves are all kept, whatever files it scans.
use Rattle.std.proofs.Common.{Bool, List, [], cond, false, refl, subst, sym, true, ◌∷◌, ◌≡◌}
use Rattle.std.specs.FinMap.{entries}
use Rattle.laws_contents.specs.alto_words.specs.declared.fid.Fid.{Fid}
use Rattle.laws_contents.specs.pack_model.specs.reading.Bodies.{Body, File, Files}
use Rattle.laws_contents.specs.pack_model.specs.reading.Bodies.Body.{data_of, items_of}
use Rattle.laws_contents.specs.pack_model.specs.reading.Namings.{AllKept, IsTidy, Naming, body_kept, body_namings, files_kept, is_kept, items_kept, kept_after, kept_after_body, namings, namings_in, tidied}
use Rattle.laws_contents.specs.pack_model.specs.reading.Slots.{Item, item_words}
use Rattle.laws_contents.specs.pack_model.specs.reading.Slots.Item.{entry, space}
use Rattle.laws_contents.specs.laws_record.proofs.DropSteps.{join_kept}
use Rattle.laws_contents.specs.laws_record.proofs.Mending.{entries-tidied}
use Rattle.laws_contents.specs.laws_record.proofs.Tidying.{onto}

module _ (ok : List Naming → Naming → Bool) where
  -- the slots of a directory as they are left, and what is kept after them
  items_left_kept : (d : Fid) (before : List Naming) (is : List Item) → AllKept ok before (namings_in d (items_kept ok d before is)) × (kept_after ok d before is ≡ onto (namings_in d (items_kept ok d before is)) before)
  items_left_kept d before [] = (tt, refl)
  items_left_kept d before (space n ∷ is) = items_left_kept d before is
  items_left_kept d before (entry f name ∷ is) =
      let e : Naming = record { dir = d; name = name; fid = f } in
      elim (ok before e) as (λ b. ok before e ≡ b → AllKept ok before (namings_in d (cond b (entry f name) (space (item_words (entry f name))) ∷ items_kept ok d (cond b (e ∷ before) before) is))
      × (kept_after ok d (cond b (e ∷ before) before) is ≡ onto (namings_in d (cond b (entry f name) (space (item_words (entry f name))) ∷ items_kept ok d (cond b (e ∷ before) before) is)) before)) [
        | true ↦ λ kept. let r = items_left_kept d (e ∷ before) is in ((kept, r.0), r.1)
        | false ↦ λ free. items_left_kept d before is
      ] refl

  -- so it is of a body
  body_left_kept : (d : Fid) (before : List Naming) (b : Body) → AllKept ok before (body_namings d (body_kept ok d before b)) × (kept_after_body ok d before b ≡ onto (body_namings d (body_kept ok d before b)) before)
  body_left_kept d before (data_of bytes) = (tt, refl)
  body_left_kept d before (items_of is) = items_left_kept d before is

  -- and of all files
  files_left_kept : (before : List Naming) (es : List (Fid × File)) → AllKept ok before (namings (files_kept ok before es))
  files_left_kept before [] = tt
  files_left_kept before (e ∷ es) =
      let r = body_left_kept e.0 before e.1.body in
      let now : List Naming = kept_after_body ok e.0 before e.1.body in
      join_kept ok before (body_namings e.0 (body_kept ok e.0 before e.1.body)) (namings (files_kept ok now es)) r.0 (subst (λ b. AllKept ok b (namings (files_kept ok now es))) r.1 (files_left_kept now es))

-- files are tidy once they are scanned
pub tidied_is_tidy : (v : Fid → Bool) (files : Files) → IsTidy v (tidied v files)
tidied_is_tidy v files = subst (λ es. AllKept (is_kept v) [] (namings es)) (sym (entries-tidied v files)) (files_left_kept (is_kept v) [] (entries files))
