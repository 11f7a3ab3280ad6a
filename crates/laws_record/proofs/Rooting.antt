-- SysDir comes alive with no entry in its slots, and the laws of system files.
use Rattle.std.proofs.Common.{◌++◌, ◌∙◌, ◌∷◌, ◌≡◌, Bool, List, None, Some, [], ap, cond, false, refl, sym, true, ℕ}
use Rattle.std.specs.FinMap.{entries, entries-insert, find, get, get-insert, insert, same_map}
use Rattle.std.specs.Option.{option_map}
use Rattle.pack_laws.specs.alto_words.specs.Fid.{disk_descriptor, fid_cmp, is_fid, is_system, sys_dir}
use Rattle.pack_laws.specs.alto_words.specs.declared.fid.Fid.{Fid}
use Rattle.pack_laws.specs.disk_records.specs.declared.shape.Shape.{Shape}
use Rattle.pack_laws.specs.pack_model.specs.reading.Bodies.{File, Files, described}
use Rattle.pack_laws.specs.pack_model.specs.reading.Bodies.Body.{items_of}
use Rattle.pack_laws.specs.pack_model.specs.reading.Files.{lives}
use Rattle.pack_laws.specs.pack_model.specs.reading.Leaders.{Leader}
use Rattle.pack_laws.specs.pack_model.specs.scavenger.Mended.{mended, root_body, root_file, rooted, with_system}
use Rattle.pack_laws.specs.pack_model.specs.reading.Model.{descriptor_words, good_sectors, last_serial, read_sights}
use Rattle.pack_laws.specs.pack_model.specs.reading.Namings.{Naming, body_kept, body_namings, files_kept, is_kept, items_kept, kept_after, kept_after_body, namings, namings_in, tidied}
use Rattle.pack_laws.specs.pack_model.specs.reading.Sights.{Sight}
use Rattle.pack_laws.specs.pack_model.specs.reading.Slots.{Item}
use Rattle.pack_laws.specs.pack_model.specs.reading.Slots.Item.{entry, space}
use Rattle.pack_laws.specs.pack_model.specs.showing.View.{homes, seen_of, view}
use Rattle.laws_record.proofs.Around.{around}
use Rattle.pack_laws.proofs.Keys.{fid_same, fid_total, is_fid-itself}
use Rattle.laws_record.proofs.Mending.{mended_view}
use Rattle.laws_record.proofs.inside.Viewed.{tidied_view}
use Rattle.laws_record.proofs.Tidying.{or_false_left}

-- ---- slots with no entry
-- the scan passes them
bare_kept : (ok : List Naming → Naming → Bool) (d : Fid) (before : List Naming) (is : List Item) → namings_in d is ≡ [] → (namings_in d (items_kept ok d before is) ≡ []) × (kept_after ok d before is ≡ before)
bare_kept ok d before [] e = (refl, refl)
bare_kept ok d before (space n ∷ is) e = bare_kept ok d before is e
bare_kept ok d before (entry f name ∷ is) e = absurd (let clash : record { dir = d; name = name; fid = f } ∷ namings_in d is ≡ [] = e in cc)

-- two such directories in one place leave the same entries
bare_names : (ok : List Naming → Naming → Bool) (d : Fid) (k l : Leader) (is js : List Item) → namings_in d is ≡ [] → namings_in d js ≡ [] → (a : List (Fid × File)) (before : List Naming) (c : List (Fid × File))
    → namings (files_kept ok before (a ++ (d, record { leader = k; body = items_of is }) ∷ c)) ≡ namings (files_kept ok before (a ++ (d, record { leader = l; body = items_of js }) ∷ c))
bare_names ok d k l is js e f [] before c =
    let x = bare_kept ok d before is e in
    let y = bare_kept ok d before js f in
    (λ i. x.0 i ++ namings (files_kept ok (x.1 i) c)) ∙ sym (λ i. y.0 i ++ namings (files_kept ok (y.1 i) c))
bare_names ok d k l is js e f (y ∷ a) before c = ap (λ r. body_namings y.0 (body_kept ok y.0 before y.1.body) ++ r) (bare_names ok d k l is js e f a (kept_after_body ok y.0 before y.1.body) c)

-- the last of two values of a key counts
pub insert_twice : (m : Files) (f : Fid) (x y : File) → insert (insert m f x) f y ≡ insert m f y
insert_twice m f x y = same_map fid_total fid_same _ _ (λ g. get-insert fid_total (insert m f x) f y g ∙ ap (cond (is_fid g f) (Some y)) (get-insert fid_total m f x g) ∙ at g (is_fid g f) ∙ sym (get-insert fid_total m f y g))
  where
    at : (g : Fid) (b : Bool) → cond b (Some y) (cond b (Some x) (get m g)) ≡ cond b (Some y) (get m g)
    at g true = refl
    at g false = refl

-- ---- SysDir comes alive
module _ (shape : Shape) (ss tt : List Sight) (is : List Item) (l : Leader) (v : Fid → Bool) (none : get (described ss) sys_dir ≡ None) (here : get (described tt) sys_dir ≡ Some (record { leader = l; body = items_of is }))
    (others : (g : Fid) → is_fid g sys_dir ≡ false → get (described tt) g ≡ get (described ss) g) (bare : namings_in sys_dir is ≡ []) where
  -- the files as the Scavenger will find them, except the slots of SysDir
  root_now : (g : Fid) → is_system g ≡ false → get (rooted (described tt)) g ≡ get (rooted (described ss)) g
  root_now g e =
      let other : is_fid g sys_dir ≡ false = or_false_left (is_fid g sys_dir) (is_fid g disk_descriptor) e in
      get-insert fid_total (described tt) sys_dir _ g
      ∙ ap (λ b. cond b (Some (root_file (root_body (get (described tt) sys_dir)))) (get (described tt) g)) other
      ∙ others g other
      ∙ sym (get-insert fid_total (described ss) sys_dir _ g ∙ ap (λ b. cond b (Some (root_file (root_body (get (described ss) sys_dir)))) (get (described ss) g)) other)

  -- with other slots of SysDir
  root_is : rooted (described tt) ≡ insert (described ss) sys_dir (root_file (items_of is))
  root_is = same_map fid_total fid_same _ _ (λ g. get-insert fid_total (described tt) sys_dir _ g ∙ at g ∙ sym (get-insert fid_total (described ss) sys_dir (root_file (items_of is)) g))
    where
      at : (g : Fid) → cond (is_fid g sys_dir) (Some (root_file (root_body (get (described tt) sys_dir)))) (get (described tt) g) ≡ cond (is_fid g sys_dir) (Some (root_file (items_of is))) (get (described ss) g)
      at g = elim (is_fid g sys_dir) as (λ b. is_fid g sys_dir ≡ b → cond b (Some (root_file (root_body (get (described tt) sys_dir)))) (get (described tt) g) ≡ cond b (Some (root_file (items_of is))) (get (described ss) g)) [
        | true ↦ λ e. ap (λ r. Some (root_file (root_body r))) here
        | false ↦ λ e. others g e
      ] refl

  -- and with one free slot
  root_was : rooted (described ss) ≡ insert (described ss) sys_dir (root_file (items_of (space 255 ∷ [])))
  root_was = ap (λ r. insert (described ss) sys_dir (root_file (root_body r))) none

  -- the same entries
  root_names : namings (files_kept (is_kept v) [] (entries (rooted (described tt)))) ≡ namings (files_kept (is_kept v) [] (entries (rooted (described ss))))
  root_names =
      let base : Files = insert (described ss) sys_dir (root_file (items_of (space 255 ∷ []))) in
      let in_base : get base sys_dir ≡ Some (root_file (items_of (space 255 ∷ []))) = get-insert fid_total (described ss) sys_dir _ sys_dir ∙ ap (λ b. cond b (Some (root_file (items_of (space 255 ∷ [])))) (get (described ss) sys_dir)) (is_fid-itself sys_dir) in
      let r = around fid_total fid_same base sys_dir (root_file (items_of (space 255 ∷ []))) in_base in
      let twice : insert (described ss) sys_dir (root_file (items_of is)) ≡ insert base sys_dir (root_file (items_of is)) = sym (insert_twice (described ss) sys_dir (root_file (items_of (space 255 ∷ []))) (root_file (items_of is))) in
      ap (λ m. namings (files_kept (is_kept v) [] (entries m))) (root_is ∙ twice)
      ∙ ap (λ es. namings (files_kept (is_kept v) [] es)) (entries-insert fid_total base sys_dir (root_file (items_of is)) ∙ r.now (root_file (items_of is)))
      ∙ bare_names (is_kept v) sys_dir _ _ is (space 255 ∷ []) bare refl r.front [] r.back
      ∙ ap (λ es. namings (files_kept (is_kept v) [] es)) (sym r.was)
      ∙ ap (λ m. namings (files_kept (is_kept v) [] (entries m))) (sym root_was)

  -- so what is viewed stays
  pub root_comes : (good last good2 last2 : ℕ) → view (record { shape = shape; good = good; last = last; files = tidied v (rooted (described tt)) }) ≡ view (record { shape = shape; good = good2; last = last2; files = tidied v (rooted (described ss)) })
  root_comes good last good2 last2 = tidied_view shape good last good2 last2 v v (rooted (described tt)) (rooted (described ss)) (λ q e. ap (option_map (seen_of q)) (root_now q e)) (λ q e. ap (λ ns. find fid_cmp q (homes ns)) root_names)

-- what a pack is viewed as, where SysDir comes alive with no entry
pub root_view : (shape : Shape) (ss tt : List Sight) (is : List Item) (l : Leader) → with_system (lives tt) ≡ with_system (lives ss) → get (described ss) sys_dir ≡ None → get (described tt) sys_dir ≡ Some (record { leader = l; body = items_of is })
    → ((g : Fid) → is_fid g sys_dir ≡ false → get (described tt) g ≡ get (described ss) g) → namings_in sys_dir is ≡ [] → view (read_sights shape tt) ≡ view (read_sights shape ss)
unfolding mended
root_view shape ss tt is l alive none here others bare =
    sym (mended_view shape tt)
    ∙ ap (λ v. view (record { shape = shape; good = good_sectors tt; last = last_serial (descriptor_words tt); files = tidied v (rooted (described tt)) })) alive
    ∙ root_comes shape ss tt is l (with_system (lives ss)) none here others bare _ _ _ _
    ∙ mended_view shape ss
