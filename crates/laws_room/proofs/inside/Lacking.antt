-- Which files are named, and what is viewed, with an entry more in SysDir.
use Rattle.std.proofs.Common.{◌++◌, ◌||◌, ◌∙◌, ◌∷◌, ◌≡◌, Bool, List, None, Some, [], ap, cond, false, not, refl, sym, true, ℕ}
use Rattle.std.specs.FinMap.{FinMap, entries, find, get, get-from_entries, get-insert, insert, retain_keys, same_map}
use Rattle.std.specs.List.{list_any}
use Rattle.laws_operation.specs.alto_words.specs.Fid.{fid_cmp, is_fid, is_system, sys_dir}
use Rattle.laws_operation.specs.alto_words.specs.declared.fid.Fid.{Fid}
use Rattle.laws_operation.specs.disk_records.specs.declared.shape.Shape.{Shape}
use Rattle.laws_operation.specs.pack_model.specs.reading.Bodies.{Files}
use Rattle.laws_operation.specs.pack_model.specs.reading.Leaders.{Leader}
use Rattle.laws_operation.specs.pack_model.specs.reading.Model.{Model, is_named}
use Rattle.laws_operation.specs.pack_model.specs.reading.Namings.{Naming, namings, namings_in}
use Rattle.laws_operation.specs.pack_model.specs.reading.Slots.{Item}
use Rattle.laws_operation.specs.pack_model.specs.reading.Slots.Item.{entry, space}
use Rattle.laws_operation.specs.pack_model.specs.showing.View.{Home, homes, names_of, view}
use Rattle.laws_room.proofs.Standing.{Stands}
use Rattle.laws_operation.specs.pack_laws.proofs.Keys.{fid_same, fid_total, is_fid-sym, same_fid}
use Rattle.laws_record.proofs.Around.{around}
use Rattle.laws_record.proofs.DirReads.{insert_same}
use Rattle.laws_record.proofs.Entered.{Spot, directory, enter_names, namings_around, namings_in-append, spot}
use Rattle.laws_record.proofs.Keeping.{get-where}
use Rattle.laws_record.proofs.Tidying.{or_false_left, or_false_right}
use Rattle.laws_record.proofs.Viewing.{same_view, seen_same, view_enter, view_slots}
use Rattle.std.proofs.lemmas.List.Folds.{list_any-append}
use Rattle.laws_operation.specs.pack_laws.proofs.Inserting.{swap_or}

-- ---- which files are named
-- a file that no entry names has no home
pub unnamed_find : (f : Fid) (ns : List Naming) → list_any (λ n. is_fid n.fid f) ns ≡ false → find fid_cmp f (homes ns) ≡ None
unnamed_find f [] e = refl
unnamed_find f (n ∷ ns) e =
    let h : Home = record { dir = n.dir; name = n.name } in
    ap (λ b. cond b (Some h) (find fid_cmp f (homes ns))) (is_fid-sym f n.fid ∙ or_false_left (is_fid n.fid f) _ e) ∙ unnamed_find f ns (or_false_right (is_fid n.fid f) _ e)

-- a name that is left out anyway
drop_insert : (m : FinMap fid_cmp Home) (p : Fid → Bool) (f : Fid) (h : Home) → p f ≡ false → retain_keys (insert m f h) p ≡ retain_keys m p
drop_insert m p f h e = same_map fid_total fid_same _ _ (λ q. get-where (insert m f h) p q ∙ ap (λ r. cond (p q) r None) (get-insert fid_total m f h q) ∙ at q (is_fid q f) refl ∙ sym (get-where m p q))
  where
    at : (q : Fid) (b : Bool) → is_fid q f ≡ b → cond (p q) (cond b (Some h) (get m q)) None ≡ cond (p q) (get m q) None
    at q true s = let z : p q ≡ false = ap p (same_fid q f s) ∙ e in ap (λ c. cond c (Some h) None) z ∙ sym (ap (λ c. cond c (get m q) None) z)
    at q false s = refl

-- a file that isn't a system file has no name where none is shown
pub nameless_kept : (shape : Shape) (good last : ℕ) (files : Files) (f : Fid) → is_system f ≡ false → get (view (record { shape = shape; good = good; last = last; files = files })).names f ≡ None → get (names_of files) f ≡ None
unfolding view
nameless_kept shape good last files f ordinary none = sym (ap (λ b. cond (not b) (get (names_of files) f) None) ordinary) ∙ sym (get-where (names_of files) (λ f. not (is_system f)) f) ∙ none

-- ---- the model with an entry more in SysDir
module _ (shape : Shape) (good last : ℕ) (files : Files) (l : Leader) (is : List Item) (in_files : get files sys_dir ≡ Some (directory l is)) where
  -- the model before
  abbrev pub was_model : Model
  was_model = record { shape = shape; good = good; last = last; files = files }

  -- and with other slots of SysDir
  abbrev pub now_model : List Item → Model
  now_model js = record { shape = shape; good = good; last = last; files = insert files sys_dir (directory l js) }

  -- slots with the same entries
  pub same_namings : (a b : List Item) → namings_in sys_dir a ≡ namings_in sys_dir b → namings (entries (insert files sys_dir (directory l a))) ≡ namings (entries (insert files sys_dir (directory l b)))
  same_namings a b e = let r = around fid_total fid_same files sys_dir (directory l is) in_files in namings_around files sys_dir l is r a ∙ ap (λ x. namings r.front ++ (x ++ namings r.back)) e ∙ sym (namings_around files sys_dir l is r b)

  module _ (f : Fid) (name : List ℕ) (js : List Item) (s : Stands sys_dir f name is js) where
    spaced_names : namings_in sys_dir (s.front ++ space 0 ∷ s.back) ≡ namings_in sys_dir is
    spaced_names = namings_in-append sys_dir s.front (space 0 ∷ s.back) ∙ sym s.was

    spaced_view : view (now_model (s.front ++ space 0 ∷ s.back)) ≡ view was_model
    spaced_view = view_slots shape good last files sys_dir l is s.front s.back in_files (s.front ++ space 0 ∷ s.back) is spaced_names ∙ ap (λ fs. view (record { shape = shape; good = good; last = last; files = fs })) (insert_same files sys_dir (directory l is) in_files)

    p : Spot files sys_dir l s.front s.back
    p = spot files sys_dir l is s.front s.back in_files

    spaced_is : namings (entries (insert files sys_dir (directory l (s.front ++ space 0 ∷ s.back)))) ≡ namings (entries files)
    spaced_is = same_namings (s.front ++ space 0 ∷ s.back) is spaced_names ∙ ap (λ fs. namings (entries fs)) (insert_same files sys_dir (directory l is) in_files)

    pub named_now : (g : Fid) → is_named (now_model js) g ≡ (is_fid f g || is_named was_model g)
    named_now g =
        let t : Naming → Bool = λ n. is_fid n.fid g in
        ap (λ ks. is_named (now_model ks) g) s.now
        ∙ ap (list_any t) (p.with f name)
        ∙ list_any-append t p.before (record { dir = sys_dir; name = name; fid = f } ∷ p.later)
        ∙ swap_or (list_any t p.before) (is_fid f g) (list_any t p.later)
        ∙ ap (λ b. is_fid f g || b) (sym (list_any-append t p.before p.later) ∙ ap (list_any t) (sym (p.without 0) ∙ spaced_is))

    unnamed_now : is_named was_model f ≡ false → get (names_of (insert files sys_dir (directory l (s.front ++ space 0 ∷ s.back)))) f ≡ None
    unnamed_now e = get-from_entries fid_total _ f ∙ ap (λ ns. find fid_cmp f (homes ns)) spaced_is ∙ unnamed_find f (namings (entries files)) e

    -- an entry of a system file shows nothing new
    pub system_view : is_system f ≡ true → is_named was_model f ≡ false → view (now_model js) ≡ view was_model
    unfolding view
    system_view own none = ap (λ ks. view (now_model ks)) s.now
        ∙ same_view _ _ _ _
        (ap (λ m. retain_keys m (λ f. not (is_system f))) (seen_same files sys_dir l (s.front ++ entry f name ∷ s.back) (s.front ++ space 0 ∷ s.back)))
        (ap (λ m. retain_keys m (λ f. not (is_system f))) (enter_names files sys_dir l is s.front s.back in_files f name 0 (unnamed_now none)) ∙ drop_insert _ (λ f. not (is_system f)) f _ (ap not own))
        ∙ spaced_view

    -- an adopted file has a name more
    pub ordinary_view : is_system f ≡ false → get (view was_model).names f ≡ None → view (now_model js) ≡ record { files = (view was_model).files; names = insert (view was_model).names f (record { dir = sys_dir; name = name }) }
    ordinary_view ordinary none =
        ap (λ ks. view (now_model ks)) s.now
        ∙ view_enter shape good last files sys_dir l is s.front s.back in_files f name 0 ordinary (nameless none)
        ∙ ap (λ v. record { files = v.files; names = insert v.names f (record { dir = sys_dir; name = name }) }) spaced_view
      where
        nameless : get (view was_model).names f ≡ None → get (names_of (insert files sys_dir (directory l (s.front ++ space 0 ∷ s.back)))) f ≡ None
        nameless none = nameless_kept shape good last _ f ordinary (ap (λ v. get v.names f) spaced_view ∙ none)
