-- What a change of a directory's slots shows.
use Rattle.std.proofs.Common.{◌++◌, ◌∙◌, ◌∷◌, ◌≡◌, List, None, Some, ap, cond, false, not, refl, sym, true, ℕ}
use Rattle.std.specs.FinMap.{FinMap, from_entries, get, get-insert, insert, retain_keys, same_map}
use Rattle.std.specs.Option.{option_map}
use Rattle.pack_laws.specs.alto_words.specs.Fid.{fid_cmp, is_fid, is_system, sys_dir}
use Rattle.pack_laws.specs.alto_words.specs.declared.fid.Fid.{Fid}
use Rattle.pack_laws.specs.disk_records.specs.declared.shape.Shape.{Shape}
use Rattle.pack_laws.specs.pack_model.specs.reading.Bodies.{Files}
use Rattle.pack_laws.specs.pack_model.specs.reading.Leaders.{Leader}
use Rattle.pack_laws.specs.pack_model.specs.sessions.Maps.{map_values}
use Rattle.pack_laws.specs.pack_model.specs.reading.Model.{Model}
use Rattle.pack_laws.specs.pack_model.specs.reading.Namings.{namings, namings_in}
use Rattle.pack_laws.specs.pack_model.specs.showing.Settling.{chosen, settle}
use Rattle.pack_laws.specs.pack_model.specs.reading.Slots.{Item}
use Rattle.pack_laws.specs.pack_model.specs.reading.Slots.Item.{entry, space}
use Rattle.pack_laws.specs.pack_model.specs.showing.View.{Home, Seen, View, homes, names_of, seen_of, view}
use Rattle.laws_record.proofs.Around.{around}
use Rattle.laws_record.proofs.Entered.{directory, enter_names, namings_around}
use Rattle.laws_record.proofs.Keeping.{kept_insert}
use Rattle.pack_laws.proofs.Keys.{fid_same, fid_total}
use Rattle.pack_laws.proofs.Mapping.{get-map_values}
use Rattle.laws_record.proofs.Settles.{next_settles}
use Rattle.laws_record.specs.EnterLaws.{IsNext}

-- a directory's slots aren't bytes that are shown
pub seen_same : (files : Files) (d : Fid) (l : Leader) (is js : List Item) → map_values {R = fid_cmp} seen_of (insert files d (directory l is)) ≡ map_values seen_of (insert files d (directory l js))
seen_same files d l is js = same_map fid_total fid_same _ _ (λ q.
    get-map_values fid_total fid_same seen_of _ q
    ∙ ap (option_map (seen_of q)) (get-insert fid_total files d _ q)
    ∙ at q
    ∙ sym (ap (option_map (seen_of q)) (get-insert fid_total files d _ q))
    ∙ sym (get-map_values fid_total fid_same seen_of _ q))
  where
    at : (q : Fid) → option_map (seen_of q) (cond (is_fid q d) (Some (directory l is)) (get files q)) ≡ option_map (seen_of q) (cond (is_fid q d) (Some (directory l js)) (get files q))
    at q = elim (is_fid q d) as (λ b. option_map (seen_of q) (cond b (Some (directory l is)) (get files q)) ≡ option_map (seen_of q) (cond b (Some (directory l js)) (get files q))) [ true ↦ refl | false ↦ refl ]

-- the same parts, the same view
pub same_view : (a b : FinMap fid_cmp Seen) (m n : FinMap fid_cmp Home) → a ≡ b → m ≡ n → ◌≡◌ {A = View} (record { files = a; names = m }) (record { files = b; names = n })
same_view a b m n p q = λ i. record { files = p i; names = q i }

module _ (shape : Shape) (good last : ℕ) (files : Files) (d : Fid) (l : Leader) (is a b : List Item) (in_files : get files d ≡ Some (directory l is)) where
  -- an entry more is a name more
  pub view_enter : (f : Fid) (name : List ℕ) (n : ℕ) → is_system f ≡ false → get (names_of (insert files d (directory l (a ++ space n ∷ b)))) f ≡ None
      → view (record { shape = shape; good = good; last = last; files = insert files d (directory l (a ++ entry f name ∷ b)) })
      ≡ record {
        files = (view (record { shape = shape; good = good; last = last; files = insert files d (directory l (a ++ space n ∷ b)) })).files;
        names = insert (view (record { shape = shape; good = good; last = last; files = insert files d (directory l (a ++ space n ∷ b)) })).names f (record { dir = d; name = name });
      }
  unfolding view
  view_enter f name n ordinary none = same_view _ _ _ _
      (ap (λ m. retain_keys m (λ f. not (is_system f))) (seen_same files d l (a ++ entry f name ∷ b) (a ++ space n ∷ b)))
      (ap (λ m. retain_keys m (λ f. not (is_system f))) (enter_names files d l is a b in_files f name n none) ∙ kept_insert _ (λ f. not (is_system f)) f _ (ap not ordinary))

  -- slots with the same entries
  pub view_slots : (is js : List Item) → namings_in d is ≡ namings_in d js
      → view (record { shape = shape; good = good; last = last; files = insert files d (directory l is) }) ≡ view (record { shape = shape; good = good; last = last; files = insert files d (directory l js) })
  unfolding view
  view_slots is js e =
      let r = around fid_total fid_same files d _ in_files in
      same_view _ _ _ _
      (ap (λ m. retain_keys m (λ f. not (is_system f))) (seen_same files d l is js))
      (ap (λ ns. retain_keys (from_entries {R = fid_cmp} (homes ns)) (λ f. not (is_system f)))
      (namings_around files d l _ r is ∙ ap (λ x. namings r.front ++ (x ++ namings r.back)) e ∙ sym (namings_around files d l _ r js)))

  -- the next entry that settling adds
  pub adopt_shows : (f : Fid) (x : Seen) (n : ℕ) → is_system f ≡ false → d ≡ sys_dir
      → let old : Model = record { shape = shape; good = good; last = last; files = insert files d (directory l (a ++ space n ∷ b)) } in
      IsNext (view old) f x → get (names_of old.files) f ≡ None
      → settle (view (record old { files = insert files d (directory l (a ++ entry f (chosen (view old).names x.leader.name) ∷ b)) })) ≡ settle (view old)
  adopt_shows f x n ordinary root next none =
      let old : Model = record { shape = shape; good = good; last = last; files = insert files d (directory l (a ++ space n ∷ b)) } in
      ap settle (view_enter f (chosen (view old).names x.leader.name) n ordinary none
      ∙ ap (λ h. record { files = (view old).files; names = insert (view old).names f (record { dir = h; name = chosen (view old).names x.leader.name }) }) root)
      ∙ next_settles (view old) f x next
