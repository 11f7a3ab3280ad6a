-- The entries of a system file stand in nobody's way: with more of them, or fewer, every other entry is kept as before.
use Rattle.std.proofs.Common.{◌&&◌, ◌++◌, ◌∙◌, ◌∷◌, ◌≡◌, Bool, List, Some, [], ap, cond, false, not, refl, sym, true, ℕ}
use Rattle.std.specs.FinMap.{entries, entries-insert, find, get, insert}
use Rattle.std.specs.List.{list_any}
use Rattle.pack_laws.specs.alto_words.specs.Fid.{fid_cmp, is_fid}
use Rattle.pack_laws.specs.alto_words.specs.declared.fid.Fid.{Fid}
use Rattle.pack_laws.specs.pack_model.specs.reading.Bodies.{Body, File, Files}
use Rattle.pack_laws.specs.pack_model.specs.reading.Bodies.Body.{data_of, items_of}
use Rattle.pack_laws.specs.pack_model.specs.reading.Leaders.{Leader}
use Rattle.pack_laws.specs.pack_model.specs.reading.Namings.{Naming, body_kept, body_namings, clashes, files_kept, fits, is_kept, is_own, items_kept, kept_after, kept_after_body, namings, namings_in}
use Rattle.pack_laws.specs.pack_model.specs.reading.Slots.{Item, item_words}
use Rattle.pack_laws.specs.pack_model.specs.reading.Slots.Item.{entry, space}
use Rattle.pack_laws.specs.pack_model.specs.showing.View.{homes}
use Rattle.laws_record.proofs.Around.{around}
use Rattle.laws_record.proofs.Dropping.{others, others-append}
use Rattle.laws_record.proofs.Entered.{directory}
use Rattle.pack_laws.proofs.Keys.{fid_same, fid_total, is_fid-itself}
use Rattle.laws_record.proofs.Mending.{find-others}
use Rattle.laws_record.proofs.inside.Viewed.{name_left}
use Rattle.laws_record.proofs.inside.Waking.{OwnFit, any_same, kept_fits}

module _ (sf : Fid) (sname : List ℕ) (own_name : (e : Naming) → fits e ≡ true → is_fid e.fid sf ≡ is_own sname e) (v : Fid → Bool) where
  -- two lists of kept entries that differ in those of the file alone
  record AsideSame (b c : List Naming) : Type 0 where
    same : others sf b ≡ others sf c
    left_fits : OwnFit sf sname own_name b
    right_fits : OwnFit sf sname own_name c

  -- an entry of another file is kept beside both, or beside neither
  kept_aside : (b c : List Naming) (e : Naming) → AsideSame b c → is_fid e.fid sf ≡ false → is_kept v b e ≡ is_kept v c e
  kept_aside b c e s other = by (fits e) refl
    where
      nothing : (l x y : Bool) → ((l && false) && x) ≡ ((l && false) && y)
      nothing true x y = refl
      nothing false x y = refl

      by : (t : Bool) → fits e ≡ t → ((v e.fid && fits e) && not (list_any (clashes e) b)) ≡ ((v e.fid && fits e) && not (list_any (clashes e) c))
      by true fe = ap (λ a. (v e.fid && fits e) && not a) (sym (any_same sf sname own_name e b other fe s.left_fits) ∙ ap (list_any (clashes e)) s.same ∙ any_same sf sname own_name e c other fe s.right_fits)
      by false fe = ap (λ t. (v e.fid && t) && not (list_any (clashes e) b)) fe ∙ nothing (v e.fid) _ _ ∙ sym (ap (λ t. (v e.fid && t) && not (list_any (clashes e) c)) fe)

  -- one more kept entry in either
  more_aside : (b c : List Naming) (e : Naming) → AsideSame b c → AsideSame (cond (is_kept v b e) (e ∷ b) b) (cond (is_kept v c e) (e ∷ c) c)
  more_aside b c e s = by (is_fid e.fid sf) refl (is_kept v b e) (is_kept v c e) refl refl
    where
      drops : (x : List Naming) → is_fid e.fid sf ≡ true → others sf (e ∷ x) ≡ others sf x
      drops x own = ap (λ t. cond t (others sf x) (e ∷ others sf x)) own

      stays : (x : List Naming) → is_fid e.fid sf ≡ false → others sf (e ∷ x) ≡ e ∷ others sf x
      stays x other = ap (λ t. cond t (others sf x) (e ∷ others sf x)) other

      by : (o : Bool) → is_fid e.fid sf ≡ o → (s1 t : Bool) → is_kept v b e ≡ s1 → is_kept v c e ≡ t → AsideSame (cond s1 (e ∷ b) b) (cond t (e ∷ c) c)
      by true own true true x y = record { same = drops b own ∙ s.same ∙ sym (drops c own); left_fits = ((λ _. kept_fits v b e x), s.left_fits); right_fits = ((λ _. kept_fits v c e y), s.right_fits) }
      by true own true false x y = record { same = drops b own ∙ s.same; left_fits = ((λ _. kept_fits v b e x), s.left_fits); right_fits = s.right_fits }
      by true own false true x y = record { same = s.same ∙ sym (drops c own); left_fits = s.left_fits; right_fits = ((λ _. kept_fits v c e y), s.right_fits) }
      by true own false false x y = s
      by false other true true x y = record { same = stays b other ∙ ap (λ r. e ∷ r) s.same ∙ sym (stays c other); left_fits = ((λ _. kept_fits v b e x), s.left_fits); right_fits = ((λ _. kept_fits v c e y), s.right_fits) }
      by false other true false x y = absurd (let clash : true ≡ false = sym x ∙ kept_aside b c e s other ∙ y in cc)
      by false other false true x y = absurd (let clash : false ≡ true = sym x ∙ kept_aside b c e s other ∙ y in cc)
      by false other false false x y = s

  -- one entry, among those that are left
  one_aside : (b c : List Naming) (e : Naming) (x y : List Naming) → AsideSame b c → others sf x ≡ others sf y → others sf (cond (is_kept v b e) (e ∷ x) x) ≡ others sf (cond (is_kept v c e) (e ∷ y) y)
  one_aside b c e x y s same = by (is_fid e.fid sf) refl
    where
      drops : (t : Bool) (x : List Naming) → is_fid e.fid sf ≡ true → others sf (cond t (e ∷ x) x) ≡ others sf x
      drops true x own = ap (λ t. cond t (others sf x) (e ∷ others sf x)) own
      drops false x own = refl

      both : (t : Bool) → others sf (cond t (e ∷ x) x) ≡ others sf (cond t (e ∷ y) y)
      both true = ap (λ r. cond (is_fid e.fid sf) r (e ∷ r)) same
      both false = same

      by : (o : Bool) → is_fid e.fid sf ≡ o → others sf (cond (is_kept v b e) (e ∷ x) x) ≡ others sf (cond (is_kept v c e) (e ∷ y) y)
      by true own = drops (is_kept v b e) x own ∙ same ∙ sym (drops (is_kept v c e) y own)
      by false other = both (is_kept v b e) ∙ ap (λ t. others sf (cond t (e ∷ y) y)) (kept_aside b c e s other)

  -- the entries that are left of a slot, and those after it
  left_item : (t : Bool) (d f : Fid) (name : List ℕ) (is : List Item) → namings_in d (cond t (entry f name) (space (item_words (entry f name))) ∷ is) ≡ cond t (record { dir = d; name = name; fid = f } ∷ namings_in d is) (namings_in d is)
  left_item true d f name is = refl
  left_item false d f name is = refl

  -- slots
  items_aside : (d : Fid) (is : List Item) (b c : List Naming) → AsideSame b c → (others sf (namings_in d (items_kept (is_kept v) d b is)) ≡ others sf (namings_in d (items_kept (is_kept v) d c is))) × AsideSame (kept_after (is_kept v) d b is) (kept_after (is_kept v) d c is)
  items_aside d [] b c s = (refl, s)
  items_aside d (space n ∷ is) b c s = items_aside d is b c s
  items_aside d (entry f name ∷ is) b c s =
      let e : Naming = record { dir = d; name = name; fid = f } in
      let r = items_aside d is (cond (is_kept v b e) (e ∷ b) b) (cond (is_kept v c e) (e ∷ c) c) (more_aside b c e s) in
      (ap (others sf) (left_item (is_kept v b e) d f name _) ∙ one_aside b c e _ _ s r.0 ∙ sym (ap (others sf) (left_item (is_kept v c e) d f name _)), r.1)

  -- slots with an entry of the file in the place of free words
  entry_aside : (d : Fid) (a b : List Item) (name : List ℕ) (n : ℕ) (x y : List Naming) → AsideSame x y
      → (others sf (namings_in d (items_kept (is_kept v) d x (a ++ entry sf name ∷ b))) ≡ others sf (namings_in d (items_kept (is_kept v) d y (a ++ space n ∷ b)))) × AsideSame (kept_after (is_kept v) d x (a ++ entry sf name ∷ b)) (kept_after (is_kept v) d y (a ++ space n ∷ b))
  entry_aside d [] b name n x y s =
      let e : Naming = record { dir = d; name = name; fid = sf } in
      let own : is_fid sf sf ≡ true = is_fid-itself sf in
      let state : AsideSame (cond (is_kept v x e) (e ∷ x) x) y = by (is_kept v x e) refl s own in
      let r = items_aside d b (cond (is_kept v x e) (e ∷ x) x) y state in
      (ap (others sf) (left_item (is_kept v x e) d sf name _) ∙ drops (is_kept v x e) e _ own ∙ r.0, r.1)
    where
      drops : (t : Bool) (e : Naming) (z : List Naming) → is_fid e.fid sf ≡ true → others sf (cond t (e ∷ z) z) ≡ others sf z
      drops true e z own = ap (λ t. cond t (others sf z) (e ∷ others sf z)) own
      drops false e z own = refl

      by : (t : Bool) → is_kept v x (record { dir = d; name = name; fid = sf }) ≡ t → AsideSame x y → is_fid sf sf ≡ true → AsideSame (cond t (record { dir = d; name = name; fid = sf } ∷ x) x) y
      by true kept s own = record { same = drops true (record { dir = d; name = name; fid = sf }) x own ∙ s.same; left_fits = ((λ _. kept_fits v x (record { dir = d; name = name; fid = sf }) kept), s.left_fits); right_fits = s.right_fits }
      by false kept s own = s
  entry_aside d (space k ∷ a) b name n x y s = entry_aside d a b name n x y s
  entry_aside d (entry f other ∷ a) b name n x y s =
      let e : Naming = record { dir = d; name = other; fid = f } in
      let r = entry_aside d a b name n (cond (is_kept v x e) (e ∷ x) x) (cond (is_kept v y e) (e ∷ y) y) (more_aside x y e s) in
      (ap (others sf) (left_item (is_kept v x e) d f other _) ∙ one_aside x y e _ _ s r.0 ∙ sym (ap (others sf) (left_item (is_kept v y e) d f other _)), r.1)

  -- one body
  body_aside : (d : Fid) (x : Body) (b c : List Naming) → AsideSame b c → (others sf (body_namings d (body_kept (is_kept v) d b x)) ≡ others sf (body_namings d (body_kept (is_kept v) d c x))) × AsideSame (kept_after_body (is_kept v) d b x) (kept_after_body (is_kept v) d c x)
  body_aside d (data_of bytes) b c s = (refl, s)
  body_aside d (items_of is) b c s = items_aside d is b c s

  -- all files
  files_aside : (es : List (Fid × File)) (b c : List Naming) → AsideSame b c → others sf (namings (files_kept (is_kept v) b es)) ≡ others sf (namings (files_kept (is_kept v) c es))
  files_aside [] b c s = refl
  files_aside (e ∷ es) b c s =
      let r = body_aside e.0 e.1.body b c s in
      others-append sf (body_namings e.0 (body_kept (is_kept v) e.0 b e.1.body)) (namings (files_kept (is_kept v) (kept_after_body (is_kept v) e.0 b e.1.body) es))
      ∙ (λ i. r.0 i ++ files_aside es (kept_after_body (is_kept v) e.0 b e.1.body) (kept_after_body (is_kept v) e.0 c e.1.body) r.1 i)
      ∙ sym (others-append sf (body_namings e.0 (body_kept (is_kept v) e.0 c e.1.body)) (namings (files_kept (is_kept v) (kept_after_body (is_kept v) e.0 c e.1.body) es)))

  -- a directory with the entry, in its place among all files
  place_aside : (d : Fid) (l : Leader) (a b : List Item) (name : List ℕ) (n : ℕ) (front back : List (Fid × File)) (x y : List Naming) → AsideSame x y
      → others sf (namings (files_kept (is_kept v) x (front ++ (d, directory l (a ++ entry sf name ∷ b)) ∷ back))) ≡ others sf (namings (files_kept (is_kept v) y (front ++ (d, directory l (a ++ space n ∷ b)) ∷ back)))
  place_aside d l a b name n [] back x y s =
      let r = entry_aside d a b name n x y s in
      others-append sf (namings_in d (items_kept (is_kept v) d x (a ++ entry sf name ∷ b))) (namings (files_kept (is_kept v) (kept_after (is_kept v) d x (a ++ entry sf name ∷ b)) back))
      ∙ (λ i. r.0 i ++ files_aside back (kept_after (is_kept v) d x (a ++ entry sf name ∷ b)) (kept_after (is_kept v) d y (a ++ space n ∷ b)) r.1 i)
      ∙ sym (others-append sf (namings_in d (items_kept (is_kept v) d y (a ++ space n ∷ b))) (namings (files_kept (is_kept v) (kept_after (is_kept v) d y (a ++ space n ∷ b)) back)))
  place_aside d l a b name n (e ∷ front) back x y s =
      let r = body_aside e.0 e.1.body x y s in
      others-append sf (body_namings e.0 (body_kept (is_kept v) e.0 x e.1.body)) (namings (files_kept (is_kept v) (kept_after_body (is_kept v) e.0 x e.1.body) (front ++ (d, directory l (a ++ entry sf name ∷ b)) ∷ back)))
      ∙ (λ i. r.0 i ++ place_aside d l a b name n front back (kept_after_body (is_kept v) e.0 x e.1.body) (kept_after_body (is_kept v) e.0 y e.1.body) r.1 i)
      ∙ sym (others-append sf (body_namings e.0 (body_kept (is_kept v) e.0 y e.1.body)) (namings (files_kept (is_kept v) (kept_after_body (is_kept v) e.0 y e.1.body) (front ++ (d, directory l (a ++ space n ∷ b)) ∷ back))))

  -- so each other file has the same name
  pub names_aside : (files : Files) (d : Fid) (l : Leader) (is a b : List Item) (name : List ℕ) (n : ℕ) → get files d ≡ Some (directory l is) → (q : Fid) → is_fid q sf ≡ false
      → name_left v (insert files d (directory l (a ++ entry sf name ∷ b))) q ≡ name_left v (insert files d (directory l (a ++ space n ∷ b))) q
  names_aside files d l is a b name n here q other =
      let r = around fid_total fid_same files d (directory l is) here in
      let split : (js : List Item) → entries (insert files d (directory l js)) ≡ r.front ++ (d, directory l js) ∷ r.back = λ js. entries-insert fid_total files d (directory l js) ∙ r.now (directory l js) in
      ap (λ es. find fid_cmp q (homes (namings (files_kept (is_kept v) [] es)))) (split (a ++ entry sf name ∷ b))
      ∙ sym (find-others q sf other (namings (files_kept (is_kept v) [] (r.front ++ (d, directory l (a ++ entry sf name ∷ b)) ∷ r.back))))
      ∙ ap (λ ns. find fid_cmp q (homes ns)) (place_aside d l a b name n r.front r.back [] [] (record { same = refl; left_fits = Prim.tt; right_fits = Prim.tt }))
      ∙ find-others q sf other (namings (files_kept (is_kept v) [] (r.front ++ (d, directory l (a ++ space n ∷ b)) ∷ r.back)))
      ∙ sym (ap (λ es. find fid_cmp q (homes (namings (files_kept (is_kept v) [] es)))) (split (a ++ space n ∷ b)))
