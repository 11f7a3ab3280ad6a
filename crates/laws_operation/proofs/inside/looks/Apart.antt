-- Entries that clash with none, by the file and by the slots of one directory.
use Rattle.std.proofs.Common.{Bool, Equal, Greater, Less, List, Some, T, [], ap, cond, false, not, refl, subst, sym, ℕ, ◌&&◌, ◌++◌, ◌||◌, ◌∙◌, ◌∷◌, ◌≡◌}
use Rattle.std.proofs.lemmas.Bool.{and_right}
use Rattle.std.specs.FinMap.{entries, entries_sorted, find, get-entries, is_sorted}
use Rattle.std.specs.FinMap.Entries.{below_all}
use Rattle.std.specs.List.{list_any}
use Rattle.std.specs.Ordering.{is_eq, is_lt}
use Rattle.std.specs.declared.cmp.Ordering.{Ordering}
use Rattle.laws_contents.specs.alto_words.specs.Fid.{fid_cmp, is_fid}
use Rattle.laws_contents.specs.alto_words.specs.Names.{is_same_name}
use Rattle.laws_contents.specs.alto_words.specs.declared.fid.Fid.{Fid}
use Rattle.laws_contents.specs.pack_model.specs.reading.Bodies.{Body, File, body_items, items_in}
use Rattle.laws_contents.specs.pack_model.specs.reading.Bodies.Body.{data_of, items_of}
use Rattle.laws_contents.specs.pack_model.specs.reading.Namings.{Naming, body_namings, clashes, namings, namings_in}
use Rattle.laws_contents.specs.pack_model.specs.reading.Slots.{Item}
use Rattle.laws_contents.specs.pack_model.specs.reading.Slots.Item.{entry, space}
use Rattle.laws_contents.specs.pack_laws.proofs.Keys.{fid_same, is_fid-sym}
use Rattle.laws_contents.specs.laws_record.proofs.Around.{first_part, is_less, second_part}
use Rattle.laws_contents.specs.laws_record.proofs.Beside.{any_first, any_second}
use Rattle.laws_contents.specs.laws_record.proofs.Fitting.{same_sym}
use Rattle.laws_contents.specs.laws_record.proofs.Tidying.{or_false, or_false_left, or_false_right}
use Rattle.laws_operation.specs.EntryLaws.{FreeNameIsApartForANamelessFile, is_of_another}

-- neither of two lists passes a test
pub any_both : (t : Naming → Bool) (a b : List Naming) → list_any t a ≡ false → list_any t b ≡ false → list_any t (a ++ b) ≡ false
any_both t [] b x y = y
any_both t (n ∷ a) b x y = or_false (t n) (list_any t (a ++ b)) (or_false_left (t n) (list_any t a) x) (any_both t a b (or_false_right (t n) (list_any t a) x) y)

module _ (d f : Fid) (name : List ℕ) where
  -- the new entry
  abbrev new : Naming
  new = record { dir = d; name = name; fid = f }

  -- an entry has the file
  abbrev names : Naming → Bool
  names n = is_fid n.fid f

  -- an entry of another file in another directory
  other_dir : (n : Naming) → names n ≡ false → is_fid d n.dir ≡ false → clashes new n ≡ false
  other_dir n a b = (λ i. is_fid-sym f n.fid i || (b i && is_same_name name n.name)) ∙ ap (λ t. t || false) a

  -- and one in this directory
  this_dir : (g : Fid) (own : List ℕ) → is_fid g f ≡ false → is_of_another f name (entry g own) ≡ false → clashes new (record { dir = d; name = own; fid = g }) ≡ false
  this_dir g own a b =
      let other : is_same_name own name ≡ false = sym (ap (λ t. not t && is_same_name own name) a) ∙ b in
      or_false (is_fid f g) (is_fid d d && is_same_name name own) (is_fid-sym f g ∙ a) (and_right (is_fid d d) (is_same_name name own) (same_sym name own ∙ other))

  -- slots of another directory
  other_items : (g : Fid) (is : List Item) → is_fid d g ≡ false → list_any names (namings_in g is) ≡ false → list_any (clashes new) (namings_in g is) ≡ false
  other_items g [] b a = refl
  other_items g (space n ∷ is) b a = other_items g is b a
  other_items g (entry h own ∷ is) b a =
      or_false (clashes new (record { dir = g; name = own; fid = h })) (list_any (clashes new) (namings_in g is))
      (other_dir (record { dir = g; name = own; fid = h }) (or_false_left (is_fid h f) (list_any names (namings_in g is)) a) b)
      (other_items g is b (or_false_right (is_fid h f) (list_any names (namings_in g is)) a))

  -- of this one
  these_items : (is : List Item) → list_any (is_of_another f name) is ≡ false → list_any names (namings_in d is) ≡ false → list_any (clashes new) (namings_in d is) ≡ false
  these_items [] b a = refl
  these_items (space n ∷ is) b a = these_items is b a
  these_items (entry h own ∷ is) b a =
      or_false (clashes new (record { dir = d; name = own; fid = h })) (list_any (clashes new) (namings_in d is))
      (this_dir h own (or_false_left (is_fid h f) (list_any names (namings_in d is)) a) (or_false_left (is_of_another f name (entry h own)) (list_any (is_of_another f name) is) b))
      (these_items is (or_false_right (is_of_another f name (entry h own)) (list_any (is_of_another f name) is) b) (or_false_right (is_fid h f) (list_any names (namings_in d is)) a))

  -- bodies
  other_body : (g : Fid) (b : Body) → is_fid d g ≡ false → list_any names (body_namings g b) ≡ false → list_any (clashes new) (body_namings g b) ≡ false
  other_body g (data_of bytes) e a = refl
  other_body g (items_of is) e a = other_items g is e a

  -- that of the directory
  this_body : (b : Body) → list_any (is_of_another f name) (body_items b) ≡ false → list_any names (body_namings d b) ≡ false → list_any (clashes new) (body_namings d b) ≡ false
  this_body (data_of bytes) e a = refl
  this_body (items_of is) e a = these_items is e a

  -- files above the directory
  above : (es : List (Fid × File)) → T (below_all fid_cmp d es) → list_any names (namings es) ≡ false → list_any (clashes new) (namings es) ≡ false
  above [] s a = refl
  above (e ∷ es) s a =
      let below : fid_cmp d e.0 ≡ Less = is_less (fid_cmp d e.0) (first_part (is_lt (fid_cmp d e.0)) (below_all fid_cmp d es) s) in
      any_both (clashes new) (body_namings e.0 e.1.body) (namings es)
      (other_body e.0 e.1.body (ap is_eq below) (any_first names (body_namings e.0 e.1.body) (namings es) a))
      (above es (second_part (is_lt (fid_cmp d e.0)) (below_all fid_cmp d es) s) (any_second names (body_namings e.0 e.1.body) (namings es) a))

  -- all files
  each_file : (es : List (Fid × File)) → T (is_sorted fid_cmp es) → list_any names (namings es) ≡ false → list_any (is_of_another f name) (items_in (find fid_cmp d es)) ≡ false → list_any (clashes new) (namings es) ≡ false
  each_file [] s a b = refl
  each_file (e ∷ es) s a b = by (fid_cmp d e.0) refl (each_file es (second_part (below_all fid_cmp e.0 es) (is_sorted fid_cmp es) s) later)
    where
      first : list_any names (body_namings e.0 e.1.body) ≡ false
      first = any_first names (body_namings e.0 e.1.body) (namings es) a

      later : list_any names (namings es) ≡ false
      later = any_second names (body_namings e.0 e.1.body) (namings es) a

      -- the directory comes later, or isn't there
      past : is_fid d e.0 ≡ false → (list_any (is_of_another f name) (items_in (find fid_cmp d es)) ≡ false → list_any (clashes new) (namings es) ≡ false) → list_any (clashes new) (namings (e ∷ es)) ≡ false
      past other again = any_both (clashes new) (body_namings e.0 e.1.body) (namings es) (other_body e.0 e.1.body other first)
          (again (sym (ap (λ t. list_any (is_of_another f name) (items_in (cond t (Some e.1) (find fid_cmp d es)))) other) ∙ b))

      by : (r : Ordering) → fid_cmp d e.0 ≡ r → (list_any (is_of_another f name) (items_in (find fid_cmp d es)) ≡ false → list_any (clashes new) (namings es) ≡ false) → list_any (clashes new) (namings (e ∷ es)) ≡ false
      by Less is again = past (ap is_eq is) again
      by Greater is again = past (ap is_eq is) again
      by Equal is again =
          let same : d ≡ e.0 = fid_same d e.0 is in
          let items : list_any (is_of_another f name) (body_items e.1.body) ≡ false = sym (ap (λ r. list_any (is_of_another f name) (items_in (cond (is_eq r) (Some e.1) (find fid_cmp d es)))) is) ∙ b in
          any_both (clashes new) (body_namings e.0 e.1.body) (namings es)
          (subst (λ g. list_any names (body_namings g e.1.body) ≡ false → list_any (clashes new) (body_namings g e.1.body) ≡ false) same (this_body e.1.body items) first)
          (above es (subst (λ g. T (below_all fid_cmp g es)) (sym same) (first_part (below_all fid_cmp e.0 es) (is_sorted fid_cmp es) s)) later)

pub free_name_is_apart_for_a_nameless_file : FreeNameIsApartForANamelessFile
free_name_is_apart_for_a_nameless_file m d f name nameless clear = each_file d f name (entries m.files) (entries_sorted m.files) nameless (ap (λ r. list_any (is_of_another f name) (items_in r)) (sym (get-entries m.files d)) ∙ clear)
