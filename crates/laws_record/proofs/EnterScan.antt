-- An entry that clashes with none is kept, and the scan leaves all else.
use Rattle.std.proofs.Common.{◌&&◌, ◌++◌, ◌||◌, ◌∙◌, ◌∷◌, ◌≡◌, Bool, List, None, Some, [], ap, cond, false, length, not, refl, suc, sym, true, zero, ℕ}
use Rattle.std.specs.FinMap.{entries, find, from_entries, get, get-from_entries, get-insert, insert, same_map}
use Rattle.std.specs.List.{list_any}
use Rattle.std.specs.Option.{option_or}
use Rattle.pack_laws.specs.alto_words.specs.Fid.{fid_cmp, is_fid}
use Rattle.pack_laws.specs.alto_words.specs.declared.fid.Fid.{Fid}
use Rattle.pack_laws.specs.pack_model.specs.reading.Bodies.{File, Files}
use Rattle.pack_laws.specs.pack_model.specs.reading.Leaders.{Leader}
use Rattle.pack_laws.specs.pack_model.specs.reading.Namings.{Naming, clashes, files_kept, is_kept, item_kept, items_kept, kept_after, kept_by, may_stand, namings, namings_in, tidied}
use Rattle.pack_laws.specs.pack_model.specs.operations.Rooms.{left_over}
use Rattle.pack_laws.specs.pack_model.specs.reading.Slots.{Item, item_words}
use Rattle.pack_laws.specs.pack_model.specs.reading.Slots.Item.{entry, space}
use Rattle.laws_record.proofs.Around.{around}
use Rattle.laws_record.proofs.Beside.{Beside, any_first, any_second, files_beside, files_clear, items_beside, items_clear}
use Rattle.laws_record.proofs.DirReads.{insert_same}
use Rattle.laws_record.proofs.Entered.{directory, namings-append, namings_in-append}
use Rattle.laws_record.proofs.Fitting.{same_sym}
use Rattle.pack_laws.proofs.Keys.{fid_same, fid_total, is_fid-sym, same_fid}
use Rattle.laws_record.proofs.Scanned.{find-append, kept_before, kept_none, none_in_front, scan_at}
use Rattle.laws_record.proofs.Tidying.{NoneClashes, or_false_left, or_false_right}

-- clashing is the same both ways
clashes_sym : (a b : Naming) → clashes a b ≡ clashes b a
clashes_sym a b = λ i. is_fid-sym a.fid b.fid i || (is_fid-sym a.dir b.dir i && same_sym a.name b.name i)

-- none of these clashes with it
pub none_of_any : (e : Naming) (ns : List Naming) → list_any (clashes e) ns ≡ false → NoneClashes e ns
none_of_any e [] h = Prim.tt
none_of_any e (n ∷ ns) h = (clashes_sym n e ∙ or_false_left (clashes e n) _ h, none_of_any e ns (or_false_right (clashes e n) _ h))

-- one file in the place of another
pub find_replaced : (g d : Fid) (x y : File) (a c : List (Fid × File)) → find fid_cmp d a ≡ None → find fid_cmp g (a ++ (d, x) ∷ c) ≡ cond (is_fid g d) (Some x) (find fid_cmp g (a ++ (d, y) ∷ c))
find_replaced g d x y a c none = find-append g a ((d, x) ∷ c) ∙ by (is_fid g d) refl ∙ ap (cond (is_fid g d) (Some x)) (sym (find-append g a ((d, y) ∷ c)))
  where
    by : (t : Bool) → is_fid g d ≡ t → option_or (find fid_cmp g a) (cond (is_fid g d) (Some x) (find fid_cmp g c)) ≡ cond (is_fid g d) (Some x) (option_or (find fid_cmp g a) (cond (is_fid g d) (Some y) (find fid_cmp g c)))
    by true e =
        ap (λ r. option_or r (cond (is_fid g d) (Some x) (find fid_cmp g c))) (ap (λ h. find fid_cmp h a) (same_fid g d e) ∙ none)
        ∙ ap (λ t. cond t (Some x) (find fid_cmp g c)) e
        ∙ sym (ap (λ t. cond t (Some x) (option_or (find fid_cmp g a) (cond (is_fid g d) (Some y) (find fid_cmp g c)))) e)
    by false e =
        ap (λ t. option_or (find fid_cmp g a) (cond t (Some x) (find fid_cmp g c))) e
        ∙ sym (ap (λ t. option_or (find fid_cmp g a) (cond t (Some y) (find fid_cmp g c))) e)
        ∙ sym (ap (λ t. cond t (Some x) (option_or (find fid_cmp g a) (cond (is_fid g d) (Some y) (find fid_cmp g c)))) e)

-- the scan passes words left over
left_kept : (ok : List Naming → Naming → Bool) (d : Fid) (before : List Naming) (left : ℕ) (b : List Item) → (items_kept ok d before (left_over left b) ≡ left_over left (items_kept ok d before b)) × (kept_after ok d before (left_over left b) ≡ kept_after ok d before b)
left_kept ok d before zero b = (refl, refl)
left_kept ok d before (suc n) b = (refl, refl)

-- slots one after another
pub items_kept-append : (ok : List Naming → Naming → Bool) (d : Fid) (before : List Naming) (a b : List Item) → (items_kept ok d before (a ++ b) ≡ items_kept ok d before a ++ items_kept ok d (kept_after ok d before a) b) × (kept_after ok d before (a ++ b) ≡ kept_after ok d (kept_after ok d before a) b)
items_kept-append ok d before [] b = (refl, refl)
items_kept-append ok d before (i ∷ a) b = let r = items_kept-append ok d (kept_by ok d before i) a b in (ap (λ q. item_kept ok d before i ∷ q) r.0, r.1)

-- as many slots
pub length-items_kept : (ok : List Naming → Naming → Bool) (d : Fid) (before : List Naming) (a : List Item) → length (items_kept ok d before a) ≡ length a
length-items_kept ok d before [] = refl
length-items_kept ok d before (i ∷ a) = ap suc (length-items_kept ok d (kept_by ok d before i) a)

module _ (v : Fid → Bool) (files : Files) (d : Fid) (l : Leader) (a b : List Item) (total : ℕ) (f : Fid) (name : List ℕ) (left : ℕ) (here : get files d ≡ Some (directory l (a ++ space total ∷ b)))
    (may : may_stand v (record { dir = d; name = name; fid = f }) ≡ true) (apart : list_any (clashes (record { dir = d; name = name; fid = f })) (namings (files_kept (is_kept v) [] (entries files))) ≡ false) where
  -- the entry
  abbrev e : Naming
  e = record { dir = d; name = name; fid = f }

  -- the slots before and after, as the scan leaves them
  abbrev pub before : List Naming
  before = kept_before v files d l (a ++ space total ∷ b) here

  -- the slots before, as the scan leaves them
  abbrev pub front_items : List Item
  front_items = items_kept (is_kept v) d before a

  -- the entries kept before it
  abbrev state : List Naming
  state = kept_after (is_kept v) d before a

  -- the slots after
  abbrev pub back_items : List Item
  back_items = items_kept (is_kept v) d state b

  -- the files before the directory
  abbrev front : List (Fid × File)
  front = (around fid_total fid_same files d (directory l (a ++ space total ∷ b)) here).front

  -- and those after
  abbrev back : List (Fid × File)
  back = (around fid_total fid_same files d (directory l (a ++ space total ∷ b)) here).back

  -- the slots of the directory
  pub kept_was : items_kept (is_kept v) d before (a ++ space total ∷ b) ≡ front_items ++ space total ∷ back_items
  kept_was = (items_kept-append (is_kept v) d before a (space total ∷ b)).0

  -- all entries, part by part
  namings_split : namings (files_kept (is_kept v) [] (entries files)) ≡ namings (files_kept (is_kept v) [] front) ++ (namings_in d (front_items ++ space total ∷ back_items) ++ namings (files_kept (is_kept v) (kept_after (is_kept v) d state b) back))
  namings_split =
      ap (λ m. namings (files_kept (is_kept v) [] (entries m))) (sym (insert_same files d (directory l (a ++ space total ∷ b)) here))
      ∙ ap namings (scan_at v files d l (a ++ space total ∷ b) (a ++ space total ∷ b) here)
      ∙ namings-append (files_kept (is_kept v) [] front) (files_kept (is_kept v) before ((d, directory l (a ++ space total ∷ b)) ∷ back))
      ∙ (λ i. namings (files_kept (is_kept v) [] front) ++ (namings_in d ((items_kept-append (is_kept v) d before a (space total ∷ b)).0 i) ++ namings (files_kept (is_kept v) ((items_kept-append (is_kept v) d before a (space total ∷ b)).1 i) back)))

  -- none of the entries before clashes with it
  front_clear : list_any (clashes e) (namings (files_kept (is_kept v) [] front)) ≡ false
  front_clear = any_first (clashes e) (namings (files_kept (is_kept v) [] front)) _ (sym (ap (list_any (clashes e)) namings_split) ∙ apart)

  -- nor of those in the directory
  dir_clear : list_any (clashes e) (namings_in d (front_items ++ space total ∷ back_items)) ≡ false
  dir_clear = any_first (clashes e) (namings_in d (front_items ++ space total ∷ back_items)) _ (any_second (clashes e) (namings (files_kept (is_kept v) [] front)) _ (sym (ap (list_any (clashes e)) namings_split) ∙ apart))

  -- nor of those after
  back_clear : list_any (clashes e) (namings (files_kept (is_kept v) (kept_after (is_kept v) d state b) back)) ≡ false
  back_clear = any_second (clashes e) (namings_in d (front_items ++ space total ∷ back_items)) _ (any_second (clashes e) (namings (files_kept (is_kept v) [] front)) _ (sym (ap (list_any (clashes e)) namings_split) ∙ apart))

  -- the entries of the directory, before and after
  items_split : namings_in d (front_items ++ space total ∷ back_items) ≡ namings_in d front_items ++ namings_in d back_items
  items_split = namings_in-append d front_items (space total ∷ back_items)

  -- nor of those that are kept before it
  state_clear : list_any (clashes e) state ≡ false
  state_clear = items_clear v e (clashes e) d a before (files_clear v e (clashes e) front [] refl front_clear) (any_first (clashes e) (namings_in d front_items) (namings_in d back_items) (sym (ap (list_any (clashes e)) items_split) ∙ dir_clear))

  -- so it is kept
  e_kept : is_kept v state e ≡ true
  e_kept = λ i. may i && not (state_clear i)

  -- the slots after it, and the files after the directory, are left as before
  behind : Beside v e state (items_kept (is_kept v) d state b) (items_kept (is_kept v) d (e ∷ state) b) (kept_after (is_kept v) d state b) (kept_after (is_kept v) d (e ∷ state) b)
  behind = items_beside v e d b [] state (none_of_any e (namings_in d back_items) (any_second (clashes e) (namings_in d front_items) (namings_in d back_items) (sym (ap (list_any (clashes e)) items_split) ∙ dir_clear)))

  -- so are the files after
  files_behind : files_kept (is_kept v) (kept_after (is_kept v) d (e ∷ state) b) back ≡ files_kept (is_kept v) (kept_after (is_kept v) d state b) back
  files_behind =
      ap (λ k. files_kept (is_kept v) k back) behind.now
      ∙ files_beside v e back behind.front state (none_of_any e (namings (files_kept (is_kept v) (behind.front ++ state) back)) (ap (λ k. list_any (clashes e) (namings (files_kept (is_kept v) k back))) (sym behind.was) ∙ back_clear))
      ∙ ap (λ k. files_kept (is_kept v) k back) (sym behind.was)

  -- the slots of the directory then
  abbrev pub entered_items : List Item
  entered_items = front_items ++ entry f name ∷ left_over left back_items

  -- what the scan makes of it
  kept_now : (items_kept (is_kept v) d before (a ++ entry f name ∷ left_over left b) ≡ entered_items) × (kept_after (is_kept v) d before (a ++ entry f name ∷ left_over left b) ≡ kept_after (is_kept v) d (e ∷ state) b)
  kept_now =
      let s = items_kept-append (is_kept v) d before a (entry f name ∷ left_over left b) in
      let r = left_kept (is_kept v) d (e ∷ state) left b in (
        s.0 ∙ ap (λ q. front_items ++ q)
            (ap (λ t. cond t (entry f name) (space (item_words (entry f name))) ∷ items_kept (is_kept v) d (cond t (e ∷ state) state) (left_over left b)) e_kept
            ∙ ap (λ q. entry f name ∷ q) (r.0 ∙ ap (left_over left) behind.items)),
        s.1 ∙ ap (λ t. kept_after (is_kept v) d (cond t (e ∷ state) state) (left_over left b)) e_kept ∙ r.1,
      )

  -- all files then: the directory has the entry, and all else is as before
  pub enter_scan : tidied v (insert files d (directory l (a ++ entry f name ∷ left_over left b))) ≡ insert (tidied v files) d (directory l entered_items)
  unfolding tidied
  enter_scan =
      let front_files : List (Fid × File) = files_kept (is_kept v) [] front in
      let back_files : List (Fid × File) = files_kept (is_kept v) (kept_after (is_kept v) d state b) back in
      let now : files_kept (is_kept v) [] (entries (insert files d (directory l (a ++ entry f name ∷ left_over left b)))) ≡ front_files ++ (d, directory l entered_items) ∷ back_files =
      scan_at v files d l (a ++ space total ∷ b) (a ++ entry f name ∷ left_over left b) here
      ∙ (λ i. front_files ++ ((d, directory l (kept_now.0 i)) ∷ files_kept (is_kept v) (kept_now.1 i) back))
      ∙ ap (λ q. front_files ++ ((d, directory l entered_items) ∷ q)) files_behind in
      let s = items_kept-append (is_kept v) d before a (space total ∷ b) in
      let was : files_kept (is_kept v) [] (entries files) ≡ front_files ++ (d, directory l (front_items ++ space total ∷ back_items)) ∷ back_files =
      ap (λ m. files_kept (is_kept v) [] (entries m)) (sym (insert_same files d (directory l (a ++ space total ∷ b)) here))
      ∙ scan_at v files d l (a ++ space total ∷ b) (a ++ space total ∷ b) here
      ∙ (λ i. front_files ++ ((d, directory l (s.0 i)) ∷ files_kept (is_kept v) (s.1 i) back)) in
      let alone = kept_none (is_kept v) d [] front (none_in_front files d (directory l (a ++ space total ∷ b)) (around fid_total fid_same files d (directory l (a ++ space total ∷ b)) here)) in
      same_map fid_total fid_same _ _ (λ g.
      get-from_entries fid_total (files_kept (is_kept v) [] (entries (insert files d (directory l (a ++ entry f name ∷ left_over left b))))) g
      ∙ ap (find fid_cmp g) now
      ∙ find_replaced g d (directory l entered_items) (directory l (front_items ++ space total ∷ back_items)) front_files back_files alone
      ∙ ap (λ es. cond (is_fid g d) (Some (directory l entered_items)) (find fid_cmp g es)) (sym was)
      ∙ ap (cond (is_fid g d) (Some (directory l entered_items))) (sym (get-from_entries fid_total (files_kept (is_kept v) [] (entries files)) g))
      ∙ sym (get-insert fid_total (from_entries {R = fid_cmp} (files_kept (is_kept v) [] (entries files))) d (directory l entered_items) g))
