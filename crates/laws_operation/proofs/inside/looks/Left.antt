-- A file whose entry has left has no other, on any pack.
use Rattle.std.proofs.Common.{Bool, List, None, Option, Some, [], ap, cond, false, not, refl, subst, sym, true, ℕ, ◌++◌, ◌∙◌, ◌∷◌, ◌≡◌}
use Rattle.std.specs.FinMap.{entries, get, get-insert, insert}
use Rattle.std.specs.List.{list_any}
use Rattle.laws_contents.specs.alto_words.specs.Fid.{is_fid}
use Rattle.laws_contents.specs.alto_words.specs.declared.fid.Fid.{Fid}
use Rattle.laws_contents.specs.disk_records.specs.Packs.{Pack}
use Rattle.laws_contents.specs.pack_model.specs.reading.Bodies.{Body, File, items_in}
use Rattle.laws_contents.specs.pack_model.specs.reading.Bodies.Body.{data_of, items_of}
use Rattle.laws_contents.specs.pack_model.specs.reading.Files.{lives}
use Rattle.laws_contents.specs.pack_model.specs.reading.Leaders.{Leader}
use Rattle.laws_contents.specs.pack_model.specs.reading.Model.{Model, dir_items, is_named, read_as}
use Rattle.laws_contents.specs.pack_model.specs.reading.Namings.{AllKept, Naming, clashes, is_kept, may_stand, namings}
use Rattle.laws_contents.specs.pack_model.specs.reading.Sights.{sights}
use Rattle.laws_contents.specs.pack_model.specs.reading.Slots.{Item, item_words}
use Rattle.laws_contents.specs.pack_model.specs.reading.Slots.Item.{entry, space}
use Rattle.laws_contents.specs.pack_model.specs.operations.Step.{items_left, step}
use Rattle.laws_contents.specs.pack_model.specs.operations.Step.Operation.{leave}
use Rattle.laws_contents.specs.pack_laws.proofs.Keys.{fid_total, is_fid-sym, same_fid}
use Rattle.laws_contents.specs.laws_record.proofs.DirReads.{insert_same}
use Rattle.laws_contents.specs.laws_record.proofs.DirSteps.{apart_before, onto_none}
use Rattle.laws_contents.specs.laws_record.proofs.Entered.{Spot, directory, spot}
use Rattle.laws_contents.specs.laws_record.proofs.Entering.{on_slots}
use Rattle.laws_contents.specs.laws_record.proofs.Heads.{and_right}
use Rattle.laws_contents.specs.laws_record.proofs.Tidying.{onto, or_false, or_false_left, or_false_right, split_kept}
use Rattle.laws_operation.proofs.Leaving.{left_here}
use Rattle.laws_operation.proofs.inside.looks.Apart.{any_both, free_name_is_apart_for_a_nameless_file}
use Rattle.laws_operation.proofs.inside.looks.ReadFiles.{read_tidy}
use Rattle.laws_operation.specs.EntryLaws.{FreeNameIsApartAfterLeave, HasName, LeaveTakesTheOnlyEntry, is_of_another}
use Rattle.std.proofs.lemmas.Bool.{not-true}

-- ---- entries of other files
-- an entry that clashes with none has another file
clash_fid : (e : Naming) (ns : List Naming) → list_any (clashes e) ns ≡ false → list_any (λ n. is_fid n.fid e.fid) ns ≡ false
clash_fid e [] h = refl
clash_fid e (n ∷ ns) h = or_false (is_fid n.fid e.fid) (list_any (λ n. is_fid n.fid e.fid) ns)
    (is_fid-sym n.fid e.fid ∙ or_false_left (is_fid e.fid n.fid) _ (or_false_left (clashes e n) (list_any (clashes e) ns) h))
    (clash_fid e ns (or_false_right (clashes e n) (list_any (clashes e) ns) h))

module _ (v : Fid → Bool) (e : Naming) where
  -- those kept after it have another file
  after_other : (s r es : List Naming) → AllKept (is_kept v) (s ++ e ∷ r) es → list_any (λ n. is_fid n.fid e.fid) es ≡ false
  after_other s r [] h = refl
  after_other s r (x ∷ es) h =
      or_false (is_fid x.fid e.fid) (list_any (λ n. is_fid n.fid e.fid) es)
      (or_false_left (is_fid x.fid e.fid) _ (at_last s (not-true (list_any (clashes x) (s ++ e ∷ r)) (and_right (may_stand v x) (not (list_any (clashes x) (s ++ e ∷ r))) h.0))))
      (after_other (x ∷ s) r es h.1)
    where
      at_last : (s : List Naming) → list_any (clashes x) (s ++ e ∷ r) ≡ false → clashes x e ≡ false
      at_last [] h = or_false_left (clashes x e) (list_any (clashes x) r) h
      at_last (n ∷ s) h = at_last s (or_false_right (clashes x n) (list_any (clashes x) (s ++ e ∷ r)) h)

-- ---- a leaving
-- a file with slots among which there is an entry is a directory
record IsThere (r : Option File) (is : List Item) : Type 0 where
  lead : Leader
  here : r ≡ Some (directory lead is)

is_there : (r : Option File) (a b : List Item) (f : Fid) (own : List ℕ) → items_in r ≡ a ++ entry f own ∷ b → IsThere r (a ++ entry f own ∷ b)
is_there None a b f own e = absurd (some a e)
  where
    some : (a : List Item) → [] ≡ a ++ entry f own ∷ b → ⊥
    some [] e = cc
    some (i ∷ a) e = cc
is_there (Some x) a b f own e = by x.body e
  where
    some : (a : List Item) → [] ≡ a ++ entry f own ∷ b → ⊥
    some [] e = cc
    some (i ∷ a) e = cc

    by : (y : Body) → items_in (Some (record { leader = x.leader; body = y })) ≡ a ++ entry f own ∷ b → IsThere (Some (record { leader = x.leader; body = y })) (a ++ entry f own ∷ b)
    by (data_of bytes) e = absurd (some a e)
    by (items_of is) e = record { lead = x.leader; here = ap (λ js. Some (directory x.leader js)) e }

-- one slot more passes no test where all pass none
any_freed : (t : Item → Bool) (a b : List Item) (i j : Item) → t j ≡ false → list_any t (a ++ i ∷ b) ≡ false → list_any t (a ++ j ∷ b) ≡ false
any_freed t [] b i j none h = or_false (t j) (list_any t b) none (or_false_right (t i) (list_any t b) h)
any_freed t (x ∷ a) b i j none h = or_false (t x) (list_any t (a ++ j ∷ b)) (or_false_left (t x) (list_any t (a ++ i ∷ b)) h) (any_freed t a b i j none (or_false_right (t x) (list_any t (a ++ i ∷ b)) h))

module _ (p : Pack) (d f : Fid) (old : List ℕ) (h : HasName (read_as p) d old f) where
  -- the model and its files
  abbrev m : Model
  m = read_as p

  -- the directory's slots then
  abbrev js : List Item
  js = h.before ++ space (item_words (entry f h.own)) ∷ h.behind

  -- the directory
  there : IsThere (get m.files d) (h.before ++ entry f h.own ∷ h.behind)
  there = is_there (get m.files d) h.before h.behind f h.own h.items

  -- the entry among all
  place_of : Spot m.files d there.lead h.before h.behind
  place_of = spot m.files d there.lead (h.before ++ entry f h.own ∷ h.behind) h.before h.behind there.here

  -- the model then
  left_model : record m { files = insert m.files d (directory there.lead js) } ≡ step m (leave d old)
  left_model = on_slots m d there.lead (h.before ++ entry f h.own ∷ h.behind) js (items_left old) there.here
      (left_here d f h.own old h.same h.before h.behind (apart_before (lives (sights p)) m.files d there.lead h.before h.behind f h.own (read_tidy p) there.here))

  -- all entries, one after another, are kept
  all_kept : AllKept (is_kept (lives (sights p))) [] (place_of.before ++ record { dir = d; name = h.own; fid = f } ∷ place_of.later)
  all_kept = subst (AllKept (is_kept (lives (sights p))) []) (ap (λ x. namings (entries x)) (sym (insert_same m.files d (directory there.lead (h.before ++ entry f h.own ∷ h.behind)) there.here)) ∙ place_of.with f h.own) (read_tidy p)

  -- no other entry has the file
  others_apart : list_any (λ n. is_fid n.fid f) (place_of.before ++ place_of.later) ≡ false
  others_apart =
      let e : Naming = record { dir = d; name = h.own; fid = f } in
      let s = split_kept (is_kept (lives (sights p))) [] place_of.before (e ∷ place_of.later) all_kept in
      let clear : list_any (clashes e) (onto place_of.before []) ≡ false = not-true (list_any (clashes e) (onto place_of.before [])) (and_right (may_stand (lives (sights p)) e) (not (list_any (clashes e) (onto place_of.before []))) s.1.0) in
      any_both (λ n. is_fid n.fid f) place_of.before place_of.later
      (clash_fid e place_of.before (onto_none (clashes e) place_of.before [] clear).0)
      (after_other (lives (sights p)) e [] (onto place_of.before []) place_of.later s.1.1)

  -- so it has no entry then
  nameless_then : is_named (step m (leave d old)) f ≡ false
  nameless_then = ap (λ x. is_named x f) (sym left_model) ∙ ap (list_any (λ n. is_fid n.fid f)) (place_of.without (item_words (entry f h.own))) ∙ others_apart

  -- and no name more is taken
  still_open : (e : Fid) (name : List ℕ) → list_any (is_of_another f name) (dir_items m e) ≡ false → list_any (is_of_another f name) (dir_items (step m (leave d old)) e) ≡ false
  still_open e name clear =
      ap (λ x. list_any (is_of_another f name) (dir_items x e)) (sym left_model)
      ∙ ap (λ r. list_any (is_of_another f name) (items_in r)) (get-insert fid_total m.files d (directory there.lead js) e)
      ∙ by (is_fid e d) refl
    where
      by : (b : Bool) → is_fid e d ≡ b → list_any (is_of_another f name) (items_in (cond b (Some (directory there.lead js)) (get m.files e))) ≡ false
      by true is = any_freed (is_of_another f name) h.before h.behind (entry f h.own) (space (item_words (entry f h.own))) refl
          (ap (list_any (is_of_another f name)) (sym h.items) ∙ ap (λ g. list_any (is_of_another f name) (dir_items m g)) (sym (same_fid e d is)) ∙ clear)
      by false is = clear

pub leave_takes_the_only_entry : LeaveTakesTheOnlyEntry
leave_takes_the_only_entry p d f old h = nameless_then p d f old h

pub free_name_is_apart_after_leave : FreeNameIsApartAfterLeave
free_name_is_apart_after_leave p d e f name old h clear = free_name_is_apart_for_a_nameless_file (step (read_as p) (leave d old)) e f name (nameless_then p d f old h) (still_open p d f old h e name clear)
