-- Files that were found live, and the entry that is meant is the first with its name.
use Rattle.std.proofs.Common.{Bool, List, None, Option, Some, [], ap, arith, false, inl, inr, map, not, refl, subst, sym, true, ℕ, ◌&&◌, ◌++◌, ◌+◌, ◌∙◌, ◌∷◌, ◌≡◌, ◌⊎◌}
use Rattle.std.proofs.lemmas.List.Elements.{Contains-append_cases, Contains-push_cases}
use Rattle.std.specs.FinMap.{entries, get}
use Rattle.std.specs.List.{list_any}
use Rattle.std.specs.Option.{is_some}
use Rattle.std.specs.Prelude.{Contains}
use Rattle.laws_hint.specs.alto_words.specs.Fid.{is_fid, sys_dir}
use Rattle.laws_hint.specs.alto_words.specs.Names.{fold_case, is_same_name}
use Rattle.laws_hint.specs.alto_words.specs.declared.fid.Fid.{Fid}
use Rattle.laws_hint.specs.disk_records.specs.declared.records.Place.TheVariants.{Entry, Held, Next, Root}
use Rattle.laws_hint.specs.laws_lookup.proofs.slots.Laws.{found_entry_splits_the_slots}
use Rattle.laws_hint.specs.laws_operation.proofs.entries.Laws.{items_are_slots, read_entries_are_kept}
use Rattle.laws_hint.specs.laws_operation.proofs.places.Laws.{file_lives_in_a_place}
use Rattle.laws_hint.specs.laws_record.proofs.Carried.{carried_place, place_of_carried}
use Rattle.laws_hint.specs.laws_record.proofs.DirReads.{insert_same}
use Rattle.laws_hint.specs.laws_record.proofs.DirSteps.{apart_before}
use Rattle.laws_hint.specs.laws_record.proofs.Entered.{directory, spot}
use Rattle.laws_hint.specs.laws_record.proofs.Fitting.{same_equiv, same_sym, same_trans}
use Rattle.laws_hint.specs.laws_record.proofs.Heads.{and_left}
use Rattle.laws_hint.specs.laws_record.proofs.Tidying.{onto, or_false, or_false_left, or_false_right, split_kept}
use Rattle.laws_hint.specs.pack_laws.proofs.Keys.{is_fid-itself}
use Rattle.laws_hint.specs.pack_model.specs.hints.Links.{dir_words}
use Rattle.laws_hint.specs.pack_model.specs.hints.Misled.{leader_page}
use Rattle.laws_hint.specs.pack_model.specs.reading.Bodies.Body.{data_of, items_of}
use Rattle.laws_hint.specs.pack_model.specs.reading.Bodies.{Body, File, items_in}
use Rattle.laws_hint.specs.pack_model.specs.operations.Committing.{page_of_word}
use Rattle.laws_hint.specs.pack_model.specs.reading.Files.{carries_page, lives, place}
use Rattle.laws_hint.specs.pack_model.specs.reading.Leaders.{Leader}
use Rattle.laws_hint.specs.pack_model.specs.reading.Model.{Model, dir_items, read_as}
use Rattle.laws_hint.specs.pack_model.specs.reading.Namings.{AllKept, Naming, clashes, fits, is_kept, may_stand, namings, namings_in}
use Rattle.laws_hint.specs.pack_model.specs.reading.Sights.{sights}
use Rattle.laws_hint.specs.pack_model.specs.reading.SlotWords.{SlotAt, address_at, slots_at}
use Rattle.laws_hint.specs.pack_model.specs.reading.Slots.Item.{entry, space}
use Rattle.laws_hint.specs.pack_model.specs.reading.Slots.{Item, item_words, slots}
use Rattle.laws_midway.specs.FoundLaws.{EntryNamesALivingFile, FoundEntryMayGo, FoundFileHasItsName, FoundFileIsEntered, FoundFileLives, NameIsItsOwn}

-- ---- a directory with an entry
-- a file with slots among which there is an entry is a directory
record IsThere (r : Option File) (is : List Item) : Type 0 where
  lead : Leader
  here : r ≡ Some (directory lead is)

not_empty : (a b : List Item) (i : Item) → [] ≡ a ++ i ∷ b → ⊥
not_empty [] b i e = cc
not_empty (j ∷ a) b i e = cc

is_there : (r : Option File) (a b : List Item) (i : Item) → items_in r ≡ a ++ i ∷ b → IsThere r (a ++ i ∷ b)
is_there None a b i e = absurd (not_empty a b i e)
is_there (Some x) a b i e = by x.body e
  where
    by : (y : Body) → items_in (Some (record { leader = x.leader; body = y })) ≡ a ++ i ∷ b → IsThere (Some (record { leader = x.leader; body = y })) (a ++ i ∷ b)
    by (data_of bytes) e = absurd (not_empty a b i e)
    by (items_of is) e = record { lead = x.leader; here = ap (λ js. Some (directory x.leader js)) e }

pub entry_names_a_living_file : EntryNamesALivingFile
entry_names_a_living_file p d f own a b e =
    let v : Fid → Bool = lives (sights p) in
    let m : Model = read_as p in
    let x : Naming = record { dir = d; name = own; fid = f } in
    let there = is_there (get m.files d) a b (entry f own) e in
    let s = spot m.files d there.lead (a ++ entry f own ∷ b) a b there.here in
    let all : AllKept (is_kept v) [] (s.before ++ x ∷ s.later) =
    subst (AllKept (is_kept v) []) (ap (λ y. namings (entries y)) (sym (insert_same m.files d (directory there.lead (a ++ entry f own ∷ b)) there.here)) ∙ s.with f own) (read_entries_are_kept p) in
    let kept : is_kept v (onto s.before []) x ≡ true = (split_kept (is_kept v) [] s.before (x ∷ s.later) all).1.0 in
    and_left (v f) (fits x) (and_left (may_stand v x) (not (list_any (clashes x) (onto s.before []))) kept)

-- ---- a slot among those that stand in words
-- the slots before it and those after it
record Parts (is : List Item) (i : Item) : Type 0 where
  before : List Item
  later : List Item
  items : is ≡ before ++ i ∷ later

none_in : (s : SlotAt) → Contains [] s → ⊥
none_in s h = let l = h.1 in omega arith

in_cases : (s : SlotAt) (ss : List SlotAt) (t : SlotAt) → Contains (s ∷ ss) t → (s ≡ t) ⊎ Contains ss t
in_cases s ss t h = elim (Contains-append_cases (s ∷ []) ss t h) [
  | inl one ↦ elim (Contains-push_cases [] s t one) [ inl none ↦ absurd (none_in t none) | inr e ↦ inl e ]
  | inr more ↦ inr more
]

parts : (words : List ℕ) (begin : ℕ) (is : List Item) (s : SlotAt) → Contains (slots_at words begin is) s → Parts is s.item
unfolding slots_at
parts words begin [] s h = absurd (none_in s h)
parts words begin (i ∷ is) s h = elim (in_cases (record { place = begin; item = i; address = address_at words begin i }) (slots_at words (begin + item_words i) is) s h) [
  | inl e ↦ record { before = []; later = is; items = ap (λ (t : SlotAt). t.item ∷ is) e }
  | inr more ↦
      let r = parts words (begin + item_words i) is s more in
      record { before = i ∷ r.before; later = r.later; items = ap (λ x. i ∷ x) r.items }
]

-- ---- it lives
pub found_file_lives : FoundFileLives
found_file_lives p f at Root w t h =
    ap (lives (sights p)) h.1 ∙ file_lives_in_a_place p sys_dir
    ∙ ap is_some (place_of_carried (sights p) sys_dir (w.files sys_dir) 0 1 (ap (carries_page sys_dir 0) w.root.1 ∙ is_fid-itself sys_dir))
found_file_lives p f at (Entry d k) w t h =
    let s = parts (dir_words p d) 0 (slots (dir_words p d)) h.slot h.stands in
    entry_names_a_living_file p d f h.name s.before s.later (items_are_slots p d t h.lives h.directory ∙ s.items ∙ ap (λ i. s.before ++ i ∷ s.later) h.item)
found_file_lives p f at (Next i) w t h = absurd h
found_file_lives p f at (Held i) w t h = file_lives_in_a_place p f ∙ ap is_some (carried_place p w at (leader_page f) h.1)

-- ---- its entry
-- entries of one directory that don't clash with one have other names
other_names : (d f : Fid) (own name : List ℕ) (is : List Item) → is_same_name own name ≡ true → list_any (clashes (record { dir = d; name = own; fid = f })) (namings_in d is) ≡ false → list_any (λ (e : Naming). is_same_name e.name name) (namings_in d is) ≡ false
other_names d f own name [] same h = refl
other_names d f own name (space n ∷ is) same h = other_names d f own name is same h
other_names d f own name (entry g mine ∷ is) same h =
    let e : Naming = record { dir = d; name = own; fid = f } in
    let x : Naming = record { dir = d; name = mine; fid = g } in
    let here : (is_fid d d && is_same_name own mine) ≡ false = or_false_right (is_fid f g) (is_fid d d && is_same_name own mine) (or_false_left (clashes e x) (list_any (clashes e) (namings_in d is)) h) in
    let apart : is_same_name own mine ≡ false = sym (ap (λ b. b && is_same_name own mine) (is_fid-itself d)) ∙ here in
    or_false (is_same_name mine name) (list_any (λ (y : Naming). is_same_name y.name name) (namings_in d is))
    (same_sym mine name ∙ sym (same_trans own name mine same) ∙ apart)
    (other_names d f own name is same (or_false_right (clashes e x) (list_any (clashes e) (namings_in d is)) h))

pub found_file_is_entered : FoundFileIsEntered
found_file_is_entered p d w e name t live dir h same =
    let m : Model = read_as p in
    let s = found_entry_splits_the_slots (dir_words p d) w e h in
    let items : dir_items m d ≡ s.before ++ entry e.fid e.name ∷ s.later = items_are_slots p d t live dir ∙ s.slots_are in
    let there = is_there (get m.files d) s.before s.later (entry e.fid e.name) items in
    record {
      before = s.before;
      own = e.name;
      behind = s.later;
      items_are = items;
      same = same;
      first = other_names d e.fid e.name name s.before same (apart_before (lives (sights p)) m.files d there.lead s.before s.later e.fid e.name (read_entries_are_kept p) there.here);
    }

pub found_file_has_its_name : FoundFileHasItsName
found_file_has_its_name p d w e name t live dir h same =
    let s = found_entry_splits_the_slots (dir_words p d) w e h in
    record { before = s.before; behind = s.later; own = e.name; items = items_are_slots p d t live dir ∙ s.slots_are; same = same }

pub found_entry_may_go : FoundEntryMayGo
found_entry_may_go p d w e at live dir h sector =
    let s = found_entry_splits_the_slots (dir_words p d) w e h in
    record {
      before = s.before;
      later = s.later;
      place_is = s.place;
      entry_is = record { directory = dir; living = live; slots_are = s.slots_are; sector = ap (λ k. place (sights p) d (page_of_word k)) s.place ∙ sector };
    }

pub name_is_its_own : NameIsItsOwn
name_is_its_own name = same_equiv.refl (map fold_case name)
