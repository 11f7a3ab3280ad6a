-- Models by their lists of files: what they lack, and that they are settled.
use Rattle.std.proofs.Common.{◌++◌, ◌+◌, ◌∙◌, ◌∷◌, ◌≡◌, ◌≤◌, ◌||◌, Bool, List, None, Option, Some, [], ap, arith, cond, false, length, refl, subst, sym, true, ℕ}
use Rattle.std.proofs.lemmas.List.Elements.{All-cons, All-nil}
use Rattle.std.specs.FinMap.{contains_key, entries, find, get, get-entries}
use Rattle.std.specs.List.{list_any}
use Rattle.std.specs.Option.{is_some}
use Rattle.std.specs.Prelude.{◌&&◌, All, codes, replicate}
use Rattle.laws_room.specs.alto_words.specs.Fid.{disk_descriptor, fid_cmp, is_fid, ordinary_fid, sys_dir}
use Rattle.laws_room.specs.alto_words.specs.Names.{is_same_name}
use Rattle.laws_room.specs.alto_words.specs.declared.fid.Fid.{Fid}
use Rattle.laws_line.proofs.inside.Runs.{IsShort}
use Rattle.laws_line.specs.Ready.{Settled}
use Rattle.laws_room.specs.pack_laws.proofs.ByLists.{names_by, names_list, seen_by, seen_list}
use Rattle.laws_room.specs.pack_laws.proofs.Keys.{same_fid}
use Rattle.pack_model.specs.reading.Bodies.{File, items_in}
use Rattle.pack_model.specs.reading.Bodies.Body.{data_of, items_of}
use Rattle.pack_model.specs.scavenger.Mended.{lacking, needs, widens}
use Rattle.pack_model.specs.reading.Model.{IsNamed, Model, descriptor_pages, files_pages, root_items}
use Rattle.pack_model.specs.reading.Namings.{descriptor_name, namings, sys_dir_name}
use Rattle.pack_model.specs.showing.Settling.{chosen, chosen_from, given_names, is_taken, most_suffixes, unless}
use Rattle.pack_model.specs.reading.Slots.{Item}
use Rattle.pack_model.specs.reading.Slots.Item.{entry, space}
use Rattle.pack_model.specs.operations.Step.{new_leader}
use Rattle.pack_model.specs.showing.View.{view}
use Rattle.laws_room.proofs.Each.{Each}

-- a file, and a name of 39 characters, whose entry has 26 words
abbrev pub file_3 : Fid
file_3 = ordinary_fid 3

abbrev pub long_name : List ℕ
long_name = replicate 38 97 ++ codes "."

-- SysDir's slots, with so many free words
abbrev pub slots_with : List Item → List Item
slots_with is = entry sys_dir sys_dir_name ∷ entry disk_descriptor descriptor_name ∷ is

pub short_with : (i : Item) → IsShort i → All IsShort (slots_with (i ∷ []))
short_with i short =
    All-cons IsShort (entry sys_dir sys_dir_name) (entry disk_descriptor descriptor_name ∷ i ∷ []) (omega arith)
    (All-cons IsShort (entry disk_descriptor descriptor_name) (i ∷ []) (omega arith) (All-cons IsShort i [] short (All-nil IsShort)))

abbrev pub root_with : List Item → File
root_with is = record { leader = new_leader sys_dir_name 0; body = items_of (slots_with is) }

-- the first choice, where it is free
first_choice : (taken : List ℕ → Bool) (name : List ℕ) → taken name ≡ false → chosen_from 65535 taken name 0 ≡ name
first_choice taken name e = ap (λ b. elim b as (λ b. List ℕ) [ false ↦ name | true ↦ chosen_from 65534 taken name 1 ]) e

-- ---- a file with that name in its leader, and no entry
module _ (m : Model) (k : ℕ) (files_are : entries m.files ≡ (file_3, record { leader = new_leader long_name 0; body = data_of [] }) ∷ (sys_dir, root_with (space k ∷ [])) ∷ []) where
  no_names : entries (view m).names ≡ []
  no_names = names_list m ∙ ap names_by files_are

  none : contains_key (view m).names file_3 ≡ false
  none = ap is_some (get-entries (view m).names file_3) ∙ ap (λ es. is_some (find fid_cmp file_3 es)) no_names

  free : is_taken (view m).names long_name ≡ false
  free = ap (λ es. is_same_name long_name sys_dir_name || is_same_name long_name descriptor_name || list_any (λ e. is_fid e.1.dir sys_dir && is_same_name long_name e.1.name) es) no_names

  its_name : chosen (view m).names long_name ≡ long_name
  unfolding chosen most_suffixes
  its_name = first_choice (is_taken (view m).names) long_name free

  -- it lacks its entry
  its_entry : lacking m ≡ (file_3, long_name) ∷ []
  unfolding lacking
  its_entry =
      ap (λ es. unless (list_any (λ n. is_fid n.fid sys_dir) (namings es)) (sys_dir, sys_dir_name) (unless (list_any (λ n. is_fid n.fid disk_descriptor) (namings es)) (disk_descriptor, descriptor_name) (given_names (view m).names (entries (view m).files)))) files_are
      ∙ ap (given_names (view m).names) (seen_list m ∙ ap seen_by files_are)
      ∙ ap (λ b. unless b (file_3, chosen (view m).names long_name) []) none
      ∙ ap (λ name. (file_3, name) ∷ []) its_name

  -- SysDir's slots
  its_slots : root_items m ≡ slots_with (space k ∷ [])
  its_slots = ap items_in (get-entries m.files sys_dir) ∙ ap (λ es. items_in (find fid_cmp sys_dir es)) files_are

  -- so SysDir needs a page, if it has no run for the entry
  pub its_needs : widens (slots_with (space k ∷ [])) ((file_3, long_name) ∷ []) ≡ 1 → needs m ≡ files_pages (entries m.files) + 1
  unfolding needs
  its_needs e = ap (λ n. files_pages (entries m.files) + n) ((λ i. widens (its_slots i) (its_entry i)) ∙ e)

-- ---- models by their lists of files
-- what holds of each entry holds of each file that is found
found_each : (P : Fid → File → Type 0) (es : List (Fid × File)) → Each P es → (g : Fid) (x : File) → find fid_cmp g es ≡ Some x → P g x
found_each P [] h g x is = absurd cc
found_each P (e ∷ es) h g x is = by (is_fid g e.0) refl is (found_each P es h.1 g x)
  where
    by : (b : Bool) → is_fid g e.0 ≡ b → cond b (Some e.1) (find fid_cmp g es) ≡ Some x → (find fid_cmp g es ≡ Some x → P g x) → P g x
    by true q is again = let same : e.1 ≡ x = cc in subst (P g) same (subst (λ k. P k e.1) (sym (same_fid g e.0 q)) h.0)
    by false q is again = again is

module _ (m : Model) (es : List (Fid × File)) (is : List Item) (files_are : entries m.files ≡ es) (root_is : find fid_cmp sys_dir es ≡ Some (root_with is)) where
  pub look : (g : Fid) → get m.files g ≡ find fid_cmp g es
  look g = get-entries m.files g ∙ ap (find fid_cmp g) files_are

  named_by : (g : Fid) → list_any (λ n. is_fid n.fid g) (namings es) ≡ true → IsNamed m g
  named_by g e = ap (λ es. list_any (λ n. is_fid n.fid g) (namings es)) files_are ∙ e

  -- SysDir is there, each file has an entry and a short name, and the pages are there
  pub settled_by : files_pages es + descriptor_pages m.shape ≤ m.good → Each (λ g x. length x.leader.name ≤ 39) es → All IsShort (slots_with is)
      → list_any (λ n. is_fid n.fid sys_dir) (namings es) ≡ true → list_any (λ n. is_fid n.fid disk_descriptor) (namings es) ≡ true → Each (λ g x. list_any (λ n. is_fid n.fid g) (namings es) ≡ true) es → Settled m
  settled_by pages names short main descriptor all =
      let p = ap files_pages files_are in
      record {
        fitting = record {
          pages = omega arith;
          names = λ g x e. found_each (λ g x. length x.leader.name ≤ 39) es names g x (sym (look g) ∙ e);
          slots = subst (λ r. All IsShort (items_in r)) (sym (look sys_dir ∙ root_is)) short;
        };
        root = (new_leader sys_dir_name 0, slots_with is, look sys_dir ∙ root_is);
        main = named_by sys_dir main;
        descriptor = named_by disk_descriptor descriptor;
        all = λ g there. at g (get m.files g) refl there;
      }
    where
      at : (g : Fid) (r : Option File) → get m.files g ≡ r → is_some r ≡ true → IsNamed m g
      at g None e t = cc
      at g (Some x) e t = named_by g (found_each (λ g x. list_any (λ n. is_fid n.fid g) (namings es) ≡ true) es all g x (sym (look g) ∙ e))
