-- A model in which free slots of a directory are made one is ready where the model was.
use Rattle.std.proofs.Common.{Bool, List, Some, [], ap, arith, cond, false, inl, inr, length, max, refl, subst, sym, true, ℕ, ◌*◌, ◌++◌, ◌+◌, ◌∙◌, ◌∷◌, ◌≡◌, ◌≤◌, ◌⊎◌}
use Rattle.std.proofs.lemmas.List.Elements.{All-cons, All-head, All-tail}
use Rattle.std.specs.FinMap.{contains_key, entries, get, get-insert, insert}
use Rattle.std.specs.List.{list_any}
use Rattle.std.specs.Option.{is_some}
use Rattle.std.specs.Prelude.{All}
use Rattle.laws_room.specs.alto_words.specs.Fid.{disk_descriptor, is_fid, sys_dir}
use Rattle.laws_room.specs.alto_words.specs.declared.fid.Fid.{Fid}
use Rattle.pack_model.specs.reading.Bodies.{File, Files, body_length, items_in, pages_for}
use Rattle.pack_model.specs.reading.Leaders.{Leader}
use Rattle.pack_model.specs.reading.Model.{IsNamed, Model, files_pages, root_items}
use Rattle.pack_model.specs.reading.Namings.{namings_in}
use Rattle.pack_model.specs.operations.Rooms.{largest_run, most_free, words_free}
use Rattle.pack_model.specs.reading.Slots.{Item, all_words, item_words}
use Rattle.pack_model.specs.reading.Slots.Item.{entry, space}
use Rattle.laws_room.specs.pack_laws.proofs.Keys.{fid_total, same_fid}
use Rattle.laws_room.specs.laws_record.proofs.Entered.{directory, namings_in-append}
use Rattle.laws_room.specs.laws_record.proofs.FilePages.{changed_pages}
use Rattle.laws_line.specs.Ready.{Ready}
use Rattle.laws_room.specs.laws_operation.proofs.Leaving.{words_alike}
use Rattle.laws_room.specs.laws_operation.proofs.OneDirectory.{slots_namings}

-- ---- lengths
-- a file of the same length
pages_same : (files : Files) (d : Fid) (x y : File) → get files d ≡ Some x → body_length y.body ≡ body_length x.body → files_pages (entries (insert files d y)) ≡ files_pages (entries files)
pages_same files d x y is long = let h = changed_pages files d x y is in let l = ap pages_for long in omega (arith, h, l)

-- ---- slots
module _ (d : Fid) where
  -- free slots in front of others
  free_front : (old b : List Item) → namings_in d old ≡ [] → words_free (old ++ b) ≡ all_words old + words_free b
  free_front [] b bare = omega arith
  free_front (entry f name ∷ old) b bare = absurd cc
  free_front (space k ∷ old) b bare = let h = free_front old b bare in omega (arith, h)

  -- no run is longer than all of them and those after
  run_front : (old b : List Item) → namings_in d old ≡ [] → largest_run (old ++ b) ≤ max (all_words old + words_free b) (largest_run b)
  run_front [] b bare = omega arith
  run_front (entry f name ∷ old) b bare = absurd cc
  run_front (space k ∷ old) b bare = let h = run_front old b bare in let e = free_front old b bare in omega (arith, h, e)

  module _ (old b : List Item) (bare : namings_in d old ≡ []) where
    -- free words in a row, once the slots are one
    free_joined : (a : List Item) → words_free (a ++ (old ++ b)) ≡ words_free (a ++ space (all_words old) ∷ b)
    free_joined [] = free_front old b bare
    free_joined (entry f name ∷ a) = refl
    free_joined (space k ∷ a) = ap (λ n. k + n) (free_joined a)

    -- and the longest row
    run_joined : (a : List Item) → largest_run (a ++ (old ++ b)) ≤ largest_run (a ++ space (all_words old) ∷ b)
    run_joined [] = run_front old b bare
    run_joined (i ∷ a) = let h = run_joined a in let e = free_joined (i ∷ a) in omega (arith, h, e)

-- slots after others
all_after : (P : Item → Type 0) (old b : List Item) → All P (old ++ b) → All P b
all_after P [] b h = h
all_after P (i ∷ old) b h = all_after P old b (All-tail P i (old ++ b) h)

all_joined : (P : Item → Type 0) (a old b : List Item) (n : ℕ) → P (space n) → All P (a ++ (old ++ b)) → All P (a ++ space n ∷ b)
all_joined P [] old b n s h = All-cons P (space n) b s (all_after P old b h)
all_joined P (i ∷ a) old b n s h = All-cons P i (a ++ space n ∷ b) (All-head P i (a ++ (old ++ b)) h) (all_joined P a old b n s (All-tail P i (a ++ (old ++ b)) h))

-- ---- the model
module _ (m : Model) (d : Fid) (l : Leader) (a old b : List Item) (was : get m.files d ≡ Some (directory l (a ++ (old ++ b)))) (bare : namings_in d old ≡ []) (most : all_words old ≤ most_free) where
  abbrev one : List Item
  one = a ++ space (all_words old) ∷ b

  abbrev many : List Item
  many = a ++ (old ++ b)

  abbrev with_one : Model
  with_one = record m { files = insert m.files d (directory l one) }

  -- the same entries
  same_names : (g : Fid) → IsNamed m g → IsNamed with_one g
  same_names g h =
      ap (list_any (λ n. is_fid n.fid g)) (slots_namings m.files d l many one was
      (namings_in-append d a (space (all_words old) ∷ b) ∙ ap (λ x. namings_in d a ++ x) (sym (namings_in-append d old b ∙ ap (λ x. x ++ namings_in d b) bare)) ∙ sym (namings_in-append d a (old ++ b)))) ∙ h

  -- what is found
  found_now : (g : Fid) → get with_one.files g ≡ cond (is_fid g d) (Some (directory l one)) (get m.files g)
  found_now g = get-insert fid_total m.files d (directory l one) g

  was_found : (g : Fid) → is_fid g d ≡ true → get m.files g ≡ Some (directory l many)
  was_found g e = ap (get m.files) (same_fid g d e) ∙ was

  keys_now : (g : Fid) → contains_key with_one.files g ≡ true → contains_key m.files g ≡ true
  keys_now g h = by (is_fid g d) refl
    where
      by : (t : Bool) → is_fid g d ≡ t → is_some (get m.files g) ≡ true
      by true e = ap is_some (was_found g e)
      by false e = sym (ap is_some (found_now g ∙ ap (λ t. cond t (Some (directory l one)) (get m.files g)) e)) ∙ h

  leaders_now : ((g : Fid) (x : File) → get m.files g ≡ Some x → length x.leader.name ≤ 39) → (g : Fid) (x : File) → get with_one.files g ≡ Some x → length x.leader.name ≤ 39
  leaders_now h g x is = by (is_fid g d) refl (sym (found_now g) ∙ is)
    where
      by : (t : Bool) → is_fid g d ≡ t → cond t (Some (directory l one)) (get m.files g) ≡ Some x → length x.leader.name ≤ 39
      by true e is = let same : directory l one ≡ x = cc in subst (λ (y : File). length y.leader.name ≤ 39) same (h g (directory l many) (was_found g e))
      by false e is = h g x is

  -- SysDir's slots are as they were, or it is this directory
  root_now : (root_items with_one ≡ root_items m) ⊎ ((root_items m ≡ many) × (root_items with_one ≡ one))
  root_now = by (is_fid sys_dir d) refl
    where
      by : (t : Bool) → is_fid sys_dir d ≡ t → (root_items with_one ≡ root_items m) ⊎ ((root_items m ≡ many) × (root_items with_one ≡ one))
      by true e = inr (ap items_in (was_found sys_dir e), ap items_in (found_now sys_dir ∙ ap (λ t. cond t (Some (directory l one)) (get m.files sys_dir)) e))
      by false e = inl (ap items_in (found_now sys_dir ∙ ap (λ t. cond t (Some (directory l one)) (get m.files sys_dir)) e))

  slots_now : All (λ i. item_words i ≤ most_free) (root_items m) → All (λ i. item_words i ≤ most_free) (root_items with_one)
  slots_now h = elim root_now [
    | inl e ↦ subst (All (λ i. item_words i ≤ most_free)) (sym e) h
    | inr e ↦ subst (All (λ i. item_words i ≤ most_free)) (sym e.1) (all_joined (λ i. item_words i ≤ most_free) a old b (all_words old) most (subst (All (λ i. item_words i ≤ most_free)) e.0 h))
  ]

  run_now : largest_run (root_items m) ≤ largest_run (root_items with_one)
  run_now = elim root_now [
    | inl e ↦ (let z = ap largest_run e in omega (arith, z))
    | inr e ↦ (let y = ap largest_run e.0 in let z = ap largest_run e.1 in let r = run_joined d old b bare a in omega (arith, y, z, r))
  ]

  -- it is ready
  pub ready_joined : Ready m → Ready with_one
  ready_joined h =
      let z : all_words (space (all_words old) ∷ []) ≡ all_words old = omega arith in
      let size = pages_same m.files d (directory l many) (directory l one) was (ap (λ n. n * 2) (words_alike a old (space (all_words old) ∷ []) b z)) in
      let run = run_now in
      record {
        fitting = record { pages = let p = h.fitting.pages in omega (arith, size, p); names = leaders_now h.fitting.names; slots = slots_now h.fitting.slots };
        nameless = h.nameless;
        named = record { main = same_names sys_dir h.named.main; descriptor = same_names disk_descriptor h.named.descriptor; others = λ g k apart. same_names g (h.named.others g (keys_now g k) apart) };
        room = elim h.room [ inl named ↦ inl (same_names h.nameless named) | inr long ↦ inr (omega (arith, long, run)) ];
      }
