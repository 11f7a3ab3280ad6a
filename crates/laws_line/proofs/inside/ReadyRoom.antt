-- Ready models have room.
use Rattle.std.proofs.Common.{◌∙◌, ◌∷◌, ◌≡◌, ◌≤◌, ◌⊎◌, ◌||◌, Bool, List, None, Option, Some, [], ap, arith, cond, false, inl, inr, length, not, refl, suc, sym, true, ℕ}
use Rattle.std.specs.FinMap.{contains_key, entries, find, get, get-from_entries}
use Rattle.std.specs.List.{list_any}
use Rattle.std.specs.Option.{is_some, option_map}
use Rattle.laws_room.specs.alto_words.specs.Fid.{disk_descriptor, fid_cmp, is_fid, is_system, sys_dir}
use Rattle.laws_room.specs.alto_words.specs.declared.fid.Fid.{Fid}
use Rattle.laws_line.proofs.inside.GivenNames.{HasName, HasNameBut, OneGiven, none_given, one_given}
use Rattle.laws_line.proofs.inside.Runs.{placed_somewhere}
use Rattle.laws_line.specs.LineLaws.{ReadyHasRoom}
use Rattle.laws_line.specs.Ready.{Ready}
use Rattle.laws_room.specs.pack_laws.proofs.Keys.{fid_same, fid_total, is_fid-sym, same_fid}
use Rattle.laws_room.specs.pack_laws.proofs.Mapping.{get-map_values}
use Rattle.pack_model.specs.reading.Bodies.{File}
use Rattle.pack_model.specs.sessions.Maps.{map_values}
use Rattle.pack_model.specs.scavenger.Mended.{lacking, needs, on_room, widens, with_page}
use Rattle.pack_model.specs.reading.Model.{IsNamed, Model, is_named, root_items}
use Rattle.pack_model.specs.reading.Namings.{Naming, descriptor_name, namings, sys_dir_name}
use Rattle.pack_model.specs.operations.Rooms.{largest_run, placed}
use Rattle.pack_model.specs.showing.Settling.{given_names, unless}
use Rattle.pack_model.specs.reading.Slots.{Item}
use Rattle.pack_model.specs.reading.Slots.Item.{entry}
use Rattle.pack_model.specs.operations.Step.{longest_entry}
use Rattle.pack_model.specs.showing.View.{Home, Seen, homes, names_of, seen_of, view}
use Rattle.laws_room.specs.laws_record.proofs.Keeping.{get-where}
use Rattle.laws_room.proofs.Each.{each_entry}
use Rattle.laws_room.proofs.SoundPacks.{no_widening}

-- ---- names that are shown
-- a file has a home where an entry names it
find_home : (g : Fid) (ns : List Naming) → is_some (find fid_cmp g (homes ns)) ≡ list_any (λ n. is_fid n.fid g) ns
find_home g [] = refl
find_home g (n ∷ ns) = some_or (is_fid g n.fid) (record { dir = n.dir; name = n.name }) (find fid_cmp g (homes ns)) ∙ ap (λ b. b || is_some (find fid_cmp g (homes ns))) (is_fid-sym g n.fid) ∙ ap (λ b. is_fid n.fid g || b) (find_home g ns)
  where
    some_or : (b : Bool) (h : Home) (r : Option Home) → is_some (cond b (Some h) r) ≡ (b || is_some r)
    some_or true h r = refl
    some_or false h r = refl

-- so a file that isn't a system file has a name in the view where it has one in the model
pub named_view : (m : Model) (g : Fid) → is_system g ≡ false → contains_key (view m).names g ≡ is_named m g
unfolding view
named_view m g ordinary =
    ap is_some (get-where (names_of m.files) (λ f. not (is_system f)) g ∙ ap (λ b. cond (not b) (get (names_of m.files) g) None) ordinary ∙ get-from_entries fid_total (homes (namings (entries m.files))) g)
    ∙ find_home g (namings (entries m.files))

-- What is known of a file in the view.
record Shown (m : Model) (k : Fid) (x : Seen) : Type 0 where
  ordinary : is_system k ≡ false
  own : File
  there : get m.files k ≡ Some own
  same : seen_of k own ≡ x

shown : (m : Model) (k : Fid) (x : Seen) → get (view m).files k ≡ Some x → Shown m k x
unfolding view
shown m k x is = by (is_system k) refl (get m.files k) refl (sym (get-where (map_values {R = fid_cmp} seen_of m.files) (λ f. not (is_system f)) k ∙ ap (λ r. cond (not (is_system k)) r None) (get-map_values fid_total fid_same seen_of m.files k)) ∙ is)
  where
    by : (b : Bool) → is_system k ≡ b → (r : Option File) → get m.files k ≡ r → cond (not b) (option_map (seen_of k) r) None ≡ Some x → Shown m k x
    by true s r g e = absurd cc
    by false s None g e = absurd cc
    by false s (Some y) g e = record { ordinary = s; own = y; there = g; same = cc }

-- ---- what is lacking
module _ (m : Model) (h : Ready m) where
  -- each file in the view but one has a name, of at most 39 characters in its leader
  known : (k : Fid) (x : Seen) → get (view m).files k ≡ Some x → HasNameBut (view m).names h.nameless k x
  known k x is =
      let s = shown m k x is in
      let short = h.fitting.names k s.own s.there in
      let same : length s.own.leader.name ≡ length x.leader.name = ap (λ y. length y.leader.name) s.same in (
        λ other. named_view m k s.ordinary ∙ h.named.others k (ap is_some s.there) other,
        omega arith,
      )

  -- both system files have their entries
  lacking_given : lacking m ≡ given_names (view m).names (entries (view m).files)
  unfolding lacking
  lacking_given =
      let rest = given_names (view m).names (entries (view m).files) in
      ap (λ b. unless b (sys_dir, sys_dir_name) (unless (is_named m disk_descriptor) (disk_descriptor, descriptor_name) rest)) h.named.main
      ∙ ap (λ b. unless b (disk_descriptor, descriptor_name) rest) h.named.descriptor

  -- so one name is lacking at most
  given : OneGiven (given_names (view m).names (entries (view m).files))
  given = one_given (view m).names h.nameless (entries (view m).files) (each_entry (HasNameBut (view m).names h.nameless) (view m).files known)

  -- none, where this file has one
  none_lacking : IsNamed m h.nameless → given_names (view m).names (entries (view m).files) ≡ []
  none_lacking own = none_given (view m).names (entries (view m).files) (each_entry (HasName (view m).names) (view m).files (λ k x is. let s = shown m k x is in named_view m k s.ordinary ∙ at k s.own s.there (is_fid k h.nameless) refl))
    where
      at : (k : Fid) (x : File) → get m.files k ≡ Some x → (b : Bool) → is_fid k h.nameless ≡ b → is_named m k ≡ true
      at k x there true e = ap (is_named m) (same_fid k h.nameless e) ∙ own
      at k x there false e = h.named.others k (ap is_some there) e

-- ---- pages for the names that lack
-- a name that has room
widens_one : (is : List Item) (f : Fid) (name : List ℕ) → is_some (placed (entry f name) is) ≡ true → widens is ((f, name) ∷ []) ≡ 0
unfolding widens
widens_one is f name some = by (placed (entry f name) is) refl some
  where
    by : (r : Option (List Item)) → placed (entry f name) is ≡ r → is_some r ≡ true → widens is ((f, name) ∷ []) ≡ 0
    by None e some = absurd cc
    by (Some js) e some = ap (λ r. on_room r (λ js. 0) (suc (on_room (placed (entry f name) (with_page is)) (λ js. 0) 0))) e

-- so SysDir needs no page more
no_widens : (m : Model) → Ready m → widens (root_items m) (lacking m) ≡ 0
no_widens m h = ap (widens (root_items m)) (lacking_given m h) ∙ by h.room
  where
    none : given_names (view m).names (entries (view m).files) ≡ [] → widens (root_items m) (given_names (view m).names (entries (view m).files)) ≡ 0
    none e = ap (widens (root_items m)) e ∙ no_widening (root_items m)

    by : IsNamed m h.nameless ⊎ (longest_entry ≤ largest_run (root_items m)) → widens (root_items m) (given_names (view m).names (entries (view m).files)) ≡ 0
    by (inl own) = none (none_lacking m h own)
    by (inr run) = one (given m h).are
      where
        one : (given_names (view m).names (entries (view m).files) ≡ []) ⊎ (given_names (view m).names (entries (view m).files) ≡ ((given m h).fid, (given m h).name) ∷ []) → widens (root_items m) (given_names (view m).names (entries (view m).files)) ≡ 0
        one (inl e) = none e
        one (inr e) =
            let short = (given m h).short in
            let i : Item = entry (given m h).fid (given m h).name in
            ap (widens (root_items m)) e ∙ widens_one (root_items m) (given m h).fid (given m h).name (placed_somewhere i (omega arith) (omega arith) (root_items m) h.fitting.slots (omega arith))

pub ready_has_room : ReadyHasRoom
unfolding needs
ready_has_room m h = let w = no_widens m h in let p = h.fitting.pages in omega arith
