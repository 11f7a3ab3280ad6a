-- Enter: free slots are made one, where the room has several, and then come the words.
use Rattle.std.proofs.Common.{Bool, List, Some, [], add-one, ap, arith, cond, eqb-true, false, get_or, length, refl, suc, sym, true, ℕ, ◌++◌, ◌+◌, ◌-◌, ◌/◌, ◌∙◌, ◌∷◌, ◌≡◌}
use Rattle.std.specs.FinMap.{entries, get, get-insert, insert}
use Rattle.std.specs.List.{list_any}
use Rattle.std.specs.Option.{is_some}
use Rattle.std.specs.Prelude.{◌==◌}
use Rattle.laws_contents.specs.alto_words.specs.Fid.{is_directory}
use Rattle.laws_contents.specs.alto_words.specs.declared.fid.Fid.{Fid}
use Rattle.laws_contents.specs.disk_records.specs.Commands.{value_writes}
use Rattle.laws_contents.specs.disk_records.specs.Packs.{Pack, after, sector_at}
use Rattle.laws_contents.specs.pack_model.specs.reading.Bodies.{body_items, items_in}
use Rattle.laws_contents.specs.pack_model.specs.reading.Bodies.Body.{data_of, items_of}
use Rattle.laws_contents.specs.pack_model.specs.reading.Bytes.{put_at}
use Rattle.laws_contents.specs.pack_model.specs.operations.Commands.{values_writes}
use Rattle.laws_contents.specs.pack_model.specs.operations.Committing.{page_of_word}
use Rattle.laws_contents.specs.pack_model.specs.operations.Entering.{overlapping}
use Rattle.laws_contents.specs.pack_model.specs.reading.Files.{file_bytes, lives, place}
use Rattle.laws_contents.specs.pack_model.specs.reading.Leaders.{Leader}
use Rattle.laws_contents.specs.pack_model.specs.hints.Links.{dir_words}
use Rattle.laws_contents.specs.pack_model.specs.reading.Model.{Model, dir_items, read_as}
use Rattle.laws_contents.specs.pack_model.specs.reading.Namings.{clashes, namings, namings_in}
use Rattle.laws_contents.specs.pack_model.specs.operations.PageWords.{freed_value, in_page, near}
use Rattle.laws_contents.specs.pack_model.specs.operations.Rooms.{find_room, items_entered, left_over, run}
use Rattle.laws_contents.specs.pack_model.specs.reading.Sights.{sights}
use Rattle.laws_contents.specs.pack_model.specs.reading.Slots.{Item, all_words, entry_length, item_words, slots}
use Rattle.laws_contents.specs.pack_model.specs.reading.Slots.Item.{entry, space}
use Rattle.laws_contents.specs.pack_model.specs.operations.Step.{step}
use Rattle.laws_contents.specs.pack_model.specs.operations.Step.Operation.{enter}
use Rattle.laws_contents.specs.pack_model.specs.states.Whole.{Tidy, Whole}
use Rattle.laws_contents.specs.pack_laws.proofs.Keys.{fid_total, is_fid-itself}
use Rattle.laws_contents.specs.laws_record.proofs.Addressing.{entry_words_many}
use Rattle.laws_contents.specs.laws_record.proofs.DirReads.{has_leader, not_descriptor}
use Rattle.laws_contents.specs.laws_record.proofs.DirWords.{dir_change}
use Rattle.laws_contents.specs.laws_record.proofs.Entered.{directory, namings_in-append}
use Rattle.laws_contents.specs.laws_record.proofs.Heads.{all_within}
use Rattle.laws_contents.specs.laws_record.proofs.Roomy.{run_enough, run_one}
use Rattle.laws_contents.specs.laws_record.proofs.Slotwise.{words-append}
use Rattle.laws_contents.specs.laws_record.specs.DirLaws.{Frees, freed}
use Rattle.laws_operation.proofs.DirValue.{dir_lead}
use Rattle.laws_operation.proofs.Dropped.{read_there}
use Rattle.laws_operation.proofs.EnterStages.{EntersBy, Joined, alike_slots, join_stage, quiet_first}
use Rattle.laws_operation.proofs.Entering.{Ready, second_stage, sector_still, ticks}
use Rattle.laws_operation.proofs.OneDirectory.{slots_namings}
use Rattle.laws_operation.proofs.Rejoining.{enough_words, entered_there, room_again}
use Rattle.laws_operation.proofs.inside.Rooming.{run_bare}
use Rattle.laws_operation.specs.NameLaws.{MayEnterAt}

-- the moves by how many values come first
abbrev pub all_ticks : Bool → Bool → List (Unit {0})
all_ticks one same = cond one (ticks same) (tt ∷ ticks same)

-- a tidy pack's directory is read as its words are
pub items_are : (p : Pack) → Tidy p → (d : Fid) → lives (sights p) d ≡ true → is_directory d ≡ true → dir_items (read_as p) d ≡ slots (dir_words p d)
items_are p t d live dir =
    let l = has_leader (sights p) d live in
    ap items_in (read_there p d l.0 t (not_descriptor d dir) l.1) ∙ ap (λ c. body_items (cond c (items_of (slots (dir_words p d))) (data_of (file_bytes (sights p) d)))) dir

module _ (p : Pack) (w : Whole p) (t : Tidy p) (d : Fid) (name : List ℕ) (f : Fid) (a old b : List Item) (left : ℕ) (words : List ℕ) (at next_at : ℕ) (h : MayEnterAt p d name f a old b left words at next_at) where
  -- the directory's slots are those of the model
  slots_are : slots (dir_words p d) ≡ a ++ (old ++ b)
  slots_are = sym (items_are p t d h.living h.directory) ∙ h.room.split

  -- where the room is one slot
  ready : slots (dir_words p d) ≡ a ++ space (entry_length (length name) + left) ∷ b → Ready p d name f a b left words at next_at
  ready is = record {
    directory = h.directory;
    living = h.living;
    no_system = h.no_system;
    may = h.entry_is;
    slots_are = is;
    room = h.room.found ∙ ap (λ k. Some (record { first = length a; place = all_words a; total = k })) h.total;
    words_are = h.words_are;
    sector = h.sector;
    next_sector = h.next_sector;
  }

  -- so it is where the room's first slot has all of its words
  pub ready_alone : (item_words (get_or old 0 (space 0)) == all_words old) ≡ true → Ready p d name f a b left words at next_at
  ready_alone e = ready (slots_are ∙ ap (λ x. a ++ x) (one_slot old h.room.run_is (eqb-true (item_words (get_or old 0 (space 0))) (all_words old) e) ∙ ap (λ k. space k ∷ b) h.total))
    where
      one_slot : (old : List Item) → run (entry_length (length name)) (old ++ b) ≡ Some (all_words old, b) → item_words (get_or old 0 (space 0)) ≡ all_words old → old ++ b ≡ space (all_words old) ∷ b
      one_slot [] e z = absurd (let l = run_enough (entry_length (length name)) b (0, b) e in let m = entry_words_many (length name) in omega arith)
      one_slot (entry g own ∷ old) e z = absurd cc
      one_slot (space k ∷ old) e z =
          let y : k ≡ k + all_words old = z in
          let r = run_one (entry_length (length name)) k (old ++ b) (k + all_words old, b) e (sym y) in
          (λ i. space (y i) ∷ sym r i)

  -- several slots: the value that makes them one
  pub frees : Frees p d at a old b
  frees =
      let l = enough_words (entry_length (length name)) (dir_items (read_as p) d) a old b h.room in
      let m = entry_words_many (length name) in
      let all = all_within (a ++ (old ++ b)) (dir_words p d) slots_are in
      let x = words-append a (old ++ b) in
      let y = words-append old b in
      record {
        slots_are = slots_are;
        some = omega arith;
        most = h.room.most;
        write = record {
          directory = h.directory;
          lives = h.living;
          sector = ap (place (sights p) d) (add-one (all_words a / 256)) ∙ h.sector;
          some = omega arith;
          one_page = let z : length (all_words old ∷ []) ≡ 1 = refl in omega arith;
          within = let z : length (all_words old ∷ []) ≡ 1 = refl in omega arith;
        };
      }

  pub bare : namings_in d old ≡ []
  bare = run_bare d (entry_length (length name)) old b (all_words old) h.room.run_is

  pub stage : Joined p (freed p at a old) d (dir_lead p w d (all_words a) at (all_words old ∷ []) frees.write) a old b
  stage = join_stage p w t d at a old b frees bare

  -- the entry comes into the same place before and after
  same_place : items_entered (entry f name) (a ++ space (all_words old) ∷ b) ≡ items_entered (entry f name) (a ++ (old ++ b))
  same_place =
      let again = room_again (entry_length (length name)) (dir_items (read_as p) d) a old b h.room in
      let z : all_words (space (all_words old) ∷ []) ≡ all_words old = omega arith in
      entered_there (entry f name) (a ++ space (all_words old) ∷ b) a (space (all_words old) ∷ []) b again ∙ ap (λ k. a ++ entry f name ∷ left_over (k - entry_length (length name)) b) z
      ∙ sym (entered_there (entry f name) (dir_items (read_as p) d) a old b h.room) ∙ ap (items_entered (entry f name)) h.room.split

  pub same_step : step (read_as (freed p at a old)) (enter d name f) ≡ step (read_as p) (enter d name f)
  same_step = ap (λ m. step m (enter d name f)) stage.reads ∙ alike_slots (read_as p) d (dir_lead p w d (all_words a) at (all_words old ∷ []) frees.write) (a ++ (old ++ b)) (a ++ space (all_words old) ∷ b) (items_entered (entry f name)) stage.was same_place

  -- the directory's entries are the same
  same_names : namings (entries (read_as (freed p at a old)).files) ≡ namings (entries (read_as p).files)
  same_names = ap (λ m. namings (entries m.files)) stage.reads ∙ slots_namings (read_as p).files d (dir_lead p w d (all_words a) at (all_words old ∷ []) frees.write) (a ++ (old ++ b)) (a ++ space (all_words old) ∷ b) stage.was
      (namings_in-append d a (space (all_words old) ∷ b) ∙ ap (λ x. namings_in d a ++ x) (sym (namings_in-append d old b ∙ ap (λ x. x ++ namings_in d b) bare)) ∙ sym (namings_in-append d a (old ++ b)))

  pub ready_joined : Ready (freed p at a old) d name f a b left words at next_at
  ready_joined =
      let q : Pack = freed p at a old in
      let c = dir_change p d (all_words a) at (all_words old ∷ []) frees.write in
      let again = room_again (entry_length (length name)) (dir_items (read_as p) d) a old b h.room in
      let z : all_words (space (all_words old) ∷ []) ≡ all_words old = omega arith in
      let gone : dir_items (read_as q) d ≡ a ++ space (all_words old) ∷ b = read_now (dir_lead p w d (all_words a) at (all_words old ∷ []) frees.write) stage.reads in
      record {
        directory = h.directory;
        living = ap is_some (c.leaders d) ∙ h.living;
        no_system = h.no_system;
        may = record { lives = ap is_some (c.leaders f) ∙ h.entry_is.lives; fits = h.entry_is.fits; apart = ap (list_any (clashes (record { dir = d; name = name; fid = f }))) same_names ∙ h.entry_is.apart };
        slots_are = stage.slots_now ∙ ap (λ k. a ++ space k ∷ b) h.total;
        room = ap (find_room (entry_length (length name))) gone ∙ again.found ∙ ap (λ k. Some (record { first = length a; place = all_words a; total = k })) (z ∙ h.total);
        words_are = h.words_are;
        sector = sector_still p d (all_words a) at (all_words old ∷ []) frees.write (page_of_word (all_words a)) ∙ h.sector;
        next_sector = λ some. sector_still p d (all_words a) at (all_words old ∷ []) frees.write (suc (page_of_word (all_words a))) ∙ h.next_sector some;
      }
    where
      read_now : (l : Leader) {m : Model} → m ≡ record (read_as p) { files = insert (read_as p).files d (directory l (a ++ space (all_words old) ∷ b)) } → dir_items m d ≡ a ++ space (all_words old) ∷ b
      read_now l e = ap (λ m. dir_items m d) e ∙ ap items_in (get-insert fid_total (read_as p).files d (directory l (a ++ space (all_words old) ∷ b)) d ∙ ap (λ c. cond c (Some (directory l (a ++ space (all_words old) ∷ b))) (get (read_as p).files d)) (is_fid-itself d))

  -- all of it, by whether the room is one slot
  pub all_stages : (one : Bool) → (item_words (get_or old 0 (space 0)) == all_words old) ≡ one
      → EntersBy p d (values_writes (cond one [] ((at, freed_value (all_words a) (all_words old) (sector_at p at).value) ∷ []))
      ++ (values_writes (overlapping (after p (values_writes (cond one [] ((at, freed_value (all_words a) (all_words old) (sector_at p at).value) ∷ [])))) (all_words a) words next_at)
      ++ value_writes at (put_at (in_page (all_words a)) (near (all_words a) words) (sector_at (after (after p (values_writes (cond one [] ((at, freed_value (all_words a) (all_words old) (sector_at p at).value) ∷ [])))) (values_writes (overlapping (after p (values_writes (cond one [] ((at, freed_value (all_words a) (all_words old) (sector_at p at).value) ∷ [])))) (all_words a) words next_at))) at).value)))
      (all_ticks one (page_of_word (all_words a + length words - 1) == page_of_word (all_words a))) (enter d name f)
  all_stages true e = second_stage p w t d name f a b left words at next_at (ready_alone e)
  all_stages false e =
      let q : Pack = freed p at a old in
      let s = second_stage q stage.whole stage.tidy d name f a b left words at next_at ready_joined in
      quiet_first p d at (freed_value (all_words a) (all_words old) (sector_at p at).value) (values_writes (overlapping q (all_words a) words next_at) ++ value_writes at (put_at (in_page (all_words a)) (near (all_words a) words) (sector_at (after q (values_writes (overlapping q (all_words a) words next_at))) at).value)) (ticks (page_of_word (all_words a + length words - 1) == page_of_word (all_words a))) (enter d name f)
      stage.views same_step stage.same s
