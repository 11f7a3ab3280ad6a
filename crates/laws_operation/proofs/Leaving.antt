-- Leave: the slot of an entry becomes free.
use Rattle.std.proofs.Common.{List, Some, [], add-one, ap, arith, cond, false, map, refl, subst, sym, true, ℕ, ◌&&◌, ◌++◌, ◌+◌, ◌/◌, ◌||◌, ◌∙◌, ◌∷◌, ◌≡◌}
use Rattle.std.specs.FinMap.{entries, get, insert}
use Rattle.std.specs.List.{list_any}
use Rattle.laws_contents.specs.alto_words.specs.Fid.{is_fid, is_system}
use Rattle.laws_contents.specs.alto_words.specs.Names.{fold_case, is_same_name}
use Rattle.laws_contents.specs.alto_words.specs.declared.fid.Fid.{Fid}
use Rattle.laws_contents.specs.disk_records.specs.Commands.{value_writes}
use Rattle.laws_contents.specs.disk_records.specs.Packs.{Pack, sector_at}
use Rattle.laws_contents.specs.pack_model.specs.reading.Bodies.{Files, described, items_in}
use Rattle.laws_contents.specs.pack_model.specs.reading.Bytes.{put_at}
use Rattle.laws_contents.specs.pack_model.specs.operations.Committing.{entry_place, page_of_word}
use Rattle.laws_contents.specs.pack_model.specs.reading.Files.{lives, place}
use Rattle.laws_contents.specs.pack_model.specs.reading.Leaders.{Leader}
use Rattle.laws_contents.specs.pack_model.specs.hints.Links.{dir_words}
use Rattle.laws_contents.specs.pack_model.specs.reading.Model.{dir_items, read_as}
use Rattle.laws_contents.specs.pack_model.specs.sessions.Moves.{rest, write}
use Rattle.laws_contents.specs.pack_model.specs.reading.Namings.{IsTidy, clashes, namings, namings_in}
use Rattle.laws_contents.specs.pack_model.specs.operations.PageWords.{freed_value, in_page}
use Rattle.laws_contents.specs.pack_model.specs.reading.Sights.{Sight, sights}
use Rattle.laws_contents.specs.pack_model.specs.reading.Slots.{Item, all_words, item_words, slots}
use Rattle.laws_contents.specs.pack_model.specs.reading.Slots.Item.{entry, space}
use Rattle.laws_contents.specs.pack_model.specs.operations.Step.{items_left, step}
use Rattle.laws_contents.specs.pack_model.specs.operations.Step.Operation.{leave}
use Rattle.laws_contents.specs.pack_model.specs.states.Whole.{Tidy, Whole}
use Rattle.laws_contents.specs.pack_laws.proofs.Keys.{is_fid-itself, same_fid}
use Rattle.laws_contents.specs.laws_record.proofs.DirReads.{insert_same, not_descriptor}
use Rattle.laws_contents.specs.laws_record.proofs.DirSteps.{apart_before}
use Rattle.laws_contents.specs.laws_record.proofs.Entered.{directory, leave_tidy, spot}
use Rattle.laws_contents.specs.laws_record.proofs.Entering.{on_slots}
use Rattle.laws_contents.specs.laws_record.proofs.Fitting.{same_equiv, same_sym, same_trans}
use Rattle.laws_contents.specs.laws_record.proofs.Slotwise.{slots_freed, words-append}
use Rattle.laws_contents.specs.laws_record.proofs.Tidying.{or_false_left, or_false_right}
use Rattle.laws_contents.specs.laws_record.specs.DirLaws.{dir_written}
use Rattle.laws_operation.proofs.DirValue.{dir_before, dir_lead, dir_read, value_same, value_tidy, value_whole}
use Rattle.laws_operation.proofs.inside.Kept.{carries_out}
use Rattle.laws_operation.proofs.OneDirectory.{named_apart}
use Rattle.laws_operation.specs.NameLaws.{MayLeave}
use Rattle.laws_operation.specs.Outcomes.{CarriesOut}
use Rattle.laws_contents.specs.laws_record.proofs.steps.Laws.{leave_is_the_step}

-- an entry's name stands only once in its directory, whatever its case
module _ (d f : Fid) (own name : List ℕ) (same : is_same_name own name ≡ true) where
  -- another name is another
  other_name : (g : Fid) (nm : List ℕ) (a : List Item) → list_any (clashes (record { dir = d; name = own; fid = f })) (namings_in d (entry g nm ∷ a)) ≡ false
      → (is_same_name nm name ≡ false) × (list_any (clashes (record { dir = d; name = own; fid = f })) (namings_in d a) ≡ false)
  other_name g nm a none =
      let here = or_false_left (is_fid f g || (is_fid d d && is_same_name own nm)) (list_any (clashes (record { dir = d; name = own; fid = f })) (namings_in d a)) none in
      let names : (is_fid d d && is_same_name own nm) ≡ false = or_false_right (is_fid f g) (is_fid d d && is_same_name own nm) here in (
        same_sym nm name ∙ sym (same_trans own name nm same) ∙ (ap (λ c. c && is_same_name own nm) (sym (is_fid-itself d)) ∙ names),
        or_false_right (is_fid f g || (is_fid d d && is_same_name own nm)) (list_any (clashes (record { dir = d; name = own; fid = f })) (namings_in d a)) none,
      )

  -- the first entry with the name is this one
  pub left_here : (a b : List Item) → list_any (clashes (record { dir = d; name = own; fid = f })) (namings_in d a) ≡ false → items_left name (a ++ entry f own ∷ b) ≡ a ++ space (item_words (entry f own)) ∷ b
  left_here [] b none = ap (λ c. cond c (space (item_words (entry f own)) ∷ b) (entry f own ∷ items_left name b)) same
  left_here (space n ∷ a) b none = ap (λ r. space n ∷ r) (left_here a b none)
  left_here (entry g nm ∷ a) b none =
      let o = other_name g nm a none in
      ap (λ c. cond c (space (item_words (entry g nm)) ∷ (a ++ entry f own ∷ b)) (entry g nm ∷ items_left name (a ++ entry f own ∷ b))) o.0
      ∙ ap (λ r. entry g nm ∷ r) (left_here a b o.1)

  -- and its place is after the words of those before it
  pub entry_here : (a b : List Item) (from : ℕ) → list_any (clashes (record { dir = d; name = own; fid = f })) (namings_in d a) ≡ false → entry_place name from (a ++ entry f own ∷ b) ≡ from + all_words a
  entry_here [] b from none = ap (λ c. cond c from (entry_place name (from + item_words (entry f own)) b)) same ∙ (let z : from ≡ from + 0 = omega arith in z)
  entry_here (space n ∷ a) b from none = let r = entry_here a b (from + n) none in omega (arith, r)
  entry_here (entry g nm ∷ a) b from none =
      let o = other_name g nm a none in
      let r = entry_here a b (from + item_words (entry g nm)) o.1 in
      let z : from + item_words (entry g nm) + all_words a ≡ from + (item_words (entry g nm) + all_words a) = omega arith in
      ap (λ c. cond c from (entry_place name (from + item_words (entry g nm)) (a ++ entry f own ∷ b))) o.0 ∙ r ∙ z

-- system files are named as before where an entry of another file comes or goes
pub system_apart : (g f : Fid) → is_system g ≡ true → is_system f ≡ false → is_fid f g ≡ false
system_apart g f s n = elim (is_fid f g) as (λ c. is_fid f g ≡ c → c ≡ false) [
  | true ↦ λ e. let x : true ≡ false = sym s ∙ ap is_system (sym (same_fid f g e)) ∙ n in cc
  | false ↦ λ e. refl
] refl

-- in a directory
pub names_apart : (files : Files) (d : Fid) (l : Leader) (is a b : List Item) → get files d ≡ Some (directory l is) → (f g : Fid) (own : List ℕ) (n : ℕ) → is_system g ≡ true → is_system f ≡ false
    → list_any (λ n. is_fid n.fid g) (namings (entries (insert files d (directory l (a ++ space n ∷ b))))) ≡ list_any (λ n. is_fid n.fid g) (namings (entries (insert files d (directory l (a ++ entry f own ∷ b)))))
names_apart files d l is a b in_files f g own n system other =
    let p = spot files d l is a b in_files in
    ap (list_any (λ n. is_fid n.fid g)) (p.without n) ∙ sym (named_apart g (record { dir = d; name = own; fid = f }) p.before p.later (system_apart g f system other)) ∙ sym (ap (list_any (λ n. is_fid n.fid g)) (p.with f own))

-- the words of slots, one of which is another of as many words
pub words_alike : (a x y b : List Item) → all_words y ≡ all_words x → all_words (a ++ (y ++ b)) ≡ all_words (a ++ (x ++ b))
words_alike a x y b e =
    words-append a (y ++ b) ∙ ap (λ n. all_words a + n) (words-append y b ∙ ap (λ n. n + all_words b) e ∙ sym (words-append x b)) ∙ sym (words-append a (x ++ b))

module _ (p : Pack) (w : Whole p) (t : Tidy p) (d : Fid) where
  -- leave
  pub leave_law : (name : List ℕ) (at : ℕ) (a b : List Item) (f : Fid) (own : List ℕ) → MayLeave p d name at a b f own → CarriesOut p (value_writes at (freed_value (all_words a) (item_words (entry f own)) (sector_at p at).value)) (leave d name)
  leave_law name at a b f own hyp =
      let ss : List Sight = sights p in
      let h = hyp.frees.write in
      let old : List Item = entry f own ∷ [] in
      let n : ℕ = item_words (entry f own) in
      let one : all_words old ≡ n = omega arith in
      let files : Files = described ss in
      let new : List ℕ = all_words old ∷ [] in
      let js : List Item = a ++ space n ∷ b in
      let now : slots (put_at (all_words a) new (dir_words p d)) ≡ js = slots_freed (dir_words p d) a old b hyp.frees.slots_are hyp.frees.some (let m = hyp.frees.most in omega arith) ∙ ap (λ k. a ++ space k ∷ b) one in
      let sum : all_words js ≡ all_words (slots (dir_words p d)) = words_alike a old (space n ∷ []) b refl ∙ ap all_words (sym hyp.frees.slots_are) in
      let l : Leader = dir_lead p w d (all_words a) at new h in
      let here : get files d ≡ Some (directory l (a ++ entry f own ∷ b)) = dir_before p w d (all_words a) at new h js now sum ∙ ap (λ x. Some (directory l x)) hyp.frees.slots_are in
      let clear : list_any (clashes (record { dir = d; name = own; fid = f })) (namings_in d a) ≡ false = apart_before (lives ss) files d l a b f own t here in
      let same_files : insert files d (directory l (a ++ entry f own ∷ b)) ≡ files = insert_same files d (directory l (a ++ entry f own ∷ b)) here in
      let still : IsTidy (lives ss) (insert files d (directory l js)) = leave_tidy (lives ss) files d l (a ++ entry f own ∷ b) a b here f own n (subst (IsTidy (lives ss)) (sym same_files) t) in
      let gets : get (read_as p).files d ≡ Some (directory l (a ++ entry f own ∷ b)) = dir_read p w d (all_words a) at new h js now sum t still ∙ ap (λ x. Some (directory l x)) hyp.frees.slots_are in
      let q : Pack = dir_written p (all_words a) at new in
      let step_own : read_as q ≡ step (read_as p) (leave d own) = leave_is_the_step p d at a b f own t hyp.frees in
      let self : is_same_name own own ≡ true = same_equiv.refl (map fold_case own) in
      let alike : step (read_as p) (leave d own) ≡ step (read_as p) (leave d name) =
      sym (on_slots (read_as p) d l (a ++ entry f own ∷ b) js (items_left own) gets (left_here d f own own self a b clear)) ∙ on_slots (read_as p) d l (a ++ entry f own ∷ b) js (items_left name) gets (left_here d f own name hyp.same a b clear) in
      let place_is : entry_place name 0 (dir_items (read_as p) d) ≡ all_words a = ap (λ r. entry_place name 0 (items_in r)) gets ∙ entry_here d f own name hyp.same a b 0 clear ∙ (let z : 0 + all_words a ≡ all_words a = omega arith in z) in
      let sector : place ss d (page_of_word (entry_place name 0 (dir_items (read_as p) d))) ≡ Some at = ap (λ k. place ss d (page_of_word k)) place_is ∙ ap (place ss d) (sym (add-one (all_words a / 256))) ∙ h.sector in
      let out : CarriesOut p (value_writes at (put_at (in_page (all_words a)) new (sector_at p at).value)) (leave d name) =
      carries_out p (value_writes at (put_at (in_page (all_words a)) new (sector_at p at).value)) (leave d name) d refl (value_same p w d (all_words a) at new h) (not_descriptor d h.directory) (record {
        obeys = write refl (record { part_is = refl; bears = sector }) (rest (step_own ∙ alike));
        whole = value_whole p w d (all_words a) at new h js now sum t still (λ g system. names_apart files d l (a ++ entry f own ∷ b) a b here f g own n system hyp.no_system ∙ ap (λ m. list_any (λ n. is_fid n.fid g) (namings (entries m))) same_files);
        tidy = value_tidy p w d (all_words a) at new h js now sum t still;
      }) in
      subst (λ k. CarriesOut p (value_writes at (put_at (in_page (all_words a)) (k ∷ []) (sector_at p at).value)) (leave d name)) one out
