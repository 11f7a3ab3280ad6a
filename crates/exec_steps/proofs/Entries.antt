-- An entry that is to come: that nothing in its directory is in its way, before the widenings of its line and after them.
use Rattle.std.proofs.Common.{Bool, List, None, Option, Some, [], ap, arith, cond, false, length, not, refl, subst, sym, true, ℕ, ◌++◌, ◌∙◌, ◌∷◌, ◌≡◌, ◌≤◌}
use Rattle.std.specs.FinMap.{get}
use Rattle.std.specs.Option.{option_map}
use Rattle.alto_words.proofs.Versions.{is_stored_name-fits}
use Rattle.alto_words.specs.Fid.{is_fid, sys_dir}
use Rattle.alto_words.specs.Names.{is_same_name, is_stored_name}
use Rattle.alto_words.specs.declared.fid.Fid.{Fid}
use Rattle.alto_words.specs.declared.wanted.Wanted.TheVariants.{Exact}
use Rattle.disk_records.specs.Packs.{Pack}
use Rattle.directory.specs.Asked.{DirStands}
use Rattle.directory.specs.Places.{HasNoRoom, IsTaken}
use Rattle.exec_session.specs.laws_line.proofs.after.Laws.{directories_are_read}
use Rattle.exec_session.specs.laws_line.specs.AfterLaws.{IsDirectory}
use Rattle.exec_session.specs.laws_line.specs.Ready.{steps_of}
use Rattle.exec_session.specs.laws_lookup.proofs.names.Laws.{slots_stay}
use Rattle.exec_session.specs.laws_lookup.proofs.slots.Laws.{lookup_is_the_models}
use Rattle.exec_session.specs.laws_midway.proofs.rooms.Laws.{room_is_found_in_a_run}
use Rattle.exec_session.specs.laws_operation.proofs.entries.Laws.{items_are_slots}
use Rattle.exec_session.specs.laws_operation.proofs.places.Laws.{model_has_the_living}
use Rattle.exec_session.specs.laws_record.proofs.DirReads.{not_descriptor}
use Rattle.page_seeking.specs.declared.refs.FileRef.{FileRef}
use Rattle.exec_session.specs.pack_laws.proofs.Keys.{fid_same, fid_total, same_fid}
use Rattle.exec_session.specs.pack_laws.proofs.Mapping.{get-update}
use Rattle.pack_model.specs.operations.Rooms.{find_room, largest_run}
use Rattle.pack_model.specs.operations.Step.Operation.{make, widen}
use Rattle.pack_model.specs.operations.Step.{body_slots, on_items, step}
use Rattle.pack_model.specs.reading.Bodies.Body.{data_of, items_of}
use Rattle.pack_model.specs.reading.Bodies.{Body, File, items_in}
use Rattle.pack_model.specs.reading.Lookup.{entered}
use Rattle.pack_model.specs.reading.Model.{Model, dir_items, read_as}
use Rattle.pack_model.specs.reading.Slots.Item.{entry, space}
use Rattle.pack_model.specs.reading.Slots.{Item, entry_length}
use Rattle.pack_model.specs.reading.Versions.{exact}
use Rattle.exec_steps.specs.Rooms.{widens_if}
use Rattle.exec_steps.specs.declared.rooms.NewEntry.{NewEntry}
use Rattle.exec_steps.specs.Asked.{first_widenings}
use Rattle.exec_steps.proofs.Stepping.{steps_append}

-- ---- no answer of the slots
none_some : {X : Type 0} (x : X) → None ≡ Some x → ⊥
none_some x e = cc

pub never_taken : (p : Pack) (dir : FileRef) (name : List ℕ) → DirStands p dir → exact name (dir_items (read_as p) dir.fid) ≡ None → IsTaken p dir.fid name → ⊥
never_taken p dir name s absent taken =
    none_some _ (sym absent ∙ sym (lookup_is_the_models p dir.fid (Exact name) s.stands.tidy s.living s.directory) ∙ ap (option_map entered) taken.named)

pub never_full : (p : Pack) (dir : FileRef) (name : List ℕ) (largest : ℕ) → DirStands p dir → is_stored_name name ≡ true → entry_length (length name) ≤ largest_run (dir_items (read_as p) dir.fid) → HasNoRoom p dir.fid name largest → ⊥
never_full p dir name largest s stored room full =
    let d : IsDirectory (read_as p) dir.fid = directories_are_read p dir.fid s.directory (model_has_the_living p dir.fid (not_descriptor dir.fid s.directory) ∙ s.living) in
    let items : dir_items (read_as p) dir.fid ≡ d.slots = ap items_in d.there in
    let short : length name ≤ 39 = is_stored_name-fits name stored in
    let none : find_room (entry_length (length name)) d.slots ≡ None = ap (find_room (entry_length (length name))) (sym items ∙ items_are_slots p dir.fid s.stands.tidy s.living s.directory) ∙ full.none in
    (room_is_found_in_a_run (entry_length (length name)) d.slots (omega arith) (omega (arith, short)) d.short).1 (subst (λ is. entry_length (length name) ≤ largest_run is) items room) none

-- ---- over a page more
exact_page : (name : List ℕ) (is : List Item) → exact name is ≡ None → exact name (is ++ space 256 ∷ []) ≡ None
exact_page name [] e = refl
exact_page name (space n ∷ is) e = exact_page name is e
exact_page name (entry f own ∷ is) e = by (is_same_name own name) e (λ h. exact_page name is h)
  where
    by : (b : Bool) → cond b (Some (f, own)) (exact name is) ≡ None → (exact name is ≡ None → exact name (is ++ space 256 ∷ []) ≡ None) → cond b (Some (f, own)) (exact name (is ++ space 256 ∷ [])) ≡ None
    by true e later = absurd (none_some _ (sym e))
    by false e later = later e

exact_in : (name : List ℕ) (r : Option File) → exact name (items_in r) ≡ None → exact name (items_in (option_map (on_items (λ is. is ++ space 256 ∷ [])) r)) ≡ None
exact_in name None e = refl
exact_in name (Some x) e = body x.body e
  where
    body : (b : Body) → exact name (items_in (Some (record { leader = x.leader; body = b }))) ≡ None → exact name (items_in (Some (record { leader = x.leader; body = body_slots (λ is. is ++ space 256 ∷ []) b }))) ≡ None
    body (data_of bytes) e = refl
    body (items_of is) e = exact_page name is e

exact_widened : (m : Model) (d e : Fid) (name : List ℕ) → exact name (dir_items m d) ≡ None → exact name (dir_items (step m (widen e)) d) ≡ None
exact_widened m d e name h = by (is_fid d e) refl
  where
    page : List Item → List Item
    page is = is ++ space 256 ∷ []

    now : dir_items (step m (widen e)) d ≡ items_in (cond (is_fid d e) (option_map (on_items (λ is. is ++ space 256 ∷ [])) (get m.files e)) (get m.files d))
    now = ap items_in (get-update fid_total fid_same m.files e (on_items (λ is. is ++ space 256 ∷ [])) d)

    by : (b : Bool) → is_fid d e ≡ b → exact name (dir_items (step m (widen e)) d) ≡ None
    by false apart = ap (exact name) (now ∙ ap (λ b. items_in (cond b (option_map (on_items (λ is. is ++ space 256 ∷ [])) (get m.files e)) (get m.files d))) apart) ∙ h
    by true same =
        ap (exact name) (now ∙ ap (λ b. items_in (cond b (option_map (on_items (λ is. is ++ space 256 ∷ [])) (get m.files e)) (get m.files d))) same)
        ∙ exact_in name (get m.files e) (ap (λ g. exact name (dir_items m g)) (sym (same_fid d e same)) ∙ h)

exact_widened_if : (m : Model) (b : Bool) (d e : Fid) (name : List ℕ) → exact name (dir_items m d) ≡ None → exact name (dir_items (steps_of m (widens_if b e)) d) ≡ None
exact_widened_if m true d e name h = exact_widened m d e name h
exact_widened_if m false d e name h = h

pub exact_after : (m : Model) (e : NewEntry) → exact e.name (dir_items m e.dir.fid) ≡ None → exact e.name (dir_items (steps_of m (first_widenings e)) e.dir.fid) ≡ None
exact_after m e h =
    ap (λ n. exact e.name (dir_items n e.dir.fid)) (steps_append m (widens_if e.widens_root sys_dir) (widens_if e.widens_dir e.dir.fid))
    ∙ exact_widened_if (steps_of m (widens_if e.widens_root sys_dir)) e.widens_dir e.dir.fid e.dir.fid e.name (exact_widened_if m e.widens_root e.dir.fid sys_dir e.name h)

-- ---- over a make
pub items_after_make : (m : Model) (d f : Fid) (name : List ℕ) (moment : ℕ) → is_fid d f ≡ false → dir_items (step m (make f name moment)) d ≡ dir_items m d
items_after_make m d f name moment apart = slots_stay m d (make f name moment) (ap not apart)
