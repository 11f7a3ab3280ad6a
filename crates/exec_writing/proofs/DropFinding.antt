-- What is found for `delete` and `rmdir`: the file that the line drops, which may be dropped.
use Rattle.std.proofs.Common.{◌≡◌, ◌∷◌, ◌++◌, ◌∙◌, ◌||◌, Bool, Contains, Err, List, None, Option, Result, Some, [], ap, arith, false, get_or, length, not, refl, subst, suc, sym, true, zero, ℕ, ◌<◌}
use Rattle.std.proofs.lemmas.Bool.{false_from_ne_true}
use Rattle.std.proofs.lemmas.List.Elements.{Contains-append_left, Contains-append_right}
use Rattle.std.specs.List.{list_any}
use Rattle.std.specs.Option.{option_map, unwrap_or}
use Rattle.std.specs.Result.{IsErrAnd}
use Rattle.alto_words.specs.declared.fid.Fid.{Fid}
use Rattle.alto_words.specs.Names.{is_same_name}
use Rattle.alto_words.specs.declared.wanted.Wanted.{Wanted}
use Rattle.alto_words.specs.Fid.{disk_descriptor, is_directory, is_fid, is_system, sys_dir}
use Rattle.disk_records.specs.Packs.{Pack}
use Rattle.disk_records.specs.declared.records.Page.{Page}
use Rattle.disk_records.specs.declared.records.Place.{Place}
use Rattle.dir_slots.specs.Items.{item_of, items_of}
use Rattle.dir_slots.specs.declared.slot.Slot.{Slot}
use Rattle.directory.specs.Asked.{DirIsFound}
use Rattle.directory.specs.Errors.{IfListMisled, cause_of_list}
use Rattle.directory.specs.Found.{AreSlots}
use Rattle.directory.specs.declared.errors.ListError.{ListError}
use Rattle.directory.specs.declared.errors.ListError.TheVariants as listing
use Rattle.disk_records.specs.Causes.{IsCause}
use Rattle.disk_records.specs.Tapes.{Taped}
use Rattle.exec_words.specs.declared.line.Line.{Line}
use Rattle.exec_words.specs.declared.line.Line.TheVariants as line
use Rattle.exec_words.specs.declared.line.Path.{Path}
use Rattle.exec_words.specs.declared.line.Target.TheVariants.{ByPath}
use Rattle.exec_words.specs.declared.reply.Refusal.{Refusal}
use Rattle.exec_words.specs.declared.reply.Refusal.TheVariants as refusal
use Rattle.exec_session.specs.laws_line.specs.LineLaws.{IsEntered}
use Rattle.laws_lookup.proofs.dropping.Laws.{empty_directory_is_bare, ordinary_file_is_bare}
use Rattle.laws_lookup.proofs.slots.Laws.{lookup_is_the_models}
use Rattle.exec_session.specs.laws_midway.proofs.found.Laws.{found_file_is_entered, found_file_lives, name_is_its_own}
use Rattle.laws_lookup.specs.DropLaws.{IsBare, is_an_entry}
use Rattle.exec_session.specs.laws_operation.proofs.entries.Laws.{items_are_slots}
use Rattle.exec_session.specs.pack_laws.proofs.Keys.{same_fid}
use Rattle.page_seeking.specs.Refs.{MisledBy}
use Rattle.page_seeking.specs.declared.refs.FileError.TheVariants as fault
use Rattle.pack_model.specs.hints.Links.{dir_slots}
use Rattle.pack_model.specs.operations.Step.Operation.{drop_file}
use Rattle.pack_model.specs.reading.Files.{lives}
use Rattle.pack_model.specs.reading.Lookup.{EntryAt, entered, entry_at}
use Rattle.pack_model.specs.reading.Model.{Model, dir_items, read_as}
use Rattle.pack_model.specs.reading.Sights.{sights}
use Rattle.pack_model.specs.reading.Versions.{Entered, entry_wanted}
use Rattle.pack_model.specs.states.Sound.{Sound}
use Rattle.session_model.specs.Finding.{dir_of, entry_in, entry_meant, file_at, fid_of, has_entry}
use Rattle.session_model.specs.Effects.{effect}
use Rattle.session_model.specs.Operands.{in_root}
use Rattle.session_model.specs.Refusals.{is_streamed, when}
use Rattle.session_model.specs.Replies.{refusal as refusal_to}
use Rattle.session_model.specs.Touched.{dir_named, files_touched, one_of}
use Rattle.session_model.specs.Turning.{HintFailing}
use Rattle.session_model.specs.Worlds.{World}
use Rattle.exec_session.proofs.Finding.{contains_first, dir_found, hint_failing}
use Rattle.exec_session.proofs.OrdinaryFiles.{absent_refused, by_test, descriptor_refused, directory_refused, none_refused}
use Rattle.exec_session.proofs.Stopping.{error_is}
use Rattle.exec_session.specs.Found.{IsAtPath, IsNoneAt, dirs_followed}
use Rattle.exec_session.specs.Meant.{IfHint, IfRefused, IsTakenUpBy}
use Rattle.exec_session.specs.Stops.{refused_if, stop_of_list}
use Rattle.exec_session.specs.declared.operands.Found.{Found}
use Rattle.exec_session.specs.declared.stop.Stop.{Stop}
use Rattle.exec_session.specs.declared.stop.Stop.TheVariants as stop
use Rattle.exec_writing.proofs.DropReasons.{delete_refused, delete_unrefused, entries_among, entries_refused, no_directory_refused, nothing_refused, removed_absent, removed_tests, rmdir_refused, system_refused}
use Rattle.exec_writing.specs.Drops.{FindsDropped, IsDropped}
use Rattle.exec_writing.specs.Dropping.{HasEntries, MayDropFound}

-- ---- the entry that was found
entry_is : (p : Pack) (d : Fid) (w : Wanted) (f : Fid) (name : List ℕ) → Sound p → lives (sights p) d ≡ true → is_directory d ≡ true → (r : Option EntryAt) → entry_at w (dir_slots p d) ≡ r → option_map entered r ≡ Some (f, name) → IsEntered (read_as p) d name f
entry_is p d w f name sound living directory None is e = absurd (let n : None ≡ Some (f, name) = e in cc)
entry_is p d w f name sound living directory (Some x) is e =
    let n : Some (entered x) ≡ Some (f, name) = e in
    let same : entered x ≡ (f, name) = cc in
    let file : x.fid ≡ f = ap (λ (y : Entered). y.0) same in
    let own : x.name ≡ name = ap (λ (y : Entered). y.1) same in
    subst (λ g. IsEntered (read_as p) d name g) file (found_file_is_entered p d w x name sound.tidy living directory is (subst (λ n. is_same_name x.name n ≡ true) own (name_is_its_own x.name)))

wanted_in : (m : Model) (path : Path) (d : Fid) (e : Entered) → dir_of m path.dir ≡ Some d → entry_meant m path ≡ Some e → entry_wanted path.wanted (dir_items m d) ≡ Some e
wanted_in m path d e dir is = sym (ap (entry_in m path) dir) ∙ is

module _ (p : Pack) (path : Path) (found : Found) (sound : Sound p) (at : IsAtPath p path found) where
  dir_lives : lives (sights p) found.dir.fid ≡ true
  dir_lives = found_file_lives p found.dir.fid found.dir.leader_at found.dir.from sound.whole sound.tidy at.dir.from

  pub file_lives : lives (sights p) found.file.fid ≡ true
  file_lives = found_file_lives p found.file.fid found.file.leader_at found.file.from sound.whole sound.tidy at.from

  pub may_drop_found : is_system found.file.fid ≡ false → IsBare p found.file.fid → MayDropFound p found
  may_drop_found no_system bare = record {
    dir = record { stands = record { whole = sound.whole; tidy = sound.tidy; from = at.dir.from }; directory = at.directory; living = dir_lives };
    from = at.from;
    may = record { no_system = no_system; bare = bare };
    entered = entry_is p found.dir.fid path.wanted found.file.fid found.name sound dir_lives at.directory (entry_at path.wanted (dir_slots p found.dir.fid)) refl
        (lookup_is_the_models p found.dir.fid path.wanted sound.tidy dir_lives at.directory ∙ wanted_in (read_as p) path found.dir.fid (found.file.fid, found.name) at.dir.is at.entry);
  }

  pub file_is : file_at (read_as p) (ByPath path) ≡ Some found.file.fid
  file_is = ap fid_of at.entry

-- ---- the files that are touched: SysDir, the directory, the file
abbrev pub path_files : Model → Path → List Fid
path_files m path = sys_dir ∷ ((dir_named m (ByPath path) ++ one_of (file_at m (ByPath path))) ++ [])

touches_dirs : (m : Model) (path : Path) (g : Fid) → Contains (sys_dir ∷ dir_named m (ByPath path)) g → Contains (path_files m path) g
touches_dirs m path g h =
    let dirs : List Fid = sys_dir ∷ dir_named m (ByPath path) in
    let file = one_of (file_at m (ByPath path)) in
    Contains-append_left (dirs ++ file) [] g (Contains-append_left dirs file g h)

touches_file : (m : Model) (path : Path) (f : Fid) → file_at m (ByPath path) ≡ Some f → Contains (path_files m path) f
touches_file m path f e =
    let dirs : List Fid = sys_dir ∷ dir_named m (ByPath path) in
    let file = one_of (file_at m (ByPath path)) in
    Contains-append_left (dirs ++ file) [] f (Contains-append_right dirs file f (subst (λ r. Contains (one_of r) f) (sym e) (contains_first f [])))

touches_dir : (m : Model) (path : Path) (d : Fid) → dir_of m path.dir ≡ Some d → Contains (path_files m path) d
touches_dir m path d e = touches_dirs m path d (Contains-append_right (sys_dir ∷ []) (one_of (dir_of m path.dir)) d (subst (λ r. Contains (one_of r) d) (sym e) (contains_first d [])))

-- ---- answers that are passed on
passes : (U : Type 0) (p : Pack) (l : Line) (w : World) (e : Stop) (r : Result Found Stop) → IsErrAnd r (λ x. x ≡ e) → IfRefused {T = U} (Err e) (λ x. refusal_to l (read_as p) w ≡ Some x) → IfHint {T = U} (Err e) (HintFailing p [] (files_touched l (read_as p) w)) → FindsDropped p l w r
passes U p l w e r is refused misled = subst (FindsDropped p l w) (sym (error_is r is)) (record { found = tt; refused = by_refused e refused; misled = by_misled e misled })
  where
    by_refused : (e : Stop) → IfRefused {T = U} (Err e) (λ x. refusal_to l (read_as p) w ≡ Some x) → IfRefused {T = Found} (Err e) (λ x. refusal_to l (read_as p) w ≡ Some x)
    by_refused (stop.Refused x) h = h
    by_refused (stop.Misled place at wanted found) h = tt
    by_refused stop.DiskFault h = tt
    by_refused stop.Memory h = tt

    by_misled : (e : Stop) → IfHint {T = U} (Err e) (HintFailing p [] (files_touched l (read_as p) w)) → IfHint {T = Found} (Err e) (HintFailing p [] (files_touched l (read_as p) w))
    by_misled (stop.Refused x) h = tt
    by_misled (stop.Misled place at wanted found) h = h
    by_misled stop.DiskFault h = tt
    by_misled stop.Memory h = tt

-- of the call that finds the path
pub unfound : (p : Pack) (l : Line) (w : World) (path : Path) (e : Stop) (r : Result Found Stop) → IsErrAnd r (λ x. x ≡ e) → files_touched l (read_as p) w ≡ path_files (read_as p) path → (file_at (read_as p) (ByPath path) ≡ None → refusal_to l (read_as p) w ≡ Some refusal.NoSuchName)
    → IfRefused {T = Found} (Err e) (IsNoneAt p (ByPath path)) → IfHint {T = Found} (Err e) (HintFailing p [] (dirs_followed p (ByPath path))) → FindsDropped p l w r
unfound p l w path e r is files absent none misled = passes Found p l w e r is (by_refused e none) (by_misled e misled)
  where
    by_refused : (e : Stop) → IfRefused {T = Found} (Err e) (IsNoneAt p (ByPath path)) → IfRefused {T = Found} (Err e) (λ x. refusal_to l (read_as p) w ≡ Some x)
    by_refused (stop.Refused x) h = absent h.1 ∙ ap Some (sym h.0)
    by_refused (stop.Misled place at wanted found) h = tt
    by_refused stop.DiskFault h = tt
    by_refused stop.Memory h = tt

    by_misled : (e : Stop) → IfHint {T = Found} (Err e) (HintFailing p [] (dirs_followed p (ByPath path))) → IfHint {T = Found} (Err e) (HintFailing p [] (files_touched l (read_as p) w))
    by_misled (stop.Refused x) h = tt
    by_misled (stop.Misled place at wanted found) h = record { misled = h.misled; on_disk = h.on_disk; file = subst (λ fs. Contains fs wanted.fid) (sym files) (touches_dirs (read_as p) path wanted.fid h.file) }
    by_misled stop.DiskFault h = tt
    by_misled stop.Memory h = tt

-- of a call that looks at the file that was found
pub unlisted : (U : Type 0) (p : Pack) (l : Line) (w : World) (path : Path) (found : Found) (P : Refusal → Type 0) (e : Stop) (r : Result Found Stop) → IsErrAnd r (λ x. x ≡ e) → Sound p → IsAtPath p path found → files_touched l (read_as p) w ≡ path_files (read_as p) path
    → ((x : Refusal) → P x → refusal_to l (read_as p) w ≡ Some x) → IfRefused {T = U} (Err e) P → IfHint {T = U} (Err e) (MisledBy p [] found.file.fid) → FindsDropped p l w r
unlisted U p l w path found P e r is sound at files refuses refused misled = passes U p l w e r is (by_refused e refused) (by_misled e misled)
  where
    by_refused : (e : Stop) → IfRefused {T = U} (Err e) P → IfRefused {T = U} (Err e) (λ x. refusal_to l (read_as p) w ≡ Some x)
    by_refused (stop.Refused x) h = refuses x h
    by_refused (stop.Misled place at wanted found) h = tt
    by_refused stop.DiskFault h = tt
    by_refused stop.Memory h = tt

    touched : Contains (files_touched l (read_as p) w) found.file.fid
    touched = subst (λ fs. Contains fs found.file.fid) (sym files) (touches_file (read_as p) path found.file.fid (file_is p path found sound at))

    by_misled : (e : Stop) → IfHint {T = U} (Err e) (MisledBy p [] found.file.fid) → IfHint {T = U} (Err e) (HintFailing p [] (files_touched l (read_as p) w))
    by_misled (stop.Refused x) h = tt
    by_misled (stop.Misled place at wanted label) h = hint_failing p found.file.fid (files_touched l (read_as p) w) place at wanted label sound touched h
    by_misled stop.DiskFault h = tt
    by_misled stop.Memory h = tt

-- of a test
pub test_refused : (p : Pack) (l : Line) (w : World) (b : Bool) (x : Refusal) (e : Stop) (r : Result Found Stop) → IsErrAnd r (λ y. y ≡ e) → ◌≡◌ {A = Result (Unit {0}) Stop} (Err e) (refused_if b x) → (b ≡ true → refusal_to l (read_as p) w ≡ Some x) → FindsDropped p l w r
test_refused p l w b x e r is test refuses =
    let t = by_test b e x test in
    subst (FindsDropped p l w) (sym (error_is r is ∙ ap Err t.1)) (record { found = tt; refused = refuses t.0; misled = tt })

-- ---- what was found
pub is_dropped : (p : Pack) (l : Line) (w : World) (path : Path) (found : Found) → Sound p → IsAtPath p path found → files_touched l (read_as p) w ≡ path_files (read_as p) path → (effect l (read_as p) w).ops ≡ drop_file (unwrap_or (file_at (read_as p) (ByPath path)) sys_dir) ∷ []
    → is_system found.file.fid ≡ false → IsBare p found.file.fid → refusal_to l (read_as p) w ≡ None → IsDropped p l w found
is_dropped p l w path found sound at files ops no_system bare unrefused = record {
  unrefused = unrefused;
  ops = ops ∙ ap (λ r. drop_file (unwrap_or r sys_dir) ∷ []) (file_is p path found sound at);
  file = subst (λ fs. Contains fs found.file.fid) (sym files) (touches_file (read_as p) path found.file.fid (file_is p path found sound at));
  dir = subst (λ fs. Contains fs found.dir.fid) (sym files) (touches_dir (read_as p) path found.dir.fid at.dir.is);
  may = may_drop_found p path found sound at no_system bare;
}

-- ---- `delete`
no_system_file : (f : Fid) → is_directory f ≡ false → is_fid f disk_descriptor ≡ false → is_system f ≡ false
no_system_file f ordinary other = by (is_fid f sys_dir) (is_fid f disk_descriptor) root other
  where
    root : is_fid f sys_dir ≡ false
    root = false_from_ne_true (is_fid f sys_dir) (λ e. let clash : true ≡ false = sym (ap is_directory (same_fid f sys_dir e)) ∙ ordinary in cc)

    by : (a b : Bool) → a ≡ false → b ≡ false → (a || b) ≡ false
    by false false d e = refl
    by true b d e = cc
    by false true d e = cc

module _ (p : Pack) (w : World) (path : Path) (taken : IsTakenUpBy w (line.Delete path)) where
  abbrev deleted : Line
  deleted = line.Delete path

  pub delete_absent : file_at (read_as p) (ByPath path) ≡ None → refusal_to deleted (read_as p) w ≡ Some refusal.NoSuchName
  delete_absent none = delete_refused (read_as p) w path taken refusal.NoSuchName (absent_refused p (ByPath path) none)

  module _ (found : Found) (sound : Sound p) (at : IsAtPath p path found) where
    abbrev f : Fid
    f = found.file.fid

    abbrev is : file_at (read_as p) (ByPath path) ≡ Some found.file.fid
    is = file_is p path found sound at

    pub delete_directory : is_directory f ≡ true → refusal_to deleted (read_as p) w ≡ Some refusal.IsADirectory
    delete_directory directory =
        delete_refused (read_as p) w path taken refusal.IsADirectory
        (directory_refused p (ByPath path) f sound is {U = Unit {0}} (stop.Refused refusal.IsADirectory) (Err (stop.Refused refusal.IsADirectory)) (sym (ap (λ b. refused_if b refusal.IsADirectory) directory)) refl)

    pub delete_descriptor : is_directory f ≡ false → is_fid f disk_descriptor ≡ true → refusal_to deleted (read_as p) w ≡ Some refusal.SystemFile
    delete_descriptor ordinary descriptor =
        delete_refused (read_as p) w path taken refusal.SystemFile
        (descriptor_refused p (ByPath path) f sound is {U = Unit {0}} tt (stop.Refused refusal.SystemFile) (Err (stop.Refused refusal.SystemFile)) (sym (ap (λ b. refused_if b refusal.IsADirectory) ordinary)) (sym (ap (λ b. refused_if b refusal.SystemFile) descriptor)) refl)

    -- its operand is taken
    by_streams : is_directory f ≡ false → is_fid f disk_descriptor ≡ false → (b : Bool) → is_streamed w (Some f) ≡ b → refusal_to deleted (read_as p) w ≡ when b refusal.StreamsOpen
    by_streams ordinary other b has =
        delete_unrefused (read_as p) w path taken
        (none_refused p (ByPath path) f sound is tt tt (sym (ap (λ c. refused_if c refusal.IsADirectory) ordinary)) (sym (ap (λ c. refused_if c refusal.SystemFile) other)))
        ∙ ap (λ r. when (is_streamed w r) refusal.StreamsOpen) is
        ∙ ap (λ c. when c refusal.StreamsOpen) has

    pub delete_streamed : is_directory f ≡ false → is_fid f disk_descriptor ≡ false → is_streamed w (Some f) ≡ true → refusal_to deleted (read_as p) w ≡ Some refusal.StreamsOpen
    delete_streamed ordinary other has = by_streams ordinary other true has

    pub delete_found : is_directory f ≡ false → is_fid f disk_descriptor ≡ false → is_streamed w (Some f) ≡ false → IsDropped p deleted w found
    delete_found ordinary other none =
        is_dropped p deleted w path found sound at refl refl (no_system_file f ordinary other) (ordinary_file_is_bare p f sound.tidy ordinary)
        (by_streams ordinary other false none)

-- ---- `rmdir`
is_dir : (b : Bool) → not b ≡ false → b ≡ true
is_dir true e = refl
is_dir false e = cc

module _ (p : Pack) (w : World) (name : List ℕ) (taken : IsTakenUpBy w (line.RemoveDir name)) where
  abbrev gone : Line
  gone = line.RemoveDir name

  pub rmdir_absent : file_at (read_as p) (ByPath (in_root name)) ≡ None → refusal_to gone (read_as p) w ≡ Some refusal.NoSuchName
  rmdir_absent none = rmdir_refused (read_as p) w name taken ∙ ap (removed_tests (read_as p)) none ∙ removed_absent (read_as p)

  module _ (found : Found) (sound : Sound p) (at : IsAtPath p (in_root name) found) where
    abbrev d : Fid
    d = found.file.fid

    tests : refusal_to gone (read_as p) w ≡ removed_tests (read_as p) (Some found.file.fid)
    tests = rmdir_refused (read_as p) w name taken ∙ ap (removed_tests (read_as p)) (file_is p (in_root name) found sound at)

    pub rmdir_no_directory : not (is_directory d) ≡ true → refusal_to gone (read_as p) w ≡ Some refusal.NotADirectory
    rmdir_no_directory other = tests ∙ no_directory_refused (read_as p) d other

    pub rmdir_system : not (is_directory d) ≡ false → is_system d ≡ true → refusal_to gone (read_as p) w ≡ Some refusal.SystemFile
    rmdir_system directory system = tests ∙ system_refused (read_as p) d directory system

    -- its entries
    pub is_directory_found : not (is_directory d) ≡ false → DirIsFound p found.file
    is_directory_found directory = dir_found p found.file sound at.from (is_dir (is_directory d) directory)

    entries_are : (b : Bool) → not (is_directory d) ≡ false → HasEntries p d b → has_entry (read_as p) d ≡ b
    entries_are b directory has = entries_among d (dir_items (read_as p) d) ∙ ap (list_any is_an_entry) (items_are_slots p d sound.tidy (file_lives p (in_root name) found sound at) (is_dir (is_directory d) directory)) ∙ has

    pub rmdir_entries : not (is_directory d) ≡ false → is_system d ≡ false → HasEntries p d true → refusal_to gone (read_as p) w ≡ Some refusal.NotEmpty
    rmdir_entries directory system has = tests ∙ entries_refused (read_as p) d directory system (entries_are true directory has)

    pub rmdir_found : not (is_directory d) ≡ false → is_system d ≡ false → HasEntries p d false → IsDropped p gone w found
    rmdir_found directory system has =
        is_dropped p gone w (in_root name) found sound at refl refl system
        (empty_directory_is_bare p d sound.tidy (file_lives p (in_root name) found sound at) (is_dir (is_directory d) directory) has)
        (tests ∙ nothing_refused (read_as p) d directory system (entries_are false directory has))

-- ---- the slots of a directory
pub some_entry : (slots : List Slot) (slot : Slot) (k : ℕ) → k < length slots → slot ≡ get_or slots k slot → is_an_entry (item_of slot) ≡ true → true ≡ list_any is_an_entry (items_of slots)
some_entry [] slot k within is entry = absurd (omega (arith, within))
some_entry (x ∷ slots) slot zero within is entry = sym (ap (λ b. b || list_any is_an_entry (items_of slots)) (ap (λ y. is_an_entry (item_of y)) (sym is) ∙ entry))
some_entry (x ∷ slots) slot (suc k) within is entry = by (is_an_entry (item_of x)) (some_entry slots slot k (omega (arith, within)) is entry)
  where
    by : (b : Bool) → true ≡ list_any is_an_entry (items_of slots) → true ≡ (b || list_any is_an_entry (items_of slots))
    by true e = refl
    by false e = e

pub entries_of_slots : (p : Pack) (d : Fid) (all given : List Slot) (b : Bool) → AreSlots p d all → given ≡ all → list_any is_an_entry (items_of given) ≡ b → HasEntries p d b
entries_of_slots p d all given b are same has = ap (list_any is_an_entry) (sym are.items ∙ ap items_of (sym same)) ∙ has

pub list_unrefused : {U : Type 0} (P : Refusal → Type 0) (a b : Taped) (e : ListError) (r : Result U Stop) → IsErrAnd r (λ x. x ≡ stop_of_list e) → IsCause a b (cause_of_list e) → IfRefused r P
list_unrefused {U} P a b e r is cause = subst (λ x. IfRefused x P) (sym (error_is r is)) (by e cause)
  where
    by : (e : ListError) → IsCause a b (cause_of_list e) → IfRefused {T = U} (Err (stop_of_list e)) P
    by (listing.File (fault.Misled place at wanted found)) h = tt
    by (listing.File (fault.Beyond n)) h = absurd h
    by (listing.File fault.DiskFault) h = tt
    by (listing.File fault.Memory) h = tt
    by listing.Memory h = tt

pub list_misled : (T : Type 0) {U : Type 0} (P : Place → ℕ → Page → Option (List ℕ) → Type 0) (e : ListError) (r : Result U Stop) → IsErrAnd r (λ x. x ≡ stop_of_list e) → IfListMisled {T = T} (Err e) P → IfHint r P
list_misled T {U} P e r is h = subst (λ x. IfHint x P) (sym (error_is r is)) (by e h)
  where
    by : (e : ListError) → IfListMisled {T = T} (Err e) P → IfHint {T = U} (Err (stop_of_list e)) P
    by (listing.File (fault.Misled place at wanted found)) h = h
    by (listing.File (fault.Beyond n)) h = tt
    by (listing.File fault.DiskFault) h = tt
    by (listing.File fault.Memory) h = tt
    by listing.Memory h = tt
