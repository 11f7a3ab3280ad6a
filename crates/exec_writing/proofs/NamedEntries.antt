-- New entries of `make` and `mkdir`: how their operands refuse, what the lines do, and that they add a file.
use Rattle.std.proofs.Common.{◌≡◌, ◌+◌, ◌++◌, ℕ, Bool, true, false, cond, nat_le, nat_lt, not, List, [], ◌∷◌, Option, Some, None, Contains, refl, sym, subst, ap, ap₂, ◌∙◌}
use Rattle.std.proofs.lemmas.List.Elements.{Contains-append_left}
use Rattle.std.specs.List.{flat_map}
use Rattle.std.specs.Option.{is_none, option_or, unwrap_or}
use Rattle.alto_words.specs.Fid.{is_directory, sys_dir}
use Rattle.alto_words.specs.Names.{is_stored_name}
use Rattle.alto_words.specs.declared.fid.Fid.{Fid}
use Rattle.alto_words.specs.declared.wanted.Wanted.{Wanted}
use Rattle.alto_words.specs.declared.wanted.Wanted.TheVariants.{Exact, Newest}
use Rattle.directory.specs.Asked.{DirStands}
use Rattle.disk_records.specs.Packs.{Pack}
use Rattle.disk_records.specs.Tapes.{Taped, pack}
use Rattle.disk_records.specs.declared.records.Page.{Page}
use Rattle.disk_records.specs.declared.records.Place.{Place}
use Rattle.exec_words.specs.declared.line.Line.{Line}
use Rattle.exec_words.specs.declared.line.Line.TheVariants as line
use Rattle.exec_words.specs.declared.line.Path.{Path}
use Rattle.exec_words.specs.declared.line.Target.TheVariants.{ByPath}
use Rattle.exec_words.specs.declared.reply.Refusal.{Refusal}
use Rattle.exec_words.specs.declared.reply.Refusal.TheVariants as refusal
use Rattle.exec_session.specs.laws_session.proofs.unrefused.Laws.{make_dir_may_begin, make_may_begin}
use Rattle.exec_session.specs.laws_session.specs.UnrefusedLaws.{MakesFile, StatesStored}
use Rattle.page_seeking.specs.Refs.{FileIsFrom}
use Rattle.page_seeking.specs.declared.refs.FileRef.{FileRef}
use Rattle.pack_model.specs.operations.Committing.{pages_for_operations}
use Rattle.pack_model.specs.operations.Step.Operation.{enter, make}
use Rattle.pack_model.specs.operations.Step.{Operation}
use Rattle.pack_model.specs.reading.Files.{first}
use Rattle.pack_model.specs.reading.Model.{Model, dir_items, read_as, room}
use Rattle.pack_model.specs.reading.Slots.{Item}
use Rattle.pack_model.specs.reading.Versions.{exact, new_name}
use Rattle.pack_model.specs.states.Sound.{Sound}
use Rattle.session_model.specs.Effects.{effect, new_file_ops, next_directory, next_file, widenings}
use Rattle.session_model.specs.Finding.{dir_of, file_at, is_dir_taken, is_path_taken, name_given, the_dir}
use Rattle.session_model.specs.Operands.{in_root, new_directory, new_file, operands}
use Rattle.session_model.specs.Refusals.{by_operands, by_room, left_in, most_serials, spent, when, when_found, when_missing, wrong_kind, wrong_system}
use Rattle.session_model.specs.Touched.{files_named, one_of, operand_files}
use Rattle.session_model.specs.Keeping.{Kept}
use Rattle.session_model.specs.Turning.{HintFailing, State}
use Rattle.session_model.specs.Worlds.{World}
use Rattle.exec_session.proofs.Finding.{contains_first, contains_second, dir_found}
use Rattle.exec_session.specs.Found.{root_ref}
use Rattle.exec_session.specs.Meant.{IsTakenUpBy}
use Rattle.exec_steps.specs.Rooms.{IsPlanned, pages_planned, widens_if}
use Rattle.exec_session.specs.Turned.{Begins}
use Rattle.exec_steps.specs.declared.rooms.NewEntry.{NewEntry}
use Rattle.exec_steps.specs.Asked.{first_widenings, made_entered}
use Rattle.exec_writing.proofs.Adding.{root_stands}
use Rattle.exec_writing.proofs.Ends.{IsOnFiles, begins_sound}
use Rattle.exec_session.specs.laws_session.specs.RefusedLaws.{first_of}
use Rattle.exec_writing.proofs.Reasons.{last_two, refused_later}
use Rattle.exec_writing.specs.Entries.{AddsFile, PlansDir, PlansPath, new_refusal}

-- ---- the operand of `make`, by its directory, the file that is there, and whether the name is taken
abbrev path_tests : Model → Option Fid → Option Fid → Bool → Option Refusal
path_tests m d f t = first_of (
    option_or (when_missing d refusal.NoSuchName) None
    ∷ option_or (when_found d (λ x. when (not (is_directory x)) refusal.NotADirectory)) (when_found f (wrong_kind new_file))
    ∷ when_found f (wrong_system new_file)
    ∷ when t refusal.NameTaken
    ∷ when_found f (left_in m new_file)
    ∷ [])

none_there : (m : Model) (f : Option Fid) (t : Bool) → path_tests m None f t ≡ Some refusal.NoSuchName
unfolding first
none_there m f t = refl

dir_there : (m : Model) (d : Fid) (f : Option Fid) (t : Bool) → path_tests m (Some d) f t ≡ option_or (when (not (is_directory d)) refusal.NotADirectory) (when t refusal.NameTaken)
unfolding first
dir_there m d f t = by f (is_directory d) t
  where
    by : (g : Option Fid) (a b : Bool) → option_or (option_or (when (not a) refusal.NotADirectory) (when_found g (wrong_kind new_file))) (option_or (when_found g (wrong_system new_file)) (option_or (when b refusal.NameTaken) (option_or (when_found g (left_in m new_file)) None)))
        ≡ option_or (when (not a) refusal.NotADirectory) (when b refusal.NameTaken)
    by None true true = refl
    by None true false = refl
    by None false b = refl
    by (Some g) true true = refl
    by (Some g) true false = refl
    by (Some g) false b = refl

pub make_absent : (m : Model) (path : Path) → dir_of m path.dir ≡ None → first_of (by_operands (line.Make path) m) ≡ Some refusal.NoSuchName
make_absent m path e = ap (λ d. path_tests m d (file_at m (ByPath path)) (is_path_taken m path)) e ∙ none_there m (file_at m (ByPath path)) (is_path_taken m path)

pub make_found : (m : Model) (path : Path) (d : Fid) → dir_of m path.dir ≡ Some d → first_of (by_operands (line.Make path) m) ≡ option_or (when (not (is_directory d)) refusal.NotADirectory) (when (is_path_taken m path) refusal.NameTaken)
make_found m path d e = ap (λ x. path_tests m x (file_at m (ByPath path)) (is_path_taken m path)) e ∙ dir_there m d (file_at m (ByPath path)) (is_path_taken m path)

-- ---- the operand of `mkdir`, by whether the name is taken
pub make_dir_operand : (m : Model) (name : List ℕ) → first_of (by_operands (line.MakeDir name) m) ≡ when (is_dir_taken m name) refusal.NameTaken
unfolding first
make_dir_operand m name = by (file_at m (ByPath (in_root name))) (is_dir_taken m name)
  where
    by : (g : Option Fid) (b : Bool) → option_or (option_or (when (not (is_directory sys_dir)) refusal.NotADirectory) (when_found g (wrong_kind new_directory))) (option_or (when_found g (wrong_system new_directory)) (option_or (when b refusal.NameTaken) (option_or (when_found g (left_in m new_directory)) None)))
        ≡ when b refusal.NameTaken
    by None true = refl
    by None false = refl
    by (Some g) true = refl
    by (Some g) false = refl

-- ---- the files that are touched
pub path_touches : (m : Model) (path : Path) (d : Fid) → dir_of m path.dir ≡ Some d → Contains (files_named (line.Make path) m) d
path_touches m path d e =
    let file = one_of (file_at m (ByPath path)) in
    subst (λ x. Contains (sys_dir ∷ ((one_of x ++ file) ++ [])) d) (sym e) (contains_second sys_dir d (file ++ []))

pub root_touched : (m : Model) (l : Line) → Contains (files_named l m) sys_dir
root_touched m l = contains_first sys_dir _

pub root_touches : (m : Model) (l : Line) (f : Fid) → Contains (sys_dir ∷ []) f → Contains (files_named l m) f
root_touches m l f h = Contains-append_left (sys_dir ∷ []) (flat_map (operand_files m) (operands l)) f h

-- a hint of more files
pub failing_more : (p : Pack) (files more : List Fid) (place : Place) (at : ℕ) (wanted : Page) (found : Option (List ℕ)) → ((f : Fid) → Contains files f → Contains more f) → HintFailing p [] files place at wanted found → HintFailing p [] more place at wanted found
failing_more p files more place at wanted found wider h = record { misled = h.misled; on_disk = h.on_disk; file = wider wanted.fid h.file }

-- ---- a directory that was found stands
pub dir_stands : (p : Pack) (dir : FileRef) → Sound p → FileIsFrom p dir → is_directory dir.fid ≡ true → DirStands p dir
dir_stands p dir sound from directory =
    let found = dir_found p dir sound from directory in
    record { stands = record { whole = sound.whole; tidy = sound.tidy; from = found.from }; directory = found.directory; living = found.living }

-- ---- what is planned, by the model
pub widens_as_planned : (p : Pack) (dir : FileRef) (name : List ℕ) (e : NewEntry) → IsPlanned p dir name e → first_widenings e ≡ widenings (read_as p) e.dir.fid e.name
widens_as_planned p dir name e planned =
    ap (λ (d : FileRef). widens_if e.widens_root sys_dir ++ widens_if e.widens_dir d.fid) planned.dir_is
    ∙ ap₂ (λ (a b : List Operation). a ++ b) (sym planned.widens_root) (sym planned.widens_dir)
    ∙ ap₂ (λ (d : FileRef) n. widenings (read_as p) d.fid n) (sym planned.dir_is) (sym planned.name_is)

-- the operations of a new file
pub ops_made : (m : Model) (e : NewEntry) (f d : Fid) (n : List ℕ) (moment : ℕ) → d ≡ e.dir.fid → n ≡ e.name → first_widenings e ≡ widenings m e.dir.fid e.name → new_file_ops m d n f moment ≡ made_entered e f moment
ops_made m e f d n moment dir name planned = ap₂ (λ x y. new_file_ops m x y f moment) dir name ∙ ap (λ o. o ++ make f e.name moment ∷ enter e.dir.fid e.name f ∷ []) (sym planned)

pub pages_made : (m : Model) (e : NewEntry) (f : Fid) (moment : ℕ) → pages_for_operations m (made_entered e f moment) ≡ pages_planned e + 2
pages_made m e f moment = by e.widens_root e.widens_dir
  where
    by : (a b : Bool) → pages_for_operations m ((widens_if a sys_dir ++ widens_if b e.dir.fid) ++ make f e.name moment ∷ enter e.dir.fid e.name f ∷ []) ≡ cond a 1 0 + cond b 1 0 + 2
    by true true = refl
    by true false = refl
    by false true = refl
    by false false = refl

-- the refusals that are left
left_refusal : (m : Model) (e : NewEntry) (ops : List Operation) (f : Fid) (moment : ℕ) (l : Line) → ops ≡ made_entered e f moment → spent l m ≡ when (nat_le most_serials m.last) (refusal.SerialsSpent m.last) → option_or (spent l m) (by_room m ops) ≡ new_refusal m.last (pages_planned e + 2) (room m)
left_refusal m e ops f moment l are serials =
    ap (λ r. option_or r (by_room m ops)) serials
    ∙ ap (λ n. option_or (when (nat_le most_serials m.last) (refusal.SerialsSpent m.last)) (when (nat_lt (room m) n) (refusal.Full n (room m)))) (ap (pages_for_operations m) are ∙ pages_made m e f moment)

-- ---- `make` adds a file
-- the name that is given is the model's
pub given_is : (r : Option (List ℕ)) (name : List ℕ) → r ≡ Some name → unwrap_or r [] ≡ name
given_is r name e = ap (λ x. unwrap_or x []) e

pub dir_is : (r : Option Fid) (d : Fid) → r ≡ Some d → unwrap_or r sys_dir ≡ d
dir_is r d e = ap (λ x. unwrap_or x sys_dir) e

-- a stated name is stored, if the one that is given is
pub states : (w : Wanted) (name : List ℕ) (is : List Item) → new_name w is ≡ Some name → is_stored_name name ≡ true → StatesStored w
states (Newest base) name is new stored = tt
states (Exact own) name is new stored = by (is_none (exact own is)) new
  where
    by : (b : Bool) → cond b (Some own) None ≡ Some name → is_stored_name own ≡ true
    by true e = ap is_stored_name (let same : Some own ≡ Some name = e in cc) ∙ stored
    by false e = absurd (let n : None ≡ Some name = e in cc)

pub make_adds : (p : Pack) (w : World) (path : Path) (e : NewEntry) → Sound p → IsTakenUpBy w (line.Make path) → PlansPath p (line.Make path) path e → AddsFile p w (line.Make path) e false
make_adds p w path e sound taken plan =
    let m : Model = read_as p in
    let l : Line = line.Make path in
    let dir : the_dir m path ≡ e.dir.fid = dir_is (dir_of m path.dir) e.dir.fid plan.dir.is in
    let new : new_name path.wanted (dir_items m e.dir.fid) ≡ Some e.name = plan.entry.given.1 in
    let name : name_given m path ≡ e.name = ap (λ d. unwrap_or (new_name path.wanted (dir_items m d)) []) dir ∙ given_is (new_name path.wanted (dir_items m e.dir.fid)) e.name new in
    let planned = widens_as_planned p e.dir e.name e plan.entry.planned in
    let ops : (effect l m w).ops ≡ made_entered e (next_file m) w.moment = ops_made m e (next_file m) (the_dir m path) (name_given m path) w.moment dir name planned in
    record {
      dir = dir_stands p e.dir sound plan.dir.from plan.directory;
      planned = planned;
      ops = ops;
      world = refl;
      refused = refused_later l m w taken plan.passes ∙ last_two (spent l m) (by_room m (effect l m w).ops) ∙ left_refusal m e (effect l m w).ops (next_file m) w.moment l ops refl;
      makes = λ none. subst (λ n. MakesFile p w l e.dir.fid n (next_file m)) name (subst (λ d. MakesFile p w l d (name_given m path) (next_file m)) dir (make_may_begin p w path sound (states path.wanted e.name (dir_items m e.dir.fid) new plan.entry.stored) none));
      root = root_touched m l;
      own = path_touches m path e.dir.fid plan.dir.is;
    }

-- ---- `mkdir` adds a directory
pub make_dir_adds : (p : Pack) (w : World) (name : List ℕ) (e : NewEntry) → Sound p → IsTakenUpBy w (line.MakeDir name) → PlansDir p name e → AddsFile p w (line.MakeDir name) e true
make_dir_adds p w name e sound taken plan =
    let m : Model = read_as p in
    let l : Line = line.MakeDir name in
    let dir : sys_dir ≡ e.dir.fid = sym (ap (λ (d : FileRef). d.fid) plan.planned.dir_is) in
    let own : name ≡ e.name = sym plan.planned.name_is in
    let planned = widens_as_planned p root_ref name e plan.planned in
    let ops : (effect l m w).ops ≡ made_entered e (next_directory m) w.moment = ops_made m e (next_directory m) sys_dir name w.moment dir own planned in
    record {
      dir = subst (DirStands p) (sym plan.planned.dir_is) (root_stands p sound);
      planned = planned;
      ops = ops;
      world = refl;
      refused = refused_later l m w taken plan.passes ∙ last_two (spent l m) (by_room m (effect l m w).ops) ∙ left_refusal m e (effect l m w).ops (next_directory m) w.moment l ops refl;
      makes = λ none. subst (λ n. MakesFile p w l e.dir.fid n (next_directory m)) own (subst (λ d. MakesFile p w l d name (next_directory m)) dir (make_dir_may_begin p w name sound none));
      root = root_touched m l;
      own = subst (λ d. Contains (files_named l m) d) dir (root_touched m l);
    }

-- ---- the two lines
pub make_on : (path : Path) → IsOnFiles (line.Make path)
make_on path = record { quit = refl; scavenge = refl; needs = refl; touched = λ m w. refl; few = λ p m n. tt }

pub make_dir_on : (name : List ℕ) → IsOnFiles (line.MakeDir name)
make_dir_on name = record { quit = refl; scavenge = refl; needs = refl; touched = λ m w. refl; few = λ p m n. tt }

-- what is planned on a pack that is as it was
pub make_adds_there : (p : Pack) (t : Taped) (k : Kept) (s : State) (path : Path) (e : NewEntry) → pack t ≡ p → Begins t k s (line.Make path) → (Sound p → PlansPath p (line.Make path) path e) → AddsFile (pack t) s.world (line.Make path) e false
make_adds_there p t k s path e same b plan = make_adds (pack t) s.world path e (begins_sound b) b.taken_up (subst (λ q. PlansPath q (line.Make path) path e) (sym same) (plan (subst Sound same (begins_sound b))))

pub make_dir_adds_there : (p : Pack) (t : Taped) (k : Kept) (s : State) (name : List ℕ) (e : NewEntry) → pack t ≡ p → Begins t k s (line.MakeDir name) → (Sound p → PlansDir p name e) → AddsFile (pack t) s.world (line.MakeDir name) e true
make_dir_adds_there p t k s name e same b plan = make_dir_adds (pack t) s.world name e (begins_sound b) b.taken_up (subst (λ q. PlansDir q name e) (sym same) (plan (subst Sound same (begins_sound b))))
