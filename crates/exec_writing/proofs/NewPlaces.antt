-- A new name for a file that is there: its tests, its directory, and the files that a line with both touches.
use Rattle.std.proofs.Common.{◌≡◌, ◌++◌, Bool, true, false, not, List, [], ◌∷◌, Option, Some, None, Result, Ok, Err, IfOk, Contains, inl, inr, refl, sym, ap, subst, ◌∙◌}
use Rattle.std.proofs.lemmas.List.Elements.{Contains-append_cases, Contains-append_left, Contains-append_right}
use Rattle.std.specs.Option.{option_or, unwrap_or}
use Rattle.alto_words.specs.declared.fid.Fid.{Fid}
use Rattle.alto_words.specs.Fid.{disk_descriptor, is_directory, is_fid, sys_dir}
use Rattle.disk_records.specs.Packs.{Pack}
use Rattle.exec_words.specs.declared.line.Line.TheVariants as line
use Rattle.exec_words.specs.declared.line.Path.{Path}
use Rattle.exec_words.specs.declared.line.Target.{Target}
use Rattle.exec_words.specs.declared.line.Target.TheVariants.{ByPath}
use Rattle.exec_words.specs.declared.reply.Refusal.{Refusal}
use Rattle.exec_words.specs.declared.reply.Refusal.TheVariants as refusal
use Rattle.laws_operation.specs.ByteLaws.{IsOrdinary}
use Rattle.page_seeking.specs.declared.refs.FileRef.{FileRef}
use Rattle.pack_model.specs.reading.Model.{Model, dir_items, read_as}
use Rattle.pack_model.specs.reading.Versions.{is_name_taken}
use Rattle.session_model.specs.Finding.{dir_of, file_at, is_path_taken}
use Rattle.session_model.specs.Refusals.{when, when_found, when_missing}
use Rattle.session_model.specs.Touched.{dir_named, files_named, one_of}
use Rattle.exec_session.proofs.Finding.{contains_first}
use Rattle.exec_session.specs.Found.{IsDirOf}
use Rattle.exec_session.specs.NewNames.{IsTaken}
use Rattle.exec_session.specs.Stops.{refused_for}
use Rattle.exec_steps.specs.declared.rooms.NewEntry.{NewEntry}
use Rattle.exec_session.specs.declared.stop.Stop.{Stop}
use Rattle.exec_session.specs.declared.stop.Stop.TheVariants as stop
use Rattle.exec_writing.specs.Entries.{IsNewEntry}
use Rattle.exec_writing.specs.Plans.{IsPlaced, kinds_refusal, place_refusal}

-- ---- kinds
pub record IsRefusedFor (k : Option Refusal) (s : Stop) : Type 0 where
  pub refusal : Refusal
  pub for : k ≡ Some refusal
  pub stop_is : s ≡ stop.Refused refusal

pub refused_by : (k : Option Refusal) (s : Stop) → ◌≡◌ {A = Result (Unit {0}) Stop} (Err s) (refused_for k) → IsRefusedFor k s
refused_by None s e = absurd (let n : ◌≡◌ {A = Result (Unit {0}) Stop} (Err s) (Ok tt) = e in cc)
refused_by (Some r) s e = record { refusal = r; for = refl; stop_is = let n : ◌≡◌ {A = Result (Unit {0}) Stop} (Err s) (Err (stop.Refused r)) = e in cc }

pub passed_by : (k : Option Refusal) (u : Unit {0}) → ◌≡◌ {A = Result (Unit {0}) Stop} (Ok u) (refused_for k) → k ≡ None
passed_by None u e = refl
passed_by (Some r) u e = absurd (let n : ◌≡◌ {A = Result (Unit {0}) Stop} (Ok u) (Err (stop.Refused r)) = e in cc)

-- An ordinary file, and a directory.
pub record AreKinds (f d : Fid) : Type 0 where
  pub ordinary : IsOrdinary f
  pub directory : is_directory d ≡ true

pub kinds_pass : (f d : Fid) → kinds_refusal f d ≡ None → AreKinds f d
kinds_pass f d e = by (is_directory f) (is_directory d) (is_fid f disk_descriptor) refl refl refl e
  where
    by : (a b c : Bool) → is_directory f ≡ a → is_directory d ≡ b → is_fid f disk_descriptor ≡ c
        → option_or (when a refusal.IsADirectory) (option_or (when (not b) refusal.NotADirectory) (when c refusal.SystemFile)) ≡ None → AreKinds f d
    by false true false x y z none = record { ordinary = record { no_directory = x; no_descriptor = z }; directory = y }
    by true b c x y z none = absurd (let n : Some refusal.IsADirectory ≡ None = none in cc)
    by false false c x y z none = absurd (let n : Some refusal.NotADirectory ≡ None = none in cc)
    by false true true x y z none = absurd (let n : Some refusal.SystemFile ≡ None = none in cc)

-- ---- the tests, by the directory
pub place_absent : (m : Model) (f : Fid) (path : Path) → dir_of m path.dir ≡ None → place_refusal m f path ≡ Some refusal.NoSuchName
place_absent m f path e = ap (λ d. option_or (when_missing d refusal.NoSuchName) (option_or (when_found d (kinds_refusal f)) (when (is_path_taken m path) refusal.NameTaken))) e

pub place_there : (m : Model) (f d : Fid) (path : Path) → dir_of m path.dir ≡ Some d → place_refusal m f path ≡ option_or (kinds_refusal f d) (when (is_path_taken m path) refusal.NameTaken)
place_there m f d path e = ap (λ x. option_or (when_missing x refusal.NoSuchName) (option_or (when_found x (kinds_refusal f)) (when (is_path_taken m path) refusal.NameTaken))) e

pub taken_there : (m : Model) (path : Path) (d : Fid) → dir_of m path.dir ≡ Some d → is_path_taken m path ≡ is_name_taken path.wanted (dir_items m d)
taken_there m path d e = ap (λ x. is_name_taken path.wanted (dir_items m (unwrap_or x sys_dir))) e

-- ---- in the directory that was found
module _ (p : Pack) (f : Fid) (path : Path) (dir : FileRef) (is : IsDirOf p path.dir dir) (kinds : kinds_refusal f dir.fid ≡ None) where
  by_name : place_refusal (read_as p) f path ≡ when (is_name_taken path.wanted (dir_items (read_as p) dir.fid)) refusal.NameTaken
  by_name =
      place_there (read_as p) f dir.fid path is.is
      ∙ ap (λ k. option_or k (when (is_path_taken (read_as p) path) refusal.NameTaken)) kinds
      ∙ ap (λ b. when b refusal.NameTaken) (taken_there (read_as p) path dir.fid is.is)

  pub name_refuses : (r : Refusal) → IsTaken p dir.fid path.wanted r → place_refusal (read_as p) f path ≡ Some r
  name_refuses r t = by_name ∙ ap (λ b. when b refusal.NameTaken) t.1 ∙ ap Some (sym t.0)

  pub is_placed : (e : NewEntry) → IsNewEntry p dir path.wanted e → IsPlaced p f path e
  is_placed e n =
      let same : dir ≡ e.dir = sym n.planned.dir_is in
      let k = kinds_pass f dir.fid kinds in
      record {
        unrefused = by_name ∙ ap (λ b. when b refusal.NameTaken) n.given.0;
        ordinary = k.ordinary;
        dir = subst (IsDirOf p path.dir) same is;
        directory = subst (λ (x : FileRef). is_directory x.fid ≡ true) same k.directory;
        entry = subst (λ x. IsNewEntry p x path.wanted e) same n;
      }

-- ---- answers
pub if_ok_then : {A E : Type 0} {P Q : A → Type 0} (r : Result A E) → ((x : A) → P x → Q x) → IfOk r P → IfOk r Q
if_ok_then (Ok x) f h = f x h
if_ok_then (Err e) f h = tt

-- ---- the files that a line touches
-- of a file and a new name
module _ (m : Model) (target : Target) (path : Path) where
  abbrev named : List Fid
  named = files_named (line.Copy target path) m

  abbrev first_dir : List Fid
  first_dir = dir_named m target

  abbrev first_file : List Fid
  first_file = one_of (file_at m target)

  abbrev other_dir : List Fid
  other_dir = dir_named m (ByPath path)

  abbrev other_file : List Fid
  other_file = one_of (file_at m (ByPath path))

  pub names_source_dirs : (f : Fid) → Contains (sys_dir ∷ first_dir) f → Contains named f
  names_source_dirs f h = Contains-append_left (sys_dir ∷ (first_dir ++ first_file)) ((other_dir ++ other_file) ++ []) f (Contains-append_left (sys_dir ∷ first_dir) first_file f h)

  pub names_source : (f : Fid) → file_at m target ≡ Some f → Contains named f
  names_source f e =
      Contains-append_left (sys_dir ∷ (first_dir ++ first_file)) ((other_dir ++ other_file) ++ []) f
      (Contains-append_right (sys_dir ∷ first_dir) first_file f (subst (λ r. Contains (one_of r) f) (sym e) (contains_first f [])))

  pub names_place : (f : Fid) → Contains (sys_dir ∷ other_dir) f → Contains named f
  names_place f h = elim (Contains-append_cases (sys_dir ∷ []) other_dir f h) [
    | inl x ↦ Contains-append_left (sys_dir ∷ []) ((first_dir ++ first_file) ++ ((other_dir ++ other_file) ++ [])) f x
    | inr x ↦ Contains-append_right (sys_dir ∷ (first_dir ++ first_file)) ((other_dir ++ other_file) ++ []) f (Contains-append_left (other_dir ++ other_file) [] f (Contains-append_left other_dir other_file f x))
  ]
