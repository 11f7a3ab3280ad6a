-- What lines that only read are refused for: the tests of their operand, in their order, and nothing else.
use Rattle.std.proofs.Common.{◌≡◌, ℕ, Bool, true, false, not, nat_lt, List, [], ◌∷◌, Option, Some, None, refl, ap, ◌∙◌, arith}
use Rattle.std.proofs.lemmas.Bool.{le-ltb}
use Rattle.std.specs.Option.{option_or}
use Rattle.alto_words.specs.declared.fid.Fid.{Fid}
use Rattle.alto_words.specs.Fid.{disk_descriptor, is_directory, is_fid, sys_dir}
use Rattle.exec_words.specs.declared.line.Line.TheVariants as line
use Rattle.exec_words.specs.declared.line.Target.{Target}
use Rattle.exec_words.specs.declared.line.Target.TheVariants.{ByPath, BySerial}
use Rattle.exec_words.specs.declared.reply.Refusal.{Refusal}
use Rattle.exec_words.specs.declared.reply.Refusal.TheVariants as refusal
use Rattle.pack_model.specs.reading.Files.{first}
use Rattle.pack_model.specs.reading.Model.{Model, read_as, room}
use Rattle.pack_model.specs.states.Sound.{Sound}
use Rattle.disk_records.specs.Packs.{Pack}
use Rattle.exec_session.proofs.OrdinaryFiles.{directory_of}
use Rattle.exec_session.specs.laws_session.proofs.refused.Laws.{refused_by_tests}
use Rattle.exec_session.specs.laws_session.specs.RefusedLaws.{first_of}
use Rattle.session_model.specs.Finding.{dir_of, file_at}
use Rattle.session_model.specs.Operands.{Operand, Use, in_root, listed, no_directory, some_file}
use Rattle.session_model.specs.Refusals.{dir_at, left_in, not_empty, of_taken_name, taken_target, when, when_found, when_missing, wrong_kind, wrong_system}
use Rattle.session_model.specs.Replies.{refusal as refusal_to}
use Rattle.session_model.specs.Worlds.{World}
use Rattle.exec_session.specs.Found.{operand, operand_tests}
use Rattle.exec_session.specs.Meant.{IsTakenUpBy}

-- ---- what is left after the tests of operands, of a line without operations
others_none : (m : Model) → first_of (None ∷ None ∷ None ∷ None ∷ None ∷ None ∷ None ∷ when (nat_lt (room m) 0) (refusal.Full 0 (room m)) ∷ []) ≡ None
unfolding first
others_none m = by (nat_lt (room m) 0) (le-ltb (room m) 0 (omega arith))
  where
    by : (few : Bool) → few ≡ false → first_of (None ∷ None ∷ None ∷ None ∷ None ∷ None ∷ None ∷ when few (refusal.Full 0 (room m)) ∷ []) ≡ None
    by false e = refl
    by true e = cc

more_none : (m : Model) (a b : Option Refusal) → a ≡ None → b ≡ None → first_of (a ∷ b ∷ None ∷ None ∷ None ∷ None ∷ None ∷ None ∷ None ∷ when (nat_lt (room m) 0) (refusal.Full 0 (room m)) ∷ []) ≡ None
unfolding first
more_none m None None e f = others_none m
more_none m (Some r) b e f = absurd (let n : Some r ≡ None = e in cc)
more_none m None (Some r) e f = absurd (let n : Some r ≡ None = f in cc)

left_none : (m : Model) (used : Use) → ((f : Fid) → left_in m used f ≡ None) → (r : Option Fid) → when_found r (left_in m used) ≡ None
left_none m used h None = refl
left_none m used h (Some f) = h f

-- ---- each line
pub free_refused : (m : Model) (w : World) → IsTakenUpBy w line.Free → refusal_to line.Free m w ≡ None
unfolding first
free_refused m w taken = refused_by_tests line.Free m w [] (None ∷ None ∷ None ∷ None ∷ None ∷ None ∷ None ∷ when (nat_lt (room m) 0) (refusal.Full 0 (room m)) ∷ []) taken refl (others_none m)

type_taken : (m : Model) (target : Target) → taken_target m no_directory target ≡ None
type_taken m (ByPath path) = refl
type_taken m (BySerial n) = refl

pub type_refused : (m : Model) (w : World) (target : Target) → IsTakenUpBy w (line.TypeOut target) → refusal_to (line.TypeOut target) m w ≡ first_of (operand_tests m (operand target no_directory))
type_refused m w target taken =
    let o = operand target no_directory in
    refused_by_tests (line.TypeOut target) m w (operand_tests m o)
    (of_taken_name m o ∷ not_empty m o ∷ None ∷ None ∷ None ∷ None ∷ None ∷ None ∷ None ∷ when (nat_lt (room m) 0) (refusal.Full 0 (room m)) ∷ []) taken refl
    (more_none m (of_taken_name m o) (not_empty m o) (type_taken m target) (left_none m no_directory (λ f. refl) (file_at m target)))

stat_taken : (m : Model) (target : Target) → taken_target m some_file target ≡ None
stat_taken m (ByPath path) = refl
stat_taken m (BySerial n) = refl

pub stat_refused : (m : Model) (w : World) (target : Target) → IsTakenUpBy w (line.Stat target) → refusal_to (line.Stat target) m w ≡ first_of (operand_tests m (operand target some_file))
stat_refused m w target taken =
    let o = operand target some_file in
    refused_by_tests (line.Stat target) m w (operand_tests m o)
    (of_taken_name m o ∷ not_empty m o ∷ None ∷ None ∷ None ∷ None ∷ None ∷ None ∷ None ∷ when (nat_lt (room m) 0) (refusal.Full 0 (room m)) ∷ []) taken refl
    (more_none m (of_taken_name m o) (not_empty m o) (stat_taken m target) (left_none m some_file (λ f. refl) (file_at m target)))

pub root_refused : (m : Model) (w : World) → IsTakenUpBy w (line.ListNames None) → refusal_to (line.ListNames None) m w ≡ None
unfolding first
root_refused m w taken = refused_by_tests (line.ListNames None) m w [] (None ∷ None ∷ None ∷ None ∷ None ∷ None ∷ None ∷ when (nat_lt (room m) 0) (refusal.Full 0 (room m)) ∷ []) taken refl (others_none m)

abbrev pub dir_operand : List ℕ → Operand
dir_operand name = operand (ByPath (in_root name)) listed

pub list_refused : (m : Model) (w : World) (name : List ℕ) → IsTakenUpBy w (line.ListNames (Some name)) → refusal_to (line.ListNames (Some name)) m w ≡ first_of (operand_tests m (dir_operand name))
list_refused m w name taken =
    let o = dir_operand name in
    refused_by_tests (line.ListNames (Some name)) m w (operand_tests m o)
    (of_taken_name m o ∷ not_empty m o ∷ None ∷ None ∷ None ∷ None ∷ None ∷ None ∷ None ∷ when (nat_lt (room m) 0) (refusal.Full 0 (room m)) ∷ []) taken refl
    (more_none m (of_taken_name m o) (not_empty m o) refl (left_none m listed (λ f. refl) (file_at m (ByPath (in_root name)))))

-- ---- the tests of an operand that may be any file but DiskDescriptor, by the directory and the file that are meant
abbrev stat_tests : Option Fid → Option Fid → Option Refusal
stat_tests d f = first_of (
    option_or (when_missing d refusal.NoSuchName) (when_missing f refusal.NoSuchName)
    ∷ option_or (when_found d (λ x. when (not (is_directory x)) refusal.NotADirectory)) (when_found f (wrong_kind some_file))
    ∷ when_found f (wrong_system some_file)
    ∷ [])

none_stated : (d : Option Fid) → stat_tests d None ≡ Some refusal.NoSuchName
unfolding first
none_stated None = refl
none_stated (Some d) = refl

file_stated : (d f : Fid) → is_directory d ≡ true → stat_tests (Some d) (Some f) ≡ when (is_fid f disk_descriptor) refusal.SystemFile
unfolding first
file_stated d f directory = by (is_directory d) (is_fid f disk_descriptor) directory
  where
    by : (a c : Bool) → a ≡ true → option_or (option_or (when (not a) refusal.NotADirectory) None) (option_or (when c refusal.SystemFile) None) ≡ when c refusal.SystemFile
    by true true e = refl
    by true false e = refl
    by false c e = absurd (let n : false ≡ true = e in cc)

pub stat_absent : (p : Pack) (target : Target) → file_at (read_as p) target ≡ None → first_of (operand_tests (read_as p) (operand target some_file)) ≡ Some refusal.NoSuchName
stat_absent p target e = ap (stat_tests (dir_at (read_as p) target)) e ∙ none_stated (dir_at (read_as p) target)

pub stat_found : (p : Pack) (target : Target) (f : Fid) → Sound p → file_at (read_as p) target ≡ Some f → first_of (operand_tests (read_as p) (operand target some_file)) ≡ when (is_fid f disk_descriptor) refusal.SystemFile
stat_found p target f sound e =
    let d = directory_of p target f sound e in
    ap (stat_tests (dir_at (read_as p) target)) e ∙ ap (λ x. stat_tests x (Some f)) d.is ∙ file_stated d.dir f d.directory

-- ---- the tests of a directory that is to be listed
abbrev list_tests : Option Fid → Option Refusal
list_tests f = first_of (
    option_or None (when_missing f refusal.NoSuchName)
    ∷ option_or (when (not (is_directory sys_dir)) refusal.NotADirectory) (when_found f (wrong_kind listed))
    ∷ when_found f (wrong_system listed)
    ∷ [])

list_is : (f : Fid) → list_tests (Some f) ≡ when (not (is_directory f)) refusal.NotADirectory
unfolding first
list_is f = by (is_directory f)
  where
    by : (a : Bool) → option_or (when (not a) refusal.NotADirectory) None ≡ when (not a) refusal.NotADirectory
    by true = refl
    by false = refl

list_none : list_tests None ≡ Some refusal.NoSuchName
unfolding first
list_none = refl

pub list_absent : (m : Model) (name : List ℕ) → dir_of m (Some name) ≡ None → first_of (operand_tests m (dir_operand name)) ≡ Some refusal.NoSuchName
list_absent m name e = ap list_tests e ∙ list_none

pub list_found : (m : Model) (name : List ℕ) (d : Fid) → dir_of m (Some name) ≡ Some d → first_of (operand_tests m (dir_operand name)) ≡ when (not (is_directory d)) refusal.NotADirectory
list_found m name d e = ap list_tests e ∙ list_is d
