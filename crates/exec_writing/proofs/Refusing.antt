-- What `copy` and `rename` are refused for: the tests of their operands in their order, then the serial and the room, and nothing else.
use Rattle.std.proofs.Common.{◌≡◌, ◌&&◌, Bool, true, false, not, nat_le, [], ◌∷◌, Option, Some, None, refl, ap, ◌∙◌}
use Rattle.std.specs.Option.{option_or}
use Rattle.alto_words.specs.declared.fid.Fid.{Fid}
use Rattle.alto_words.specs.Fid.{disk_descriptor, is_directory, is_fid}
use Rattle.disk_records.specs.Packs.{Pack}
use Rattle.exec_words.specs.declared.line.Line.{Line}
use Rattle.exec_words.specs.declared.line.Line.TheVariants as line
use Rattle.exec_words.specs.declared.line.Path.{Path}
use Rattle.exec_words.specs.declared.line.Target.{Target}
use Rattle.exec_words.specs.declared.line.Target.TheVariants.{ByPath, BySerial}
use Rattle.exec_words.specs.declared.reply.Refusal.{Refusal}
use Rattle.exec_words.specs.declared.reply.Refusal.TheVariants as refusal
use Rattle.pack_model.specs.operations.Committing.{pages_for_operations}
use Rattle.pack_model.specs.reading.Files.{first}
use Rattle.pack_model.specs.reading.Model.{Model, read_as, room}
use Rattle.pack_model.specs.states.Sound.{Sound}
use Rattle.session_model.specs.Effects.{effect}
use Rattle.session_model.specs.Finding.{dir_of, file_at, is_path_taken}
use Rattle.session_model.specs.Operands.{new_file, no_directory}
use Rattle.session_model.specs.Refusals.{by_operands, by_room, dir_at, is_streamed, left_in, most_serials, of_taken_name, taken_target, when, when_found, when_missing, wrong_kind, wrong_system}
use Rattle.session_model.specs.Replies.{refusal as refusal_to}
use Rattle.session_model.specs.Worlds.{World}
use Rattle.exec_session.specs.Found.{operand}
use Rattle.exec_session.specs.Meant.{IsTakenUpBy}
use Rattle.exec_session.proofs.OrdinaryFiles.{directory_of}
use Rattle.exec_writing.specs.Entries.{new_refusal}
use Rattle.exec_writing.specs.Plans.{kinds_refusal, place_refusal}
use Rattle.exec_session.specs.laws_session.specs.RefusedLaws.{first_of}
use Rattle.exec_writing.proofs.Reasons.{last_two, refused_later}

-- ---- two tests
pub both : (a b : Bool) → (a && b) ≡ true → b ≡ true
both true b e = e
both false b e = absurd (let n : false ≡ true = e in cc)

-- ---- the serial and the room
abbrev pub copy_line : Target → Path → Line
copy_line target path = line.Copy target path

pub copy_refused : (m : Model) (w : World) (target : Target) (path : Path) → IsTakenUpBy w (copy_line target path) → first_of (by_operands (copy_line target path) m) ≡ None
    → refusal_to (copy_line target path) m w ≡ new_refusal m.last (pages_for_operations m (effect (copy_line target path) m w).ops) (room m)
copy_refused m w target path taken none =
    refused_later (copy_line target path) m w taken none ∙ last_two (when (nat_le most_serials m.last) (refusal.SerialsSpent m.last)) (by_room m (effect (copy_line target path) m w).ops)

pub rename_refused : (m : Model) (w : World) (old new : Path) → IsTakenUpBy w (line.Rename old new) → first_of (by_operands (line.Rename old new) m) ≡ None
    → refusal_to (line.Rename old new) m w ≡ option_or (when (is_streamed w (file_at m (ByPath old))) refusal.StreamsOpen) (by_room m (effect (line.Rename old new) m w).ops)
unfolding first
rename_refused m w old new taken none =
    refused_later (line.Rename old new) m w taken none
    ∙ by (is_streamed w (file_at m (ByPath old))) (by_room m (effect (line.Rename old new) m w).ops)
  where
    by : (b : Bool) (a : Option Refusal) → first_of (None ∷ None ∷ None ∷ when b refusal.StreamsOpen ∷ None ∷ None ∷ None ∷ a ∷ []) ≡ option_or (when b refusal.StreamsOpen) a
    by false None = refl
    by false (Some r) = refl
    by true a = refl

-- ---- operands: a file, and a new name
abbrev tests : Model → Option Fid → Option Fid → Option Fid → Option Fid → Option Refusal → Bool → Option Refusal
tests m d f e g first_taken taken = first_of (
    option_or (when_missing d refusal.NoSuchName) (when_missing f refusal.NoSuchName)
    ∷ option_or (when_missing e refusal.NoSuchName) None
    ∷ option_or (when_found d (λ x. when (not (is_directory x)) refusal.NotADirectory)) (when_found f (wrong_kind no_directory))
    ∷ option_or (when_found e (λ x. when (not (is_directory x)) refusal.NotADirectory)) (when_found g (wrong_kind new_file))
    ∷ when_found f (wrong_system no_directory)
    ∷ when_found g (wrong_system new_file)
    ∷ first_taken
    ∷ when taken refusal.NameTaken
    ∷ when_found f (left_in m no_directory)
    ∷ when_found g (left_in m new_file)
    ∷ [])

none_meant : (m : Model) (d e g : Option Fid) (t : Option Refusal) (taken : Bool) → tests m d None e g t taken ≡ Some refusal.NoSuchName
unfolding first
none_meant m None e g t taken = refl
none_meant m (Some d) e g t taken = refl

file_meant : (m : Model) (d f : Fid) (e g : Option Fid) (taken : Bool) → is_directory d ≡ true
    → tests m (Some d) (Some f) e g None taken ≡ option_or (when_missing e refusal.NoSuchName) (option_or (when_found e (kinds_refusal f)) (when taken refusal.NameTaken))
unfolding first
file_meant m d f None g taken directory = refl
file_meant m d f (Some e) None taken directory = by (is_directory d) (is_directory f) (not (is_directory e)) (is_fid f disk_descriptor) taken directory
  where
    by : (a b c s t : Bool) → a ≡ true
        → option_or (option_or (when (not a) refusal.NotADirectory) (when b refusal.IsADirectory)) (option_or (option_or (when c refusal.NotADirectory) None) (option_or (when s refusal.SystemFile) (option_or None (option_or None (option_or (when t refusal.NameTaken) None)))))
        ≡ option_or (option_or (when b refusal.IsADirectory) (option_or (when c refusal.NotADirectory) (when s refusal.SystemFile))) (when t refusal.NameTaken)
    by false b c s t k = absurd (let n : false ≡ true = k in cc)
    by true true c s t k = refl
    by true false true s t k = refl
    by true false false true t k = refl
    by true false false false true k = refl
    by true false false false false k = refl
file_meant m d f (Some e) (Some g) taken directory = by (is_directory d) (is_directory f) (not (is_directory e)) (is_fid f disk_descriptor) taken directory
  where
    by : (a b c s t : Bool) → a ≡ true
        → option_or (option_or (when (not a) refusal.NotADirectory) (when b refusal.IsADirectory)) (option_or (option_or (when c refusal.NotADirectory) None) (option_or (when s refusal.SystemFile) (option_or None (option_or None (option_or (when t refusal.NameTaken) None)))))
        ≡ option_or (option_or (when b refusal.IsADirectory) (option_or (when c refusal.NotADirectory) (when s refusal.SystemFile))) (when t refusal.NameTaken)
    by false b c s t k = absurd (let n : false ≡ true = k in cc)
    by true true c s t k = refl
    by true false true s t k = refl
    by true false false true t k = refl
    by true false false false true k = refl
    by true false false false false k = refl

not_taken : (m : Model) (target : Target) → taken_target m no_directory target ≡ None
not_taken m (ByPath path) = refl
not_taken m (BySerial n) = refl

abbrev at_operands : Model → Target → Path → Option Fid → Option Fid → Option Refusal → Option Refusal
at_operands m target path d f t = tests m d f (dir_of m path.dir) (file_at m (ByPath path)) t (is_path_taken m path)

-- no file is meant
pub source_absent : (m : Model) (target : Target) (path : Path) → file_at m target ≡ None → first_of (by_operands (copy_line target path) m) ≡ Some refusal.NoSuchName
source_absent m target path e =
    ap (λ f. at_operands m target path (dir_at m target) f (of_taken_name m (operand target no_directory))) e
    ∙ none_meant m (dir_at m target) (dir_of m path.dir) (file_at m (ByPath path)) (of_taken_name m (operand target no_directory)) (is_path_taken m path)

-- one is, and the others are the tests of its new place
pub source_found : (p : Pack) (target : Target) (path : Path) (f : Fid) → Sound p → file_at (read_as p) target ≡ Some f → first_of (by_operands (copy_line target path) (read_as p)) ≡ place_refusal (read_as p) f path
source_found p target path f sound e =
    let m = read_as p in
    let d = directory_of p target f sound e in
    ap (λ x. at_operands m target path (dir_at m target) x (of_taken_name m (operand target no_directory))) e
    ∙ ap (λ x. at_operands m target path x (Some f) (of_taken_name m (operand target no_directory))) d.is
    ∙ ap (at_operands m target path (Some d.dir) (Some f)) (not_taken m target)
    ∙ file_meant m d.dir f (dir_of m path.dir) (file_at m (ByPath path)) (is_path_taken m path) d.directory
