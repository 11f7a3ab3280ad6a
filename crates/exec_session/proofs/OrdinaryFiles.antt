-- The tests of an operand that has to be an ordinary file, in their order.
use Rattle.std.proofs.Common.{◌≡◌, Bool, true, false, not, [], ◌∷◌, Option, Some, None, Result, Ok, Err, refl, sym, ap, ◌∙◌}
use Rattle.std.specs.Option.{option_or}
use Rattle.std.specs.Result.{IsErrAnd}
use Rattle.alto_words.specs.declared.fid.Fid.{Fid}
use Rattle.alto_words.specs.Fid.{disk_descriptor, is_directory, is_fid, sys_dir}
use Rattle.disk_records.specs.Packs.{Pack}
use Rattle.pack_model.specs.reading.Files.{first}
use Rattle.pack_model.specs.reading.Model.{read_as}
use Rattle.pack_model.specs.states.Sound.{Sound}
use Rattle.exec_words.specs.declared.line.Target.{Target}
use Rattle.exec_words.specs.declared.line.Target.TheVariants.{ByPath, BySerial}
use Rattle.exec_words.specs.declared.reply.Refusal.{Refusal}
use Rattle.exec_words.specs.declared.reply.Refusal.TheVariants as refusal
use Rattle.session_model.specs.Finding.{dir_of, entry_in, fid_of, file_at}
use Rattle.session_model.specs.Operands.{no_directory}
use Rattle.session_model.specs.Refusals.{dir_at, when, when_found, when_missing, wrong_kind, wrong_system}
use Rattle.exec_session.specs.declared.stop.Stop.{Stop}
use Rattle.exec_session.specs.declared.stop.Stop.TheVariants as stop
use Rattle.exec_session.specs.Found.{operand, operand_refusal}
use Rattle.exec_session.specs.Meant.{IfRefused}
use Rattle.exec_session.specs.Stops.{refused_if}
use Rattle.exec_session.proofs.Finding.{nothing_wanted}
use Rattle.exec_session.proofs.Stopping.{error_is, refused_as}

-- ---- the tests, by the directory and the file that are meant
abbrev tests_of : Option Fid → Option Fid → Option Refusal
tests_of d f = first (λ r. r) (
    option_or (when_missing d refusal.NoSuchName) (when_missing f refusal.NoSuchName)
    ∷ option_or (when_found d (λ x. when (not (is_directory x)) refusal.NotADirectory)) (when_found f (wrong_kind no_directory))
    ∷ when_found f (wrong_system no_directory)
    ∷ [])

none_meant : (d : Option Fid) → tests_of d None ≡ Some refusal.NoSuchName
unfolding first
none_meant None = refl
none_meant (Some d) = refl

file_meant : (d f : Fid) → is_directory d ≡ true → tests_of (Some d) (Some f) ≡ option_or (when (is_directory f) refusal.IsADirectory) (when (is_fid f disk_descriptor) refusal.SystemFile)
unfolding first
file_meant d f directory = by (is_directory d) (is_directory f) (is_fid f disk_descriptor) directory
  where
    by : (a b c : Bool) → a ≡ true → option_or (option_or (when (not a) refusal.NotADirectory) (when b refusal.IsADirectory)) (option_or (when c refusal.SystemFile) None) ≡ option_or (when b refusal.IsADirectory) (when c refusal.SystemFile)
    by true true c e = refl
    by true false true e = refl
    by true false false e = refl
    by false b c e = absurd (let n : false ≡ true = e in cc)

-- ---- the directory of a file that is meant
pub record HasDirectory (p : Pack) (target : Target) : Type 0 where
  pub dir : Fid
  pub is : dir_at (read_as p) target ≡ Some dir
  pub directory : is_directory dir ≡ true

pub directory_of : (p : Pack) (target : Target) (f : Fid) → Sound p → file_at (read_as p) target ≡ Some f → HasDirectory p target
directory_of p (ByPath path) f sound e = by (dir_of (read_as p) path.dir) refl e
  where
    by : (r : Option Fid) → dir_of (read_as p) path.dir ≡ r → fid_of (entry_in (read_as p) path r) ≡ Some f → HasDirectory p (ByPath path)
    by None is k = absurd (let n : None ≡ Some f = k in cc)
    by (Some d) is k = kind (is_directory d) refl
      where
        kind : (t : Bool) → is_directory d ≡ t → HasDirectory p (ByPath path)
        kind true q = record { dir = d; is = is; directory = q }
        kind false q = absurd (let n : None ≡ Some f = sym (ap fid_of (nothing_wanted p d path.wanted sound q)) ∙ k in cc)
directory_of p (BySerial n) f sound e = record { dir = sys_dir; is = refl; directory = refl }

-- ---- what is refused
pub absent_refused : (p : Pack) (target : Target) → file_at (read_as p) target ≡ None → operand_refusal p (operand target no_directory) ≡ Some refusal.NoSuchName
absent_refused p target e = ap (tests_of (dir_at (read_as p) target)) e ∙ none_meant (dir_at (read_as p) target)

found_refusal : (p : Pack) (target : Target) (f : Fid) → Sound p → file_at (read_as p) target ≡ Some f → operand_refusal p (operand target no_directory) ≡ option_or (when (is_directory f) refusal.IsADirectory) (when (is_fid f disk_descriptor) refusal.SystemFile)
found_refusal p target f sound e =
    let d = directory_of p target f sound e in
    ap (tests_of (dir_at (read_as p) target)) e ∙ ap (λ x. tests_of x (Some f)) d.is ∙ file_meant d.dir f d.directory

pub by_test : (b : Bool) (s : Stop) (x : Refusal) → ◌≡◌ {A = Result (Unit {0}) Stop} (Err s) (refused_if b x) → (b ≡ true) × (s ≡ stop.Refused x)
by_test true s x e = (refl, let n : ◌≡◌ {A = Result (Unit {0}) Stop} (Err s) (Err (stop.Refused x)) = e in cc)
by_test false s x e = absurd (let n : ◌≡◌ {A = Result (Unit {0}) Stop} (Err s) (Ok tt) = e in cc)

pub ok_test : (b : Bool) (u : Unit {0}) (x : Refusal) → ◌≡◌ {A = Result (Unit {0}) Stop} (Ok u) (refused_if b x) → b ≡ false
ok_test true u x e = absurd (let n : ◌≡◌ {A = Result (Unit {0}) Stop} (Ok u) (Err (stop.Refused x)) = e in cc)
ok_test false u x e = refl

module _ (p : Pack) (target : Target) (f : Fid) (sound : Sound p) (e : file_at (read_as p) target ≡ Some f) where
  abbrev IsIts : Refusal → Type 0
  IsIts r = operand_refusal p (operand target no_directory) ≡ Some r

  pub directory_refused : {U : Type 0} (s : Stop) (r : Result U Stop) → ◌≡◌ {A = Result (Unit {0}) Stop} (Err s) (refused_if (is_directory f) refusal.IsADirectory) → IsErrAnd r (λ x. x ≡ s) → IfRefused r IsIts
  directory_refused s r is passed =
      let t = by_test (is_directory f) s refusal.IsADirectory is in
      refused_as IsIts r refusal.IsADirectory (error_is r passed ∙ ap Err t.1)
      (found_refusal p target f sound e ∙ ap (λ b. option_or (when b refusal.IsADirectory) (when (is_fid f disk_descriptor) refusal.SystemFile)) t.0)

  pub descriptor_refused : {U : Type 0} (u : Unit {0}) (s : Stop) (r : Result U Stop) → ◌≡◌ {A = Result (Unit {0}) Stop} (Ok u) (refused_if (is_directory f) refusal.IsADirectory) → ◌≡◌ {A = Result (Unit {0}) Stop} (Err s) (refused_if (is_fid f disk_descriptor) refusal.SystemFile) → IsErrAnd r (λ x. x ≡ s) → IfRefused r IsIts
  descriptor_refused u s r ordinary is passed =
      let t = by_test (is_fid f disk_descriptor) s refusal.SystemFile is in
      refused_as IsIts r refusal.SystemFile (error_is r passed ∙ ap Err t.1)
      (found_refusal p target f sound e ∙ ap (λ b. option_or (when b refusal.IsADirectory) (when (is_fid f disk_descriptor) refusal.SystemFile)) (ok_test (is_directory f) u refusal.IsADirectory ordinary) ∙ ap (λ b. when b refusal.SystemFile) t.0)

  pub none_refused : (u v : Unit {0}) → ◌≡◌ {A = Result (Unit {0}) Stop} (Ok u) (refused_if (is_directory f) refusal.IsADirectory) → ◌≡◌ {A = Result (Unit {0}) Stop} (Ok v) (refused_if (is_fid f disk_descriptor) refusal.SystemFile) → operand_refusal p (operand target no_directory) ≡ None
  none_refused u v ordinary other =
      found_refusal p target f sound e
      ∙ ap (λ b. option_or (when b refusal.IsADirectory) (when (is_fid f disk_descriptor) refusal.SystemFile)) (ok_test (is_directory f) u refusal.IsADirectory ordinary)
      ∙ ap (λ b. when b refusal.SystemFile) (ok_test (is_fid f disk_descriptor) v refusal.SystemFile other)
