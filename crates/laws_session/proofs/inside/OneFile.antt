-- Lines on one file that aren't refused: the file is there, and their operations are lines.
use Rattle.std.proofs.Common.{◌≡◌, ◌≤◌, ◌+◌, ◌||◌, ℕ, Bool, true, false, not, nat_lt, List, [], ◌∷◌, Option, Some, None, length, refl, sym, subst, ◌∙◌, ap, arith}
use Rattle.std.proofs.lemmas.Bool.{lt-ltb}
use Rattle.std.specs.Option.{unwrap_or}
use Rattle.laws_line.specs.alto_words.specs.declared.fid.Fid.{Fid}
use Rattle.laws_line.specs.alto_words.specs.Fid.{disk_descriptor, is_directory, is_fid, is_system, sys_dir}
use Rattle.laws_line.specs.disk_records.specs.Packs.{Pack}
use Rattle.laws_line.specs.pack_model.specs.operations.Committing.{length_of}
use Rattle.laws_line.specs.pack_model.specs.operations.Step.Operation.{drop_file}
use Rattle.laws_line.specs.pack_model.specs.reading.Files.{lives}
use Rattle.laws_line.specs.pack_model.specs.reading.Model.{Model, dir_items, read_as}
use Rattle.laws_line.specs.pack_model.specs.reading.Namings.{Naming, namings_in}
use Rattle.laws_line.specs.pack_model.specs.reading.Sights.{sights}
use Rattle.laws_line.specs.pack_model.specs.states.Sound.{Sound}
use Rattle.laws_line.specs.pack_model.specs.states.Whole.{Whole}
use Rattle.laws_line.specs.pack_laws.proofs.Keys.{same_fid}
use Rattle.laws_line.specs.laws_record.proofs.DirReads.{has_leader}
use Rattle.laws_line.specs.laws_record.proofs.Tidying.{or_false, or_false_left, or_false_right}
use Rattle.laws_line.specs.laws_operation.proofs.Rows.{ordinary_length}
use Rattle.laws_line.specs.laws_operation.specs.ByteLaws.{IsOrdinary}
use Rattle.laws_lookup.proofs.dropping.Laws.{bare_file_may_be_dropped, ordinary_file_is_bare}
use Rattle.laws_lookup.specs.DropLaws.{IsBare}
use Rattle.laws_line.specs.SoundLines.{IsKindOfLine, changes, goes}
use Rattle.session_model.specs.exec_words.specs.declared.line.Line.{Line}
use Rattle.session_model.specs.exec_words.specs.declared.line.Line.TheVariants as line
use Rattle.session_model.specs.exec_words.specs.declared.line.Target.{Target}
use Rattle.session_model.specs.exec_words.specs.declared.line.Target.TheVariants.{ByPath}
use Rattle.session_model.specs.exec_words.specs.declared.reply.Refusal.{Refusal}
use Rattle.session_model.specs.exec_words.specs.declared.reply.Refusal.TheVariants as refusal_is
use Rattle.session_model.specs.Effects.{appended_ops, cut_ops, effect}
use Rattle.session_model.specs.Finding.{file_at, has_entry, the_file}
use Rattle.session_model.specs.Operands.{Operand, in_root, no_directory, removed}
use Rattle.session_model.specs.Refusals.{dir_at, left_in, missing, no_dir, of_system, of_wrong_kind, when_beyond, when_found, when_missing, wrong_kind, wrong_system}
use Rattle.session_model.specs.Streams.{puts}
use Rattle.session_model.specs.Worlds.{World}
use Rattle.laws_session.specs.UnrefusedLaws.{AppendMayBegin, CutMayBegin, DeleteMayBegin, DropsFile, HasFile, IsUnrefused, PatchMayBegin, Reaches, RemoveDirMayBegin, ops_on}
use Rattle.laws_session.proofs.inside.Changing.{appended_leave, cut_leaves, puts_leave}
use Rattle.laws_session.proofs.inside.Named.{meant_lives}
use Rattle.laws_session.proofs.inside.Passing.{neither, ops_done, passes, when_not}

-- ---- the file that an operand means
pub is_found : (r : Option Fid) (x : Refusal) → when_missing r x ≡ None → r ≡ Some (unwrap_or r sys_dir)
is_found None x e = absurd (let n : Some x ≡ None = e in cc)
is_found (Some f) x e = refl

-- what a test says of a file that was found
pub of_found : (r : Option Fid) (test : Fid → Option Refusal) (f : Fid) → r ≡ Some f → when_found r test ≡ None → test f ≡ None
of_found r test f is e = sym (ap (λ k. when_found k test) is) ∙ e

-- no directory, so that it isn't SysDir
pub no_system_file : (f : Fid) → is_directory f ≡ false → is_fid f disk_descriptor ≡ false → is_system f ≡ false
no_system_file f ordinary other = or_false (is_fid f sys_dir) (is_fid f disk_descriptor) (by (is_fid f sys_dir) refl) other
  where
    by : (b : Bool) → is_fid f sys_dir ≡ b → is_fid f sys_dir ≡ false
    by false e = e
    by true e = absurd (let clash : true ≡ false = sym (ap is_directory (same_fid f sys_dir e)) ∙ ordinary in cc)

-- The operand means a living file, which is no directory and isn't DiskDescriptor.
pub record IsThere (p : Pack) (target : Target) : Type 0 where
  pub found : file_at (read_as p) target ≡ Some (the_file (read_as p) target)
  pub file : IsOrdinary (the_file (read_as p) target)
  pub living : lives (sights p) (the_file (read_as p) target) ≡ true

-- an operand that no test refuses
abbrev pub plain : Target → Operand
plain target = record { target = target; used = no_directory }

pub there : (p : Pack) (target : Target) → Whole p → missing (read_as p) (plain target) ≡ None → of_wrong_kind (read_as p) (plain target) ≡ None → of_system (read_as p) (plain target) ≡ None → IsThere p target
there p target whole found kind system =
    let m : Model = read_as p in
    let f : Fid = the_file m target in
    let is = is_found (file_at m target) refusal_is.NoSuchName (neither (when_missing (dir_at m target) refusal_is.NoSuchName) (when_missing (file_at m target) refusal_is.NoSuchName) found).1 in
    let kinds = neither (no_dir m (plain target)) (when_found (file_at m target) (wrong_kind no_directory)) kind in
    record {
      found = is;
      file = record {
        no_directory = when_not (is_directory f) refusal_is.IsADirectory (of_found (file_at m target) (wrong_kind no_directory) f is kinds.1);
        no_descriptor = when_not (is_fid f disk_descriptor) refusal_is.SystemFile (of_found (file_at m target) (wrong_system no_directory) f is system);
      };
      living = meant_lives p target f whole is;
    }

pub has_file : (p : Pack) (w : World) (l : Line) (target : Target) → IsThere p target → IsKindOfLine (read_as p) (ops_on p w l) → HasFile p w l target
has_file p w l target t is = record { found = t.found; file = t.file; living = t.living; is_line = is }

-- the operations of a line that isn't refused are such as those of its effect
pub line_of : (p : Pack) (w : World) (l : Line) → IsUnrefused p w l → IsKindOfLine (read_as p) (effect l (read_as p) w).ops → IsKindOfLine (read_as p) (ops_on p w l)
line_of p w l none is = subst (IsKindOfLine (read_as p)) (sym (ops_done l (read_as p) w none)) is

-- ---- lengths
-- the bytes are there
reaches : (p : Pack) (target : Target) (n : ℕ) → IsThere p target → when_found (file_at (read_as p) target) (λ f. when_beyond (length_of (read_as p) f) n) ≡ None
    → (n ≤ length_of (read_as p) (the_file (read_as p) target)) × Reaches p target n
reaches p target n t e =
    let m : Model = read_as p in
    let f : Fid = the_file m target in
    let lead = has_leader (sights p) f t.living in
    let size = ordinary_length p.shape (sights p) f lead.0 lead.1 t.file in
    let least = enough (length_of m f) n (when_not (nat_lt (length_of m f) n) (refusal_is.Beyond (length_of m f)) (of_found (file_at m target) (λ g. when_beyond (length_of m g) n) f t.found e)) in
    (least, omega (arith, size, least))
  where
    enough : (a b : ℕ) → nat_lt a b ≡ false → b ≤ a
    enough a b k = grind arith

-- ---- lines that change it
pub append_may_begin : AppendMayBegin
append_may_begin p w file bytes sound none =
    let l : Line = line.Append file bytes in
    let m : Model = read_as p in
    let t = passes l m w none in
    has_file p w l file (there p file sound.whole t.there.0 t.kinds.0 t.systems.0)
    (line_of p w l none (changes (appended_ops (the_file m file) bytes w.moment) (appended_leave m (the_file m file) bytes w.moment)))

pub patch_may_begin : PatchMayBegin
patch_may_begin p w file offset bytes sound none =
    let l : Line = line.Patch file offset bytes in
    let m : Model = read_as p in
    let t = passes l m w none in
    let is = there p file sound.whole t.there.0 t.kinds.0 t.systems.0 in
    let r = reaches p file (offset + length bytes) is t.within in
    (has_file p w l file is (line_of p w l none (changes (puts (the_file m file) offset bytes) (puts_leave m (the_file m file) offset bytes r.0))), r.1)

pub cut_may_begin : CutMayBegin
cut_may_begin p w file n sound none =
    let l : Line = line.Cut file n in
    let m : Model = read_as p in
    let t = passes l m w none in
    let is = there p file sound.whole t.there.0 t.kinds.0 t.systems.0 in
    let r = reaches p file n is t.within in
    (has_file p w l file is (line_of p w l none (changes (cut_ops m (the_file m file) n w.moment) (cut_leaves m (the_file m file) n w.moment))), r.1)

-- ---- lines by which a file goes
drops_file : (p : Pack) (w : World) (l : Line) (f : Fid) → Sound p → lives (sights p) f ≡ true → is_system f ≡ false → IsBare p f → IsUnrefused p w l → (effect l (read_as p) w).ops ≡ drop_file f ∷ [] → DropsFile p w l f
drops_file p w l f sound living system bare none are = record {
  living = living;
  no_system = system;
  bare = bare;
  drop = bare_file_may_be_dropped p f sound.whole living system bare;
  is_line = line_of p w l none (subst (IsKindOfLine (read_as p)) (sym are) (goes f (record { no_system = system; bare = bare })));
}

pub delete_may_begin : DeleteMayBegin
delete_may_begin p w path sound none =
    let l : Line = line.Delete path in
    let m : Model = read_as p in
    let f : Fid = the_file m (ByPath path) in
    let t = passes l m w none in
    let is = there p (ByPath path) sound.whole t.there.0 t.kinds.0 t.systems.0 in
    let d = drops_file p w l f sound is.living (no_system_file f is.file.no_directory is.file.no_descriptor) (ordinary_file_is_bare p f sound.tidy is.file.no_directory) none refl in
    (has_file p w l (ByPath path) is d.is_line, d)

-- a directory that is to go
abbrev going : List ℕ → Operand
going name = record { target = ByPath (in_root name); used = removed }

none_listed : (ns : List Naming) → nat_lt 0 (length ns) ≡ false → ns ≡ []
none_listed [] e = refl
none_listed (n ∷ ns) e = absurd (let clash : true ≡ false = sym (lt-ltb 0 (length (n ∷ ns)) (omega arith)) ∙ e in cc)

is_so : (b : Bool) → not b ≡ false → b ≡ true
is_so true e = refl
is_so false e = absurd cc

pub remove_dir_may_begin : RemoveDirMayBegin
remove_dir_may_begin p w name sound none =
    let l : Line = line.RemoveDir name in
    let m : Model = read_as p in
    let target : Target = ByPath (in_root name) in
    let f : Fid = the_file m target in
    let t = passes l m w none in
    let is = is_found (file_at m target) refusal_is.NoSuchName (neither (when_missing (dir_at m target) refusal_is.NoSuchName) (when_missing (file_at m target) refusal_is.NoSuchName) t.there.0).1 in
    let kinds = neither (no_dir m (going name)) (when_found (file_at m target) (wrong_kind removed)) t.kinds.0 in
    let directory = is_so (is_directory f) (when_not (not (is_directory f)) refusal_is.NotADirectory (of_found (file_at m target) (wrong_kind removed) f is kinds.1)) in
    let system = when_not (is_fid f disk_descriptor || is_fid f sys_dir) refusal_is.SystemFile (of_found (file_at m target) (wrong_system removed) f is t.systems.0) in
    let empty = when_not (has_entry m f) refusal_is.NotEmpty (of_found (file_at m target) (left_in m removed) f is t.empty.0) in
    let other : is_system f ≡ false = or_false (is_fid f sys_dir) (is_fid f disk_descriptor) (or_false_right (is_fid f disk_descriptor) (is_fid f sys_dir) system) (or_false_left (is_fid f disk_descriptor) (is_fid f sys_dir) system) in
    (directory, drops_file p w l f sound (meant_lives p target f sound.whole is) other (none_listed (namings_in f (dir_items m f)) empty) none refl)
