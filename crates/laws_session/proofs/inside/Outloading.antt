-- An `outload` that isn't refused: the world goes over a file of its length, into an empty file, or into a new one.
use Rattle.std.proofs.Common.{◌≡◌, ◌≤◌, ◌⊎◌, ℕ, ◌+◌, ◌==◌, ◌&&◌, ◌||◌, Bool, true, false, cond, not, List, [], ◌∷◌, ◌++◌, Option, Some, None, inl, inr, length, take, drop, refl, sym, subst, ◌∙◌, ap, arith, append_assoc, eqb-true, length-drop}
use Rattle.std.proofs.lemmas.List.{length-take}
use Rattle.std.specs.Option.{is_some, unwrap_or}
use Rattle.laws_line.specs.alto_words.specs.declared.fid.Fid.{Fid}
use Rattle.laws_line.specs.alto_words.specs.Fid.{disk_descriptor, is_directory, is_fid, sys_dir}
use Rattle.laws_line.specs.disk_records.proofs.Bytes.{length-bytes_of}
use Rattle.laws_line.specs.disk_records.specs.Packs.{Pack}
use Rattle.laws_line.specs.pack_model.specs.operations.Committing.{length_of}
use Rattle.laws_line.specs.pack_model.specs.operations.Step.{step}
use Rattle.laws_line.specs.pack_model.specs.operations.Step.Operation.{put, stamp}
use Rattle.laws_line.specs.pack_model.specs.reading.Model.{Model, read_as}
use Rattle.laws_line.specs.pack_model.specs.reading.Sights.{sights}
use Rattle.laws_line.specs.pack_model.specs.states.Sound.{Sound}
use Rattle.laws_line.specs.laws_record.proofs.DirReads.{has_leader}
use Rattle.laws_line.specs.laws_operation.proofs.Rows.{ordinary_length}
use Rattle.laws_line.specs.LineLaws.{LeaveNames, with_new_file}
use Rattle.laws_line.specs.Ready.{steps_of}
use Rattle.laws_line.specs.SoundLines.{IsKindOfLine, changes}
use Rattle.session_model.specs.exec_words.specs.declared.line.Line.{Line}
use Rattle.session_model.specs.exec_words.specs.declared.line.Line.TheVariants as line
use Rattle.session_model.specs.exec_words.specs.declared.line.Path.{Path}
use Rattle.session_model.specs.exec_words.specs.declared.line.Target.{Target}
use Rattle.session_model.specs.exec_words.specs.declared.line.Target.TheVariants.{ByPath}
use Rattle.session_model.specs.exec_words.specs.declared.reply.Refusal.TheVariants as refusal_is
use Rattle.session_model.specs.world_model.specs.Levels.{level_base}
use Rattle.session_model.specs.world_model.specs.StateFiles.{mark_begun, mark_whole, state_length}
use Rattle.session_model.specs.world_model.specs.ZoneWords.{memory_length}
use Rattle.session_model.specs.Effects.{appended_ops, made_ops, next_file, outload_ops, world_ops, world_puts}
use Rattle.session_model.specs.Finding.{dir_of, file_at, is_path_taken, is_there, name_given, the_dir, the_file}
use Rattle.session_model.specs.Operands.{Operand, world}
use Rattle.session_model.specs.Refusals.{missing_file, no_dir, takes_world, when_found, when_missing, wrong_kind, wrong_system}
use Rattle.session_model.specs.Streams.{grows, puts}
use Rattle.session_model.specs.Worlds.{World, memory_words, world_bytes}
use Rattle.laws_zone.proofs.levels.Laws.{bases_are_within}
use Rattle.laws_zone.proofs.memories.Laws.{zones_read_back}
use Rattle.laws_session.specs.UnrefusedLaws.{HasFile, IsUnrefused, MakesFile, OutLoadMayBegin, StatesStored, TakesWorld, ops_on}
use Rattle.laws_session.specs.ZoneLaws.{HasMemory}
use Rattle.laws_session.proofs.inside.Changing.{appended_leave, grows_leave, leave_then, length_put, length_puts, puts_leave}
use Rattle.laws_session.proofs.inside.Named.{meant_lives}
use Rattle.laws_session.proofs.inside.Newcomers.{below_most, gives_free_name, makes_file_of, next_ordinary, ordinary_may_stand, takes_name, unmarked}
use Rattle.laws_session.proofs.inside.OneFile.{IsThere, has_file, line_of, of_found}
use Rattle.laws_session.proofs.inside.Passing.{neither, passes, when_not}

-- ---- the file of a world
-- its bytes are two of the mark, two of the level, and those of the memory
world_length : (w : World) (mark : ℕ) → HasMemory w → length (world_bytes w mark) ≡ state_length
world_length w mark h =
    let words : length (memory_words w) ≡ memory_length = (zones_read_back (level_base w.level) w.user w.zone (bases_are_within w.level) h.user h.fills).memory_is.words in
    let bytes = length-bytes_of (mark ∷ w.level ∷ memory_words w) in
    omega (arith, words, bytes)

-- ---- over a world
-- the first page, the other pages, and the first page again: all within the file
over_leaves : (m : Model) (f : Fid) (begun whole : List ℕ) (moment : ℕ) → 512 ≤ length_of m f → length begun ≡ length_of m f → length whole ≡ length_of m f → LeaveNames m (world_puts f begun whole ++ stamp f moment ∷ [])
over_leaves m f begun whole moment least old new =
    let first = length-take 512 begun in
    let others = length-drop 512 whole in
    let last = length-take 512 whole in
    let m1 : Model = step m (put f 0 (take 512 begun)) in
    let same1 = length_put m f 0 (take 512 begun) (omega (arith, first, least, old)) in
    let m2 : Model = steps_of m1 (puts f 512 (drop 512 whole)) in
    let inside : 512 + length (drop 512 whole) ≤ length_of m1 f = omega (arith, others, same1, new, least) in
    let same2 = length_puts m1 f 512 (drop 512 whole) inside in (
      omega (arith, first, least, old),
      subst (LeaveNames m1) (sym (append_assoc (puts f 512 (drop 512 whole)) (put f 0 (take 512 whole) ∷ []) (stamp f moment ∷ [])))
          (leave_then m1 (puts f 512 (drop 512 whole)) (put f 0 (take 512 whole) ∷ stamp f moment ∷ []) (puts_leave m1 f 512 (drop 512 whole) inside) (omega (arith, last, same1, same2, least, new), (tt, tt))),
    )

-- ---- into a file that is there
-- no byte, or as many as a world has
abbrev TakesIt : ℕ → Type 0
TakesIt n = (n ≡ 0) ⊎ (n ≡ state_length)

takes_it : (n : ℕ) → takes_world n ≡ None → TakesIt n
takes_it n e = by (n == 0) (n == state_length) refl refl (when_not (not (n == 0 || n == state_length)) (refusal_is.NotAWorld n) e)
  where
    by : (a b : Bool) → (n == 0) ≡ a → (n == state_length) ≡ b → not (a || b) ≡ false → TakesIt n
    by true b x y k = inl (eqb-true n 0 x)
    by false true x y k = inr (eqb-true n state_length y)
    by false false x y k = absurd cc

written_leaves : (m : Model) (w : World) (f : Fid) → HasMemory w → TakesIt (length_of m f) → LeaveNames m (world_ops m w f ++ stamp f w.moment ∷ [])
written_leaves m w f h takes = by (length_of m f == 0) refl
  where
    over : (length_of m f == 0) ≡ false → TakesIt (length_of m f) → length_of m f ≡ state_length
    over e (inl none) = absurd (let clash : true ≡ false = sym (ap (λ n. n == 0) none) ∙ e in cc)
    over e (inr same) = same

    by : (b : Bool) → (length_of m f == 0) ≡ b → LeaveNames m (cond b (grows f (world_bytes w mark_whole)) (world_puts f (world_bytes w mark_begun) (world_bytes w mark_whole)) ++ stamp f w.moment ∷ [])
    by true e = leave_then m (grows f (world_bytes w mark_whole)) (stamp f w.moment ∷ []) (grows_leave m f (world_bytes w mark_whole)) (tt, tt)
    by false e =
        let same = over e takes in
        over_leaves m f (world_bytes w mark_begun) (world_bytes w mark_whole) w.moment (omega (arith, same)) (world_length w mark_begun h ∙ sym same) (world_length w mark_whole h ∙ sym same)

abbrev used : Path → Operand
used path = record { target = ByPath path; used = world }

-- the file that the path means
over_file : (p : Pack) (w : World) (path : Path) → Sound p → HasMemory w → IsUnrefused p w (line.OutLoad path) → is_there (read_as p) path ≡ true
    → HasFile p w (line.OutLoad path) (ByPath path) × TakesWorld p (the_file (read_as p) (ByPath path))
over_file p w path sound h none there =
    let l : Line = line.OutLoad path in
    let m : Model = read_as p in
    let target : Target = ByPath path in
    let f : Fid = the_file m target in
    let t = passes l m w none in
    let found : file_at m target ≡ Some f = some (file_at m target) there in
    let kinds = neither (no_dir m (used path)) (when_found (file_at m target) (wrong_kind world)) t.kinds.0 in
    let is : IsThere p target = record {
      found = found;
      file = record {
        no_directory = when_not (is_directory f) refusal_is.IsADirectory (of_found (file_at m target) (wrong_kind world) f found kinds.1);
        no_descriptor = when_not (is_fid f disk_descriptor) refusal_is.SystemFile (of_found (file_at m target) (wrong_system world) f found t.systems.0);
      };
      living = meant_lives p target f sound.whole found;
    } in
    let takes = takes_it (length_of m f) (of_found (file_at m target) (λ g. takes_world (length_of m g)) f found t.worlds) in
    let lead = has_leader (sights p) f is.living in
    let size = ordinary_length p.shape (sights p) f lead.0 lead.1 is.file in
    let done : IsKindOfLine m (outload_ops m w path) = subst (λ b. IsKindOfLine m (cond b (world_ops m w f ++ stamp f w.moment ∷ []) (made_ops m w path ++ appended_ops (next_file m) (world_bytes w mark_whole) w.moment))) (sym there)
    (changes (world_ops m w f ++ stamp f w.moment ∷ []) (written_leaves m w f h takes)) in
    (has_file p w l target is (line_of p w l none done), subst TakesIt size takes)
  where
    some : (r : Option Fid) → is_some r ≡ true → r ≡ Some (unwrap_or r sys_dir)
    some None e = absurd cc
    some (Some g) e = refl

-- ---- into a new file
new_world : (p : Pack) (w : World) (path : Path) → Sound p → StatesStored path.wanted → IsUnrefused p w (line.OutLoad path) → is_there (read_as p) path ≡ false
    → MakesFile p w (line.OutLoad path) (the_dir (read_as p) path) (name_given (read_as p) path) (next_file (read_as p))
new_world p w path sound stored none absent =
    let l : Line = line.OutLoad path in
    let m : Model = read_as p in
    let t = passes l m w none in
    let found = neither (when_missing (dir_of m path.dir) refusal_is.NoSuchName) (missing_file m (used path)) t.there.0 in
    let kinds = neither (no_dir m (used path)) (when_found (file_at m (ByPath path)) (wrong_kind world)) t.kinds.0 in
    let free : is_path_taken m path ≡ false = sym (ap (λ b. not b && is_path_taken m path) absent) ∙ when_not (not (is_there m path) && is_path_taken m path) refusal_is.NameTaken t.names.0 in
    let g = gives_free_name p path sound.whole t.typed stored found.0 kinds.0 free in
    let less = below_most l m (ap not absent) t.serials in
    let next = next_ordinary p sound.whole less in
    let takes = takes_name p (the_dir m path) path.wanted (name_given m path) (next_file m) sound g.directory g.living g.can g.new (ordinary_may_stand (the_dir m path) (next_file m) next.no_system (unmarked (m.last + 1) less)) in
    let bytes : List ℕ = world_bytes w mark_whole in
    makes_file_of p w l (the_dir m path) (name_given m path) (next_file m) (appended_ops (next_file m) bytes w.moment) sound.whole none next takes
    (appended_leave (with_new_file m (the_dir m path) (name_given m path) (next_file m) w.moment) (next_file m) bytes w.moment)
    (ap (λ b. cond b (world_ops m w (the_file m (ByPath path)) ++ stamp (the_file m (ByPath path)) w.moment ∷ []) (made_ops m w path ++ appended_ops (next_file m) bytes w.moment)) absent)

pub outload_may_begin : OutLoadMayBegin
outload_may_begin p w path sound h stored none =
    let over = over_file p w path sound h none in
    let new = new_world p w path sound stored none in
    record {
      is_line = by (is_there (read_as p) path) refl over new;
      over = λ e. (over e).0;
      size = λ e. (over e).1;
      new = new;
    }
  where
    l : Line
    l = line.OutLoad path

    by : (b : Bool) → is_there (read_as p) path ≡ b
        → (is_there (read_as p) path ≡ true → HasFile p w l (ByPath path) × TakesWorld p (the_file (read_as p) (ByPath path)))
        → (is_there (read_as p) path ≡ false → MakesFile p w l (the_dir (read_as p) path) (name_given (read_as p) path) (next_file (read_as p)))
        → IsKindOfLine (read_as p) (ops_on p w l)
    by true e over new = (over e).0.is_line
    by false e over new = (new e).is_line
