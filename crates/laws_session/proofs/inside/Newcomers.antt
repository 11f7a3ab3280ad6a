-- Lines by which a name comes, and aren't refused: the directory takes the name, and the full name is a new one.
use Rattle.std.proofs.Common.{◌≡◌, ◌≤◌, ◌<◌, ◌+◌, ◌==◌, ◌&&◌, ◌||◌, ℕ, Bool, true, false, cond, not, nat_le, nat_lt, List, [], ◌∷◌, ◌++◌, Option, Some, None, length, append_assoc, refl, sym, subst, ◌∙◌, ap, arith, le-leb, eqb-true, append-nil, length-append, zero, suc, ◌/◌}
use Rattle.std.proofs.lemmas.Bool.{lt-ltb}
use Rattle.std.specs.FinMap.{contains_key}
use Rattle.std.specs.List.{list_any}
use Rattle.std.specs.Option.{unwrap_or}
use Rattle.std.specs.Prelude.{is_none}
use Rattle.laws_line.specs.alto_words.proofs.Marks.{but_last-push}
use Rattle.laws_line.specs.alto_words.proofs.Names.{stem_of}
use Rattle.laws_line.specs.alto_words.proofs.Versions.{is_stored_name-fits}
use Rattle.laws_line.specs.alto_words.specs.declared.fid.Fid.{Fid}
use Rattle.laws_line.specs.alto_words.specs.declared.wanted.Wanted.{Wanted}
use Rattle.laws_line.specs.alto_words.specs.declared.wanted.Wanted.TheVariants.{Exact, Newest}
use Rattle.laws_line.specs.alto_words.specs.Fid.{directory_fid, disk_descriptor, is_directory, is_fid, is_full_name, is_system, ordinary_fid, serial_of, sys_dir}
use Rattle.laws_line.specs.alto_words.specs.Names.{is_bare_name, is_same_name, version_text, versioned}
use Rattle.laws_line.specs.alto_words.specs.Wanted.{base_wanted}
use Rattle.laws_line.specs.disk_records.specs.Packs.{Pack}
use Rattle.laws_line.specs.pack_model.specs.operations.Step.{Operation}
use Rattle.laws_line.specs.pack_model.specs.operations.Step.Operation.{enter, make}
use Rattle.laws_line.specs.pack_model.specs.reading.Files.{lives}
use Rattle.laws_line.specs.pack_model.specs.reading.Model.{Model, dir_items, read_as, root_items}
use Rattle.laws_line.specs.pack_model.specs.reading.Sights.{sights}
use Rattle.laws_line.specs.pack_model.specs.reading.Slots.{Item}
use Rattle.laws_line.specs.pack_model.specs.reading.Slots.Item.{entry, space}
use Rattle.laws_line.specs.pack_model.specs.reading.Versions.{exact, greatest_version, is_held, new_name}
use Rattle.laws_line.specs.pack_model.specs.states.Sound.{Sound}
use Rattle.laws_line.specs.pack_model.specs.states.Whole.{Whole}
use Rattle.laws_line.specs.pack_laws.proofs.Keys.{same_fid}
use Rattle.laws_line.specs.laws_record.proofs.Heads.{and_right}
use Rattle.laws_line.specs.laws_record.proofs.Tidying.{or_false, or_false_left}
use Rattle.laws_line.specs.laws_operation.proofs.places.Laws.{model_has_the_living, none_above_the_last_serial}
use Rattle.laws_line.specs.laws_operation.specs.EntryLaws.{HasName, is_of_another}
use Rattle.laws_lookup.proofs.names.Laws.{new_name_is_absent_in_the_model}
use Rattle.laws_lookup.specs.EnteringLaws.{IsEnterable}
use Rattle.laws_lookup.specs.NewNameLaws.{CanBeWanted}
use Rattle.laws_line.specs.laws_room.proofs.FreeRoom.{root_lives}
use Rattle.laws_line.proofs.after.Laws.{directories_are_read}
use Rattle.laws_line.specs.AfterLaws.{IsDirectory}
use Rattle.laws_line.specs.LineLaws.{IsEntered, LeaveNames, new_file_line, with_new_file}
use Rattle.laws_line.specs.SoundLines.{IsKindOfLine, comes, renamed}
use Rattle.session_model.specs.exec_words.specs.declared.line.Line.{Line}
use Rattle.session_model.specs.exec_words.specs.declared.line.Line.TheVariants as line
use Rattle.session_model.specs.exec_words.specs.declared.line.Path.{Path}
use Rattle.session_model.specs.exec_words.specs.declared.line.Target.TheVariants.{ByPath}
use Rattle.session_model.specs.exec_words.specs.declared.reply.Refusal.TheVariants as refusal_is
use Rattle.session_model.specs.exec_words.specs.Typed.{is_typed_dir, is_typed_file, is_typed_path, is_typed_wanted}
use Rattle.session_model.specs.Effects.{copied_ops, effect, new_file_ops, next_directory, next_file, widenings}
use Rattle.session_model.specs.Finding.{dir_of, file_at, is_dir_taken, is_path_taken, name_given, own_name, the_dir, the_file}
use Rattle.session_model.specs.Operands.{Operand, new_file}
use Rattle.session_model.specs.Refusals.{makes_file, missing, missing_file, most_serials, no_dir, of_taken_name, of_wrong_kind, spent, when_found, when_missing, wrong_kind}
use Rattle.session_model.specs.Streams.{bytes_in}
use Rattle.session_model.specs.Worlds.{World}
use Rattle.laws_session.specs.UnrefusedLaws.{CopyMayBegin, IsUnrefused, MakeDirMayBegin, MakeMayBegin, MakesFile, RenameMayBegin, StatesStored, TakesName}
use Rattle.laws_session.proofs.inside.Changing.{copied_leave}
use Rattle.laws_session.proofs.inside.Named.{dir_lives, entry_first, meant, wanted_among}
use Rattle.laws_session.proofs.inside.OneFile.{has_file, is_found, line_of, no_system_file, of_found, there}
use Rattle.laws_session.proofs.inside.Passing.{neither, passes, when_not}
use Rattle.laws_session.proofs.inside.Spacious.{room_after_widenings}

-- ---- a name in a directory
-- no entry has it, so that none of another file does
open_name : (f : Fid) (name : List ℕ) (is : List Item) → exact name is ≡ None → list_any (is_of_another f name) is ≡ false
open_name f name [] e = refl
open_name f name (space n ∷ is) e = open_name f name is e
open_name f name (entry g own ∷ is) e = by (is_same_name own name) refl e (open_name f name is)
  where
    by : (b : Bool) → is_same_name own name ≡ b → cond b (Some (g, own)) (exact name is) ≡ None → (exact name is ≡ None → list_any (is_of_another f name) is ≡ false) → ((not (is_fid g f) && is_same_name own name) || list_any (is_of_another f name) is) ≡ false
    by true k n more = absurd (let x : Some (g, own) ≡ None = n in cc)
    by false k n more = or_false (not (is_fid g f) && is_same_name own name) (list_any (is_of_another f name) is) (none (not (is_fid g f))) (more n)
      where
        none : (t : Bool) → (t && is_same_name own name) ≡ false
        none true = k
        none false = refl

-- a directory that lives is one of the model
in_model : (p : Pack) (d : Fid) → is_directory d ≡ true → lives (sights p) d ≡ true → IsDirectory (read_as p) d
in_model p d directory living = directories_are_read p d directory (model_has_the_living p d (other (is_fid d disk_descriptor) refl) ∙ living)
  where
    other : (b : Bool) → is_fid d disk_descriptor ≡ b → is_fid d disk_descriptor ≡ false
    other false e = e
    other true e = absurd (let clash : false ≡ true = sym (ap is_directory (same_fid d disk_descriptor e)) ∙ directory in cc)

-- the directory takes the name that a new entry gets
pub takes_name : (p : Pack) (d : Fid) (want : Wanted) (name : List ℕ) (f : Fid) → Sound p → is_directory d ≡ true → lives (sights p) d ≡ true → CanBeWanted want → new_name want (dir_items (read_as p) d) ≡ Some name → IsEnterable d f → TakesName p d name f
takes_name p d want name f sound directory living can new enterable =
    let absent = new_name_is_absent_in_the_model p d want name sound.tidy living directory can new in
    record {
      directory = directory;
      living = living;
      stored = absent.1;
      absent = absent.0;
      free = open_name f name (dir_items (read_as p) d) absent.0;
      enterable = enterable;
      place = room_after_widenings (read_as p) d name (in_model p d directory living) (is_stored_name-fits name absent.1);
    }

-- ---- the path of a new name
abbrev pub coming : Path → Operand
coming path = record { target = ByPath path; used = new_file }

can_be_wanted : (w : Wanted) → is_typed_wanted w ≡ true → StatesStored w → CanBeWanted w
can_be_wanted (Exact name) typed stored = stored
can_be_wanted (Newest base) typed stored = typed

is_so : (b : Bool) → not b ≡ false → b ≡ true
is_so true e = refl
is_so false e = absurd cc

name_is : (r : Option (List ℕ)) → is_none r ≡ false → r ≡ Some (unwrap_or r [])
name_is None e = absurd cc
name_is (Some x) e = refl

-- Its directory, and the name that it gives.
pub record GivesName (p : Pack) (path : Path) : Type 0 where
  pub directory : is_directory (the_dir (read_as p) path) ≡ true
  pub living : lives (sights p) (the_dir (read_as p) path) ≡ true
  pub can : CanBeWanted path.wanted
  pub new : new_name path.wanted (dir_items (read_as p) (the_dir (read_as p) path)) ≡ Some (name_given (read_as p) path)

-- it is there, and a directory, and the name isn't taken
pub gives_free_name : (p : Pack) (path : Path) → Whole p → is_typed_path path ≡ true → StatesStored path.wanted → when_missing (dir_of (read_as p) path.dir) refusal_is.NoSuchName ≡ None → no_dir (read_as p) (coming path) ≡ None → is_path_taken (read_as p) path ≡ false → GivesName p path
gives_free_name p path whole typed stored found kind free =
    let m : Model = read_as p in
    let d : Fid = the_dir m path in
    let is = is_found (dir_of m path.dir) refusal_is.NoSuchName found in
    record {
      directory = is_so (is_directory d) (when_not (not (is_directory d)) refusal_is.NotADirectory (of_found (dir_of m path.dir) (λ k. cond (not (is_directory k)) (Some refusal_is.NotADirectory) None) d is kind));
      living = dir_lives p path.dir d whole is;
      can = can_be_wanted path.wanted (and_right (is_typed_dir path.dir) (is_typed_wanted path.wanted) typed) stored;
      new = name_is (new_name path.wanted (dir_items m d)) (or_false_left (is_none (new_name path.wanted (dir_items m d))) (is_held (base_wanted path.wanted) (dir_items m d)) free);
    }

gives_name : (p : Pack) (path : Path) → Whole p → is_typed_path path ≡ true → StatesStored path.wanted → missing (read_as p) (coming path) ≡ None → of_wrong_kind (read_as p) (coming path) ≡ None → of_taken_name (read_as p) (coming path) ≡ None → GivesName p path
gives_name p path whole typed stored found kind taken =
    let m : Model = read_as p in
    gives_free_name p path whole typed stored
    (neither (when_missing (dir_of m path.dir) refusal_is.NoSuchName) (missing_file m (coming path)) found).0
    (neither (no_dir m (coming path)) (when_found (file_at m (ByPath path)) (wrong_kind new_file)) kind).0
    (when_not (is_path_taken m path) refusal_is.NameTaken taken)

-- ---- the next full name
-- A full name that can be given, with the serial after the last one.
pub record IsNext (p : Pack) (f : Fid) : Type 0 where
  pub full_name : is_full_name f ≡ true
  pub next : serial_of f ≡ (read_as p).last + 1
  pub fresh : lives (sights p) f ≡ false
  pub no_system : is_system f ≡ false

not_zero : (n k : ℕ) → n ≡ k + 1 → not (n == 0) ≡ true
not_zero n k e = by (n == 0) refl
  where
    by : (b : Bool) → (n == 0) ≡ b → not b ≡ true
    by false q = refl
    by true q = let z = eqb-true n 0 q in absurd (omega (arith, z, e))

pub is_next : (p : Pack) (f : Fid) → Whole p → f.version ≡ 1 → serial_of f ≡ (read_as p).last + 1 → IsNext p f
is_next p f whole version next =
    let fresh = none_above_the_last_serial p f whole (omega (arith, next)) in
    record {
      full_name = (λ i. nat_le 1 (version i) && nat_le (version i) 65534 && not_zero (serial_of f) (read_as p).last next i);
      next = next;
      fresh = fresh;
      no_system = or_false (is_fid f sys_dir) (is_fid f disk_descriptor) (apart sys_dir (root_lives p.shape (sights p) whole) fresh) (apart disk_descriptor whole.descriptor_lives fresh);
    }
  where
    apart : (g : Fid) → lives (sights p) g ≡ true → lives (sights p) f ≡ false → is_fid f g ≡ false
    apart g live dead = by (is_fid f g) refl
      where
        by : (b : Bool) → is_fid f g ≡ b → is_fid f g ≡ false
        by false e = e
        by true e = absurd (let clash : false ≡ true = sym dead ∙ ap (lives (sights p)) (same_fid f g e) ∙ live in cc)

-- a serial below 2^31 is that of its full names, and the directory's alone has the mark
ordinary_back : (s : ℕ) → s < 2147483648 → serial_of (ordinary_fid s) ≡ s
ordinary_back s less = omega arith

pub directory_back : (s : ℕ) → s < 2147483648 → serial_of (directory_fid s) ≡ s
directory_back s less = omega arith

pub unmarked : (s : ℕ) → s < 2147483648 → is_directory (ordinary_fid s) ≡ false
unmarked s less = by (s / 65536) (omega arith)
  where
    by : (h : ℕ) → h < 32768 → nat_le 32768 h ≡ false
    by h k = grind arith

-- there is a serial more
pub below_most : (l : Line) (m : Model) → makes_file l m ≡ true → spent l m ≡ None → m.last + 1 < 2147483648
unfolding most_serials
below_most l m makes e =
    let free = when_not (makes_file l m && nat_le 2147483646 m.last) (refusal_is.SerialsSpent m.last) e in
    let more : nat_le 2147483646 m.last ≡ false = sym (ap (λ b. b && nat_le 2147483646 m.last) makes) ∙ free in
    room m.last more
  where
    room : (n : ℕ) → nat_le 2147483646 n ≡ false → n + 1 < 2147483648
    room n k = grind arith

-- ---- the operations of a new file
-- a line with changes after its entry
filled_is_line : (m : Model) (d : Fid) (name : List ℕ) (f : Fid) (moment : ℕ) (rest : List Operation) → IsDirectory m d → length name ≤ 39 → contains_key m.files f ≡ false → LeaveNames (with_new_file m d name f moment) rest → IsKindOfLine m (new_file_ops m d name f moment ++ rest)
filled_is_line m d name f moment rest dir short new keeps =
    let same : new_file_ops m d name f moment ++ rest ≡ new_file_line m d name f moment rest =
    append_assoc (widenings m d name) (make f name moment ∷ enter d name f ∷ []) rest
    in
    subst (IsKindOfLine m) (sym same) (comes d name f moment rest dir short new keeps)

pub not_in_model : (p : Pack) (f : Fid) → Whole p → lives (sights p) f ≡ false → contains_key (read_as p).files f ≡ false
not_in_model p f whole fresh = model_has_the_living p f (by (is_fid f disk_descriptor) refl) ∙ fresh
  where
    by : (b : Bool) → is_fid f disk_descriptor ≡ b → is_fid f disk_descriptor ≡ false
    by false e = e
    by true e = absurd (let clash : false ≡ true = sym fresh ∙ ap (lives (sights p)) (same_fid f disk_descriptor e) ∙ whole.descriptor_lives in cc)

pub makes_file_of : (p : Pack) (w : World) (l : Line) (d : Fid) (name : List ℕ) (f : Fid) (rest : List Operation) → Whole p → IsUnrefused p w l → IsNext p f → TakesName p d name f → LeaveNames (with_new_file (read_as p) d name f w.moment) rest
    → (effect l (read_as p) w).ops ≡ new_file_ops (read_as p) d name f w.moment ++ rest → MakesFile p w l d name f
makes_file_of p w l d name f rest whole none next takes keeps are = record {
  full_name = next.full_name;
  next = next.next;
  fresh = next.fresh;
  no_system = next.no_system;
  entry = takes;
  is_line = line_of p w l none (subst (IsKindOfLine (read_as p)) (sym are)
      (filled_is_line (read_as p) d name f w.moment rest (in_model p d takes.directory takes.living) (is_stored_name-fits name takes.stored) (not_in_model p f whole next.fresh) keeps));
}

-- ---- the lines
-- an ordinary file may stand in any directory
pub ordinary_may_stand : (d f : Fid) → is_system f ≡ false → is_directory f ≡ false → IsEnterable d f
ordinary_may_stand d f system ordinary = record { no_system = system; in_root = λ e. absurd (let clash : false ≡ true = sym ordinary ∙ e in cc) }

pub next_ordinary : (p : Pack) → Whole p → (read_as p).last + 1 < 2147483648 → IsNext p (next_file (read_as p))
next_ordinary p whole less = is_next p (next_file (read_as p)) whole refl (ordinary_back ((read_as p).last + 1) less)

pub make_may_begin : MakeMayBegin
make_may_begin p w path sound stored none =
    let l : Line = line.Make path in
    let m : Model = read_as p in
    let t = passes l m w none in
    let g = gives_name p path sound.whole t.typed stored t.there.0 t.kinds.0 t.names.0 in
    let less = below_most l m refl t.serials in
    let next = next_ordinary p sound.whole less in
    let takes = takes_name p (the_dir m path) path.wanted (name_given m path) (next_file m) sound g.directory g.living g.can g.new (ordinary_may_stand (the_dir m path) (next_file m) next.no_system (unmarked (m.last + 1) less)) in
    makes_file_of p w l (the_dir m path) (name_given m path) (next_file m) [] sound.whole none next takes tt (sym (append-nil (new_file_ops m (the_dir m path) (name_given m path) (next_file m) w.moment)))

pub copy_may_begin : CopyMayBegin
copy_may_begin p w file path sound stored none =
    let l : Line = line.Copy file path in
    let m : Model = read_as p in
    let t = passes l m w none in
    let is = there p file sound.whole t.there.0 t.kinds.0 t.systems.0 in
    let g = gives_name p path sound.whole (and_right (is_typed_file file) (is_typed_path path) t.typed) stored t.there.1.0 t.kinds.1.0 t.names.1.0 in
    let less = below_most l m refl t.serials in
    let next = next_ordinary p sound.whole less in
    let takes = takes_name p (the_dir m path) path.wanted (name_given m path) (next_file m) sound g.directory g.living g.can g.new (ordinary_may_stand (the_dir m path) (next_file m) next.no_system (unmarked (m.last + 1) less)) in
    let bytes : List ℕ = bytes_in m (the_file m file) in
    let made = makes_file_of p w l (the_dir m path) (name_given m path) (next_file m) (copied_ops (next_file m) bytes w.moment) sound.whole none next takes (copied_leave (with_new_file m (the_dir m path) (name_given m path) (next_file m) w.moment) (next_file m) bytes w.moment) refl in
    (has_file p w l file is made.is_line, made)

-- a bare name is that of version 1
first_version : (name : List ℕ) → is_bare_name name ≡ true → versioned name 1 ≡ name
first_version name bare = let s = stem_of name bare in ap (λ t. versioned t 1) s.is ∙ ap (λ t. t ++ version_text 1 ++ (46 ∷ [])) (but_last-push s.stem 46) ∙ ap (λ t. t ++ (46 ∷ [])) (append-nil s.stem) ∙ sym s.is

free_base : (name : List ℕ) (is : List Item) → is_bare_name name ≡ true → nat_lt 0 (greatest_version name is) ≡ false → new_name (Newest name) is ≡ Some name
free_base name is bare free =
    let zero_is : greatest_version name is ≡ 0 = none (greatest_version name is) free in
    ap (λ v. cond (nat_lt v 65534) (cond (nat_le (length (versioned name (v + 1))) 39) (Some (versioned name (v + 1))) None) None) zero_is
    ∙ ap (λ t. cond (nat_le (length t) 39) (Some t) None) (first_version name bare)
    ∙ ap (λ b. cond b (Some name) None) (le-leb (length name) 39 short)
  where
    none : (v : ℕ) → nat_lt 0 v ≡ false → v ≡ 0
    none zero e = refl
    none (suc v) e = absurd (let clash : true ≡ false = sym (lt-ltb 0 (suc v) (omega arith)) ∙ e in cc)

    short : length name ≤ 39
    short = let s = stem_of name bare in let e = ap length s.is in omega (arith, s.most, e, length-append s.stem (46 ∷ []))

pub make_dir_may_begin : MakeDirMayBegin
make_dir_may_begin p w name sound none =
    let l : Line = line.MakeDir name in
    let m : Model = read_as p in
    let t = passes l m w none in
    let free = when_not (is_dir_taken m name) refusal_is.NameTaken t.names.0 in
    let less = below_most l m refl t.serials in
    let next = is_next p (next_directory m) sound.whole refl (directory_back (m.last + 1) less) in
    let takes = takes_name p sys_dir (Newest name) name (next_directory m) sound refl (root_lives p.shape (sights p) sound.whole) t.typed (free_base name (root_items m) t.typed free) (record { no_system = next.no_system; in_root = λ e. refl }) in
    makes_file_of p w l sys_dir name (next_directory m) [] sound.whole none next takes tt (sym (append-nil (new_file_ops m sys_dir name (next_directory m) w.moment)))

-- ---- a file is renamed
has_own : (m : Model) (d : Fid) (own : List ℕ) (f : Fid) → IsEntered m d own f → HasName m d own f
has_own m d own f e = record { before = e.before; behind = e.behind; own = e.own; items = e.items_are; same = e.same }

-- the entry of the file that a path means
own_entry : (p : Pack) (path : Path) (f : Fid) → file_at (read_as p) (ByPath path) ≡ Some f → IsEntered (read_as p) (the_dir (read_as p) path) (own_name (read_as p) path) f
own_entry p path f e =
    let m : Model = read_as p in
    let k = meant m path f e in
    let among = wanted_among path.wanted (dir_items m k.dir) f k.own k.is in
    let dir : k.dir ≡ the_dir m path = ap (λ r. unwrap_or r sys_dir) (sym k.dir_is) in
    let name : k.own ≡ own_name m path = sym (k.own_is) in
    subst (λ n. IsEntered m (the_dir m path) n f) name (subst (λ d. IsEntered m d k.own f) dir (entry_first p k.dir f k.own among))

pub rename_may_begin : RenameMayBegin
rename_may_begin p w old new sound stored none =
    let l : Line = line.Rename old new in
    let m : Model = read_as p in
    let f : Fid = the_file m (ByPath old) in
    let t = passes l m w none in
    let is = there p (ByPath old) sound.whole t.there.0 t.kinds.0 t.systems.0 in
    let g = gives_name p new sound.whole (and_right (is_typed_path old) (is_typed_path new) t.typed) stored t.there.1.0 t.kinds.1.0 t.names.1.0 in
    let system = no_system_file f is.file.no_directory is.file.no_descriptor in
    let takes = takes_name p (the_dir m new) new.wanted (name_given m new) f sound g.directory g.living g.can g.new (ordinary_may_stand (the_dir m new) f system is.file.no_directory) in
    let entered = own_entry p old f is.found in
    record {
      file = has_file p w l (ByPath old) is (line_of p w l none
          (renamed (the_dir m old) (own_name m old) (the_dir m new) (name_given m new) f (in_model p (the_dir m new) g.directory g.living) entered (is_stored_name-fits (name_given m new) takes.stored) system));
      named = has_own m (the_dir m old) (own_name m old) f entered;
      entry = takes;
    }
