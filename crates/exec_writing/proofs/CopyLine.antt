-- `copy` as a line: its operations, its refusals for the serial and the room, and how it ends from where its sectors are reserved.
use Rattle.std.proofs.Common.{◌≡◌, ◌≤◌, ◌<◌, ◌+◌, ◌/◌, ◌++◌, ℕ, All, Bool, true, false, nat_le, List, [], ◌∷◌, Option, Some, None, Result, Ok, Err, Contains, min, append-nil, get_or, length, length-append, refl, sym, subst, ap, ◌∙◌, arith, suc, zero}
use Rattle.std.specs.Option.{is_some, unwrap_or}
use Rattle.alto_words.specs.Fid.{is_directory, sys_dir}
use Rattle.alto_words.specs.declared.fid.Fid.{Fid}
use Rattle.disk_records.proofs.Growing.{pack-silent}
use Rattle.disk_records.specs.Addresses.{pages_of}
use Rattle.disk_records.specs.Packs.{Pack, is_free_at, sector_at}
use Rattle.disk_records.specs.Tapes.{DiskAlone, Taped, added, pack}
use Rattle.disk_records.specs.declared.records.Event.{Event}
use Rattle.disk_records.specs.declared.records.Page.{Page}
use Rattle.disk_records.specs.declared.records.Place.{Place}
use Rattle.exec_session.specs.hint_cache.specs.declared.hints.Hints.{Hints}
use Rattle.exec_words.specs.declared.line.Line.{Line}
use Rattle.exec_words.specs.declared.line.Line.TheVariants as line
use Rattle.exec_words.specs.declared.line.Path.{Path}
use Rattle.exec_words.specs.declared.line.Target.{Target}
use Rattle.exec_words.specs.declared.reply.Refusal.{Refusal}
use Rattle.exec_words.specs.declared.reply.Reply.TheVariants as reply
use Rattle.exec_session.specs.laws_call.specs.SoundCalls.{LineFits}
use Rattle.exec_session.specs.laws_contents.proofs.model.Laws.{ordinary_file_is_its_pages}
use Rattle.laws_hint.specs.MapMeanings.{HasEachSector}
use Rattle.laws_hint.specs.TableLaws.{TableReserves}
use Rattle.exec_session.specs.laws_line.specs.Ready.{steps_of}
use Rattle.exec_session.specs.laws_line.specs.SoundLines.{IsKindOfLine}
use Rattle.exec_session.specs.laws_midway.proofs.found.Laws.{found_file_lives}
use Rattle.laws_operation.proofs.places.Laws.{file_lives_in_a_place}
use Rattle.laws_operation.specs.ByteLaws.{IsOrdinary}
use Rattle.exec_session.specs.laws_record.proofs.FilePages.{changed_pages}
use Rattle.exec_session.specs.laws_room.proofs.rooms.Laws.{free_is_the_room}
use Rattle.exec_session.specs.laws_session.proofs.unrefused.Laws.{copy_may_begin, unrefused_lines_have_their_pages}
use Rattle.exec_session.specs.laws_session.specs.UnrefusedLaws.{MakesFile}
use Rattle.exec_session.specs.laws_steps.proofs.hints.Laws.{no_hint_means_an_absent_file}
use Rattle.exec_session.specs.laws_steps.proofs.lengths.Laws.{new_file_is_empty}
use Rattle.exec_session.specs.laws_steps.proofs.parts.Laws.{pages_of_both_parts}
use Rattle.exec_session.specs.pack_laws.proofs.Sighted.{length-sights}
use Rattle.page_alloc.specs.Free.{IsReserved}
use Rattle.page_seeking.specs.Refs.{MisledBy}
use Rattle.page_seeking.specs.Seeking.{file_length}
use Rattle.pack_model.specs.hints.Tables.{TableTrue}
use Rattle.pack_model.specs.operations.Committing.{length_of, pages_added, pages_for_operations}
use Rattle.pack_model.specs.operations.Step.Operation.{enter, make}
use Rattle.pack_model.specs.operations.Step.{Operation}
use Rattle.pack_model.specs.reading.Bodies.Body.{data_of}
use Rattle.pack_model.specs.reading.Files.{file_bytes, lives, place}
use Rattle.pack_model.specs.reading.Leaders.{leader_of}
use Rattle.pack_model.specs.reading.Model.{Model, dir_items, good_one, good_sectors, read_as, read_sights, room}
use Rattle.pack_model.specs.reading.Sights.{Sight, sights}
use Rattle.pack_model.specs.reading.Sights.Sight.{free, hidden, holds, leads, stray}
use Rattle.pack_model.specs.reading.Versions.{new_name}
use Rattle.pack_model.specs.sessions.Descriptor.{DescriptorFits}
use Rattle.pack_model.specs.states.InUse.{free_sector_count}
use Rattle.pack_model.specs.states.Sound.{Sound}
use Rattle.session_model.specs.Answering.{plain_reply}
use Rattle.session_model.specs.Effects.{copied_ops, effect, next_file, widenings}
use Rattle.session_model.specs.Finding.{dir_of, name_given, the_dir, the_file}
use Rattle.session_model.specs.Refusals.{most_serials}
use Rattle.session_model.specs.Replies.{ops, refusal as refusal_to, unless_refused}
use Rattle.session_model.specs.Streams.{bytes_in, data_in}
use Rattle.session_model.specs.Touched.{files_named, one_of}
use Rattle.session_model.specs.Turning.{HintFailing, State, cue_files, typed}
use Rattle.session_model.specs.Worlds.{World}
use Rattle.exec_session.proofs.Finding.{contains_first, contains_second, hint_failing}
use Rattle.exec_session.specs.Meant.{IfHint, IfRefused, IsTakenUpBy, Looked, kept, kept_stopped, stopped}
use Rattle.exec_steps.specs.Asked.{IsSameButMark, IsSameButTable, Works, first_widenings, made_entered, made_fid}
use Rattle.exec_steps.specs.Rooms.{pages_planned}
use Rattle.exec_session.specs.Turned.{Begins, SameBut, Turned, line_ops}
use Rattle.exec_steps.specs.declared.rooms.NewEntry.{NewEntry}
use Rattle.exec_session.specs.declared.session.Session.{Session}
use Rattle.exec_session.specs.declared.stop.Stop.{Stop}
use Rattle.exec_steps.proofs.Joining.{steps_err}
use Rattle.exec_steps.proofs.Stepping.{if_hint_weaker, steps_append}
use Rattle.exec_steps.proofs.laws.Laws.{line_stops, lines_break_off}
use Rattle.exec_steps.specs.Midway.{AreFree, Arrived, Midway, Started, Stepped, StepsOn}
use Rattle.exec_writing.specs.Entries.{new_refusal}
use Rattle.exec_writing.specs.Plans.{IsCopying, MayCopy, copied}
use Rattle.exec_writing.specs.Writes.{WritesLine}
use Rattle.exec_writing.specs.declared.copy.Copying.{Copying}
use Rattle.exec_writing.proofs.Adding.{are_free, begins_there, first_placed, may_make, unrefused_ops}
use Rattle.exec_writing.proofs.Copying.{few_serials, unmarked}
use Rattle.exec_writing.proofs.Ends.{files_are, stops_unwritten}
use Rattle.exec_steps.proofs.Frames.{world_worked}
use Rattle.exec_writing.proofs.NamedEntries.{dir_is, dir_stands, given_is, ops_made, pages_made, states, widens_as_planned}
use Rattle.exec_writing.proofs.NewSectors.{below_most, refused_then, serials_spent}
use Rattle.exec_writing.proofs.NewPlaces.{names_place, names_source}
use Rattle.exec_writing.proofs.Refusing.{copy_refused}
use Rattle.exec_session.proofs.LookedBefore.{looked_before}
use Rattle.exec_writing.proofs.Writing.{MayWrite, opened, opening_stops, steps_done}

-- ---- the refusals that are left
refusals_meet : (last x y left : ℕ) → (last < most_serials → x ≡ y) → new_refusal last x left ≡ new_refusal last y left
refusals_meet last x y left same = by (nat_le most_serials last) refl
  where
    by : (b : Bool) → nat_le most_serials last ≡ b → new_refusal last x left ≡ new_refusal last y left
    by true e = serials_spent last x left e ∙ sym (serials_spent last y left e)
    by false e = ap (λ n. new_refusal last n left) (same (below_most last e))

-- ---- how long a file is
good_few : (ss : List Sight) → good_sectors ss ≤ length ss
good_few [] = omega arith
good_few (s ∷ ss) = let one = by s in let more = good_few ss in omega (arith, one, more)
  where
    by : (s : Sight) → good_one s ≤ 1
    by hidden = omega arith
    by free = omega arith
    by stray = omega arith
    by (leads f readable l) = omega arith
    by (holds f n bytes) = omega arith

good_is : (p : Pack) → (read_as p).good ≡ good_sectors (sights p)
unfolding read_sights
good_is p = refl

-- a disk has fewer sectors than 20,000, and so a file fewer pages
pub few_pages : (p : Pack) (f : Fid) → HasEachSector p → Sound p → IsOrdinary f → lives (sights p) f ≡ true → file_length p f / 512 ≤ 20000
few_pages p f each sound ordinary living = by (place (sights p) f 0) refl
  where
    by : (r : Option ℕ) → place (sights p) f 0 ≡ r → file_length p f / 512 ≤ 20000
    by None e = absurd (let n : true ≡ false = sym living ∙ file_lives_in_a_place p f ∙ ap is_some e in cc)
    by (Some at) e =
        let there = ordinary_file_is_its_pages p f at ordinary.no_directory ordinary.no_descriptor e in
        let counted = changed_pages (read_as p).files f (record { leader = leader_of f (sector_at p at).value; body = data_of (file_bytes (sights p) f) }) (record { leader = leader_of f (sector_at p at).value; body = data_of [] }) there in
        let all = (free_is_the_room p sound.whole).pages in
        let good = good_few (sights p) in
        let own = good_is p in
        let many : length (sights p) ≡ pages_of p.shape = length-sights p ∙ each in
        let most = p.shape.most_pages in
        omega (arith, counted, all, good, own, many, most)

-- ---- by the model of the pack
module _ (p : Pack) (target : Target) (path : Path) (plan : Copying) (is : IsCopying p target path plan) (sound : Sound p) where
  abbrev m : Model
  m = read_as p

  abbrev l : Line
  l = line.Copy target path

  abbrev e : NewEntry
  e = plan.entry

  abbrev source : Fid
  source = plan.source.fid

  pub source_lives : lives (sights p) source ≡ true
  source_lives = found_file_lives p source plan.source.leader_at plan.source.from sound.whole sound.tidy is.source.from

  to_dir : the_dir m path ≡ e.dir.fid
  to_dir = dir_is (dir_of m path.dir) e.dir.fid is.entry.dir.is

  given : new_name path.wanted (dir_items m e.dir.fid) ≡ Some e.name
  given = is.entry.entry.given.1

  name : name_given m path ≡ e.name
  name = ap (λ x. unwrap_or (new_name path.wanted (dir_items m x)) []) to_dir ∙ given_is (new_name path.wanted (dir_items m e.dir.fid)) e.name given

  pub planned_are : first_widenings e ≡ widenings m e.dir.fid e.name
  planned_are = widens_as_planned p e.dir e.name e is.entry.entry.planned

  bytes_there : bytes_in m source ≡ file_bytes (sights p) source
  bytes_there = by (place (sights p) source 0) refl
    where
      by : (r : Option ℕ) → place (sights p) source 0 ≡ r → bytes_in m source ≡ file_bytes (sights p) source
      by None x = absurd (let n : true ≡ false = sym source_lives ∙ file_lives_in_a_place p source ∙ ap is_some x in cc)
      by (Some at) x = ap data_in (ordinary_file_is_its_pages p source at is.ordinary.no_directory is.ordinary.no_descriptor x)

  module _ (w : World) (bytes : List ℕ) (read : bytes ≡ file_bytes (sights p) source) where
    abbrev f : Fid
    f = next_file m

    pub ops_are : (effect l m w).ops ≡ copied e f bytes w.moment
    ops_are =
        ap (λ x. x ++ copied_ops f (bytes_in m (the_file m target)) w.moment) (ops_made m e f (the_dir m path) (name_given m path) w.moment to_dir name planned_are)
        ∙ ap (λ x. made_entered e f w.moment ++ copied_ops f x w.moment) (ap (λ r. bytes_in m (unwrap_or r sys_dir)) is.source.is ∙ bytes_there ∙ sym read)

    -- the pages that they add
    abbrev after_made : Model
    after_made = steps_of m (made_entered e f w.moment)

    empty : is_directory f ≡ false → length_of after_made f ≡ 0
    empty ordinary =
        ap (λ n. length_of n f) (steps_append m (first_widenings e) (make f e.name w.moment ∷ enter e.dir.fid e.name f ∷ []))
        ∙ new_file_is_empty (steps_of m (first_widenings e)) e.dir.fid f e.name e.name w.moment ordinary

    bytes_pages : (n : Model) (bs : List ℕ) → length_of n f ≡ 0 → pages_for_operations n (copied_ops f bs w.moment) ≡ length bs / 512
    bytes_pages n [] none = refl
    bytes_pages n (b ∷ bs) none = let long : pages_added (length_of n f) (length (b ∷ bs)) ≡ pages_added 0 (length (b ∷ bs)) = ap (λ k. pages_added k (length (b ∷ bs))) none in omega (arith, long)

    pub pages_are : is_directory f ≡ false → pages_for_operations m (copied e f bytes w.moment) ≡ pages_planned e + 2 + length bytes / 512
    pages_are ordinary =
        pages_of_both_parts m (made_entered e f w.moment) (copied_ops f bytes w.moment)
        ∙ ap (λ n. n + pages_for_operations after_made (copied_ops f bytes w.moment)) (pages_made m e f w.moment)
        ∙ ap (λ n. pages_planned e + 2 + n) (bytes_pages after_made bytes (empty ordinary))

    pub refused_is : IsTakenUpBy w l → refusal_to l m w ≡ new_refusal m.last (pages_planned e + 2 + length bytes / 512) (room m)
    refused_is taken =
        copy_refused m w target path taken is.entry.passes
        ∙ refusals_meet m.last (pages_for_operations m (effect l m w).ops) (pages_planned e + 2 + length bytes / 512) (room m)
        (λ left. ap (pages_for_operations m) ops_are ∙ pages_are (unmarked (m.last + 1) (few_serials m.last left)))

    -- where it isn't refused the file may come
    pub makes : refusal_to l m w ≡ None → MakesFile p w l e.dir.fid e.name f
    makes none =
        subst (λ n. MakesFile p w l e.dir.fid n f) name
        (subst (λ d. MakesFile p w l d (name_given m path) f) to_dir (copy_may_begin p w target path sound (states path.wanted e.name (dir_items m e.dir.fid) given is.entry.entry.stored) none).1)

  -- ---- its files
  pub reads_source : Contains (files_named l m) source
  reads_source = names_source m target path source is.source.is

  -- no hint means the new file, and so none of it misled
  pub named_hint : (f : Fid) (es : List Event) (hint : Place) (at : ℕ) (wanted : Page) (found : Option (List ℕ)) → lives (sights p) f ≡ false → HintFailing p es (sys_dir ∷ e.dir.fid ∷ f ∷ []) hint at wanted found → HintFailing p es (files_named l m) hint at wanted found
  named_hint f es hint at wanted found fresh h = record { misled = h.misled; on_disk = h.on_disk; file = by h.file }
    where
      by : Contains (sys_dir ∷ e.dir.fid ∷ f ∷ []) wanted.fid → Contains (files_named l m) wanted.fid
      by (zero, less, it) = subst (Contains (files_named l m)) it (names_place m target path sys_dir (contains_first sys_dir _))
      by (suc zero, less, it) = subst (Contains (files_named l m)) it
          (names_place m target path e.dir.fid (subst (λ r. Contains (sys_dir ∷ one_of r) e.dir.fid) (sym is.entry.dir.is) (contains_second sys_dir e.dir.fid [])))
      by (suc (suc zero), less, it) = absurd (let n : true ≡ false = sym (no_hint_means_an_absent_file p hint at wanted sound.whole sound.tidy h.on_disk h.misled.misled.stands) ∙ ap (λ g. lives (sights p) g) (sym it) ∙ fresh in cc)
      by (suc (suc (suc k)), less, it) = absurd (omega (arith, less))

-- ---- what is kept, if only hints may be others
abbrev pub IsSameButHints : Session → Session → Type 0
IsSameButHints s0 s1 = s1 ≡ record s0 { hints = s1.hints }

pub looked_hints : {a b : Session} → Looked a b → IsSameButHints a b
looked_hints {a} {b} looked = looked.same ∙ ap (λ (h : Hints). record a { hints = h }) (sym (ap (λ (s : Session). s.hints) looked.same))

pub reserved_hints : {a b c : Session} → Looked a b → IsSameButTable b c → IsSameButHints a c
reserved_hints {a} {b} {c} looked same =
    same ∙ ap (λ (s : Session). record s { hints = record { cache = b.hints.cache; table = c.hints.table } }) looked.same
    ∙ ap (λ (h : Hints). record a { hints = h }) (sym (ap (λ (s : Session). s.hints) same))

-- ---- from the plan to what stopped the line, or to its end
module _ (a b : Taped) (s0 s1 : Session) (s : State) (target : Target) (path : Path) (plan : Copying) (begins : Begins a (kept s0) s (line.Copy target path)) (is : IsCopying (pack a) target path plan) (alone : DiskAlone a b) (silent : added a b ≡ []) (same : IsSameButHints s0 s1) where
  abbrev own_line : Line
  own_line = line.Copy target path

  abbrev q : Pack
  q = pack a

  here : pack b ≡ q
  here = pack-silent alone.grown silent

  unneeded : s.world.need ≡ false
  unneeded = ap (λ w. w.need) begins.keeping.world ∙ begins.unneeded

  read_now : read_as q ≡ s.model
  read_now = begins.keeping.stands.reads unneeded

  pub is_sound : Sound q
  is_sound = begins.keeping.stands.sound unneeded

  was : DescriptorFits q s0.descriptor.shape s0.descriptor.last s0.descriptor.mark s0.descriptor.pages
  was = begins.keeping.descriptor begins.unneeded

  files_are_named : cue_files s (typed own_line) ≡ files_named own_line (read_as q)
  files_are_named = files_are own_line s begins.taken_up ∙ ap (files_named own_line) (sym read_now)

  -- hints alone are others, and a table that was true is true
  same_but : (TableTrue q s0.hints.table → TableTrue q s1.hints.table) → SameBut a b (kept s0) (kept s1)
  same_but table = record {
    world = record { moment = ap (λ x. x.moment) same; level = ap (λ x. x.world.level) same; memory = ap (λ x. x.world.memory) same; streams = ap (λ x. x.streams.slots) same; need = ap (λ x. x.need) same };
    shape = ap (λ x. x.descriptor.shape) same;
    last = ap (λ x. x.descriptor.last) same;
    mark = ap (λ x. x.descriptor.mark) same;
    pages = ap (λ x. x.descriptor.pages) same;
    tally = ap (λ x. x.tally) same;
    table = λ t. subst (λ x. TableTrue x s1.hints.table) (sym here) (table t);
  }

  -- the bytes weren't read
  pub reading_stops : (T : Type 0) (x : Stop) → (TableTrue q s0.hints.table → TableTrue q s1.hints.table) → IfRefused {T = T} (Err x) (λ r. ⊥) → IfHint {T = T} (Err x) (MisledBy q [] plan.source.fid) → Turned a b (kept s0) (kept_stopped x (kept s1)) s own_line (stopped x)
  reading_stops T x table unrefused hint =
      stops_unwritten T a b (kept s0) (kept s1) s own_line x begins.keeping begins.stays begins.taken_up alone silent (same_but table)
      (refused_then {T = T} (λ r. ⊥) (λ r. refusal_to own_line s.model s.world ≡ Some r) (Err x) (λ r none. absurd none) unrefused)
      (if_hint_weaker {T = T} (MisledBy q [] plan.source.fid) (HintFailing q [] (cue_files s (typed own_line))) (Err x)
      (λ hint at wanted found h. subst (λ fs. HintFailing q [] fs hint at wanted found) (sym files_are_named) (hint_failing q plan.source.fid (files_named own_line (read_as q)) hint at wanted found is_sound (reads_source q target path plan is is_sound) h)) hint)

  module _ (bytes : List ℕ) (bytes_are : bytes ≡ file_bytes (sights q) plan.source.fid) where
    abbrev pages : ℕ
    pages = pages_planned plan.entry + 2 + length bytes / 512

    refused_as_new : refusal_to own_line (read_as q) s.world ≡ new_refusal s0.descriptor.last pages (room (read_as q))
    refused_as_new = refused_is q target path plan is is_sound s.world bytes bytes_are begins.taken_up ∙ ap (λ n. new_refusal n pages (room (read_as q))) was.last_is

    -- no serial or no room is left, or the sectors weren't taken
    pub reserving_stops : (T : Type 0) (x : Stop) → (TableTrue q s0.hints.table → TableTrue q s1.hints.table) → IfRefused {T = T} (Err x) (λ r. new_refusal s0.descriptor.last pages (room (read_as q)) ≡ Some r) → IfHint {T = T} (Err x) (λ hint at wanted found. ⊥)
        → Turned a b (kept s0) (kept_stopped x (kept s1)) s own_line (stopped x)
    reserving_stops T x table refused never =
        stops_unwritten T a b (kept s0) (kept s1) s own_line x begins.keeping begins.stays begins.taken_up alone silent (same_but table)
        (refused_then {T = T} (λ r. new_refusal s0.descriptor.last pages (room (read_as q)) ≡ Some r) (λ r. refusal_to own_line s.model s.world ≡ Some r) (Err x) (λ r h. ap (λ n. refusal_to own_line n s.world) (sym read_now) ∙ refused_as_new ∙ h) refused)
        (if_hint_weaker {T = T} (λ hint at wanted found. ⊥) (HintFailing q [] (cue_files s (typed own_line))) (Err x) (λ hint at wanted found none. absurd none) never)

    -- the sectors are reserved
    module _ (writes : b.writes ≡ a.writes) (fresh : List ℕ) (end : ℕ) (reserved : IsReserved end pages s1.hints.table fresh) (free_ones : All (λ i. is_free_at q i ≡ true) fresh) (left : s0.descriptor.last < most_serials)
        (enough : new_refusal s0.descriptor.last pages (room (read_as q)) ≡ None) (table : TableTrue q s0.hints.table → TableReserves q s1.hints.table fresh) where
      abbrev first_at : ℕ
      first_at = get_or s0.descriptor.pages 0 0

      none : refusal_to own_line (read_as q) s.world ≡ None
      none = refused_as_new ∙ enough

      none_now : refusal_to own_line s.model s.world ≡ None
      none_now = ap (λ n. refusal_to own_line n s.world) (sym read_now) ∙ none

      own_are : line_ops s own_line ≡ copied plan.entry (next_file (read_as q)) bytes s.world.moment
      own_are = ap (λ n. ops own_line n s.world) (sym read_now) ∙ unrefused_ops own_line (read_as q) s.world none ∙ ops_are q target path plan is is_sound s.world bytes bytes_are

      new_file : MakesFile q s.world own_line plan.entry.dir.fid plan.entry.name (next_file (read_as q))
      new_file = makes q target path plan is is_sound s.world bytes bytes_are none

      some : (before later : List Operation) (o : Operation) → 0 < length ((before ++ o ∷ later) ++ copied_ops (next_file (read_as q)) bytes s.world.moment)
      some before later o =
          let many = length-append before (o ∷ later) in
          let all = length-append (before ++ o ∷ later) (copied_ops (next_file (read_as q)) bytes s.world.moment) in
          omega (arith, many, all)

      fits : LineFits (pack b) first_at (line_ops s own_line)
      fits = subst (λ x. LineFits x first_at (line_ops s own_line)) (sym here) (record {
        sound = is_sound;
        placed = first_placed q (kept s0) was;
        some = subst (λ o. 0 < length o) (sym own_are) (some (first_widenings plan.entry) (enter plan.entry.dir.fid plan.entry.name (next_file (read_as q)) ∷ []) (make (next_file (read_as q)) plan.entry.name s.world.moment));
        line = subst (λ n. IsKindOfLine (read_as q) (ops own_line n s.world)) read_now new_file.is_line;
        room = subst (λ n. pages_for_operations (read_as q) (ops own_line n s.world) ≤ free_sector_count (sights q)) read_now (unrefused_lines_have_their_pages q s.world own_line is_sound.whole none).pages;
      })

      now_fits : DescriptorFits (pack b) s1.descriptor.shape s1.descriptor.last s1.descriptor.mark s1.descriptor.pages
      now_fits = subst (λ x. DescriptorFits (pack b) x.descriptor.shape x.descriptor.last x.descriptor.mark x.descriptor.pages) (sym same)
          (subst (λ x. DescriptorFits x s0.descriptor.shape s0.descriptor.last s0.descriptor.mark s0.descriptor.pages) (sym here) was)

      pub may : MayWrite b (kept s0) (kept s1) s own_line first_at fresh
      may = record {
        begins = begins_there a b (kept s0) s own_line here begins;
        leaves = ap (λ r. unless_refused r s.world s.world) none_now;
        fits = fits;
        start = record {
          sound = fits.sound;
          placed = fits.placed;
          fits = now_fits;
          tally = ap (λ x. x.tally) same;
          free = subst (λ x. AreFree x fresh) (sym here) (are_free q end pages s1.hints.table fresh reserved free_ones);
          table = λ t. subst (λ x. TableReserves x s1.hints.table fresh) (sym here) (table (subst (λ x. TableTrue x s0.hints.table) here t));
        };
      }

      -- the mark isn't opened
      pub mark_stops : (c : Taped) (s2 : Session) (x : Stop) → Works s0 s2 → DiskAlone b c → IfRefused {T = Unit {0}} (Err x) (λ r. ⊥) → Started {T = Unit {0}} b c (kept s0) (kept s2) first_at fresh (Err x) → Turned a c (kept s0) (kept_stopped x (kept s2)) s own_line (stopped x)
      mark_stops c s2 x worked next unrefused started =
          looked_before a b c (kept s0) (kept_stopped x (kept s2)) s own_line (stopped x) alone next silent writes
          (opening_stops b (kept s0) (kept s1) s own_line first_at fresh may c (kept s2) x (world_worked worked) next unrefused started)

      -- it is open
      module _ (c : Taped) (s2 : Session) (u : Unit {0}) (started : Started b c (kept s0) (kept s2) first_at fresh (Ok u)) (mark : IsSameButMark s1 s2) where
        midway : Midway b c (kept s0) (kept s2) first_at [] (line_ops s own_line) fresh
        midway = opened b (kept s0) (kept s1) s own_line first_at fresh may c (kept s2) u started

        arrived : Arrived q (pack c) (kept s2) [] fresh
        arrived = subst (λ x. Arrived x (pack c) (kept s2) [] fresh) here (record { whole = midway.whole; tidy = midway.tidy; reads = midway.reads; fits = midway.fits; found = started.found; free = midway.free })

        same_last : s2.descriptor.last ≡ s0.descriptor.last
        same_last = ap (λ x. x.descriptor.last) mark ∙ ap (λ x. x.descriptor.last) same

        same_moment : s2.moment ≡ s.world.moment
        same_moment = ap (λ x. x.moment) mark ∙ ap (λ x. x.moment) same ∙ sym (ap (λ w. w.moment) begins.keeping.world)

        pub asks : MayCopy (pack c) (kept s2) plan.entry bytes fresh
        asks = record {
          makes = may_make q (pack c) (kept s2) s.world own_line plan.entry false fresh is_sound (dir_stands q plan.entry.dir is_sound is.entry.dir.from is.entry.directory) (planned_are q target path plan is is_sound) new_file arrived (subst (λ n. n < most_serials) (sym same_last) left);
          number = reserved.count;
        }

        abbrev f2 : Fid
        f2 = made_fid false (s2.descriptor.last + 1)

        own_file : f2 ≡ next_file (read_as q)
        own_file = ap (λ n. made_fid false (n + 1)) (same_last ∙ sym was.last_is)

        abbrev pub Copies : {T : Type 0} → Taped → Session → Result T Stop → Type 0
        Copies d s3 r = StepsOn c d (kept s2) (kept s3) (copied plan.entry f2 bytes s2.moment) fresh (sys_dir ∷ plan.entry.dir.fid ∷ f2 ∷ []) r

        own_steps : {T : Type 0} (d : Taped) (s3 : Session) (r : Result T Stop) → Copies d s3 r → StepsOn c d (kept s2) (kept s3) (line_ops s own_line) fresh (sys_dir ∷ plan.entry.dir.fid ∷ f2 ∷ []) r
        own_steps d s3 r steps =
            subst (λ o. StepsOn c d (kept s2) (kept s3) o fresh (sys_dir ∷ plan.entry.dir.fid ∷ f2 ∷ []) r)
            (ap (λ x. copied plan.entry x bytes s2.moment) own_file ∙ ap (λ n. copied plan.entry (next_file (read_as q)) bytes n) same_moment ∙ sym own_are) steps

        dead : lives (sights q) f2 ≡ false
        dead = ap (λ x. lives (sights q) x) own_file ∙ new_file.fresh

        hint_of_line : (es : List Event) (hint : Place) (at : ℕ) (wanted : Page) (found : Option (List ℕ)) → HintFailing (pack b) es (sys_dir ∷ plan.entry.dir.fid ∷ f2 ∷ []) hint at wanted found → HintFailing (pack b) es (cue_files s (typed own_line)) hint at wanted found
        hint_of_line es hint at wanted found h =
            subst (λ x. HintFailing x es (cue_files s (typed own_line)) hint at wanted found) (sym here)
            (subst (λ fs. HintFailing q es fs hint at wanted found) (sym files_are_named)
            (named_hint q target path plan is is_sound f2 es hint at wanted found dead (subst (λ x. HintFailing x es (sys_dir ∷ plan.entry.dir.fid ∷ f2 ∷ []) hint at wanted found) here h)))

        -- the steps, to their end or to what stopped them
        pub copying_ends : (T : Type 0) (d : Taped) (s3 : Session) (r : Result T Stop) → Works s0 s3 → DiskAlone b d → IfRefused r (λ x. ⊥) → Copies d s3 r → WritesLine a d (kept s0) (kept s3) s own_line r
        copying_ends T d s3 (Ok y) worked next unrefused steps =
            let done = steps_done b (kept s0) (kept s1) s own_line first_at fresh may c (kept s2) u started T d (kept s3) (sys_dir ∷ plan.entry.dir.fid ∷ f2 ∷ []) y (world_worked worked) next none_now (own_steps d s3 (Ok y) steps) in
            record {
              unrefused = none_now;
              plain = λ form formed. looked_before a b d (kept s0) (kept s3) s own_line (plain_reply s (typed own_line)) alone next silent writes (done.plain form formed);
              memory = looked_before a b d (kept s0) (kept s3) s own_line reply.Memory alone next silent writes done.memory;
            }
        copying_ends T d s3 (Err x) worked next unrefused steps =
            let own = line_ops s own_line in
            let files = sys_dir ∷ plan.entry.dir.fid ∷ f2 ∷ [] in
            let t : Stepped {T = Unit {0}} b c d (kept s0) (kept s3) first_at [] own own [] files (Err x) =
            steps_err (Unit {0}) T c d (kept s2) (kept s3) own fresh files x (own_steps {T = T} d s3 (Err x) steps) b (kept s0) first_at [] own [] (subst (Midway b c (kept s0) (kept s2) first_at [] own) (sym (append-nil fresh)) midway)
            in
            looked_before a b d (kept s0) (kept_stopped x (kept s3)) s own_line (stopped x) alone next silent writes
            (line_stops b d (kept s0) (kept s3) s own_line x may.begins (world_worked worked) next
            ((lines_break_off (Unit {0}) b (kept s0) s own_line may.begins).step c d (kept s3) first_at [] own [] [] files x may.fits (append-nil own) t)
            (refused_then {T = T} (λ r. ⊥) (λ r. ⊥) (Err x) (λ r h. h) unrefused)
            (if_hint_weaker {T = Unit {0}} (HintFailing (pack b) (added b d) files) (HintFailing (pack b) (added b d) (cue_files s (typed own_line))) (Err x) (hint_of_line (added b d)) t.failing))

-- ---- what is known of reserved sectors, from before the bytes were read
module _ (a m : Taped) (s0 s1 : Session) (looked : Looked s0 s1) (same_pack : pack m ≡ pack a) where
  pub refusal_before : (n : ℕ) (x : Option Refusal) → new_refusal s1.descriptor.last n (room (read_as (pack m))) ≡ x → new_refusal s0.descriptor.last n (room (read_as (pack a))) ≡ x
  refusal_before n x h = ap (λ p. new_refusal s0.descriptor.last n (room (read_as p))) (sym same_pack) ∙ ap (λ k. new_refusal k n (room (read_as (pack m)))) (sym (ap (λ s. s.descriptor.last) looked.same)) ∙ h

  pub reserves_before : (busy : List Bool) (fresh : List ℕ) → (TableTrue (pack m) s1.hints.table → TableReserves (pack m) busy fresh) → TableTrue (pack a) s0.hints.table → TableReserves (pack a) busy fresh
  reserves_before busy fresh h was = subst (λ p. TableReserves p busy fresh) same_pack (h (subst (λ p. TableTrue p s1.hints.table) (sym same_pack) (subst (TableTrue (pack a)) (sym (ap (λ s. s.hints.table) looked.same)) was)))

  pub true_before : (busy : List Bool) → (TableTrue (pack m) s1.hints.table → TableTrue (pack m) busy) → TableTrue (pack a) s0.hints.table → TableTrue (pack a) busy
  true_before busy h was = subst (λ p. TableTrue p busy) same_pack (h (subst (λ p. TableTrue p s1.hints.table) (sym same_pack) (subst (TableTrue (pack a)) (sym (ap (λ s. s.hints.table) looked.same)) was)))

  pub left_before : s1.descriptor.last < most_serials → s0.descriptor.last < most_serials
  left_before h = subst (λ n. n < most_serials) (ap (λ s. s.descriptor.last) looked.same) h

-- the pages of the bytes, as the number that was asked for
pub pages_asked : (p : Pack) (f : Fid) (bytes : List ℕ) (n : ℕ) → HasEachSector p → Sound p → IsOrdinary f → lives (sights p) f ≡ true → bytes ≡ file_bytes (sights p) f → n ≡ min (length bytes / 512) 60000 → n ≡ length bytes / 512
pages_asked p f bytes n each sound ordinary living read is =
    let few = few_pages p f each sound ordinary living in
    let long : length bytes ≡ file_length p f = ap length read in
    let same : length bytes / 512 ≡ file_length p f / 512 = ap (λ k. k / 512) long in
    omega (arith, few, same, is)
