-- `rename` as a line: its operations, its refusal for room, and how it ends from where its sectors are reserved.
use Rattle.std.proofs.Common.{◌≡◌, ◌≤◌, ◌<◌, ◌+◌, ◌++◌, ℕ, All, Bool, true, false, cond, min, nat_lt, List, [], ◌∷◌, Some, None, Result, Ok, Err, Contains, get_or, length, length-append, refl, sym, subst, ap, ◌∙◌, arith, suc, zero}
use Rattle.std.proofs.lemmas.Bool.{le-ltb, lt-ltb}
use Rattle.std.specs.Option.{option_map, option_or, unwrap_or}
use Rattle.alto_words.specs.Fid.{sys_dir}
use Rattle.alto_words.specs.declared.fid.Fid.{Fid}
use Rattle.disk_records.proofs.Growing.{alone_here, nothing_added, pack-silent}
use Rattle.disk_records.specs.Packs.{Pack, is_free_at}
use Rattle.disk_records.specs.Tapes.{DiskAlone, Taped, added, pack}
use Rattle.exec_words.specs.declared.line.Line.{Line}
use Rattle.exec_words.specs.declared.line.Line.TheVariants as line
use Rattle.exec_words.specs.declared.line.Path.{Path}
use Rattle.exec_words.specs.declared.line.Target.TheVariants.{ByPath}
use Rattle.exec_words.specs.declared.reply.Refusal.{Refusal}
use Rattle.exec_words.specs.declared.reply.Refusal.TheVariants as refusal
use Rattle.exec_words.specs.declared.reply.Reply.TheVariants as reply
use Rattle.exec_session.specs.laws_call.specs.SoundCalls.{LineFits}
use Rattle.laws_hint.specs.TableLaws.{TableReserves}
use Rattle.exec_session.specs.laws_line.specs.LineLaws.{IsEntered}
use Rattle.exec_session.specs.laws_line.specs.Ready.{steps_of}
use Rattle.exec_session.specs.laws_line.specs.SoundLines.{IsKindOfLine}
use Rattle.laws_operation.specs.EntryLaws.{IsOpenTo}
use Rattle.exec_session.specs.laws_session.proofs.unrefused.Laws.{rename_may_begin, unrefused_lines_have_their_pages}
use Rattle.exec_session.specs.laws_session.specs.UnrefusedLaws.{RenamesFile, TakesName}
use Rattle.page_alloc.specs.Free.{IsReserved}
use Rattle.pack_model.specs.hints.Tables.{TableTrue}
use Rattle.pack_model.specs.operations.Committing.{pages_for_operations}
use Rattle.pack_model.specs.operations.Rooms.{largest_run}
use Rattle.pack_model.specs.operations.Step.Operation.{enter, leave, title}
use Rattle.pack_model.specs.operations.Step.{Operation}
use Rattle.pack_model.specs.reading.Model.{Model, dir_items, read_as, room}
use Rattle.pack_model.specs.reading.Sights.{sights}
use Rattle.pack_model.specs.reading.Slots.{entry_length}
use Rattle.pack_model.specs.reading.Versions.{exact, new_name}
use Rattle.pack_model.specs.sessions.Descriptor.{DescriptorFits}
use Rattle.pack_model.specs.states.InUse.{free_sector_count}
use Rattle.pack_model.specs.states.Sound.{Sound}
use Rattle.session_model.specs.Answering.{plain_reply}
use Rattle.session_model.specs.Effects.{effect, rename_ops, widenings}
use Rattle.session_model.specs.Finding.{dir_of, fid_of, name_given, own_name, the_dir, the_file}
use Rattle.session_model.specs.Keeping.{Kept, world_of}
use Rattle.session_model.specs.Refusals.{by_room, is_streamed, when}
use Rattle.session_model.specs.Replies.{ops, refusal as refusal_to, unless_refused}
use Rattle.session_model.specs.Touched.{files_named, one_of}
use Rattle.session_model.specs.Turning.{HintFailing, State, cue_files, typed}
use Rattle.session_model.specs.Worlds.{World}
use Rattle.exec_session.proofs.Finding.{contains_first, contains_second}
use Rattle.exec_session.specs.Found.{root_ref}
use Rattle.exec_session.specs.Meant.{IfHint, IfRefused, IsTakenUpBy, kept, kept_stopped, stopped}
use Rattle.exec_steps.specs.Asked.{IsSameButTable, Works, first_widenings}
use Rattle.exec_steps.specs.Rooms.{pages_planned, widens_if}
use Rattle.exec_session.specs.Stops.{refused_if}
use Rattle.exec_session.specs.Turned.{Begins, Turned, line_ops}
use Rattle.exec_steps.specs.declared.rooms.NewEntry.{NewEntry}
use Rattle.exec_session.specs.declared.session.Session.{Session}
use Rattle.exec_session.specs.declared.stop.Stop.{Stop}
use Rattle.exec_steps.proofs.Calling.{dir_stands_still}
use Rattle.exec_session.proofs.OrdinaryFiles.{by_test}
use Rattle.exec_session.proofs.Turning.{line_is_refused}
use Rattle.exec_steps.proofs.Stepping.{if_hint_weaker}
use Rattle.exec_steps.specs.Midway.{AreFree, Arrived, Midway, Started, StepsOn}
use Rattle.exec_writing.specs.Plans.{IsRenaming, MayRename, changed_entry, renamed}
use Rattle.exec_writing.specs.Writes.{WritesLine}
use Rattle.exec_writing.specs.declared.rename.Renaming.{Renaming}
use Rattle.exec_writing.proofs.Adding.{are_free, begins_there, first_placed, root_stands, same_but_reserved, unrefused_ops}
use Rattle.exec_writing.proofs.Ends.{begins_model, files_are, stops_unwritten}
use Rattle.exec_steps.proofs.Frames.{works_here, world_worked}
use Rattle.exec_writing.proofs.Leaving.{path_entered}
use Rattle.exec_writing.proofs.NamedEntries.{dir_is, dir_stands, given_is, states, widens_as_planned}
use Rattle.exec_writing.proofs.NewSectors.{few_planned, refused_then}
use Rattle.exec_writing.proofs.NewPlaces.{names_place, names_source, names_source_dirs}
use Rattle.exec_writing.proofs.Refusing.{rename_refused}
use Rattle.exec_writing.proofs.Renaming.{leader_stays}
use Rattle.exec_session.proofs.LookedBefore.{looked_before}
use Rattle.exec_writing.proofs.Writing.{MayWrite, opened, opening_stops, steps_done, steps_stop}

-- ---- the pages that are planned, as a number of the machine
full_as_planned : (p : Pack) (e : NewEntry) (n : ℕ) → n ≡ pages_planned e → (r : Refusal) → (r ≡ refusal.Full (min n 65535) (room (read_as p))) × (room (read_as p) < n) → (r ≡ refusal.Full (min (pages_planned e) 65535) (room (read_as p))) × (room (read_as p) < pages_planned e)
full_as_planned p e n is r h = subst (λ k. (r ≡ refusal.Full (min k 65535) (room (read_as p))) × (room (read_as p) < k)) is h

pub enough_as_planned : (p : Pack) (e : NewEntry) (n : ℕ) → n ≡ pages_planned e → n ≤ room (read_as p) → pages_planned e ≤ room (read_as p)
enough_as_planned p e n is h = subst (λ k. k ≤ room (read_as p)) is h

pub reserved_as_planned : (e : NewEntry) (n end : ℕ) (bits : List Bool) (fresh : List ℕ) → n ≡ pages_planned e → IsReserved end (min n 65535) bits fresh → IsReserved end (pages_planned e) bits fresh
reserved_as_planned e n end bits fresh is h = subst (λ k. IsReserved end k bits fresh) (let few = few_planned e in omega (arith, is, few)) h

-- ---- by the model of the pack
module _ (p : Pack) (old new : Path) (plan : Renaming) (is : IsRenaming p old new plan) where
  abbrev m : Model
  m = read_as p

  abbrev e : NewEntry
  e = plan.entry

  abbrev f : Fid
  f = plan.found.file.fid

  abbrev d : Fid
  d = plan.found.dir.fid

  to_dir : the_dir m new ≡ e.dir.fid
  to_dir = dir_is (dir_of m new.dir) e.dir.fid is.entry.dir.is

  given : new_name new.wanted (dir_items m e.dir.fid) ≡ Some e.name
  given = is.entry.entry.given.1

  name : name_given m new ≡ e.name
  name = ap (λ x. unwrap_or (new_name new.wanted (dir_items m x)) []) to_dir ∙ given_is (new_name new.wanted (dir_items m e.dir.fid)) e.name given

  from_dir : the_dir m old ≡ d
  from_dir = dir_is (dir_of m old.dir) d is.found.dir.is

  file : the_file m (ByPath old) ≡ f
  file = ap (λ r. unwrap_or (fid_of r) sys_dir) is.found.entry

  own : own_name m old ≡ plan.found.name
  own = ap (λ r. unwrap_or (option_map (λ x. x.1) r) []) is.found.entry

  pub planned_are : first_widenings e ≡ widenings m e.dir.fid e.name
  planned_are = widens_as_planned p e.dir e.name e is.entry.entry.planned

  abbrev ops_by : Fid → List ℕ → Fid → Fid → List ℕ → List Operation
  ops_by to called g from was = widenings m to called ++ title g called ∷ leave from was ∷ enter to called g ∷ []

  pub ops_are : rename_ops m old new ≡ renamed plan
  ops_are =
      ap (λ x. ops_by x (name_given m new) (the_file m (ByPath old)) (the_dir m old) (own_name m old)) to_dir
      ∙ ap (λ x. ops_by e.dir.fid x (the_file m (ByPath old)) (the_dir m old) (own_name m old)) name
      ∙ ap (λ x. ops_by e.dir.fid e.name x (the_dir m old) (own_name m old)) file
      ∙ ap (λ x. ops_by e.dir.fid e.name f x (own_name m old)) from_dir
      ∙ ap (λ x. ops_by e.dir.fid e.name f d x) own
      ∙ ap (λ x. x ++ title f e.name ∷ changed_entry plan) (sym planned_are)

  pub pages_are : pages_for_operations m (renamed plan) ≡ pages_planned e
  pages_are = by e.widens_root e.widens_dir
    where
      by : (a b : Bool) → pages_for_operations m ((widens_if a sys_dir ++ widens_if b e.dir.fid) ++ title f e.name ∷ changed_entry plan) ≡ cond a 1 0 + cond b 1 0
      by true true = refl
      by true false = refl
      by false true = refl
      by false false = refl

  -- ---- refusals
  module _ (w : World) (taken : IsTakenUpBy w (line.Rename old new)) where
    tests : refusal_to (line.Rename old new) m w ≡ option_or (when (is_streamed w (Some f)) refusal.StreamsOpen) (when (nat_lt (room m) (pages_planned e)) (refusal.Full (pages_planned e) (room m)))
    tests =
        rename_refused m w old new taken is.entry.passes
        ∙ ap (λ r. option_or (when (is_streamed w r) refusal.StreamsOpen) (by_room m (effect (line.Rename old new) m w).ops)) (ap fid_of is.found.entry)
        ∙ ap (λ n. option_or (when (is_streamed w (Some f)) refusal.StreamsOpen) (when (nat_lt (room m) n) (refusal.Full n (room m)))) (ap (pages_for_operations m) ops_are ∙ pages_are)

    pub streams_meet : is_streamed w (Some f) ≡ true → refusal_to (line.Rename old new) m w ≡ Some refusal.StreamsOpen
    streams_meet has = tests ∙ ap (λ b. option_or (when b refusal.StreamsOpen) (when (nat_lt (room m) (pages_planned e)) (refusal.Full (pages_planned e) (room m)))) has

    refused_is : is_streamed w (Some f) ≡ false → refusal_to (line.Rename old new) m w ≡ when (nat_lt (room m) (pages_planned e)) (refusal.Full (pages_planned e) (room m))
    refused_is none = tests ∙ ap (λ b. option_or (when b refusal.StreamsOpen) (when (nat_lt (room m) (pages_planned e)) (refusal.Full (pages_planned e) (room m)))) none

    least : min (pages_planned e) 65535 ≡ pages_planned e
    least = let few = few_planned e in omega (arith, few)

    pub room_lacking : is_streamed w (Some f) ≡ false → (r : Refusal) → (r ≡ refusal.Full (min (pages_planned e) 65535) (room m)) × (room m < pages_planned e) → refusal_to (line.Rename old new) m w ≡ Some r
    room_lacking none r h = refused_is none ∙ ap (λ b. when b (refusal.Full (pages_planned e) (room m))) (lt-ltb (room m) (pages_planned e) h.1) ∙ ap Some (sym (h.0 ∙ ap (λ n. refusal.Full n (room m)) least))

    pub room_enough : is_streamed w (Some f) ≡ false → pages_planned e ≤ room m → refusal_to (line.Rename old new) m w ≡ None
    room_enough none h = refused_is none ∙ ap (λ b. when b (refusal.Full (pages_planned e) (room m))) (le-ltb (room m) (pages_planned e) h)

  -- ---- what its steps ask, once the mark is open
  module _ (w : World) (sound : Sound p) (none : refusal_to (line.Rename old new) m w ≡ None) where
    pub renames : RenamesFile p w (line.Rename old new) old new
    renames = rename_may_begin p w old new sound (states new.wanted e.name (dir_items m e.dir.fid) given is.entry.entry.stored) none

    takes : TakesName p e.dir.fid e.name f
    takes = subst (λ x. TakesName p e.dir.fid e.name x) file (subst (λ x. TakesName p e.dir.fid x (the_file m (ByPath old))) name (subst (λ x. TakesName p x (name_given m new) (the_file m (ByPath old))) to_dir renames.entry))

    pub may_rename : (q : Pack) (k : Kept) (fresh : List ℕ) → Arrived p q k [] fresh → MayRename q plan fresh
    may_rename q k fresh arrived =
        let reads : read_as q ≡ m = arrived.reads in
        let to = dir_stands_still e.dir arrived (λ x. tt) (dir_stands p e.dir sound is.entry.dir.from is.entry.directory) in
        record {
          file = record { whole = arrived.whole; tidy = arrived.tidy; from = arrived.found f plan.found.file.leader_at plan.found.file.from tt is.found.from };
          ordinary = is.ordinary;
          leaves = record {
            no_system = takes.enterable.no_system;
            dir = dir_stands_still plan.found.dir arrived (λ x. tt) (dir_stands p plan.found.dir sound is.found.dir.from is.found.directory);
            entered = subst (λ x. IsEntered x d plan.found.name f) (sym reads) (path_entered p old plan.found sound is.found);
          };
          leader = leader_stays f plan.leader_at arrived tt is.leader;
          widens = record { root = dir_stands_still root_ref arrived (λ x. tt) (root_stands p sound); dir = to; free = arrived.free };
          planned = planned_are ∙ ap (λ x. widenings x e.dir.fid e.name) (sym reads);
          takes = record {
            directory = takes.directory;
            living = to.living;
            stored = takes.stored;
            absent = ap (λ x. exact e.name (dir_items x e.dir.fid)) reads ∙ takes.absent;
            free = subst (λ x. IsOpenTo x e.dir.fid f e.name) (sym reads) takes.free;
            enterable = takes.enterable;
            place = subst (λ x. entry_length (length e.name) ≤ largest_run (dir_items (steps_of x (widenings x e.dir.fid e.name)) e.dir.fid)) (sym reads) takes.place;
          };
        }

  -- ---- its files
  abbrev pub files : List Fid
  files = sys_dir ∷ e.dir.fid ∷ f ∷ d ∷ []

  pub touched : (g : Fid) → Contains files g → Contains (files_named (line.Rename old new) m) g
  touched g (zero, less, it) = subst (Contains (files_named (line.Rename old new) m)) it (names_place m (ByPath old) new sys_dir (contains_first sys_dir _))
  touched g (suc zero, less, it) = subst (Contains (files_named (line.Rename old new) m)) it
      (names_place m (ByPath old) new e.dir.fid (subst (λ r. Contains (sys_dir ∷ one_of r) e.dir.fid) (sym is.entry.dir.is) (contains_second sys_dir e.dir.fid [])))
  touched g (suc (suc zero), less, it) = subst (Contains (files_named (line.Rename old new) m)) it (names_source m (ByPath old) new f (ap fid_of is.found.entry))
  touched g (suc (suc (suc zero)), less, it) = subst (Contains (files_named (line.Rename old new) m)) it
      (names_source_dirs m (ByPath old) new d (subst (λ r. Contains (sys_dir ∷ one_of r) d) (sym is.found.dir.is) (contains_second sys_dir d [])))
  touched g (suc (suc (suc (suc k))), less, it) = absurd (omega (arith, less))

-- ---- from the plan to what stopped the line, or to its end
-- a stream has the file
pub streams_stop : (a : Taped) (s0 : Session) (s : State) (old new : Path) (plan : Renaming) (x : Stop) → Begins a (kept s0) s (line.Rename old new) → IsRenaming (pack a) old new plan
    → ◌≡◌ {A = Result (Unit {0}) Stop} (Err x) (refused_if (is_streamed (world_of (kept s0)) (Some plan.found.file.fid)) refusal.StreamsOpen) → Turned a a (kept s0) (kept_stopped x (kept s0)) s (line.Rename old new) (stopped x)
streams_stop a s0 s old new plan x begins is test =
    let t = by_test (is_streamed (world_of (kept s0)) (Some plan.found.file.fid)) x refusal.StreamsOpen test in
    let refused = streams_meet (pack a) old new plan is s.world begins.taken_up (ap (λ w. is_streamed w (Some plan.found.file.fid)) begins.keeping.world ∙ t.0) in
    subst (λ y. Turned a a (kept s0) (kept_stopped y (kept s0)) s (line.Rename old new) (stopped y)) (sym t.1)
    (line_is_refused a a (kept s0) (kept s0) s (line.Rename old new) refusal.StreamsOpen begins.keeping (ap (λ m. refusal_to (line.Rename old new) m s.world) (sym (begins_model begins)) ∙ refused) (alone_here a) (nothing_added a.events)
    (record { world = world_worked (works_here s0); shape = refl; last = refl; mark = refl; pages = refl; tally = refl; table = λ was. was }))

module _ (a b : Taped) (s0 s1 : Session) (s : State) (old new : Path) (plan : Renaming) (begins : Begins a (kept s0) s (line.Rename old new)) (is : IsRenaming (pack a) old new plan) (free : is_streamed (world_of (kept s0)) (Some plan.found.file.fid) ≡ false) (alone : DiskAlone a b) (silent : added a b ≡ []) (same : IsSameButTable s0 s1) where
  abbrev l : Line
  l = line.Rename old new

  abbrev p : Pack
  p = pack a

  here : pack b ≡ p
  here = pack-silent alone.grown silent

  unneeded : s.world.need ≡ false
  unneeded = ap (λ w. w.need) begins.keeping.world ∙ begins.unneeded

  read : read_as p ≡ s.model
  read = begins.keeping.stands.reads unneeded

  sound : Sound p
  sound = begins.keeping.stands.sound unneeded

  none_has : is_streamed s.world (Some plan.found.file.fid) ≡ false
  none_has = ap (λ w. is_streamed w (Some plan.found.file.fid)) begins.keeping.world ∙ free

  files_are_named : cue_files s (typed l) ≡ files_named l (read_as p)
  files_are_named = files_are l s begins.taken_up ∙ ap (files_named l) (sym read)

  -- too few sectors are free, or they weren't taken
  pub reserving_stops : (T : Type 0) (n : ℕ) (x : Stop) → n ≡ pages_planned plan.entry → (TableTrue p s0.hints.table → TableTrue p s1.hints.table) → IfRefused {T = T} (Err x) (λ r. (r ≡ refusal.Full (min n 65535) (room (read_as p))) × (room (read_as p) < n))
      → IfHint {T = T} (Err x) (λ place at wanted found. ⊥) → Turned a b (kept s0) (kept_stopped x (kept s1)) s l (stopped x)
  reserving_stops T n x many table refused never =
      stops_unwritten T a b (kept s0) (kept s1) s l x begins.keeping begins.stays begins.taken_up alone silent (same_but_reserved a b s0 s1 here same table)
      (refused_then {T = T} (λ r. (r ≡ refusal.Full (min n 65535) (room (read_as p))) × (room (read_as p) < n)) (λ r. refusal_to l s.model s.world ≡ Some r) (Err x)
      (λ r h. ap (λ m. refusal_to l m s.world) (sym read) ∙ room_lacking p old new plan is s.world begins.taken_up none_has r (full_as_planned p plan.entry n many r h)) refused)
      (if_hint_weaker {T = T} (λ place at wanted found. ⊥) (HintFailing p [] (cue_files s (typed l))) (Err x) (λ place at wanted found none. absurd none) never)

  -- the sectors are reserved
  module _ (writes : b.writes ≡ a.writes) (fresh : List ℕ) (end : ℕ) (reserved : IsReserved end (pages_planned plan.entry) s1.hints.table fresh) (free_ones : All (λ i. is_free_at p i ≡ true) fresh) (enough : pages_planned plan.entry ≤ room (read_as p))
      (table : TableTrue p s0.hints.table → TableReserves p s1.hints.table fresh) where
    abbrev at : ℕ
    at = get_or s0.descriptor.pages 0 0

    none : refusal_to l (read_as p) s.world ≡ None
    none = room_enough p old new plan is s.world begins.taken_up none_has enough

    none_now : refusal_to l s.model s.world ≡ None
    none_now = ap (λ n. refusal_to l n s.world) (sym read) ∙ none

    own_are : line_ops s l ≡ renamed plan
    own_are = ap (λ n. ops l n s.world) (sym read) ∙ unrefused_ops l (read_as p) s.world none ∙ ops_are p old new plan is

    was : DescriptorFits p s0.descriptor.shape s0.descriptor.last s0.descriptor.mark s0.descriptor.pages
    was = begins.keeping.descriptor begins.unneeded

    some : (pages : List Operation) → 0 < length (pages ++ title plan.found.file.fid plan.entry.name ∷ changed_entry plan)
    some pages = let many = length-append pages (title plan.found.file.fid plan.entry.name ∷ changed_entry plan) in omega (arith, many)

    fits : LineFits (pack b) at (line_ops s l)
    fits = subst (λ q. LineFits q at (line_ops s l)) (sym here) (record {
      sound = sound;
      placed = first_placed p (kept s0) was;
      some = subst (λ o. 0 < length o) (sym own_are) (some (first_widenings plan.entry));
      line = subst (λ n. IsKindOfLine (read_as p) (ops l n s.world)) read (renames p old new plan is s.world sound none).file.is_line;
      room = subst (λ n. pages_for_operations (read_as p) (ops l n s.world) ≤ free_sector_count (sights p)) read (unrefused_lines_have_their_pages p s.world l sound.whole none).pages;
    })

    now_fits : DescriptorFits (pack b) s1.descriptor.shape s1.descriptor.last s1.descriptor.mark s1.descriptor.pages
    now_fits = subst (λ x. DescriptorFits (pack b) x.descriptor.shape x.descriptor.last x.descriptor.mark x.descriptor.pages) (sym same)
        (subst (λ q. DescriptorFits q s0.descriptor.shape s0.descriptor.last s0.descriptor.mark s0.descriptor.pages) (sym here) was)

    pub may : MayWrite b (kept s0) (kept s1) s l at fresh
    may = record {
      begins = begins_there a b (kept s0) s l here begins;
      leaves = ap (λ r. unless_refused r s.world s.world) none_now;
      fits = fits;
      start = record {
        sound = fits.sound;
        placed = fits.placed;
        fits = now_fits;
        tally = ap (λ x. x.tally) same;
        free = subst (λ q. AreFree q fresh) (sym here) (are_free p end (pages_planned plan.entry) s1.hints.table fresh reserved free_ones);
        table = λ t. subst (λ q. TableReserves q s1.hints.table fresh) (sym here) (table (subst (λ q. TableTrue q s0.hints.table) here t));
      };
    }

    -- the mark isn't opened
    pub mark_stops : (c : Taped) (s2 : Session) (x : Stop) → Works s0 s2 → DiskAlone b c → IfRefused {T = Unit {0}} (Err x) (λ r. ⊥) → Started {T = Unit {0}} b c (kept s0) (kept s2) at fresh (Err x) → Turned a c (kept s0) (kept_stopped x (kept s2)) s l (stopped x)
    mark_stops c s2 x worked next unrefused started =
        looked_before a b c (kept s0) (kept_stopped x (kept s2)) s l (stopped x) alone next silent writes
        (opening_stops b (kept s0) (kept s1) s l at fresh may c (kept s2) x (world_worked worked) next unrefused started)

    -- it is open
    module _ (c : Taped) (s2 : Session) (u : Unit {0}) (started : Started b c (kept s0) (kept s2) at fresh (Ok u)) where
      midway : Midway b c (kept s0) (kept s2) at [] (line_ops s l) fresh
      midway = opened b (kept s0) (kept s1) s l at fresh may c (kept s2) u started

      arrived : Arrived p (pack c) (kept s2) [] fresh
      arrived = subst (λ q. Arrived q (pack c) (kept s2) [] fresh) here (record { whole = midway.whole; tidy = midway.tidy; reads = midway.reads; fits = midway.fits; found = started.found; free = midway.free })

      pub asks : MayRename (pack c) plan fresh
      asks = may_rename p old new plan is s.world sound none (pack c) (kept s2) fresh arrived

      -- the steps, to their end or to what stopped them
      pub renaming_ends : (d : Taped) (s3 : Session) (r : Result (Unit {0}) Stop) → Works s0 s3 → DiskAlone b d → IfRefused r (λ x. ⊥) → StepsOn c d (kept s2) (kept s3) (renamed plan) fresh (files p old new plan is) r → WritesLine a d (kept s0) (kept s3) s l r
      renaming_ends d s3 (Ok y) worked next unrefused steps =
          let done = steps_done b (kept s0) (kept s1) s l at fresh may c (kept s2) u started (Unit {0}) d (kept s3) (files p old new plan is) y (world_worked worked) next none_now
          (subst (λ o. StepsOn c d (kept s2) (kept s3) o fresh (files p old new plan is) (Ok y)) (sym own_are) steps) in
          record {
            unrefused = none_now;
            plain = λ form formed. looked_before a b d (kept s0) (kept s3) s l (plain_reply s (typed l)) alone next silent writes (done.plain form formed);
            memory = looked_before a b d (kept s0) (kept s3) s l reply.Memory alone next silent writes done.memory;
          }
      renaming_ends d s3 (Err x) worked next unrefused steps =
          looked_before a b d (kept s0) (kept_stopped x (kept s3)) s l (stopped x) alone next silent writes
          (steps_stop b (kept s0) (kept s1) s l at fresh may c (kept s2) u started (Unit {0}) d (kept s3) (files p old new plan is) x (world_worked worked) next unrefused
          (λ g h. subst (λ fs. Contains fs g) (sym files_are_named) (touched p old new plan is g h))
          (subst (λ o. StepsOn {T = Unit {0}} c d (kept s2) (kept s3) o fresh (files p old new plan is) (Err x)) (sym own_are) steps))
