-- The steps of a rename: what is asked of each, once the ones before it are done, and how they join.
use Rattle.std.proofs.Common.{◌≡◌, ◌++◌, ◌≤◌, ℕ, Bool, true, false, List, [], ◌∷◌, Option, Some, None, Result, Ok, Err, Contains, inl, inr, length, take, take_all, append-nil, refl, sym, ap, subst, ◌∙◌, arith}
use Rattle.std.proofs.lemmas.List.Elements.{Contains-append_cases, Contains-append_left, Contains-append_right}
use Rattle.std.specs.Option.{is_some, unwrap_or}
use Rattle.alto_words.specs.declared.fid.Fid.{Fid}
use Rattle.alto_words.specs.Fid.{is_fid, sys_dir}
use Rattle.directory.specs.Asked.{DirStands}
use Rattle.disk_records.specs.Packs.{Pack, carried}
use Rattle.disk_records.specs.Tapes.{Taped, pack}
use Rattle.disk_records.specs.declared.records.Place.{Place}
use Rattle.disk_records.specs.declared.records.Place.TheVariants.{Entry, Held, Next, Root}
use Rattle.exec_session.specs.laws_line.specs.LineLaws.{IsEntered}
use Rattle.exec_session.specs.laws_line.specs.Ready.{steps_of}
use Rattle.exec_session.specs.laws_lookup.proofs.names.Laws.{slots_stay}
use Rattle.exec_session.specs.laws_midway.proofs.found.Laws.{found_file_lives}
use Rattle.laws_operation.proofs.leave.Laws.{leave_takes_the_only_entry}
use Rattle.laws_operation.proofs.places.Laws.{carried_in_place, file_lives_in_a_place}
use Rattle.laws_operation.specs.EntryLaws.{HasName}
use Rattle.exec_session.specs.laws_steps.proofs.entries.Laws.{entered_is_meant, entered_stays}
use Rattle.exec_session.specs.laws_steps.proofs.names.Laws.{absent_name_stays_absent, leave_keeps_room}
use Rattle.exec_session.specs.laws_steps.specs.KeepingLaws.{IfByEntry}
use Rattle.exec_session.specs.laws_steps.specs.LineKeepingLaws.{StaysFoundOver}
use Rattle.exec_session.specs.pack_laws.proofs.files.Laws.{places_are_lowest}
use Rattle.page_seeking.specs.Refs.{FileIsFrom, FileStands}
use Rattle.page_seeking.specs.declared.refs.FileRef.{FileRef}
use Rattle.pack_model.specs.hints.Misled.{leader_page}
use Rattle.pack_model.specs.operations.Rooms.{largest_run}
use Rattle.pack_model.specs.operations.Step.Operation.{enter, leave, title, widen}
use Rattle.pack_model.specs.operations.Step.{Operation, step}
use Rattle.pack_model.specs.reading.Files.{place}
use Rattle.pack_model.specs.reading.Model.{Model, dir_items, is_named, read_as}
use Rattle.pack_model.specs.reading.Sights.{sights}
use Rattle.pack_model.specs.reading.Slots.{entry_length}
use Rattle.pack_model.specs.reading.Versions.{Entered, exact}
use Rattle.session_model.specs.Finding.{fid_of}
use Rattle.session_model.specs.Keeping.{Kept}
use Rattle.exec_steps.specs.Rooms.{pages_planned, widens_if}
use Rattle.exec_steps.specs.declared.rooms.NewEntry.{NewEntry}
use Rattle.exec_session.specs.declared.stop.Stop.{Stop}
use Rattle.exec_steps.proofs.Calling.{dir_stands_still, widens_stay}
use Rattle.exec_steps.proofs.Joining.{step_for, step_stops, steps_join}
use Rattle.exec_steps.proofs.Stepping.{steps_append}
use Rattle.exec_steps.specs.Asked.{MayEnterFile, first_widenings}
use Rattle.exec_steps.specs.Midway.{Arrived, StepsOn}
use Rattle.exec_writing.specs.Plans.{MayChange, MayRename, changed_entry, renamed}
use Rattle.exec_writing.specs.declared.rename.Renaming.{Renaming}
use Rattle.exec_writing.proofs.Leaving.{kinds_apart}

-- ---- over pages of directories
stay_found : (m : Model) (e : NewEntry) (g : Fid) (from : Place) → StaysFoundOver m (first_widenings e) g from
stay_found m e g from = over e.widens_root
  where
    over : (b : Bool) → StaysFoundOver m (widens_if b sys_dir ++ widens_if e.widens_dir e.dir.fid) g from
    over true = (tt, widens_stay e.widens_dir e.dir.fid _ g from)
    over false = widens_stay e.widens_dir e.dir.fid m g from

-- what is so of the model after a page more, if it was before, is so after the planned ones
over_pages : (P : Model → Type 0) → ((m : Model) (d : Fid) → P m → P (step m (widen d))) → (m : Model) (e : NewEntry) → P m → P (steps_of m (first_widenings e))
over_pages P keeps m e h = subst P (sym (steps_append m (widens_if e.widens_root sys_dir) (widens_if e.widens_dir e.dir.fid))) (one e.widens_dir e.dir.fid (steps_of m (widens_if e.widens_root sys_dir)) (one e.widens_root sys_dir m h))
  where
    one : (b : Bool) (d : Fid) (n : Model) → P n → P (steps_of n (widens_if b d))
    one true d n k = keeps n d k
    one false d n k = k

-- ---- the leader's sector
leader_carried : (p : Pack) (f : Fid) (at : ℕ) → place (sights p) f 0 ≡ Some at → carried p at ≡ Some (leader_page f)
leader_carried p f at placed = ((places_are_lowest p (leader_page f)).lowest at placed).here

-- a leader stays in its sector where a file that is held there stays found
pub leader_stays : {p q : Pack} {k : Kept} {ops : List Operation} {left : List ℕ} (f : Fid) (at : ℕ) → Arrived p q k ops left → StaysFoundOver (read_as p) ops f (Held at) → place (sights p) f 0 ≡ Some at → place (sights q) f 0 ≡ Some at
leader_stays {p} {q} f at arrived stays placed = carried_in_place q (leader_page f) at arrived.whole (arrived.found f at (Held at) stays (refl, leader_carried p f at placed)).1

-- ---- what is asked of the change of the entry
module _ (a b : Taped) (k1 : Kept) (plan : Renaming) (left : List ℕ) (may : MayChange (pack a) plan) (ab : Arrived (pack a) (pack b) k1 (leave plan.found.dir.fid plan.found.name ∷ []) left) where
  abbrev f : Fid
  f = plan.found.file.fid

  abbrev d : Fid
  d = plan.found.dir.fid

  abbrev e : NewEntry
  e = plan.entry

  abbrev m : Model
  m = read_as (pack a)

  abbrev out : Operation
  out = leave plan.found.dir.fid plan.found.name

  -- the directory isn't the file whose entry leaves
  other : (x : Entered) → exact plan.found.name (dir_items m d) ≡ Some x → is_fid e.dir.fid x.0 ≡ false
  other x is =
      let one : f ≡ x.0 = ap (λ (r : Option Entered). unwrap_or (fid_of r) f) (sym (entered_is_meant m d f plan.found.name may.leaves.entered) ∙ is) in
      ap (λ g. is_fid e.dir.fid g) (sym one) ∙ kinds_apart e.dir.fid f may.dir.directory may.ordinary.no_directory

  by_entry : (from : Place) → IfByEntry from ((x : Entered) → exact plan.found.name (dir_items m d) ≡ Some x → is_fid e.dir.fid x.0 ≡ false)
  by_entry Root = tt
  by_entry (Entry g w) = other
  by_entry (Next i) = tt
  by_entry (Held i) = tt

  dir_there : FileIsFrom (pack b) e.dir
  dir_there = ab.found e.dir.fid e.dir.leader_at e.dir.from (by_entry e.dir.from, tt) may.dir.stands.from

  placed : place (sights (pack b)) f 0 ≡ Some plan.leader_at
  placed = leader_stays f plan.leader_at ab (tt, tt) may.leader

  named : HasName m d plan.found.name f
  named = record { before = may.leaves.entered.before; behind = may.leaves.entered.behind; own = may.leaves.entered.own; items = may.leaves.entered.items_are; same = may.leaves.entered.same }

  pub may_enter : MayEnterFile (pack b) e f plan.leader_at
  may_enter = record {
    dir = record {
      stands = record { whole = ab.whole; tidy = ab.tidy; from = dir_there };
      directory = may.dir.directory;
      living = found_file_lives (pack b) e.dir.fid e.dir.leader_at e.dir.from ab.whole ab.tidy dir_there;
    };
    stored = may.stored;
    absent = ap (λ n. exact e.name (dir_items n e.dir.fid)) ab.reads ∙ absent_name_stays_absent m e.dir.fid e.name out refl may.absent;
    room = subst (λ n. entry_length (length e.name) ≤ largest_run (dir_items n e.dir.fid)) (sym ab.reads) (let was = may.room in let more = leave_keeps_room m e.dir.fid d plan.found.name in omega (arith, was, more));
    living = file_lives_in_a_place (pack b) f ∙ ap is_some placed;
    nameless = ap (λ n. is_named n f) ab.reads ∙ leave_takes_the_only_entry (pack a) d f plan.found.name named;
    enterable = may.enterable;
    leader = placed;
  }

-- the change, as its two steps
module _ (a b : Taped) (k0 k1 : Kept) (plan : Renaming) (may : MayChange (pack a) plan) where
  abbrev out_of : List Operation
  out_of = leave plan.found.dir.fid plan.found.name ∷ []

  abbrev comes : List Operation
  comes = enter plan.entry.dir.fid plan.entry.name plan.found.file.fid ∷ []

  pub leaving_stops : (T U : Type 0) (stop : Stop) → StepsOn {T = U} a b k0 k1 out_of [] (plan.found.dir.fid ∷ []) (Err stop) → StepsOn {T = T} a b k0 k1 (changed_entry plan) [] (plan.found.dir.fid ∷ plan.entry.dir.fid ∷ []) (Err stop)
  leaving_stops T U stop steps = step_stops T U a b k0 k1 out_of comes [] [] (plan.found.dir.fid ∷ []) (plan.entry.dir.fid ∷ []) stop steps

  pub entry_changes : {T : Type 0} (c : Taped) (k2 : Kept) (x : Unit {0}) (result : Result T Stop) → StepsOn a b k0 k1 out_of [] (plan.found.dir.fid ∷ []) (Ok x)
      → (MayEnterFile (pack b) plan.entry plan.found.file.fid plan.leader_at → StepsOn b c k1 k2 comes [] (plan.entry.dir.fid ∷ []) result)
      → StepsOn a c k0 k2 (changed_entry plan) [] (plan.found.dir.fid ∷ plan.entry.dir.fid ∷ []) result
  entry_changes {T} c k2 x result left entered =
      steps_join T (Unit {0}) a b c k0 k1 k2 out_of comes [] [] (plan.found.dir.fid ∷ []) (plan.entry.dir.fid ∷ []) x result left (λ rest ab. entered (may_enter a b k1 plan ([] ++ rest) may ab))

-- ---- what is asked once the pages are there, and once the leader has the name
module _ (p q r : Pack) (k1 k2 : Kept) (plan : Renaming) (fresh left rest : List ℕ) (may : MayRename p plan fresh) (pq : Arrived p q k1 (first_widenings plan.entry) left) (qr : Arrived q r k2 (title plan.found.file.fid plan.entry.name ∷ []) rest) where
  abbrev own : Operation
  own = title plan.found.file.fid plan.entry.name

  model_is : read_as r ≡ step (steps_of (read_as p) (first_widenings plan.entry)) own
  model_is = qr.reads ∙ ap (λ m. step m own) pq.reads

  titled_dir : (dir : FileRef) → DirStands p dir → DirStands r dir
  titled_dir dir stands = dir_stands_still dir qr (λ m. (tt, tt)) (dir_stands_still dir pq (λ m. stay_found m plan.entry dir.fid dir.from) stands)

  -- of the model after the name in the leader
  after_title : (P : Model → Type 0) → ((m : Model) (g : Fid) → P m → P (step m (widen g))) → ((m : Model) → P m → P (step m own)) → P (read_as p) → P (read_as r)
  after_title P widens titles h = subst P (sym model_is) (titles (steps_of (read_as p) (first_widenings plan.entry)) (over_pages P widens (read_as p) plan.entry h))

  pub may_change : MayChange r plan
  may_change = record {
    leaves = record {
      no_system = may.leaves.no_system;
      dir = titled_dir plan.found.dir may.leaves.dir;
      entered = after_title (λ m. IsEntered m plan.found.dir.fid plan.found.name plan.found.file.fid)
          (λ m g h. entered_stays m plan.found.dir.fid plan.found.file.fid plan.found.name (widen g) refl h)
          (λ m h. entered_stays m plan.found.dir.fid plan.found.file.fid plan.found.name own refl h)
          may.leaves.entered;
    };
    ordinary = may.ordinary;
    leader = leader_stays plan.found.file.fid plan.leader_at qr (tt, tt) (leader_stays plan.found.file.fid plan.leader_at pq (stay_found (read_as p) plan.entry plan.found.file.fid (Held plan.leader_at)) may.leader);
    dir = titled_dir plan.entry.dir may.widens.dir;
    stored = may.takes.stored;
    absent = after_title (λ m. exact plan.entry.name (dir_items m plan.entry.dir.fid) ≡ None)
        (λ m g h. absent_name_stays_absent m plan.entry.dir.fid plan.entry.name (widen g) refl h)
        (λ m h. absent_name_stays_absent m plan.entry.dir.fid plan.entry.name own refl h)
        may.takes.absent;
    room =
        subst (λ m. entry_length (length plan.entry.name) ≤ largest_run (dir_items m plan.entry.dir.fid)) (sym model_is)
        (subst (λ is. entry_length (length plan.entry.name) ≤ largest_run is) (sym (slots_stay (steps_of (read_as p) (first_widenings plan.entry)) plan.entry.dir.fid own refl))
        (subst (λ ops. entry_length (length plan.entry.name) ≤ largest_run (dir_items (steps_of (read_as p) ops) plan.entry.dir.fid)) (sym may.planned) may.takes.place));
    enterable = may.takes.enterable;
  }

-- ---- all as one
-- each file once
each_once : (a b c d g : Fid) → Contains ((a ∷ b ∷ []) ++ (c ∷ d ∷ b ∷ [])) g → Contains (a ∷ b ∷ c ∷ d ∷ []) g
each_once a b c d g h = elim (Contains-append_cases (a ∷ b ∷ c ∷ d ∷ []) (b ∷ []) g h) [
  | inl x ↦ x
  | inr x ↦ Contains-append_right (a ∷ []) (b ∷ c ∷ d ∷ []) g (Contains-append_left (b ∷ []) (c ∷ d ∷ []) g x)
]

module _ (a : Taped) (k0 : Kept) (plan : Renaming) (fresh : List ℕ) (number : length fresh ≡ pages_planned plan.entry) where
  abbrev files : List Fid
  files = sys_dir ∷ plan.entry.dir.fid ∷ plan.found.file.fid ∷ plan.found.dir.fid ∷ []

  abbrev pages : List Operation
  pages = first_widenings plan.entry

  abbrev others : List Operation
  others = title plan.found.file.fid plan.entry.name ∷ changed_entry plan

  abbrev first_files : List Fid
  first_files = sys_dir ∷ plan.entry.dir.fid ∷ []

  abbrev other_files : List Fid
  other_files = plan.found.file.fid ∷ plan.found.dir.fid ∷ plan.entry.dir.fid ∷ []

  abbrev taken : List ℕ
  taken = take (pages_planned plan.entry) fresh

  all_taken : taken ++ [] ≡ fresh
  all_taken = append-nil taken ∙ take_all (pages_planned plan.entry) fresh (let e = number in omega (arith, e))

  as_renamed : (T : Type 0) (new : Taped) (k : Kept) (result : Result T Stop) → StepsOn a new k0 k (pages ++ others) (taken ++ []) (first_files ++ other_files) result → StepsOn a new k0 k (renamed plan) fresh files result
  as_renamed T new k result steps =
      step_for a new k0 k (renamed plan) fresh (first_files ++ other_files) files result (each_once sys_dir plan.entry.dir.fid plan.found.file.fid plan.found.dir.fid)
      (subst (λ l. StepsOn a new k0 k (renamed plan) l (first_files ++ other_files) result) all_taken steps)

  -- the pages break off
  pub pages_stop : (T U : Type 0) (b : Taped) (k1 : Kept) (stop : Stop) → StepsOn {T = U} a b k0 k1 pages taken first_files (Err stop) → StepsOn {T = T} a b k0 k1 (renamed plan) fresh files (Err stop)
  pages_stop T U b k1 stop steps = as_renamed T b k1 (Err stop) (step_stops T U a b k0 k1 pages others taken [] first_files other_files stop steps)

  module _ (b : Taped) (k1 : Kept) (x : Unit {0}) (may : MayRename (pack a) plan fresh) (widened : StepsOn a b k0 k1 pages taken first_files (Ok x)) where
    stands : {left : List ℕ} → Arrived (pack a) (pack b) k1 pages left → FileStands (pack b) plan.found.file
    stands ab = record {
      whole = ab.whole;
      tidy = ab.tidy;
      from = ab.found plan.found.file.fid plan.found.file.leader_at plan.found.file.from (stay_found (read_as (pack a)) plan.entry plan.found.file.fid plan.found.file.from) may.file.from;
    }

    -- the name does
    pub title_stops : (T U : Type 0) (c : Taped) (k2 : Kept) (stop : Stop) → (FileStands (pack b) plan.found.file → StepsOn {T = U} b c k1 k2 (title plan.found.file.fid plan.entry.name ∷ []) [] (plan.found.file.fid ∷ []) (Err stop))
        → StepsOn {T = T} a c k0 k2 (renamed plan) fresh files (Err stop)
    title_stops T U c k2 stop titled =
        as_renamed T c k2 (Err stop) (steps_join T (Unit {0}) a b c k0 k1 k2 pages others taken [] first_files other_files x (Err stop) widened
        (λ left ab. step_stops T U b c k1 k2 (title plan.found.file.fid plan.entry.name ∷ []) (changed_entry plan) [] [] (plan.found.file.fid ∷ []) (plan.found.dir.fid ∷ plan.entry.dir.fid ∷ []) stop (titled (stands ab))))

    -- the entry is changed, or its change breaks off
    pub rename_ends : (T : Type 0) (c d : Taped) (k2 k3 : Kept) (y : Unit {0}) (result : Result T Stop) → (FileStands (pack b) plan.found.file → StepsOn b c k1 k2 (title plan.found.file.fid plan.entry.name ∷ []) [] (plan.found.file.fid ∷ []) (Ok y))
        → (MayChange (pack c) plan → StepsOn c d k2 k3 (changed_entry plan) [] (plan.found.dir.fid ∷ plan.entry.dir.fid ∷ []) result)
        → StepsOn a d k0 k3 (renamed plan) fresh files result
    rename_ends T c d k2 k3 y result titled changed =
        as_renamed T d k3 result (steps_join T (Unit {0}) a b d k0 k1 k3 pages others taken [] first_files other_files x result widened
        (λ left ab. steps_join T (Unit {0}) b c d k1 k2 k3 (title plan.found.file.fid plan.entry.name ∷ []) (changed_entry plan) [] [] (plan.found.file.fid ∷ []) (plan.found.dir.fid ∷ plan.entry.dir.fid ∷ []) y result (titled (stands ab))
        (λ rest bc. changed (may_change (pack a) (pack b) (pack c) k1 k2 plan fresh ([] ++ left) ([] ++ rest) may ab bc))))
