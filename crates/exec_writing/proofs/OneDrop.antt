-- A drop by two calls as one operation of a line: the releases of the file's sectors, and the value that frees the slot of its entry.
use Rattle.std.proofs.Common.{Bool, Contains, Err, IsErrOf, List, None, Ok, OnOk, Option, Result, Some, [], ap, ap₂, append-nil, arith, false, length, length-append, refl, subst, suc, sym, take, true, zero, ℕ, ◌++◌, ◌+◌, ◌<◌, ◌∙◌, ◌∷◌, ◌≡◌, ◌≤◌}
use Rattle.std.proofs.lemmas.List.{take-append-le}
use Rattle.std.proofs.lemmas.Result.{on_ok_weaker}
use Rattle.alto_words.specs.Fid.{is_fid}
use Rattle.alto_words.specs.declared.fid.Fid.{Fid}
use Rattle.alto_words.specs.declared.wanted.Wanted.TheVariants.{Exact}
use Rattle.disk_records.proofs.FirstOnes.{first_front, first_then}
use Rattle.disk_records.proofs.Growing.{added-twice, grown_here, pack-after}
use Rattle.disk_records.specs.Causes.{HasCause, IsCause, never, other}
use Rattle.disk_records.specs.Events.{IsFirstOf}
use Rattle.disk_records.specs.Packs.{Pack, after}
use Rattle.disk_records.specs.Tapes.{Grown, Taped, added, pack}
use Rattle.disk_records.specs.declared.records.Event.{Event}
use Rattle.disk_records.specs.declared.records.Page.{Page}
use Rattle.disk_records.specs.declared.records.Place.{Place}
use Rattle.disk_records.specs.declared.records.Tally.{Tally}
use Rattle.directory.specs.Asked.{DirIsFound, DirStands}
use Rattle.directory.specs.Errors.{IfMisled, cause_of, out_of_memory}
use Rattle.directory.specs.Leaving.{FreesSlot, Wrote, entry_named, freed, unfreed}
use Rattle.directory.specs.Found.{IsAbsent}
use Rattle.directory.specs.declared.errors.DirError.{DirError}
use Rattle.directory.specs.declared.errors.DirError.TheVariants.{NoSuchName, NameTaken, NoSlot, File}
use Rattle.exec_session.specs.laws_call.specs.Acting.{Operates, Releases, around, begun, refused, releasing, unreleased}
use Rattle.exec_session.specs.laws_call.specs.Going.{Goes}
use Rattle.exec_session.specs.laws_hint.specs.MapChanges.{marked}
use Rattle.exec_session.specs.laws_line.specs.CrashLaws.{over}
use Rattle.laws_lookup.proofs.before.Laws.{release_misled_before}
use Rattle.exec_session.specs.laws_operation.proofs.drop.Laws.{release_carries_out}
use Rattle.exec_session.specs.laws_operation.specs.DirectoryWords.{HasEntry}
use Rattle.exec_session.specs.laws_operation.specs.LifeLaws.{MayDrop, first_moves}
use Rattle.exec_session.specs.laws_steps.proofs.dropping.Laws.{drop_is_joined}
use Rattle.exec_session.specs.laws_steps.specs.DroppingLaws.{DropJoins, StandsReleased, released_pack, slot_writes}
use Rattle.exec_session.specs.pack_laws.proofs.tallies.Laws.{tallies_join}
use Rattle.pack_model.specs.hints.Misled.{AnswersMisled, Finds, Misled}
use Rattle.pack_model.specs.operations.Committing.{moves_of}
use Rattle.pack_model.specs.operations.Operations.Move.{quiet}
use Rattle.pack_model.specs.operations.Operations.{release_file_writes}
use Rattle.pack_model.specs.operations.Step.Operation.{drop_file}
use Rattle.pack_model.specs.reading.Files.{lives}
use Rattle.pack_model.specs.reading.Lookup.{EntryAt, entry_at}
use Rattle.pack_model.specs.reading.Model.{read_as}
use Rattle.pack_model.specs.reading.Sights.{sights}
use Rattle.pack_model.specs.reading.Slots.{Item}
use Rattle.pack_model.specs.sessions.Tallies.{Tells, counted}
use Rattle.pack_model.specs.states.Whole.{Tidy, Whole}
use Rattle.page_seeking.proofs.Once.{once_of_whole}
use Rattle.page_seeking.specs.Causes.{cause_of_length}
use Rattle.page_seeking.specs.Refs as refs
use Rattle.page_seeking.specs.Refs.{MisledBy}
use Rattle.page_seeking.specs.declared.refs.FileError.{FileError}
use Rattle.page_seeking.specs.declared.refs.FileError.TheVariants as fault
use Rattle.page_seeking.specs.declared.refs.FileRef.{FileRef}
use Rattle.exec_session.specs.Meant.{IfHint}
use Rattle.exec_session.specs.Stops.{stop_entered, stop_writing, stop_written}
use Rattle.exec_session.specs.declared.stop.Stop.{Stop}
use Rattle.exec_session.specs.declared.stop.Stop.TheVariants as stop
use Rattle.exec_steps.proofs.Counting.{first_few, obeys_many}
use Rattle.exec_writing.proofs.EntryFound.{IsFoundBy}

-- ---- the answer of the second call
on_entered : (X : Type 0) (dir : FileRef) (result : Result (Unit {0}) DirError) → OnOk result X → OnOk (stop_entered dir result) X
on_entered X dir (Ok x) h = h
on_entered X dir (Err e) h = tt

memory_writing : (dir : FileRef) (e : FileError) → IsErrOf {T = Unit {0}} (Err (stop_writing dir e)) stop.Memory → IsErrOf {T = Unit {0}} (Err (File e)) out_of_memory
memory_writing dir (fault.Misled place at wanted found) h = absurd cc
memory_writing dir (fault.Beyond length) h = absurd cc
memory_writing dir fault.DiskFault h = absurd cc
memory_writing dir fault.Memory h = refl

memory_entered : (dir : FileRef) (result : Result (Unit {0}) DirError) → IsErrOf (stop_entered dir result) stop.Memory → IsErrOf result out_of_memory
memory_entered dir (Ok x) h = absurd cc
memory_entered dir (Err NoSuchName) h = absurd cc
memory_entered dir (Err NameTaken) h = absurd cc
memory_entered dir (Err (NoSlot largest)) h = absurd cc
memory_entered dir (Err (File e)) h = memory_writing dir e h

-- ---- the file, found by an entry of its directory, on a whole and tidy pack
module _ (a : Taped) (bits : List Bool) (t : Tally) (f d : Fid) (name : List ℕ) (whole : Whole (pack a)) (tidy : Tidy (pack a)) (entry : IsFoundBy (pack a) d name f) where
  abbrev p : Pack
  p = pack a

  module _ (at : ℕ) (pages : List ℕ) (may : MayDrop (pack a) f at pages) where
    abbrev releases : List Event
    releases = release_file_writes at pages

    abbrev released : Pack
    released = released_pack (pack a) at pages

    joins : DropJoins (Unit {0}) Stop p [] [] f d at pages
    joins =
        let nothing : Goes {T = Unit {0}} {E = Stop} p [] [] (Ok tt) = record { begun = []; start = tt; writes = []; line = over; some = tt; all = (refl, refl) } in
        drop_is_joined (Unit {0}) (Unit {0}) Stop Stop p [] [] tt f d at pages entry.at entry.before entry.later entry.first.name nothing whole tidy may entry.entry_is

    stands : StandsReleased p f d at pages
    stands = joins.stands

    still : HasEntry released d entry.at entry.before entry.later f entry.first.name
    still = stands.entry entry.at entry.before entry.later entry.first.name entry.entry_is

    many : length (first_moves p f) ≡ length releases
    many = sym (obeys_many (release_carries_out p f at pages whole tidy may).drops.obeys)

    -- a prefix of the releases is counted by as many of the moves of the drop
    some_counted : (w n : ℕ) → n ≤ length releases → counted w (take n (first_moves p f)) t ≡ counted w (take n (moves_of (read_as p) (drop_file f))) t
    some_counted w n few = ap (λ l. counted w l t) (sym (take-append-le n (first_moves p f) (quiet ∷ []) (let e = many in omega (arith, few, e))))

    -- the last move isn't counted
    quiet_end : (w k : ℕ) (u : Tally) → counted w (take k (quiet ∷ [])) u ≡ u
    quiet_end w k u = by k
      where
        by : (k : ℕ) → counted w (take k (quiet ∷ [])) u ≡ u
        by zero = refl
        by (suc zero) = refl
        by (suc (suc k)) = refl

    all_counted : (w n k : ℕ) → n ≡ length releases + k → counted w (first_moves p f) t ≡ counted w (take n (moves_of (read_as p) (drop_file f))) t
    all_counted w n k is =
        sym (
        ap (λ x. counted w (take x (first_moves p f ++ quiet ∷ [])) t) (is ∙ ap (λ x. x + k) (sym many))
        ∙ (tallies_join w (first_moves p f) (quiet ∷ []) t).broken k
        ∙ quiet_end (w + length (first_moves p f)) k (counted w (first_moves p f) t)
        )

    -- both calls, where the second was to free the slot of this entry, or stopped before it
    both : (b c : Taped) (bits2 : List Bool) (t2 : Tally) (slot_at : ℕ) (before later : List Item) (own : List ℕ) (dir : FileRef) (result : Result (Unit {0}) DirError)
        → Grown a b → Grown b c → added a b ≡ releases → bits2 ≡ marked false (at ∷ pages) bits → t2 ≡ counted a.writes (first_moves p f) t
        → HasEntry released d slot_at before later f own → IsFirstOf (slot_writes released slot_at before f own) (added b c) → OnOk result (added b c ≡ slot_writes released slot_at before f own) → (IsErrOf result out_of_memory → b.spare < 1)
        → Operates stop.DiskFault stop.Memory (drop_file f) [] (around a bits t) (around c bits2 t2) (stop_entered dir result)
    both b c bits2 t2 slot_at before later own dir result first next all table counts has some done memory =
        let slot : List Event = slot_writes released slot_at before f own in
        let events : added a c ≡ added a b ++ added b c = added-twice first next in
        begun (record {
          writes = releases ++ slot;
          released = at ∷ pages;
          exact = joins.written slot_at before later own has;
          acts = joins.acts slot_at before later own has;
          some = subst (λ l. IsFirstOf (releases ++ slot) l) (sym events) (first_then releases slot (added a b) (added b c) all some);
          all = on_entered (added a c ≡ releases ++ slot) dir result (on_ok_weaker result (λ e. events ∙ ap₂ (λ x y. x ++ y) all e) done);
          table = on_entered (bits2 ≡ marked false (at ∷ pages) bits) dir result (on_ok_weaker result (λ e. table) done);
          counts = λ tells. counts ∙ all_counted a.writes (length (added a c)) (length (added b c)) (ap length events ∙ length-append (added a b) (added b c) ∙ ap (λ l. length l + length (added b c)) all);
          out_of_memory = λ e.
              let less = memory (memory_entered dir result e) in
              let kept = first.spare in
              let same = ap length all in
              let sum = length-append releases slot in
              omega (arith, less, kept, same, sum);
        })

  -- ---- the first call breaks off
  broken : {E : Type 0} {fault memory : E} (b : Taped) (bits2 : List Bool) (t2 : Tally) (x : E) (y : Stop) → (IsErrOf {T = Unit {0}} (Err x) fault → IsErrOf {T = Unit {0}} (Err y) stop.DiskFault) → (IsErrOf {T = Unit {0}} (Err y) stop.Memory → IsErrOf {T = Unit {0}} (Err x) memory)
      → Releases {T = Unit {0}} fault memory f (around a bits t) (around b bits2 t2) (Err x) → Operates {T = Unit {0}} stop.DiskFault stop.Memory (drop_file f) [] (around a bits t) (around b bits2 t2) (Err y)
  broken b bits2 t2 x y is_fault is_memory (unreleased calm bad none) = refused calm tt (λ e. none (is_memory e))
  broken b bits2 t2 x y is_fault is_memory (releasing r) =
      let gone : List Event = release_file_writes r.at r.pages in
      let here = still r.at r.pages r.may in
      let slot : List Event = slot_writes (released_pack p r.at r.pages) entry.at entry.before f entry.first.name in
      let few = first_few gone (added a b) r.some in
      begun (record {
        writes = gone ++ slot;
        released = r.at ∷ r.pages;
        exact = (joins r.at r.pages r.may).written entry.at entry.before entry.later entry.first.name here;
        acts = (joins r.at r.pages r.may).acts entry.at entry.before entry.later entry.first.name here;
        some = first_front gone slot (added a b) r.some;
        all = tt;
        table = tt;
        counts = λ tells. r.counts (λ e. tells (is_fault e)) ∙ some_counted r.at r.pages r.may a.writes (length (added a b)) few;
        out_of_memory = λ e. let less = r.out_of_memory (is_memory e) in let sum = length-append gone slot in omega (arith, less, sum);
      })

  broken_writing : (b : Taped) (bits2 : List Bool) (t2 : Tally) (file : FileRef) (e : FileError) → Releases {T = Unit {0}} fault.DiskFault fault.Memory f (around a bits t) (around b bits2 t2) (Err e)
      → Operates {T = Unit {0}} stop.DiskFault stop.Memory (drop_file f) [] (around a bits t) (around b bits2 t2) (Err (stop_writing file e))
  broken_writing b bits2 t2 file (fault.Misled place at wanted found) h = broken b bits2 t2 (fault.Misled place at wanted found) (stop.Misled place at wanted found) (λ e. absurd cc) (λ e. absurd cc) h
  broken_writing b bits2 t2 file (fault.Beyond length) h = broken b bits2 t2 (fault.Beyond length) (stop_writing file (fault.Beyond length)) (λ e. absurd cc) (λ e. absurd cc) h
  broken_writing b bits2 t2 file fault.DiskFault h = broken b bits2 t2 fault.DiskFault stop.DiskFault (λ e. refl) (λ e. absurd cc) h
  broken_writing b bits2 t2 file fault.Memory h = broken b bits2 t2 fault.Memory stop.Memory (λ e. absurd cc) (λ e. refl) h

  pub drop_breaks : (b : Taped) (bits2 : List Bool) (t2 : Tally) (file : FileRef) (result : Result (Unit {0}) FileError) (y : Stop) → ◌≡◌ {A = Result (Unit {0}) Stop} (Err y) (stop_written file result) → Releases fault.DiskFault fault.Memory f (around a bits t) (around b bits2 t2) result
      → Operates {T = Unit {0}} stop.DiskFault stop.Memory (drop_file f) [] (around a bits t) (around b bits2 t2) (Err y)
  drop_breaks b bits2 t2 file (Ok x) y is h = absurd cc
  drop_breaks b bits2 t2 file (Err e) y is h = subst (λ r. Operates {T = Unit {0}} stop.DiskFault stop.Memory (drop_file f) [] (around a bits t) (around b bits2 t2) r) (sym is) (broken_writing b bits2 t2 file e h)

  -- ---- and the second is made
  module _ (at : ℕ) (pages : List ℕ) (may : MayDrop (pack a) f at pages) (b c : Taped) (bits2 : List Bool) (t2 : Tally) (dir : FileRef) (first : Grown a b) (next : Grown b c) (all : added a b ≡ release_file_writes at pages) where
    between : pack b ≡ released_pack p at pages
    between = pack-after first ∙ ap (after p) all

    -- it finds the same entry
    same_entry : (q : Pack) (e : EntryAt) → q ≡ released_pack p at pages → entry_named q d name ≡ Some e → e.fid ≡ f
    same_entry q e is named =
        let here : entry_named p d name ≡ Some e = ap (λ l. entry_at (Exact name) l) (sym (stands at pages may).slots) ∙ subst (λ r. entry_named r d name ≡ Some e) is named in
        let there : Some entry.first ≡ Some e = sym entry.named ∙ here in
        let same : entry.first ≡ e = cc in
        ap (λ (x : EntryAt). x.fid) (sym same) ∙ entry.own

    ended : (result : Result (Unit {0}) DirError) → bits2 ≡ marked false (at ∷ pages) bits → t2 ≡ counted a.writes (first_moves p f) t → FreesSlot (pack b) d name b c result
        → Operates stop.DiskFault stop.Memory (drop_file f) [] (around a bits t) (around c bits2 t2) (stop_entered dir result)
    ended result table counts (unfreed u) =
        both at pages may b c bits2 t2 entry.at entry.before entry.later entry.first.name dir result first next all table counts (still at pages may)
        (subst (λ l. IsFirstOf (slot_writes (released_pack p at pages) entry.at entry.before f entry.first.name) l) (sym u.silent) tt) (on_ok_weaker result (λ x. absurd x) u.undone) (λ e. absurd (u.other e))
    ended result table counts (freed {at = slot_at} {a = before} {b = later} {e = e} named wrote) =
        let own : e.fid ≡ f = same_entry (pack b) e between named.first in
        let has : HasEntry (released_pack p at pages) d slot_at before later f e.name = subst (λ g. HasEntry (released_pack p at pages) d slot_at before later g e.name) own (subst (λ q. HasEntry q d slot_at before later e.fid e.name) between named.entry) in
        let writes : Wrote (slot_writes (released_pack p at pages) slot_at before f e.name) b c result = subst (λ g. Wrote (slot_writes (released_pack p at pages) slot_at before g e.name) b c result) own (subst (λ q. Wrote (slot_writes q slot_at before e.fid e.name) b c result) between wrote) in
        both at pages may b c bits2 t2 slot_at before later e.name dir result first next all table counts has writes.some writes.all writes.out_of_memory

  -- of a file that went
  pub record Went (b : Taped) (bits2 : List Bool) (t2 : Tally) : Type 0 where
    pub at : ℕ
    pub pages : List ℕ
    pub may : MayDrop (pack a) f at pages
    pub all : added a b ≡ release_file_writes at pages
    pub table : bits2 ≡ marked false (at ∷ pages) bits
    pub counts : t2 ≡ counted a.writes (first_moves (pack a) f) t

  tells_ok : (x : Unit {0}) (b : Taped) → Tells {T = Unit {0}} fault.DiskFault b (Ok x)
  tells_ok x b = λ e. absurd cc

  released_went : (b : Taped) (bits2 : List Bool) (t2 : Tally) (x : Unit {0}) → Releases fault.DiskFault fault.Memory f (around a bits t) (around b bits2 t2) (Ok x) → Went b bits2 t2
  released_went b bits2 t2 x (unreleased calm bad none) = absurd bad
  released_went b bits2 t2 x (releasing r) =
      let e : length (added a b) ≡ length (release_file_writes r.at r.pages) = ap length r.all in
      record {
        at = r.at;
        pages = r.pages;
        may = r.may;
        all = r.all;
        table = r.table;
        counts = r.counts (tells_ok x b) ∙ some_counted r.at r.pages r.may a.writes (length (added a b)) (omega (arith, e)) ∙ sym (all_counted r.at r.pages r.may a.writes (length (added a b)) 0 (omega (arith, e)));
      }

  pub went : (b : Taped) (bits2 : List Bool) (t2 : Tally) (file : FileRef) (x : Unit {0}) (dropped : Result (Unit {0}) FileError) → ◌≡◌ {A = Result (Unit {0}) Stop} (Ok x) (stop_written file dropped) → Releases fault.DiskFault fault.Memory f (around a bits t) (around b bits2 t2) dropped → Went b bits2 t2
  went b bits2 t2 file x (Ok y) is h = released_went b bits2 t2 y h
  went b bits2 t2 file x (Err e) is h = absurd cc

  module _ (b : Taped) (bits2 : List Bool) (t2 : Tally) (gone : Went b bits2 t2) (first : Grown a b) (dir : FileRef) (is_dir : dir.fid ≡ d) (there : DirStands (pack a) dir) where
    here : pack b ≡ released_pack p gone.at gone.pages
    here = between gone.at gone.pages gone.may b b bits2 t2 dir first (grown_here b) gone.all

    left : StandsReleased p f d gone.at gone.pages
    left = stands gone.at gone.pages gone.may

    -- its directory is found still
    pub dir_left : DirIsFound (pack b) dir
    dir_left = subst (λ q. DirIsFound q dir) (sym here) (record {
      once = once_of_whole (released_pack p gone.at gone.pages) left.whole;
      from = left.found dir.fid dir.leader_at dir.from (subst (λ g. is_fid g f ≡ false) (sym is_dir) left.apart) there.stands.from;
      directory = there.directory;
      living = subst (λ g. lives (sights (released_pack p gone.at gone.pages)) g ≡ true) (sym is_dir) left.living;
    })

    pub whole_left : Whole (pack b)
    whole_left = subst Whole (sym here) left.whole

    -- with the entry
    never_absent : IsAbsent (pack b) d (Exact name) → ⊥
    never_absent none =
        let same : entry_named (pack b) d name ≡ entry_named p d name = ap (λ q. entry_named q d name) here ∙ ap (λ l. entry_at (Exact name) l) left.slots in
        let both : Some entry.first ≡ None = sym entry.named ∙ sym same ∙ none in
        cc

    pub drop_ends : (c : Taped) (result : Result (Unit {0}) DirError) → Grown b c → FreesSlot (pack b) d name b c result → Operates stop.DiskFault stop.Memory (drop_file f) [] (around a bits t) (around c bits2 t2) (stop_entered dir result)
    drop_ends c result next frees = ended gone.at gone.pages gone.may b c bits2 t2 dir first next gone.all result gone.table gone.counts frees

    -- a hint of the directory that misleads now misled before the releases
    module _ (c : Taped) (next : Grown b c) where
      hint_before : (place : Place) (at : ℕ) (wanted : Page) (found : Option (List ℕ)) → added b c ≡ [] → MisledBy (pack b) [] d place at wanted found → Contains (f ∷ d ∷ []) wanted.fid × AnswersMisled p (added a c) place at wanted found
      hint_before place at wanted found silent by =
          let on_disk = by.answers.on_disk whole_left in
          let apart : is_fid wanted.fid f ≡ false = subst (λ g. is_fid g f ≡ false) (sym by.own) left.apart in
          let events : added a c ≡ release_file_writes gone.at gone.pages = added-twice first next ∙ ap₂ (λ x y. x ++ y) gone.all silent ∙ append-nil (release_file_writes gone.at gone.pages) in (
            subst (Contains (f ∷ d ∷ [])) (sym by.own) (1, omega arith, refl),
            record {
              misled = release_misled_before p f gone.at gone.pages place at wanted whole tidy gone.may on_disk apart (subst (λ q. Misled q place at wanted) here by.answers.misled);
              on_disk = λ w. on_disk;
              finds = subst (λ l. Finds (after p l) place at found) (sym events) (subst (λ q. Finds q place at found) here by.answers.finds);
            },
          )

      slot_hint : (e : FileError) → IsCause b c (cause_of_length e) → refs.IfMisled {T = Unit {0}} (Err e) (MisledBy (pack b) [] d) → refs.IfMisled {T = Unit {0}} (Err e) (λ place at wanted found. added b c ≡ [])
          → IfHint {T = Unit {0}} (Err (stop_writing dir e)) (λ place at wanted found. Contains (f ∷ d ∷ []) wanted.fid × AnswersMisled p (added a c) place at wanted found)
      slot_hint (fault.Misled place at wanted found) cause h silent = hint_before place at wanted found silent h
      slot_hint (fault.Beyond length) cause h silent = absurd cause
      slot_hint fault.DiskFault cause h silent = tt
      slot_hint fault.Memory cause h silent = tt

      pub slot_hints : (result : Result (Unit {0}) DirError) → HasCause (cause_of other never never) b c result → (IsErrOf result NoSuchName → IsAbsent (pack b) d (Exact name)) → IfMisled result (MisledBy (pack b) [] d) → IfMisled result (λ place at wanted found. added b c ≡ [])
          → IfHint (stop_entered dir result) (λ place at wanted found. Contains (f ∷ d ∷ []) wanted.fid × AnswersMisled p (added a c) place at wanted found)
      slot_hints (Ok x) cause absent h silent = tt
      slot_hints (Err NoSuchName) cause absent h silent = absurd (never_absent (absent refl))
      slot_hints (Err NameTaken) cause absent h silent = absurd cause
      slot_hints (Err (NoSlot largest)) cause absent h silent = absurd cause
      slot_hints (Err (File e)) cause absent h silent = slot_hint e cause h silent

-- ---- a hint of the file that misled
pub file_hints : (p : Pack) (events : List Event) (f d : Fid) (a b : Taped) (file : FileRef) (result : Result (Unit {0}) FileError) → HasCause cause_of_length a b result → refs.IfMisled result (MisledBy p events f)
    → IfHint (stop_written file result) (λ place at wanted found. Contains (f ∷ d ∷ []) wanted.fid × AnswersMisled p events place at wanted found)
file_hints p events f d a b file (Ok x) cause h = tt
file_hints p events f d a b file (Err (fault.Misled place at wanted found)) cause h = (subst (Contains (f ∷ d ∷ [])) (sym h.own) (0, omega arith, refl), h.answers)
file_hints p events f d a b file (Err (fault.Beyond length)) cause h = absurd cause
file_hints p events f d a b file (Err fault.DiskFault) cause h = tt
file_hints p events f d a b file (Err fault.Memory) cause h = tt
