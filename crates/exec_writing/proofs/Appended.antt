-- An append that has reserved its sectors, as a turn: its plan, what is asked of its steps, and its sector commands.
use Rattle.std.proofs.Common.{◌≡◌, ◌≤◌, ◌<◌, ◌∙◌, ◌+◌, ◌-◌, ◌*◌, ◌∷◌, ◌++◌, ℕ, Bool, IsTrue, List, [], All, Option, Some, Vec, Result, Err, OnErr, false, length, min, true, ap, inl, inr, refl, sym, subst, arith}
use Rattle.std.specs.Result.{IsErrAnd}
use Rattle.alto_words.specs.declared.fid.Fid.{Fid}
use Rattle.disk_records.proofs.Growing.{pack-silent}
use Rattle.disk_records.specs.Addresses.{pages_of}
use Rattle.disk_records.specs.Events.{writes_in}
use Rattle.disk_records.specs.Packs.{AreFormed, Pack, is_free_at}
use Rattle.disk_records.specs.Tapes.{DiskAlone, Looks, Taped, capped, pack}
use Rattle.disk_records.specs.declared.records.Page.{Page}
use Rattle.disk_records.specs.declared.records.Place.{Place}
use Rattle.exec_words.specs.Texts.{length_text}
use Rattle.exec_words.specs.declared.line.Line.{Line}
use Rattle.exec_words.specs.declared.line.Line.TheVariants as line
use Rattle.exec_words.specs.declared.line.Path.{Path}
use Rattle.exec_words.specs.declared.line.Target.{Target}
use Rattle.exec_words.specs.declared.line.Target.TheVariants.{ByPath, BySerial}
use Rattle.exec_words.specs.declared.reply.Refusal.TheVariants as refusal
use Rattle.exec_session.specs.laws_hint.specs.TableLaws.{TableReserves}
use Rattle.exec_session.specs.page_alloc.specs.Free.{IsReserved}
use Rattle.page_seeking.specs.Seeking.{LastNamed, Quick, all_listed, file_length}
use Rattle.pack_model.specs.hints.Tables.{TableTrue}
use Rattle.pack_model.specs.operations.Committing.{length_of, page_of_byte, pages_added}
use Rattle.pack_model.specs.reading.Files.{place}
use Rattle.pack_model.specs.reading.Model.{Model, read_as, room}
use Rattle.pack_model.specs.reading.Sights.{sights}
use Rattle.pack_model.specs.states.Sound.{Sound}
use Rattle.session_model.specs.Answering.{NoneRefused}
use Rattle.session_model.specs.Bounds.{AllHandy, DoneWithin, NamesItsLast, append_runs, sought_pages}
use Rattle.session_model.specs.Effects.{appended_ops}
use Rattle.session_model.specs.Finding.{the_file}
use Rattle.session_model.specs.Keeping.{Keeping, Kept, world_of}
use Rattle.session_model.specs.Operands.{no_directory}
use Rattle.session_model.specs.Refusals.{is_streamed}
use Rattle.session_model.specs.Touched.{files_touched}
use Rattle.session_model.specs.Turning.{HintFailing, State, cue_files, typed}
use Rattle.session_model.specs.Replies.{refusal as refusal_to}
use Rattle.session_model.specs.Worlds.{World}
use Rattle.exec_session.specs.Found.{files_followed, operand}
use Rattle.exec_session.specs.Meant.{IfHint, IfRefused, IsSoon, LooksAbout, MayObey, TakesLine, kept}
use Rattle.exec_steps.specs.Asked.{IsSameButTable, MayGrowFile, Works}
use Rattle.exec_session.specs.declared.session.Session.{Session}
use Rattle.exec_session.specs.declared.stop.Stop.{Stop}
use Rattle.exec_session.specs.declared.stop.Stop.TheVariants as stop
use Rattle.exec_session.proofs.Looking.{quick_stays}
use Rattle.exec_session.proofs.Stopping.{error_is}
use Rattle.exec_steps.specs.Midway.{AreFree, MayStart}
use Rattle.exec_writing.specs.Measured.{IsMeasured}
use Rattle.exec_writing.specs.declared.measuring.Measured.{Measured}
use Rattle.exec_writing.proofs.Appending.{append_full, append_plans, append_writes, few_bytes, few_pages, may_grow}
use Rattle.exec_steps.proofs.Frames.{world_worked, works_looked, works_reserved, works_twice}
use Rattle.exec_writing.proofs.Lengths.{measured_length}
use Rattle.exec_writing.proofs.Reserved.{alone_both, ready_reserved, reserved_free, same_but_reserved, silent_both, table_was}
use Rattle.exec_writing.proofs.Touching.{follows_file, handy_front, handy_of, named}
use Rattle.exec_writing.proofs.Turns.{Plans, ReadyToWrite, may_start, touches, unneeded, unwritten_turns}

module _ {told : Bool} {most few : ℕ} (old mid at : Taped) (s t u : Session) (target : Target) (bytes items fresh : List ℕ) (x : Measured) (pages : ℕ) (is_told : IsTrue told) (may : MayObey old s (line.Append target bytes)) (about : LooksAbout told most old mid s t) (looks : Looks told few mid at) (same : IsSameButTable t u) (is : fresh ≡ items)
    (counts : pages ≡ pages_added x.length (length bytes)) (found : Sound (pack old) → IsMeasured (pack old) target x) (none : is_streamed (world_of (kept s)) (Some x.file.fid) ≡ false) (reserved : IsReserved (pages_of mid.form) (min pages 65535) u.hints.table items) (free : All (λ i. is_free_at (pack mid) i ≡ true) items) (enough : Sound (pack mid) → pages ≤ room (read_as (pack mid)))
    (table : Sound (pack mid) → TableTrue (pack mid) t.hints.table → TableReserves (pack mid) u.hints.table items) (first : old.writes ≡ capped (writes_in old.events)) (next : at.writes ≡ capped (writes_in at.events)) (formed : AreFormed (pack at)) where
  abbrev l : Line
  l = line.Append target bytes

  abbrev f : Fid
  f = x.file.fid

  first_same : pack mid ≡ pack old
  first_same = pack-silent about.looks.alone.grown (about.looks.silent is_told)

  next_same : pack at ≡ pack mid
  next_same = pack-silent looks.alone.grown (looks.silent is_told)

  are_free : AreFree (pack mid) items
  are_free = reserved_free (pack mid) (pages_of mid.form) (min pages 65535) u.hints.table items reserved free

  few_come : pages ≤ 4
  few_come = let most = few_pages x.length (length bytes) (few_bytes (world_of (kept s)) target bytes may.taken_up) in omega (arith, counts, most)

  many : length fresh ≡ pages
  many = let count = reserved.count in let low = few_come in ap length is ∙ omega (arith, count, low)

  pub append_ready : ReadyToWrite old at s u fresh
  append_ready = subst (ReadyToWrite old at s u) (sym is) (ready_reserved old mid at s t u is_told about looks same items first next formed are_free table)

  pub append_planned : Sound (pack old) → Plans (read_as (pack old)) l (world_of (kept s)) (appended_ops f bytes s.moment) (length_text (x.length + length bytes)) (f ∷ [])
  append_planned right =
      append_plans (pack old) (world_of (kept s)) target bytes right may.taken_up x (found right) none
      (subst (λ n. n ≤ room (read_as (pack old))) counts (subst (λ p. pages ≤ room (read_as p)) first_same (enough (subst Sound (sym first_same) right))))

  pub append_may : Sound (pack old) → MayGrowFile (pack at) x.file bytes fresh
  append_may right = may_grow (pack old) (pack at) target x bytes fresh (next_same ∙ first_same) right (found right) (many ∙ counts) (subst (AreFree (pack old)) (sym is) (subst (λ p. AreFree p items) first_same are_free))

  -- ---- its sector commands
  module _ (sized : length u.hints.table ≡ length t.hints.table) (new : Taped) (v : Session) (works : Works u v) (alone : DiskAlone at new) (st : State) (keeping : Keeping (pack old) (kept s) st)
      (soon : (path : Path) → target ≡ ByPath path → AllHandy (pack old) (kept s).busy (kept s).cache (files_followed (pack old) (operand target no_directory)) → LastNamed (pack old) f → IsSoon (sought_pages (read_as (pack old)) path + 4) old mid s t)
      (later : Sound (pack mid) → TableTrue (pack mid) t.hints.table → at.runs ≤ mid.runs + pages)
      (last : (first : Kept) (place : ℕ) → MayGrowFile (pack at) x.file bytes fresh → MayStart (pack at) first (kept u) place fresh → Quick (pack at) f u.hints.cache → LastNamed (pack at) f → IsSoon (3 * length fresh + 15) at new u v)
    where
      abbrev p : Pack
      p = pack old

      abbrev m : Model
      m = read_as (pack old)

      all_work : Works s v
      all_work = works_twice (works_looked about.looked) (works_twice (works_reserved same sized) works)

      reads : m ≡ st.model
      reads = keeping.stands.reads (unneeded old s l (append_writes target bytes) may st keeping)

      last_named : Sound p → NamesItsLast p m (the_file m target) → LastNamed p f
      last_named right h =
          let there = found right in
          let is_file : the_file m target ≡ f = named m target f there.at.is in
          let long : length_of m (the_file m target) ≡ file_length p f = ap (length_of m) is_file ∙ sym (measured_length p target x right there) ∙ there.length in
          record {
            leader_at = h.at;
            leader = ap (λ g. place (sights p) g 0) (sym is_file) ∙ h.leader;
            number = h.number ∙ ap page_of_byte long;
            at = ap (λ n. place (sights p) f (page_of_byte n)) (sym long) ∙ ap (λ g. place (sights p) g (page_of_byte (length_of m (the_file m target)))) (sym is_file) ∙ h.sector;
          }

      -- of a path, where the cache refused no address
      within : (path : Path) → target ≡ ByPath path → AllHandy p (kept s).busy (kept s).cache (files_followed p (operand target no_directory)) → LastNamed p f → NoneRefused (kept s) (kept v) → new.runs - old.runs ≤ sought_pages m path + 3 * pages + 24
      within path e handy ends none =
          let right = handy.sound in
          let there = found right in
          let a = soon path e handy ends in
          let b = later (subst Sound (sym first_same) right) (table_was old mid at s t u is_told about looks same handy.table) in
          let mine : Quick p f s.hints.cache = record { whole = right.whole; links = handy.links; handy = handy_of p s.hints.table (all_listed s.hints.cache) (files_followed p (operand target no_directory)) f handy (follows_file m target f there.at.is) } in
          let cache : u.hints.cache ≡ t.hints.cache = ap (λ (y : Session). y.hints.cache) same in
          let quick : Quick (pack at) f u.hints.cache = subst (Quick (pack at) f) (sym cache) (subst (λ q. Quick q f t.hints.cache) (sym next_same) (quick_stays f about is_told mine)) in
          let start = may_start old s l (append_writes target bytes) may st keeping at new u v fresh append_ready alone (world_worked all_work) (appended_ops f bytes s.moment) (length_text (x.length + length bytes)) (f ∷ []) (append_planned right) in
          let c = last (kept s) _ (append_may right) start quick (subst (λ q. LastNamed q f) (sym (next_same ∙ first_same)) ends) in
          let number = many in
          let low = few_come in
          let same_count = none.0 in
          let below = none.1 in
          let grows = works.refused in
          let middle = ap (λ (y : Session). y.hints.cache.refused) same in
          elim a [
            | inl runs ↦ elim c [ inl further ↦ omega (arith, runs, b, further, number, low) | inr rose ↦ absurd (let start_grows = about.looked.refused in omega (arith, rose, same_count, below, middle, start_grows)) ]
            | inr rose ↦ absurd (omega (arith, rose, same_count, below, middle, grows))
          ]

      pub append_few : AllHandy p (kept s).busy (kept s).cache (cue_files st (typed l)) → NoneRefused (kept s) (kept v) → DoneWithin p st.model l (new.runs - old.runs)
      append_few handy none = by target refl
        where
          files : cue_files st (typed l) ≡ files_followed p (operand target no_directory) ++ []
          files = touches old s l (append_writes target bytes) may st keeping ∙ sym (ap (λ n. files_touched l n st.world) reads)

          followed : AllHandy p (kept s).busy (kept s).cache (files_followed p (operand target no_directory))
          followed = handy_front p (kept s).busy (kept s).cache (files_followed p (operand target no_directory)) [] (subst (AllHandy p (kept s).busy (kept s).cache) files handy)

          by : (g : Target) → target ≡ g → DoneWithin p st.model (line.Append g bytes) (new.runs - old.runs)
          by (BySerial n) e = tt
          by (ByPath path) e = λ names.
              let right = handy.sound in
              let there = found right in
              let ends = last_named right (subst (λ n. NamesItsLast p n (the_file n target)) (sym reads) (subst (λ g. NamesItsLast p st.model (the_file st.model g)) (sym e) names)) in
              let is_file : the_file m (ByPath path) ≡ f = ap (the_file m) (sym e) ∙ named m target f there.at.is in
              let come : pages_added (length_of m (the_file m (ByPath path))) (length bytes) ≡ pages = ap (λ g. pages_added (length_of m g) (length bytes)) is_file ∙ ap (λ n. pages_added n (length bytes)) (sym (measured_length p target x right there)) ∙ sym counts in
              let runs = within path e followed ends none in
              subst (λ n. new.runs - old.runs ≤ append_runs n path bytes) reads (omega (arith, runs, come))

-- ---- too few sectors are free, or reserving stopped
full_is : (T : Type 0) (p : Pack) (w : World) (l : Line) (pages : ℕ) (e : Stop) → pages ≤ 65535 → (room (read_as p) < pages → refusal_to l (read_as p) w ≡ Some (refusal.Full pages (room (read_as p)))) → IfRefused {T = T} (Err e) (λ r. (r ≡ refusal.Full (min pages 65535) (room (read_as p))) × (room (read_as p) < pages))
    → IfRefused {T = Unit {0}} (Err e) (λ r. refusal_to l (read_as p) w ≡ Some r)
full_is T p w l pages (stop.Refused r) low refuses h = let few : min pages 65535 ≡ pages = omega (arith, low) in refuses h.1 ∙ ap Some (ap (λ n. refusal.Full n (room (read_as p))) (sym few) ∙ sym h.0)
full_is T p w l pages (stop.Misled place at wanted found) low refuses h = tt
full_is T p w l pages stop.DiskFault low refuses h = tt
full_is T p w l pages stop.Memory low refuses h = tt

no_hint : (T : Type 0) (P : Place → ℕ → Page → Option (List ℕ) → Type 0) (e : Stop) → IfHint {T = T} (Err e) (λ place at wanted found. ⊥) → IfHint {T = Unit {0}} (Err e) P
no_hint T P (stop.Refused r) h = tt
no_hint T P (stop.Misled place at wanted found) h = absurd h
no_hint T P stop.DiskFault h = tt
no_hint T P stop.Memory h = tt

pub unreserved_turns : {T Z : Type 0} {told : Bool} {most few : ℕ} (old mid at : Taped) (s t u : Session) (target : Target) (bytes : List ℕ) (x : Measured) (pages : ℕ) → IsTrue told → MayObey old s (line.Append target bytes) → LooksAbout told most old mid s t → Looks told few mid at → IsSameButTable t u
    → pages ≡ pages_added x.length (length bytes) → (Sound (pack old) → IsMeasured (pack old) target x) → is_streamed (world_of (kept s)) (Some x.file.fid) ≡ false → (answer : Result T Stop) (e : Stop) (r : Result (Vec ℕ Z) Stop) → answer ≡ Err e → IsErrAnd r (λ y. y ≡ e)
    → (Sound (pack mid) → IfRefused answer (λ y. (y ≡ refusal.Full (min pages 65535) (room (read_as (pack mid)))) × (room (read_as (pack mid)) < pages))) → IfHint answer (λ place number wanted there. ⊥)
    → (Sound (pack mid) → TableTrue (pack mid) t.hints.table → OnErr answer (TableTrue (pack mid) u.hints.table)) → TakesLine old at s u (line.Append target bytes) r
unreserved_turns {T = T} old mid at s t u target bytes x pages told may about looks same counts found none answer e r was is full unmisled table =
    let p = pack old in
    let l = line.Append target bytes in
    let w = world_of (kept s) in
    let first : pack mid ≡ p = pack-silent about.looks.alone.grown (about.looks.silent told) in
    unwritten_turns old at s u l e r (error_is r is) (append_writes target bytes) may (alone_both old mid at s t u told about looks same) (silent_both old mid at s t u told about looks same)
    (λ right. same_but_reserved old mid at s t u told about looks same right (λ there free. subst (λ y. OnErr y (TableTrue (pack mid) u.hints.table)) was (table there free)))
    (λ right.
    let few = few_pages x.length (length bytes) (few_bytes w target bytes may.taken_up) in
    full_is T p w l pages e (omega (arith, counts, few))
    (λ less. append_full p w target bytes right may.taken_up x (found right) none (subst (λ n. room (read_as p) < n) counts less) ∙ ap (λ n. Some (refusal.Full n (room (read_as p)))) (sym counts))
    (subst (λ q. IfRefused {T = T} (Err e) (λ y. (y ≡ refusal.Full (min pages 65535) (room (read_as q))) × (room (read_as q) < pages))) first
    (subst (λ y. IfRefused y (λ z. (z ≡ refusal.Full (min pages 65535) (room (read_as (pack mid)))) × (room (read_as (pack mid)) < pages))) was (full (subst Sound (sym first) right)))))
    (λ right. no_hint T (HintFailing p [] (files_touched l (read_as p) w)) e (subst (λ y. IfHint y (λ place number wanted there. ⊥)) was unmisled))
