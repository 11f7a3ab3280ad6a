-- A line that opens the mark and drops one file, as a turn.
use Rattle.std.proofs.Common.{◌≡◌, ◌≢◌, ◌<◌, ◌∙◌, All, AllPairs, Contains, Err, List, Ok, Result, Some, [], ◌∷◌, ap, arith, length, subst, sym, suc, true, zero, ℕ}
use Rattle.std.specs.List.{slice_get}
use Rattle.alto_words.specs.Fid.{disk_descriptor}
use Rattle.alto_words.specs.declared.fid.Fid.{Fid}
use Rattle.disk_records.specs.Packs.{Pack, is_free_at}
use Rattle.disk_records.specs.Tapes.{DiskAlone, Taped, pack}
use Rattle.exec_words.specs.Texts.{done_text}
use Rattle.exec_words.specs.declared.line.Line.{Line}
use Rattle.exec_words.specs.declared.reply.Reply.TheVariants as reply
use Rattle.exec_session.specs.laws_call.specs.SoundCalls.{LineFits}
use Rattle.exec_session.specs.laws_hint.proofs.tables.Laws.{table_without_reserved}
use Rattle.exec_session.specs.laws_line.specs.LineLaws.{IsEntered}
use Rattle.exec_session.specs.laws_line.specs.SoundLines.{goes}
use Rattle.laws_lookup.specs.DropLaws.{IsBare}
use Rattle.page_seeking.specs.Refs.{FileIsFrom}
use Rattle.pack_model.specs.operations.Step.Operation.{drop_file}
use Rattle.pack_model.specs.reading.Files.{place}
use Rattle.pack_model.specs.reading.Model.{dir_items, read_as}
use Rattle.pack_model.specs.reading.Namings.{namings_in}
use Rattle.pack_model.specs.reading.Sights.{sights}
use Rattle.pack_model.specs.sessions.Descriptor.{DescriptorFits}
use Rattle.pack_model.specs.states.Sound.{Sound}
use Rattle.exec_session.specs.laws_midway.proofs.found.Laws.{found_file_lives}
use Rattle.session_model.specs.Keeping.{Formed, Kept}
use Rattle.session_model.specs.Turning.{State, cue_files, typed}
use Rattle.exec_session.specs.Meant.{IfRefused, kept, kept_stopped, stopped}
use Rattle.exec_session.specs.Turned.{Begins, SameBut, SameWorld, Turned, line_ops}
use Rattle.exec_session.specs.declared.operands.Found.{Found}
use Rattle.exec_session.specs.declared.session.Session.{Session}
use Rattle.exec_session.specs.declared.stop.Stop.{Stop}
use Rattle.exec_session.specs.declared.stop.Stop.TheVariants as stop
use Rattle.exec_steps.specs.Asked.{Works}
use Rattle.exec_steps.specs.Lines.{BreaksOff}
use Rattle.exec_steps.specs.Midway.{MayStart, Midway, Started, Stepped, StepsOn}
use Rattle.exec_steps.proofs.Stepping.{if_hint_weaker}
use Rattle.exec_steps.proofs.laws.Laws.{line_stops, lines_break_off}
use Rattle.exec_session.specs.laws_steps.specs.LineKeepingLaws.{KeepsFound}
use Rattle.exec_writing.proofs.Streamed.{found_later, line_ends}
use Rattle.exec_writing.specs.Drops.{DropsFound}
use Rattle.exec_writing.specs.Dropping.{MayDropFound}

-- ---- the world of a session that looked, and of steps after that
world_worked : (one : Kept) (s t : Session) → SameWorld one (kept s) → Works s t → SameWorld one (kept t)
world_worked one s t same works = record {
  moment = works.moment ∙ same.moment;
  level = ap (λ x. x.level) works.world ∙ same.level;
  memory = ap (λ x. x.memory) works.world ∙ same.memory;
  streams = ap (λ x. x.slots) works.streams ∙ same.streams;
  need = works.need ∙ same.need;
}

-- ---- where the mark is
record MarkAt (p : Pack) : Type 0 where
  at : ℕ
  placed : place (sights p) disk_descriptor 1 ≡ Some at

mark_at : (p : Pack) (k : Kept) → DescriptorFits p k.shape k.last k.mark k.pages → MarkAt p
mark_at p k fits = by k.pages (let e = fits.size in omega (arith, e)) (fits.bears 0 (let e = fits.size in omega (arith, e)))
  where
    by : (pages : List ℕ) → 0 < length pages → place (sights p) disk_descriptor 1 ≡ slice_get pages 0 → MarkAt p
    by [] some is = absurd (omega (arith, some))
    by (x ∷ pages) some is = record { at = x; placed = is }

none_free : (p : Pack) → All (λ i. is_free_at p i ≡ true) [] × AllPairs (λ (i j : ℕ). i ≢ j) []
none_free p = ((λ k d lt. absurd (omega (arith, lt))), (λ i j d lt within. absurd (omega (arith, within))))

-- ---- the line
-- The pack was sound as it began, and what was found on it may be dropped; what is kept since is the same.
module _ (a : Taped) (one : Kept) (s0 : Session) (s : State) (l : Line) (found : Found) (begins : Begins a one s l) (same : SameBut a a one (kept s0)) (drops : DropsFound s l found) (may : MayDropFound (pack a) found) where
  abbrev p : Pack
  p = pack a

  abbrev f : Fid
  f = found.file.fid

  sound : Sound p
  sound = begins.keeping.stands.sound (ap (λ w. w.need) begins.keeping.world ∙ begins.unneeded)

  fits0 : DescriptorFits p one.shape one.last one.mark one.pages
  fits0 = begins.keeping.descriptor begins.unneeded

  fits : DescriptorFits p (kept s0).shape (kept s0).last (kept s0).mark (kept s0).pages
  fits =
      subst (λ x. DescriptorFits p x (kept s0).last (kept s0).mark (kept s0).pages) (sym same.shape)
      (subst (λ x. DescriptorFits p one.shape x (kept s0).mark (kept s0).pages) (sym same.last)
      (subst (λ x. DescriptorFits p one.shape one.last x (kept s0).pages) (sym same.mark)
      (subst (λ x. DescriptorFits p one.shape one.last one.mark x) (sym same.pages) fits0)))

  mark : MarkAt p
  mark = mark_at p one fits0

  pub starts_at : ℕ
  starts_at = mark.at

  pub may_start : MayStart p one (kept s0) starts_at []
  unfolding starts_at mark
  may_start = record {
    sound = sound;
    placed = mark.placed;
    fits = fits;
    tally = same.tally;
    free = none_free p;
    table = λ was. (table_without_reserved p (kept s0).busy).reserves (same.table was);
  }

  line_fits : LineFits p starts_at (line_ops s l)
  unfolding starts_at mark
  line_fits = subst (LineFits p starts_at) (sym drops.ops) (record {
    sound = sound;
    placed = mark.placed;
    some = omega arith;
    line = goes f (record { no_system = may.may.no_system; bare = may.may.bare });
    room = omega arith;
  })

  breaks : BreaksOff (Unit {0}) a one s l
  breaks = lines_break_off (Unit {0}) a one s l begins

  -- ---- the mark isn't opened
  pub unopened : (b : Taped) (s1 : Session) (e : Stop) → DiskAlone a b → Works s0 s1 → IfRefused {T = Unit {0}} (Err e) (λ r. ⊥) → Started {T = Unit {0}} a b one (kept s1) starts_at [] (Err e) → Turned a b one (kept_stopped e (kept s1)) s l (stopped e)
  unopened b s1 e alone works unrefused started =
      line_stops a b one (kept s1) s l e begins (world_worked one s0 s1 same.world works) alone (breaks.opening b (kept s1) starts_at [] e line_fits started) unrefused
      (if_hint_weaker {T = Unit {0}} _ _ (Err e) (λ place at wanted found h. absurd h) started.failing)

  -- ---- it is
  module _ (b : Taped) (s1 : Session) (x : Unit {0}) (works : Works s0 s1) (started : Started a b one (kept s1) starts_at [] (Ok x)) where
    opened : Midway a b one (kept s1) starts_at [] (line_ops s l) []
    opened = subst (λ ops. Midway a b one (kept s1) starts_at [] ops []) (sym drops.ops) (started.midway (drop_file f) [])

    pub may_drop : MayDropFound (pack b) found
    may_drop =
        let reads : read_as (pack b) ≡ read_as p = opened.reads in
        let dir : FileIsFrom (pack b) found.dir = started.found found.dir.fid found.dir.leader_at found.dir.from tt may.dir.stands.from in
        record {
          dir = record {
            stands = record { whole = opened.whole; tidy = opened.tidy; from = dir };
            directory = may.dir.directory;
            living = found_file_lives (pack b) found.dir.fid found.dir.leader_at found.dir.from opened.whole opened.tidy dir;
          };
          from = started.found f found.file.leader_at found.file.from tt may.from;
          may = record { no_system = may.may.no_system; bare = bare_still (pack b) reads };
          entered = subst (λ m. IsEntered m found.dir.fid found.name f) (sym reads) may.entered;
        }
      where
        bare_still : (q : Pack) → read_as q ≡ read_as p → IsBare q f
        bare_still q reads = ap (λ m. namings_in f (dir_items m f)) reads ∙ may.may.bare

    module _ (c : Taped) (s2 : Session) (later : Works s1 s2) (alone : DiskAlone a c) where
      world : SameWorld one (kept s2)
      world = world_worked one s1 s2 (world_worked one s0 s1 same.world works) later

      module _ {T : Type 0} (result : Result T Stop) (steps : StepsOn b c (kept s1) (kept s2) (drop_file f ∷ []) [] (f ∷ found.dir.fid ∷ []) result) where
        stepped : Stepped a b c one (kept s2) starts_at [] (drop_file f ∷ []) (line_ops s l) [] (f ∷ found.dir.fid ∷ []) result
        stepped = steps a one starts_at [] (line_ops s l) [] opened

      among : (g : Fid) → Contains (f ∷ found.dir.fid ∷ []) g → Contains (cue_files s (typed l)) g
      among g (zero, lt, is) = subst (Contains (cue_files s (typed l))) is drops.file
      among g (suc zero, lt, is) = subst (Contains (cue_files s (typed l))) is drops.dir
      among g (suc (suc k), lt, is) = absurd (omega (arith, lt))

      -- the drop breaks off
      pub undropped : (e : Stop) → IfRefused {T = Unit {0}} (Err e) (λ r. ⊥) → StepsOn {T = Unit {0}} b c (kept s1) (kept s2) (drop_file f ∷ []) [] (f ∷ found.dir.fid ∷ []) (Err e) → Turned a c one (kept_stopped e (kept s2)) s l (stopped e)
      undropped e unrefused steps =
          let st = stepped {T = Unit {0}} (Err e) steps in
          line_stops a c one (kept s2) s l e begins world alone
          (breaks.step b c (kept s2) starts_at [] (drop_file f ∷ []) [] [] (f ∷ found.dir.fid ∷ []) e line_fits (sym drops.ops) st) unrefused
          (if_hint_weaker {T = Unit {0}} _ _ (Err e) (λ place at wanted found h. record { misled = h.misled; on_disk = h.on_disk; file = among wanted.fid h.file }) st.failing)

      -- it is done
      module _ (y : Unit {0}) (steps : StepsOn b c (kept s1) (kept s2) (drop_file f ∷ []) [] (f ∷ found.dir.fid ∷ []) (Ok y)) where
        all_done : Midway a c one (kept s2) starts_at (line_ops s l) (line_ops s l) []
        all_done = subst (λ ops. Midway a c one (kept s2) starts_at ops (line_ops s l) []) (sym drops.ops) (stepped (Ok y) steps).midway

        pub unsaid : Turned a c one (kept s2) s l reply.Memory
        unsaid =
            line_stops a c one (kept s2) s l stop.Memory begins world alone
            (breaks.later c (kept s2) starts_at (drop_file f ∷ []) [] [] (Err stop.Memory) line_fits (sym drops.ops) (stepped (Ok y) steps).midway) tt tt

        found_still : KeepsFound (pack a) (pack c) (line_ops s l)
        found_still = subst (KeepsFound (pack a) (pack c)) (sym drops.ops) (found_later a b c (drop_file f ∷ []) (Ok y) opened.reads started.found (stepped (Ok y) steps).found)

        pub dropped : Formed a.form one → (text : List ℕ) → text ≡ done_text → Turned a c one (kept s2) s l (reply.Done text)
        dropped formed text is = subst (Turned a c one (kept s2) s l) (drops.says ∙ ap reply.Done (sym is)) (line_ends a c one (kept s2) s l starts_at begins drops.leaves world a.form formed line_fits found_still all_done)
