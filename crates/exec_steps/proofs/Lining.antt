-- A line that has done all of its steps, or broke off, as a turn.
use Rattle.std.proofs.Common.{All, Bool, Err, List, Ok, Result, [], ap, ap₂, arith, cond, false, length, refl, subst, suc, sym, take, take_all, true, zero, ℕ, ◌++◌, ◌<◌, ◌==◌, ◌∙◌, ◌∷◌, ◌≡◌, ◌≤◌}
use Rattle.std.proofs.lemmas.List.{take-append-le}
use Rattle.alto_words.specs.declared.fid.Fid.{Fid}
use Rattle.disk_records.proofs.FirstOnes.{first_all}
use Rattle.disk_records.proofs.Growing.{pack-after}
use Rattle.disk_records.specs.Commands.{value_writes}
use Rattle.disk_records.specs.Packs.{Pack, after, sector_at}
use Rattle.disk_records.specs.Tapes.{DiskAlone, Taped, added, pack}
use Rattle.disk_records.specs.declared.records.Tally.{Tally}
use Rattle.exec_words.specs.declared.line.Line.{Line}
use Rattle.exec_words.specs.declared.reply.Reply.{Reply}
use Rattle.exec_session.specs.laws_call.proofs.going.Laws.{line_stops as calls_stop}
use Rattle.exec_session.specs.laws_call.proofs.sound.Laws.{calls_on_a_sound_pack}
use Rattle.exec_session.specs.laws_call.specs.Going.{Goes}
use Rattle.exec_session.specs.laws_call.specs.SoundCalls.{LineFits}
use Rattle.exec_session.specs.laws_hint.proofs.tables.Laws.{table_without_reserved}
use Rattle.exec_session.specs.laws_hint.specs.LineLinks.{opening_writes}
use Rattle.exec_session.specs.laws_line.proofs.parts.Laws.{line_moves_lead_to_the_model}
use Rattle.exec_session.specs.laws_line.specs.Ready.{steps_of}
use Rattle.exec_session.specs.laws_line.specs.SoundLines.{LineOnSound}
use Rattle.exec_session.specs.laws_line.specs.SoundParts.{BreaksOnSound}
use Rattle.exec_session.specs.laws_lookup.proofs.hints.Laws.{true_hints_never_mislead}
use Rattle.exec_session.specs.laws_session.proofs.ends.Laws.{failed_turns_keep}
use Rattle.exec_session.specs.laws_session.proofs.lines.Laws.{lines_on_a_sound_pack_answer, prefixes_answer}
use Rattle.exec_session.specs.laws_session.specs.LineAnswers.{PrefixAnswers, plain_state, state_in_need}
use Rattle.exec_session.specs.pack_laws.proofs.Moving.{start_self}
use Rattle.pack_model.specs.hints.Links.{LinksTrue}
use Rattle.pack_model.specs.hints.Sources.{IsFrom}
use Rattle.pack_model.specs.operations.Committing.{line_moves, moves_of_all, open_moves}
use Rattle.pack_model.specs.operations.Operations.Move.{quiet}
use Rattle.pack_model.specs.operations.Step.{Operation}
use Rattle.pack_model.specs.reading.Model.{read_as}
use Rattle.pack_model.specs.reading.Sights.{sights}
use Rattle.pack_model.specs.sessions.Descriptor.{ending_moves, opened_value}
use Rattle.pack_model.specs.sessions.Meanings.{SessionCut, session}
use Rattle.pack_model.specs.sessions.Moves.{IsStartOf, Obeys, steps}
use Rattle.pack_model.specs.sessions.Tallies.{Tells, counted}
use Rattle.pack_model.specs.states.Sound.{Sound, mark_clean, mark_of, mark_open}
use Rattle.session_model.specs.Answering.{Answered, plain_reply}
use Rattle.session_model.specs.Keeping.{Formed, Keeping, Kept, StreamFits}
use Rattle.session_model.specs.Turning.{HintFailing, State, cue_files, cue_moves, typed}
use Rattle.exec_session.proofs.Turning.{same_world}
use Rattle.exec_session.specs.Meant.{IfHint, IfRefused, in_need, kept_stopped, stopped}
use Rattle.exec_session.specs.Turned.{Begins, EndsAs, SameWorld, Turned, line_ops}
use Rattle.exec_session.specs.declared.stop.Stop.{Stop}
use Rattle.exec_session.specs.declared.stop.Stop.TheVariants as stop
use Rattle.exec_steps.specs.Lines.{BrokeOff, LineIsDone, LineKeepsItsStreams, LineStops, LinesBreakOff}
use Rattle.disk_records.specs.declared.shape.Shape.{Shape}
use Rattle.exec_session.specs.laws_session.proofs.streams.Laws.{kept_streams_stand, streams_stay_fit}
use Rattle.exec_session.specs.laws_session.specs.StreamLaws.{StreamsStand}
use Rattle.session_model.specs.Replies.{next, ops}
use Rattle.exec_steps.specs.Midway.{Midway, Started, Stepped, moves_so_far, opened_pack}
use Rattle.exec_steps.proofs.Counting.{first_few, none_obeyed, obeys_ends, obeys_many}
use Rattle.exec_steps.proofs.Stepping.{so_far_append}

-- ---- two prefixes of one list, as long as each other
same_starts : {X : Type 0} (a b c : List X) → IsStartOf a c → IsStartOf b c → length a ≡ length b → a ≡ b
same_starts [] [] c h k e = refl
same_starts [] (y ∷ b) c h k e = cc
same_starts (x ∷ a) [] c h k e = cc
same_starts (x ∷ a) (y ∷ b) [] h k e = absurd h
same_starts (x ∷ a) (y ∷ b) (z ∷ c) h k e = ap₂ (λ v l. v ∷ l) (h.0 ∙ sym k.0) (same_starts a b c h.1 k.1 (omega (arith, e)))

marks_differ : mark_open ≡ mark_clean → ⊥
marks_differ e = omega (arith, e)

-- ---- as a line begins
module _ (old : Taped) (one : Kept) (s : State) (l : Line) (b : Begins old one s l) where
  abbrev p : Pack
  p = pack old

  abbrev mark : ℕ
  mark = mark_of (sights (pack old))

  abbrev own : List Operation
  own = line_ops s l

  unneeded : s.world.need ≡ false
  unneeded = ap (λ w. w.need) b.keeping.world ∙ b.unneeded

  read : read_as p ≡ s.model
  read = b.keeping.stands.reads unneeded

  moves_are : cue_moves p s (typed l) ≡ line_moves mark s.model own
  moves_are = ap (λ t. cond t (ending_moves s.world.need mark s.model own) (line_moves mark s.model own)) b.stays.stays

  -- ---- done
  module _ (form : Shape) (new : Taped) (two : Kept) (at : ℕ) (formed : Formed form one) (e : EndsAs (pack new) two s l) (fits : LineFits p at own) (m : Midway old new one two at own own []) where
    goes : Goes {T = Unit {0}} {E = Stop} (opened_pack p at) own m.wrote (Ok tt)
    goes = record { begun = own; start = start_self own; writes = m.wrote; line = m.line; some = first_all m.wrote; all = (refl, refl) }

    lined : LineOnSound p (added old new) own
    lined = subst (λ es. LineOnSound p es own) (sym m.events) ((calls_on_a_sound_pack (Unit {0}) Stop p at own fits).done m.wrote (Ok tt) goes)

    here : pack new ≡ after p (added old new)
    here = pack-after m.grown

    done_answered : Answered p s (typed l) (added old new) (plain_reply s (typed l)) (plain_state p s (typed l))
    done_answered = lines_on_a_sound_pack_answer p s l (added old new) b.stays unneeded b.keeping.stands lined

    done_moves : done_answered.moves ≡ moves_so_far old own own
    done_moves =
        same_starts done_answered.moves (moves_so_far old own own) (moves_so_far old own own)
        (subst (IsStartOf done_answered.moves) (moves_are ∙ ap (λ x. line_moves mark x own) (sym read)) done_answered.start) (start_self (moves_so_far old own own))
        (sym (obeys_many done_answered.each) ∙ m.many)

    model_is : steps_of (read_as p) own ≡ steps session s.model (cue_moves p s (typed l))
    model_is = ap (λ x. steps_of x own) read ∙ sym (line_moves_lead_to_the_model mark s.model own).in_session ∙ ap (steps session s.model) (sym moves_are)

    done_cut : SessionCut (steps session s.model (cue_moves p s (typed l))) (pack new)
    done_cut =
        subst (SessionCut (steps session s.model (cue_moves p s (typed l)))) (sym here)
        (subst (λ x. SessionCut x (after p (added old new))) ((line_moves_lead_to_the_model mark (read_as p) own).in_session ∙ model_is) (obeys_ends lined.session))

    -- streams stand after each line
    streams : StreamsStand (steps_of s.model own) (next l s.model s.world)
    streams =
        subst (λ x. StreamsStand (steps_of x (ops l x s.world)) (next l x s.world)) read
        (streams_stay_fit p s.world l (b.keeping.stands.sound unneeded) (subst (λ x. StreamsStand x s.world) (sym read) (kept_streams_stand p form one s formed b.keeping)))

    done_keeping : Keeping (pack new) two (plain_state p s (typed l))
    done_keeping = record {
      begins = b.stays.stays;
      world = sym e.world;
      stands = record { sound = λ n. subst Sound (sym here) lined.sound; reads = λ n. m.reads ∙ model_is };
      cut = done_cut;
      descriptor = λ n. m.fits;
      fits = subst (λ x. All (StreamFits x) (next l s.model s.world).streams) (ap (λ x. steps_of x own) (sym read) ∙ model_is) streams.fits;
      refs = e.refs;
    }

    done_turned : Turned old new one two s l (plain_reply s (typed l))
    done_turned = record {
      state = plain_state p s (typed l);
      goes_on = b.stays.stays;
      answered = done_answered;
      need = λ is. ap (λ w. w.need) e.world;
      keeping = λ is. done_keeping;
      tally = λ tells. m.counted.tally ∙ ap (λ ms. counted old.writes ms one.tally) (sym done_moves);
      truthful = λ was is. record {
        links = subst LinksTrue (sym here) (m.links was.links);
        table = (table_without_reserved (pack new) two.busy).is_true (m.table was.table);
        described = λ clean. absurd (marks_differ (sym m.marked ∙ clean));
      };
    }

  -- ---- broken off
  -- by what broke off on the sound pack
  of_sound : {T : Type 0} (new : Taped) (two : Kept) (result : Result T Stop) (x : BreaksOnSound p (added old new) own) → (Tells stop.DiskFault new result → two.tally ≡ counted old.writes x.moves one.tally) → BrokeOff old new one two s l result
  of_sound new two result x tally = record {
    moves = x.moves;
    each = subst (λ y. Obeys session y p (added old new) x.moves) read x.session;
    start = subst (λ y. IsStartOf x.moves (line_moves mark y own)) read x.start;
    tally = tally;
  }

  -- a prefix of the line's moves, as many as record writes, are those so far
  module _ (done more : List Operation) (all_are : done ++ more ≡ own) (n : ℕ) (within : n ≤ length (moves_so_far old done own)) where
    taken : take n (line_moves mark (read_as p) own) ≡ take n (moves_so_far old done own)
    taken =
        ap (λ o. take n (open_moves mark own ++ moves_of_all (read_as p) o)) (sym all_are) ∙ ap (take n) (so_far_append old done more own)
        ∙ take-append-le n (moves_so_far old done own) (moves_of_all (steps_of (read_as p) done) more) within

  -- the mark is quiet
  opening_counted : (at : ℕ) (ops : List Operation) (w n : ℕ) (t : Tally) → 0 < length ops → n ≤ length (opening_writes p at) → counted w (take n (line_moves mark (read_as p) ops)) t ≡ t
  opening_counted at [] w n t some few = absurd (omega (arith, some))
  opening_counted at (o ∷ ops) w n t some few = by (mark == mark_open) n few
    where
      by : (c : Bool) (k : ℕ) → k ≤ length (cond c [] (value_writes at (opened_value (sector_at p at).value))) → counted w (take k (cond c [] (quiet ∷ []) ++ moves_of_all (read_as p) (o ∷ ops))) t ≡ t
      by true zero low = refl
      by true (suc k) low = absurd (omega (arith, low))
      by false zero low = refl
      by false (suc zero) low = refl
      by false (suc (suc k)) low = absurd (omega (arith, low))

  broke_first : {T : Type 0} (new : Taped) (two : Kept) (result : Result T Stop) → added old new ≡ [] → two.tally ≡ one.tally → BrokeOff old new one two s l result
  broke_first new two result silent same = record { moves = []; each = none_obeyed session s.model p (added old new) silent b.keeping.cut; start = tt; tally = λ tells. same }

  broke_opening : (T : Type 0) (new : Taped) (two : Kept) (at : ℕ) (reserved : List ℕ) (error : Stop) → LineFits p at own → Started {T = T} old new one two at reserved (Err error) → BrokeOff {T = T} old new one two s l (Err error)
  broke_opening T new two at reserved error fits started =
      let x : BreaksOnSound p (added old new) own = (calls_on_a_sound_pack T Stop p at own fits).opening_breaks (added old new) started.some in
      of_sound new two (Err error) x (λ tells.
      started.tally ∙ sym (ap (λ ms. counted old.writes ms one.tally) x.are ∙ opening_counted at own old.writes (length (added old new)) one.tally fits.some (first_few (opening_writes p at) (added old new) started.some)))

  broke_step : (T : Type 0) (now new : Taped) (two : Kept) (at : ℕ) (done ops more : List Operation) (reserved : List ℕ) (files : List Fid) (error : Stop) → LineFits p at own → (done ++ ops) ++ more ≡ own → Stepped {T = T} old now new one two at done ops own reserved files (Err error) → BrokeOff {T = T} old new one two s l (Err error)
  broke_step T now new two at done ops more reserved files error fits all_are st =
      let goes : Goes {T = T} (opened_pack p at) own st.wrote (Err error) = subst (λ o. Goes {T = T} (opened_pack p at) o st.wrote (Err error)) all_are (calls_stop T T Stop Stop (opened_pack p at) (done ++ ops) more st.wrote (Err error) error st.goes) in
      let x : BreaksOnSound p (added old new) own = subst (λ es. BreaksOnSound p es own) (sym st.events) ((calls_on_a_sound_pack T Stop p at own fits).breaks st.wrote (Err error) goes) in
      of_sound new two (Err error) x (λ tells. st.counted tells ∙ ap (λ ms. counted old.writes ms one.tally) (sym (x.are ∙ taken (done ++ ops) more all_are (length (added old new)) st.within)))

  broke_later : {T : Type 0} (new : Taped) (two : Kept) (at : ℕ) (done more : List Operation) (reserved : List ℕ) (result : Result T Stop) → LineFits p at own → done ++ more ≡ own → Midway old new one two at done own reserved → BrokeOff old new one two s l result
  broke_later new two at done more reserved result fits all_are m =
      let first : Goes {T = Unit {0}} {E = Stop} (opened_pack p at) done m.wrote (Ok tt) = record { begun = done; start = start_self done; writes = m.wrote; line = m.line; some = first_all m.wrote; all = (refl, refl) } in
      let goes : Goes {T = Unit {0}} (opened_pack p at) own m.wrote (Err stop.Memory) = subst (λ o. Goes {T = Unit {0}} (opened_pack p at) o m.wrote (Err stop.Memory)) all_are (calls_stop (Unit {0}) (Unit {0}) Stop Stop (opened_pack p at) done more m.wrote (Ok tt) stop.Memory first) in
      let x : BreaksOnSound p (added old new) own = subst (λ es. BreaksOnSound p es own) (sym m.events) ((calls_on_a_sound_pack (Unit {0}) Stop p at own fits).breaks m.wrote (Err stop.Memory) goes) in
      let many = m.many in
      of_sound new two result x (λ tells. m.counted.tally ∙ ap (λ ms. counted old.writes ms one.tally)
      (sym (x.are ∙ taken done more all_are (length (added old new)) (omega (arith, many)) ∙ take_all (length (added old new)) (moves_so_far old done own) (omega (arith, many)))))

  -- ---- how it is answered
  module _ (new : Taped) (two : Kept) (same : SameWorld one two) (alone : DiskAlone old new) where
    module _ (error : Stop) (k : BrokeOff {T = Unit {0}} old new one two s l (Err error)) where
      prefix : PrefixAnswers p s (typed l) (added old new) k.moves
      prefix = prefixes_answer p s (typed l) (added old new) k.moves k.each (subst (IsStartOf k.moves) (sym moves_are) k.start)

      one_list : {r : Reply} {u : State} (a : Answered p s (typed l) (added old new) r u) → k.moves ≡ a.moves
      one_list a = same_starts k.moves a.moves (cue_moves p s (typed l)) (subst (IsStartOf k.moves) (sym moves_are) k.start) a.start (sym (obeys_many k.each) ∙ obeys_many a.each)

      counted_as : {r : Reply} {u : State} (a : Answered p s (typed l) (added old new) r u) → Tells {T = Unit {0}} stop.DiskFault new (Err error) → two.tally ≡ counted old.writes a.moves one.tally
      counted_as a tells = k.tally tells ∙ ap (λ ms. counted old.writes ms one.tally) (one_list a)

    stops : (error : Stop) → BrokeOff {T = Unit {0}} old new one two s l (Err error) → IfRefused {T = Unit {0}} (Err error) (λ r. ⊥) → IfHint {T = Unit {0}} (Err error) (HintFailing p (added old new) (cue_files s (typed l))) → Turned old new one (kept_stopped error two) s l (stopped error)
    stops (stop.Refused r) k unrefused hint = absurd unrefused
    stops (stop.Misled place at wanted found) k unrefused hint =
        let a = (prefix (stop.Misled place at wanted found) k).hint place at wanted found hint in
        record {
          state = state_in_need s (typed l) k.moves;
          goes_on = refl;
          answered = a;
          need = λ is. refl;
          keeping = λ is. subst (λ q. Keeping q (in_need two) (state_in_need s (typed l) k.moves)) (sym (pack-after alone.grown))
              (failed_turns_keep p one s (added old new) k.moves (in_need two) b.keeping (record { moment = same.moment; level = same.level; memory = same.memory; streams = refl; need = refl }) k.each);
          tally = λ tells. counted_as (stop.Misled place at wanted found) k a (λ e. absurd cc);
          truthful = λ was is. absurd (true_hints_never_mislead p place at wanted (b.keeping.stands.sound unneeded).whole (b.keeping.stands.sound unneeded).tidy b.full was.links hint.on_disk hint.misled.misled);
        }
    stops stop.DiskFault k unrefused hint =
        let a = (prefix stop.DiskFault k).fault s b.stays.asks b.taken_up in
        record {
          state = s;
          goes_on = b.keeping.begins;
          answered = a;
          need = λ is. absurd is;
          keeping = λ is. absurd is;
          tally = λ tells. counted_as stop.DiskFault k a (λ e. tells refl);
          truthful = λ was is. absurd is;
        }
    stops stop.Memory k unrefused hint =
        let a = (prefix stop.Memory k).memory s b.stays.asks in
        record {
          state = s;
          goes_on = b.keeping.begins;
          answered = a;
          need = λ is. absurd is;
          keeping = λ is. absurd is;
          tally = λ tells. counted_as stop.Memory k a (λ e. absurd cc);
          truthful = λ was is. absurd is;
        }

-- ---- the laws
pub line_is_done : LineIsDone
line_is_done form old new one two s l at b formed e fits m = done_turned old one s l b form new two at formed e fits m

pub line_keeps_its_streams : LineKeepsItsStreams
line_keeps_its_streams old new one two s l b leaves same found stay = record {
  world = same_world one two same ∙ sym b.keeping.world ∙ sym leaves;
  refs = subst (All (λ o. IsFrom (pack new) o.ref.fid o.ref.leader_at o.ref.place)) (sym same.streams)
      (λ k d less. found _ _ _ (stay k d less) (b.keeping.refs k d less));
}

pub lines_break_off : (T : Type 0) → LinesBreakOff T
lines_break_off T old one s l b = record {
  first = broke_first old one s l b;
  opening = broke_opening old one s l b T;
  step = broke_step old one s l b T;
  later = broke_later old one s l b;
}

pub line_stops : LineStops
line_stops old new one two s l error b same alone k unrefused hint = stops old one s l b new two same alone error k unrefused hint
