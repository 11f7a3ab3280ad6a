-- The end of a session as a turn: by what closing answers.
use Rattle.std.proofs.Common.{◌≡◌, map, ℕ, suc, ◌-◌, ◌+◌, ◌≤◌, ◌==◌, ◌&&◌, Bool, true, false, cond, List, [], ◌∷◌, nat_lt, None, Ok, Err, refl, sym, subst, ap, arith, ◌∙◌, length, get_or, All, Some, ◌<◌, ◌*◌}
use Rattle.std.proofs.lemmas.Bool.{le-ltb}
use Rattle.std.proofs.lemmas.List.Elements.{All-from_get_or, All-get_or}
use Rattle.std.proofs.lemmas.Option.{slice_get-get_or}
use Rattle.disk_records.proofs.Growing.{nothing_added, pack-after}
use Rattle.disk_records.specs.Causes.{IsCause}
use Rattle.disk_records.specs.Events.{IsFirstOf}
use Rattle.disk_records.specs.Packs.{AreFormed, IsFormed, Pack, after, carried, no_sector, sector_at}
use Rattle.disk_records.specs.Tapes.{Grown, Taped, added, pack}
use Rattle.disk_records.specs.declared.records.Event.{Event}
use Rattle.disk_records.specs.declared.records.Tally.{Tally}
use Rattle.disk_descriptor.specs.Fields.{Fields, Fits, closed, closes as closing}
use Rattle.disk_descriptor.specs.Writing.{Writes, data_page}
use Rattle.exec_words.specs.declared.line.Line.TheVariants as line
use Rattle.exec_words.specs.declared.reply.Refusal.TheVariants as refusal
use Rattle.exec_words.specs.declared.reply.Reply.{Reply}
use Rattle.exec_words.specs.declared.reply.Reply.TheVariants as reply
use Rattle.laws_steps.specs.laws_hint.specs.ClosingLaws.{closing_writes}
use Rattle.laws_steps.specs.laws_hint.proofs.truth.Laws.{truth_at_closing}
use Rattle.directory.specs.laws_line.proofs.ending.Laws.{ending_on_a_sound_pack}
use Rattle.directory.specs.laws_line.proofs.fits.Laws.{fitting_descriptor_may_close}
use Rattle.directory.specs.laws_line.specs.EndLaws.{EndsSession, idle}
use Rattle.laws_operation.specs.DescriptorLaws.{MayClose}
use Rattle.laws_session.proofs.ends.Laws.{lines_keep_need}
use Rattle.laws_session.proofs.lines.Laws.{ends_in_need_answer, ends_on_a_sound_pack_answer, prefixes_answer}
use Rattle.laws_session.specs.LineAnswers.{PrefixAnswers, plain_state}
use Rattle.directory.specs.pack_laws.proofs.Guarding.{carried_parts, usable_within}
use Rattle.directory.specs.pack_laws.proofs.files.Laws.{places_are_lowest}
use Rattle.directory.specs.pack_laws.proofs.Moving.{MadeFirst, obeys_first}
use Rattle.pack_model.specs.hints.Tables.{HintsTrue}
use Rattle.pack_model.specs.hints.Truth.{Truthful}
use Rattle.pack_model.specs.operations.Committing.{line_moves, units}
use Rattle.pack_model.specs.operations.Operations.{Move, quiet_moves}
use Rattle.pack_model.specs.operations.Operations.Move.{quiet, commits, mends}
use Rattle.pack_model.specs.operations.Step.{Operation}
use Rattle.pack_model.specs.reading.Files.{first}
use Rattle.pack_model.specs.reading.Model.{Model, read_as, room}
use Rattle.pack_model.specs.reading.Sights.{sights}
use Rattle.pack_model.specs.sessions.Descriptor.{close_moves, data_pages, ending_moves}
use Rattle.pack_model.specs.sessions.Meanings.{session}
use Rattle.pack_model.specs.sessions.Moves.{IsStartOf, Obeys}
use Rattle.pack_model.specs.sessions.Tallies.{counted}
use Rattle.pack_model.specs.states.Sound.{mark_clean, mark_of}
use Rattle.session_model.specs.Answering.{Answered, IsAnswer, IsByModel, TakesTurn, plain_reply, reply_unless}
use Rattle.session_model.specs.Bounds.{RunsWithin}
use Rattle.session_model.specs.Effects.{effect, ending_ops}
use Rattle.session_model.specs.Keeping.{Formed, Keeping, Kept, stream_of}
use Rattle.session_model.specs.Refusals.{by_line, refusal_of, when}
use Rattle.session_model.specs.Replies.{refusal as refusal_to, unless_refused}
use Rattle.session_model.specs.Streams.{closing_ops}
use Rattle.session_model.specs.Turning.{Cue, IsTakenUp, State, asks_scavenge, closes, cue_line, cue_moves, cue_ops, cue_world, ended, typed}
use Rattle.session_model.specs.Worlds.{World}
use Rattle.disk_records.specs.declared.shape.Shape.{Shape}
use Rattle.exec_session.specs.Ends.{IsEndAnswer, cause_of_reply}
use Rattle.exec_session.specs.Meant.{IfHint, IfRefused, kept, kept_stopped, stopped}
use Rattle.exec_session.specs.Stops.{cause_of_stop}
use Rattle.exec_session.specs.declared.session.Session.{Session}
use Rattle.exec_session.specs.declared.stop.Stop.{Stop}
use Rattle.exec_session.specs.declared.stop.Stop.TheVariants as stop

pub by_need : {X : Type 0} (b : Bool) → (b ≡ true → X) → (b ≡ false → X) → X
by_need true needed unneeded = needed refl
by_need false needed unneeded = unneeded refl

apart : {b : Bool} → b ≡ true → b ≡ false → ⊥
apart a c = cc

-- ---- what ends the session: it isn't refused, and has no operations where no stream is open
pub record AtEnd (s : State) (cue : Cue) : Type 0 where
  pub over : closes s cue ≡ true
  pub asks : asks_scavenge s cue ≡ false
  pub ops_none : cue_ops s cue ≡ []
  pub taken_up : IsTakenUp s cue
  pub line_is : cue_line cue ≡ line.Quit

no_ops : (m : Model) (w : World) → w.streams ≡ [] → ending_ops m w ≡ []
no_ops m w none = ap (λ ss. cond w.need [] (closing_ops w.moment m ss)) none ∙ by w.need
  where
    by : (b : Bool) → cond {A = List Operation} b [] [] ≡ []
    by true = refl
    by false = refl

quit_taken : (w : World) → 1 ≤ w.level → first (λ r. r) (by_line line.Quit w) ≡ None
unfolding first
quit_taken w least = by w.need (nat_lt w.level 1) (le-ltb w.level 1 least)
  where
    by : (n low : Bool) → low ≡ false → first (λ r. r) (None ∷ when (n && false) refusal.NeedsScavenge ∷ when low (refusal.NoService 1) ∷ []) ≡ None
    by true false e = refl
    by false false e = refl
    by n true e = cc

quit_unrefused : (m : Model) (w : World) → w.streams ≡ [] → 1 ≤ w.level → refusal_to line.Quit m w ≡ None
unfolding first
quit_unrefused m w none least =
    ap (refusal_of line.Quit m w) (no_ops m w none)
    ∙ by w.need (nat_lt w.level 1) (nat_lt (room m) 0) (le-ltb w.level 1 least) (le-ltb (room m) 0 (omega arith))
  where
    by : (n low few : Bool) → low ≡ false → few ≡ false → first (λ r. r) (None ∷ when (n && false) refusal.NeedsScavenge ∷ when low (refusal.NoService 1) ∷ None ∷ None ∷ None ∷ None ∷ None ∷ None ∷ None ∷ when few (refusal.Full 0 (room m)) ∷ []) ≡ None
    by true false false e f = refl
    by false false false e f = refl
    by n true few e f = cc
    by n low true e f = cc

pub ended_ends : (s : State) → s.world.streams ≡ [] → 1 ≤ s.world.level → AtEnd s ended
ended_ends s none least = record { over = refl; asks = refl; ops_none = no_ops s.model s.world none; taken_up = quit_taken s.world least; line_is = refl }

pub quit_ends : (s : State) → s.world.streams ≡ [] → 1 ≤ s.world.level → AtEnd s (typed line.Quit)
quit_ends s none least =
    let un = quit_unrefused s.model s.world none least in
    record {
      over = ap (λ r. unless_refused r true false) un;
      asks = ap (λ r. unless_refused r false false) un;
      ops_none = ap (λ r. unless_refused r (effect line.Quit s.model s.world).ops []) un ∙ no_ops s.model s.world none;
      taken_up = quit_taken s.world least;
      line_is = refl;
    }

pub quit_reply : (s : State) → s.world.streams ≡ [] → 1 ≤ s.world.level → plain_reply s (typed line.Quit) ≡ reply.Quit
quit_reply s none least = ap (λ r. reply_unless r reply.Quit) (quit_unrefused s.model s.world none least)

-- ---- the moves of closing are no operations
start_quiet : {X : Type 0} (w : ℕ) (t : Tally) (moves : List Move) (xs : List X) → IsStartOf moves (quiet_moves xs) → counted w moves t ≡ t
start_quiet w t [] xs h = refl
start_quiet w t (m ∷ moves) [] h = absurd h
start_quiet w t (quiet ∷ moves) (x ∷ xs) h = start_quiet (suc w) t moves xs h.1
start_quiet w t (commits o ∷ moves) (x ∷ xs) h = absurd (let e = h.0 in cc)
start_quiet w t (mends m ∷ moves) (x ∷ xs) h = absurd (let e = h.0 in cc)

start_none : (w : ℕ) (t : Tally) (moves : List Move) → IsStartOf moves [] → counted w moves t ≡ t
start_none w t [] h = refl
start_none w t (m ∷ moves) h = absurd h

start_closing : {X : Type 0} (w : ℕ) (t : Tally) (moves : List Move) (mark : ℕ) (xs : List X) → IsStartOf moves (close_moves mark xs) → counted w moves t ≡ t
start_closing {X} w t moves mark xs h = by (mark == mark_clean) h
  where
    by : (b : Bool) → IsStartOf moves (cond b [] (quiet_moves xs)) → counted w moves t ≡ t
    by true h = start_none w t moves h
    by false h = start_quiet w t moves xs h

start_ending : (w : ℕ) (t : Tally) (moves : List Move) (b : Bool) (mark : ℕ) (m : Model) → IsStartOf moves (ending_moves b mark m []) → counted w moves t ≡ t
start_ending w t moves true mark m h = start_none w t moves h
start_ending w t moves false mark m h = start_closing w t moves mark (units (data_pages m.shape)) h

moves_are : (p : Pack) (s : State) (cue : Cue) → AtEnd s cue → cue_moves p s cue ≡ ending_moves s.world.need (mark_of (sights p)) s.model []
moves_are p s cue e =
    ap (λ b. cond b (ending_moves s.world.need (mark_of (sights p)) s.model (cue_ops s cue)) (line_moves (mark_of (sights p)) s.model (cue_ops s cue))) e.over
    ∙ ap (ending_moves s.world.need (mark_of (sights p)) s.model) e.ops_none

runs_free : (p : Pack) (m : Model) (r : Reply) (n : ℕ) → RunsWithin p m line.Quit r n
runs_free p m (reply.Done text) n = tt
runs_free p m (reply.Refused r) n = tt
runs_free p m reply.Quit n = tt
runs_free p m reply.Scavenge n = tt
runs_free p m reply.DiskFault n = tt
runs_free p m reply.Memory n = tt

-- ---- the turn
module _ (old new : Taped) (one two : Kept) (s : State) (cue : Cue) (e : AtEnd s cue) where
  turn : (r : Reply) (u : State) → Answered (pack old) s cue (added old new) r u → two.tally ≡ one.tally → (IsAnswer r → u.over ≡ true) → (IsAnswer r → two.need ≡ u.world.need)
      → (Truthful (pack old) one.busy → IsAnswer r → u.world.need ≡ false → HintsTrue (pack new)) → TakesTurn old new one two s cue r
  turn r u answered tally over need hints = record {
    state = u;
    answered = answered;
    need = need;
    keeping = λ is goes. absurd (apart (over is) goes);
    tally = λ tells. tally ∙ sym (start_ending old.writes one.tally answered.moves s.world.need (mark_of (sights (pack old))) s.model (subst (IsStartOf answered.moves) (moves_are (pack old) s cue e) answered.start));
    truthful = λ was is goes. absurd (apart (over is) goes);
    closed = λ was is done unneeded. hints was is unneeded;
    quick = λ handy none. subst (λ l. RunsWithin (pack old) s.model l r (new.runs - old.runs)) (sym e.line_is) (runs_free (pack old) s.model r (new.runs - old.runs));
  }

  world_need : (cue_world s cue).need ≡ s.world.need
  world_need = lines_keep_need (cue_line cue) s.model s.world

  -- in need of a scavenge nothing is done
  pub ends_in_need : Keeping (pack old) one s → one.need ≡ true → added old new ≡ [] → two ≡ one → TakesTurn old new one two s cue (plain_reply s cue)
  ends_in_need keeping needed silent same =
      let need : s.world.need ≡ true = ap (λ w. w.need) keeping.world ∙ needed in
      turn (plain_reply s cue) (plain_state (pack old) s cue) (subst (λ es. Answered (pack old) s cue es (plain_reply s cue) (plain_state (pack old) s cue)) (sym silent) (ends_in_need_answer (pack old) s cue e.over need keeping.cut))
      (ap (λ k. k.tally) same) (λ is. e.over) (λ is. ap (λ k. k.need) same ∙ needed ∙ sym need ∙ sym world_need)
      (λ was is unneeded. absurd (apart (world_need ∙ need) unneeded))

  module _ (busy : List Bool) (pages : List ℕ) (keeping : Keeping (pack old) one s) (unneeded : one.need ≡ false) (may : MayClose (pack old) pages) where
    no_need : s.world.need ≡ false
    no_need = ap (λ w. w.need) keeping.world ∙ unneeded

    abbrev pub writes : List Event
    writes = closing_writes (pack old) busy pages

    ends : EndsSession (pack old) writes []
    ends = ending_on_a_sound_pack (pack old) [] [] busy pages (idle (keeping.stands.sound no_need)) may

    -- closing is done
    pub ends_closed : Grown old new → added old new ≡ writes → busy ≡ one.busy → two.tally ≡ one.tally → two.need ≡ one.need → TakesTurn old new one two s cue (plain_reply s cue)
    ends_closed grown wrote table tally need =
        let sound = keeping.stands.sound no_need in
        let all : EndsSession (pack old) (added old new) (cue_ops s cue) = subst (EndsSession (pack old) (added old new)) (sym e.ops_none) (subst (λ es. EndsSession (pack old) es []) (sym wrote) ends) in
        turn (plain_reply s cue) (plain_state (pack old) s cue) (ends_on_a_sound_pack_answer (pack old) s cue (added old new) e.over no_need keeping.stands all)
        tally (λ is. e.over) (λ is. need ∙ unneeded ∙ sym no_need ∙ sym world_need)
        (λ was is still. subst HintsTrue (sym (pack-after grown ∙ ap (after (pack old)) wrote)) (truth_at_closing (pack old) busy pages sound.whole sound.tidy may (subst (Truthful (pack old)) (sym table) was)))

    -- it broke off
    broken : IsFirstOf writes (added old new) → MadeFirst session (read_as (pack old)) (pack old) (added old new) (ending_moves false (mark_of (sights (pack old))) (read_as (pack old)) [])
    broken some = obeys_first session ends.session (added old new) some

    prefix : (some : IsFirstOf writes (added old new)) → PrefixAnswers (pack old) s cue (added old new) (broken some).ops
    prefix some =
        let b = broken some in
        let reads : read_as (pack old) ≡ s.model = keeping.stands.reads no_need in
        let mark : ℕ = mark_of (sights (pack old)) in
        prefixes_answer (pack old) s cue (added old new) b.ops (subst (λ m. Obeys session m (pack old) (added old new) b.ops) reads b.each)
        (subst (IsStartOf b.ops) (sym (moves_are (pack old) s cue e)) (subst (λ n. IsStartOf b.ops (ending_moves n mark s.model [])) (sym no_need) (subst (λ m. IsStartOf b.ops (ending_moves false mark m [])) reads b.start)))

    pub ends_broken : (x : Stop) → IfHint {T = Unit {0}} (Err x) (λ place at wanted found. ⊥) → IfRefused {T = Unit {0}} (Err x) (λ r. ⊥) → IsFirstOf writes (added old new) → two.tally ≡ one.tally → TakesTurn old new one two s cue (stopped x)
    ends_broken (stop.Refused r) unhinted unrefused some tally = absurd unrefused
    ends_broken (stop.Misled place at wanted found) unhinted unrefused some tally = absurd unhinted
    ends_broken stop.DiskFault unhinted unrefused some tally =
        turn reply.DiskFault s ((prefix some).fault s e.asks e.taken_up) tally (λ is. absurd is) (λ is. absurd is) (λ was is need. absurd is)
    ends_broken stop.Memory unhinted unrefused some tally =
        turn reply.Memory s ((prefix some).memory s e.asks) tally (λ is. absurd is) (λ is. absurd is) (λ was is need. absurd is)

-- ---- what a session keeps
pub formed_after : (old new : Taped) (one two : Session) → Formed old.form (kept one) → new.form ≡ old.form → (one.need ≡ true → two ≡ one) → (one.need ≡ false → two ≡ record one { descriptor = closed one.descriptor }) → Formed new.form (kept two)
formed_after old new one two formed form same done =
    subst (λ f. Formed f (kept two)) (sym form)
    (by_need one.need (λ is. subst (λ x. Formed old.form (kept x)) (sym (same is)) formed) (λ none. subst (λ x. Formed old.form (kept x)) (sym (done none)) (record { shape = formed.shape; bits = formed.bits; memory = formed.memory; streams = formed.streams; apart = formed.apart })))

-- DiskDescriptor's pages have values of 256 words
values_sized : (p : Pack) (kept : Fields) → Fits p kept → AreFormed p → All (λ at. length (sector_at p at).value ≡ 256) kept.pages
values_sized p kept fits formed = All-from_get_or (λ at. length (sector_at p at).value ≡ 256) kept.pages 0 (λ n within.
    let at : ℕ = get_or kept.pages n 0 in
    let carries : carried p at ≡ Some (data_page (n + 1)) = ((places_are_lowest p (data_page (n + 1))).lowest at (fits.bears n within ∙ slice_get-get_or kept.pages n 0 within)).here in
    let here : at < length p.sectors = usable_within p at (carried_parts p at (data_page (n + 1)) carries).0 in
    (All-get_or IsFormed p.sectors at no_sector here formed).value)

pub may_close : (p : Pack) (one : Session) → Fits p one.descriptor → AreFormed p → MayClose p one.descriptor.pages
may_close p one fits formed = fitting_descriptor_may_close p one.descriptor.shape one.descriptor.last one.descriptor.mark one.descriptor.pages fits (values_sized p one.descriptor fits formed)

-- ---- closing as the end of a session, by what it says
module _ (old new : Taped) (one two : Session) (s : State) (cue : Cue) (keeping : Keeping (pack old) (kept one) s) (e : AtEnd s cue) (formed : AreFormed (pack old)) (grown : Grown old new) where
  pub turns_closed : (x : Unit {0}) → (one.need ≡ true → (new ≡ old) × (two ≡ one)) → (Fits (pack old) one.descriptor → one.need ≡ false → Writes {T = Unit {0}} stop.Memory (closing (pack old) one.hints.table one.descriptor) (2 * length one.descriptor.pages) old new (Ok x))
      → (one.need ≡ false → two ≡ record one { descriptor = closed one.descriptor }) → TakesTurn old new (kept one) (kept two) s cue (plain_reply s cue)
  turns_closed x idles writes done =
      by_need one.need
      (λ is. ends_in_need old new (kept one) (kept two) s cue e keeping is (ap (added old) (idles is).0 ∙ nothing_added old.events) (ap kept (idles is).1))
      (λ none. let fits = keeping.descriptor none in
      ends_closed old new (kept one) (kept two) s cue e one.hints.table one.descriptor.pages keeping none (may_close (pack old) one fits formed) grown (writes fits none).ok refl
      (ap (λ z. (kept z).tally) (done none)) (ap (λ z. (kept z).need) (done none)))

  pub turns_broken : (x : Stop) → (one.need ≡ true → ⊥) → (Fits (pack old) one.descriptor → one.need ≡ false → Writes {T = Unit {0}} stop.Memory (closing (pack old) one.hints.table one.descriptor) (2 * length one.descriptor.pages) old new (Err x))
      → (Fits (pack old) one.descriptor → IfHint {T = Unit {0}} (Err x) (λ place at wanted found. ⊥)) → IfRefused {T = Unit {0}} (Err x) (λ r. ⊥) → (kept two).tally ≡ one.tally → TakesTurn old new (kept one) (kept two) s cue (stopped x)
  turns_broken x needless writes unhinted unrefused tally =
      by_need one.need
      (λ is. absurd (needless is))
      (λ none. let fits = keeping.descriptor none in
      ends_broken old new (kept one) (kept two) s cue e one.hints.table one.descriptor.pages keeping none (may_close (pack old) one fits formed) x (unhinted fits) unrefused (writes fits none).some tally)

-- the tally is no part of need
pub stopped_tally : (x : Stop) (k : Kept) → (kept_stopped x k).tally ≡ k.tally
stopped_tally (stop.Refused r) k = refl
stopped_tally (stop.Misled place at wanted found) k = refl
stopped_tally stop.DiskFault k = refl
stopped_tally stop.Memory k = refl

-- a session that is right for a state has no stream open there, and is of some level
pub no_streams : (p : Pack) (one : Session) (s : State) → Keeping p (kept one) s → s.world.streams ≡ []
no_streams p one s keeping = ap (λ w. w.streams) keeping.world ∙ ap (map stream_of) one.streams.unopened

pub some_level : (p : Pack) (one : Session) (s : State) (form : Shape) → Formed form (kept one) → Keeping p (kept one) s → 1 ≤ s.world.level
some_level p one s form formed keeping = subst (λ n. 1 ≤ n) (sym (ap (λ w. w.level) keeping.world)) formed.memory.least

-- what stops a closing is no refusal, so the reply isn't one by the model
pub never_by_model : (x : Stop) → IfRefused {T = Unit {0}} (Err x) (λ r. ⊥) → IsByModel (stopped x) → ⊥
never_by_model (stop.Refused r) unrefused by = unrefused
never_by_model (stop.Misled place at wanted found) unrefused by = by
never_by_model stop.DiskFault unrefused by = by
never_by_model stop.Memory unrefused by = by

-- ---- what else is so at the end
pub limit_after : (one two : Session) → (one.need ≡ true → two ≡ one) → (one.need ≡ false → two ≡ record one { descriptor = closed one.descriptor }) → two.tally.limit ≡ one.tally.limit
limit_after one two same done = by_need one.need (λ is. ap (λ (s : Session). s.tally.limit) (same is)) (λ none. ap (λ (s : Session). s.tally.limit) (done none))

pub stopped_formed : (form : Shape) (x : Stop) (k : Kept) → Formed form k → Formed form (kept_stopped x k)
stopped_formed form (stop.Refused r) k h = h
stopped_formed form (stop.Misled place at wanted found) k h = record { shape = h.shape; bits = h.bits; memory = h.memory; streams = λ i d less. absurd (omega (arith, less)); apart = tt }
stopped_formed form stop.DiskFault k h = h
stopped_formed form stop.Memory k h = h

pub stopped_cause : (a b : Taped) (x : Stop) → IsCause a b (cause_of_stop x) → IsCause a b (cause_of_reply (stopped x))
stopped_cause a b (stop.Refused r) h = h
stopped_cause a b (stop.Misled place at wanted found) h = h
stopped_cause a b stop.DiskFault h = h
stopped_cause a b stop.Memory h = h

pub stops_end : (x : Stop) → IfRefused {T = Unit {0}} (Err x) (λ r. ⊥) → IsEndAnswer (stopped x)
stops_end (stop.Refused r) unrefused = absurd unrefused
stops_end (stop.Misled place at wanted found) unrefused = tt
stops_end stop.DiskFault unrefused = tt
stops_end stop.Memory unrefused = tt
