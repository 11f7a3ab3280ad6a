-- A line that writes nothing as a turn: what is kept stays right, and the tally and hints are as they were.
use Rattle.std.proofs.Common.{◌≡◌, Bool, true, false, cond, List, [], refl, sym, subst, ap, ◌∙◌, All}
use Rattle.disk_records.proofs.Growing.{pack-silent}
use Rattle.disk_records.specs.Packs.{Pack}
use Rattle.disk_records.specs.declared.records.Event.{Event}
use Rattle.disk_records.specs.Tapes.{DiskAlone, Taped, added, pack}
use Rattle.exec_words.specs.declared.line.Line.{Line}
use Rattle.exec_words.specs.declared.reply.Reply.{Reply}
use Rattle.exec_words.specs.declared.reply.Reply.TheVariants as reply
use Rattle.laws_session.proofs.ends.Laws.{failed_turns_keep, lines_keep_need}
use Rattle.laws_session.proofs.lines.Laws.{prefixes_answer, silent_lines_answer}
use Rattle.laws_session.specs.LineAnswers.{GoesOnWith, PrefixAnswers, plain_state, state_in_need}
use Rattle.pack_model.specs.hints.Tables.{HintsTrue}
use Rattle.pack_model.specs.hints.Links.{LinksTrue}
use Rattle.pack_model.specs.hints.Sources.{IsFrom}
use Rattle.pack_model.specs.hints.Truth.{Truthful}
use Rattle.pack_model.specs.operations.Committing.{line_moves}
use Rattle.pack_model.specs.operations.Operations.{Move}
use Rattle.pack_model.specs.reading.Model.{Model, read_as}
use Rattle.pack_model.specs.reading.Sights.{sights}
use Rattle.pack_model.specs.sessions.Descriptor.{DescriptorFits, ending_moves}
use Rattle.pack_model.specs.sessions.Meanings.{SessionCut, session}
use Rattle.pack_model.specs.sessions.Moves.{Obeys, rest, steps, write}
use Rattle.pack_model.specs.sessions.Tallies.{counted}
use Rattle.pack_model.specs.states.Sound.{Sound, mark_clean, mark_of}
use Rattle.session_model.specs.Answering.{Answered, plain_reply, reply_unless}
use Rattle.session_model.specs.Keeping.{Keeping, Kept, StreamFits, world_of}
use Rattle.session_model.specs.Effects.{effect}
use Rattle.session_model.specs.Replies.{ops, reply_to, unless_refused}
use Rattle.session_model.specs.Turning.{State, cue_moves, is_quit, is_scavenge, typed}
use Rattle.exec_session.specs.declared.stop.Stop.TheVariants as stop
use Rattle.exec_session.specs.Turned.{LineIsRefused, LineLeavesAnotherWorld, LineStopsUnwritten, LineWritesNothing, SameBut, SameHeld, SameWorld, Turned, TurnedIsATurn}

-- ---- with few sector commands it is a turn
over_twice : {b : Bool} → b ≡ false → b ≡ true → ⊥
over_twice a c = cc

pub turned_is_a_turn : TurnedIsATurn
turned_is_a_turn old new one two s l r t few = record {
  state = t.state;
  answered = t.answered;
  need = t.need;
  keeping = λ is goes. t.keeping is;
  tally = t.tally;
  truthful = λ was is goes. t.truthful was is;
  closed = λ was is over unneeded. absurd (over_twice t.goes_on over);
  quick = few;
}

-- ---- no record write makes no move
none_made : {m : Model} {p : Pack} {events : List Event} {moves : List Move} → Obeys session m p events moves → events ≡ [] → moves ≡ []
none_made (rest here) e = refl
none_made (write here makes each) e = cc

-- ---- the same of DiskDescriptor
held_descriptor : (old new : Taped) (one two : Kept) → pack new ≡ pack old → SameHeld old new one two → DescriptorFits (pack old) one.shape one.last one.mark one.pages → DescriptorFits (pack new) two.shape two.last two.mark two.pages
held_descriptor old new one two same_pack same h =
    subst (λ p. DescriptorFits p two.shape two.last two.mark two.pages) (sym same_pack)
    (subst (λ x. DescriptorFits (pack old) x two.last two.mark two.pages) (sym same.shape)
    (subst (λ x. DescriptorFits (pack old) one.shape x two.mark two.pages) (sym same.last)
    (subst (λ x. DescriptorFits (pack old) one.shape one.last x two.pages) (sym same.mark)
    (subst (λ x. DescriptorFits (pack old) one.shape one.last one.mark x) (sym same.pages) h))))

pub held : {old new : Taped} {one two : Kept} → SameBut old new one two → SameHeld old new one two
held same = record { shape = same.shape; last = same.last; mark = same.mark; pages = same.pages; tally = same.tally; table = same.table }

-- ---- the same world
pub same_world : (one two : Kept) → SameWorld one two → world_of two ≡ world_of one
same_world one two w = cc

module _ (old new : Taped) (one two : Kept) (s : State) (l : Line) (keeping : Keeping (pack old) one s) (alone : DiskAlone old new) (silent : added old new ≡ []) (same : SameBut old new one two) where
  same_pack : pack new ≡ pack old
  same_pack = pack-silent alone.grown silent

  -- what is kept stays right for a state of the same model and world
  kept_after : (u : State) → u.over ≡ false → u.model ≡ s.model → u.world ≡ s.world → Keeping (pack new) two u
  kept_after u over model world =
      let need : u.world.need ≡ s.world.need = ap (λ w. w.need) world in
      let here : u.world ≡ world_of one = world ∙ keeping.world in
      record {
        begins = over;
        world = here ∙ sym (same_world one two same.world);
        stands = record {
          sound = λ unneeded. subst Sound (sym same_pack) (keeping.stands.sound (sym need ∙ unneeded));
          reads = λ unneeded. ap read_as same_pack ∙ keeping.stands.reads (sym need ∙ unneeded) ∙ sym model;
        };
        cut = subst (λ m. SessionCut m (pack new)) (sym model) (subst (SessionCut s.model) (sym same_pack) keeping.cut);
        descriptor = λ unneeded. held_descriptor old new one two same_pack (held same) (keeping.descriptor (sym same.world.need ∙ unneeded));
        fits = subst (λ m. All (StreamFits m) u.world.streams) (sym model) (subst (λ w. All (StreamFits s.model) w.streams) (sym world) keeping.fits);
        refs = subst (All (λ o. IsFrom (pack new) o.ref.fid o.ref.leader_at o.ref.place)) (sym same.world.streams) (subst (λ p. All (λ o. IsFrom p o.ref.fid o.ref.leader_at o.ref.place) one.streams) (sym same_pack) keeping.refs);
      }

  nothing_counted : {r : Reply} {u : State} (a : Answered (pack old) s (typed l) (added old new) r u) → two.tally ≡ counted old.writes a.moves one.tally
  nothing_counted a = same.tally ∙ ap (λ ms. counted old.writes ms one.tally) (sym (none_made a.each silent))

  truthful_after : Truthful (pack old) one.busy → Truthful (pack new) two.busy
  truthful_after was = record {
    links = subst LinksTrue (sym same_pack) was.links;
    table = same.table was.table;
    described = subst (λ p. mark_of (sights p) ≡ mark_clean → HintsTrue p) (sym same_pack) was.described;
  }

  -- ---- done or refused
  module _ (goes : GoesOnWith s l) (none : ops l s.model s.world ≡ []) where
    no_moves : cue_moves (pack old) s (typed l) ≡ []
    no_moves =
        ap (λ b. cond b (ending_moves s.world.need (mark_of (sights (pack old))) s.model (ops l s.model s.world)) (line_moves (mark_of (sights (pack old))) s.model (ops l s.model s.world))) goes.stays
        ∙ ap (line_moves (mark_of (sights (pack old))) s.model) none

  answered_silent : {r : Reply} {u : State} → Answered (pack old) s (typed l) [] r u → Answered (pack old) s (typed l) (added old new) r u
  answered_silent {r} {u} a = subst (λ es. Answered (pack old) s (typed l) es r u) (sym silent) a

  -- ---- stopped
  -- a prefix without a move of the moves that the line would make
  no_start : PrefixAnswers (pack old) s (typed l) [] []
  no_start = prefixes_answer (pack old) s (typed l) [] [] (rest keeping.cut) tt

  in_need_after : (three : Kept) → SameWorld one two → three ≡ record two { streams = []; need = true } → Keeping (pack new) three (state_in_need s (typed l) [])
  in_need_after three w is =
      subst (λ p. Keeping p three (state_in_need s (typed l) [])) (sym same_pack)
      (subst (λ k. Keeping (pack old) k (state_in_need s (typed l) [])) (sym is)
      (failed_turns_keep (pack old) one s [] [] (record two { streams = []; need = true }) keeping
      (record { moment = w.moment; level = w.level; memory = w.memory; streams = refl; need = refl }) (rest keeping.cut)))

pub line_writes_nothing : LineWritesNothing
line_writes_nothing old new one two s l keeping goes leaves none alone silent same =
    let u = plain_state (pack old) s (typed l) in
    let a = answered_silent old new one two s l keeping alone silent same (silent_lines_answer (pack old) s l goes keeping.cut keeping.stands none) in
    record {
      state = u;
      goes_on = goes.stays;
      answered = a;
      need = λ is. same.world.need ∙ sym (ap (λ w. w.need) keeping.world) ∙ sym (ap (λ w. w.need) leaves);
      keeping = λ is. kept_after old new one two s l keeping alone silent same u goes.stays (ap (steps session s.model) (no_moves old new one two s l keeping alone silent same goes none)) leaves;
      tally = λ tells. nothing_counted old new one two s l keeping alone silent same a;
      truthful = λ was is. truthful_after old new one two s l keeping alone silent same was;
    }

pub line_leaves_another_world : LineLeavesAnotherWorld
line_leaves_another_world old new one two s l keeping goes fits none alone silent same ends =
    let u = plain_state (pack old) s (typed l) in
    let p : pack new ≡ pack old = pack-silent alone.grown silent in
    let a : Answered (pack old) s (typed l) (added old new) (plain_reply s (typed l)) u =
    subst (λ es. Answered (pack old) s (typed l) es (plain_reply s (typed l)) u) (sym silent) (silent_lines_answer (pack old) s l goes keeping.cut keeping.stands none) in
    let moved : cue_moves (pack old) s (typed l) ≡ [] =
    ap (λ b. cond b (ending_moves s.world.need (mark_of (sights (pack old))) s.model (ops l s.model s.world)) (line_moves (mark_of (sights (pack old))) s.model (ops l s.model s.world))) goes.stays
    ∙ ap (line_moves (mark_of (sights (pack old))) s.model) none in
    let model : u.model ≡ s.model = ap (steps session s.model) moved in
    let need : u.world.need ≡ s.world.need = lines_keep_need l s.model s.world in
    let was : two.need ≡ one.need = ap (λ w. w.need) ends.world ∙ need ∙ ap (λ w. w.need) keeping.world in
    record {
      state = u;
      goes_on = goes.stays;
      answered = a;
      need = λ is. ap (λ w. w.need) ends.world;
      keeping = λ is. record {
        begins = goes.stays;
        world = sym ends.world;
        stands = record {
          sound = λ unneeded. subst Sound (sym p) (keeping.stands.sound (sym need ∙ unneeded));
          reads = λ unneeded. ap read_as p ∙ keeping.stands.reads (sym need ∙ unneeded) ∙ sym model;
        };
        cut = subst (λ m. SessionCut m (pack new)) (sym model) (subst (SessionCut s.model) (sym p) keeping.cut);
        descriptor = λ unneeded. held_descriptor old new one two p same (keeping.descriptor (sym was ∙ unneeded));
        fits = subst (λ m. All (StreamFits m) u.world.streams) (sym model) fits;
        refs = ends.refs;
      };
      tally = λ tells. same.tally ∙ ap (λ ms. counted old.writes ms one.tally) (sym (none_made a.each silent));
      truthful = λ truly is. record {
        links = subst LinksTrue (sym p) truly.links;
        table = same.table truly.table;
        described = subst (λ q. mark_of (sights q) ≡ mark_clean → HintsTrue q) (sym p) truly.described;
      };
    }

pub line_is_refused : LineIsRefused
line_is_refused old new one two s l r keeping e alone silent same =
    let m = s.model in
    let w = s.world in
    let plain : plain_reply s (typed l) ≡ reply.Refused r = ap (λ x. reply_unless x (cond (is_quit l) reply.Quit (reply.Done (reply_to l m w)))) e in
    subst (Turned old new one two s l) plain
    (line_writes_nothing old new one two s l keeping
    (record { stays = ap (λ x. unless_refused x (is_quit l) false) e; asks = ap (λ x. unless_refused x (is_scavenge l) false) e })
    (ap (λ x. unless_refused x (effect l m w).world w) e) (ap (λ x. unless_refused x (effect l m w).ops []) e) alone silent same)

pub line_stops_unwritten : LineStopsUnwritten
line_stops_unwritten old new one two s l (stop.Refused r) keeping goes taken alone silent same unrefused hint = absurd unrefused
line_stops_unwritten old new one two s l (stop.Misled place at wanted found) keeping goes taken alone silent same unrefused hint =
    let a = answered_silent old new one two s l keeping alone silent same ((no_start old new one two s l keeping alone silent same).hint place at wanted found hint) in
    record {
      state = state_in_need s (typed l) [];
      goes_on = refl;
      answered = a;
      need = λ is. refl;
      keeping = λ is. in_need_after old new one two s l keeping alone silent same (record two { streams = []; need = true }) same.world refl;
      tally = λ tells. nothing_counted old new one two s l keeping alone silent same a;
      truthful = λ was is. truthful_after old new one two s l keeping alone silent same was;
    }
line_stops_unwritten old new one two s l stop.DiskFault keeping goes taken alone silent same unrefused hint =
    let a = answered_silent old new one two s l keeping alone silent same ((no_start old new one two s l keeping alone silent same).fault s goes.asks taken) in
    record {
      state = s;
      goes_on = keeping.begins;
      answered = a;
      need = λ is. absurd is;
      keeping = λ is. absurd is;
      tally = λ tells. nothing_counted old new one two s l keeping alone silent same a;
      truthful = λ was is. absurd is;
    }
line_stops_unwritten old new one two s l stop.Memory keeping goes taken alone silent same unrefused hint =
    let a = answered_silent old new one two s l keeping alone silent same ((no_start old new one two s l keeping alone silent same).memory s goes.asks) in
    record {
      state = s;
      goes_on = keeping.begins;
      answered = a;
      need = λ is. absurd is;
      keeping = λ is. absurd is;
      tally = λ tells. nothing_counted old new one two s l keeping alone silent same a;
      truthful = λ was is. absurd is;
    }
