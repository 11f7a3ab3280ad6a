-- A line, by what its operations do to the pack, as the answer of a call.
use Rattle.std.proofs.Common.{◌≡◌, ℕ, zero, suc, ◌==◌, Bool, true, false, cond, List, [], Option, Some, None, inl, refl, sym, subst, ◌∙◌, ap}
use Rattle.laws_line.specs.disk_records.specs.declared.records.Event.{Event}
use Rattle.laws_line.specs.disk_records.specs.Packs.{Pack}
use Rattle.laws_line.specs.pack_model.specs.operations.Committing.{line_moves, units}
use Rattle.laws_line.specs.pack_model.specs.operations.Operations.{Move, quiet_moves}
use Rattle.laws_line.specs.pack_model.specs.operations.Step.{Operation}
use Rattle.laws_line.specs.pack_model.specs.reading.Model.{Model}
use Rattle.laws_line.specs.pack_model.specs.reading.Sights.{sights}
use Rattle.laws_line.specs.pack_model.specs.sessions.Descriptor.{close_moves, data_pages, ending_moves, mark_after}
use Rattle.laws_line.specs.pack_model.specs.sessions.Meanings.{session}
use Rattle.laws_line.specs.pack_model.specs.sessions.Moves.{IsStartOf, Obeys, rest, steps}
use Rattle.laws_line.specs.pack_model.specs.states.Sound.{mark_clean, mark_of}
use Rattle.laws_line.specs.pack_laws.proofs.Moving.{start_self, steps-append}
use Rattle.session_model.specs.exec_words.specs.declared.line.Line.{Line}
use Rattle.session_model.specs.exec_words.specs.declared.reply.Refusal.{Refusal}
use Rattle.session_model.specs.exec_words.specs.declared.reply.Reply.{Reply}
use Rattle.session_model.specs.exec_words.specs.declared.reply.Reply.TheVariants as reply
use Rattle.session_model.specs.exec_words.specs.Texts.{reply_text}
use Rattle.laws_line.proofs.parts.Laws.{line_moves_lead_to_the_model}
use Rattle.laws_line.specs.Ready.{steps_of}
use Rattle.session_model.specs.exec_words.specs.declared.line.Line.TheVariants as line
use Rattle.laws_line.specs.disk_records.specs.Packs.{after}
use Rattle.laws_line.specs.pack_model.specs.states.Sound.{Clean}
use Rattle.session_model.specs.exec_words.specs.Texts.{done_text}
use Rattle.session_model.specs.Answering.{Answered, Answers, Replied, reply_of, reply_unless, plain_reply}
use Rattle.session_model.specs.Effects.{effect}
use Rattle.session_model.specs.Replies.{ops, reply_to, refusal, text_unless, unless_refused}
use Rattle.session_model.specs.Turning.{State, Cue, typed, aside, ended, StandsOn, plain, failed, TurnMade, turn_of, asks_scavenge, closes, cue_line, cue_moves, cue_ops, cue_text, cue_world, is_quit, is_scavenge}
use Rattle.session_model.specs.Worlds.{World}
use Rattle.laws_session.specs.AnswerLaws.{HasText}
use Rattle.laws_session.specs.LineAnswers.{BrokenLinesAnswer, EndsInNeedAnswer, EndsOnASoundPackAnswer, GoesOnWith, LinesOnASoundPackAnswer, PrefixesAnswer, SilentLinesAnswer, plain_state}
use Rattle.laws_session.proofs.inside.Needing.{lines_keep_need}
use Rattle.laws_session.proofs.inside.Scavenging.{none_touched}

-- ---- the reply of a plain turn has the text of its cue
quit_text : (l : Line) (m : Model) (w : World) → is_quit l ≡ true → (effect l m w).text ≡ done_text
quit_text line.Quit m w e = refl
quit_text l m w e = cc

text_by : (r : Option Refusal) (b : Bool) (text : List ℕ) → (b ≡ true → text ≡ done_text) → text_unless r text ≡ reply_text (reply_unless r (cond b reply.Quit (reply.Done (text_unless r text))))
text_by None true text done = done refl
text_by None false text done = refl
text_by (Some x) b text done = refl

plain_text : (s : State) (cue : Cue) → cue_text s cue ≡ reply_text (plain_reply s cue)
plain_text s (typed l) = text_by (refusal l s.model s.world) (is_quit l) (effect l s.model s.world).text (quit_text l s.model s.world)
plain_text s (aside text) = refl
plain_text s ended = refl

has_text : (s : State) (cue : Cue) → HasText (plain_reply s cue)
has_text s (typed l) = by (refusal l s.model s.world) (is_quit l) (reply_to l s.model s.world) where
  by : (r : Option Refusal) (b : Bool) (text : List ℕ) → HasText (reply_unless r (cond b reply.Quit (reply.Done text)))
  by None true text = tt
  by None false text = tt
  by (Some x) b text = tt
has_text s (aside text) = tt
has_text s ended = tt

answers_with_text : (p : Pack) (s : State) (cue : Cue) (wrote : List Event) (moves : List Move) (r : Reply) (u : State) → HasText r → Replied p s cue wrote moves r u → Answers p s cue wrote moves r u
answers_with_text p s cue wrote moves (reply.Done text) u has h = h
answers_with_text p s cue wrote moves (reply.Refused x) u has h = h
answers_with_text p s cue wrote moves reply.Quit u has h = h
answers_with_text p s cue wrote moves reply.Scavenge u has h = absurd has
answers_with_text p s cue wrote moves reply.DiskFault u has h = absurd has
answers_with_text p s cue wrote moves reply.Memory u has h = absurd has

apart : false ≡ true → ⊥
apart e = cc

-- ---- plain turns
-- a turn that is made with this text, and whose kind has the plain reply
record MadeWith (p : Pack) (s : State) (cue : Cue) (wrote : List Event) (text : List ℕ) : Type 0 where
  made : TurnMade p s cue wrote (turn_of (cue_moves p s cue) text) (plain_state p s cue)
  says : plain_reply s cue ≡ reply_of made.kind

-- all record writes of the turn, which leave a pack on which the state after it stands
plain_answer : (p : Pack) (s : State) (cue : Cue) (wrote : List Event) → asks_scavenge s cue ≡ false → Obeys session s.model p wrote (cue_moves p s cue) → StandsOn (after p wrote) (plain_state p s cue) → (closes s cue ≡ true → (cue_world s cue).need ≡ false → Clean (after p wrote))
    → Answered p s cue wrote (plain_reply s cue) (plain_state p s cue)
plain_answer p s cue wrote asks each stands closed =
    let first : MadeWith p s cue wrote (cue_text s cue) = record { made = record { kind = plain asks; model = refl; stands = stands; closed = closed; mended = λ is. absurd (apart (sym asks ∙ is)) }; says = refl } in
    let made = subst (MadeWith p s cue wrote) (plain_text s cue) first in
    record {
      moves = cue_moves p s cue;
      each = each;
      start = start_self (cue_moves p s cue);
      answers = answers_with_text p s cue wrote (cue_moves p s cue) (plain_reply s cue) (plain_state p s cue) (has_text s cue) (record { made = made.made; says = made.says });
    }

-- the moves of a line that goes on with the session are those of its operations
moves_are : (p : Pack) (s : State) (l : Line) → GoesOnWith s l → cue_moves p s (typed l) ≡ line_moves (mark_of (sights p)) s.model (ops l s.model s.world)
moves_are p s l g = ap (λ b. cond b (ending_moves s.world.need (mark_of (sights p)) s.model (ops l s.model s.world)) (line_moves (mark_of (sights p)) s.model (ops l s.model s.world))) g.stays

pub silent_lines_answer : SilentLinesAnswer
silent_lines_answer p s l g here stands none =
    let nothing : cue_moves p s (typed l) ≡ [] = moves_are p s l g ∙ ap (line_moves (mark_of (sights p)) s.model) none in
    let need = lines_keep_need l s.model s.world in
    plain_answer p s (typed l) [] g.asks (subst (Obeys session s.model p []) (sym nothing) (rest here))
    (record { sound = λ unneeded. stands.sound (sym need ∙ unneeded); reads = λ unneeded. stands.reads (sym need ∙ unneeded) ∙ sym (ap (steps session s.model) nothing) })
    (λ over. absurd (apart (sym g.stays ∙ over)))

pub lines_on_a_sound_pack_answer : LinesOnASoundPackAnswer
lines_on_a_sound_pack_answer p s l wrote g unneeded stands line =
    let reads = stands.reads unneeded in
    let m = s.model in
    let os = ops l s.model s.world in
    plain_answer p s (typed l) wrote g.asks
    (subst (Obeys session m p wrote) (sym (moves_are p s l g)) (subst (λ n. Obeys session n p wrote (line_moves (mark_of (sights p)) n os)) reads line.session))
    (record {
      sound = λ need. line.sound;
      reads = λ need. line.reads ∙ ap (λ n. steps_of n os) reads ∙ sym (ap (steps session m) (moves_are p s l g) ∙ (line_moves_lead_to_the_model (mark_of (sights p)) m os).in_session);
    })
    (λ over. absurd (apart (sym g.stays ∙ over)))

-- ---- turns that don't do all
pub prefixes_answer : PrefixesAnswer
prefixes_answer p s cue wrote moves each start = record {
  fault = λ u asks taken. record { moves = moves; each = each; start = start; answers = (inl asks, taken) };
  memory = λ u asks. record { moves = moves; each = each; start = start; answers = inl asks };
  hint = λ place at wanted found f. record {
    moves = moves;
    each = each;
    start = start;
    answers = record {
      made = record {
        kind = failed moves f start;
        model = refl;
        stands = record { sound = λ need. cc; reads = λ need. cc };
        closed = λ over need. cc;
        mended = λ is. absurd (none_touched s cue is wanted.fid f.file);
      };
      says = refl;
    };
  };
}

pub broken_lines_answer : BrokenLinesAnswer
broken_lines_answer p s l wrote g unneeded stands broken =
    let reads = stands.reads unneeded in
    prefixes_answer p s (typed l) wrote broken.moves (subst (λ n. Obeys session n p wrote broken.moves) reads broken.session)
    (subst (IsStartOf broken.moves) (sym (moves_are p s l g)) (subst (λ n. IsStartOf broken.moves (line_moves (mark_of (sights p)) n (ops l s.model s.world))) reads broken.start))

-- ---- the end of a session
never : (r : Option Refusal) → unless_refused r false false ≡ true → ⊥
never None e = cc
never (Some x) e = cc

quit_asks : (l : Line) (r : Option Refusal) → unless_refused r (is_quit l) false ≡ true → unless_refused r (is_scavenge l) false ≡ false
quit_asks line.Quit None e = refl
quit_asks line.Quit (Some x) e = refl
quit_asks l r e = absurd (never r e)

-- what ends the session asks for no scavenge
end_asks : (s : State) (cue : Cue) → closes s cue ≡ true → asks_scavenge s cue ≡ false
end_asks s (typed l) e = quit_asks l (refusal l s.model s.world) e
end_asks s (aside text) e = cc
end_asks s ended e = refl

end_moves_are : (p : Pack) (s : State) (cue : Cue) → closes s cue ≡ true → cue_moves p s cue ≡ ending_moves s.world.need (mark_of (sights p)) s.model (cue_ops s cue)
end_moves_are p s cue e = ap (λ b. cond b (ending_moves s.world.need (mark_of (sights p)) s.model (cue_ops s cue)) (line_moves (mark_of (sights p)) s.model (cue_ops s cue))) e

quiet_model : (m : Model) (k : ℕ) → steps session m (quiet_moves (units k)) ≡ m
quiet_model m zero = refl
quiet_model m (suc k) = quiet_model m k

closing_model : (m : Model) (b : Bool) (k : ℕ) → steps session m (cond b [] (quiet_moves (units k))) ≡ m
closing_model m true k = refl
closing_model m false k = quiet_model m k

-- the moves of an end lead to the model after its last operations
ends_lead : (mark : ℕ) (m : Model) (os : List Operation) → steps session m (ending_moves false mark m os) ≡ steps_of m os
ends_lead mark m os =
    steps-append session m (line_moves mark m os) (close_moves (mark_after mark os) (units (data_pages m.shape)))
    ∙ closing_model (steps session m (line_moves mark m os)) (mark_after mark os == mark_clean) (data_pages m.shape)
    ∙ (line_moves_lead_to_the_model mark m os).in_session

pub ends_on_a_sound_pack_answer : EndsOnASoundPackAnswer
ends_on_a_sound_pack_answer p s cue wrote over unneeded stands end =
    let reads = stands.reads unneeded in
    let m = s.model in
    let mark = mark_of (sights p) in
    let os = cue_ops s cue in
    let are : cue_moves p s cue ≡ ending_moves false mark m os = end_moves_are p s cue over ∙ ap (λ b. ending_moves b mark m os) unneeded in
    plain_answer p s cue wrote (end_asks s cue over)
    (subst (Obeys session m p wrote) (sym are) (subst (λ n. Obeys session n p wrote (ending_moves false mark n os)) reads end.session))
    (record {
      sound = λ need. end.sound;
      reads = λ need. end.reads ∙ ap (λ n. steps_of n os) reads ∙ sym (ap (steps session m) are ∙ ends_lead mark m os);
    })
    (λ is need. end.clean)

pub ends_in_need_answer : EndsInNeedAnswer
ends_in_need_answer p s cue over needed here =
    let nothing : cue_moves p s cue ≡ [] = end_moves_are p s cue over ∙ ap (λ b. ending_moves b (mark_of (sights p)) s.model (cue_ops s cue)) needed in
    let need = lines_keep_need (cue_line cue) s.model s.world ∙ needed in
    plain_answer p s cue [] (end_asks s cue over) (subst (Obeys session s.model p []) (sym nothing) (rest here))
    (record { sound = λ unneeded. absurd (apart (sym unneeded ∙ need)); reads = λ unneeded. absurd (apart (sym unneeded ∙ need)) })
    (λ is unneeded. absurd (apart (sym unneeded ∙ need)))
