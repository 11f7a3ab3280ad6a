-- The answer of a call, and then its text, as a turn.
use Rattle.std.proofs.Common.{◌≡◌, Bool, true, false, List, [], ◌∷◌, ◌++◌, inl, inr, refl, subst, ap}
use Rattle.laws_line.specs.disk_records.specs.declared.records.Event.{Event}
use Rattle.laws_line.specs.disk_records.specs.Packs.{Pack}
use Rattle.laws_line.specs.pack_model.specs.operations.Operations.{Move}
use Rattle.laws_line.specs.pack_model.specs.scavenger.Reports.{report_of}
use Rattle.laws_line.specs.pack_model.specs.sessions.Meanings.{session}
use Rattle.laws_line.specs.pack_model.specs.sessions.Moves.{IsStartOf, Obeys}
use Rattle.laws_line.specs.pack_laws.proofs.Moving.{start_self}
use Rattle.laws_line.specs.pack_laws.proofs.TurnCalls.{shown_first}
use Rattle.session_model.specs.exec_words.specs.declared.reply.Reply.{Reply}
use Rattle.session_model.specs.exec_words.specs.declared.reply.Reply.TheVariants as reply
use Rattle.session_model.specs.exec_words.specs.Texts.{reply_text, report_text}
use Rattle.session_model.specs.Answering.{Answers, Replied}
use Rattle.session_model.specs.Turning.{State, Cue, plain, scavenged, turn_of, scavenge_moves, asks_scavenge, cue_moves, cue_text, cue_world, closes}
use Rattle.session_model.specs.Worlds.{mended_world}
use Rattle.laws_session.specs.AnswerLaws.{AnswersAreTurns, BreaksOff, CallBreaksOff, HasText, TextBreaksOff, TextMakesATurn}
use Rattle.laws_session.specs.ScavengeLaws.{ScavengesBreakOff}

append_none : {X : Type 0} (l : List X) → l ≡ l ++ []
append_none [] = refl
append_none (x ∷ l) = ap (λ k. x ∷ k) (append_none l)

-- ---- a text after record writes
pub text_makes_a_turn : TextMakesATurn
text_makes_a_turn says p s cue wrote made u goes_on each finished = record { run = record { goes_on = goes_on; wrote = wrote; each = each; split = refl }; finished = finished }

pub text_breaks_off : TextBreaksOff
text_breaks_off p s cue wrote shown made u goes_on each finished first =
    let l = shown_first made.text shown first in
    record {
      broke = record {
        made = record { ops = made.ops; text = l.some; counts = false };
        turn = record {
          run = record { goes_on = goes_on; wrote = wrote; each = each; split = ap (λ e. wrote ++ e) l.are };
          wanted = made;
          world = u.world;
          over = u.over;
          kind = finished.kind;
          off = record { start = start_self made.ops; text = l.start; later = λ h. refl; uncounted = refl };
        };
      };
      all = refl;
    }

-- ---- a fault, or out of memory, before there is a text
stopped : {p : Pack} {s : State} {cue : Cue} {wrote : List Event} {moves : List Move} → s.over ≡ false → asks_scavenge s cue ≡ false → Obeys session s.model p wrote moves → IsStartOf moves (cue_moves p s cue) → BreaksOff p s cue wrote
stopped {p} {s} {cue} {wrote} {moves} goes_on asks each start = record {
  made = record { ops = moves; text = []; counts = false };
  turn = record {
    run = record { goes_on = goes_on; wrote = wrote; each = each; split = append_none wrote };
    wanted = turn_of (cue_moves p s cue) (cue_text s cue);
    world = cue_world s cue;
    over = closes s cue;
    kind = plain asks;
    off = record { start = start; text = tt; later = λ h. absurd (h refl); uncounted = refl };
  };
}

-- of a scavenge, after a prefix of its record writes
pub scavenges_break_off : ScavengesBreakOff
scavenges_break_off p s cue wrote k n moves goes_on asks start each = record {
  made = record { ops = moves; text = []; counts = false };
  turn = record {
    run = record { goes_on = goes_on; wrote = wrote; each = each; split = append_none wrote };
    wanted = turn_of (scavenge_moves k n) (report_text (report_of p));
    world = mended_world s.world;
    over = false;
    kind = scavenged k n asks;
    off = record { start = start; text = tt; later = λ h. absurd (h refl); uncounted = refl };
  };
}

pub call_breaks_off : CallBreaksOff
call_breaks_off p s cue wrote moves goes_on (inl asks) each start = stopped goes_on asks each start
call_breaks_off p s cue wrote moves goes_on (inr none) each start = by (asks_scavenge s cue) refl where
  by : (b : Bool) → asks_scavenge s cue ≡ b → BreaksOff p s cue wrote
  by false asks = stopped goes_on asks each start
  by true asks = scavenges_break_off p s cue wrote 0 s.model [] goes_on asks tt (subst (Obeys session s.model p wrote) none each)

-- ---- an answer
replied : (p : Pack) (s : State) (cue : Cue) (wrote : List Event) (moves : List Move) (r : Reply) (u : State) → HasText r → Answers p s cue wrote moves r u → Replied p s cue wrote moves r u
replied p s cue wrote moves (reply.Done text) u has answers = answers
replied p s cue wrote moves (reply.Refused x) u has answers = answers
replied p s cue wrote moves reply.Quit u has answers = answers
replied p s cue wrote moves reply.Scavenge u has answers = absurd has
replied p s cue wrote moves reply.DiskFault u has answers = absurd has
replied p s cue wrote moves reply.Memory u has answers = absurd has

pub answers_are_turns : AnswersAreTurns
answers_are_turns p s cue wrote r u goes_on a = record {
  whole = λ has. text_makes_a_turn (λ text. text) p s cue wrote (turn_of a.moves (reply_text r)) u goes_on a.each (replied p s cue wrote a.moves r u has a.answers).made;
  cut_short = λ has shown first. text_breaks_off p s cue wrote shown (turn_of a.moves (reply_text r)) u goes_on a.each (replied p s cue wrote a.moves r u has a.answers).made first;
  fault = λ is. call_breaks_off p s cue wrote a.moves goes_on (subst (λ x. Answers p s cue wrote a.moves x u) is a.answers).0 a.each a.start;
  memory = λ is. call_breaks_off p s cue wrote a.moves goes_on (subst (λ x. Answers p s cue wrote a.moves x u) is a.answers) a.each a.start;
}
