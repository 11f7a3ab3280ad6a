-- The laws of turns, as they are stated.
use Rattle.std.proofs.Common.{false, true, ℕ, ◌≡◌}
use Rattle.pack_laws.proofs.Moving.{does_first, obeys_first, obeys_then, then_does}
use Rattle.pack_laws.proofs.Moving as moving
use Rattle.pack_laws.proofs.inside.Ruling.{ruler_next, ruler_rises, ruler_shown, ruler_start, ruler_whole, ruler_wrote, talks_makes}
use Rattle.pack_laws.proofs.Talking.{talks_acknowledged, talks_model, talks_shown, talks_writes}
use Rattle.pack_laws.proofs.Talking as talking
use Rattle.pack_laws.proofs.TurnCalls.{turn_broken, turn_cut, turn_whole}
use Rattle.pack_laws.specs.TurnLaws.{AcknowledgedAreDone, CallsAreTurns, CallsJoin, CrashOfRun, CrashOfTurns, FaultsLeaveAPrefix, RulerLaws, RunBreaksOff, RunsJoin, TurnsAreShown, TurnsJoin, WritesAreMade}
use Rattle.pack_model.specs.sessions.Moves.{Meaning}

pub runs_join : {M O : Type 0} (means : Meaning M O) → RunsJoin means
runs_join means = λ m p a b ops more first next. obeys_then means first next

pub crash_of_run : {M O : Type 0} (means : Meaning M O) → CrashOfRun means
crash_of_run means = λ m p events ops obeys k. moving.crash_of_run means obeys k

pub run_breaks_off : {M O : Type 0} (means : Meaning M O) → RunBreaksOff means
run_breaks_off means = λ m p writes events moves obeys first. let l = obeys_first means obeys events first in record { moves = l.ops; start = l.start; each = l.each }

pub calls_join : {M O : Type 0} (T U E F : Type 0) (means : Meaning M O) → CallsJoin T U E F means
calls_join T U E F means = λ p a b wanted more x result first next. then_does means first next

pub faults_leave_a_prefix : {M O : Type 0} (T E : Type 0) (means : Meaning M O) → FaultsLeaveAPrefix T E means
faults_leave_a_prefix T E means = λ p writes events wanted result all ends first ok. does_first means events result all ends first ok

pub turns_join : {M O : Type 0} (means : Meaning M O) → TurnsJoin means
turns_join means = λ m n l p a b turns more first next. talking.turns_join means first next

pub crash_of_turns : {M O : Type 0} (weight : O → ℕ) (means : Meaning M O) → CrashOfTurns weight means
crash_of_turns weight means = λ m n p events turns talks k. talking.crash_of_turns means weight talks k

pub acknowledged_are_done : {M O : Type 0} (means : Meaning M O) → AcknowledgedAreDone means
acknowledged_are_done means = λ m n p events turns talks k. talks_acknowledged means talks k

pub writes_are_made : {M O : Type 0} (means : Meaning M O) → WritesAreMade means
writes_are_made means = λ m n p events turns talks. talks_makes means talks

pub ruler_laws : {M O : Type 0} (weight : O → ℕ) (means : Meaning M O) → RulerLaws weight means
ruler_laws weight means = record {
  starts = λ turns events. ruler_start weight turns events;
  rises = λ turns events k. ruler_rises weight turns events k;
  adds = λ turns events k most light. ruler_next weight turns events most k light;
  rests = λ turns events k byte is. ruler_shown weight turns events k byte is;
  makes = λ m n p events turns talks k at part words is. ruler_wrote means weight talks k at part words is;
  ends = λ m n p events turns talks. ruler_whole means weight talks;
}

pub turns_are_shown : {M O : Type 0} (means : Meaning M O) → TurnsAreShown means
turns_are_shown means = λ m n p events turns talks. record { shown = talks_shown means talks; writes = talks_writes means talks; model = talks_model means talks }

pub calls_are_turns : {M O : Type 0} (T E F : Type 0) (means : Meaning M O) → CallsAreTurns T E F means
calls_are_turns T E F means = λ x y z t. record {
  whole = λ u one two did shown. turn_whole means {T = T} {E = E} {F = F} t one two did shown;
  shown = λ u fault one two did shown.
      let h = turn_cut means {T = T} {E = E} {F = F} {f = fault} t one two did shown in
      record { turn = h.0; breaks = record { off = h.0.by; shows = λ display. h.1; silent = λ display. let both : ◌≡◌ true false = display in absurd cc } };
  broken = λ e fault did.
      let h = turn_broken means {T = T} {E = E} {F = F} {f = fault} t did in
      record { turn = h.0; breaks = record { off = h.0.by; shows = λ display. let both : ◌≡◌ false true = display in absurd cc; silent = λ display. h.1 } };
}
