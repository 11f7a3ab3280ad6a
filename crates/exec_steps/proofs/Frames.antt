-- What a line leaves of a session, call by call, and what its calls answer, passed on.
use Rattle.std.proofs.Common.{◌≡◌, ◌≤◌, All, Result, Err, length, map, refl, sym, subst, ap, ◌∙◌, arith}
use Rattle.std.specs.Result.{IsErrAnd}
use Rattle.disk_records.specs.Addresses.{pages_of}
use Rattle.disk_records.specs.Tapes.{Taped}
use Rattle.disk_records.specs.declared.records.Tally.{Tally}
use Rattle.exec_session.specs.hint_cache.specs.declared.hints.Hints.{Hints}
use Rattle.exec_words.specs.declared.reply.Refusal.{Refusal}
use Rattle.session_model.specs.Keeping.{AreApart, Formed, StreamFormed, stream_of}
use Rattle.exec_session.specs.world_model.specs.Levels.{IsAtLevel}
use Rattle.exec_session.specs.declared.session.Session.{Session}
use Rattle.exec_session.specs.declared.stop.Stop.{Stop}
use Rattle.exec_session.specs.Meant.{IfRefused, Looked, Stays, kept}
use Rattle.exec_steps.specs.Asked.{IsSameButTable, Works}
use Rattle.exec_session.specs.Turned.{SameWorld}
pub use Rattle.exec_session.proofs.Causing.{cause_after, cause_passed}
pub use Rattle.exec_session.proofs.Looking.{looks_about_within}
use Rattle.exec_session.proofs.Stopping.{refused_of_stop}
pub use Rattle.exec_session.proofs.Stopping.{if_refused}
use Rattle.exec_session.proofs.Turning.{same_world}

-- ---- calls
pub works_here : (s : Session) → Works s s
works_here s = record { shape = refl; sized = refl; moment = refl; world = refl; streams = refl; need = refl; refused = omega arith }

-- that are lent the hints and the tally
pub works_called : (s : Session) (h : Hints) (u : Tally) → length h.table ≡ length s.hints.table → s.hints.cache.refused ≤ h.cache.refused → Works s (record s { hints = h; tally = u })
works_called s h u sized refused = record { shape = refl; sized = sized; moment = refl; world = refl; streams = refl; need = refl; refused = refused }

-- that look
pub works_looked : {a b : Session} → Looked a b → Works a b
works_looked {a} {b} looked = subst (λ s. Works a s) (sym looked.same) (record { shape = refl; sized = refl; moment = refl; world = refl; streams = refl; need = refl; refused = looked.refused })

-- that reserve sectors
pub works_reserved : {a b : Session} → IsSameButTable a b → length b.hints.table ≡ length a.hints.table → Works a b
works_reserved {a} {b} same sized = subst (λ s. Works a s) (sym same) (record { shape = refl; sized = sized; moment = refl; world = refl; streams = refl; need = refl; refused = omega arith })

pub works_twice : {a b c : Session} → Works a b → Works b c → Works a c
works_twice x y =
    let first = x.refused in
    let next = y.refused in
    record {
      shape = y.shape ∙ x.shape;
      sized = y.sized ∙ x.sized;
      moment = y.moment ∙ x.moment;
      world = y.world ∙ x.world;
      streams = y.streams ∙ x.streams;
      need = y.need ∙ x.need;
      refused = omega (arith, first, next);
    }

-- ---- after the line
pub world_worked : {a b : Session} → Works a b → SameWorld (kept a) (kept b)
world_worked w = record { moment = w.moment; level = ap (λ x. x.level) w.world; memory = ap (λ x. x.memory) w.world; streams = ap (λ x. x.slots) w.streams; need = w.need }

pub stays_worked : (old new : Taped) {a b : Session} → Works a b → new.form ≡ old.form → Formed old.form (kept a) → Stays new a b
stays_worked old new {a} {b} w form formed = record {
  formed = record {
    shape = form ∙ formed.shape ∙ sym w.shape;
    bits = w.sized ∙ formed.bits ∙ ap pages_of (sym form);
    memory = subst (λ x. IsAtLevel x.level x.memory) (sym w.world) formed.memory;
    streams = subst (λ x. All StreamFormed x.slots) (sym w.streams) formed.streams;
    apart = subst (λ x. AreApart (map stream_of x.slots)) (sym w.streams) formed.apart;
  };
  world = same_world (kept a) (kept b) (world_worked w);
}

-- ---- an answer that is passed on
-- a refusal that it can't be
pub never_refused : (T : Type 0) {U : Type 0} (P : Refusal → Type 0) (e : Stop) (r : Result U Stop) → IsErrAnd r (λ x. x ≡ e) → IfRefused {T = T} (Err e) (λ x. ⊥) → IfRefused r P
never_refused T P e r is h = refused_of_stop T (λ x. ⊥) P e r is (λ x none. absurd none) h
