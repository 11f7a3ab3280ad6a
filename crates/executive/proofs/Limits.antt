-- The limit of a tally, put back after a line: the turn is the same, and the reply says what the line says.
use Rattle.std.proofs.Common.{◌≡◌, ◌≢◌, ℕ, suc, List, [], ◌∷◌, Vec, Result, Ok, Err, refl, sym, subst, ap, arith, ◌∙◌}
use Rattle.disk_records.specs.Causes.{HasCause, IsCause}
use Rattle.disk_records.specs.Packs.{Pack}
use Rattle.disk_records.specs.Tapes.{Taped, pack}
use Rattle.disk_records.specs.declared.records.Tally.{Tally}
use Rattle.disk_records.specs.declared.shape.Shape.{Shape}
use Rattle.exec_words.specs.declared.line.Line.{Line}
use Rattle.exec_words.specs.declared.reply.Reply.{Reply}
use Rattle.exec_words.specs.declared.reply.Reply.TheVariants as reply
use Rattle.exec_session.specs.declared.session.Session.{Session}
use Rattle.exec_session.specs.declared.stop.Stop.{Stop}
use Rattle.exec_session.specs.declared.stop.Stop.TheVariants as stop
use Rattle.exec_session.specs.Ends.{cause_of_reply}
use Rattle.exec_session.specs.Meant.{IfRefused, TakesLine, in_need, kept, kept_replied, kept_stopped, replied}
use Rattle.exec_session.specs.Stops.{cause_of_stop}
use Rattle.exec_session.proofs.Stopping.{stopped_unscavenged}
use Rattle.pack_model.specs.operations.Operations.{Move}
use Rattle.pack_model.specs.operations.Operations.Move.{quiet, commits, mends}
use Rattle.pack_model.specs.sessions.Tallies.{counted, took_effect}
use Rattle.session_model.specs.Answering.{IsByModel, TakesTurns}
use Rattle.session_model.specs.Keeping.{Formed, Keeping, Kept}
use Rattle.session_model.specs.Turning.{Cue, State, typed}

-- ---- counting keeps the limit
counted_limit : (n : ℕ) (moves : List Move) (t : Tally) → (counted n moves t).limit ≡ t.limit
counted_limit n [] t = refl
counted_limit n (quiet ∷ moves) t = counted_limit (suc n) moves t
counted_limit n (commits o ∷ moves) t = counted_limit (suc n) moves (took_effect (suc n) t)
counted_limit n (mends m ∷ moves) t = counted_limit (suc n) moves t

abbrev pub tally_up_to : ℕ → Tally → Tally
tally_up_to limit t = record t { limit = limit }

abbrev pub kept_up_to : ℕ → Kept → Kept
kept_up_to limit k = record k { tally = tally_up_to limit k.tally }

same_tally : (t u : Tally) (limit : ℕ) → t ≡ u → u.limit ≡ limit → tally_up_to limit t ≡ u
same_tally t u limit is limit_is = ap (tally_up_to limit) is ∙ ap (λ n. tally_up_to n u) (sym limit_is)

-- ---- what is kept stays right
keeps : (p : Pack) (k : Kept) (s : State) (limit : ℕ) → Keeping p k s → Keeping p (kept_up_to limit k) s
keeps p k s limit h = record {
  begins = h.begins;
  world = h.world;
  stands = h.stands;
  cut = h.cut;
  descriptor = h.descriptor;
  fits = h.fits;
  refs = h.refs;
}

-- ---- the turn
pub limit_back : (old new : Taped) (one two : Kept) (cue : Cue) (r : Reply) → TakesTurns old new one two cue r → TakesTurns old new one (kept_up_to one.tally.limit two) cue r
limit_back old new one two cue r turns = λ s keeping.
    let t = turns s keeping in
    record {
      state = t.state;
      answered = t.answered;
      need = t.need;
      keeping = λ is goes. keeps (pack new) two t.state one.tally.limit (t.keeping is goes);
      tally = λ tells. same_tally two.tally (counted old.writes t.answered.moves one.tally) one.tally.limit (t.tally tells) (counted_limit old.writes t.answered.moves one.tally);
      truthful = t.truthful;
      closed = t.closed;
      quick = t.quick;
    }

-- ---- the reply that is given once it is back
replied_up_to : {T : Type 0} (r : Result T Stop) (limit : ℕ) (k : Kept) → kept_replied r (kept_up_to limit k) ≡ kept_up_to limit (kept_replied r k)
replied_up_to (Ok x) limit k = refl
replied_up_to (Err (stop.Refused x)) limit k = refl
replied_up_to (Err (stop.Misled place at wanted found)) limit k = refl
replied_up_to (Err stop.DiskFault) limit k = refl
replied_up_to (Err stop.Memory) limit k = refl

pub answered_turns : {Z : Type 0} (old new : Taped) (one two : Session) (l : Line) (done : Result (Vec ℕ Z) Stop) (limit : ℕ) (after : Kept) (r : Reply) → limit ≡ one.tally.limit → TakesLine old new one two l done → after ≡ kept_replied done (kept_up_to limit (kept two)) → r ≡ replied done
    → TakesTurns old new (kept one) after (typed l) r
answered_turns old new one two l done limit after r limit_is turns after_is reply =
    subst (λ k. TakesTurns old new (kept one) k (typed l) r)
    (sym (after_is ∙ ap (λ n. kept_replied done (kept_up_to n (kept two))) limit_is ∙ replied_up_to done one.tally.limit (kept two)))
    (subst (λ y. TakesTurns old new (kept one) (kept_up_to one.tally.limit (kept_replied done (kept two))) (typed l) y) (sym reply)
    (limit_back old new (kept one) (kept_replied done (kept two)) (typed l) (replied done) turns))

pub limit_stays : {T : Type 0} (done : Result T Stop) (limit : ℕ) (k : Kept) → (kept_replied done (kept_up_to limit k)).tally.limit ≡ limit
limit_stays done limit k = ap (λ x. x.tally.limit) (replied_up_to done limit k)

pub stopped_limit : (x : Stop) (k : Kept) → (kept_stopped x k).tally.limit ≡ k.tally.limit
stopped_limit (stop.Refused r) k = refl
stopped_limit (stop.Misled place at wanted found) k = refl
stopped_limit stop.DiskFault k = refl
stopped_limit stop.Memory k = refl

in_need_formed : (form : Shape) (k : Kept) → Formed form k → Formed form (in_need k)
in_need_formed form k h = record { shape = h.shape; bits = h.bits; memory = h.memory; streams = λ i d less. absurd (omega (arith, less)); apart = tt }

formed_up_to : (form : Shape) (k : Kept) (limit : ℕ) → Formed form k → Formed form (kept_up_to limit k)
formed_up_to form k limit h = record { shape = h.shape; bits = h.bits; memory = h.memory; streams = h.streams; apart = h.apart }

formed_replied : {T : Type 0} (form : Shape) (done : Result T Stop) (k : Kept) → Formed form k → Formed form (kept_replied done k)
formed_replied form (Ok x) k h = h
formed_replied form (Err (stop.Refused x)) k h = h
formed_replied form (Err (stop.Misled place at wanted found)) k h = in_need_formed form k h
formed_replied form (Err stop.DiskFault) k h = h
formed_replied form (Err stop.Memory) k h = h

pub stopped_formed : (form : Shape) (x : Stop) (k after : Kept) → Formed form k → after ≡ kept_stopped x k → Formed form after
stopped_formed form x k after h is = subst (Formed form) (sym is) (formed_replied {T = Unit {0}} form (Err x) k h)

pub answered_formed : {T : Type 0} (form : Shape) (done : Result T Stop) (limit : ℕ) (k after : Kept) → Formed form k → after ≡ kept_replied done (kept_up_to limit k) → Formed form after
answered_formed form done limit k after h is = subst (Formed form) (sym is) (formed_replied form done (kept_up_to limit k) (formed_up_to form k limit h))

-- ---- what else the reply says
pub by_model_unwritten : {Z : Type 0} (P : Type 0) (done : Result (Vec ℕ Z) Stop) (r : Reply) → r ≡ replied done → IfRefused done (λ x. P) → IsByModel r → P
by_model_unwritten {Z} P done r is h by_model = by done h (subst IsByModel is by_model)
  where
    by : (done : Result (Vec ℕ Z) Stop) → IfRefused done (λ x. P) → IsByModel (replied done) → P
    by (Ok text) h m = absurd m
    by (Err (stop.Refused x)) h m = h
    by (Err (stop.Misled place at wanted found)) h m = absurd m
    by (Err stop.DiskFault) h m = absurd m
    by (Err stop.Memory) h m = absurd m

pub answered_unscavenged : {Z : Type 0} (done : Result (Vec ℕ Z) Stop) (r : Reply) → r ≡ replied done → r ≢ reply.Scavenge
answered_unscavenged (Ok text) r is asks = cc
answered_unscavenged (Err x) r is asks = stopped_unscavenged x (sym is ∙ asks)

pub answered_cause : {Z : Type 0} (old new : Taped) (done : Result (Vec ℕ Z) Stop) (r : Reply) → r ≡ replied done → HasCause cause_of_stop old new done → IsCause old new (cause_of_reply r)
answered_cause {Z} old new done r is h = subst (λ x. IsCause old new (cause_of_reply x)) (sym is) (by done h)
  where
    by : (done : Result (Vec ℕ Z) Stop) → HasCause cause_of_stop old new done → IsCause old new (cause_of_reply (replied done))
    by (Ok text) h = h
    by (Err (stop.Refused x)) h = h
    by (Err (stop.Misled place at wanted found)) h = h
    by (Err stop.DiskFault) h = h
    by (Err stop.Memory) h = h
