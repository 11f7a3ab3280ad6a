-- A line that has no operation and leaves the streams, as a turn over a machine to which nothing happens.
use Rattle.std.proofs.Common.{◌≡◌, ℕ, ◌-◌, false, List, [], Some, None, Vec, Result, Ok, Err, IfErr, All, refl, sym, subst, ap, ◌∙◌}
use Rattle.exec_words.specs.disk_records.proofs.Growing.{alone_here, nothing_added}
use Rattle.exec_words.specs.disk_records.specs.Causes.{HasCause}
use Rattle.exec_words.specs.disk_records.specs.Packs.{Pack}
use Rattle.exec_words.specs.disk_records.specs.Tapes.{Taped, pack}
use Rattle.exec_words.specs.disk_records.specs.declared.shape.Shape.{Shape}
use Rattle.exec_words.specs.pack_model.specs.reading.Model.{Model}
use Rattle.exec_words.specs.declared.line.Line.{Line}
use Rattle.exec_words.specs.declared.reply.Refusal.{Refusal}
use Rattle.exec_words.specs.declared.reply.Reply.TheVariants as reply
use Rattle.exec_session.specs.laws_session.specs.StreamLaws.{StreamsFit}
use Rattle.exec_session.specs.declared.session.Session.{Session}
use Rattle.exec_session.specs.declared.stop.Stop.{Stop}
use Rattle.exec_session.specs.declared.stop.Stop.TheVariants as stop
use Rattle.exec_session.specs.Meant.{IsTakenUpBy, MayObey, kept_replied, replied}
use Rattle.exec_session.specs.Stops.{cause_of_stop}
use Rattle.exec_session.specs.Turned.{SameBut, SameHeld, Turned}
use Rattle.exec_session.proofs.TakingUp.{goes_on, plain_text}
use Rattle.exec_session.proofs.Turning.{line_is_refused, line_leaves_another_world, line_stops_unwritten, turned_is_a_turn}
use Rattle.session_model.specs.Answering.{TakesTurns, plain_reply}
use Rattle.session_model.specs.Bounds.{DoneWithin}
use Rattle.session_model.specs.Effects.{effect, says}
use Rattle.session_model.specs.Keeping.{Formed, Kept, StreamFits, world_of}
use Rattle.session_model.specs.Replies.{next, ops, refusal, unless_refused}
use Rattle.session_model.specs.Turning.{IsTakenUp, is_quit, is_scavenge, typed}
use Rattle.session_model.specs.world_model.specs.Levels.{IsAtLevel}
use Rattle.exec_memory.specs.Alone.{IsRefusalOrMemory, MayTake}

-- The line doesn't end the session and asks for no scavenge, and its sector commands have no bound.
pub record IsPlain (l : Line) : Type 0 where
  pub quits : is_quit l ≡ false
  pub scavenges : is_scavenge l ≡ false
  pub unbound : (p : Pack) (m : Model) (runs : ℕ) → DoneWithin p m l runs

-- what is kept, with another moment, level and memory
abbrev pub kept_with : Kept → ℕ → ℕ → List ℕ → Kept
kept_with one moment level memory = record one { moment = moment; level = level; memory = memory }

held_here : (t : Taped) (one : Kept) (moment level : ℕ) (memory : List ℕ) → SameHeld t t one (kept_with one moment level memory)
held_here t one moment level memory = record { shape = refl; last = refl; mark = refl; pages = refl; tally = refl; table = λ was. was }

same_here : (t : Taped) (one : Kept) → SameBut t t one one
same_here t one = record {
  world = record { moment = refl; level = refl; memory = refl; streams = refl; need = refl };
  shape = refl;
  last = refl;
  mark = refl;
  pages = refl;
  tally = refl;
  table = λ was. was;
}

-- ---- by its answer
-- the text of a line that isn't refused, with the world that the model has after it
pub line_done : (l : Line) (one : Kept) (moment level : ℕ) (memory text : List ℕ) → IsPlain l → ((m : Model) → refusal l m (world_of one) ≡ None) → ((m : Model) → effect l m (world_of one) ≡ says (world_of (kept_with one moment level memory)) text)
    → (t : Taped) → TakesTurns t t one (kept_with one moment level memory) (typed l) (reply.Done text)
line_done l one moment level memory text plain unrefused does t = λ s keeping.
    let two = kept_with one moment level memory in
    let m = s.model in
    let w = s.world in
    let none : refusal l m w ≡ None = subst (λ v. refusal l m v ≡ None) (sym keeping.world) (unrefused m) in
    let e : effect l m w ≡ says (world_of two) text = subst (λ v. effect l m v ≡ says (world_of two) text) (sym keeping.world) (does m) in
    let next_is : next l m w ≡ world_of two = ap (λ r. unless_refused r (effect l m w).world w) none ∙ ap (λ x. x.world) e in
    let no_ops : ops l m w ≡ [] = ap (λ r. unless_refused r (effect l m w).ops []) none ∙ ap (λ x. x.ops) e in
    let answer : plain_reply s (typed l) ≡ reply.Done text = plain_text l s plain.quits none ∙ ap (λ x. reply.Done x.text) e in
    let fits : StreamsFit m (next l m w) = subst (StreamsFit m) (sym next_is) (subst (λ v. All (StreamFits m) v.streams) keeping.world keeping.fits) in
    let turned = line_leaves_another_world t t one two s l keeping (goes_on l s plain.quits plain.scavenges) fits no_ops (alone_here t) (nothing_added t.events) (held_here t one moment level memory) (record { world = sym next_is; refs = keeping.refs }) in
    turned_is_a_turn t t one two s l (reply.Done text) (subst (Turned t t one two s l) answer turned) (λ handy none_refused. plain.unbound (pack t) m (t.runs - t.runs))

pub line_refused : {Z : Type 0} (l : Line) (one : Kept) (r : Refusal) (result : Result (Vec ℕ Z) Stop) → result ≡ Err (stop.Refused r) → ((m : Model) → refusal l m (world_of one) ≡ Some r)
    → (t : Taped) → TakesTurns t t one (kept_replied result one) (typed l) (replied result)
line_refused l one r result is refused t =
    subst (λ x. TakesTurns t t one (kept_replied x one) (typed l) (replied x)) (sym is)
    (λ s keeping. turned_is_a_turn t t one one s l (reply.Refused r)
    (line_is_refused t t one one s l r keeping (subst (λ v. refusal l s.model v ≡ Some r) (sym keeping.world) (refused s.model)) (alone_here t) (nothing_added t.events) (same_here t one))
    (λ handy none_refused. tt))

-- out of memory, whatever became of moment, level and memory
pub line_wants : {Z : Type 0} (l : Line) (one : Kept) (moment level : ℕ) (memory : List ℕ) (result : Result (Vec ℕ Z) Stop) → result ≡ Err stop.Memory → IsPlain l → IsTakenUpBy (world_of one) l
    → (t : Taped) → TakesTurns t t one (kept_replied result (kept_with one moment level memory)) (typed l) (replied result)
line_wants l one moment level memory result is plain taken_up t =
    subst (λ x. TakesTurns t t one (kept_replied x (kept_with one moment level memory)) (typed l) (replied x)) (sym is) (λ s keeping.
    let taken : IsTakenUp s (typed l) = subst (λ v. IsTakenUpBy v l) (sym keeping.world) taken_up in
    let stays = line_stops_unwritten t t one one s l stop.Memory keeping (goes_on l s plain.quits plain.scavenges) taken (alone_here t) (nothing_added t.events) (same_here t one) tt tt in
    turned_is_a_turn t t one (kept_with one moment level memory) s l reply.Memory (record {
      state = stays.state;
      goes_on = stays.goes_on;
      answered = stays.answered;
      need = λ is. absurd is;
      keeping = λ is. absurd is;
      tally = stays.tally;
      truthful = λ was is. absurd is;
    })
    (λ handy none_refused. tt))

-- ---- on every machine
pub may_take : {t : Taped} {s : Session} {l : Line} → MayObey t s l → MayTake s l
may_take may = record { memory = may.formed.memory; taken_up = may.taken_up }

pub formed_with : (one : Kept) (moment level : ℕ) (memory : List ℕ) → IsAtLevel level memory → (form : Shape) → Formed form one → Formed form (kept_with one moment level memory)
formed_with one moment level memory at form formed = record {
  shape = formed.shape;
  bits = formed.bits;
  memory = at;
  streams = formed.streams;
  apart = formed.apart;
}

pub stops_by : {Z : Type 0} (e : Stop) (result : Result (Vec ℕ Z) Stop) → result ≡ Err e → IsRefusalOrMemory e → IfErr result IsRefusalOrMemory
stops_by e result is h = subst (λ x. IfErr x IsRefusalOrMemory) (sym is) h

-- no disk fault came, and none is answered
pub cause_alone : {Z : Type 0} (t : Taped) (result : Result (Vec ℕ Z) Stop) → IfErr result IsRefusalOrMemory → HasCause cause_of_stop t t result
cause_alone t (Ok text) h = refl
cause_alone t (Err (stop.Refused r)) h = refl
cause_alone t (Err (stop.Misled place at wanted found)) h = absurd h
cause_alone t (Err stop.DiskFault) h = absurd h
cause_alone t (Err stop.Memory) h = refl
