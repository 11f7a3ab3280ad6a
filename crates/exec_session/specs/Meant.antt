-- What contracts see of a session, and of a line that is done or isn't.
-- What a session keeps is this project's choice.
use Rattle.std.specs.Prelude.{◌≡◌, ◌⊎◌, ◌≤◌, ◌+◌, ℕ, Bool, IsTrue, true, List, [], Option, None, Vec, Result, Ok, Err}
use Rattle.disk_records.specs.declared.records.Page.{Page}
use Rattle.disk_records.specs.declared.records.Place.{Place}
use Rattle.disk_records.specs.Tapes.{Taped, Looks, pack}
use Rattle.pack_model.specs.reading.Files.{first}
use Rattle.page_seeking.specs.Seeking.{KeepsHandy, Refused as NoteRefused, all_listed}
use Rattle.exec_words.specs.declared.line.Line.{Line}
use Rattle.exec_words.specs.declared.reply.Refusal.{Refusal}
use Rattle.exec_words.specs.declared.reply.Refusal.TheVariants as refusal
use Rattle.exec_words.specs.declared.reply.Reply.{Reply}
use Rattle.exec_words.specs.declared.reply.Reply.TheVariants as reply
use Rattle.session_model.specs.Answering.{TakesTurns}
use Rattle.session_model.specs.Keeping.{Formed, Kept, world_of}
use Rattle.session_model.specs.Refusals.{by_line}
use Rattle.session_model.specs.Turning.{typed}
use Rattle.session_model.specs.Worlds.{World}
use Rattle.exec_session.specs.declared.session.Session.{Session}
use Rattle.exec_session.specs.declared.stop.Stop.{Stop}
use Rattle.exec_session.specs.declared.stop.Stop.TheVariants.{Refused, Misled, DiskFault, Memory}

-- ---- what is kept
abbrev pub kept : Session → Kept
kept s = record {
  shape = s.descriptor.shape;
  last = s.descriptor.last;
  mark = s.descriptor.mark;
  pages = s.descriptor.pages;
  busy = s.hints.table;
  cache = all_listed s.hints.cache;
  refused = s.hints.cache.refused;
  tally = s.tally;
  moment = s.moment;
  level = s.world.level;
  memory = s.world.memory;
  streams = s.streams.slots;
  need = s.need;
}

-- ---- by cases of what keeps a line from being done
abbrev pub IfRefused : {T : Type 0} → Result T Stop → (Refusal → Type 0) → Type 0
IfRefused (Ok x) P = Unit {0}
IfRefused (Err (Refused r)) P = P r
IfRefused (Err (Misled place at wanted found)) P = Unit {0}
IfRefused (Err DiskFault) P = Unit {0}
IfRefused (Err Memory) P = Unit {0}

abbrev pub IfHint : {T : Type 0} → Result T Stop → (Place → ℕ → Page → Option (List ℕ) → Type 0) → Type 0
IfHint (Ok x) P = Unit {0}
IfHint (Err (Refused r)) P = Unit {0}
IfHint (Err (Misled place at wanted found)) P = P place at wanted found
IfHint (Err DiskFault) P = Unit {0}
IfHint (Err Memory) P = Unit {0}

-- ---- the reply to a line that is done, or isn't, and what is kept once it is given
abbrev pub stopped : Stop → Reply
stopped (Refused r) = reply.Refused r
stopped (Misled place at wanted found) = reply.Refused (refusal.HintFailed place at wanted found)
stopped DiskFault = reply.DiskFault
stopped Memory = reply.Memory

abbrev pub replied : {Z : Type 0} → Result (Vec ℕ Z) Stop → Reply
replied (Ok text) = reply.Done text.items
replied (Err stop) = stopped stop

-- after a hint failed no stream is open, and a scavenge is needed
abbrev pub in_need : Kept → Kept
in_need k = record k { streams = []; need = true }

abbrev pub kept_stopped : Stop → Kept → Kept
kept_stopped (Refused r) k = k
kept_stopped (Misled place at wanted found) k = in_need k
kept_stopped DiskFault k = k
kept_stopped Memory k = k

abbrev pub kept_replied : {T : Type 0} → Result T Stop → Kept → Kept
kept_replied (Ok x) k = k
kept_replied (Err stop) k = kept_stopped stop k

-- ---- a line
-- it isn't refused by itself
abbrev pub IsTakenUpBy : World → Line → Type 0
IsTakenUpBy w l = first (λ r. r) (by_line l w) ≡ None

-- What is asked of a session for each line: it is formed as the disk is, and the line isn't refused by itself.
pub record MayObey (tape : Taped) (s : Session) (l : Line) : Type 0 where
  pub formed : Formed tape.form (kept s)
  pub taken_up : IsTakenUpBy (world_of (kept s)) l

-- on a machine that is modelled: the line is a turn of the session, once its reply is given
abbrev pub TakesLine : {Z : Type 0} → Taped → Taped → Session → Session → Line → Result (Vec ℕ Z) Stop → Type 0
TakesLine old new one two l result = TakesTurns old new (kept one) (kept_replied result (kept two)) (typed l) (replied result)

-- On every machine, for every answer: the session is formed, and the world is as it was.
pub record Stays (tape : Taped) (one two : Session) : Type 0 where
  pub formed : Formed tape.form (kept two)
  pub world : world_of (kept two) ≡ world_of (kept one)

-- ---- a call of a line that only looks
-- On every machine, for every answer: of what a session keeps the cache of addresses alone may be another.
pub record Looked (one two : Session) : Type 0 where
  pub same : two ≡ record one { hints = record { cache = two.hints.cache; table = one.hints.table } }
  pub refused : one.hints.cache.refused ≤ two.hints.cache.refused

-- and on a modelled one nothing is written, in at most so many sector commands, and handy hints stay handy
pub record LooksAbout (told : Bool) (most : ℕ) (old new : Taped) (one two : Session) : Type 0 where
  pub looks : Looks told most old new
  pub looked : Looked one two
  pub handy : IsTrue told → KeepsHandy (pack old) one.hints.cache two.hints.cache

-- so many sector commands at most, unless a note was refused
abbrev pub IsSoon : ℕ → Taped → Taped → Session → Session → Type 0
IsSoon most old new one two = (new.runs ≤ old.runs + most) ⊎ NoteRefused one.hints.cache two.hints.cache
