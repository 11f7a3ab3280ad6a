-- One call on a session: a line that is obeyed, or the end of the session. Its text isn't shown yet.
-- How calls are stated as turns is this project's choice.
use Rattle.std.specs.Prelude.{◌≡◌, ◌⊎◌, ◌<◌, ℕ, ◌-◌, ◌^◌, Bool, true, false, cond, List, [], ◌∷◌, Option, Some, None, Result, Ok, Err, drop}
use Rattle.exec_words.specs.disk_records.specs.declared.records.Event.{Event}
use Rattle.exec_words.specs.disk_records.specs.Packs.{Pack}
use Rattle.exec_words.specs.disk_records.specs.Tapes.{Taped, pack, added}
use Rattle.exec_words.specs.alto_words.specs.declared.fid.Fid.{Fid}
use Rattle.exec_words.specs.alto_words.specs.Fid.{sys_dir}
use Rattle.exec_words.specs.pack_model.specs.hints.Tables.{HintsTrue}
use Rattle.exec_words.specs.pack_model.specs.hints.Truth.{Truthful}
use Rattle.exec_words.specs.pack_model.specs.operations.Operations.{Move}
use Rattle.exec_words.specs.pack_model.specs.reading.Bytes.{words_of}
use Rattle.exec_words.specs.pack_model.specs.reading.Model.{Model}
use Rattle.exec_words.specs.pack_model.specs.sessions.Meanings.{session}
use Rattle.exec_words.specs.pack_model.specs.sessions.Moves.{Obeys, IsStartOf}
use Rattle.exec_words.specs.pack_model.specs.sessions.Tallies.{counted}
use Rattle.exec_words.specs.pack_model.specs.sessions.Turns.{Turn}
use Rattle.exec_words.specs.declared.line.Line.{Line}
use Rattle.exec_words.specs.declared.line.Line.TheVariants as line
use Rattle.exec_words.specs.declared.line.Target.TheVariants.{ByPath}
use Rattle.exec_words.specs.declared.reply.Refusal.{Refusal}
use Rattle.exec_words.specs.declared.reply.Refusal.TheVariants as refusal
use Rattle.exec_words.specs.declared.reply.Reply.{Reply}
use Rattle.exec_words.specs.declared.reply.Reply.TheVariants as reply
use Rattle.exec_words.specs.Texts.{reply_text}
use Rattle.session_model.specs.Finding.{the_file}
use Rattle.session_model.specs.Streams.{bytes_in}
use Rattle.session_model.specs.Worlds.{World}
use Rattle.session_model.specs.Replies.{refusal as refusal_to, reply_to}
use Rattle.session_model.specs.Turning.{State, Cue, typed, aside, ended, TurnKind, plain, failed, scavenged, TurnMade, turn_of, cue_line, cue_moves, cue_files, asks_scavenge, is_quit, IsTakenUp}
use Rattle.session_model.specs.Keeping.{Kept, Keeping}
use Rattle.session_model.specs.Bounds.{AllHandy, RunsWithin}

-- ---- the reply is that of the kind of turn
abbrev pub reply_unless : Option Refusal → Reply → Reply
reply_unless None r = r
reply_unless (Some x) r = reply.Refused x

abbrev pub plain_reply : State → Cue → Reply
plain_reply s (typed l) = reply_unless (refusal_to l s.model s.world) (cond (is_quit l) reply.Quit (reply.Done (reply_to l s.model s.world)))
plain_reply s (aside text) = reply.Done text
plain_reply s ended = reply.Done []

abbrev pub reply_of : {p : Pack} {s : State} {cue : Cue} {wrote : List Event} {made : Turn Move} {world : World} {over : Bool} → TurnKind p s cue wrote made world over → Reply
reply_of {s = s} {cue = cue} (plain asks) = plain_reply s cue
reply_of (failed {place = place} {at = at} {wanted = wanted} {found = found} moves failing start) = reply.Refused (refusal.HintFailed place at wanted found)
reply_of (scavenged quiets n asks) = reply.Scavenge

-- ---- what a reply says of the turn
-- The turn is made, except for its text, and the reply is that of its kind.
pub record Replied (p : Pack) (s : State) (cue : Cue) (wrote : List Event) (moves : List Move) (r : Reply) (u : State) : Type 0 where
  pub made : TurnMade p s cue wrote (turn_of moves (reply_text r)) u
  pub says : r ≡ reply_of made.kind

-- A scavenge is asked for, and nothing is done yet.
pub record Asks (s : State) (cue : Cue) (moves : List Move) (u : State) : Type 0 where
  pub asks : asks_scavenge s cue ≡ true
  pub moves_none : moves ≡ []
  pub same : u ≡ s

-- After a fault, or out of memory, a prefix of the record writes is made; none where a scavenge was asked for. A fault comes of no line
-- that is refused by itself.
abbrev pub StopsEarly : State → Cue → List Move → Type 0
StopsEarly s cue moves = (asks_scavenge s cue ≡ false) ⊎ (moves ≡ [])

abbrev pub Answers : Pack → State → Cue → List Event → List Move → Reply → State → Type 0
Answers p s cue wrote moves (reply.Done text) u = Replied p s cue wrote moves (reply.Done text) u
Answers p s cue wrote moves (reply.Refused r) u = Replied p s cue wrote moves (reply.Refused r) u
Answers p s cue wrote moves reply.Quit u = Replied p s cue wrote moves reply.Quit u
Answers p s cue wrote moves reply.Scavenge u = Asks s cue moves u
Answers p s cue wrote moves reply.DiskFault u = StopsEarly s cue moves × IsTakenUp s cue
Answers p s cue wrote moves reply.Memory u = StopsEarly s cue moves

-- From the pack p and the state s, to the state u: at every answer the record writes make a prefix of the moves of the turn.
pub record Answered (p : Pack) (s : State) (cue : Cue) (wrote : List Event) (r : Reply) (u : State) : Type 0 where
  pub moves : List Move
  pub each : Obeys session s.model p wrote moves
  pub start : IsStartOf moves (cue_moves p s cue)
  pub answers : Answers p s cue wrote moves r u

-- ---- one call
-- neither a fault nor out of memory: the session may go on
abbrev pub IsAnswer : Reply → Type 0
IsAnswer (reply.Done text) = Unit {0}
IsAnswer (reply.Refused r) = Unit {0}
IsAnswer reply.Quit = Unit {0}
IsAnswer reply.Scavenge = Unit {0}
IsAnswer reply.DiskFault = ⊥
IsAnswer reply.Memory = ⊥

-- a count at its end rises no more: that of record writes no longer tells which of a failed command's were made
abbrev pub count_end : ℕ
count_end = 2 ^ 64 - 1

abbrev pub TellsWrites : Reply → Taped → Type 0
TellsWrites r new = r ≡ reply.DiskFault → new.writes < count_end

-- the cache refused no address in the call
abbrev pub NoneRefused : Kept → Kept → Type 0
NoneRefused one two = (two.refused ≡ one.refused) × (one.refused < count_end)

-- The call takes one turn, from a state for which what is kept was right, to one for which it is right again. The tally counts its
-- moves. Hints that were true stay true; and all are true where the session is over and needs no scavenge. With handy hints it takes few
-- sector commands, unless the cache refused an address.
pub record TakesTurn (old new : Taped) (one two : Kept) (s : State) (cue : Cue) (r : Reply) : Type 0 where
  pub state : State
  pub answered : Answered (pack old) s cue (added old new) r state
  pub need : IsAnswer r → two.need ≡ state.world.need
  pub keeping : IsAnswer r → state.over ≡ false → Keeping (pack new) two state
  pub tally : TellsWrites r new → two.tally ≡ counted old.writes answered.moves one.tally
  pub truthful : Truthful (pack old) one.busy → IsAnswer r → state.over ≡ false → Truthful (pack new) two.busy
  pub closed : Truthful (pack old) one.busy → IsAnswer r → state.over ≡ true → state.world.need ≡ false → HintsTrue (pack new)
  pub quick : AllHandy (pack old) one.busy one.cache (cue_files s cue) → NoneRefused one two → RunsWithin (pack old) s.model (cue_line cue) r (new.runs - old.runs)

-- from every state for which what is kept is right
abbrev pub TakesTurns : Taped → Taped → Kept → Kept → Cue → Reply → Type 0
TakesTurns old new one two cue r = (s : State) → Keeping (pack old) one s → TakesTurn old new one two s cue r

-- a refusal by the model, and not that of a hint; then nothing is written
abbrev pub IsByModel : Reply → Type 0
IsByModel (reply.Refused (refusal.HintFailed place at wanted found)) = ⊥
IsByModel (reply.Refused r) = Unit {0}
IsByModel r = ⊥

-- ---- calls that answer what a line would be answered, and give what it reads
-- an answer that isn't a text
abbrev pub IsNoText : Reply → Type 0
IsNoText (reply.Done text) = ⊥
IsNoText (reply.Refused r) = Unit {0}
IsNoText reply.Quit = ⊥
IsNoText reply.Scavenge = ⊥
IsNoText reply.DiskFault = Unit {0}
IsNoText reply.Memory = Unit {0}

-- The line isn't refused, nothing is written or counted, and the session stands as it did; hints that were true stay true.
pub record ReadsOnly (old new : Taped) (one two : Kept) (s : State) (l : Line) : Type 0 where
  pub unrefused : refusal_to l s.model s.world ≡ None
  pub unwritten : added old new ≡ []
  pub keeping : Keeping (pack new) two s
  pub tally : two.tally ≡ one.tally
  pub truthful : Truthful (pack old) one.busy → Truthful (pack new) two.busy

-- the file that a line reads whole: `inload` that of a world, `type` any
abbrev pub file_read : Model → Line → Fid
file_read m (line.InLoad path message) = the_file m (ByPath path)
file_read m (line.TypeOut file) = the_file m file
file_read m l = sys_dir

abbrev pub bytes_read : State → Line → List ℕ
bytes_read s l = bytes_in s.model (file_read s.model l)

-- the level and the memory of a world's file
abbrev pub SavedBy : Taped → Taped → Kept → Kept → State → Line → Result (ℕ × List ℕ) Reply → Type 0
SavedBy old new one two s l (Ok saved) = ReadsOnly old new one two s l × (saved.0 ∷ saved.1 ≡ drop 1 (words_of (bytes_read s l)))
SavedBy old new one two s l (Err r) = IsNoText r × TakesTurn old new one two s (typed l) r

-- the bytes of a file
abbrev pub ContentsBy : Taped → Taped → Kept → Kept → State → Line → Result (List ℕ) Reply → Type 0
ContentsBy old new one two s l (Ok bytes) = ReadsOnly old new one two s l × (bytes ≡ bytes_read s l)
ContentsBy old new one two s l (Err r) = IsNoText r × TakesTurn old new one two s (typed l) r
