-- A turn of a session: over a typed line, over a text that was answered without the session, or over the end of the keys.
-- The kinds of turns are this project's choice.
use Rattle.std.specs.Prelude.{◌≡◌, ℕ, Bool, true, false, cond, List, [], ◌∷◌, ◌++◌, Option, None, Contains}
use Rattle.exec_words.specs.alto_words.specs.declared.fid.Fid.{Fid}
use Rattle.exec_words.specs.disk_records.specs.declared.records.Page.{Page}
use Rattle.exec_words.specs.disk_records.specs.declared.records.Place.{Place}
use Rattle.exec_words.specs.disk_records.specs.declared.records.Event.{Event}
use Rattle.exec_words.specs.disk_records.specs.Packs.{Pack, after}
use Rattle.exec_words.specs.pack_model.specs.reading.Files.{first}
use Rattle.exec_words.specs.pack_model.specs.reading.Sights.{sights}
use Rattle.exec_words.specs.pack_model.specs.reading.Model.{Model, read_as}
use Rattle.exec_words.specs.pack_model.specs.states.Sound.{Sound, Clean, mark_of}
use Rattle.exec_words.specs.pack_model.specs.operations.Step.{Operation}
use Rattle.exec_words.specs.pack_model.specs.operations.Operations.{Move, quiet_moves}
use Rattle.exec_words.specs.pack_model.specs.operations.Operations.Move.{mends}
use Rattle.exec_words.specs.pack_model.specs.operations.Committing.{units, line_moves}
use Rattle.exec_words.specs.pack_model.specs.hints.Misled.{IsOnDisk, AnswersMisled}
use Rattle.exec_words.specs.pack_model.specs.scavenger.Reports.{Scavenged, report_of}
use Rattle.exec_words.specs.pack_model.specs.sessions.Descriptor.{ending_moves}
use Rattle.exec_words.specs.pack_model.specs.sessions.Meanings.{session}
use Rattle.exec_words.specs.pack_model.specs.sessions.Moves.{IsStartOf, steps}
use Rattle.exec_words.specs.pack_model.specs.sessions.Turns.{Turn}
use Rattle.exec_words.specs.Built.{as_built}
use Rattle.exec_words.specs.declared.line.Line.{Line}
use Rattle.exec_words.specs.declared.line.Line.TheVariants as line
use Rattle.exec_words.specs.declared.reply.Refusal.TheVariants as refusal
use Rattle.exec_words.specs.Texts.{refusal_text, report_text}
use Rattle.session_model.specs.Worlds.{World, fresh_world, failed_world, mended_world}
use Rattle.session_model.specs.Effects.{ending_ops}
use Rattle.session_model.specs.Refusals.{by_line}
use Rattle.session_model.specs.Replies.{refusal as refusal_to, reply_to, ops, next, unless_refused}
use Rattle.session_model.specs.Touched.{touched}

-- ---- where a session stands: the model, the world, and whether it is over
pub record State : Type 0 where
  pub model : Model
  pub world : World
  pub over : Bool

-- as it begins
abbrev pub opening : Pack → ℕ → State
opening p moment = record { model = read_as p; world = fresh_world moment; over = false }

-- Where no scavenge is needed the pack is sound, and read as the model.
pub record StandsOn (p : Pack) (s : State) : Type 0 where
  pub sound : s.world.need ≡ false → Sound p
  pub reads : s.world.need ≡ false → read_as p ≡ s.model

-- ---- what a turn is over: a line; what was answered without the session, by this text; or the end of the keys, which is as a line `quit`
-- without a reply
pub data Cue : Type 0 where
  typed : Line → Cue
  aside : List ℕ → Cue
  ended : Cue

-- what a line is to a session of this program: a bad line if its verb isn't built yet
abbrev pub cue_for : Line → Cue
cue_for l = typed (as_built l)

-- the line that it is to the session: an answer without it is as a bad line with another text
abbrev pub cue_line : Cue → Line
cue_line (typed l) = l
cue_line (aside text) = line.Bad
cue_line ended = line.Quit

abbrev pub is_ended : Cue → Bool
is_ended (typed l) = false
is_ended (aside text) = false
is_ended ended = true

abbrev pub cue_ops : State → Cue → List Operation
cue_ops s (typed l) = ops l s.model s.world
cue_ops s (aside text) = []
cue_ops s ended = ending_ops s.model s.world

abbrev pub cue_text : State → Cue → List ℕ
cue_text s (typed l) = reply_to l s.model s.world
cue_text s (aside text) = text
cue_text s ended = []

abbrev pub cue_world : State → Cue → World
cue_world s cue = next (cue_line cue) s.model s.world

abbrev pub cue_files : State → Cue → List Fid
cue_files s cue = touched (cue_line cue) s.model s.world

-- the line isn't refused by itself: what is refused so is answered before any file is looked at
abbrev pub IsTakenUp : State → Cue → Type 0
IsTakenUp s cue = first (λ r. r) (by_line (cue_line cue) s.world) ≡ None

-- ---- lines that end the session, or ask for a scavenge, unless they are refused
abbrev pub is_quit : Line → Bool
is_quit line.Quit = true
is_quit l = false

abbrev pub is_scavenge : Line → Bool
is_scavenge line.Scavenge = true
is_scavenge l = false

abbrev pub closes : State → Cue → Bool
closes s (typed l) = unless_refused (refusal_to l s.model s.world) (is_quit l) false
closes s (aside text) = false
closes s ended = true

abbrev pub asks_scavenge : State → Cue → Bool
asks_scavenge s (typed l) = unless_refused (refusal_to l s.model s.world) (is_scavenge l) false
asks_scavenge s (aside text) = false
asks_scavenge s ended = false

-- ---- the record writes of a turn, as the moves that they make, one each: with the mark that the pack has as it begins
abbrev pub moves_with : ℕ → State → Cue → List Move
moves_with mark s cue = cond (closes s cue) (ending_moves s.world.need mark s.model (cue_ops s cue)) (line_moves mark s.model (cue_ops s cue))

abbrev pub cue_moves : Pack → State → Cue → List Move
cue_moves p s cue = moves_with (mark_of (sights p)) s cue

-- ---- a hint that misled
-- A hint on the disk misled in the pack as the turn began, and it was to lead to a page of one of these files.
pub record HintFailing (p : Pack) (wrote : List Event) (files : List Fid) (place : Place) (at : ℕ) (wanted : Page) (found : Option (List ℕ)) : Type 0 where
  pub misled : AnswersMisled p wrote place at wanted found
  pub on_disk : IsOnDisk place
  pub file : Contains files wanted.fid

abbrev pub hint_text : Place → ℕ → Page → Option (List ℕ) → List ℕ
hint_text place at wanted found = refusal_text (refusal.HintFailed place at wanted found)

-- ---- the kinds of turns
abbrev pub turn_of : List Move → List ℕ → Turn Move
turn_of moves text = record { ops = moves; text = text; counts = true }

-- the record writes of a scavenge: quiet ones, and the one that ends it
abbrev pub scavenge_moves : ℕ → Model → List Move
scavenge_moves quiets n = quiet_moves (units quiets) ++ mends n ∷ []

-- What a turn is, by the pack and the state as it begins and by its record writes; the world after it, and whether the session is over.
-- A plain one does all that its line asks for, and its text is the reply; one at the end of the keys has no text. One whose hint failed
-- makes a prefix of those record writes, and says what misled. One that scavenges reports on the pack that it found.
pub data TurnKind (p : Pack) (s : State) (cue : Cue) (wrote : List Event) : Turn Move → World → Bool → Type 0 where
  plain : asks_scavenge s cue ≡ false → TurnKind p s cue wrote (turn_of (cue_moves p s cue) (cue_text s cue)) (cue_world s cue) (closes s cue)
  failed : {place : Place} {at : ℕ} {wanted : Page} {found : Option (List ℕ)} (moves : List Move) → HintFailing p wrote (cue_files s cue) place at wanted found → IsStartOf moves (cue_moves p s cue) → TurnKind p s cue wrote (turn_of moves (hint_text place at wanted found)) (failed_world s.world) (is_ended cue)
  scavenged : (quiets : ℕ) (n : Model) → asks_scavenge s cue ≡ true → TurnKind p s cue wrote (turn_of (scavenge_moves quiets n) (report_text (report_of p))) (mended_world s.world) false

-- A turn that is made, by its record writes: it is of a kind, and the model and the world after it stand on the pack then. One that
-- ends the session leaves the pack clean, unless a scavenge is needed; one that scavenges leaves what a scavenge leaves.
pub record TurnMade (p : Pack) (s : State) (cue : Cue) (wrote : List Event) (made : Turn Move) (u : State) : Type 0 where
  pub kind : TurnKind p s cue wrote made u.world u.over
  pub model : u.model ≡ steps session s.model made.ops
  pub stands : StandsOn (after p wrote) u
  pub closed : u.over ≡ true → u.world.need ≡ false → Clean (after p wrote)
  pub mended : asks_scavenge s cue ≡ true → Scavenged p (after p wrote)
