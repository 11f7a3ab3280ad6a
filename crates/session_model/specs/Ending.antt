-- A whole session over typed bytes: which lines have turns, how it ends, and what it leaves.
-- How a session ends is this project's choice.
use Rattle.std.specs.Prelude.{◌≡◌, ◌≢◌, ◌≤◌, ℕ, suc, Bool, true, false, map, List, [], ◌∷◌, ◌++◌, length, drop, Option, Some, None}
use Rattle.exec_words.specs.disk_records.specs.declared.records.Event.{Event}
use Rattle.exec_words.specs.disk_records.specs.declared.records.Page.{Page}
use Rattle.exec_words.specs.disk_records.specs.declared.records.Place.{Place}
use Rattle.exec_words.specs.disk_records.specs.declared.records.Tally.{Tally}
use Rattle.exec_words.specs.disk_records.specs.Events.{IsFirstOf, shown_events, shown_bytes}
use Rattle.exec_words.specs.disk_records.specs.Tapes.{Taped, pack, added}
use Rattle.exec_words.specs.pack_model.specs.hints.Tables.{HintsTrue}
use Rattle.exec_words.specs.pack_model.specs.operations.Operations.{Move, weight_of}
use Rattle.exec_words.specs.pack_model.specs.reading.Model.{read_as}
use Rattle.exec_words.specs.pack_model.specs.sessions.Lines.{TookLines, lines, ended_lines, most_keys}
use Rattle.exec_words.specs.pack_model.specs.sessions.Meanings.{session}
use Rattle.exec_words.specs.pack_model.specs.sessions.Moves.{IsStartOf}
use Rattle.exec_words.specs.pack_model.specs.sessions.Tallies.{no_tally, counted}
use Rattle.exec_words.specs.pack_model.specs.sessions.Turns.{Turn, CutAt, ops_of, texts_of}
use Rattle.exec_words.specs.pack_model.specs.reading.Sights.{sights}
use Rattle.exec_words.specs.pack_model.specs.states.Sentences.{EachOnce}
use Rattle.exec_words.specs.pack_model.specs.states.Sound.{Sound, Clean}
use Rattle.exec_words.specs.Grammar.{line_in}
use Rattle.session_model.specs.Turning.{State, Cue, typed, aside, ended, cue_for, opening, HintFailing, hint_text}
use Rattle.session_model.specs.Histories.{HistoryOf, aloud, broken_text, BrokenIsTakenUp, MadeAll, NoneFailedIn, ShowsRuled}
use Rattle.session_model.specs.Answering.{count_end}
use Rattle.session_model.specs.Opening.{Unready, no_root, no_descriptor, wrong_length, bad_descriptor, not_clean, unready, unready_text, system_files}

-- ---- what is typed
-- a text as a line of this program
abbrev pub cue_of : List ℕ → Cue
cue_of text = cue_for (line_in text)

-- each line in order, and then the end of the keys
abbrev pub cues_of : List ℕ → List Cue
cues_of keys = map cue_of (lines keys) ++ ended ∷ []

-- those that took a line of the keys
abbrev pub typed_cues : List Cue → ℕ
typed_cues [] = 0
typed_cues (typed l ∷ cues) = suc (typed_cues cues)
typed_cues (aside text ∷ cues) = suc (typed_cues cues)
typed_cues (ended ∷ cues) = typed_cues cues

-- ---- how a call that is a session ends
-- The session is over and needs no scavenge, or one is needed; a device failed; out of memory.
pub data Stop : Type 0 where
  done : Stop
  needs_scavenge : Stop
  disk_failed : Stop
  display_failed : Stop
  keys_failed : Stop
  no_memory : Stop

-- ---- the keys that were taken
-- Each line has its turn before the next one is taken to its end.
pub record TookKeys (old new : Taped) (stop : Stop) (cues : List Cue) : Type 0 where
  pub taken : List ℕ
  pub split : old.keys ≡ taken ++ new.keys
  pub none_passed : length (ended_lines taken) ≤ typed_cues cues
  pub none_early : typed_cues cues ≤ length (lines taken)
  pub exact : stop ≢ keys_failed → stop ≢ no_memory → TookLines old.keys new.keys taken (typed_cues cues)
  pub at_fault : stop ≡ keys_failed → typed_cues cues ≡ length (ended_lines taken)
  pub at_end : (cues ≡ cues_of old.keys) → new.keys ≡ drop most_keys old.keys

-- ---- a session on a pack that opened
-- Its history is over a prefix of what is typed, and shows its texts; of a turn that broke off some text is shown only where the display
-- failed, and all moves are made there; the disk fails at no line that is refused by itself. Its tally counts the history from the limit
-- that was given. Each crash point stands for the model, and shows it, as the ruler says.
pub record SessionOf (moment : ℕ) (old new : Taped) (given tally : Tally) (stop : Stop) (end : Option State) : Type 0 where
  pub cues : List Cue
  pub turns : List (Turn Move)
  pub history : HistoryOf aloud (pack old) (opening (pack old) moment) (added old new) cues turns end
  pub first : IsStartOf cues (cues_of old.keys)
  pub keys : TookKeys old new stop cues
  pub silent : stop ≢ display_failed → broken_text history ≡ []
  pub shows : stop ≡ display_failed → MadeAll history
  pub reaches : stop ≡ disk_failed → BrokenIsTakenUp history
  pub shown : shown_bytes (added old new) ≡ texts_of turns
  pub tally_is : (stop ≡ disk_failed → suc new.writes ≤ count_end) → tally ≡ counted old.writes (ops_of turns) (no_tally given.limit)
  pub cuts : (k : ℕ) → CutAt weight_of session (read_as (pack old)) (pack old) (added old new) turns k
  pub states : (k : ℕ) → ShowsRuled (read_as (pack old)) (pack old) (added old new) turns k
  pub unfailed : HintsTrue (pack old) → NoneFailedIn history

-- ---- what it leaves
pub record IsOver (need : Bool) (end : Option State) : Type 0 where
  pub state : State
  pub is : end ≡ Some state
  pub over : state.over ≡ true
  pub need_is : state.world.need ≡ need

-- The pack is sound and clean, and read as the model of the state after the last turn; hints that were true are true.
pub record LeavesDone (old new : Taped) (end : Option State) : Type 0 where
  pub over : IsOver false end
  pub sound : Sound (pack new)
  pub clean : Clean (pack new)
  pub reads : read_as (pack new) ≡ over.state.model
  pub hints : HintsTrue (pack old) → HintsTrue (pack new)

-- the keys failed between two turns
pub record GoesOn (end : Option State) : Type 0 where
  pub state : State
  pub is : end ≡ Some state
  pub over : state.over ≡ false

abbrev pub EndsBy : Stop → Taped → Taped → Option State → Type 0
EndsBy done old new end = LeavesDone old new end
EndsBy needs_scavenge old new end = IsOver true end
EndsBy disk_failed old new end = end ≡ None
EndsBy display_failed old new end = end ≡ None
EndsBy keys_failed old new end = GoesOn end
EndsBy no_memory old new end = Unit {0}

-- ---- one text instead of a session
-- all of it, or a prefix of it where the display failed
abbrev pub ShowsWhy : Stop → List ℕ → List Event → Type 0
ShowsWhy needs_scavenge text events = events ≡ shown_events text
ShowsWhy display_failed text events = IsFirstOf (shown_events text) events
ShowsWhy done text events = ⊥
ShowsWhy disk_failed text events = ⊥
ShowsWhy keys_failed text events = ⊥
ShowsWhy no_memory text events = ⊥

abbrev pub CanStop : Stop → Type 0
CanStop disk_failed = Unit {0}
CanStop no_memory = Unit {0}
CanStop done = ⊥
CanStop needs_scavenge = ⊥
CanStop display_failed = ⊥
CanStop keys_failed = ⊥

-- no key is taken, and nothing is counted
pub record NotBegun (old new : Taped) (given tally : Tally) : Type 0 where
  pub keys : new.keys ≡ old.keys
  pub tally_is : tally ≡ no_tally given.limit

-- past the label in sector 1 a hint may mislead before a reason is found
abbrev pub IsPastRoot : Unready → Type 0
IsPastRoot (no_root found) = ⊥
IsPastRoot no_descriptor = Unit {0}
IsPastRoot (wrong_length size) = Unit {0}
IsPastRoot (bad_descriptor n found) = Unit {0}
IsPastRoot (not_clean mark) = Unit {0}

-- A pack that isn't ready: the one text says why, or which hint misled on the way. Or a fault or out of memory came before either, and
-- nothing is shown or written.
pub data Unentered (old new : Taped) (stop : Stop) (u : Unready) : Type 0 where
  reasoned : ShowsWhy stop (unready_text u) (added old new) → Unentered old new stop u
  misled : {place : Place} {at : ℕ} {wanted : Page} {found : Option (List ℕ)} → IsPastRoot u → HintFailing (pack old) [] system_files place at wanted found → ShowsWhy stop (hint_text place at wanted found) (added old new) → Unentered old new stop u
  stopped : CanStop stop → added old new ≡ [] → Unentered old new stop u

-- of a pack that carries no page twice, whether it is sound or not
abbrev pub NotEntered : Taped → Taped → Tally → Tally → Stop → Type 0
NotEntered old new given tally stop = (u : Unready) → EachOnce (sights (pack old)) → unready (pack old) ≡ Some u → Unentered old new stop u × NotBegun old new given tally

-- The pack opened, and this is the session. Or a hint misled on the way to a system file, and the one text says which. Or a fault or
-- out of memory came before either, and nothing is shown or written.
pub data BootOf (moment : ℕ) (old new : Taped) (given tally : Tally) (stop : Stop) : Type 0 where
  opened : {end : Option State} → SessionOf moment old new given tally stop end → EndsBy stop old new end → BootOf moment old new given tally stop
  unopened : {place : Place} {at : ℕ} {wanted : Page} {found : Option (List ℕ)} → HintFailing (pack old) [] system_files place at wanted found → ShowsWhy stop (hint_text place at wanted found) (added old new) → NotBegun old new given tally → BootOf moment old new given tally stop
  stopped : CanStop stop → added old new ≡ [] → NotBegun old new given tally → BootOf moment old new given tally stop
