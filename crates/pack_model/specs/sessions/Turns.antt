-- A session as a list of turns: each makes moves, and then shows its text.
-- How a session, its texts and its cuts are stated is this project's choice.
use Rattle.std.specs.Prelude.{◌≡◌, ◌≢◌, ℕ, ◌+◌, ◌≤◌, ◌&&◌, ◌==◌, Bool, true, false, cond, List, [], ◌∷◌, ◌++◌, length, take, drop, sum_by, Result, Ok, Err}
use Rattle.disk_records.specs.declared.records.Event.{Event}
use Rattle.disk_records.specs.Packs.{Pack, after, crash}
use Rattle.disk_records.specs.Events.{shown_events, shown_bytes, writes_in}
use Rattle.pack_model.specs.sessions.Moves.{Meaning, Obeys, steps, IsStartOf}

-- a line's operations, its reply, and whether the reply acknowledges them
pub record Turn (O : Type 0) : Type 0 where
  pub ops : List O
  pub text : List ℕ
  -- whether its text acknowledges its moves: not that of a turn that broke off
  pub counts : Bool

-- all moves of the turns, and all bytes of their texts, in order
abbrev pub ops_of : {O : Type 0} → List (Turn O) → List O
ops_of [] = []
ops_of (t ∷ turns) = t.ops ++ ops_of turns

-- the bytes of all replies
abbrev pub texts_of : {O : Type 0} → List (Turn O) → List ℕ
texts_of [] = []
texts_of (t ∷ turns) = t.text ++ texts_of turns

-- From the model m and the pack p these events are these turns, and they leave the model n.
pub data Talks {M O : Type 0} (means : Meaning M O) (m : M) (p : Pack) : List Event → List (Turn O) → M → Type 0 where
  begun : means.Stands m p → Talks means m p [] [] m
  spoken : {events wrote : List Event} {turns : List (Turn O)} {n : M} (turn : Turn O) → Talks means m p events turns n → Obeys means n (after p events) wrote turn.ops → Talks means m p (events ++ (wrote ++ shown_events turn.text)) (turns ++ turn ∷ []) (steps means n turn.ops)

-- The turn broke off: a prefix of its moves, a prefix of its text only after all of them, and nothing more.
pub record BrokeOff {O : Type 0} (made wanted : Turn O) : Type 0 where
  pub start : IsStartOf made.ops wanted.ops
  pub text : IsStartOf made.text wanted.text
  pub later : made.text ≢ [] → made.ops ≡ wanted.ops
  pub uncounted : made.counts ≡ false

-- The same by what stopped it: only where the display failed a prefix of its text is shown, and then all its moves are made.
pub record BreaksAt {O : Type 0} (display : Bool) (made wanted : Turn O) : Type 0 where
  pub off : BrokeOff made wanted
  pub shows : display ≡ true → made.ops ≡ wanted.ops
  pub silent : display ≡ false → made.text ≡ []

abbrev pub MadeBy : {O T E : Type 0} → Turn O → Turn O → Result T E → Type 0
MadeBy made wanted (Ok x) = made ≡ wanted
MadeBy made wanted (Err e) = BrokeOff made wanted

-- a call on the model m and the pack p that is to be one turn
pub record IsTurn {M O T E : Type 0} (means : Meaning M O) (m : M) (p : Pack) (events : List Event) (turn : Turn O) (result : Result T E) : Type 0 where
  pub made : Turn O
  pub wrote : List Event
  pub each : Obeys means m p wrote made.ops
  pub split : events ≡ wrote ++ shown_events made.text
  pub by : MadeBy made turn result

-- ---- cuts
-- the bytes begin with all of the text
abbrev pub begins_with : List ℕ → List ℕ → Bool
begins_with [] bytes = true
begins_with (b ∷ text) [] = false
begins_with (b ∷ text) (c ∷ bytes) = (b == c) && begins_with text bytes

-- a turn without a text is never acknowledged
abbrev pub is_whole : List ℕ → List ℕ → Bool
is_whole [] bytes = false
is_whole (b ∷ text) bytes = begins_with (b ∷ text) bytes

-- the number of operations of those turns, from the first on, whose whole texts stand in the bytes; a move weighs 1
-- where it is an operation
abbrev pub acknowledged : {O : Type 0} → (O → ℕ) → List (Turn O) → List ℕ → ℕ
acknowledged weight [] bytes = 0
acknowledged weight (t ∷ turns) bytes = cond (t.counts && is_whole t.text bytes) (sum_by weight t.ops + acknowledged weight turns (drop (length t.text) bytes)) 0

-- the moves that a crash has made: as many as it has record writes
abbrev pub moves_at : {O : Type 0} → List (Turn O) → List Event → ℕ → List O
moves_at turns events k = take (writes_in (take k events)) (ops_of turns)

-- The ruler: the number of operations that the crash after k events has done. It starts at 0, never falls, and rises at record writes
-- alone.
abbrev pub ruler : {O : Type 0} → (O → ℕ) → List (Turn O) → List Event → ℕ → ℕ
ruler weight turns events k = sum_by weight (moves_at turns events k)

-- The events crash after k of them stand for the model after the moves so far, and no operation that was acknowledged is missing.
pub record CutAt {M O : Type 0} (weight : O → ℕ) (means : Meaning M O) (m : M) (p : Pack) (events : List Event) (turns : List (Turn O)) (k : ℕ) : Type 0 where
  pub none_missing : acknowledged weight turns (shown_bytes (take k events)) ≤ ruler weight turns events k
  pub stands : means.Stands (steps means m (moves_at turns events k)) (crash p events k)
