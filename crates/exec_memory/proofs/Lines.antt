-- What a line on the memory is refused for, once it is taken up: the streams that are open, and the memory.
use Rattle.std.proofs.Common.{◌≡◌, ◌≤◌, ℕ, ◌&&◌, Bool, true, false, nat_le, nat_lt, List, [], ◌∷◌, ◌++◌, Option, Some, None, refl, ap, ◌∙◌, arith}
use Rattle.std.proofs.lemmas.Bool.{and_parts, le-ltb, leb-true}
use Rattle.std.specs.Option.{option_or}
use Rattle.exec_words.specs.pack_model.specs.reading.Files.{first}
use Rattle.exec_words.specs.pack_model.specs.reading.Model.{Model, room}
use Rattle.exec_words.specs.declared.line.Line.TheVariants as line
use Rattle.exec_words.specs.declared.reply.Refusal.{Refusal}
use Rattle.exec_words.specs.declared.reply.Refusal.TheVariants as refused
use Rattle.exec_session.specs.Meant.{IsTakenUpBy}
use Rattle.exec_session.proofs.FirstRefusals.{first_later, first_of}
use Rattle.exec_session.proofs.TakingUp.{typed_line}
use Rattle.session_model.specs.Effects.{block_effect}
use Rattle.session_model.specs.Refusals.{by_line, by_memory, is_any_open, refusal_of, when}
use Rattle.session_model.specs.Replies.{refusal}
use Rattle.session_model.specs.Worlds.{World}
use Rattle.session_model.specs.world_model.specs.Zones.{Taken, size_for, taken as taken_block}
use Rattle.session_model.specs.world_model.specs.ZoneWords.{zone_start}
use Rattle.exec_memory.proofs.LinesAlone.{IsPlain}

-- ---- a line without operands and operations
two_reasons : (a b : Option Refusal) (m : Model) → first_of (None ∷ None ∷ None ∷ a ∷ b ∷ None ∷ None ∷ when (nat_lt (room m) 0) (refused.Full 0 (room m)) ∷ []) ≡ option_or a b
unfolding first
two_reasons (Some r) b m = refl
two_reasons None (Some r) m = refl
two_reasons None None m = by (nat_lt (room m) 0) (le-ltb (room m) 0 (omega arith))
  where
    by : (few : Bool) → few ≡ false → first_of (None ∷ None ∷ None ∷ None ∷ None ∷ None ∷ None ∷ when few (refused.Full 0 (room m)) ∷ []) ≡ None
    by false e = refl
    by true e = cc

reasons : (before : List (Option Refusal)) (a b : Option Refusal) (m : Model) → first_of before ≡ None → first_of (before ++ None ∷ None ∷ None ∷ a ∷ b ∷ None ∷ None ∷ when (nat_lt (room m) 0) (refused.Full 0 (room m)) ∷ []) ≡ option_or a b
reasons before a b m none = first_later before (None ∷ None ∷ None ∷ a ∷ b ∷ None ∷ None ∷ when (nat_lt (room m) 0) (refused.Full 0 (room m)) ∷ []) none ∙ two_reasons a b m

pub store_refused : (at x : ℕ) (w : World) (m : Model) → IsTakenUpBy w (line.Store at x) → refusal (line.Store at x) m w ≡ by_memory (line.Store at x) w
store_refused at x w m taken = reasons (by_line (line.Store at x) w) None (by_memory (line.Store at x) w) m taken

pub fetch_refused : (at : ℕ) (w : World) (m : Model) → IsTakenUpBy w (line.Fetch at) → refusal (line.Fetch at) m w ≡ by_memory (line.Fetch at) w
fetch_refused at w m taken = reasons (by_line (line.Fetch at) w) None (by_memory (line.Fetch at) w) m taken

block_ops : (w : World) (t : Option Taken) → (block_effect w t).ops ≡ []
block_ops w None = refl
block_ops w (Some t) = refl

pub block_refused : (n : ℕ) (w : World) (m : Model) → IsTakenUpBy w (line.Block n) → refusal (line.Block n) m w ≡ by_memory (line.Block n) w
block_refused n w m taken = ap (refusal_of (line.Block n) m w) (block_ops w (taken_block zone_start (size_for n) w.zone)) ∙ reasons (by_line (line.Block n) w) None (by_memory (line.Block n) w) m taken

pub unblock_refused : (at : ℕ) (w : World) (m : Model) → IsTakenUpBy w (line.Unblock at) → refusal (line.Unblock at) m w ≡ by_memory (line.Unblock at) w
unblock_refused at w m taken = reasons (by_line (line.Unblock at) w) None (by_memory (line.Unblock at) w) m taken

pub junta_refused : (level : ℕ) (w : World) (m : Model) → IsTakenUpBy w (line.Junta level) → refusal (line.Junta level) m w ≡ option_or (when (nat_lt level 6 && is_any_open w) refused.StreamsOpen) None
junta_refused level w m taken = reasons (by_line (line.Junta level) w) (when (nat_lt level 6 && is_any_open w) refused.StreamsOpen) None m taken

pub counter_refused : (w : World) (m : Model) → IsTakenUpBy w line.CounterJunta → refusal line.CounterJunta m w ≡ by_memory line.CounterJunta w
counter_refused w m taken = reasons (by_line line.CounterJunta w) None (by_memory line.CounterJunta w) m taken

pub time_refused : (moment : ℕ) (w : World) (m : Model) → IsTakenUpBy w (line.SetTime moment) → refusal (line.SetTime moment) m w ≡ None
time_refused moment w m taken = reasons (by_line (line.SetTime moment) w) None None m taken

-- ---- as it can be typed
pub some_words : (n : ℕ) (w : World) → IsTakenUpBy w (line.Block n) → 1 ≤ n
some_words n w taken = leb-true 1 n (typed_line (line.Block n) w taken)

pub level_within : (level : ℕ) (w : World) → IsTakenUpBy w (line.Junta level) → (1 ≤ level) × (level ≤ 8)
level_within level w taken = let t = and_parts (nat_le 1 level) (nat_le level 8) (typed_line (line.Junta level) w taken) in (leb-true 1 level t.0, leb-true level 8 t.1)

-- ---- they are plain
pub store_plain : (at x : ℕ) → IsPlain (line.Store at x)
store_plain at x = record { quits = refl; scavenges = refl; unbound = λ p m runs. tt }

pub fetch_plain : (at : ℕ) → IsPlain (line.Fetch at)
fetch_plain at = record { quits = refl; scavenges = refl; unbound = λ p m runs. tt }

pub block_plain : (n : ℕ) → IsPlain (line.Block n)
block_plain n = record { quits = refl; scavenges = refl; unbound = λ p m runs. tt }

pub unblock_plain : (at : ℕ) → IsPlain (line.Unblock at)
unblock_plain at = record { quits = refl; scavenges = refl; unbound = λ p m runs. tt }

pub junta_plain : (level : ℕ) → IsPlain (line.Junta level)
junta_plain level = record { quits = refl; scavenges = refl; unbound = λ p m runs. tt }

pub counter_plain : IsPlain line.CounterJunta
counter_plain = record { quits = refl; scavenges = refl; unbound = λ p m runs. tt }

pub time_plain : (moment : ℕ) → IsPlain (line.SetTime moment)
time_plain moment = record { quits = refl; scavenges = refl; unbound = λ p m runs. tt }
