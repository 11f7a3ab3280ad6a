-- Turns one after another, their cuts, and what is acknowledged.
use Rattle.std.proofs.Common.{◌≡◌, ℕ, ◌+◌, ◌-◌, ◌<◌, ◌≤◌, zero, suc, List, [], ◌∷◌, ◌++◌, length, take, refl, sym, subst, ◌∙◌, ap, inl, inr, arith, Result, append_assoc, le_trans, length-append, sum_by}
use Rattle.std.proofs.lemmas.Bool.{cases_lt}
use Rattle.std.proofs.lemmas.List.{take-append-le, take_all, append-nil}
use Rattle.std.proofs.lemmas.List.Sums.{sum_by-append}
use Rattle.std.proofs.Math.Seq.{take-append-add}
use Rattle.pack_model.specs.disk_records.specs.declared.records.Event.{Event}
use Rattle.pack_model.specs.disk_records.specs.declared.records.Event.TheVariants.{Wrote, Shown}
use Rattle.pack_model.specs.disk_records.specs.Events.{shown_events, shown_bytes, writes_in}
use Rattle.pack_model.specs.disk_records.specs.Packs.{Pack, after, crash}
use Rattle.pack_model.specs.disk_records.specs.Tapes.{Taped, Grown, pack, added}
use Rattle.pack_model.specs.disk_records.proofs.Growing.{after-append, after-shown, shown-append, shown-events, writes-append, writes-shown, added-twice, nothing_added, pack-after}
use Rattle.pack_model.specs.sessions.Moves.{Meaning, steps, Obeys, rest, write, IsStartOf}
use Rattle.pack_model.specs.sessions.Turns.{Turn, ops_of, texts_of, Talks, begun, spoken, IsTurn, acknowledged, CutAt, moves_at}
use Rattle.pack_laws.specs.TurnLaws.{acknowledged_moves}
use Rattle.pack_laws.proofs.Moving.{stands_last, crash_of_run, steps-append, start_within}
use Rattle.pack_laws.proofs.inside.Acknowledging.{acknowledged-moves, acknowledged_at_most, acknowledged_short, acknowledged_start, ops-append, ops-push, sum_of_ones, texts-push}

-- ---- events
-- a crash shows no more bytes than all events
pub shown_short : (k : ℕ) (a : List Event) → length (shown_bytes (take k a)) ≤ length (shown_bytes a)
shown_short zero a = omega arith
shown_short (suc k) [] = omega arith
shown_short (suc k) (Wrote at part words ∷ a) = shown_short k a
shown_short (suc k) (Shown byte ∷ a) = let h = shown_short k a in omega arith

-- a crash within a text
pub take-shown : (k : ℕ) (text : List ℕ) → take k (shown_events text) ≡ shown_events (take k text)
take-shown zero text = refl
take-shown (suc k) [] = refl
take-shown (suc k) (b ∷ text) = ap (λ l. Shown b ∷ l) (take-shown k text)

-- a crash has no more record writes than all events
pub writes_at_most : (k : ℕ) (a : List Event) → writes_in (take k a) ≤ writes_in a
writes_at_most zero a = omega arith
writes_at_most (suc k) [] = omega arith
writes_at_most (suc k) (Wrote at part words ∷ a) = let h = writes_at_most k a in omega (arith, h)
writes_at_most (suc k) (Shown byte ∷ a) = writes_at_most k a

-- ---- turns
module _ {M O : Type 0} (means : Meaning M O) where
  -- a run of writes shows nothing
  pub silent : {m : M} {p : Pack} {events : List Event} {ops : List O} → Obeys means m p events ops → (k : ℕ) → shown_bytes (take k events) ≡ []
  silent (rest here) zero = refl
  silent (rest here) (suc k) = refl
  silent (write here makes later) zero = refl
  silent (write here makes later) (suc k) = silent later k

  -- each event of it is a write
  pub writes_all : {m : M} {p : Pack} {events : List Event} {ops : List O} → Obeys means m p events ops → (k : ℕ) → k ≤ length events → writes_in (take k events) ≡ k
  writes_all (rest here) zero h = refl
  writes_all (rest here) (suc k) h = absurd (omega arith)
  writes_all (write here makes later) zero h = refl
  writes_all (write here makes later) (suc k) h = let l = writes_all later k (omega arith) in omega (arith, l)

  -- all of a run shows nothing
  pub silent_all : {m : M} {p : Pack} {events : List Event} {ops : List O} → Obeys means m p events ops → shown_bytes events ≡ []
  silent_all (rest here) = refl
  silent_all (write here makes later) = silent_all later

  -- all of a run has as many record writes as moves
  pub writes_whole : {m : M} {p : Pack} {events : List Event} {ops : List O} → Obeys means m p events ops → writes_in events ≡ length ops
  writes_whole (rest here) = refl
  writes_whole (write here makes later) = let l = writes_whole later in omega (arith, l)

  -- the model after turns and then one more
  model_after : (m : M) (turns : List (Turn O)) (turn : Turn O) (n : M) → n ≡ steps means m (ops_of turns) → steps means m (ops_of (turns ++ turn ∷ [])) ≡ steps means n turn.ops
  model_after m turns turn n model =
      ap (steps means m) (ops-push turns turn) ∙ steps-append means m (ops_of turns) turn.ops ∙ ap (λ x. steps means x turn.ops) (sym model)

  module _ {m : M} {p : Pack} where
    -- the model that they leave is the one after all their moves
    pub talks_model : {events : List Event} {turns : List (Turn O)} {n : M} → Talks means m p events turns n → n ≡ steps means m (ops_of turns)
    talks_model (begun here) = refl
    talks_model (spoken {events} {wrote} {turns} {n} turn so_far o) = sym (model_after m turns turn n (talks_model so_far))

    -- the shown bytes are the texts
    pub talks_shown : {events : List Event} {turns : List (Turn O)} {n : M} → Talks means m p events turns n → shown_bytes events ≡ texts_of turns
    talks_shown (begun here) = refl
    talks_shown (spoken {events} {wrote} {turns} {n} turn so_far o) =
        let h = talks_shown so_far in
        rw (shown-append events (wrote ++ shown_events turn.text), shown-append wrote (shown_events turn.text), silent_all o, shown-events turn.text, h, texts-push turns turn) refl

    -- there are as many record writes as moves
    pub talks_writes : {events : List Event} {turns : List (Turn O)} {n : M} → Talks means m p events turns n → writes_in events ≡ length (ops_of turns)
    talks_writes (begun here) = refl
    talks_writes (spoken {events} {wrote} {turns} {n} turn so_far o) =
        let a = talks_writes so_far in
        let b = writes_whole o in
        let c = writes-shown turn.text in
        rw (ops-push turns turn, length-append (ops_of turns) turn.ops, writes-append events (wrote ++ shown_events turn.text), writes-append wrote (shown_events turn.text)) (omega (arith, a, b, c))

    module _ (weight : O → ℕ) where
      -- a crash before the last turn
      cut_before : (events more : List Event) (turns : List (Turn O)) (t : Turn O) (k : ℕ) → k < length events → shown_bytes events ≡ texts_of turns → writes_in events ≡ length (ops_of turns) → CutAt weight means m p events turns k → CutAt weight means m p (events ++ more) (turns ++ t ∷ []) k
      cut_before events more turns t k before shown writes crash =
          let same : take k (events ++ more) ≡ take k events = take-append-le k events more (omega arith) in
          let short : length (shown_bytes (take k events)) ≤ length (texts_of turns) = subst (λ l. length (shown_bytes (take k events)) ≤ length l) shown (shown_short k events) in
          let few = writes_at_most k events in
          let moves : take (writes_in (take k events)) (ops_of (turns ++ t ∷ [])) ≡ take (writes_in (take k events)) (ops_of turns) = ap (take (writes_in (take k events))) (ops-append turns (t ∷ [])) ∙ take-append-le (writes_in (take k events)) (ops_of turns) (ops_of (t ∷ [])) (omega (arith, few, writes)) in
          record {
            none_missing = rw (same, moves) (le_trans (acknowledged_short weight turns t (shown_bytes (take k events)) short) crash.none_missing);
            stands = rw (same, moves) crash.stands;
          }

      -- a crash within the writes of the last turn
      cut_in_writes : (events wrote : List Event) (turns : List (Turn O)) (turn : Turn O) (n : M) (i : ℕ) → i ≤ length wrote → shown_bytes events ≡ texts_of turns → writes_in events ≡ length (ops_of turns) → n ≡ steps means m (ops_of turns) → Obeys means n (after p events) wrote turn.ops
          → CutAt weight means m p (events ++ (wrote ++ shown_events turn.text)) (turns ++ turn ∷ []) (length events + i)
      cut_in_writes events wrote turns turn n i among shown writes model o =
          let whole : take (length events + i) (events ++ (wrote ++ shown_events turn.text)) ≡ events ++ take i wrote = take-append-add events (wrote ++ shown_events turn.text) i ∙ ap (λ x. events ++ x) (take-append-le i wrote (shown_events turn.text) among) in
          let bytes : shown_bytes (events ++ take i wrote) ≡ texts_of turns = shown-append events (take i wrote) ∙ ap (λ x. shown_bytes events ++ x) (silent o i) ∙ append-nil (shown_bytes events) ∙ shown in
          let number : writes_in (events ++ take i wrote) ≡ length (ops_of turns) + i = writes-append events (take i wrote) ∙ ap (λ x. x + writes_in (take i wrote)) writes ∙ ap (λ x. length (ops_of turns) + x) (writes_all o i among) in
          let moves : take (writes_in (events ++ take i wrote)) (ops_of (turns ++ turn ∷ [])) ≡ ops_of turns ++ take i turn.ops = ap (λ x. take x (ops_of (turns ++ turn ∷ []))) number ∙ ap (take (length (ops_of turns) + i)) (ops-push turns turn) ∙ take-append-add (ops_of turns) turn.ops i in
          record {
            none_missing = rw (whole, bytes, moves, sum_by-append weight (ops_of turns) (take i turn.ops)) (le_trans (acknowledged_short weight turns turn (texts_of turns) (omega arith)) (le_trans (acknowledged_at_most weight turns (texts_of turns)) (omega arith)));
            stands = rw (whole, moves, steps-append means m (ops_of turns) (take i turn.ops), ← model, after-append p events (take i wrote)) (crash_of_run means o i);
          }

      -- a crash within its text
      cut_in_text : (events wrote : List Event) (turns : List (Turn O)) (turn : Turn O) (n : M) (i : ℕ) → writes_in events ≡ length (ops_of turns) → n ≡ steps means m (ops_of turns) → Obeys means n (after p events) wrote turn.ops
          → CutAt weight means m p (events ++ (wrote ++ shown_events turn.text)) (turns ++ turn ∷ []) (length events + (length wrote + i))
      cut_in_text events wrote turns turn n i writes model o =
          let whole : take (length events + (length wrote + i)) (events ++ (wrote ++ shown_events turn.text)) ≡ events ++ (wrote ++ shown_events (take i turn.text)) = take-append-add events (wrote ++ shown_events turn.text) (length wrote + i) ∙ ap (λ x. events ++ x) (take-append-add wrote (shown_events turn.text) i ∙ ap (λ x. wrote ++ x) (take-shown i turn.text)) in
          let sectors : after p (events ++ (wrote ++ shown_events (take i turn.text))) ≡ after (after p events) wrote = after-append p events (wrote ++ shown_events (take i turn.text)) ∙ after-append (after p events) wrote (shown_events (take i turn.text)) ∙ after-shown (after (after p events) wrote) (take i turn.text) in
          let c = writes_whole o in
          let number : length (ops_of (turns ++ turn ∷ [])) ≤ writes_in (events ++ (wrote ++ shown_events (take i turn.text))) = rw (ops-push turns turn, length-append (ops_of turns) turn.ops, writes-append events (wrote ++ shown_events (take i turn.text)), writes-append wrote (shown_events (take i turn.text))) (omega (arith, writes, c)) in
          let moves : take (writes_in (events ++ (wrote ++ shown_events (take i turn.text)))) (ops_of (turns ++ turn ∷ [])) ≡ ops_of (turns ++ turn ∷ []) = take_all (writes_in (events ++ (wrote ++ shown_events (take i turn.text)))) (ops_of (turns ++ turn ∷ [])) number in
          record {
            none_missing = rw (whole, moves) (acknowledged_at_most weight (turns ++ turn ∷ []) (shown_bytes (events ++ (wrote ++ shown_events (take i turn.text)))));
            stands = rw (whole, moves, sectors, model_after m turns turn n model) (stands_last means o);
          }

      -- a crash anywhere in the last turn
      cut_after : (events wrote : List Event) (turns : List (Turn O)) (turn : Turn O) (n : M) (i : ℕ) → shown_bytes events ≡ texts_of turns → writes_in events ≡ length (ops_of turns) → n ≡ steps means m (ops_of turns) → Obeys means n (after p events) wrote turn.ops
          → CutAt weight means m p (events ++ (wrote ++ shown_events turn.text)) (turns ++ turn ∷ []) (length events + i)
      cut_after events wrote turns turn n i shown writes model o = elim (cases_lt i (length wrote)) [
        | inl among ↦ cut_in_writes events wrote turns turn n i (omega arith) shown writes model o
        | inr past ↦
            let split : i ≡ length wrote + (i - length wrote) = omega arith in
            rw split (cut_in_text events wrote turns turn n (i - length wrote) writes model o)
      ]

      -- each crash stands for the model after its moves, and holds each operation that was acknowledged
      pub crash_of_turns : {events : List Event} {turns : List (Turn O)} {n : M} → Talks means m p events turns n → (k : ℕ) → CutAt weight means m p events turns k
      crash_of_turns (begun here) zero = record { none_missing = omega arith; stands = here }
      crash_of_turns (begun here) (suc k) = record { none_missing = omega arith; stands = here }
      crash_of_turns (spoken {events} {wrote} {turns} {n} turn so_far o) k = elim (cases_lt k (length events)) [
        | inl before ↦ cut_before events (wrote ++ shown_events turn.text) turns turn k before (talks_shown so_far) (talks_writes so_far) (crash_of_turns so_far k)
        | inr past ↦
            let split : k ≡ length events + (k - length events) = omega arith in
            rw split (cut_after events wrote turns turn n (k - length events) (talks_shown so_far) (talks_writes so_far) (talks_model so_far) o)
      ]

    -- the moves that a cut's shown bytes acknowledge are the first of those that it has made
    pub talks_acknowledged : {events : List Event} {turns : List (Turn O)} {n : M} → Talks means m p events turns n → (k : ℕ) → IsStartOf (acknowledged_moves turns (shown_bytes (take k events))) (moves_at turns events k)
    talks_acknowledged {events} {turns} {n} talks k =
        let crash : CutAt (λ o. 1) means m p events turns k = crash_of_turns (λ o. 1) talks k in
        let most : acknowledged (λ o. 1) turns (shown_bytes (take k events)) ≤ sum_by (λ o. 1) (moves_at turns events k) = crash.none_missing in
        let weighs = acknowledged-moves (λ (o : O). 1) turns (shown_bytes (take k events)) in
        let one = sum_of_ones (acknowledged_moves turns (shown_bytes (take k events))) in
        let two = sum_of_ones (moves_at turns events k) in
        start_within (acknowledged_moves turns (shown_bytes (take k events))) (ops_of turns) (writes_in (take k events)) (acknowledged_start turns (shown_bytes (take k events))) (omega (arith, most, weighs, one, two))

    -- two runs of turns, the second from where the first ends, are one
    pub turns_join : {a : List Event} {turns : List (Turn O)} {n : M} {b : List Event} {more : List (Turn O)} {l : M} → Talks means m p a turns n → Talks means n (after p a) b more l → Talks means m p (a ++ b) (turns ++ more) l
    turns_join {a} {turns} {n} {b} {more} {l} first (begun here) = rw (append-nil a, append-nil turns) first
    turns_join {a} {turns} {n} {b} {more} {l} first (spoken {events} {wrote} {turns = others} {n = k} turn so_far o) =
        let o : Obeys means k (after p (a ++ events)) wrote turn.ops = rw (after-append p a events) o in
        rw (← append_assoc a events (wrote ++ shown_events turn.text), ← append_assoc turns others (turn ∷ [])) (spoken turn (turns_join first so_far) o)

-- ---- calls that are turns
module _ {M O : Type 0} (means : Meaning M O) where
  -- no turn yet
  pub talks_begin : {m : M} (x : Taped) → means.Stands m (pack x) → Talks means m (pack x) (added x x) [] m
  talks_begin x here = let none : added x x ≡ [] = nothing_added x.events in rw none (begun here)

  module _ {T E : Type 0} where
    -- the pack after a turn: its text changes no sector
    pub pack-turn : {x y : Taped} {n : M} {t : Turn O} {result : Result T E} → Grown x y → (turn : IsTurn means n (pack x) (added x y) t result) → pack y ≡ after (pack x) turn.wrote
    pack-turn {x} {y} two turn =
        pack-after two
        ∙ ap (after (pack x)) turn.split
        ∙ after-append (pack x) turn.wrote (shown_events turn.made.text)
        ∙ after-shown (after (pack x) turn.wrote) turn.made.text

    -- the pack after a turn stands for the model after its moves
    pub turn_stands : {x y : Taped} {n : M} {t : Turn O} {result : Result T E} → Grown x y → (turn : IsTurn means n (pack x) (added x y) t result) → means.Stands (steps means n turn.made.ops) (pack y)
    turn_stands {x} {y} {n} two turn = subst (means.Stands (steps means n turn.made.ops)) (sym (pack-turn two turn)) (stands_last means turn.each)

    -- the history with a turn more
    pub talks_turn : {first x y : Taped} {m n : M} {t : Turn O} {result : Result T E} (turns : List (Turn O)) → Grown first x → Grown x y → Talks means m (pack first) (added first x) turns n → (turn : IsTurn means n (pack x) (added x y) t result) → Talks means m (pack first) (added first y) (turns ++ turn.made ∷ []) (steps means n turn.made.ops)
    talks_turn {first} {x} {y} {m} {n} turns one two talks turn =
        let each = subst (λ p. Obeys means n p turn.wrote turn.made.ops) (pack-after one) turn.each in
        rw (added-twice one two, turn.split) (spoken turn.made talks each)
