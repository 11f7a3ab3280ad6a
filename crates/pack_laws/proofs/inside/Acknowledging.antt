-- Texts and moves of turns in a row, and what shown bytes acknowledge.
use Rattle.std.proofs.Common.{◌≡◌, ℕ, ◌+◌, ◌≤◌, List, [], ◌∷◌, ◌++◌, length, drop, refl, sym, ◌∙◌, ap, arith, Bool, true, false, cond, append_assoc, length-append, length-drop, sum_by, ◌&&◌}
use Rattle.std.proofs.lemmas.List.{append-nil}
use Rattle.std.proofs.lemmas.List.Sums.{sum_by-append, sum_by-cons}
use Rattle.pack_model.specs.sessions.Moves.{IsStartOf}
use Rattle.pack_model.specs.sessions.Turns.{Turn, ops_of, texts_of, is_whole, acknowledged}
use Rattle.pack_laws.specs.TurnLaws.{acknowledged_moves}
use Rattle.pack_laws.proofs.Moving.{start_after}

-- ---- weights
-- what a turn acknowledges weighs no more than it and the turns after it
acknowledged_cond : (b : Bool) (n m l : ℕ) → n ≤ m → cond b (l + n) 0 ≤ l + m
acknowledged_cond true n m l h = omega arith
acknowledged_cond false n m l h = omega arith

-- the same turn acknowledges no more where the turns after it do not
acknowledged_less : (b : Bool) (n m l : ℕ) → n ≤ m → cond b (l + n) 0 ≤ cond b (l + m) 0
acknowledged_less true n m l h = omega arith
acknowledged_less false n m l h = omega arith

-- a turn whose text does not stand there acknowledges nothing
not_then : (b : Bool) (n : ℕ) → cond (b && false) n 0 ≡ 0
not_then true n = refl
not_then false n = refl

module _ {O : Type 0} where
  -- the moves of turns, and then of more turns
  pub ops-append : (ts us : List (Turn O)) → ops_of (ts ++ us) ≡ ops_of ts ++ ops_of us
  ops-append [] us = refl
  ops-append (t ∷ ts) us = ap (λ l. t.ops ++ l) (ops-append ts us) ∙ sym (append_assoc t.ops (ops_of ts) (ops_of us))

  -- the moves of a turn more
  pub ops-push : (ts : List (Turn O)) (t : Turn O) → ops_of (ts ++ t ∷ []) ≡ ops_of ts ++ t.ops
  ops-push ts t = ops-append ts (t ∷ []) ∙ ap (λ l. ops_of ts ++ l) (append-nil t.ops)

  -- the texts of turns, and then of more turns
  pub texts-append : (ts us : List (Turn O)) → texts_of (ts ++ us) ≡ texts_of ts ++ texts_of us
  texts-append [] us = refl
  texts-append (t ∷ ts) us = ap (λ l. t.text ++ l) (texts-append ts us) ∙ sym (append_assoc t.text (texts_of ts) (texts_of us))

  -- the text of a turn more
  pub texts-push : (ts : List (Turn O)) (t : Turn O) → texts_of (ts ++ t ∷ []) ≡ texts_of ts ++ t.text
  texts-push ts t = texts-append ts (t ∷ []) ∙ ap (λ l. texts_of ts ++ l) (append-nil t.text)

  -- the moves that are acknowledged are the first ones of the turns
  pub acknowledged_start : (ts : List (Turn O)) (bytes : List ℕ) → IsStartOf (acknowledged_moves ts bytes) (ops_of ts)
  acknowledged_start [] bytes = tt
  acknowledged_start (t ∷ ts) bytes = starts (t.counts && is_whole t.text bytes) t.ops (acknowledged_moves ts (drop (length t.text) bytes)) (ops_of ts) (acknowledged_start ts (drop (length t.text) bytes))
    where
      starts : (b : Bool) (ops more all : List O) → IsStartOf more all → IsStartOf (cond b (ops ++ more) []) (ops ++ all)
      starts true ops more all h = start_after ops more all h
      starts false ops more all h = tt

  -- where each move weighs 1, the weight is the number
  pub sum_of_ones : (ops : List O) → sum_by (λ o. 1) ops ≡ length ops
  sum_of_ones [] = refl
  sum_of_ones (o ∷ ops) = let h = sum_of_ones ops in rw (sum_by-cons (λ (x : O). 1) o ops) (omega (arith, h))

  module _ (weight : O → ℕ) where
    -- no more is acknowledged than the turns have made
    pub acknowledged_at_most : (ts : List (Turn O)) (bytes : List ℕ) → acknowledged weight ts bytes ≤ sum_by weight (ops_of ts)
    acknowledged_at_most [] bytes = omega arith
    acknowledged_at_most (t ∷ ts) bytes =
        rw (sum_by-append weight t.ops (ops_of ts)) (acknowledged_cond (t.counts && is_whole t.text bytes) (acknowledged weight ts (drop (length t.text) bytes)) (sum_by weight (ops_of ts)) (sum_by weight t.ops) (acknowledged_at_most ts (drop (length t.text) bytes)))

    -- no bytes acknowledge nothing
    pub acknowledged_nothing : (t : Turn O) → acknowledged weight (t ∷ []) [] ≡ 0
    acknowledged_nothing t = elim t.text as (λ x. cond (t.counts && is_whole x []) (sum_by weight t.ops + 0) 0 ≡ 0) [ [] ↦ not_then t.counts (sum_by weight t.ops + 0) | b ∷ x ↦ not_then t.counts (sum_by weight t.ops + 0) ]

    -- a turn more is not acknowledged by bytes that reach no further than the texts before it
    pub acknowledged_short : (ts : List (Turn O)) (t : Turn O) (bytes : List ℕ) → length bytes ≤ length (texts_of ts) → acknowledged weight (ts ++ t ∷ []) bytes ≤ acknowledged weight ts bytes
    acknowledged_short [] t [] h = rw (acknowledged_nothing t) (omega arith)
    acknowledged_short [] t (b ∷ bytes) h = absurd (omega arith)
    acknowledged_short (u ∷ ts) t bytes h =
        acknowledged_less (u.counts && is_whole u.text bytes) (acknowledged weight (ts ++ t ∷ []) (drop (length u.text) bytes)) (acknowledged weight ts (drop (length u.text) bytes)) (sum_by weight u.ops)
        (acknowledged_short ts t (drop (length u.text) bytes) (omega (arith, h, length-append u.text (texts_of ts), length-drop (length u.text) bytes)))

    -- the moves that are acknowledged weigh as much as is acknowledged
    pub acknowledged-moves : (ts : List (Turn O)) (bytes : List ℕ) → acknowledged weight ts bytes ≡ sum_by weight (acknowledged_moves ts bytes)
    acknowledged-moves [] bytes = refl
    acknowledged-moves (t ∷ ts) bytes = weighs (t.counts && is_whole t.text bytes) t.ops (acknowledged_moves ts (drop (length t.text) bytes)) (acknowledged weight ts (drop (length t.text) bytes)) (acknowledged-moves ts (drop (length t.text) bytes))
      where
        weighs : (b : Bool) (ops more : List O) (n : ℕ) → n ≡ sum_by weight more → cond b (sum_by weight ops + n) 0 ≡ sum_by weight (cond b (ops ++ more) [])
        weighs true ops more n e = rw (e, sum_by-append weight ops more) refl
        weighs false ops more n e = refl
