-- Keys of one line, taken in pieces.
use Rattle.std.proofs.Common.{◌≡◌, ◌≢◌, ◌⊎◌, inl, inr, ℕ, ◌+◌, ◌-◌, ◌<◌, ◌≤◌, min, List, [], ◌∷◌, ◌++◌, length, get_or, take, drop, refl, sym, ◌∙◌, ap, subst, arith, append_assoc, length-append, length-take, Ok}
use Rattle.std.proofs.lemmas.List.{take_all, take_at, take_more, take-take, drop_all, append-nil, take-append-le, length-take-le}
use Rattle.std.proofs.Math.Seq.{take-append-add}
use Rattle.std.proofs.lemmas.Bool.{cases_lt}
use Rattle.disk_records.specs.Tapes.{IsUnbroken}
use Rattle.session_boot.specs.declared.keys.Piece.{Piece}
use Rattle.session_boot.specs.declared.keys.Piece.TheVariants.{End, Part, Last}
use Rattle.session_boot.specs.Keys.{IfPart, kept_of, TookEnded, TookRest, TookLast, TookSome, TookPiece}

-- ---- the first n of some keys
-- keys after the first n of some are dropped, or all of them are there
pub take_again : (n : ℕ) (keys more : List ℕ) → take n (take n keys ++ more) ≡ take n (keys ++ more)
take_again n keys more =
    elim (cases_lt (length keys) n) [
      | inl all ↦ ap (λ l. take n (l ++ more)) (take_all n keys (omega arith))
      | inr past ↦ take_at (take n keys) more n (omega (arith, length-take n keys)) ∙ sym (take-append-le n keys more past)
    ]

-- a piece is put after a line in a buffer, and n of them are kept
take_more_of : (n : ℕ) (line piece after : List ℕ) (count next : ℕ) → count ≤ length piece → next ≡ min (length line + count) n → take next (line ++ (piece ++ after)) ≡ take n (line ++ take count piece)
take_more_of n line piece after count next within is =
    let all : take (length line + count) (line ++ (piece ++ after)) ≡ line ++ take count piece =
    take-append-add line (piece ++ after) count ∙ ap (λ l. line ++ l) (take-append-le count piece after within) in
    elim (cases_lt n (length line + count)) [
      | inl past ↦
          ap (λ k. take k (line ++ (piece ++ after))) (omega (arith, is, past))
          ∙ sym (take-take n (length line + count) (line ++ (piece ++ after)) (omega (arith, past)))
          ∙ ap (take n) all
      | inr short ↦
          ap (λ k. take k (line ++ (piece ++ after))) (omega (arith, is, short))
          ∙ all
          ∙ sym (take_all n (line ++ take count piece) (omega (arith, short, within, length-append line (take count piece), length-take count piece)))
    ]

-- ---- a piece of a line
unbroken_more : (keys more : List ℕ) → IsUnbroken keys → IsUnbroken more → IsUnbroken (keys ++ more)
unbroken_more [] more h others = others
unbroken_more (first ∷ keys) more h others = (h.0, unbroken_more keys more h.1 others)

-- n keys by the last of them
last_key : (buf : List ℕ) (n : ℕ) → 0 < n → n ≤ length buf → take n buf ≡ take (n - 1) buf ++ get_or buf (n - 1) 0 ∷ []
last_key buf n some within = subst (λ m. take m buf ≡ take (n - 1) buf ++ get_or buf (n - 1) 0 ∷ []) (omega arith) (take_more buf (n - 1) 0 (omega arith))

-- the last of n keys doesn't end the line
pub unbroken_part : (buf : List ℕ) (n : ℕ) → 0 < n → n ≤ length buf → get_or buf (n - 1) 0 ≢ 10 → IsUnbroken (take (n - 1) buf) → IsUnbroken (take n buf)
unbroken_part buf n some within other unbroken = rw (last_key buf n some within) (unbroken_more (take (n - 1) buf) _ unbroken (other, tt))

pub piece_part : (buf : List ℕ) (n : ℕ) {old new : List ℕ} → 0 < n → n ≤ length buf → get_or buf (n - 1) 0 ≢ 10 → old ≡ take n buf ++ new → IsUnbroken (take (n - 1) buf) → TookSome old new (take n buf)
piece_part buf n some within other split unbroken =
    record { unbroken = unbroken_part buf n some within other unbroken; split = split }

-- ---- a line that is being taken
-- so many keys are left of those that count, and this much of the line is kept
pub record Taking (old now : List ℕ) (before left : ℕ) (line : List ℕ) : Type 0 where
  pub whole : List ℕ
  pub unbroken : IsUnbroken whole
  pub split : old ≡ whole ++ now
  pub counted : length whole + left ≡ before
  pub kept : line ≡ kept_of whole

-- a piece more
pub taking_more : {old mid : List ℕ} {before left : ℕ} {line part : List ℕ} (rest : List ℕ) (less : ℕ) (new : List ℕ) → Taking old mid before left line → TookSome mid rest part → length part + less ≡ left → new ≡ kept_of (line ++ part) → Taking old rest before less new
taking_more {part = part} rest less new t piece count is =
    record {
      whole = t.whole ++ part;
      unbroken = unbroken_more t.whole part t.unbroken piece.unbroken;
      split = t.split ∙ ap (λ l. t.whole ++ l) piece.split ∙ sym (append_assoc t.whole part rest);
      counted = omega (arith, t.counted, length-append t.whole part);
      kept = is ∙ ap (λ l. kept_of (l ++ part)) t.kept ∙ take_again 4097 t.whole part;
    }

-- a piece more, put after the line in a buffer
pub taking_piece : {old mid : List ℕ} {before left : ℕ} {line : List ℕ} (piece after : List ℕ) (kept count : ℕ) (rest : List ℕ) (less next : ℕ) → Taking old mid before left line → length line ≡ kept → TookSome mid rest (take count piece) → count ≤ length piece → count + less ≡ left → next ≡ min (kept + count) 4097 → Taking old rest before less (take next (line ++ (piece ++ after)))
taking_piece {line = line} piece after kept count rest less next t long some within count_is is =
    taking_more rest less (take next (line ++ (piece ++ after))) t some (omega (arith, length-take count piece, within, count_is))
    (take_more_of 4097 line piece after count next within (omega (arith, is, long)))

-- the key that ends the line
pub taking_ended : {old new : List ℕ} {before left : ℕ} {line : List ℕ} (after : ℕ) → Taking old (10 ∷ new) before left line → after + 1 ≡ left → TookEnded old new before after line
taking_ended after t count =
    record { whole = t.whole; unbroken = t.unbroken; split = t.split; counted = omega (arith, t.counted); kept = t.kept }

-- the end of the keys that count
pub taking_rest : {old now : List ℕ} {before left : ℕ} {line : List ℕ} (t : Taking old now before left line) → (now ≡ []) ⊎ (left ≡ 0) → TookRest old now before 0 t.whole
taking_rest {old} {now} {before} t end =
    elim end [
      | inl none ↦
          let all : old ≡ t.whole = t.split ∙ ap (λ l. t.whole ++ l) none ∙ append-nil t.whole in
          let long : length old ≤ before = omega (arith, ap length all, t.counted) in
          record { unbroken = t.unbroken; is = take_all before old long ∙ all; rest = none ∙ sym (drop_all before old long); spent = refl }
      | inr spent ↦
          let many : length t.whole ≡ before = omega (arith, t.counted) in
          record { unbroken = t.unbroken; is = ap (take before) t.split ∙ take_at t.whole now before many; rest = sym (ap (drop before) t.split ∙ drop_at before t.whole now many); spent = refl }
    ]
  where
    drop_at : (n : ℕ) (a b : List ℕ) → length a ≡ n → drop n (a ++ b) ≡ b
    drop_at n [] b e = subst (λ m. drop m b ≡ b) e refl
    drop_at n (x ∷ a) b e = subst (λ m. drop m (x ∷ (a ++ b)) ≡ b) e (drop_at (length a) a b refl)

-- a last line, at the front of a buffer
some_kept : (buf : List ℕ) (kept : ℕ) → kept ≢ 0 → kept ≤ length buf → take kept buf ≢ []
some_kept buf kept some within none = some (sym (length-take-le kept buf within) ∙ ap length none)

pub taking_last : {old now : List ℕ} {before left : ℕ} (buf : List ℕ) (kept : ℕ) → Taking old now before left (take kept buf) → (now ≡ []) ⊎ (left ≡ 0) → kept ≢ 0 → kept ≤ length buf → TookLast old now before 0 (take kept buf)
taking_last buf kept t end some within =
    record { whole = t.whole; some = λ none. some_kept buf kept some within (t.kept ∙ ap kept_of none); took = taking_rest t end; kept = t.kept }

-- and the buffer after it is another
pub taking_last_of : {old now : List ℕ} {before left : ℕ} (buf after : List ℕ) (kept : ℕ) → Taking old now before left (take kept buf) → (now ≡ []) ⊎ (left ≡ 0) → kept ≢ 0 → kept ≤ length buf → TookLast old now before 0 (take kept (take kept buf ++ after))
taking_last_of {old} {now} {before} buf after kept t end some within =
    subst (TookLast old now before 0) (sym (take_at (take kept buf) after kept (length-take-le kept buf within))) (taking_last buf kept t end some within)

-- no line
pub taking_over : {old now : List ℕ} {before left : ℕ} {line : List ℕ} → Taking old now before left line → (now ≡ []) ⊎ (left ≡ 0) → line ≡ [] → TookRest old now before 0 []
taking_over {old} {now} {before} t end none = subst (TookRest old now before 0) (nothing t.whole (sym none ∙ t.kept)) (taking_rest t end)
  where
    nothing : (whole : List ℕ) → [] ≡ kept_of whole → whole ≡ []
    nothing [] is = refl
    nothing (key ∷ whole) is = absurd (omega (arith, ap length is, length-take 4097 (key ∷ whole)))

-- ---- answers
-- a piece was taken
pub took_end : {piece : Piece} {old new : List ℕ} (buf : List ℕ) → piece ≡ End → TookPiece old new buf (Ok piece) → (old ≡ []) × (new ≡ [])
took_end {old} {new} buf is t = subst (λ p. TookPiece old new buf (Ok p)) is t

pub took_some : {piece : Piece} {old new : List ℕ} (buf : List ℕ) {count : ℕ} → piece ≡ Part count → TookPiece old new buf (Ok piece) → TookSome old new (take count buf)
took_some {old} {new} buf is t = subst (λ p. TookPiece old new buf (Ok p)) is t

pub went_on : {piece : Piece} {count : ℕ} {holds : Type 0} → piece ≡ Part count → IfPart (Ok piece) holds → holds
went_on {piece} {count} {holds} is h = subst (λ p. IfPart (Ok p) holds) is h

pub took_last : {piece : Piece} {old new : List ℕ} (buf : List ℕ) {count : ℕ} → piece ≡ Last count → TookPiece old new buf (Ok piece) → TookSome old (10 ∷ new) (take count buf)
took_last {old} {new} buf is t = subst (λ p. TookPiece old new buf (Ok p)) is t
