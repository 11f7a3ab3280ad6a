-- The mark of a version: where it stands in a text.
use Rattle.std.proofs.Common.{◌≡◌, ◌≢◌, ℕ, zero, suc, ◌+◌, ◌-◌, ◌<◌, ◌≤◌, Bool, true, false, cond, ◌==◌, List, [], ◌∷◌, ◌++◌, length, take, drop, get_or, map, Option, Some, None, refl, ap, sym, ◌∙◌, arith, append-nil, append_assoc, take-append-drop}
use Rattle.std.specs.List.{list_all, AllWithin, HoldsAt}
use Rattle.std.specs.Option.{option_map, MatchOption, IfSome, IfNone}
use Rattle.std.specs.Str.Parse.{AllDigits}
use Rattle.std.specs.Char.{digit_value}
use Rattle.std.proofs.lemmas.Bool.{and_from, and_parts, cond-false, ne_eqb}
use Rattle.std.proofs.lemmas.Bool.Decides.{nat_tests}
use Rattle.std.proofs.lemmas.Grind.{take_at_read}
use Rattle.std.proofs.lemmas.List.{take_all, take_at, length_push, length-drop}
use Rattle.alto_words.specs.Names.{is_name_character, fold_case, before_mark, after_mark, but_last, without_dot, last_byte, IsFirstMark}

-- no name character is one
digit_character : (c : ℕ) → digit_value c < 10 → is_name_character c ≡ true
digit_character c h = grind (arith, nat_tests)

-- digits are name characters
pub characters-digits : (base : ℕ) (cs : List ℕ) → base ≤ 10 → AllDigits base cs → list_all is_name_character cs ≡ true
characters-digits base [] low all = refl
characters-digits base (c ∷ cs) low all =
    and_from (is_name_character c) (list_all is_name_character cs) (digit_character c (omega (arith, all.0))) (characters-digits base cs low all.1)

no_mark_here : (c : ℕ) → is_name_character c ≡ true → (c == 33) ≡ false
no_mark_here c h = grind (arith, nat_tests)

pub no_mark : (text : List ℕ) → list_all is_name_character text ≡ true → after_mark text ≡ None
no_mark [] all = refl
no_mark (c ∷ text) all =
    let parts = and_parts (is_name_character c) (list_all is_name_character text) all in
    cond-false (c == 33) (Some text) (after_mark text) (no_mark_here c parts.0) ∙ no_mark text parts.1

pub but_last-push : (text : List ℕ) (c : ℕ) → but_last (text ++ c ∷ []) ≡ text
but_last-push text c =
    let long = length_push text c in
    take_at text (c ∷ []) (length (text ++ c ∷ []) - 1) (omega (arith, long))

-- bytes without a mark, and what stands after them
unmarked_front : (c : ℕ) (text rest : List ℕ) → after_mark (c ∷ text) ≡ None → ((c == 33) ≡ false) × (after_mark text ≡ None)
unmarked_front c text rest none = by (c == 33) refl none
  where
    by : (b : Bool) → (c == 33) ≡ b → cond b (Some text) (after_mark text) ≡ None → ((c == 33) ≡ false) × (after_mark text ≡ None)
    by true e h = absurd cc
    by false e h = (e, h)

pub unmarked_after : (text rest : List ℕ) → after_mark text ≡ None → after_mark (text ++ rest) ≡ after_mark rest
unmarked_after [] rest none = refl
unmarked_after (c ∷ text) rest none =
    let h = unmarked_front c text rest none in
    cond-false (c == 33) (Some (text ++ rest)) (after_mark (text ++ rest)) h.0 ∙ unmarked_after text rest h.1

pub unmarked_before : (text rest : List ℕ) → after_mark text ≡ None → before_mark (text ++ rest) ≡ text ++ before_mark rest
unmarked_before [] rest none = refl
unmarked_before (c ∷ text) rest none =
    let h = unmarked_front c text rest none in
    cond-false (c == 33) [] (c ∷ before_mark (text ++ rest)) h.0 ∙ ap (λ l. c ∷ l) (unmarked_before text rest h.1)

pub unmarked_take : (n : ℕ) (text : List ℕ) → after_mark text ≡ None → after_mark (take n text) ≡ None
unmarked_take zero text none = refl
unmarked_take (suc n) [] none = refl
unmarked_take (suc n) (c ∷ text) none =
    let h = unmarked_front c text [] none in
    cond-false (c == 33) (Some (take n text)) (after_mark (take n text)) h.0 ∙ unmarked_take n text h.1

pub before_unmarked : (text : List ℕ) → after_mark (before_mark text) ≡ None
before_unmarked [] = refl
before_unmarked (c ∷ text) = by (c == 33) refl (before_unmarked text)
  where
    by : (b : Bool) → (c == 33) ≡ b → after_mark (before_mark text) ≡ None → after_mark (cond b [] (c ∷ before_mark text)) ≡ None
    by true e rest = refl
    by false e rest = cond-false (c == 33) (Some (before_mark text)) (after_mark (before_mark text)) e ∙ rest

-- a text without its last byte, and without its final `.`
pub unmarked_stem : (text stem : List ℕ) → text ≡ stem ++ 46 ∷ [] → after_mark text ≡ None → after_mark stem ≡ None
unmarked_stem text stem is none = ap after_mark (sym (ap but_last is ∙ but_last-push stem 46)) ∙ unmarked_take (length text - 1) text none

pub unmarked_without : (text : List ℕ) → after_mark text ≡ None → after_mark (without_dot text) ≡ None
unmarked_without text none = by (last_byte text == 46)
  where
    by : (b : Bool) → after_mark (cond b (but_last text) text) ≡ None
    by true = unmarked_take (length text - 1) text none
    by false = none

-- ---- the place of the first one
unmarked_until : (n : ℕ) (text : List ℕ) → AllWithin (λ c. c ≢ 33) text 0 n → after_mark (take n text) ≡ None
unmarked_until zero text others = refl
unmarked_until (suc n) [] others = refl
unmarked_until (suc n) (c ∷ text) others =
    cond-false (c == 33) (Some (take n text)) (after_mark (take n text)) (ne_eqb c 33 (others 0 0 (omega arith) (omega arith)))
    ∙ unmarked_until n text (λ k d least below. others (suc k) d (omega arith) (omega arith))

-- what a search for it finds
abbrev pub IsFound : List ℕ → Option ℕ → Type 0
IsFound text found = MatchOption found (AllWithin (λ c. c ≢ 33) text 0 (length text)) (λ at. (at < length text) × HoldsAt (λ c. c ≡ 33) text at × AllWithin (λ c. c ≢ 33) text 0 at)

pub mark_found : (text : List ℕ) (found : Option ℕ) → IsFound text found → IfSome found (λ at. IsFirstMark text at)
mark_found text None h = tt
mark_found text (Some at) h = record { within = h.0; here = h.1 0; first = unmarked_until at text h.2 }

pub no_mark_found : (text : List ℕ) (found : Option ℕ) → IsFound text found → IfNone found (after_mark text ≡ None)
no_mark_found text None h = ap after_mark (sym (take_all (length text) text (omega arith))) ∙ unmarked_until (length text) text h
no_mark_found text (Some at) h = tt

pub split_marked : (name : List ℕ) (at : ℕ) → at < length name → get_or name at 0 ≡ 33 → name ≡ take at name ++ 33 ∷ drop (at + 1) name
split_marked name at within here =
    sym (take-append-drop (at + 1) name)
    ∙ ap (λ (t : List ℕ). t ++ drop (at + 1) name) (take_at_read name at 0 within).1
    ∙ append_assoc (take at name) (get_or name at 0 ∷ []) (drop (at + 1) name)
    ∙ ap (λ c. take at name ++ c ∷ drop (at + 1) name) here

pub after_marked : (name : List ℕ) (at : ℕ) → IsFirstMark name at → after_mark name ≡ Some (drop (at + 1) name)
after_marked name at mark = ap after_mark (split_marked name at mark.within mark.here) ∙ unmarked_after (take at name) (33 ∷ drop (at + 1) name) mark.first

pub before_marked : (text : List ℕ) (at : ℕ) → IsFirstMark text at → before_mark text ≡ take at text
before_marked text at mark =
    ap before_mark (split_marked text at mark.within mark.here) ∙ unmarked_before (take at text) (33 ∷ drop (at + 1) text) mark.first ∙ append-nil (take at text)

-- all bytes from a place on
pub rest_is : (n : ℕ) (bytes : List ℕ) → take (length bytes - n) (drop n bytes) ≡ drop n bytes
rest_is n bytes = take_all (length bytes - n) (drop n bytes) (omega (arith, length-drop n bytes))

-- what stands after a mark, as a call takes it
pub after_here : (name : List ℕ) (at : ℕ) → IsFirstMark name at → after_mark name ≡ Some (take (length name - (at + 1)) (drop (at + 1) name))
after_here name at mark = after_marked name at mark ∙ ap (λ (t : List ℕ). Some t) (sym (rest_is (at + 1) name))

-- letters in lower case have it where it was
fold_mark : (c : ℕ) → (fold_case c == 33) ≡ (c == 33)
fold_mark c = grind (arith, nat_tests)

pub after_fold : (text : List ℕ) → after_mark (map fold_case text) ≡ option_map (map fold_case) (after_mark text)
after_fold [] = refl
after_fold (c ∷ text) = ap (λ b. cond b (Some (map fold_case text)) (after_mark (map fold_case text))) (fold_mark c) ∙ by (after_fold text) (c == 33)
  where
    by : after_mark (map fold_case text) ≡ option_map (map fold_case) (after_mark text) → (b : Bool) → cond b (Some (map fold_case text)) (after_mark (map fold_case text)) ≡ option_map (map fold_case) (cond b (Some text) (after_mark text))
    by rest true = refl
    by rest false = rest

pub before_fold : (text : List ℕ) → before_mark (map fold_case text) ≡ map fold_case (before_mark text)
before_fold [] = refl
before_fold (c ∷ text) = ap (λ b. cond b [] (fold_case c ∷ before_mark (map fold_case text))) (fold_mark c) ∙ by (before_fold text) (c == 33)
  where
    by : before_mark (map fold_case text) ≡ map fold_case (before_mark text) → (b : Bool) → cond b [] (fold_case c ∷ before_mark (map fold_case text)) ≡ map fold_case (cond b [] (c ∷ before_mark text))
    by rest true = refl
    by rest false = ap (λ l. fold_case c ∷ l) rest
