-- Typed bytes as lines.
use Rattle.std.proofs.Common.{◌≡◌, ◌≢◌, ℕ, ◌^◌, ◌==◌, Bool, true, false, cond, List, [], ◌∷◌, ◌++◌, refl, sym, ◌∙◌, ap, arith}
use Rattle.std.proofs.lemmas.Bool.{cond-false}
use Rattle.std.proofs.lemmas.Bool.Decides.{nat_tests}
use Rattle.std.proofs.lemmas.List.{append-nil}
use Rattle.pack_model.specs.sessions.Lines.{lines_from, ended_from, longest_line, most_keys}

-- ---- a key more
-- any other byte joins it, of lines that end
pub ended-join : (line : List ℕ) (key : ℕ) (keys : List ℕ) → key ≢ 10 → ended_from line (key ∷ keys) ≡ ended_from (line ++ key ∷ []) keys
ended-join line key keys other = cond-false (key == 10) (line ∷ ended_from [] keys) (ended_from (line ++ key ∷ []) keys) (grind (arith, nat_tests))

-- ---- keys and then more keys
-- the bytes of the last line, which hasn't ended
abbrev pub rest_from : List ℕ → List ℕ → List ℕ
rest_from line [] = line
rest_from line (key ∷ keys) = cond (key == 10) (rest_from [] keys) (rest_from (line ++ key ∷ []) keys)

-- a key more before two lists of lines that split alike
append_cond : (b : Bool) (line : List ℕ) {first second : List (List ℕ)} (next other : List (List ℕ)) (rest : List ℕ → List (List ℕ)) (one two : List ℕ) → first ≡ next ++ rest one → second ≡ other ++ rest two → cond b (line ∷ first) second ≡ cond b (line ∷ next) other ++ rest (cond b one two)
append_cond true line next other rest one two e f = ap (λ l. line ∷ l) e
append_cond false line next other rest one two e f = f

-- a key more before two rests that split alike
rest_cond : (b : Bool) {first second : List ℕ} (rest : List ℕ → List ℕ) (one two : List ℕ) → first ≡ rest one → second ≡ rest two → cond b first second ≡ rest (cond b one two)
rest_cond true rest one two e f = e
rest_cond false rest one two e f = f

-- the lines of all keys are those that the first keys ended, and then what the others make of the rest
pub lines-append : (line a b : List ℕ) → lines_from line (a ++ b) ≡ ended_from line a ++ lines_from (rest_from line a) b
lines-append line [] b = refl
lines-append line (key ∷ a) b = append_cond (key == 10) line (ended_from [] a) (ended_from (line ++ key ∷ []) a) (λ l. lines_from l b) (rest_from [] a) (rest_from (line ++ key ∷ []) a) (lines-append [] a b) (lines-append (line ++ key ∷ []) a b)

-- the same of lines that end
pub ended-append : (line a b : List ℕ) → ended_from line (a ++ b) ≡ ended_from line a ++ ended_from (rest_from line a) b
ended-append line [] b = refl
ended-append line (key ∷ a) b = append_cond (key == 10) line (ended_from [] a) (ended_from (line ++ key ∷ []) a) (λ l. ended_from l b) (rest_from [] a) (rest_from (line ++ key ∷ []) a) (ended-append [] a b) (ended-append (line ++ key ∷ []) a b)

-- the same of the rest
pub rest-append : (line a b : List ℕ) → rest_from line (a ++ b) ≡ rest_from (rest_from line a) b
rest-append line [] b = refl
rest-append line (key ∷ a) b = rest_cond (key == 10) (λ l. rest_from l b) (rest_from [] a) (rest_from (line ++ key ∷ []) a) (rest-append [] a b) (rest-append (line ++ key ∷ []) a b)

-- the lines are those that end and the rest, where that isn't empty
pub lines_split : (line keys : List ℕ) → lines_from line keys ≡ ended_from line keys ++ lines_from (rest_from line keys) []
lines_split line keys = ap (lines_from line) (sym (append-nil keys)) ∙ lines-append line keys []

-- ---- numbers
-- the number of keys of a session
pub most_keys-is : most_keys ≡ 2 ^ 31
unfolding most_keys
most_keys-is = refl

-- the number of bytes of a line that isn't too long
pub longest_line-is : longest_line ≡ 4096
unfolding longest_line
longest_line-is = refl
