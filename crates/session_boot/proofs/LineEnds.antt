-- Keys without a line's end, and lines with theirs.
use Rattle.std.proofs.Common.{◌≡◌, ◌≢◌, ℕ, ◌≤◌, List, [], ◌∷◌, ◌++◌, length, take, refl, sym, ◌∙◌, ap, arith, append_assoc, cond}
use Rattle.std.proofs.lemmas.List.{append-nil, length-append}
use Rattle.std.proofs.lemmas.Bool.{ne_eqb}
use Rattle.executive.specs.pack_model.specs.sessions.Lines.{lines, lines_from, ended_lines, ended_from, most_keys, keys_of}
use Rattle.executive.specs.pack_laws.proofs.Lining.{rest_from, lines_split, ended-join}
use Rattle.disk_records.specs.Tapes.{IsUnbroken}

pub unbroken_ended : (line keys : List ℕ) → IsUnbroken keys → ended_from line keys ≡ []
unbroken_ended line [] h = refl
unbroken_ended line (key ∷ keys) h = ended-join line key keys h.0 ∙ unbroken_ended (line ++ key ∷ []) keys h.1

pub unbroken_rest : (line keys : List ℕ) → IsUnbroken keys → rest_from line keys ≡ line ++ keys
unbroken_rest line [] h = sym (append-nil line)
unbroken_rest line (key ∷ keys) h =
    ap (λ b. cond b (rest_from [] keys) (rest_from (line ++ key ∷ []) keys)) (ne_eqb key 10 h.0)
    ∙ unbroken_rest (line ++ key ∷ []) keys h.1
    ∙ append_assoc line (key ∷ []) keys

pub whole_line : (keys : List ℕ) → keys ≢ [] → lines_from keys [] ≡ keys ∷ []
whole_line [] some = absurd (some refl)
whole_line (key ∷ keys) some = refl

-- a line more, with its byte 10
pub keys_of-push : (done : List (List ℕ)) (line : List ℕ) → keys_of (done ++ line ∷ []) ≡ keys_of done ++ (line ++ 10 ∷ [])
keys_of-push [] line = refl
keys_of-push (first ∷ done) line =
    ap (λ l. first ++ 10 ∷ l) (keys_of-push done line)
    ∙ sym (append_assoc first (10 ∷ keys_of done) (line ++ 10 ∷ []))

-- the lines that end are no more than all
pub ended_few : (keys : List ℕ) → length (ended_lines keys) ≤ length (lines keys)
ended_few keys =
    let counted = take most_keys keys in
    let same = ap length (lines_split [] counted) in
    omega (arith, same, length-append (ended_from [] counted) (lines_from (rest_from [] counted) []))
