-- The name that bytes spell: as many characters as the first of them says.
use Rattle.std.proofs.Common.{◌≡◌, ℕ, ◌<◌, ◌≤◌, Bool, true, false, cond, List, length, drop, Option, Some, None, ap, ◌∙◌, arith, min}
use Rattle.std.specs.Prelude.{◌==◌, ◌&&◌}
use Rattle.std.proofs.lemmas.List.{length-take, length-drop}
use Rattle.std.proofs.lemmas.Bool.{eq-eqb}
use Rattle.std.proofs.lemmas.Bool.Decides.{nat_tests}
use Rattle.alto_words.specs.Names.{is_stored_name, stored_in}
use Rattle.disk_records.specs.Words.{word}
use Rattle.pack_model.specs.reading.Leaders.{name_bytes, spelled_name, is_readable}

-- the answer to words: the name that they spell, if it is a stored one
abbrev pub spelled : List ℕ → Option (List ℕ)
spelled words = cond (is_readable words) (Some (spelled_name words)) None

-- how much is spelled
length-spelled : (words : List ℕ) → length (name_bytes words) ≡ 40 → length (spelled_name words) ≡ min (word (name_bytes words) 0) 39
length-spelled words room =
    let rest : length (drop 1 (name_bytes words)) ≡ 39 = length-drop 1 (name_bytes words) ∙ omega (arith, room) in
    length-take (word (name_bytes words) 0) (drop 1 (name_bytes words)) ∙ ap (min (word (name_bytes words) 0)) rest

-- a length byte that asks for more than there is
pub spelled-too_long : (words : List ℕ) → length (name_bytes words) ≡ 40 → 39 < word (name_bytes words) 0 → spelled words ≡ None
unfolding is_readable
spelled-too_long words room long =
    let size = length-spelled words room in
    let n = word (name_bytes words) 0 in
    let differs : (length (spelled_name words) == n) ≡ false = grind (arith, nat_tests) in
    ap (λ (t : Bool). cond (t && is_stored_name (spelled_name words)) (Some (spelled_name words)) None) differs

-- a length byte that asks for what is there
pub spelled-whole : (words : List ℕ) → length (name_bytes words) ≡ 40 → word (name_bytes words) 0 ≤ 39 → spelled words ≡ stored_in (spelled_name words)
unfolding is_readable
spelled-whole words room short =
    let size = length-spelled words room in
    let same : (length (spelled_name words) == word (name_bytes words) 0) ≡ true = eq-eqb _ _ (omega (arith, size, short)) in
    ap (λ (t : Bool). cond (t && is_stored_name (spelled_name words)) (Some (spelled_name words)) None) same
