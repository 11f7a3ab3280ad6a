-- Bytes in hex, 32 to a line: whole lines, and the last one.
use Rattle.std.proofs.Common.{◌≡◌, ℕ, zero, suc, ◌*◌, ◌/◌, ◌<◌, ◌≤◌, List, [], ◌∷◌, ◌++◌, length, take, drop, refl, sym, ◌∙◌, ap, arith, append_assoc, length-drop, append-nil}
use Rattle.std.specs.List.{flat_map}
use Rattle.std.specs.Simd.{first_chunks}
use Rattle.std.proofs.lemmas.List.{take_all, drop_all, drop-drop}
use Rattle.alto_words.specs.Numbers.{hex_of}
use Rattle.exec_words.specs.Texts.{hex_lines, line_of}

-- any fuel that is enough gives the same lines
enough : (n m : ℕ) (bytes : List ℕ) → length bytes ≤ n → length bytes ≤ m → hex_lines n bytes ≡ hex_lines m bytes
enough zero zero bytes h k = refl
enough zero (suc m) [] h k = refl
enough zero (suc m) (b ∷ bytes) h k = absurd (omega (arith, h))
enough (suc n) zero [] h k = refl
enough (suc n) zero (b ∷ bytes) h k = absurd (omega (arith, k))
enough (suc n) (suc m) [] h k = refl
enough (suc n) (suc m) (b ∷ bytes) h k =
    ap (λ t. line_of (hex_of (take 32 (b ∷ bytes))) ++ t)
    (enough n m (drop 32 (b ∷ bytes)) (omega (arith, h, length-drop 32 (b ∷ bytes))) (omega (arith, k, length-drop 32 (b ∷ bytes))))

-- the line of 32 bytes
abbrev pub whole_line : List ℕ → List ℕ
whole_line bytes = line_of (hex_of bytes)

-- the line of the first 32 bytes, and those of the rest
abbrev lines_of : List ℕ → List ℕ → List ℕ
lines_of first more = line_of (hex_of first) ++ hex_lines (length more) more

first_line : (rest : List ℕ) → 0 < length rest → hex_lines (length rest) rest ≡ lines_of (take 32 rest) (drop 32 rest)
first_line [] some = absurd (omega (arith, some))
first_line (b ∷ rest) some =
    ap (λ t. line_of (hex_of (take 32 (b ∷ rest))) ++ t)
    (enough (length rest) (length (drop 32 (b ∷ rest))) (drop 32 (b ∷ rest)) (omega (arith, length-drop 32 (b ∷ rest))) (omega arith))

-- whole lines, and those of what is left
whole_lines : (k : ℕ) (bytes : List ℕ) → k * 32 ≤ length bytes
    → flat_map whole_line (first_chunks 32 k bytes) ++ hex_lines (length (drop (k * 32) bytes)) (drop (k * 32) bytes) ≡ hex_lines (length bytes) bytes
whole_lines zero bytes fit = refl
whole_lines (suc k) bytes fit =
    let more = whole_lines k (drop 32 bytes) (omega (arith, fit, length-drop 32 bytes)) in
    let left : drop (suc k * 32) bytes ≡ drop (k * 32) (drop 32 bytes) = ap (λ (n : ℕ). drop n bytes) (omega arith) ∙ sym (drop-drop (k * 32) 32 bytes) in
    ap (λ (l : List ℕ). flat_map whole_line (first_chunks 32 (suc k) bytes) ++ hex_lines (length l) l) left
    ∙ append_assoc (whole_line (take 32 bytes)) (flat_map whole_line (first_chunks 32 k (drop 32 bytes))) (hex_lines (length (drop (k * 32) (drop 32 bytes))) (drop (k * 32) (drop 32 bytes)))
    ∙ ap (λ t. whole_line (take 32 bytes) ++ t) more
    ∙ sym (first_line bytes (omega (arith, fit)))

-- less than a whole line
pub no_line : (rest : List ℕ) → length rest ≡ 0 → hex_lines (length rest) rest ≡ []
no_line [] none = refl
no_line (b ∷ rest) none = absurd (omega arith)

pub last_line : (rest : List ℕ) → length rest < 32 → 0 < length rest → hex_lines (length rest) rest ≡ line_of (hex_of rest)
last_line rest short some =
    first_line rest some
    ∙ (λ i. lines_of (take_all 32 rest (omega (arith, short)) i) (drop_all 32 rest (omega (arith, short)) i))
    ∙ append-nil (line_of (hex_of rest))

-- all lines of bytes: the whole ones have been appended to a text, and what is left has this one or none
pub lines_done : (out old bytes rest last : List ℕ) (lines : List (List ℕ)) (i : ℕ) → length lines ≤ i → out ++ flat_map whole_line (drop i lines) ≡ old ++ flat_map whole_line lines
    → lines ≡ first_chunks 32 (length bytes / 32) bytes → rest ≡ drop (length bytes / 32 * 32) bytes → hex_lines (length rest) rest ≡ last
    → out ++ last ≡ old ++ hex_lines (length bytes) bytes
lines_done out old bytes rest last lines i past kept front back left =
    let none : drop i lines ≡ [] = drop_all i lines past in
    let whole : out ≡ old ++ flat_map whole_line lines = sym (append-nil out) ∙ ap (λ t. out ++ flat_map whole_line t) (sym none) ∙ kept in
    ap (λ t. t ++ last) whole
    ∙ append_assoc old (flat_map whole_line lines) last
    ∙ ap (λ t. old ++ (flat_map whole_line t ++ last)) front
    ∙ ap (λ t. old ++ (flat_map whole_line (first_chunks 32 (length bytes / 32) bytes) ++ t)) (sym left ∙ ap (λ (r : List ℕ). hex_lines (length r) r) back)
    ∙ ap (λ t. old ++ t) (whole_lines (length bytes / 32) bytes (omega arith))
