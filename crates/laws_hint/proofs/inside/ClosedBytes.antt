-- The bytes of DiskDescriptor, where each of its data pages has its value, are those of its words.
use Rattle.std.proofs.Common.{List, [], ap, arith, drop, length, ltb-true, refl, replicate, suc, sym, take, ℕ, ◌*◌, ◌++◌, ◌+◌, ◌-◌, ◌/◌, ◌%◌, ◌<◌, ◌∙◌, ◌∷◌, ◌≡◌, ◌≤◌}
use Rattle.std.proofs.lemmas.List.{append-nil, drop-drop, length-append, length-drop, length-replicate, length-take, take-append-drop, take-append-le, take_all}
use Rattle.laws_line.specs.pack_laws.proofs.Bytes.{length-bytes_of}
use Rattle.laws_line.specs.pack_model.specs.reading.Bytes.{bytes_of}
use Rattle.laws_line.specs.pack_model.specs.operations.PageWords.{filled}
use Rattle.laws_line.specs.pack_model.specs.states.Whole.{IsLaid, PageAt}
use Rattle.laws_line.specs.laws_operation.specs.ByteLaws.{together}
use Rattle.std.proofs.Math.Seq.{take-append-add}

-- the bytes of words, one after another
bytes_of-append : (a b : List ℕ) → bytes_of (a ++ b) ≡ bytes_of a ++ bytes_of b
bytes_of-append [] b = refl
bytes_of-append (w ∷ a) b = ap (λ r. (w / 256) ∷ (w % 256) ∷ r) (bytes_of-append a b)

-- the bytes of words are those of the first 256 and then those of the others
bytes_split : (ws : List ℕ) → bytes_of ws ≡ bytes_of (take 256 ws) ++ bytes_of (drop 256 ws)
bytes_split ws = ap bytes_of (sym (take-append-drop 256 ws)) ∙ bytes_of-append (take 256 ws) (drop 256 ws)

-- the value of data page n, counted from 0, of a file of these words; zeros past its end
abbrev pub page_words : List ℕ → ℕ → List ℕ
page_words text n = filled 256 (take 256 (drop (256 * n) text))

-- pages from page n on, each with some first bytes of its value
abbrev pub Shows : List ℕ → ℕ → List PageAt → Type 0
Shows text n [] = Unit {0}
Shows text n (c ∷ cs) = ((count : ℕ) × (c.1 ≡ take count (bytes_of (page_words text n)))) × Shows text (suc n) cs

-- a page within the words has no zeros
filled_none : (ws : List ℕ) → 256 ≤ length ws → filled 256 (take 256 ws) ≡ take 256 ws
filled_none ws l =
    let size = length-take 256 ws in
    let none : 256 - length (take 256 ws) ≡ 0 = omega arith in
    ap (λ n. take 256 ws ++ replicate n 0) none ∙ append-nil (take 256 ws)

-- the bytes of a full page
full_page : (ws bytes : List ℕ) (count : ℕ) → 256 ≤ length ws → bytes ≡ take count (bytes_of (filled 256 (take 256 ws))) → length bytes ≡ 512 → bytes ≡ bytes_of (take 256 ws)
full_page ws bytes count l is full =
    let z : bytes ≡ take count (bytes_of (take 256 ws)) = is ∙ ap (λ v. take count (bytes_of v)) (filled_none ws l) in
    let words = length-take 256 ws in
    let all = length-bytes_of (take 256 ws) in
    let some = length-take count (bytes_of (take 256 ws)) in
    let same = ap length z in
    z ∙ take_all count (bytes_of (take 256 ws)) (omega arith)

-- and of a page that isn't
last_bytes : (ws bytes : List ℕ) (count : ℕ) → bytes ≡ take count (bytes_of (filled 256 (take 256 ws))) → length bytes < 512 → length bytes ≤ 2 * length ws → bytes ≡ take (length bytes) (bytes_of ws)
last_bytes ws bytes count is short within =
    let front : List ℕ = take 256 ws in
    let zeros : List ℕ = replicate (256 - length front) 0 in
    let words = length-take 256 ws in
    let all = length-bytes_of front in
    let filled_all : length (filled 256 front) ≡ length front + length zeros = length-append front zeros in
    let zeros_all : length zeros ≡ 256 - length front = length-replicate (256 - length front) 0 in
    let value_all = length-bytes_of (filled 256 front) in
    let some = length-take count (bytes_of (filled 256 front)) in
    let same = ap length is in
    let few : count ≡ length bytes = omega arith in
    let low : length bytes ≤ length (bytes_of front) = omega arith in
    is ∙ ap (λ n. take n (bytes_of (filled 256 front))) few
    ∙ ap (take (length bytes)) (bytes_of-append front zeros)
    ∙ take-append-le (length bytes) (bytes_of front) (bytes_of zeros) low
    ∙ sym (take-append-le (length bytes) (bytes_of front) (bytes_of (drop 256 ws)) low)
    ∙ ap (take (length bytes)) (sym (bytes_split ws))

-- the bytes of such pages are a prefix of the words'
pub shown_bytes : (text : List ℕ) (n : ℕ) (cs : List PageAt) → Shows text n cs → IsLaid cs → length (together cs) ≤ 2 * length (drop (256 * n) text) → together cs ≡ take (length (together cs)) (bytes_of (drop (256 * n) text))
shown_bytes text n [] shows laid within = absurd laid
shown_bytes text n (c ∷ []) shows laid within =
    let alone : c.1 ++ [] ≡ c.1 = append-nil c.1 in
    let same : length (c.1 ++ []) ≡ length c.1 = ap length alone in
    let short : length c.1 < 512 = ltb-true (length c.1) 512 laid in
    alone ∙ last_bytes (drop (256 * n) text) c.1 shows.0.0 shows.0.1 short (omega arith) ∙ ap (λ m. take m (bytes_of (drop (256 * n) text))) (sym same)
shown_bytes text n (c ∷ d ∷ cs) shows laid within =
    let ws : List ℕ = drop (256 * n) text in
    let rest : List ℕ = together (d ∷ cs) in
    let size : length (c.1 ++ rest) ≡ length c.1 + length rest = length-append c.1 rest in
    let full : length c.1 ≡ 512 = laid.0 in
    let page : c.1 ≡ bytes_of (take 256 ws) = full_page ws c.1 shows.0.0 (omega arith) shows.0.1 full in
    let z : 256 * n + 256 ≡ 256 * suc n = omega arith in
    let later : drop 256 ws ≡ drop (256 * suc n) text = drop-drop 256 (256 * n) text ∙ ap (λ m. drop m text) z in
    let left = length-drop 256 ws in
    let left_is = ap length later in
    let next : rest ≡ take (length rest) (bytes_of (drop (256 * suc n) text)) = shown_bytes text (suc n) (d ∷ cs) shows.1 laid.1 (omega arith) in
    ap (λ r. c.1 ++ r) (next ∙ ap (λ v. take (length rest) (bytes_of v)) (sym later))
    ∙ sym (take-append-add c.1 (bytes_of (drop 256 ws)) (length rest))
    ∙ ap (λ m. take m (c.1 ++ bytes_of (drop 256 ws))) (sym size)
    ∙ ap (take (length (c.1 ++ rest))) (ap (λ b. b ++ bytes_of (drop 256 ws)) page ∙ sym (bytes_split ws))
