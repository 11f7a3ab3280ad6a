-- The bytes of DiskDescriptor's pages, as formatting writes them.
use Rattle.std.proofs.Common.{◌≡◌, ℕ, zero, suc, ◌+◌, ◌-◌, ◌*◌, ◌/◌, ◌%◌, ◌<◌, ◌≤◌, Bool, List, [], ◌∷◌, ◌++◌, length, take, drop, min, refl, sym, ap, subst, ◌∙◌, arith, replicate}
use Rattle.std.proofs.lemmas.List.{append-nil, drop-drop, length-append, length-drop, length-replicate, length-take, take-append-drop, take-append-le, take_all}
use Rattle.laws_hint.specs.disk_records.specs.declared.shape.Shape.{Shape}
use Rattle.laws_hint.specs.disk_records.specs.Addresses.{table_words, descriptor_length}
use Rattle.laws_hint.specs.pack_model.specs.hints.Tables.{words_of_bits}
use Rattle.laws_hint.specs.pack_model.specs.reading.Bytes.{bytes_of}
use Rattle.laws_hint.specs.pack_model.specs.operations.PageWords.{filled}
use Rattle.laws_hint.specs.pack_model.specs.states.Sound.{mark_clean}
use Rattle.laws_hint.specs.pack_model.specs.sessions.Descriptor.{data_pages, descriptor_text, descriptor_value}
use Rattle.laws_hint.specs.pack_model.specs.sessions.Format.{format_table}
use Rattle.laws_hint.specs.pack_laws.proofs.Bytes.{length-bytes_of}
use Rattle.laws_hint.specs.laws_operation.specs.ByteLaws.{together}
use Rattle.laws_hint.specs.pack_model.specs.states.Whole.{IsLaid}
use Rattle.laws_format.proofs.inside.Shown.{its_laid, its_pages}

-- ---- bytes of words
-- one after another
bytes_of-append : (a b : List ℕ) → bytes_of (a ++ b) ≡ bytes_of a ++ bytes_of b
bytes_of-append [] b = refl
bytes_of-append (w ∷ a) b = ap (λ r. (w / 256) ∷ (w % 256) ∷ r) (bytes_of-append a b)

-- of the first 256 words and then of the others
bytes_split : (ws : List ℕ) → bytes_of ws ≡ bytes_of (take 256 ws) ++ bytes_of (drop 256 ws)
bytes_split ws = ap bytes_of (sym (take-append-drop 256 ws)) ∙ bytes_of-append (take 256 ws) (drop 256 ws)

-- the value of a page of these words, with zeros after them
abbrev value_of : List ℕ → List ℕ
value_of ws = filled 256 (take 256 ws)

length-value_of : (ws : List ℕ) → length (value_of ws) ≡ 256
length-value_of ws =
    let zeros : List ℕ = replicate (256 - length (take 256 ws)) 0 in
    let size = length-take 256 ws in
    let rest : length zeros ≡ 256 - length (take 256 ws) = length-replicate (256 - length (take 256 ws)) 0 in
    let all : length (value_of ws) ≡ length (take 256 ws) + length zeros = length-append (take 256 ws) zeros in
    omega arith

-- the bytes of a full page
full_page : (ws : List ℕ) → 256 ≤ length ws → take 512 (bytes_of (value_of ws)) ≡ bytes_of (take 256 ws)
full_page ws l =
    let size = length-take 256 ws in
    let none : 256 - length (take 256 ws) ≡ 0 = omega arith in
    let all = length-bytes_of (take 256 ws) in
    ap (λ n. take 512 (bytes_of (take 256 ws ++ replicate n 0))) none
    ∙ ap (λ v. take 512 (bytes_of v)) (append-nil (take 256 ws))
    ∙ take_all 512 (bytes_of (take 256 ws)) (omega arith)

-- and of the last one
last_page : (ws : List ℕ) (count : ℕ) → length ws ≤ 256 → count ≡ 2 * length ws → take count (bytes_of (value_of ws)) ≡ bytes_of ws
last_page ws count l e =
    let front : take 256 ws ≡ ws = take_all 256 ws l in
    let zeros : List ℕ = replicate (256 - length ws) 0 in
    let all = length-bytes_of ws in
    ap (λ v. take count (bytes_of (filled 256 v))) front
    ∙ ap (take count) (bytes_of-append ws zeros)
    ∙ take-append-le count (bytes_of ws) (bytes_of zeros) (omega arith)
    ∙ take_all count (bytes_of ws) (omega arith)

-- ---- pages of any words
-- the counted bytes of page n, counted from 0
abbrev pub counted_page : List ℕ → ℕ → List ℕ
counted_page text n = take (min 512 (2 * length text - 512 * n)) (bytes_of (value_of (drop (256 * n) text)))

length-counted : (text : List ℕ) (n : ℕ) → length (counted_page text n) ≡ min 512 (2 * length text - 512 * n)
length-counted text n =
    let value = length-value_of (drop (256 * n) text) in
    let bytes = length-bytes_of (value_of (drop (256 * n) text)) in
    let some = length-take (min 512 (2 * length text - 512 * n)) (bytes_of (value_of (drop (256 * n) text))) in
    omega arith

pub full_count : (text : List ℕ) (n : ℕ) → 512 * suc n ≤ 2 * length text → length (counted_page text n) ≡ 512
full_count text n l = let size = length-counted text n in omega arith

pub last_count : (text : List ℕ) (n : ℕ) → 2 * length text < 512 * suc n → length (counted_page text n) < 512
last_count text n l = let size = length-counted text n in omega arith

-- pages up to the last hold the words from theirs on
pub pages_together : (text : List ℕ) (n k : ℕ) → 512 * (n + k) ≤ 2 * length text → 2 * length text < 512 * suc (n + k) → together (its_pages (counted_page text) n (suc k)) ≡ bytes_of (drop (256 * n) text)
pages_together text n zero low high =
    let left = length-drop (256 * n) text in
    append-nil (counted_page text n) ∙ last_page (drop (256 * n) text) (min 512 (2 * length text - 512 * n)) (omega arith) (omega arith)
pages_together text n (suc k) low high =
    let left = length-drop (256 * n) text in
    let many : min 512 (2 * length text - 512 * n) ≡ 512 = omega arith in
    let y : 256 + 256 * n ≡ 256 * suc n = omega arith in
    let z : 256 * n + 256 ≡ 256 * suc n = omega arith in
    let here : counted_page text n ≡ bytes_of (take 256 (drop (256 * n) text)) = ap (λ c. take c (bytes_of (value_of (drop (256 * n) text)))) many ∙ full_page (drop (256 * n) text) (omega arith) in
    let later : drop 256 (drop (256 * n) text) ≡ drop (256 * suc n) text = drop-drop 256 (256 * n) text ∙ ap (λ m. drop m text) z in
    let rest : together (its_pages (counted_page text) (suc n) (suc k)) ≡ bytes_of (drop (256 * suc n) text) = pages_together text (suc n) k (omega arith) (omega arith) in
    (λ i. here i ++ rest i) ∙ ap (λ ws. bytes_of (take 256 (drop (256 * n) text)) ++ bytes_of ws) (sym later) ∙ sym (bytes_split (drop (256 * n) text))

-- ---- DiskDescriptor's words
abbrev pub its_text : Shape → List ℕ
its_text shape = descriptor_text shape 2 mark_clean (format_table shape)

-- as many words as are asked for
pub words_many : (n : ℕ) (bits : List Bool) → length (words_of_bits n bits) ≡ n
words_many zero bits = refl
words_many (suc n) bits = ap suc (words_many n (drop 16 bits))

pub text_many : (shape : Shape) → 2 * length (its_text shape) ≡ descriptor_length shape
text_many shape = let map = words_many (table_words shape) (format_table shape) in omega arith

-- the counted bytes of its page n
abbrev pub its_bytes : Shape → ℕ → List ℕ
its_bytes shape n = take (min 512 (descriptor_length shape - 512 * n)) (bytes_of (descriptor_value shape 2 mark_clean (format_table shape) n))

pub bytes_counted : (shape : Shape) (n : ℕ) → its_bytes shape n ≡ counted_page (its_text shape) n
bytes_counted shape n = ap (λ l. take (min 512 (l - 512 * n)) (bytes_of (descriptor_value shape 2 mark_clean (format_table shape) n))) (sym (text_many shape))

-- ---- DiskDescriptor's pages
-- they lie as those of a whole file
pub pages_laid : (shape : Shape) → IsLaid (its_pages (its_bytes shape) 0 (data_pages shape))
pages_laid shape =
    let size = text_many shape in
    its_laid (its_bytes shape) 0 (descriptor_length shape / 512)
    (λ j low. ap length (bytes_counted shape j) ∙ full_count (its_text shape) j (omega arith))
    (subst (λ bytes. length bytes < 512) (sym (bytes_counted shape (0 + descriptor_length shape / 512))) (last_count (its_text shape) (0 + descriptor_length shape / 512) (omega arith)))

-- and hold its words
pub pages_hold_text : (shape : Shape) → together (its_pages (its_bytes shape) 0 (data_pages shape)) ≡ bytes_of (its_text shape)
pages_hold_text shape =
    let size = text_many shape in
    ap (λ b. together (its_pages b 0 (data_pages shape))) (λ i n. bytes_counted shape n i)
    ∙ pages_together (its_text shape) 0 (descriptor_length shape / 512) (omega arith) (omega arith)

-- all but the last count 512 bytes, and the last counts fewer
pub page_is_full : (shape : Shape) (j : ℕ) → suc j < data_pages shape → length (its_bytes shape j) ≡ 512
page_is_full shape j low = let size = text_many shape in ap length (bytes_counted shape j) ∙ full_count (its_text shape) j (omega arith)

pub page_is_last : (shape : Shape) (j : ℕ) → suc j ≡ data_pages shape → length (its_bytes shape j) < 512
page_is_last shape j e = let size = text_many shape in subst (λ bytes. length bytes < 512) (sym (bytes_counted shape j)) (last_count (its_text shape) j (omega arith))
