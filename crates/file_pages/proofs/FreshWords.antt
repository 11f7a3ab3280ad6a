-- The value of a new page, and its label.
use Rattle.std.proofs.Common.{List, ap, arith, drop, length, min, refl, replicate, take, suc, zero, ℕ, ◌*◌, ◌++◌, ◌+◌, ◌-◌, ◌∙◌, ◌∷◌, ◌≡◌, ◌≤◌}
use Rattle.std.proofs.lemmas.List.{drop-replicate, take_min}
use Rattle.disk_records.specs.Labels.{label_of}
use Rattle.disk_records.specs.declared.records.Page.{Page}
use Rattle.pack_model.specs.operations.PageWords.{page_value}
use Rattle.pack_model.specs.reading.Bytes.{bytes_of, put_at, words_of}

zeros : (n m : ℕ) → m ≡ 2 * n → bytes_of (replicate n 0) ≡ replicate m 0
zeros zero zero twice = refl
zeros zero (suc m) twice = absurd (omega (arith, twice))
zeros (suc n) zero twice = absurd (omega (arith, twice))
zeros (suc n) (suc zero) twice = absurd (omega (arith, twice))
zeros (suc n) (suc (suc m)) twice = ap (λ l. 0 ∷ 0 ∷ l) (zeros n m (omega (arith, twice)))

in_front : (bytes : List ℕ) → put_at 0 bytes (replicate 512 0) ≡ bytes ++ replicate (512 - length bytes) 0
in_front bytes = let same : 0 + length bytes ≡ length bytes = omega arith in ap (λ n. bytes ++ drop n (replicate 512 0)) same ∙ ap (λ l. bytes ++ l) (drop-replicate (length bytes) 512 0)

pub new_value : (bytes past words : List ℕ) → words ≡ past → length bytes ≤ 512 → words_of (put_at 0 (bytes ++ bytes_of words) (bytes_of (replicate 256 0))) ≡ page_value bytes past
new_value bytes past words same few =
    ap (λ l. words_of (put_at 0 (bytes ++ bytes_of l) (bytes_of (replicate 256 0)))) same ∙ ap (λ l. words_of (put_at 0 (bytes ++ bytes_of past) l)) (zeros 256 512 refl) ∙ ap words_of (in_front (bytes ++ bytes_of past))

-- the same label
pub same_label : {page page2 : Page} {count count2 next next2 real real2 : ℕ} (label : List ℕ) → label ≡ label_of page count next real → page ≡ page2 → count ≡ count2 → next ≡ next2 → real ≡ real2 → label ≡ label_of page2 count2 next2 real2
same_label label is a b c d = is ∙ (λ i. label_of (a i) (b i) (c i) (d i))

-- the first bytes, as many as go into a page
pub first_of_page : (count : ℕ) (bytes : List ℕ) → count ≡ min 512 (length bytes) → take count bytes ≡ take 512 bytes
first_of_page count bytes is = ap (λ n. take n bytes) is ∙ take_min 512 bytes
