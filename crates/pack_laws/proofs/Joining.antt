-- The bytes of pages in order: what their length says, and what the change of one page makes of them.
use Rattle.std.proofs.Common.{◌≡◌, ℕ, zero, suc, ◌+◌, ◌-◌, ◌*◌, ◌<◌, ◌≤◌, ◌≢◌, Bool, true, false, cond, not, List, [], ◌++◌, length, Option, Some, None, refl, sym, ap, ◌∙◌, arith, append_assoc, ltb-false, inl, inr}
use Rattle.std.proofs.lemmas.Bool.{cases_lt, not-true}
use mathlib.Core.Path.{fun_ext}
use Rattle.std.specs.Prelude.{nat_lt}
use Rattle.std.proofs.lemmas.List.{length-append}
use Rattle.pack_model.specs.reading.Bytes.{put_at}
use Rattle.pack_model.specs.reading.Files.{joined, most_pages}
use Rattle.pack_laws.proofs.Bytes.{length-put_at, put_at-append_left, put_at-append_right}

-- whether there is a page and no room in it
abbrev pub is_full : Option (List ℕ) → Bool
is_full None = false
is_full (Some bytes) = not (nat_lt (length bytes) 512)

-- the bytes of a page, and none where it is missing
abbrev pub content : Option (List ℕ) → List ℕ
content None = []
content (Some bytes) = bytes

-- a page's bytes, and the rest where it is full
abbrev pub continue : Option (List ℕ) → List ℕ → List ℕ
continue None rest = []
continue (Some bytes) rest = cond (nat_lt (length bytes) 512) bytes (bytes ++ rest)

-- after a full page comes the rest
continue_full : (r : Option (List ℕ)) (rest : List ℕ) → is_full r ≡ true → continue r rest ≡ content r ++ rest
continue_full None rest e = cc
continue_full (Some bytes) rest e =
    elim (nat_lt (length bytes) 512) as (λ b. not b ≡ true → cond b bytes (bytes ++ rest) ≡ bytes ++ rest) [ true ↦ λ n. cc | false ↦ λ n. refl ] e

-- its unfolding: the first page, and the pages after it
pub joined-suc : (fuel : ℕ) (pages : ℕ → Option (List ℕ)) → joined (suc fuel) pages ≡ continue (pages 0) (joined fuel (λ n. pages (suc n)))
unfolding joined
joined-suc fuel pages =
    elim (pages 0) as (λ r. elim r [ None ↦ [] | Some bytes ↦ elim (nat_lt (length bytes) 512) [ true ↦ bytes | false ↦ bytes ++ joined fuel (λ n. pages (suc n)) ] ] ≡ continue r (joined fuel (λ n. pages (suc n)))) [
      | None ↦ refl
      | Some bytes ↦ elim (nat_lt (length bytes) 512) as (λ b. elim b [ true ↦ bytes | false ↦ bytes ++ joined fuel (λ n. pages (suc n)) ] ≡ cond b bytes (bytes ++ joined fuel (λ n. pages (suc n)))) [ true ↦ refl | false ↦ refl ]
    ]

-- no pages, no bytes
pub joined-zero : (pages : ℕ → Option (List ℕ)) → joined 0 pages ≡ []
unfolding joined
joined-zero pages = refl

-- the number of pages, as code writes it
pub most_is : most_pages ≡ 65535
unfolding most_pages
most_is = refl

-- ---- pages that are reached
-- all pages before this one are full
pub record Reaches (pages : ℕ → Option (List ℕ)) (k : ℕ) : Type 0 where
  pub full : (j : ℕ) → j < k → is_full (pages j) ≡ true

-- the rest counts only after a full page
continue_same : (r : Option (List ℕ)) (x y : List ℕ) → (is_full r ≡ true → x ≡ y) → continue r x ≡ continue r y
continue_same None x y e = refl
continue_same (Some bytes) x y e =
    elim (nat_lt (length bytes) 512) as (λ b. (not b ≡ true → x ≡ y) → cond b bytes (bytes ++ x) ≡ cond b bytes (bytes ++ y)) [ true ↦ λ h. refl | false ↦ λ h. ap (λ r. bytes ++ r) (h refl) ] e

-- a full first page, and what the pages after it reach
pub Reaches-suc : (pages : ℕ → Option (List ℕ)) (n : ℕ) → is_full (pages 0) ≡ true → Reaches (λ j. pages (suc j)) n → Reaches pages (suc n)
Reaches-suc pages n e r = record { full = λ j. elim j as (λ j. j < suc n → is_full (pages j) ≡ true) [ zero ↦ λ _. e | suc j ↦ λ l. r.full j (omega arith) ] }

-- the first page is reached
pub Reaches-none : (pages : ℕ → Option (List ℕ)) → Reaches pages 0
Reaches-none pages = record { full = λ j l. absurd (omega arith) }

-- one page more is full
pub Reaches-more : (pages : ℕ → Option (List ℕ)) (n : ℕ) → Reaches pages n → is_full (pages n) ≡ true → Reaches pages (suc n)
Reaches-more pages n r e = record { full = λ j l. elim (cases_lt j n) [ inl below ↦ r.full j below | inr past ↦ (let z : j ≡ n = omega arith in ap (λ k. is_full (pages k)) z ∙ e) ] }

-- pages with the same bytes as far as they are reached
pub joined_frame : (fuel : ℕ) (p q : ℕ → Option (List ℕ)) → ((n : ℕ) → Reaches p n → p n ≡ q n) → joined fuel p ≡ joined fuel q
unfolding joined
joined_frame zero p q e = refl
joined_frame (suc fuel) p q e =
    rw (joined-suc fuel p, joined-suc fuel q, ← e 0 (Reaches-none p))
    (continue_same (p 0) _ _ (λ f. joined_frame fuel (λ n. p (suc n)) (λ n. q (suc n)) (λ n r. e (suc n) (Reaches-suc p n f r))))

-- the bytes of the first k pages
abbrev pub front : ℕ → (ℕ → Option (List ℕ)) → List ℕ
front zero pages = []
front (suc k) pages = content (pages 0) ++ front k (λ n. pages (suc n))

-- the same first pages have the same bytes
pub front_same : (k : ℕ) (p q : ℕ → Option (List ℕ)) → ((n : ℕ) → n < k → p n ≡ q n) → front k p ≡ front k q
front_same zero p q e = refl
front_same (suc k) p q e = rw (e 0 (omega arith), front_same k (λ n. p (suc n)) (λ n. q (suc n)) (λ n l. e (suc n) (omega arith))) refl

-- the pages from k on
abbrev pub skip : ℕ → (ℕ → Option (List ℕ)) → ℕ → Option (List ℕ)
skip zero pages = pages
skip (suc k) pages = skip k (λ n. pages (suc n))

-- the same later pages are the same
pub skip_same : (k : ℕ) (p q : ℕ → Option (List ℕ)) → ((n : ℕ) → k ≤ n → p n ≡ q n) → skip k p ≡ skip k q
skip_same zero p q e = fun_ext (λ n. e n (omega arith))
skip_same (suc k) p q e = skip_same k (λ n. p (suc n)) (λ n. q (suc n)) (λ n l. e (suc n) (omega arith))

-- the bytes before a page that is reached, and the bytes from it on
pub joined_at : (k fuel : ℕ) (pages : ℕ → Option (List ℕ)) → k < fuel → Reaches pages k
    → joined fuel pages ≡ front k pages ++ continue (pages k) (joined (fuel - suc k) (skip (suc k) pages))
joined_at k zero pages l r = absurd (omega arith)
joined_at zero (suc fuel) pages l r =
    let e : suc fuel - 1 ≡ fuel = omega arith in
    rw e (joined-suc fuel pages)
joined_at (suc k) (suc fuel) pages l r =
    let e : suc fuel - suc (suc k) ≡ fuel - suc k = omega arith in
    rw e (joined-suc fuel pages
    ∙ continue_full (pages 0) _ (r.full 0 (omega arith))
    ∙ ap (λ x. content (pages 0) ++ x) (joined_at k fuel (λ n. pages (suc n)) (omega arith) (record { full = λ j m. r.full (suc j) (omega arith) }))
    ∙ sym (append_assoc (content (pages 0)) (front k (λ n. pages (suc n))) _))

-- one page changes
pub joined_change : (k fuel : ℕ) (p q : ℕ → Option (List ℕ)) → k < fuel → Reaches p k → ((n : ℕ) → n ≢ k → q n ≡ p n)
    → joined fuel q ≡ front k p ++ continue (q k) (joined (fuel - suc k) (skip (suc k) p))
joined_change k fuel p q l r e =
    joined_at k fuel q l (record { full = λ j m. ap is_full (e j (omega arith)) ∙ r.full j m })
    ∙ ap (λ x. x ++ continue (q k) (joined (fuel - suc k) (skip (suc k) q))) (front_same k q p (λ n m. e n (omega arith)))
    ∙ ap (λ g. front k p ++ continue (q k) (joined (fuel - suc k) g)) (skip_same (suc k) q p (λ n m. e n (omega arith)))

-- ---- what the length says, where no page has more than 512 bytes
pub record AreShort (pages : ℕ → Option (List ℕ)) : Type 0 where
  pub short : (n : ℕ) (bytes : List ℕ) → pages n ≡ Some bytes → length bytes ≤ 512

-- the pages after the first
abbrev pub next_pages : (ℕ → Option (List ℕ)) → ℕ → Option (List ℕ)
next_pages pages n = pages (suc n)

-- they are short too
pub short_next : (pages : ℕ → Option (List ℕ)) → AreShort pages → AreShort (next_pages pages)
short_next pages h = record { short = λ n. h.short (suc n) }

-- a full page has 512 bytes
full_size : (p : Option (List ℕ)) → ((bytes : List ℕ) → p ≡ Some bytes → length bytes ≤ 512) → is_full p ≡ true → length (content p) ≡ 512
full_size None short e = cc
full_size (Some bytes) short e = let most = short bytes refl in let least = ltb-false (length bytes) 512 (not-true (nat_lt (length bytes) 512) e) in omega arith

-- full pages have 512 bytes each
pub length-front : (k : ℕ) (pages : ℕ → Option (List ℕ)) → AreShort pages → Reaches pages k → length (front k pages) ≡ 512 * k
length-front zero pages short r = refl
length-front (suc k) pages short r =
    let here : length (content (pages 0)) ≡ 512 = full_size (pages 0) (short.short 0) (r.full 0 (omega arith)) in
    let rest : length (front k (next_pages pages)) ≡ 512 * k = length-front k (next_pages pages) (short_next pages short) (record { full = λ j l. r.full (suc j) (omega arith) }) in
    length-append (content (pages 0)) (front k (next_pages pages)) ∙ (omega arith)

-- a page that is reached ends within the length, and one that isn't full at its end
pub length-joined : (fuel : ℕ) (pages : ℕ → Option (List ℕ)) (k : ℕ) (bytes : List ℕ) → AreShort pages → k < fuel → Reaches pages k → pages k ≡ Some bytes
    → (512 * k + length bytes ≤ length (joined fuel pages)) × (length bytes < 512 → length (joined fuel pages) ≡ 512 * k + length bytes)
length-joined fuel pages k bytes short l r e = by (nat_lt (length bytes) 512) refl
  where
    rest : List ℕ
    rest = joined (fuel - suc k) (skip (suc k) pages)

    all : length (joined fuel pages) ≡ 512 * k + length (continue (Some bytes) rest)
    all = ap length (joined_at k fuel pages l r ∙ ap (λ p. front k pages ++ continue p rest) e)
        ∙ length-append (front k pages) (continue (Some bytes) rest) ∙ ap (λ n. n + length (continue (Some bytes) rest)) (length-front k pages short r)

    by : (t : Bool) → nat_lt (length bytes) 512 ≡ t → (512 * k + length bytes ≤ length (joined fuel pages)) × (length bytes < 512 → length (joined fuel pages) ≡ 512 * k + length bytes)
    by true e = let size : length (continue (Some bytes) rest) ≡ length bytes = ap (λ t. length (cond t bytes (bytes ++ rest))) e in (omega (arith, all), λ s. omega (arith, all))
    by false e =
        let size : length (continue (Some bytes) rest) ≡ length (bytes ++ rest) = ap (λ t. length (cond t bytes (bytes ++ rest))) e in
        let both : length (bytes ++ rest) ≡ length bytes + length rest = length-append bytes rest in
        let full = ltb-false _ _ e in (omega (arith, all), λ s. absurd (omega arith))

-- ---- bytes in place within one page are bytes in place within all
continue_put : (at : ℕ) (new bytes rest : List ℕ) → at + length new ≤ length bytes → continue (Some (put_at at new bytes)) rest ≡ put_at at new (continue (Some bytes) rest)
continue_put at new bytes rest fits =
    ap (λ n. cond (nat_lt n 512) (put_at at new bytes) (put_at at new bytes ++ rest)) (length-put_at at new bytes fits)
    ∙ elim (nat_lt (length bytes) 512) as (λ t. cond t (put_at at new bytes) (put_at at new bytes ++ rest) ≡ put_at at new (cond t bytes (bytes ++ rest))) [
      | true ↦ refl
      | false ↦ sym (put_at-append_left at new bytes rest fits)
    ]

-- page k's bytes are changed from byte r on
pub joined_put : (fuel : ℕ) (p q : ℕ → Option (List ℕ)) (k r : ℕ) (bytes new : List ℕ) → AreShort p → k < fuel → Reaches p k → p k ≡ Some bytes → r + length new ≤ length bytes
    → q k ≡ Some (put_at r new bytes) → ((n : ℕ) → n ≢ k → q n ≡ p n) → joined fuel q ≡ put_at (512 * k + r) new (joined fuel p)
joined_put fuel p q k r bytes new short l reached was fits now others =
    let rest : List ℕ = joined (fuel - suc k) (skip (suc k) p) in
    joined_change k fuel p q l reached others
    ∙ ap (λ x. front k p ++ continue x rest) now
    ∙ ap (λ x. front k p ++ x) (continue_put r new bytes rest fits)
    ∙ sym (put_at-append_right r new (front k p) (continue (Some bytes) rest))
    ∙ ap (λ n. put_at (n + r) new (front k p ++ continue (Some bytes) rest)) (length-front k p short reached)
    ∙ ap (put_at (512 * k + r) new) (ap (λ x. front k p ++ continue x rest) (sym was) ∙ sym (joined_at k fuel p l reached))
