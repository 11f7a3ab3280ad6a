-- The words of a cache: where an entry's stand, and what reads them back.
use Rattle.std.proofs.Common.{◌≡◌, ℕ, zero, suc, ◌+◌, ◌-◌, ◌*◌, ◌<◌, ◌≤◌, min, not, List, [], ◌∷◌, ◌++◌, length, take, drop, get_or, replicate, refl, sym, ◌∙◌, ap, arith, length-take, length-drop}
use Rattle.std.specs.Prelude.{map, slice_set}
use Rattle.std.specs.List.{flat_map, range_with_len}
use Rattle.std.proofs.lemmas.List.{get_or_append_left, take-append-drop, set-append_right, take_more, drop-replicate, drop-drop, drop_more, take_at, drop_at, flat_map_more, get_or-append-add, same_lists, take_all}
use Rattle.std.proofs.lemmas.List.FromFn.{get_or-map-range_with_len, length-map-range_with_len}
use Rattle.std.proofs.Math.ListN.{get_or-map}
use Rattle.disk_records.specs.declared.records.Page.{Page}
use Rattle.hint_cache.specs.declared.cache.Entry.{Entry}
use Rattle.hint_cache.specs.Caches.{Cached, IsCacheList, is_page, without, noted, entry_of, entries_of}
use Rattle.hint_cache.specs.Words.{entry_words, cache_words, entry_in, entries_in, first_of_each, cache_in}
use Rattle.hint_cache.proofs.Keys.{pairs_tail, heads_page, all_others}
use Rattle.hint_cache.proofs.Listing.{length-filter-le}

-- ---- five words that are set
set_after : (before rest : List ℕ) (n k i y : ℕ) → length before ≡ n → n + k ≡ i → slice_set (before ++ rest) i y ≡ before ++ slice_set rest k y
set_after before rest n k i y long at = set-append_right before rest n i y long (omega (arith, at)) ∙ ap (λ (m : ℕ). before ++ slice_set rest m y) (omega (arith, at))

five_set : (before rest : List ℕ) (n a b c d e : ℕ) → length before ≡ n → 5 ≤ length rest → slice_set (slice_set (slice_set (slice_set (slice_set (before ++ rest) n a) (n + 1) b) (n + 2) c) (n + 3) d) (n + 4) e ≡ before ++ a ∷ b ∷ c ∷ d ∷ e ∷ drop 5 rest
five_set before [] n a b c d e long most = absurd (omega (arith, most))
five_set before (s ∷ []) n a b c d e long most = absurd (omega (arith, most))
five_set before (s ∷ t ∷ []) n a b c d e long most = absurd (omega (arith, most))
five_set before (s ∷ t ∷ u ∷ []) n a b c d e long most = absurd (omega (arith, most))
five_set before (s ∷ t ∷ u ∷ v ∷ []) n a b c d e long most = absurd (omega (arith, most))
five_set before (s ∷ t ∷ u ∷ v ∷ w ∷ rest) n a b c d e long most =
    ap (λ l. slice_set (slice_set (slice_set (slice_set l (n + 1) b) (n + 2) c) (n + 3) d) (n + 4) e) (set_after before (s ∷ t ∷ u ∷ v ∷ w ∷ rest) n 0 n a long (omega arith))
    ∙ ap (λ l. slice_set (slice_set (slice_set l (n + 2) c) (n + 3) d) (n + 4) e) (set_after before (a ∷ t ∷ u ∷ v ∷ w ∷ rest) n 1 (n + 1) b long refl)
    ∙ ap (λ l. slice_set (slice_set l (n + 3) d) (n + 4) e) (set_after before (a ∷ b ∷ u ∷ v ∷ w ∷ rest) n 2 (n + 2) c long refl)
    ∙ ap (λ l. slice_set l (n + 4) e) (set_after before (a ∷ b ∷ c ∷ v ∷ w ∷ rest) n 3 (n + 3) d long refl)
    ∙ set_after before (a ∷ b ∷ c ∷ d ∷ w ∷ rest) n 4 (n + 4) e long refl

pub five_put : (words : List ℕ) (index a b c d e : ℕ) → 5 * index + 6 ≤ length words → slice_set (slice_set (slice_set (slice_set (slice_set words (5 * index + 1) a) (5 * index + 1 + 1) b) (5 * index + 1 + 2) c) (5 * index + 1 + 3) d) (5 * index + 1 + 4) e ≡ take (5 * index + 1) words ++ a ∷ b ∷ c ∷ d ∷ e ∷ drop (5 * index + 6) words
five_put words index a b c d e fits =
    let n = 5 * index + 1 in
    let long : length (take n words) ≡ n = length-take n words ∙ omega (arith, fits) in
    let rest = length-drop n words in
    ap (λ l. slice_set (slice_set (slice_set (slice_set (slice_set l n a) (n + 1) b) (n + 2) c) (n + 3) d) (n + 4) e) (sym (take-append-drop n words))
    ∙ five_set (take n words) (drop n words) n a b c d e long (omega (arith, fits, rest))
    ∙ ap (λ l. take n words ++ a ∷ b ∷ c ∷ d ∷ e ∷ l) (drop-drop 5 n words ∙ ap (λ (m : ℕ). drop m words) (omega arith))

-- ---- the words of one entry more
length_flat : (entries : List Entry) → length (flat_map entry_words entries) ≡ 5 * length entries
length_flat [] = refl
length_flat (x ∷ xs) = omega (arith, length_flat xs)

pub put_more : (words : List ℕ) (entries : List Entry) (n i : ℕ) (e : Entry) → i < length entries → length entries ≤ 48 → e ≡ get_or entries i e → words ≡ n ∷ flat_map entry_words (take i entries) ++ replicate (240 - 5 * i) 0
    → take (5 * i + 1) words ++ entry_words e ++ drop (5 * i + 6) words ≡ n ∷ flat_map entry_words (take (i + 1) entries) ++ replicate (240 - 5 * (i + 1)) 0
put_more words entries n i e within few here is =
    let front : List ℕ = n ∷ flat_map entry_words (take i entries) in
    let zeros : List ℕ = replicate (240 - 5 * i) 0 in
    let left : List ℕ = replicate (240 - 5 * (i + 1)) 0 in
    let long : length front ≡ 5 * i + 1 = omega (arith, length_flat (take i entries), length-take i entries) in
    let before : take (5 * i + 1) words ≡ front = ap (take (5 * i + 1)) is ∙ take_at front zeros (5 * i + 1) long in
    let after : drop (5 * i + 6) words ≡ left =
    ap (λ (m : ℕ). drop m words) (omega arith) ∙ sym (drop-drop 5 (5 * i + 1) words)
    ∙ ap (drop 5) (ap (drop (5 * i + 1)) is ∙ drop_at front zeros (5 * i + 1) long)
    ∙ drop-replicate 5 (240 - 5 * i) 0 ∙ ap (λ (m : ℕ). replicate m 0) (omega arith) in
    (λ j. before j ++ entry_words e ++ after j)
    ∙ ap (λ l. l ++ left) (flat_map_more entry_words (n ∷ []) (take i entries) e)
    ∙ ap (λ l. (n ∷ flat_map entry_words l) ++ left) (ap (λ x. take i entries ++ x ∷ []) here ∙ sym (take_more entries i e within))

-- ---- read back
word_at : (entries : List Entry) (zeros : List ℕ) (k j : ℕ) (d : Entry) → k < length entries → j < 5 → get_or (flat_map entry_words entries ++ zeros) (5 * k + j) 0 ≡ get_or (entry_words (get_or entries k d)) j 0
word_at [] zeros k j d within five = absurd (omega (arith, within))
word_at (x ∷ xs) zeros zero j d within five = ap (λ (m : ℕ). get_or (flat_map entry_words (x ∷ xs) ++ zeros) m 0) (omega arith) ∙ get_or_append_left (entry_words x) (flat_map entry_words xs ++ zeros) 0 j (omega (arith, five))
word_at (x ∷ xs) zeros (suc k) j d within five =
    ap (λ (m : ℕ). get_or (flat_map entry_words (x ∷ xs) ++ zeros) m 0) (omega arith)
    ∙ get_or-append-add (entry_words x) (flat_map entry_words xs ++ zeros) (5 * k + j) 0
    ∙ word_at xs zeros k j d (omega (arith, within)) five

word_in : (entries : List Entry) (zeros : List ℕ) (n k j i : ℕ) (d : Entry) → k < length entries → j < 5 → suc (5 * k + j) ≡ i → get_or (n ∷ flat_map entry_words entries ++ zeros) i 0 ≡ get_or (entry_words (get_or entries k d)) j 0
word_in entries zeros n k j i d within five at = ap (λ (m : ℕ). get_or (n ∷ flat_map entry_words entries ++ zeros) m 0) (sym at) ∙ word_at entries zeros k j d within five

entry_at : (entries : List Entry) (zeros : List ℕ) (n k : ℕ) (d : Entry) → k < length entries → entry_in (n ∷ flat_map entry_words entries ++ zeros) k ≡ get_or entries k d
entry_at entries zeros n k d within =
    let e = get_or entries k d in
    let words : List ℕ = n ∷ flat_map entry_words entries ++ zeros in
    let high : get_or words (5 * k + 1) 0 ≡ e.page.fid.high = word_in entries zeros n k 0 (5 * k + 1) d within (omega arith) (omega arith) in
    let low : get_or words (5 * k + 2) 0 ≡ e.page.fid.low = word_in entries zeros n k 1 (5 * k + 2) d within (omega arith) (omega arith) in
    let version : get_or words (5 * k + 3) 0 ≡ e.page.fid.version = word_in entries zeros n k 2 (5 * k + 3) d within (omega arith) (omega arith) in
    let number : get_or words (5 * k + 4) 0 ≡ e.page.number = word_in entries zeros n k 3 (5 * k + 4) d within (omega arith) (omega arith) in
    let at : get_or words (5 * k + 5) 0 ≡ e.at = word_in entries zeros n k 4 (5 * k + 5) d within (omega arith) (omega arith) in
    λ i. record { page = record { fid = record { high = high i; low = low i; version = version i }; number = number i }; at = at i }

entries_back : (entries : List Entry) → length entries ≤ 48 → entries_in (cache_words entries) ≡ entries
entries_back entries few =
    let words = cache_words entries in
    let size : min (length entries) 48 ≡ length entries = omega (arith, few) in
    let zeros : List ℕ = replicate (240 - 5 * length entries) 0 in
    ap (λ (m : ℕ). map (entry_in words) (range_with_len 0 m)) size
    ∙ same_lists (map (entry_in words) (range_with_len 0 (length entries))) entries (length-map-range_with_len (entry_in words) 0 (length entries)) (λ k d within.
    let inside : k < length entries = omega (arith, within, length-map-range_with_len (entry_in words) 0 (length entries)) in
    get_or-map-range_with_len (entry_in words) 0 (length entries) k k d inside (omega arith) ∙ entry_at entries zeros (length entries) k d inside)

firsts_all : (entries : List Entry) → IsCacheList entries → first_of_each entries ≡ entries
firsts_all [] h = refl
firsts_all (x ∷ xs) h = ap (λ l. x ∷ without x.page l) (firsts_all xs (pairs_tail x xs h)) ∙ ap (λ l. x ∷ l) (all_others x.page xs (heads_page x xs h))

pub read_back : (entries : List Entry) → IsCacheList entries → cache_in (cache_words entries) ≡ entries
read_back entries h = ap first_of_each (entries_back entries h.few) ∙ firsts_all entries h

-- ---- from the last entry to the first
length_firsts : (entries : List Entry) → length (first_of_each entries) ≤ length entries
length_firsts [] = omega arith
length_firsts (x ∷ xs) = omega (arith, length_firsts xs, length-filter-le (λ (e : Entry). not (is_page e.page x.page)) (first_of_each xs))

pub first_more : (entries : List Entry) (i : ℕ) (e : Entry) → i < length entries → length entries ≤ 48 → e ≡ get_or entries i e → noted e.page e.at (first_of_each (drop (i + 1) entries)) ≡ first_of_each (drop i entries)
first_more entries i e within few here =
    let rest = first_of_each (drop (i + 1) entries) in
    let less = length-filter-le (λ (o : Entry). not (is_page o.page e.page)) rest in
    let short = length_firsts (drop (i + 1) entries) in
    let front : drop i entries ≡ e ∷ drop (i + 1) entries = drop_more entries i e within ∙ ap (λ x. x ∷ drop (i + 1) entries) (sym here) in
    ap (λ l. e ∷ l) (take_all 47 (without e.page rest) (omega (arith, less, short, length-drop (i + 1) entries, few))) ∙ ap first_of_each (sym front)

pub length_entries_in : (words : List ℕ) → length (entries_in words) ≡ min (get_or words 0 0) 48
length_entries_in words = length-map-range_with_len (entry_in words) 0 (min (get_or words 0 0) 48)

pub entry_listed : (words : List ℕ) (i : ℕ) (d : Entry) → i < length (entries_in words) → entry_in words i ≡ get_or (entries_in words) i d
entry_listed words i d within = sym (get_or-map-range_with_len (entry_in words) 0 (min (get_or words 0 0) 48) i i d (omega (arith, within, length_entries_in words)) (omega arith))

-- ---- one call more of `iter` and of `note`
pub listed_next : (pairs : List (Page × ℕ)) (i : ℕ) (x : Page × ℕ) → x ≡ get_or pairs i x → entry_of x ≡ get_or (entries_of pairs) i (entry_of x)
listed_next pairs i x is = ap entry_of is ∙ sym (get_or-map entry_of pairs i x)

pub whole_words : (words : List ℕ) (entries : List Entry) (n : ℕ) → n ≡ length entries → words ≡ length entries ∷ flat_map entry_words (take n entries) ++ replicate (240 - 5 * n) 0 → words ≡ cache_words entries
whole_words words entries n all is =
    is
    ∙ ap (λ (m : ℕ). length entries ∷ flat_map entry_words (take m entries) ++ replicate (240 - 5 * m) 0) all
    ∙ ap (λ l. length entries ∷ flat_map entry_words l ++ replicate (240 - 5 * length entries) 0) (take_all (length entries) entries (omega arith))

pub noted_on : (page : Page) (at : ℕ) (cache : Cached) (rest result : List Entry) → cache ≡ record { entries = rest; refused = 0 } → noted page at rest ≡ result → ◌≡◌ {A = Cached} (record { entries = noted page at cache.entries; refused = cache.refused }) (record { entries = result; refused = 0 })
noted_on page at cache rest result is more =
    let seen : List Entry → ℕ → Cached = λ entries refused. record { entries = entries; refused = refused } in
    ap (λ (k : Cached). seen (noted page at k.entries) k.refused) is ∙ ap (λ (l : List Entry). seen l 0) more

pub nothing_listed : IsCacheList []
nothing_listed = record { few = omega arith; distinct = λ i j d before within. absurd (omega (arith, before, within)) }
