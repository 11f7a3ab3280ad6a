-- Lists of the addresses that pass a test, as of free sectors.
use Rattle.std.proofs.Common.{◌≡◌, ℕ, zero, suc, ◌+◌, ◌-◌, ◌<◌, ◌≤◌, ◌&&◌, min, Bool, true, false, cond, not, List, [], ◌∷◌, ◌++◌, length, take, get_or, refl, sym, ◌∙◌, ap, subst, length-append, arith}
use Rattle.std.specs.Prelude.{filter, All, nat_lt}
use Rattle.std.specs.List.{range_with_len}
use Rattle.std.proofs.lemmas.Bool.Decides.{nat_tests}
use Rattle.std.proofs.lemmas.List.{append-nil, take_at, take_all, take-append-le, length-take, get_or_append_left, get_or_at}
use Rattle.std.proofs.lemmas.List.Elements.{filter-append, filter_passes, All-push, All-take, All-weaker}
use Rattle.disk_records.specs.Addresses.{pages_of}
use Rattle.disk_records.specs.Packs.{Pack, is_free_at}
use Rattle.hint_cache.specs.Bits.{busy_at}
use Rattle.page_alloc.specs.Free.{below, is_offered, is_offered_free, IsTrueTable, IsRising}
use Rattle.page_alloc.specs.Inside.{is_left, listed}

-- ---- the addresses below an end that pass a test
range_with_len-add : (a n m : ℕ) → range_with_len a (n + m) ≡ range_with_len a n ++ range_with_len (a + n) m
range_with_len-add a zero m = let none : 0 + m ≡ m = omega arith in let same : a ≡ a + 0 = omega arith in ap (range_with_len a) none ∙ ap (λ (b : ℕ). range_with_len b m) same
range_with_len-add a (suc n) m =
    let more : suc n + m ≡ suc (n + m) = omega arith in
    let same : a + 1 + n ≡ a + suc n = omega arith in
    ap (range_with_len a) more ∙ ap (λ l. a ∷ l) (range_with_len-add (a + 1) n m ∙ ap (λ (b : ℕ). range_with_len (a + 1) n ++ range_with_len b m) same)

-- those from there on come after them
below-add : (test : ℕ → Bool) (at m : ℕ) → below test (at + m) ≡ below test at ++ filter test (range_with_len (0 + at) m)
below-add test at m = ap (filter test) (range_with_len-add 0 at m) ∙ filter-append test (range_with_len 0 at) (range_with_len (0 + at) m)

-- one address more
pub below-more : (test : ℕ → Bool) (at : ℕ) → below test (at + 1) ≡ below test at ++ cond (test at) (at ∷ []) []
below-more test at = let plain : 0 + at ≡ at = omega arith in below-add test at 1 ∙ ap (λ (b : ℕ). below test at ++ filter test (range_with_len b 1)) plain

-- addresses that don't pass are passed over
below_passed : (test : ℕ → Bool) (from n : ℕ) → ((k : ℕ) → from ≤ k → k < from + n → test k ≡ false) → below test (from + n) ≡ below test from
below_passed test from zero h = let same : from + 0 ≡ from = omega arith in ap (below test) same
below_passed test from (suc n) h =
    let one : from + suc n ≡ from + n + 1 = omega arith in
    ap (below test) one ∙ below-more test (from + n) ∙ ap (λ b. below test (from + n) ++ cond b ((from + n) ∷ []) []) (h (from + n) (omega arith) (omega arith)) ∙ append-nil (below test (from + n)) ∙ below_passed test from n (λ k later before. h k later (omega arith))

pub below_passed_over : (test : ℕ → Bool) (from at : ℕ) → from ≤ at → ((k : ℕ) → from ≤ k → k < at → test k ≡ false) → below test at ≡ below test from
below_passed_over test from at low h = let there : from + (at - from) ≡ at = omega arith in ap (below test) (sym there) ∙ below_passed test from (at - from) (λ k later before. h k later (omega arith))

pub length-below-le : (test : ℕ → Bool) (at end : ℕ) → at ≤ end → length (below test at) ≤ length (below test end)
length-below-le test at end h =
    let rest : at + (end - at) ≡ end = omega arith in
    let all = ap length (ap (below test) (sym rest) ∙ below-add test at (end - at)) ∙ length-append (below test at) (filter test (range_with_len (0 + at) (end - at))) in
    omega (arith, all)

-- the lowest are those below an address, where these are as many as are wanted
pub take-below : (test : ℕ → Bool) (wanted at end : ℕ) → at ≤ end → length (below test at) ≡ wanted → take wanted (below test end) ≡ below test at
take-below test wanted at end h long =
    let rest : at + (end - at) ≡ end = omega arith in
    ap (take wanted) (ap (below test) (sym rest) ∙ below-add test at (end - at)) ∙ take_at (below test at) (filter test (range_with_len (0 + at) (end - at))) wanted long

-- tests that agree below an end
below_agree : (s t : ℕ → Bool) (end : ℕ) → ((k : ℕ) → k < end → s k ≡ t k) → below s end ≡ below t end
below_agree s t zero h = refl
below_agree s t (suc n) h =
    let one : n + 1 ≡ suc n = omega arith in
    let so_far = below_agree s t n (λ k low. h k (omega arith)) in
    ap (below s) (sym one) ∙ below-more s n ∙ ap (λ l. l ++ cond (s n) (n ∷ []) []) so_far ∙ ap (λ b. below t n ++ cond b (n ∷ []) []) (h n (omega arith)) ∙ sym (below-more t n) ∙ ap (below t) one

pub taken_are_free : (p : Pack) (wanted end : ℕ) (found : List ℕ) → found ≡ take wanted (below (is_free_at p) end) → All (λ at. is_free_at p at ≡ true) found
taken_are_free p wanted end found is = subst (All (λ at. is_free_at p at ≡ true)) (sym is) (All-take (λ at. is_free_at p at ≡ true) wanted (below (is_free_at p) end) (filter_passes (is_free_at p) (range_with_len 0 end)))

pub offers_are_free : (p : Pack) (bits : List Bool) (wanted end : ℕ) (found : List ℕ) → found ≡ take wanted (below (is_offered_free p bits) end) → All (λ at. is_free_at p at ≡ true) found
offers_are_free p bits wanted end found is =
    let both = All-take (λ at. is_offered_free p bits at ≡ true) wanted (below (is_offered_free p bits) end) (filter_passes (is_offered_free p bits) (range_with_len 0 end)) in
    subst (All (λ at. is_free_at p at ≡ true)) (sym is) (All-weaker (λ at. is_offered_free p bits at ≡ true) (λ at. is_free_at p at ≡ true) (λ at. first (is_free_at p at) (not (busy_at bits at))) (take wanted (below (is_offered_free p bits) end)) both)
  where
    first : (a b : Bool) → a && b ≡ true → a ≡ true
    first true b h = refl
    first false b h = h

-- ---- a list that one sector more may be appended to
length-one : (at : ℕ) (free : Bool) → length (cond free (at ∷ []) []) ≡ cond free 1 0
length-one at true = refl
length-one at false = refl

pub length-more : (xs : List ℕ) (at : ℕ) (free : Bool) → length (xs ++ cond free (at ∷ []) []) ≡ length xs + cond free 1 0
length-more xs at free = length-append xs (cond free (at ∷ []) []) ∙ ap (λ (n : ℕ). length xs + n) (length-one at free)

pub length-below-more : (test : ℕ → Bool) (at : ℕ) → length (below test (at + 1)) ≡ length (below test at) + cond (test at) 1 0
length-below-more test at = ap length (below-more test at) ∙ length-more (below test at) at (test at)

pub most_one : (free : Bool) → cond free 1 0 ≤ 1
most_one true = omega arith
most_one false = omega arith

pub count_more : (test : ℕ → Bool) (at count : ℕ) (passes : Bool) → count ≡ length (below test at) → passes ≡ test at → count + cond passes 1 0 ≡ length (below test (at + 1))
count_more test at count passes so_far is = ap (λ (n : ℕ). n + cond passes 1 0) so_far ∙ ap (λ b. length (below test at) + cond b 1 0) is ∙ sym (length-below-more test at)

-- where fewer are listed than are wanted
pub listed_short : (wanted at : ℕ) (free : Bool) (xs ys : List ℕ) → length xs < wanted → ys ≡ listed wanted at free xs → ys ≡ xs ++ cond free (at ∷ []) []
listed_short wanted at true xs ys h is = let room : listed wanted at true xs ≡ xs ++ at ∷ [] = grind (arith, nat_tests) in is ∙ room
listed_short wanted at false xs ys h is = is ∙ sym (append-nil xs)

pub lt-test : (m n : ℕ) → nat_lt m n ≡ true → m < n
lt-test m n e = grind (arith, nat_tests)

pub le-test : (m n : ℕ) → nat_lt m n ≡ false → n ≤ m
le-test m n e = grind (arith, nat_tests)

take-push : (wanted at : ℕ) (xs all : List ℕ) (room : Bool) → xs ≡ take wanted all → nat_lt (length xs) wanted ≡ room → cond room (xs ++ at ∷ []) xs ≡ take wanted (all ++ at ∷ [])
take-push wanted at xs all true is room =
    let few = lt-test (length xs) wanted room in
    let long = ap length is ∙ length-take wanted all in
    let more = length-append all (at ∷ []) in
    let whole : xs ≡ all = is ∙ take_all wanted all (omega (arith, few, long)) in
    ap (λ l. l ++ at ∷ []) whole ∙ sym (take_all wanted (all ++ at ∷ []) (omega (arith, few, long, more)))
take-push wanted at xs all false is room =
    let many = le-test (length xs) wanted room in
    let long = ap length is ∙ length-take wanted all in
    is ∙ sym (take-append-le wanted all (at ∷ []) (omega (arith, many, long)))

-- the list holds as many of the sectors so far as are wanted
pub listed-take : (wanted at : ℕ) (free : Bool) (xs all : List ℕ) → xs ≡ take wanted all → listed wanted at free xs ≡ take wanted (all ++ cond free (at ∷ []) [])
listed-take wanted at true xs all is = take-push wanted at xs all (nat_lt (length xs) wanted) is refl
listed-take wanted at false xs all is = is ∙ ap (take wanted) (sym (append-nil all))

pub rising_within : (at end : ℕ) (xs : List ℕ) → at ≤ end → IsRising at xs → IsRising end xs
rising_within at end xs h r = record { rising = r.rising; within = λ k d in'. ((r.within k d in').0, let w = (r.within k d in').1 in omega (arith, w)) }

next_higher : (at : ℕ) (xs : List ℕ) (k : ℕ) (inner : Bool) → IsRising at xs → k + 1 < length xs + 1 → nat_lt (k + 1) (length xs) ≡ inner → get_or (xs ++ at ∷ []) k 0 < get_or (xs ++ at ∷ []) (k + 1) 0
next_higher at xs k true r h inner =
    let low = lt-test (k + 1) (length xs) inner in
    let a = get_or_append_left xs (at ∷ []) 0 k (omega arith) in
    let b = get_or_append_left xs (at ∷ []) 0 (k + 1) low in
    let rises = r.rising k low in
    omega (arith, a, b, rises)
next_higher at xs k false r h inner =
    let high = le-test (k + 1) (length xs) inner in
    let a = get_or_append_left xs (at ∷ []) 0 k (omega arith) in
    let b = get_or_at xs at [] 0 (k + 1) (omega arith) in
    let below = (r.within k 0 (omega arith)).1 in
    omega (arith, a, b, below)

rising_push : (at : ℕ) (xs : List ℕ) → 1 ≤ at → IsRising at xs → IsRising (at + 1) (xs ++ at ∷ [])
rising_push at xs first r =
    let long = length-append xs (at ∷ []) in
    record {
      rising = λ k h. next_higher at xs k (nat_lt (k + 1) (length xs)) r (omega (arith, long)) refl;
      within = All-push (λ k. (1 ≤ k) × (k < at + 1)) xs at (rising_within at (at + 1) xs (omega arith) r).within (first, omega arith);
    }

pub rising_listed : (wanted at : ℕ) (free : Bool) (xs : List ℕ) → 1 ≤ at → IsRising at xs → IsRising (at + 1) (listed wanted at free xs)
rising_listed wanted at free xs first r =
    elim (free && nat_lt (length xs) wanted) as (λ b. IsRising (at + 1) (cond b (xs ++ at ∷ []) xs)) [ true ↦ rising_push at xs first r | false ↦ rising_within at (at + 1) xs (omega arith) r ]

-- a list of all that pass so far has this one too
pub all_more : (test : ℕ → Bool) (at : ℕ) (passes : Bool) (xs : List ℕ) → xs ≡ below test at → passes ≡ test at → xs ++ cond passes (at ∷ []) [] ≡ below test (at + 1)
all_more test at passes xs so_far is = ap (λ l. l ++ cond passes (at ∷ []) []) so_far ∙ ap (λ b. below test at ++ cond b (at ∷ []) []) is ∙ sym (below-more test at)

-- and one of as many as are wanted too
pub lowest_more : (test : ℕ → Bool) (wanted at : ℕ) (passes : Bool) (xs : List ℕ) → xs ≡ take wanted (below test at) → passes ≡ test at → listed wanted at passes xs ≡ take wanted (below test (at + 1))
lowest_more test wanted at passes xs so_far is =
    listed-take wanted at passes xs (below test at) so_far ∙ ap (λ b. take wanted (below test at ++ cond b (at ∷ []) [])) is ∙ ap (take wanted) (sym (below-more test at))

-- how many are listed of those counted
pub count_listed : (wanted at count : ℕ) (free : Bool) (xs : List ℕ) → length xs ≡ min wanted count → length (listed wanted at free xs) ≡ min wanted (count + cond free 1 0)
count_listed wanted at count false xs is = is ∙ ap (λ (n : ℕ). min wanted n) (omega arith)
count_listed wanted at count true xs is = by (nat_lt (length xs) wanted) refl
  where
    by : (room : Bool) → nat_lt (length xs) wanted ≡ room → length (cond room (xs ++ at ∷ []) xs) ≡ min wanted (count + 1)
    by true e = let low = lt-test (length xs) wanted e in let more = length-append xs (at ∷ []) in omega (arith, low, more, is)
    by false e = let high = le-test (length xs) wanted e in omega (arith, high, is)

-- ---- a table's offers
pub offer_here : (bits : List Bool) (at : ℕ) → 1 ≤ at → cond {A = ℕ} (busy_at bits at) 0 1 ≡ cond (is_offered bits at) 1 0
offer_here bits zero h = absurd (omega arith)
offer_here bits (suc n) h = by (busy_at bits (suc n))
  where
    by : (busy : Bool) → cond {A = ℕ} busy 0 1 ≡ cond (nat_lt 0 (suc n) && not busy) 1 0
    by true = grind (arith, nat_tests)
    by false = grind (arith, nat_tests)

-- a busy sector isn't offered
unoffered : (test busy : Bool) → busy ≡ true → test && not busy ≡ false
unoffered true busy is = ap not is
unoffered false busy is = refl

pub offers_passed_over : (bits : List Bool) (from at : ℕ) → from ≤ at → ((k : ℕ) → from ≤ k → k < at → busy_at bits k ≡ true) → below (is_offered bits) at ≡ below (is_offered bits) from
offers_passed_over bits from at low busy = below_passed_over (is_offered bits) from at low (λ k later before. unoffered (nat_lt 0 k) (busy_at bits k) (busy k later before))

pub free_passed_over : (p : Pack) (bits : List Bool) (from at : ℕ) → from ≤ at → ((k : ℕ) → from ≤ k → k < at → busy_at bits k ≡ true) → below (is_offered_free p bits) at ≡ below (is_offered_free p bits) from
free_passed_over p bits from at low busy = below_passed_over (is_offered_free p bits) from at low (λ k later before. unoffered (is_free_at p k) (busy_at bits k) (busy k later before))

-- all of those that are offered and free, where no more are offered
pub all_found : (p : Pack) (bits : List Bool) (wanted from end : ℕ) (found : List ℕ) → from ≤ end → ((k : ℕ) → from ≤ k → k < end → busy_at bits k ≡ true) → length found ≤ wanted → found ≡ below (is_offered_free p bits) from → found ≡ take wanted (below (is_offered_free p bits) end)
all_found p bits wanted from end found low busy few is =
    let all = is ∙ sym (free_passed_over p bits from end low busy) in
    let long = ap length all in
    all ∙ sym (take_all wanted (below (is_offered_free p bits) end) (omega (arith, few, long)))

pub left_here : (bits : List Bool) (at : ℕ) → 1 ≤ at → cond {A = ℕ} (busy_at bits at) 1 0 ≡ cond (is_left bits at) 1 0
left_here bits zero h = absurd (omega arith)
left_here bits (suc n) h = by (busy_at bits (suc n))
  where
    by : (busy : Bool) → cond {A = ℕ} busy 1 0 ≡ cond (nat_lt 0 (suc n) && busy) 1 0
    by true = grind (arith, nat_tests)
    by false = grind (arith, nat_tests)

-- each sector but the first is offered or left
pub offered_or_left : (bits : List Bool) (end : ℕ) → length (below (is_offered bits) end) + length (below (is_left bits) end) ≤ end - 1
offered_or_left bits zero = omega arith
offered_or_left bits (suc n) =
    let one : n + 1 ≡ suc n = omega arith in
    let a = ap length (ap (below (is_offered bits)) (sym one)) ∙ length-below-more (is_offered bits) n in
    let b = ap length (ap (below (is_left bits)) (sym one)) ∙ length-below-more (is_left bits) n in
    let so_far = offered_or_left bits n in
    let once = one_of n (busy_at bits n) in
    omega (arith, a, b, so_far, once)
  where
    one_of : (n : ℕ) (busy : Bool) → cond (nat_lt 0 n && not busy) 1 0 + cond (nat_lt 0 n && busy) 1 0 ≤ n - (n - 1)
    one_of zero busy = omega arith
    one_of (suc k) true = grind (arith, nat_tests)
    one_of (suc k) false = grind (arith, nat_tests)

-- of those that are free no more are offered than there are
pub offered_free-le : (p : Pack) (bits : List Bool) (end : ℕ) → length (below (is_offered_free p bits) end) ≤ length (below (is_free_at p) end)
offered_free-le p bits zero = omega arith
offered_free-le p bits (suc n) =
    let one : n + 1 ≡ suc n = omega arith in
    let a = ap length (ap (below (is_offered_free p bits)) (sym one)) ∙ length-below-more (is_offered_free p bits) n in
    let b = ap length (ap (below (is_free_at p)) (sym one)) ∙ length-below-more (is_free_at p) n in
    let so_far = offered_free-le p bits n in
    let less = at_most (is_free_at p n) (not (busy_at bits n)) in
    omega (arith, a, b, so_far, less)
  where
    at_most : (x y : Bool) → cond (x && y) 1 0 ≤ cond x 1 0
    at_most false y = omega arith
    at_most true true = omega arith
    at_most true false = omega arith

-- ---- a true table offers the free sectors, and no others
free_and_free : (free busy : Bool) → busy ≡ not free → free && not busy ≡ free
free_and_free true busy is = ap not is
free_and_free false busy is = refl

pub offers_of_true : (p : Pack) (bits : List Bool) (end : ℕ) → end ≤ pages_of p.shape → IsTrueTable p bits → below (is_offered_free p bits) end ≡ below (is_free_at p) end
offers_of_true p bits end h is_true = below_agree (is_offered_free p bits) (is_free_at p) end (λ k low. free_and_free (is_free_at p k) (busy_at bits k) (is_true k (omega arith)))

pub all_offers_of_true : (p : Pack) (bits : List Bool) (end : ℕ) → end ≤ pages_of p.shape → IsTrueTable p bits → below (is_offered bits) end ≡ below (is_offered_free p bits) end
all_offers_of_true p bits end h is_true = below_agree (is_offered bits) (is_offered_free p bits) end agree
  where
    by : (n : ℕ) (free busy : Bool) → busy ≡ not free → nat_lt 0 (suc n) && not busy ≡ free && not busy
    by n true false is = grind (arith, nat_tests)
    by n true true is = let no : true ≡ false = is in cc
    by n false true is = grind (arith, nat_tests)
    by n false false is = let no : false ≡ true = is in cc

    agree : (k : ℕ) → k < end → is_offered bits k ≡ is_offered_free p bits k
    agree zero low = refl
    agree (suc n) low = by n (is_free_at p (suc n)) (busy_at bits (suc n)) (is_true (suc n) (omega arith))
