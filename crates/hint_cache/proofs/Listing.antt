-- Lists of entries: one without a page, and one with an entry in front.
use Rattle.std.proofs.Common.{◌≡◌, ◌≢◌, ℕ, ◌<◌, ◌≤◌, Bool, true, false, not, cond, List, [], ◌∷◌, length, take, Some, IsSome, refl, ◌∙◌, ap, arith}
use Rattle.std.specs.Prelude.{filter, find, All, AllPairs}
use Rattle.std.proofs.lemmas.List.{length-take, get_or-take}
use Rattle.std.proofs.lemmas.List.Kept.{AllPairs-filter, AllPairs-cons}
use Rattle.std.proofs.lemmas.List.Elements.{All-nil, All-cons}
use Rattle.disk_records.specs.declared.records.Page.{Page}
use Rattle.hint_cache.specs.declared.cache.Entry.{Entry}
use Rattle.hint_cache.proofs.Pages.{is_page-itself}
use Rattle.hint_cache.specs.Caches.{IsCacheList, is_page, without, noted}

-- a test keeps at most all
pub length-filter-le : {X : Type 0} (p : X → Bool) (xs : List X) → length (filter p xs) ≤ length xs
length-filter-le p [] = omega arith
length-filter-le p (x ∷ xs) =
    let rest = length-filter-le p xs in
    elim (p x) as (λ b. length (cond b (x ∷ filter p xs) (filter p xs)) ≤ length (x ∷ xs)) [ true ↦ omega (arith, rest) | false ↦ omega (arith, rest) ]

-- a page that is listed is taken out
pub filter-found : {X : Type 0} (p : X → Bool) (xs : List X) → IsSome (find p xs) → length (filter (λ x. not (p x)) xs) < length xs
filter-found p [] h = cc
filter-found p (x ∷ xs) h =
    let few = length-filter-le (λ x. not (p x)) xs in
    elim (p x) as (λ b. IsSome (cond b (Some x) (find p xs)) → length (cond (not b) (x ∷ filter (λ x. not (p x)) xs) (filter (λ x. not (p x)) xs)) < length (x ∷ xs)) [
      | true ↦ λ h. omega (arith, few)
      | false ↦ λ h. let rest = filter-found p xs h in omega (arith, rest)
    ] h

-- ---- no two for one page
-- a list without a page has other pages alone
others_left : (page : Page) (xs : List Entry) → All (λ e. page ≢ e.page) (without page xs)
others_left page [] = All-nil (λ (e : Entry). page ≢ e.page)
others_left page (x ∷ xs) =
    let rest = others_left page xs in
    elim (is_page x.page page) as (λ b. is_page x.page page ≡ b → All (λ (e : Entry). page ≢ e.page) (cond (not b) (x ∷ without page xs) (without page xs))) [
      | true ↦ λ is. rest
      | false ↦ λ is. All-cons (λ (e : Entry). page ≢ e.page) x (without page xs) (λ same. let own : is_page x.page page ≡ true = ap (λ (p : Page). is_page x.page p) same ∙ is_page-itself x.page in cc) rest
    ] refl

pairs_take : {X : Type 0} (R : X → X → Type 0) (n : ℕ) (xs : List X) → AllPairs R xs → AllPairs R (take n xs)
pairs_take R n xs h i j d before within =
    let long = length-take n xs in
    let first : i < n = omega arith in
    let second : j < n = omega arith in
    let inside : j < length xs = omega arith in
    let pair = h i j d before inside in
    rw (get_or-take n xs i d first, get_or-take n xs j d second) pair

pub cache_without : (page : Page) (xs : List Entry) → IsCacheList xs → IsCacheList (without page xs)
cache_without page xs h =
    let less = length-filter-le (λ (e : Entry). not (is_page e.page page)) xs in
    record { few = omega (arith, less, h.few); distinct = AllPairs-filter (λ (a : Entry) (b : Entry). a.page ≢ b.page) (λ e. not (is_page e.page page)) xs h.distinct }

pub cache_noted : (page : Page) (at : ℕ) (xs : List Entry) → IsCacheList xs → IsCacheList (noted page at xs)
cache_noted page at xs h =
    let R : Entry → Entry → Type 0 = λ a b. a.page ≢ b.page in
    let front : Entry = record { page = page; at = at } in
    let all = AllPairs-cons R front (without page xs) (others_left page xs) (cache_without page xs h).distinct in
    let long = length-take 48 (front ∷ without page xs) in
    record { few = omega (arith, long); distinct = pairs_take R 48 (front ∷ without page xs) all }
