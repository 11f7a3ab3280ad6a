-- The pairs that a cache keeps, as entries: the first pair of a page is its only one.
use Rattle.std.proofs.Common.{◌≡◌, ◌≢◌, ℕ, suc, Bool, true, false, not, cond, List, [], ◌∷◌, take, Option, Some, None, IsSome, IfSome, IfNone, refl, sym, ◌∙◌, ap, subst, arith}
use Rattle.std.specs.Prelude.{find, slice_get, All}
use Rattle.std.specs.Option.{option_map, option_map_or, MatchOption}
use Rattle.std.specs.Map.{lookup, lookup_entry, remove_entry}
use Rattle.std.proofs.lemmas.List.{take_all, take-map}
use Rattle.std.proofs.lemmas.List.Elements.{All-head, All-tail}
use Rattle.disk_records.specs.declared.records.Page.{Page}
use Rattle.hint_cache.specs.declared.cache.Entry.{Entry}
use Rattle.hint_cache.specs.Caches.{IsCacheList, is_page, address_in, without, noted, entry_of, entries_of, Cached}
use Rattle.hint_cache.proofs.Listing.{filter-found, cache_noted}
use Rattle.hint_cache.proofs.Pages.{is_page-itself, is_page-sym, same_page, by_fields, by_fields_is}
use Rattle.lru.specs.LruCache.{LruCache, lru_cache, promoted, put_entries}
use Rattle.lru.proofs.CallerLemmas.{Contains-lookup_entry}
use Rattle.lru.proofs.Pairs.{lookup-lookup_entry}

-- the pairs of a later page
pub pairs_tail : (x : Entry) (xs : List Entry) → IsCacheList (x ∷ xs) → IsCacheList xs
pairs_tail x xs h = record {
  few = omega (arith, h.few);
  distinct = λ i j d before within. h.distinct (suc i) (suc j) d (omega (arith, before)) (omega (arith, within));
}

pub heads_page : (x : Entry) (xs : List Entry) → IsCacheList (x ∷ xs) → All (λ (e : Entry). x.page ≢ e.page) xs
heads_page x xs h = λ k d within. h.distinct 0 (suc k) d (omega arith) (omega (arith, within))

-- a look-up of a page answers its address
pub looked_up : (page : Page) (pairs : List (Page × ℕ)) → lookup (is_page page) pairs ≡ address_in (entries_of pairs) page
looked_up page [] = refl
looked_up page (x ∷ xs) = rw (is_page-sym x.0 page) (elim (is_page page x.0) as (λ b. cond b (Some x.1) (lookup (is_page page) xs) ≡ option_map (λ (e : Entry). e.at) (cond b (Some (entry_of x)) (find (λ e. is_page e.page page) (entries_of xs)))) [
  | true ↦ refl
  | false ↦ looked_up page xs
])

-- other pages alone: nothing is taken out
pub all_others : (page : Page) (xs : List Entry) → All (λ (e : Entry). page ≢ e.page) xs → without page xs ≡ xs
all_others page [] h = refl
all_others page (x ∷ xs) h = (elim (is_page x.page page) as (λ b. is_page x.page page ≡ b → cond (not b) (x ∷ without page xs) (without page xs) ≡ x ∷ xs) [
  | true ↦ λ is. absurd (All-head (λ (e : Entry). page ≢ e.page) x xs h (sym (same_page x.page page is)))
  | false ↦ λ is. ap (λ l. x ∷ l) (all_others page xs (All-tail (λ (e : Entry). page ≢ e.page) x xs h))
]) refl

-- without its first pair a list is without the page
pub taken_out : (page : Page) (pairs : List (Page × ℕ)) → IsCacheList (entries_of pairs) → entries_of (remove_entry (is_page page) pairs) ≡ without page (entries_of pairs)
taken_out page [] h = refl
taken_out page (x ∷ xs) h = rw (is_page-sym x.0 page) ((elim (is_page page x.0) as (λ b. is_page page x.0 ≡ b → entries_of (cond b xs (x ∷ remove_entry (is_page page) xs)) ≡ cond (not b) (entry_of x ∷ without page (entries_of xs)) (without page (entries_of xs))) [
  | true ↦ λ is. let same = same_page page x.0 is in
      sym (all_others page (entries_of xs) (subst (λ (p : Page). All (λ (e : Entry). p ≢ e.page) (entries_of xs)) (sym same) (heads_page (entry_of x) (entries_of xs) h)))
  | false ↦ λ is. ap (λ l. entry_of x ∷ l) (taken_out page xs (pairs_tail (entry_of x) (entries_of xs) h))
]) refl)

-- a page that a look-up misses is nowhere
missed : (page : Page) (pairs : List (Page × ℕ)) → lookup_entry (is_page page) pairs ≡ None → without page (entries_of pairs) ≡ entries_of pairs
missed page [] is = refl
missed page (x ∷ xs) is = rw (is_page-sym x.0 page) ((elim (is_page page x.0) as (λ b. cond b (Some x) (lookup_entry (is_page page) xs) ≡ None → cond (not b) (entry_of x ∷ without page (entries_of xs)) (without page (entries_of xs)) ≡ entries_of (x ∷ xs)) [
  | true ↦ λ is. cc
  | false ↦ λ is. ap (λ l. entry_of x ∷ l) (missed page xs is)
]) is)

met : (page : Page) (pairs : List (Page × ℕ)) (e : Page × ℕ) → lookup_entry (is_page page) pairs ≡ Some e → IsSome (find (λ e. is_page e.page page) (entries_of pairs))
met page [] e is = cc
met page (x ∷ xs) e is = rw (is_page-sym x.0 page) ((elim (is_page page x.0) as (λ b. cond b (Some x) (lookup_entry (is_page page) xs) ≡ Some e → IsSome (cond b (Some (entry_of x)) (find (λ e. is_page e.page page) (entries_of xs)))) [
  | true ↦ λ is. refl
  | false ↦ λ is. met page xs e is
]) is)

-- one of at most 48 is taken out: all others find room after it
few_left : (page : Page) (pairs : List (Page × ℕ)) (e : Page × ℕ) → IsCacheList (entries_of pairs) → lookup_entry (is_page page) pairs ≡ Some e → take 47 (without page (entries_of pairs)) ≡ without page (entries_of pairs)
few_left page pairs e h is =
    let less = filter-found (λ (e : Entry). is_page e.page page) (entries_of pairs) (met page pairs e is) in
    take_all 47 (without page (entries_of pairs)) (omega (arith, less, h.few))

-- a pair that was found comes to the front with its address, or with another
to_front : (page : Page) (at : ℕ) (pairs : List (Page × ℕ)) (e : Page × ℕ) → IsCacheList (entries_of pairs) → lookup_entry (is_page page) pairs ≡ Some e → entries_of ((e.0, at) ∷ remove_entry (is_page page) pairs) ≡ noted page at (entries_of pairs)
to_front page at pairs e h is =
    let own : e.0 ≡ page = sym (same_page page e.0 (Contains-lookup_entry (is_page page) pairs e is).1) in
    let front : entry_of (e.0, at) ≡ entry_of (page, at) = ap (λ (p : Page). entry_of (p, at)) own in
    let rest = taken_out page pairs h ∙ sym (few_left page pairs e h is) in
    λ i. front i ∷ rest i

-- the pair that a cache puts in front is the entry that is noted
put_by : (page : Page) (at : ℕ) (pairs : List (Page × ℕ)) → IsCacheList (entries_of pairs) → (found : Option (Page × ℕ)) → lookup_entry (is_page page) pairs ≡ found → entries_of (option_map_or (λ e. (e.0, at) ∷ remove_entry (is_page page) pairs) found ((page, at) ∷ take 47 pairs)) ≡ noted page at (entries_of pairs)
put_by page at pairs h None is = ap (λ l. entry_of (page, at) ∷ l) (sym (take-map entry_of 47 pairs) ∙ ap (take 47) (sym (missed page pairs is)))
put_by page at pairs h (Some e) is = to_front page at pairs e h is

put_in_front : (page : Page) (at : ℕ) (pairs : List (Page × ℕ)) → IsCacheList (entries_of pairs) → entries_of (put_entries is_page (lru_cache pairs 48) page at) ≡ noted page at (entries_of pairs)
put_in_front page at pairs h = put_by page at pairs h (lookup_entry (is_page page) pairs) refl

-- a page that is looked up comes to the front; where it isn't listed nothing moves
moved_by : (page : Page) (pairs : List (Page × ℕ)) → IsCacheList (entries_of pairs) → (found : Option (Page × ℕ)) → lookup_entry (is_page page) pairs ≡ found → MatchOption (option_map (λ e. e.1) found) (option_map_or (λ e. e ∷ remove_entry (is_page page) pairs) found pairs ≡ pairs) (λ at. entries_of (option_map_or (λ e. e ∷ remove_entry (is_page page) pairs) found pairs) ≡ noted page at (entries_of pairs))
moved_by page pairs h None is = refl
moved_by page pairs h (Some e) is = to_front page e.1 pairs e h is

moved : (page : Page) (pairs : List (Page × ℕ)) → IsCacheList (entries_of pairs) → MatchOption (lookup (is_page page) pairs) (promoted (is_page page) pairs ≡ pairs) (λ at. entries_of (promoted (is_page page) pairs) ≡ noted page at (entries_of pairs))
moved page pairs h = subst (λ (at : Option ℕ). MatchOption at (promoted (is_page page) pairs ≡ pairs) (λ at. entries_of (promoted (is_page page) pairs) ≡ noted page at (entries_of pairs))) (lookup-lookup_entry (is_page page) pairs) (moved_by page pairs h (lookup_entry (is_page page) pairs) refl)

-- ---- the same by the test of the cache, and seen from outside
tests : (page : Page) → by_fields page ≡ is_page page
tests page = λ i q. by_fields_is page q i

pub found_at : (page : Page) (pairs : List (Page × ℕ)) → lookup (by_fields page) pairs ≡ address_in (entries_of pairs) page
found_at page pairs = ap (λ (t : Page → Bool). lookup t pairs) (tests page) ∙ looked_up page pairs

pub left_out : (page : Page) (pairs : List (Page × ℕ)) → IsCacheList (entries_of pairs) → entries_of (remove_entry (by_fields page) pairs) ≡ without page (entries_of pairs)
left_out page pairs h = ap (λ (t : Page → Bool). entries_of (remove_entry t pairs)) (tests page) ∙ taken_out page pairs h

pub put_first : (page : Page) (at : ℕ) (cache : LruCache Page ℕ) → cache.cap ≡ 48 → IsCacheList (entries_of cache.entries) → entries_of (put_entries by_fields cache page at) ≡ noted page at (entries_of cache.entries)
put_first page at cache full h =
    ap (λ (t : Page → Page → Bool). entries_of (put_entries t cache page at)) (λ i p. tests p i)
    ∙ ap (λ (n : ℕ). entries_of (put_entries is_page (lru_cache cache.entries n) page at)) full
    ∙ put_in_front page at cache.entries h

pub moved_first : (page : Page) (pairs : List (Page × ℕ)) → IsCacheList (entries_of pairs) → MatchOption (lookup (by_fields page) pairs) (promoted (by_fields page) pairs ≡ pairs) (λ at. entries_of (promoted (by_fields page) pairs) ≡ noted page at (entries_of pairs))
moved_first page pairs h = subst (λ (t : Page → Bool). MatchOption (lookup t pairs) (promoted t pairs ≡ pairs) (λ at. entries_of (promoted t pairs) ≡ noted page at (entries_of pairs))) (sym (tests page)) (moved page pairs h)

-- ---- what is seen of a cache whose entries have changed
pub seen_as : (f : List Entry → List Entry) {was now : Cached} {entries : List Entry} → was ≡ now → entries ≡ f was.entries → ◌≡◌ {A = Cached} (record { entries = entries; refused = was.refused }) (record { entries = f now.entries; refused = now.refused })
seen_as f {was} {now} {entries} v o = subst (λ (k : Cached). ◌≡◌ {A = Cached} (record { entries = entries; refused = was.refused }) (record { entries = f k.entries; refused = k.refused })) v (λ i. record { entries = o i; refused = was.refused })

module _ (page : Page) (pairs : List (Page × ℕ)) (h : IsCacheList (entries_of pairs)) {new : List (Page × ℕ)} (first : new ≡ promoted (by_fields page) pairs) where
  recalled : {answer : Option ℕ} → answer ≡ lookup (by_fields page) pairs → MatchOption answer (new ≡ pairs) (λ at. entries_of new ≡ noted page at (entries_of pairs))
  recalled is = rw (is, first) (moved_first page pairs h)

  pub recalled_kept : IsCacheList (entries_of new)
  recalled_kept = (elim (lookup (by_fields page) pairs) as (λ o. MatchOption o (new ≡ pairs) (λ at. entries_of new ≡ noted page at (entries_of pairs)) → IsCacheList (entries_of new)) [
    | None ↦ λ same. subst (λ (l : List (Page × ℕ)). IsCacheList (entries_of l)) (sym same) h
    | Some at ↦ λ same. subst IsCacheList (sym same) (cache_noted page at (entries_of pairs) h)
  ]) (recalled refl)

  module _ {was now : Cached} (v : was ≡ now) (listed : entries_of pairs ≡ was.entries) where
    pub recalled_some : (answer : Option ℕ) → answer ≡ lookup (by_fields page) pairs → IfSome answer (λ at. ◌≡◌ {A = Cached} (record { entries = entries_of new; refused = was.refused }) (record { entries = noted page at now.entries; refused = now.refused }))
    recalled_some None is = tt
    recalled_some (Some at) is = seen_as (noted page at) v (recalled is ∙ ap (noted page at) listed)

    pub recalled_none : (answer : Option ℕ) → answer ≡ lookup (by_fields page) pairs → IfNone answer (◌≡◌ {A = Cached} (record { entries = entries_of new; refused = was.refused }) now)
    recalled_none None is = (λ i. record { entries = (ap entries_of (recalled is) ∙ listed) i; refused = was.refused }) ∙ v
    recalled_none (Some at) is = tt

-- ---- a page whose pair is in front already
module _ (page newest : Page) (at : ℕ) (passes : by_fields newest page ≡ true) where
  in_front : (x : Page × ℕ) (xs : List (Page × ℕ)) → slice_get (x ∷ xs) 0 ≡ Some (newest, at) → x ≡ (page, at)
  in_front x xs is = ap (λ (o : Option (Page × ℕ)). option_map_or (λ (p : Page × ℕ). p) o x) is ∙ ap (λ (p : Page). (p, at)) (same_page newest page (sym (by_fields_is newest page) ∙ passes))

  pub front_listed : (pairs : List (Page × ℕ)) → slice_get pairs 0 ≡ Some (newest, at) → address_in (entries_of pairs) page ≡ Some at
  front_listed [] is = cc
  front_listed (x ∷ xs) is =
      let same = in_front x xs is in
      subst (λ (p : Page × ℕ). address_in (entries_of (p ∷ xs)) page ≡ Some at) (sym same) (rw (is_page-itself page) refl)

  pub front_stays : (pairs : List (Page × ℕ)) → IsCacheList (entries_of pairs) → slice_get pairs 0 ≡ Some (newest, at) → noted page at (entries_of pairs) ≡ entries_of pairs
  front_stays [] h is = cc
  front_stays (x ∷ xs) h is =
      let same = in_front x xs is in
      let front : entry_of x ≡ record { page = page; at = at } = ap entry_of same in
      let own : is_page x.0 page ≡ true = ap (λ (p : Page × ℕ). is_page p.0 page) same ∙ is_page-itself page in
      let others : without page (entries_of (x ∷ xs)) ≡ entries_of xs =
      rw own (all_others page (entries_of xs) (subst (λ (e : Entry). All (λ (o : Entry). e.page ≢ o.page) (entries_of xs)) front (heads_page (entry_of x) (entries_of xs) h))) in
      (λ i. take 48 (sym front i ∷ others i)) ∙ take_all 48 (entries_of (x ∷ xs)) h.few
