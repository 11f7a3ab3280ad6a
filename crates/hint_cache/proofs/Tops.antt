-- The highest page of a file among entries: all others of the file are lower, and it is listed.
use Rattle.std.proofs.Common.{◌≡◌, ◌≢◌, ℕ, ◌<◌, ◌≤◌, ◌⊎◌, inl, inr, Bool, true, false, cond, List, [], ◌∷◌, Option, Some, None, IfSome, IfNone, refl, sym, ap, subst, Contains, arith}
use Rattle.std.specs.Prelude.{find, All, nat_lt, fold}
use Rattle.std.specs.Option.{option_map, MatchOption}
use Rattle.std.proofs.lemmas.Bool.Decides.{nat_tests}
use Rattle.std.proofs.lemmas.List.Elements.{All-nil, All-cons, All-contains}
use Rattle.alto_words.specs.declared.fid.Fid.{Fid}
use Rattle.alto_words.specs.Fid.{is_fid}
use Rattle.disk_records.specs.declared.records.Page.{Page}
use Rattle.hint_cache.specs.declared.cache.Entry.{Entry}
use Rattle.hint_cache.specs.Caches.{IsCacheList, is_page, address_in, NoneListed, IsHighestBelow}
use Rattle.hint_cache.specs.Highest.{is_below, higher, highest_after}
use Rattle.hint_cache.proofs.Keys.{pairs_tail, heads_page}
use Rattle.hint_cache.proofs.Pages.{is_page-itself, same_page, same_fid, is_fid-itself, both_true}
use Rattle.lru.proofs.Splits.{Contains-head, Contains-tail, Contains-cons, Contains-nil}

lt-test : (m n : ℕ) → m < n → nat_lt m n ≡ true
lt-test m n less = grind (arith, nat_tests)

lt-from_test : (m n : ℕ) → nat_lt m n ≡ true → m < n
lt-from_test m n is = grind (arith, nat_tests)

ge-from_test : (m n : ℕ) → nat_lt m n ≡ false → n ≤ m
ge-from_test m n is = grind (arith, nat_tests)

-- this page or a higher one is there
record Reaches (number : ℕ) (best : Entry) : Type 0 where
  above : number ≤ best.page.number

abbrev AtLeast : ℕ → Option Entry → Type 0
AtLeast number best = MatchOption best ⊥ (Reaches number)

module _ (fid : Fid) (number : ℕ) where
  abbrev Below : Entry → Type 0
  Below e = is_below fid number e.page ≡ true

  -- one step keeps what is there, and takes what is higher
  higher_keeps : (least : ℕ) (best : Option Entry) (e : Entry) → AtLeast least best → AtLeast least (higher best e)
  higher_keeps least None e h = absurd h
  higher_keeps least (Some b) e h = (elim (nat_lt b.page.number e.page.number) as (λ t. nat_lt b.page.number e.page.number ≡ t → AtLeast least (cond t (Some e) (Some b))) [
    | true ↦ λ t. let less = lt-from_test b.page.number e.page.number t in record { above = omega (arith, less, h.above) }
    | false ↦ λ t. h
  ]) refl

  higher_takes : (best : Option Entry) (e : Entry) → AtLeast e.page.number (higher best e)
  higher_takes None e = record { above = omega arith }
  higher_takes (Some b) e = (elim (nat_lt b.page.number e.page.number) as (λ t. nat_lt b.page.number e.page.number ≡ t → AtLeast e.page.number (cond t (Some e) (Some b))) [
    | true ↦ λ t. record { above = omega arith }
    | false ↦ λ t. let less = ge-from_test b.page.number e.page.number t in record { above = omega (arith, less) }
  ]) refl

  at_least_more : (least : ℕ) (best : Option Entry) (e : Entry) → AtLeast least best → AtLeast least (highest_after fid number best e)
  at_least_more least best e h = elim (is_below fid number e.page) as (λ t. AtLeast least (cond t (higher best e) best)) [
    | true ↦ higher_keeps least best e h
    | false ↦ h
  ]

  at_least_here : (best : Option Entry) (e : Entry) → Below e → AtLeast e.page.number (highest_after fid number best e)
  at_least_here best e below = subst (λ (t : Bool). AtLeast e.page.number (cond t (higher best e) best)) (sym below) (higher_takes best e)

  at_least : (least : ℕ) (best : Option Entry) (xs : List Entry) → AtLeast least best → AtLeast least (fold (highest_after fid number) best xs)
  at_least least best [] h = h
  at_least least best (x ∷ xs) h = at_least least (highest_after fid number best x) xs (at_least_more least best x h)

  all_reached : (best : Option Entry) (xs : List Entry) → All (λ e. Below e → AtLeast e.page.number (fold (highest_after fid number) best xs)) xs
  all_reached best [] = All-nil (λ (e : Entry). Below e → AtLeast e.page.number best)
  all_reached best (x ∷ xs) =
      let last = fold (highest_after fid number) (highest_after fid number best x) xs in
      All-cons (λ (e : Entry). Below e → AtLeast e.page.number last) x xs (λ below. at_least x.page.number (highest_after fid number best x) xs (at_least_here best x below)) (all_reached (highest_after fid number best x) xs)

  -- what is answered is one of them, below the number, or what was there at first
  abbrev IsOneOf : Option Entry → List Entry → Entry → Type 0
  IsOneOf best xs e = (best ≡ Some e) ⊎ (Contains xs e × Below e)

  stepped : (best : Option Entry) (x e : Entry) → highest_after fid number best x ≡ Some e → (best ≡ Some e) ⊎ ((x ≡ e) × Below x)
  stepped best x e is = (elim (is_below fid number x.page) as (λ t. is_below fid number x.page ≡ t → cond t (higher best x) best ≡ Some e → (best ≡ Some e) ⊎ ((x ≡ e) × Below x)) [
    | true ↦ λ t is. chosen best is t
    | false ↦ λ t is. inl is
  ]) refl is
    where
      chosen : (best : Option Entry) → higher best x ≡ Some e → Below x → (best ≡ Some e) ⊎ ((x ≡ e) × Below x)
      chosen None is below = inr (cc, below)
      chosen (Some b) is below = (elim (nat_lt b.page.number x.page.number) as (λ t. cond t (Some x) (Some b) ≡ Some e → (Some b ≡ Some e) ⊎ ((x ≡ e) × Below x)) [
        | true ↦ λ is. inr (cc, below)
        | false ↦ λ is. inl is
      ]) is

  one_of : (best : Option Entry) (xs : List Entry) (e : Entry) → fold (highest_after fid number) best xs ≡ Some e → IsOneOf best xs e
  one_of best [] e is = inl is
  one_of best (x ∷ xs) e is = elim (one_of (highest_after fid number best x) xs e is) [
    | inl first ↦ elim (stepped best x e first) [
      | inl before ↦ inl before
      | inr here ↦ inr (subst (Contains (x ∷ xs)) here.0 (Contains-head x xs), subst (λ (e : Entry). Below e) here.0 here.1)
    ]
    | inr later ↦ inr (Contains-tail x xs e later.0, later.1)
  ]

-- an entry of a list is what its page finds, as no other has the page
listed_at : (xs : List Entry) (e : Entry) → IsCacheList xs → Contains xs e → address_in xs e.page ≡ Some e.at
listed_at [] e h among = absurd (Contains-nil e among)
listed_at (x ∷ xs) e h among = elim (Contains-cons x xs e among) [
  | inl same ↦ subst (λ (e : Entry). address_in (x ∷ xs) e.page ≡ Some e.at) same (rw (is_page-itself x.page) refl)
  | inr later ↦ (elim (is_page x.page e.page) as (λ t. is_page x.page e.page ≡ t → option_map (λ (e : Entry). e.at) (cond t (Some x) (find (λ o. is_page o.page e.page) xs)) ≡ Some e.at) [
    | true ↦ λ t. absurd (All-contains (λ (o : Entry). x.page ≢ o.page) xs e (heads_page x xs h) later (same_page x.page e.page t))
    | false ↦ λ t. listed_at xs e (pairs_tail x xs h) later
  ]) refl
]

-- a page that no entry has is not listed
found_among : (xs : List Entry) (page : Page) (e : Entry) → find (λ o. is_page o.page page) xs ≡ Some e → Contains xs e × (e.page ≡ page)
found_among [] page e is = cc
found_among (x ∷ xs) page e is = (elim (is_page x.page page) as (λ t. is_page x.page page ≡ t → cond t (Some x) (find (λ o. is_page o.page page) xs) ≡ Some e → Contains (x ∷ xs) e × (e.page ≡ page)) [
  | true ↦ λ t is. let same : x ≡ e = cc in (subst (Contains (x ∷ xs)) same (Contains-head x xs), subst (λ (e : Entry). e.page ≡ page) same (same_page x.page page t))
  | false ↦ λ t is. let rest = found_among xs page e is in (Contains-tail x xs e rest.0, rest.1)
]) refl is

unlisted : (xs : List Entry) (page : Page) → ((e : Entry) → Contains xs e → e.page ≡ page → ⊥) → address_in xs page ≡ None
unlisted xs page none = (elim (find (λ (o : Entry). is_page o.page page) xs) as (λ o. find (λ (o : Entry). is_page o.page page) xs ≡ o → option_map (λ (e : Entry). e.at) o ≡ None) [
  | None ↦ λ is. refl
  | Some e ↦ λ is. let found = found_among xs page e is in absurd (none e found.0 found.1)
]) refl

-- a page of the file below the number
page_below : (fid : Fid) (number n : ℕ) (e : Entry) → n < number → e.page ≡ record { fid = fid; number = n } → is_below fid number e.page ≡ true
page_below fid number n e less same = rw (same, is_fid-itself fid, lt-test n number less) refl

parts_below : (fid : Fid) (number : ℕ) (e : Entry) → is_below fid number e.page ≡ true → (e.page.fid ≡ fid) × (e.page.number < number)
parts_below fid number e below =
    let parts = both_true (is_fid e.page.fid fid) (nat_lt e.page.number number) below in
    (same_fid e.page.fid fid parts.0, lt-from_test e.page.number number parts.1)

module _ (fid : Fid) (number : ℕ) (xs : List Entry) (h : IsCacheList xs) where
  pub highest_some : (best : Option Entry) → best ≡ fold (highest_after fid number) None xs → IfSome best (IsHighestBelow xs fid number)
  highest_some None is = tt
  highest_some (Some e) is =
      let among : Contains xs e × (is_below fid number e.page ≡ true) = elim (one_of fid number None xs e (sym is)) [ inl start ↦ cc | inr one ↦ one ] in
      let parts = parts_below fid number e among.1 in
      record {
        file = parts.0;
        below = parts.1;
        listed = listed_at xs e h among.0;
        highest = record {
          none = λ n from to. unlisted xs (record { fid = fid; number = n }) (λ o inside same.
              let reached = All-contains (λ (o : Entry). is_below fid number o.page ≡ true → AtLeast o.page.number (fold (highest_after fid number) None xs)) xs o (all_reached fid number None xs) inside (page_below fid number n o to same) in
              let least = subst (AtLeast o.page.number) (sym is) reached in
              omega (arith, from, least.above, ap (λ (p : Page). p.number) same));
        };
      }

  pub highest_none : (best : Option Entry) → best ≡ fold (highest_after fid number) None xs → IfNone best (NoneListed xs fid 0 number)
  highest_none None is = record {
    none = λ n from to. unlisted xs (record { fid = fid; number = n }) (λ o inside same.
        let reached = All-contains (λ (o : Entry). is_below fid number o.page ≡ true → AtLeast o.page.number (fold (highest_after fid number) None xs)) xs o (all_reached fid number None xs) inside (page_below fid number n o to same) in
        subst (AtLeast o.page.number) (sym is) reached);
  }
  highest_none (Some e) is = tt
