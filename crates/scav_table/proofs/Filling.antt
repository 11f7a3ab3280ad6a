-- A sweep of all labels, sector by sector.
use Rattle.std.proofs.Common.{◌≡◌, ℕ, zero, suc, ◌+◌, ◌<◌, ◌≤◌, Bool, true, false, cond, not, IsTrue, List, [], ◌∷◌, ◌++◌, length, get_or, take, drop, replicate, Option, Some, None, refl, sym, ap, subst, ◌∙◌, arith}
use Rattle.std.proofs.lemmas.List.{take_more, take_all, drop-append-le, length-take-le}
use Rattle.std.specs.List.Sorted.{IsNonDecreasingBy}
use Rattle.disk_records.specs.declared.records.Sector.{Sector}
use Rattle.disk_records.specs.declared.shape.Shape.{Shape}
use Rattle.disk_records.specs.Addresses.{pages_of}
use Rattle.disk_records.specs.Packs.{sector_at, no_sector}
use Rattle.disk_records.specs.Tapes.{Taped, Looks, pack}
use Rattle.disk_records.proofs.Growing.{length-pack}
use Rattle.disk_records.proofs.Looking.{looks_pack}
use Rattle.pack_model.specs.reading.Sights.{sight, sights}
use Rattle.pack_model.specs.reading.Sights.Sight.{hidden}
use Rattle.pack_model.specs.states.InUse.{is_good, one_if, how_many}
use Rattle.pack_laws.proofs.Sighted.{sights-get, length-sights}
use Rattle.scav_table.specs.declared.row.Row.{Row}
use Rattle.scav_table.specs.Filled.{Filled, IsRowAt}
use Rattle.scav_table.specs.Rows.{rank, is_above, above, Rises, placed, padded, no_row, AreLow, row_of, rows_from, sector_rows, in_order, rows, with_row}
use Rattle.scav_table.proofs.Padding.{padded-placed, padded_rises, none_padded}
use Rattle.scav_table.proofs.Rising.{above_rises, above_low, below_goes, above_comes, placed_rises, placed_low, low_more, low_before, in_order-push}

-- ---- the rows of sectors, and how many are bad
pub length-rows : (shape : Shape) (k : ℕ) (ss : List Sector) → length (rows_from shape k ss) ≡ length ss
unfolding rows_from
length-rows shape k [] = refl
length-rows shape k (s ∷ ss) = ap suc (length-rows shape (suc k) ss)

pub rows-get : (shape : Shape) (k : ℕ) (ss : List Sector) (i : ℕ) (d : Option Row) → i < length ss → get_or (rows_from shape k ss) i d ≡ row_of shape (k + i) (get_or ss i no_sector)
unfolding rows_from
rows-get shape k [] i d l = absurd (omega arith)
rows-get shape k (s ∷ ss) zero d l = let e : k ≡ k + 0 = omega arith in ap (λ n. row_of shape n s) e
rows-get shape k (s ∷ ss) (suc i) d l =
    let e : suc k + i ≡ k + suc i = omega arith in
    rows-get shape (suc k) ss i d (omega arith) ∙ ap (λ n. row_of shape n (get_or ss i no_sector)) e

how_many-push : {X : Type 0} (test : X → Bool) (xs : List X) (x : X) → how_many test (xs ++ x ∷ []) ≡ how_many test xs + one_if (test x)
how_many-push test [] x = omega arith
how_many-push test (y ∷ xs) x = let ih = how_many-push test xs x in omega (arith, ih)

-- sector 0 has no row
first_row : (shape : Shape) (ss : List Sector) → 0 < length ss → None ∷ [] ≡ take 1 (rows_from shape 0 ss)
unfolding rows_from row_of
first_row shape [] some = absurd (omega arith)
first_row shape (s ∷ ss) some = refl

few_sights : {X : Type 0} (xs : List X) → drop 1 (take 1 xs) ≡ []
few_sights [] = refl
few_sights (x ∷ xs) = refl

-- what was seen of the sectors below `at`
pub record SeenTo (told : Bool) (t : Taped) (n : ℕ) (b : Option Row) (at count : ℕ) (list : List Row) : Type 0 where
  pub seen : List (Option Row)
  pub shows : IsTrue told → seen ≡ take at (sector_rows (pack t))
  pub wrong : IsTrue told → count ≡ how_many (λ s. not (is_good s)) (drop 1 (take at (sights (pack t))))
  pub few : count < at
  pub rises : Rises None (in_order [] seen)
  pub low : AreLow at (in_order [] seen)
  pub holds : list ≡ padded n (above b (in_order [] seen))

pub seen_none : {told : Bool} {t : Taped} (n : ℕ) (b : Option Row) (list : List Row) → (IsTrue told → length t.base ≡ pages_of t.form) → list ≡ replicate n no_row → SeenTo told t n b 1 0 list
seen_none {told} {t} n b list sized e = record {
  seen = None ∷ [];
  shows = λ h. let some = t.form.least_pages in first_row t.form (pack t).sectors (omega (arith, length-pack t, sized h, some));
  wrong = λ h. ap (how_many (λ s. not (is_good s))) (sym (few_sights (sights (pack t))));
  few = omega arith;
  rises = tt;
  low = tt;
  holds = e ∙ none_padded n;
}

-- ---- one sector more
-- what was read there
pub record Met (told : Bool) (t : Taped) (at : ℕ) (s : Option Row) (wrong : ℕ) : Type 0 where
  pub is : IsTrue told → s ≡ row_of t.form at (sector_at (pack t) at)
  pub bad : IsTrue told → wrong ≡ one_if (not (is_good (sight t.form at (sector_at (pack t) at))))
  pub one : wrong ≤ 1

abbrev pub IsFound : ℕ → Option Row → Type 0
IsFound at None = Unit {0}
IsFound at (Some r) = IsRowAt at r

abbrev pub taken : ℕ → Option Row → Option Row → List Row → List Row
taken n b None list = list
taken n b (Some r) list = cond (is_above b r) (take n (placed r list)) list

kept_rising : (at : ℕ) (s : Option Row) (xs : List Row) → IsFound at s → at < 65536 → AreLow at xs → Rises None xs → Rises None (with_row s xs)
kept_rising at None xs f few low up = up
kept_rising at (Some r) xs f few low up = placed_rises at None r xs f.here few (low_before at xs low) refl up

kept_low : (at : ℕ) (s : Option Row) (xs : List Row) → IsFound at s → AreLow at xs → AreLow (at + 1) (with_row s xs)
kept_low at None xs f low = low_more at (at + 1) xs (omega arith) low
kept_low at (Some r) xs f low = placed_low (at + 1) r xs f.low (low_more at (at + 1) xs (omega arith) low)

kept_least : (at n : ℕ) (b s : Option Row) (xs list : List Row) → IsFound at s → list ≡ padded n (above b xs) → taken n b s list ≡ padded n (above b (with_row s xs))
kept_least at n b None xs list f e = e
kept_least at n b (Some r) xs list f e = by_test (is_above b r) refl
  where
    by_test : (t : Bool) → is_above b r ≡ t → cond t (take n (placed r list)) list ≡ padded n (above b (placed r xs))
    by_test true a = ap (λ l. take n (placed r l)) e ∙ padded-placed n r (above b xs) f.low.below ∙ ap (padded n) (sym (above_comes b r xs a))
    by_test false a = e ∙ ap (padded n) (sym (below_goes b r xs a))

pub seen_more : {told : Bool} {t now : Taped} {most : ℕ} (n : ℕ) (b : Option Row) (at count : ℕ) (list : List Row) (s : Option Row) (wrong : ℕ) → Looks told most t now → 1 ≤ at → at < 65536 → at < pages_of t.form → (IsTrue told → length t.base ≡ pages_of t.form)
    → SeenTo told t n b at count list → IsFound at s → Met told now at s wrong → SeenTo told t n b (at + 1) (count + wrong) (taken n b s list)
seen_more {told} {t} {now} {most} n b at count list s wrong looks first few within sized so_far found met =
    let push : in_order [] (so_far.seen ++ s ∷ []) ≡ with_row s (in_order [] so_far.seen) = in_order-push [] so_far.seen s in
    record {
      seen = so_far.seen ++ s ∷ [];
      shows = λ h.
          let inside : at < length (pack t).sectors = omega (arith, within, length-pack t, sized h) in
          let here : s ≡ row_of t.form at (sector_at (pack t) at) = met.is h ∙ ap (λ shape. row_of shape at (sector_at (pack now) at)) looks.alone.grown.form ∙ ap (λ p. row_of t.form at (sector_at p at)) (looks_pack looks h) in
          let start : 0 + at ≡ at = omega arith in
          let got : get_or (sector_rows (pack t)) at None ≡ s = rows-get t.form 0 (pack t).sectors at None inside ∙ ap (λ k. row_of t.form k (sector_at (pack t) at)) start ∙ sym here in
          let back : s ≡ get_or (sector_rows (pack t)) at None = sym got in
          (λ i. so_far.shows h i ++ back i ∷ []) ∙ sym (take_more (sector_rows (pack t)) at None (omega (arith, inside, length-rows t.form 0 (pack t).sectors)));
      wrong = λ h.
          let inside : at < length (sights (pack t)) = omega (arith, within, length-sights (pack t), length-pack t, sized h) in
          let x = get_or (sights (pack t)) at hidden in
          let here : x ≡ sight now.form at (sector_at (pack now) at) = sights-get (pack t) at hidden (omega (arith, within, length-pack t, sized h)) ∙ sym (ap (λ shape. sight shape at (sector_at (pack now) at)) looks.alone.grown.form ∙ ap (λ p. sight t.form at (sector_at p at)) (looks_pack looks h)) in
          let one : wrong ≡ one_if (not (is_good x)) = met.bad h ∙ ap (λ y. one_if (not (is_good y))) (sym here) in
          let tail : drop 1 (take (at + 1) (sights (pack t))) ≡ drop 1 (take at (sights (pack t))) ++ x ∷ [] =
          ap (drop 1) (take_more (sights (pack t)) at hidden inside)
          ∙ drop-append-le 1 (take at (sights (pack t))) (x ∷ []) (omega (arith, first, length-take-le at (sights (pack t)) (omega (arith, inside)))) in
          let all : how_many (λ y. not (is_good y)) (drop 1 (take at (sights (pack t))) ++ x ∷ []) ≡ how_many (λ y. not (is_good y)) (drop 1 (take at (sights (pack t)))) + one_if (not (is_good x)) = how_many-push (λ y. not (is_good y)) (drop 1 (take at (sights (pack t)))) x in
          ap (λ m. m + wrong) (so_far.wrong h) ∙ ap (λ m. how_many (λ y. not (is_good y)) (drop 1 (take at (sights (pack t)))) + m) one ∙ sym all ∙ ap (how_many (λ y. not (is_good y))) (sym tail);
      few = omega (arith, so_far.few, met.one);
      rises = subst (Rises None) (sym push) (kept_rising at s (in_order [] so_far.seen) found few so_far.low so_far.rises);
      low = subst (AreLow (at + 1)) (sym push) (kept_low at s (in_order [] so_far.seen) found so_far.low);
      holds = kept_least at n b s (in_order [] so_far.seen) list found so_far.holds ∙ ap (λ l. padded n (above b l)) (sym push);
    }

-- a window that was filled so far rises
pub seen_rises : {told : Bool} {t : Taped} {n : ℕ} {b : Option Row} {at count : ℕ} {list : List Row} → SeenTo told t n b at count list → IsNonDecreasingBy rank list
seen_rises {n = n} {b = b} {at = at} s = subst (IsNonDecreasingBy rank) (sym s.holds) (padded_rises n at b (above b (in_order [] s.seen)) (above_rises None b (in_order [] s.seen) s.rises) (above_low at b (in_order [] s.seen) s.low))

-- all sectors
pub seen_all : {told : Bool} {t : Taped} {b : Option Row} {at count : ℕ} {list : List Row} → at ≡ pages_of t.form → at ≤ 65536 → (IsTrue told → length t.base ≡ pages_of t.form) → SeenTo told t (length list) b at count list → Filled told t b count list
unfolding rows
seen_all {told} {t} {b} {at} {count} {list} end few sized s = record {
  seen = in_order [] s.seen;
  rises = s.rises;
  low = low_more at 65536 (in_order [] s.seen) few s.low;
  holds = s.holds;
  shows = λ h. ap (in_order []) (s.shows h ∙ take_all at (sector_rows (pack t)) (omega (arith, end, length-rows t.form 0 (pack t).sectors, length-pack t, sized h)));
  wrong = λ h. s.wrong h ∙ ap (λ l. how_many (λ x. not (is_good x)) (drop 1 l)) (take_all at (sights (pack t)) (omega (arith, end, length-sights (pack t), length-pack t, sized h)));
}

-- the same under other names
pub seen_as : {told : Bool} {t : Taped} {n m : ℕ} {b : Option Row} {at count more : ℕ} {list other : List Row} → m ≡ n → more ≡ count → other ≡ list → SeenTo told t n b at count list → SeenTo told t m b at more other
seen_as {told} {t} {n} {m} {b} {at} {count} {more} {list} {other} d e f s =
    subst (λ k. SeenTo told t k b at more other) (sym d) (subst (λ k. SeenTo told t n b at k other) (sym e) (subst (λ l. SeenTo told t n b at count l) (sym f) s))
