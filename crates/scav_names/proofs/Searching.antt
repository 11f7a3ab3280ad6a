-- A file among living files that rise by full name.
use Rattle.std.proofs.Common.{◌≡◌, ℕ, zero, suc, ◌<◌, ◌≤◌, cond, List, [], ◌∷◌, map, Option, Some, None, inl, inr, refl, sym, ap, ◌∙◌, subst, arith, get_or}
use Rattle.std.specs.Prelude.{length}
use Rattle.std.specs.declared.cmp.Ordering.{Ordering}
use Rattle.std.specs.declared.cmp.Ordering.TheVariants.{Less, Equal, Greater}
use Rattle.std.specs.Ordering.{is_eq, ordering_index, ordering_reverse}
use Rattle.std.specs.List.{AllByRecursion}
use Rattle.std.specs.List.Sorted.{IsNonDecreasingBy, IsPartitionPoint}
use Rattle.std.proofs.lemmas.Bool.{cases_lt}
use Rattle.std.proofs.lemmas.Map.Keys.{sorted_head, sorted_tail}
use Rattle.alto_words.specs.declared.fid.Fid.{Fid}
use Rattle.alto_words.specs.Fid.{fid_cmp}
use Rattle.scav_pages.specs.pack_laws.proofs.Keys.{fid_total, fid_same}
use Rattle.scav_names.specs.declared.living.Living.{Living}
use Rattle.scav_names.specs.Living.{Rises, living_in}

-- ---- the comparisons rise
above : (b f : Fid) → fid_cmp f b ≡ Less → fid_cmp b f ≡ Greater
above b f less = fid_total.antisymm b f ∙ ap ordering_reverse less

tie_back : (f g : Fid) → fid_cmp g f ≡ Equal → fid_cmp f g ≡ Equal
tie_back f g tie = fid_total.antisymm f g ∙ ap ordering_reverse tie

rises_by : (r s : Ordering) → (r ≡ Equal → s ≡ Greater) → (r ≡ Greater → s ≡ Greater) → ordering_index r ≤ ordering_index s
rises_by Less s one two = omega arith
rises_by Equal s one two = subst (λ s. 1 ≤ ordering_index s) (sym (one refl)) (omega arith)
rises_by Greater s one two = subst (λ s. 2 ≤ ordering_index s) (sym (two refl)) (omega arith)

comparison_rises : (a b f : Fid) → fid_cmp a b ≡ Less → ordering_index (fid_cmp a f) ≤ ordering_index (fid_cmp b f)
comparison_rises a b f less =
    rises_by (fid_cmp a f) (fid_cmp b f)
    (λ tie. above b f (sym (fid_total.congr a f b tie) ∙ less))
    (λ greater. above b f (fid_total.trans f a b (fid_total.antisymm f a ∙ ap ordering_reverse greater) less))

-- those after the first are above it
less_at : (k : Fid) (xs : List Living) (i : ℕ) (d : Living) → AllByRecursion (λ y. fid_cmp k y ≡ Less) (map (λ x. x.fid) xs) → i < length xs → fid_cmp k (get_or xs i d).fid ≡ Less
less_at k [] i d below within = absurd (omega (arith, within))
less_at k (x ∷ xs) zero d below within = below.0
less_at k (x ∷ xs) (suc i) d below within = less_at k xs i d below.1 (omega (arith, within))

head_less : (x : Living) (xs : List Living) → Rises (x ∷ xs) → AllByRecursion (λ y. fid_cmp x.fid y ≡ Less) (map (λ x. x.fid) xs)
head_less x xs rises = sorted_head fid_cmp x.fid (map (λ x. x.fid) xs) rises

tail_rises : (x : Living) (xs : List Living) → Rises (x ∷ xs) → Rises xs
tail_rises x xs rises = sorted_tail fid_cmp x.fid (map (λ x. x.fid) xs) rises

comparisons_rise : (f : Fid) (xs : List Living) → Rises xs → IsNonDecreasingBy (λ y. ordering_index (fid_cmp y.fid f)) xs
comparisons_rise f [] rises i j d le within = absurd (omega (arith, within))
comparisons_rise f (x ∷ xs) rises zero zero d le within = omega arith
comparisons_rise f (x ∷ xs) rises zero (suc j) d le within = comparison_rises x.fid (get_or xs j d).fid f (less_at x.fid xs j d (head_less x xs rises) (omega (arith, within)))
comparisons_rise f (x ∷ xs) rises (suc i) zero d le within = absurd (omega (arith, le))
comparisons_rise f (x ∷ xs) rises (suc i) (suc j) d le within = comparisons_rise f xs (tail_rises x xs rises) i j d (omega (arith, le)) (omega (arith, within))

-- ---- the one with a full name
past : (r : Ordering) (x : Living) (o : Option Living) → (r ≡ Equal → ⊥) → cond (is_eq r) (Some x) o ≡ o
past Less x o apart = refl
past Equal x o apart = absurd (apart refl)
past Greater x o apart = refl

pub found_at : (xs : List Living) → Rises xs → (f : Fid) (i : ℕ) (d : Living) → i < length xs → fid_cmp (get_or xs i d).fid f ≡ Equal → living_in xs f ≡ Some (get_or xs i d)
found_at [] rises f i d within same = absurd (omega (arith, within))
found_at (x ∷ xs) rises f zero d within same = ap (λ r. cond (is_eq r) (Some x) (living_in xs f)) (tie_back f x.fid same)
found_at (x ∷ xs) rises f (suc i) d within same =
    let less = less_at x.fid xs i d (head_less x xs rises) (omega (arith, within)) in
    let apart : fid_cmp f x.fid ≡ Equal → ⊥ = λ tie. let h : Equal ≡ Greater = sym same ∙ ap (fid_cmp (get_or xs i d).fid) (fid_same f x.fid tie) ∙ above (get_or xs i d).fid x.fid less in cc in
    past (fid_cmp f x.fid) x (living_in xs f) apart ∙ found_at xs (tail_rises x xs rises) f i d (omega (arith, within)) same

none_at : (xs : List Living) (f : Fid) → ((i : ℕ) (d : Living) → i < length xs → fid_cmp (get_or xs i d).fid f ≡ Equal → ⊥) → living_in xs f ≡ None
none_at [] f apart = refl
none_at (x ∷ xs) f apart =
    past (fid_cmp f x.fid) x (living_in xs f) (λ tie. apart 0 x (omega arith) (tie_back x.fid f tie))
    ∙ none_at xs f (λ i d within. apart (suc i) d (omega (arith, within)))

pub absent : (xs : List Living) (f : Fid) (i : ℕ) → Rises xs → (IsNonDecreasingBy (λ y. ordering_index (fid_cmp y.fid f)) xs → IsPartitionPoint (λ y. fid_cmp y.fid f ≡ Less) (λ y. fid_cmp y.fid f ≡ Greater) xs i) → living_in xs f ≡ None
absent xs f i rises parted =
    let parts = parted (comparisons_rise f xs rises) in
    none_at xs f (λ j d within tie. elim (cases_lt j i) [
      | inl before ↦ let h : Equal ≡ Less = sym tie ∙ parts.0 j d (omega arith) before in cc
      | inr after ↦ let h : Equal ≡ Greater = sym tie ∙ parts.1 j d after within in cc
    ])
