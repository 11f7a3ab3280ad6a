-- The length of a file, found among files that rise by full name.
use Rattle.std.proofs.Common.{◌≡◌, ℕ, zero, suc, ◌<◌, ◌≤◌, cond, List, [], ◌∷◌, map, Option, Some, None, inl, inr, refl, sym, ap, ◌∙◌, subst, arith, get_or}
use Rattle.std.specs.Prelude.{T, length}
use Rattle.std.specs.declared.cmp.Ordering.{Ordering}
use Rattle.std.specs.declared.cmp.Ordering.TheVariants.{Less, Equal, Greater}
use Rattle.std.specs.Ordering.{is_eq, is_lt, ordering_index, ordering_reverse}
use Rattle.std.specs.List.Sorted.{IsNonDecreasingBy, IsPartitionPoint}
use Rattle.std.specs.List.{HoldsAt}
use Rattle.std.proofs.lemmas.Bool.{cases_lt}
use Rattle.std.specs.FinMap.{find, is_sorted, entries, entries_sorted, get, get-entries}
use Rattle.std.specs.FinMap.Entries.{below_all}
use Rattle.alto_words.specs.declared.fid.Fid.{Fid}
use Rattle.alto_words.specs.Fid.{fid_cmp}
use Rattle.pack_model.specs.showing.View.{Seen, View}
use Rattle.pack_model.specs.showing.Listing.{size_of}
use Rattle.session_boot.specs.pack_laws.proofs.Keys.{fid_total, fid_same}
use Rattle.pack_reading.specs.declared.shown.FileLength.{FileLength}
use Rattle.pack_reading.specs.Lengths.{shown_length}
use Rattle.alto_top.proofs.Looking.{lower, sorted_parts}

-- ---- the comparisons rise
above : (b f : Fid) → fid_cmp f b ≡ Less → fid_cmp b f ≡ Greater
above b f less = fid_total.antisymm b f ∙ ap ordering_reverse less

tie_back : (f g : Fid) → fid_cmp g f ≡ Equal → fid_cmp f g ≡ Equal
tie_back f g tie = fid_total.antisymm f g ∙ ap ordering_reverse tie

rises_by : (r s : Ordering) → (r ≡ Equal → s ≡ Greater) → (r ≡ Greater → s ≡ Greater) → ordering_index r ≤ ordering_index s
rises_by Less s one two = omega arith
rises_by Equal s one two = subst (λ s. 1 ≤ ordering_index s) (sym (one refl)) (omega arith)
rises_by Greater s one two = subst (λ s. 2 ≤ ordering_index s) (sym (two refl)) (omega arith)

-- of two files in order
comparison_rises : (a b f : Fid) → fid_cmp a b ≡ Less → ordering_index (fid_cmp a f) ≤ ordering_index (fid_cmp b f)
comparison_rises a b f less =
    rises_by (fid_cmp a f) (fid_cmp b f)
    (λ tie. above b f (sym (fid_total.congr a f b tie) ∙ less))
    (λ greater. above b f (fid_total.trans f a b (fid_total.antisymm f a ∙ ap ordering_reverse greater) less))

is_less : (r : Ordering) → T (is_lt r) → r ≡ Less
is_less Less h = refl
is_less Equal h = absurd h
is_less Greater h = absurd h

below_at : (q : Fid) (es : List (Fid × Seen)) (i : ℕ) (d : FileLength) → T (below_all fid_cmp q es) → i < length (map shown_length es) → fid_cmp q (get_or (map shown_length es) i d).fid ≡ Less
below_at q [] i d below within = absurd (omega (arith, within))
below_at q (e ∷ es) zero d below within = is_less (fid_cmp q e.0) (sorted_parts (is_lt (fid_cmp q e.0)) (below_all fid_cmp q es) below).0
below_at q (e ∷ es) (suc i) d below within = below_at q es i d (sorted_parts (is_lt (fid_cmp q e.0)) (below_all fid_cmp q es) below).1 (omega (arith, within))

comparisons_rise : (f : Fid) (es : List (Fid × Seen)) → T (is_sorted fid_cmp es) → IsNonDecreasingBy (λ y. ordering_index (fid_cmp y.fid f)) (map shown_length es)
comparisons_rise f [] sorted i j d le within = absurd (omega (arith, within))
comparisons_rise f (e ∷ es) sorted zero zero d le within = omega arith
comparisons_rise f (e ∷ es) sorted zero (suc j) d le within =
    comparison_rises e.0 (get_or (map shown_length es) j d).fid f (below_at e.0 es j d (sorted_parts (below_all fid_cmp e.0 es) (is_sorted fid_cmp es) sorted).0 (omega (arith, within)))
comparisons_rise f (e ∷ es) sorted (suc i) zero d le within = absurd (omega (arith, le))
comparisons_rise f (e ∷ es) sorted (suc i) (suc j) d le within =
    comparisons_rise f es (sorted_parts (below_all fid_cmp e.0 es) (is_sorted fid_cmp es) sorted).1 i j d (omega (arith, le)) (omega (arith, within))

-- ---- what is at an index, and what is at none
past : (r : Ordering) (x : Seen) (o p : Option Seen) → o ≡ p → (r ≡ Equal → ⊥) → cond (is_eq r) (Some x) o ≡ p
past Less x o p is apart = is
past Equal x o p is apart = absurd (apart refl)
past Greater x o p is apart = is

record At (f : Fid) (es : List (Fid × Seen)) (file : FileLength) : Type 0 where
  x : Seen
  found : find fid_cmp f es ≡ Some x
  size : file.length ≡ size_of (Some x)

found_at : (es : List (Fid × Seen)) → T (is_sorted fid_cmp es) → (f : Fid) (i : ℕ) (d : FileLength) → i < length (map shown_length es) → fid_cmp (get_or (map shown_length es) i d).fid f ≡ Equal → At f es (get_or (map shown_length es) i d)
found_at [] sorted f i d within same = absurd (omega (arith, within))
found_at (e ∷ es) sorted f zero d within same = record { x = e.1; found = ap (λ r. cond (is_eq r) (Some e.1) (find fid_cmp f es)) (tie_back f e.0 same); size = refl }
found_at (e ∷ es) sorted f (suc i) d within same =
    let parts = sorted_parts (below_all fid_cmp e.0 es) (is_sorted fid_cmp es) sorted in
    let rest = found_at es parts.1 f i d (omega (arith, within)) same in
    let apart : fid_cmp f e.0 ≡ Equal → ⊥ = λ tie. let none : None ≡ Some rest.x = sym (lower e.0 es parts.0) ∙ ap (λ q. find fid_cmp q es) (sym (fid_same f e.0 tie)) ∙ rest.found in cc in
    record { x = rest.x; found = past (fid_cmp f e.0) e.1 (find fid_cmp f es) (Some rest.x) rest.found apart; size = rest.size }

none_at : (es : List (Fid × Seen)) (f : Fid) → ((i : ℕ) (d : FileLength) → i < length (map shown_length es) → fid_cmp (get_or (map shown_length es) i d).fid f ≡ Equal → ⊥) → find fid_cmp f es ≡ None
none_at [] f apart = refl
none_at (e ∷ es) f apart =
    past (fid_cmp f e.0) e.1 (find fid_cmp f es) None
    (none_at es f (λ i d within. apart (suc i) d (omega (arith, within))))
    (λ tie. apart 0 (shown_length e) (omega arith) (tie_back e.0 f tie))

-- ---- the search
pub length_at : (v : View) (f : Fid) (files : List FileLength) (i : ℕ) → files ≡ map shown_length (entries v.files) → i < length files → HoldsAt (λ y. fid_cmp y.fid f ≡ Equal) files i → (d : FileLength) → (get_or files i d).length ≡ size_of (get v.files f)
length_at v f files i are within same d =
    let at = found_at (entries v.files) (entries_sorted v.files) f i d (subst (λ l. i < length l) are within) (subst (λ l. fid_cmp (get_or l i d).fid f ≡ Equal) are (same d)) in
    ap (λ l. (get_or l i d).length) are ∙ at.size ∙ ap size_of (sym (get-entries v.files f ∙ at.found))

pub length_absent : (v : View) (f : Fid) (files : List FileLength) (i : ℕ) → files ≡ map shown_length (entries v.files) → (IsNonDecreasingBy (λ y. ordering_index (fid_cmp y.fid f)) files → IsPartitionPoint (λ y. fid_cmp y.fid f ≡ Less) (λ y. fid_cmp y.fid f ≡ Greater) files i) → None ≡ size_of (get v.files f)
length_absent v f files i are parted =
    let parts = parted (subst (IsNonDecreasingBy (λ y. ordering_index (fid_cmp y.fid f))) (sym are) (comparisons_rise f (entries v.files) (entries_sorted v.files))) in
    let apart : (j : ℕ) (d : FileLength) → j < length files → fid_cmp (get_or files j d).fid f ≡ Equal → ⊥ = λ j d within tie. elim (cases_lt j i) [
      | inl before ↦ let h : Equal ≡ Less = sym tie ∙ parts.0 j d (omega arith) before in cc
      | inr behind ↦ let h : Equal ≡ Greater = sym tie ∙ parts.1 j d behind within in cc
    ] in
    ap size_of (sym (get-entries v.files f ∙ none_at (entries v.files) f (subst (λ l. (j : ℕ) (d : FileLength) → j < length l → fid_cmp (get_or l j d).fid f ≡ Equal → ⊥) are apart)))
