-- Pages are compared by file and number: pages that pass the test are one.
use Rattle.std.proofs.Common.{◌≡◌, ◌==◌, ◌&&◌, Bool, true, false, refl, ◌∙◌, ap, eq-eqb, rules}
use Rattle.std.specs.declared.cmp.Ordering.{Ordering}
use Rattle.std.specs.declared.cmp.Ordering.TheVariants.{Less, Equal, Greater}
use Rattle.std.specs.Ordering.{nat_cmp, ordering_then, is_eq}
use Rattle.std.specs.Cmp.{IsTotalOrder}
use Rattle.std.specs.FinMap.{nat_cmp-IsAntisymmetric}
use Rattle.std.proofs.lemmas.Cmp.{nat_cmp_total, then_total, on_total, tied_itself, eq_by_cmp_equiv, nat_eq_equiv}
use Rattle.std.proofs.lemmas.Bool.{eqb-true}
use Rattle.alto_words.specs.declared.fid.Fid.{Fid}
use Rattle.alto_words.specs.Fid.{fid_cmp, is_fid}
use Rattle.disk_records.specs.declared.records.Page.{Page}
use Rattle.hint_cache.specs.Caches.{is_page}

fid_total : IsTotalOrder fid_cmp
fid_total = then_total (on_total (λ f. f.high) nat_cmp_total) (then_total (on_total (λ f. f.low) nat_cmp_total) (on_total (λ f. f.version) nat_cmp_total))

-- orders that tie together tie alone
both_tie : (a b : Ordering) → is_eq (ordering_then a b) ≡ true → (a ≡ Equal) × (is_eq b ≡ true)
both_tie Less b e = cc
both_tie Equal b e = (refl, e)
both_tie Greater b e = cc

ties : (a : Ordering) → is_eq a ≡ true → a ≡ Equal
ties Less e = cc
ties Equal e = refl
ties Greater e = cc

-- names that pass the test are one
pub same_fid : (f g : Fid) → is_fid f g ≡ true → f ≡ g
same_fid f g e =
    let first = both_tie (nat_cmp f.high g.high) (ordering_then (nat_cmp f.low g.low) (nat_cmp f.version g.version)) e in
    let second = both_tie (nat_cmp f.low g.low) (nat_cmp f.version g.version) first.1 in
    let h = nat_cmp-IsAntisymmetric f.high g.high first.0 in
    let l = nat_cmp-IsAntisymmetric f.low g.low second.0 in
    let v = nat_cmp-IsAntisymmetric f.version g.version (ties (nat_cmp f.version g.version) second.1) in
    λ i. record { high = h i; low = l i; version = v i }

pub both_true : (a b : Bool) → (a && b) ≡ true → (a ≡ true) × (b ≡ true)
both_true true b e = (refl, e)
both_true false b e = cc

pub is_fid-itself : (f : Fid) → is_fid f f ≡ true
is_fid-itself f = ap is_eq (tied_itself fid_total f)

pub is_page-itself : (p : Page) → is_page p p ≡ true
is_page-itself p = ap (λ b. b && p.number == p.number) (is_fid-itself p.fid) ∙ eq-eqb p.number p.number refl

-- pages that pass the test are one
pub same_page : (p q : Page) → is_page p q ≡ true → p ≡ q
same_page p q e =
    let parts = both_true (is_fid p.fid q.fid) (p.number == q.number) e in
    let fid = same_fid p.fid q.fid parts.0 in
    let number = eqb-true p.number q.number parts.1 in
    λ i. record { fid = fid i; number = number i }

-- in either order
pub is_page-sym : (p q : Page) → is_page p q ≡ is_page q p
is_page-sym p q = rw ((eq_by_cmp_equiv fid_total).symm p.fid q.fid, nat_eq_equiv.symm p.number q.number) refl

-- as the fields of two pages are compared
abbrev pub by_fields : Page → Page → Bool
by_fields p q = (p.fid.high == q.fid.high && (p.fid.low == q.fid.low && p.fid.version == q.fid.version)) && p.number == q.number

pub by_fields_is : (p q : Page) → by_fields p q ≡ is_page p q
by_fields_is p q = search rules
