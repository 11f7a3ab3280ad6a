-- Full names: their order is total, and names that tie are one.
use Rattle.std.proofs.Common.{◌≡◌, true, refl, ap}
use Rattle.std.specs.declared.cmp.Ordering.{Ordering}
use Rattle.std.specs.declared.cmp.Ordering.TheVariants.{Less, Equal, Greater}
use Rattle.std.specs.Ordering.{nat_cmp, ordering_then, is_eq}
use Rattle.std.specs.Cmp.{IsTotalOrder, then_total, on_total, nat_cmp_total, tied_itself, eq_by_cmp_equiv}
use Rattle.std.specs.FinMap.{IsAntisymmetric, nat_cmp-IsAntisymmetric}
use Rattle.pack_model.specs.alto_words.specs.declared.fid.Fid.{Fid}
use Rattle.pack_model.specs.alto_words.specs.Fid.{fid_cmp, is_fid}

-- full names are in a total order
pub fid_total : IsTotalOrder fid_cmp
fid_total = then_total (on_total (λ f. f.high) nat_cmp_total) (then_total (on_total (λ f. f.low) nat_cmp_total) (on_total (λ f. f.version) nat_cmp_total))

-- two orders that tie together tie alone
then_left : (a b : Ordering) → ordering_then a b ≡ Equal → a ≡ Equal
then_left Less b e = cc
then_left Equal b e = refl
then_left Greater b e = cc

-- so does the second
then_right : (a b : Ordering) → ordering_then a b ≡ Equal → b ≡ Equal
then_right Less b e = cc
then_right Equal b e = e
then_right Greater b e = cc

-- names that tie are one
pub fid_same : IsAntisymmetric fid_cmp
fid_same x y e =
    let h = nat_cmp-IsAntisymmetric x.high y.high (then_left _ _ e) in
    let l = nat_cmp-IsAntisymmetric x.low y.low (then_left _ _ (then_right (nat_cmp x.high y.high) _ e)) in
    let v = nat_cmp-IsAntisymmetric x.version y.version (then_right (nat_cmp x.low y.low) _ (then_right (nat_cmp x.high y.high) _ e)) in
    λ i. record { high = h i; low = l i; version = v i }

-- a full name is itself
pub is_fid-itself : (f : Fid) → is_fid f f ≡ true
is_fid-itself f = ap is_eq (tied_itself fid_total f)

-- the test of a tie
pub is_eq-Equal : (r : Ordering) → is_eq r ≡ true → r ≡ Equal
is_eq-Equal Less e = cc
is_eq-Equal Equal e = refl
is_eq-Equal Greater e = cc

-- names that pass the test are one
pub same_fid : (f g : Fid) → is_fid f g ≡ true → f ≡ g
same_fid f g e = fid_same f g (is_eq-Equal (fid_cmp f g) e)

-- the test is the same both ways
pub is_fid-sym : (f g : Fid) → is_fid f g ≡ is_fid g f
is_fid-sym f g = (eq_by_cmp_equiv fid_total).symm f g
