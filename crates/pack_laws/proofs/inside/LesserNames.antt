-- The lesser of two full names.
use Rattle.std.proofs.Common.{◌≡◌, Bool, true, false, cond, Option, Some, None, refl, sym, ap, ◌∙◌}
use Rattle.std.specs.Prelude.{T, ◌&&◌}
use Rattle.std.specs.declared.cmp.Ordering.{Ordering}
use Rattle.std.specs.declared.cmp.Ordering.TheVariants.{Less, Equal, Greater}
use Rattle.std.specs.Ordering.{is_lt, ordering_reverse}
use Rattle.pack_model.specs.alto_words.specs.declared.fid.Fid.{Fid}
use Rattle.pack_model.specs.alto_words.specs.Fid.{fid_cmp}
use Rattle.pack_laws.specs.Least.{least}
use Rattle.pack_laws.proofs.Keys.{fid_total, fid_same}

-- the test of the order
pub less : (r : Ordering) → is_lt r ≡ true → r ≡ Less
less Less e = refl
less Equal e = cc
less Greater e = cc

-- the first of two
pub left : (a b : Bool) → T (a && b) → a ≡ true
left true b h = refl
left false b h = absurd h

-- the second of two
pub right : (a b : Bool) → T (a && b) → T b
right true b h = h
right false b h = absurd h

-- both of them
pub both : (a b : Bool) → a ≡ true → T b → T (a && b)
both true b e h = h
both false b e h = cc

-- ---- the lesser of two
-- what the order says the other way round
turned : (f g : Fid) (r : Ordering) → fid_cmp f g ≡ r → fid_cmp g f ≡ ordering_reverse r
turned f g r e = fid_total.antisymm g f ∙ ap ordering_reverse e

-- the lesser of two names
abbrev lesser : Fid → Fid → Fid
lesser f g = cond (is_lt (fid_cmp f g)) f g

-- in either order
lesser-comm : (f g : Fid) → lesser f g ≡ lesser g f
lesser-comm f g = elim (fid_cmp f g) as (λ r. fid_cmp f g ≡ r → cond (is_lt r) f g ≡ lesser g f) [
  | Less ↦ λ e. sym (ap (λ r. cond (is_lt r) g f) (turned f g Less e))
  | Equal ↦ λ e. sym (fid_same f g e) ∙ sym (ap (λ r. cond (is_lt r) g f) (turned f g Equal e))
  | Greater ↦ λ e. sym (ap (λ r. cond (is_lt r) g f) (turned f g Greater e))
] refl

-- f is below h, and g isn't
below_other : (f g h : Fid) → is_lt (fid_cmp f h) ≡ true → is_lt (fid_cmp g h) ≡ false → lesser g f ≡ f
below_other f g h a b = lesser-comm g f ∙ ap (λ t. cond t f g) (less_than_g (fid_cmp g h) refl)
  where
    f_below : fid_cmp f h ≡ Less
    f_below = less (fid_cmp f h) a

    less_than_g : (r : Ordering) → fid_cmp g h ≡ r → is_lt (fid_cmp f g) ≡ true
    less_than_g Less e = absurd (let x : is_lt (fid_cmp g h) ≡ true = ap is_lt e in cc)
    less_than_g Equal e = ap (λ x. is_lt (fid_cmp f x)) (fid_same g h e) ∙ a
    less_than_g Greater e = ap is_lt (fid_total.trans f h g f_below (turned g h Greater e))

-- of three, the last two in either order
lesser-turns : (f g h : Fid) → lesser g (lesser f h) ≡ lesser f (lesser g h)
lesser-turns f g h = by (is_lt (fid_cmp f h)) (is_lt (fid_cmp g h)) refl refl
  where
    by : (a b : Bool) → is_lt (fid_cmp f h) ≡ a → is_lt (fid_cmp g h) ≡ b → lesser g (cond a f h) ≡ lesser f (cond b g h)
    by true true p q = lesser-comm g f
    by true false p q = below_other f g h p q ∙ sym (ap (λ t. cond t f h) p)
    by false true p q = ap (λ t. cond t g h) q ∙ sym (below_other g f h q p)
    by false false p q = ap (λ t. cond t g h) q ∙ sym (ap (λ t. cond t f h) p)

-- the same of one that was found
pub least-turns : (r : Option Fid) (f g : Fid) → least (least r f) g ≡ least (least r g) f
least-turns None f g = ap Some (lesser-comm g f)
least-turns (Some h) f g = ap Some (lesser-turns f g h)

-- a name that ties with the first
pub tied : (b c : Bool) (x k : Fid) (r : Option Fid) → b ≡ c → is_lt (fid_cmp k x) ≡ false → cond b (Some x) r ≡ cond c (least (cond b (Some x) r) k) (cond b (Some x) r)
tied true true x k r e is = sym (ap (λ t. Some (cond t k x)) is)
tied true false x k r e is = cc
tied false true x k r e is = cc
tied false false x k r e is = refl

-- a name that is beyond the first
pub beyond : (b c : Bool) (x k : Fid) (r s : Option Fid) → s ≡ cond c (least r k) r → is_lt (fid_cmp k x) ≡ false → cond b (Some x) s ≡ cond c (least (cond b (Some x) r) k) (cond b (Some x) r)
beyond true true x k r s e is = sym (ap (λ t. Some (cond t k x)) is)
beyond true false x k r s e is = refl
beyond false c x k r s e is = e
