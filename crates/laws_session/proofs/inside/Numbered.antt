-- Open streams by rising number, each of a file of its own: one in the place of another, a new one, one that goes.
use Rattle.std.proofs.Common.{◌≡◌, ◌≤◌, ◌<◌, ℕ, ◌==◌, Bool, true, false, cond, nat_lt, All, List, [], ◌∷◌, Some, None, refl, sym, subst, ◌∙◌, ap, arith, eqb-true}
use Rattle.std.proofs.lemmas.Bool.{eqb-false, ltb-false, ltb-true}
use Rattle.std.proofs.lemmas.List.Elements.{All-cons, All-head, All-nil, All-tail}
use Rattle.laws_line.specs.alto_words.specs.declared.fid.Fid.{Fid}
use Rattle.laws_line.specs.alto_words.specs.Fid.{is_fid}
use Rattle.laws_line.specs.pack_laws.proofs.Keys.{is_fid-sym}
use Rattle.session_model.specs.Keeping.{AreApart, ComesBefore}
use Rattle.session_model.specs.Streams.{Stream, stream_at, with_stream, without_stream}
use Rattle.laws_session.specs.StreamLaws.{StreamsStayApart}

-- ---- each of them
abbrev pub OfEach : (Stream → Type 0) → List Stream → Type 0
OfEach P [] = Unit {0}
OfEach P (s ∷ ss) = P s × OfEach P ss

pub each_all : (P : Stream → Type 0) (ss : List Stream) → OfEach P ss → All P ss
each_all P [] h = All-nil P
each_all P (s ∷ ss) h = All-cons P s ss h.0 (each_all P ss h.1)

pub all_each : (P : Stream → Type 0) (ss : List Stream) → All P ss → OfEach P ss
all_each P [] h = tt
all_each P (s ∷ ss) h = (All-head P s ss h, all_each P ss (All-tail P s ss h))

pub each_to : (P Q : Stream → Type 0) (ss : List Stream) → ((s : Stream) → P s → Q s) → OfEach P ss → OfEach Q ss
each_to P Q [] to h = tt
each_to P Q (s ∷ ss) to h = (to s h.0, each_to P Q ss to h.1)

-- ---- the one of a number
-- it has this number, and comes after one that comes before all of them
pub has_number : (n : ℕ) (ss : List Stream) (s : Stream) → stream_at n ss ≡ Some s → s.number ≡ n
has_number n [] s e = absurd (let x : None ≡ Some s = e in cc)
has_number n (t ∷ ss) s e = by (t.number == n) refl e (has_number n ss s)
  where
    by : (b : Bool) → (t.number == n) ≡ b → cond b (Some t) (stream_at n ss) ≡ Some s → (stream_at n ss ≡ Some s → s.number ≡ n) → s.number ≡ n
    by true is k more = let same : t ≡ s = cc in sym (ap (λ u. u.number) same) ∙ eqb-true t.number n is
    by false is k more = more k

found_after : (t : Stream) (n : ℕ) (ss : List Stream) (s : Stream) → ComesBefore t ss → stream_at n ss ≡ Some s → (t.number < s.number) × (is_fid s.fid t.fid ≡ false)
found_after t n [] s before e = absurd (let x : None ≡ Some s = e in cc)
found_after t n (u ∷ ss) s before e = by (u.number == n) e (found_after t n ss s before.2)
  where
    by : (b : Bool) → cond b (Some u) (stream_at n ss) ≡ Some s → (stream_at n ss ≡ Some s → (t.number < s.number) × (is_fid s.fid t.fid ≡ false)) → (t.number < s.number) × (is_fid s.fid t.fid ≡ false)
    by true k more = let same : u ≡ s = cc in subst (λ v. (t.number < v.number) × (is_fid v.fid t.fid ≡ false)) same (before.0, before.1)
    by false k more = more k

-- what is so of each is so of it
pub found_is : (P : Stream → Type 0) (n : ℕ) (ss : List Stream) (s : Stream) → stream_at n ss ≡ Some s → OfEach P ss → P s
found_is P n [] s e h = absurd (let x : None ≡ Some s = e in cc)
found_is P n (t ∷ ss) s e h = by (t.number == n) e (λ k. found_is P n ss s k h.1)
  where
    by : (b : Bool) → cond b (Some t) (stream_at n ss) ≡ Some s → (stream_at n ss ≡ Some s → P s) → P s
    by true k more = let same : t ≡ s = cc in subst P same h.0
    by false k more = more k

apply : (P Q : Stream → Type 0) (ss : List Stream) → OfEach (λ t. P t → Q t) ss → OfEach P ss → OfEach Q ss
apply P Q [] f h = tt
apply P Q (s ∷ ss) f h = (f.0 h.0, apply P Q ss f.1 h.1)

not_below : (a b : ℕ) → b ≤ a → nat_lt a b ≡ false
not_below a b less = by (nat_lt a b) refl
  where
    by : (c : Bool) → nat_lt a b ≡ c → c ≡ false
    by false e = refl
    by true e = let more = ltb-true a b e in absurd (omega (arith, more, less))

-- ---- of files of their own
-- one before all of these is of another file than each
pub others_of : (s : Stream) (ss : List Stream) → ComesBefore s ss → OfEach (λ t. is_fid t.fid s.fid ≡ false) ss
others_of s [] before = tt
others_of s (t ∷ ts) before = (before.1, others_of s ts before.2)

-- a stream comes before these by its number and file alone
same_before : (s u : Stream) (ss : List Stream) → u.number ≡ s.number → u.fid ≡ s.fid → ComesBefore s ss → ComesBefore u ss
same_before s u [] number fid before = tt
same_before s u (t ∷ ts) number fid before =
    let less = before.0 in
    (omega (arith, less, number), ap (is_fid t.fid) fid ∙ before.1, same_before s u ts number fid before.2)

-- it comes before those with a new one after it
before_with : (t s : Stream) (ss : List Stream) → t.number < s.number → is_fid s.fid t.fid ≡ false → ComesBefore t ss → ComesBefore t (with_stream s ss)
before_with t s [] less other before = (less, other, tt)
before_with t s (u ∷ us) less other before = by (u.number == s.number) (nat_lt s.number u.number) (before_with t s us less other before.2)
  where
    by : (a b : Bool) → ComesBefore t (with_stream s us) → ComesBefore t (cond a (s ∷ us) (cond b (s ∷ u ∷ us) (u ∷ with_stream s us)))
    by true b more = (less, other, before.2)
    by false true more = (less, other, before)
    by false false more = (before.0, before.1, more)

before_without : (t : Stream) (n : ℕ) (ss : List Stream) → ComesBefore t ss → ComesBefore t (without_stream n ss)
before_without t n [] before = tt
before_without t n (u ∷ us) before = by (u.number == n) (before_without t n us before.2)
  where
    by : (b : Bool) → ComesBefore t (without_stream n us) → ComesBefore t (cond b us (u ∷ without_stream n us))
    by true more = before.2
    by false more = (before.0, before.1, more)

-- ---- one in the place of that of its number
-- All are so, of which the others were, and they are apart.
pub record Stay (Q : Stream → Type 0) (ss : List Stream) : Type 0 where
  pub each : OfEach Q ss
  pub apart : AreApart ss

pub in_its_place : (Q : Stream → Type 0) (n : ℕ) (s u : Stream) (ss : List Stream) → stream_at n ss ≡ Some s → u.number ≡ s.number → u.fid ≡ s.fid → AreApart ss → Q u → OfEach (λ t. is_fid t.fid s.fid ≡ false → Q t) ss → Stay Q (with_stream u ss)
in_its_place Q n s u [] found number fid apart own others = absurd (let x : None ≡ Some s = found in cc)
in_its_place Q n s u (t ∷ ts) found number fid apart own others = by (t.number == n) refl found (λ k. in_its_place Q n s u ts k number fid apart.1 own others.1)
  where
    own_number : u.number ≡ n
    own_number = number ∙ has_number n (t ∷ ts) s found

    at_its_place : (t.number == n) ≡ true → t ≡ s → Stay Q (with_stream u (t ∷ ts))
    at_its_place is same =
        let equal : (t.number == u.number) ≡ true = ap (λ k. t.number == k) own_number ∙ is in
        subst (λ b. Stay Q (cond b (u ∷ ts) (cond (nat_lt u.number t.number) (u ∷ t ∷ ts) (t ∷ with_stream u ts)))) (sym equal)
        record {
          each = (own, apply (λ w. is_fid w.fid s.fid ≡ false) Q ts others.1 (subst (λ v. OfEach (λ w. is_fid w.fid v.fid ≡ false) ts) same (others_of t ts apart.0)));
          apart = (same_before t u ts (number ∙ sym (ap (λ v. v.number) same)) (fid ∙ sym (ap (λ v. v.fid) same)) apart.0, apart.1);
        }

    later : (t.number == n) ≡ false → stream_at n ts ≡ Some s → Stay Q (with_stream u ts) → Stay Q (with_stream u (t ∷ ts))
    later is k more =
        let after = found_after t n ts s apart.0 k in
        let less = after.0 in
        let unequal : (t.number == u.number) ≡ false = ap (λ k. t.number == k) own_number ∙ is in
        let past : nat_lt u.number t.number ≡ false = not_below u.number t.number (omega (arith, less, number)) in
        subst (λ b. Stay Q (cond b (u ∷ ts) (cond (nat_lt u.number t.number) (u ∷ t ∷ ts) (t ∷ with_stream u ts)))) (sym unequal)
        (subst (λ b. Stay Q (cond b (u ∷ t ∷ ts) (t ∷ with_stream u ts))) (sym past)
        record {
          each = (others.0 (is_fid-sym t.fid s.fid ∙ after.1), more.each);
          apart = (before_with t u ts (omega (arith, less, number)) (ap (λ f. is_fid f t.fid) fid ∙ after.1) apart.0, more.apart);
        })

    by : (b : Bool) → (t.number == n) ≡ b → cond b (Some t) (stream_at n ts) ≡ Some s → (stream_at n ts ≡ Some s → Stay Q (with_stream u ts)) → Stay Q (with_stream u (t ∷ ts))
    by true is k more = at_its_place is cc
    by false is k more = later is k (more k)

-- ---- one goes
without_apart : (n : ℕ) (ss : List Stream) → AreApart ss → AreApart (without_stream n ss)
without_apart n [] apart = tt
without_apart n (t ∷ ts) apart = by (t.number == n) (without_apart n ts apart.1)
  where
    by : (b : Bool) → AreApart (without_stream n ts) → AreApart (cond b ts (t ∷ without_stream n ts))
    by true more = apart.1
    by false more = (before_without t n ts apart.0, more)

others_stay : (Q : Stream → Type 0) (n : ℕ) (s : Stream) (ss : List Stream) → stream_at n ss ≡ Some s → AreApart ss → OfEach (λ t. is_fid t.fid s.fid ≡ false → Q t) ss → OfEach Q (without_stream n ss)
others_stay Q n s [] found apart others = tt
others_stay Q n s (t ∷ ts) found apart others = by (t.number == n) found (λ k. others_stay Q n s ts k apart.1 others.1)
  where
    by : (b : Bool) → cond b (Some t) (stream_at n ts) ≡ Some s → (stream_at n ts ≡ Some s → OfEach Q (without_stream n ts)) → OfEach Q (cond b ts (t ∷ without_stream n ts))
    by true k more =
        let same : t ≡ s = cc in
        apply (λ w. is_fid w.fid s.fid ≡ false) Q ts others.1 (subst (λ v. OfEach (λ w. is_fid w.fid v.fid ≡ false) ts) same (others_of t ts apart.0))
    by false k more = (others.0 (is_fid-sym t.fid s.fid ∙ (found_after t n ts s apart.0 k).1), more k)

pub without_it : (Q : Stream → Type 0) (n : ℕ) (s : Stream) (ss : List Stream) → stream_at n ss ≡ Some s → AreApart ss → OfEach (λ t. is_fid t.fid s.fid ≡ false → Q t) ss → Stay Q (without_stream n ss)
without_it Q n s ss found apart others = record { each = others_stay Q n s ss found apart others; apart = without_apart n ss apart }

-- ---- one comes, over a file that none has
before_all : (s t : Stream) (ss : List Stream) → s.number ≤ t.number → ComesBefore t ss → OfEach (λ u. is_fid u.fid s.fid ≡ false) ss → ComesBefore s ss
before_all s t [] least before others = tt
before_all s t (u ∷ us) least before others = let next = before.0 in (omega (arith, least, next), others.0, before_all s t us least before.2 others.1)

pub new_one : (Q : Stream → Type 0) (s : Stream) (ss : List Stream) → AreApart ss → OfEach (λ t. is_fid t.fid s.fid ≡ false) ss → Q s → OfEach Q ss → Stay Q (with_stream s ss)
new_one Q s [] apart others own each = record { each = (own, tt); apart = (tt, tt) }
new_one Q s (t ∷ ts) apart others own each = by (t.number == s.number) (nat_lt s.number t.number) refl refl (new_one Q s ts apart.1 others.1 own each.1)
  where
    by : (a b : Bool) → (t.number == s.number) ≡ a → nat_lt s.number t.number ≡ b → Stay Q (with_stream s ts) → Stay Q (cond a (s ∷ ts) (cond b (s ∷ t ∷ ts) (t ∷ with_stream s ts)))
    by true b same is more =
        let equal = eqb-true t.number s.number same in
        record { each = (own, each.1); apart = (before_all s t ts (omega (arith, equal)) apart.0 others.1, apart.1) }
    by false true other is more =
        let less = ltb-true s.number t.number is in
        record { each = (own, each); apart = ((less, others.0, before_all s t ts (omega (arith, less)) apart.0 others.1), apart) }
    by false false other is more =
        let least = ltb-false s.number t.number is in
        let unequal = eqb-false t.number s.number other in
        record { each = (each.0, more.each); apart = (before_with t s ts (omega (arith, least, unequal)) (is_fid-sym s.fid t.fid ∙ others.0) apart.0, more.apart) }

-- ---- apart, whatever else is so of them
abbrev Any : Stream → Type 0
Any s = Unit {0}

any_each : (ss : List Stream) → OfEach Any ss
any_each [] = tt
any_each (s ∷ ss) = (tt, any_each ss)

any_other : (f : Fid) (ss : List Stream) → OfEach (λ t. is_fid t.fid f ≡ false → Any t) ss
any_other f [] = tt
any_other f (s ∷ ss) = ((λ e. tt), any_other f ss)

pub streams_stay_apart : StreamsStayApart
streams_stay_apart ss apart = record {
  put = λ n s u found number fid. (in_its_place Any n s u ss found number fid apart tt (any_other s.fid ss)).apart;
  come = λ u others. (new_one Any u ss apart (all_each (λ t. is_fid t.fid u.fid ≡ false) ss others) tt (any_each ss)).apart;
  go = λ n. without_apart n ss apart;
}
