-- Whole packs by lists of what their sectors show: tests that compute, and what follows from them.
use Rattle.std.proofs.Common.{◌≡◌, ℕ, zero, suc, ◌+◌, ◌==◌, ◌&&◌, ◌||◌, Bool, true, false, not, List, [], ◌∷◌, None, Some, refl, sym, ap, subst, ◌∙◌, arith, inl, inr}
use Rattle.std.proofs.lemmas.Bool.{eqb-true}
use Rattle.std.specs.List.{list_all, list_any}
use Rattle.std.specs.Option.{option_or}
use Rattle.std.specs.Prelude.{cond, get_or}
use Rattle.laws_steps.specs.alto_words.specs.declared.fid.Fid.{Fid}
use Rattle.laws_steps.specs.alto_words.specs.Fid.{is_fid}
use Rattle.laws_steps.specs.pack_laws.proofs.Keys.{is_fid-itself, same_fid}
use Rattle.laws_steps.specs.pack_model.specs.reading.Files.{first, leader, numbered}
use Rattle.laws_steps.specs.pack_model.specs.reading.Leaders.{Leader}
use Rattle.laws_steps.specs.pack_model.specs.reading.Sights.{Sight}
use Rattle.laws_steps.specs.pack_model.specs.reading.Sights.Sight.{free, hidden, holds, leads, stray}
use Rattle.laws_steps.specs.pack_model.specs.states.Whole.{Headless, HasPages, IsSeat, Leads, PageAt, Seated}
use Rattle.laws_steps.specs.laws_record.proofs.Heads.{and_left, and_right}

-- ---- what holds of each sector
abbrev each : (ℕ → Sight → Bool) → ℕ → List Sight → Bool
each ok at ss = list_all (λ e. ok e.0 e.1) (numbered at ss)

at_each : (ok : ℕ → Sight → Bool) → ((i : ℕ) → ok i hidden ≡ true) → (at : ℕ) (ss : List Sight) → each ok at ss ≡ true → (i : ℕ) → ok (at + i) (get_or ss i hidden) ≡ true
at_each ok none at [] is i = none (at + i)
at_each ok none at (s ∷ ss) is zero = let here : at + 0 ≡ at = omega arith in ap (λ n. ok n s) here ∙ and_left (ok at s) (each ok (suc at) ss) is
at_each ok none at (s ∷ ss) is (suc i) =
    let here : at + suc i ≡ suc at + i = omega arith in
    ap (λ n. ok n (get_or ss i hidden)) here ∙ at_each ok none (suc at) ss (and_right (ok at s) (each ok (suc at) ss) is) i

-- ---- the leader of a file
abbrev pub leads_at : Fid → ℕ → ℕ → Sight → Bool
leads_at f at i hidden = true
leads_at f at i free = true
leads_at f at i stray = true
leads_at f at i (leads g r l) = not (is_fid f g) || i == at
leads_at f at i (holds g n bytes) = true

after_not : (a b : Bool) → a ≡ true → (not a || b) ≡ true → b ≡ true
after_not true b is e = e
after_not false b is e = absurd cc

pub leads_alone : (ss : List Sight) (f : Fid) (at : ℕ) (l : Leader) → get_or ss at hidden ≡ leads f true l → each (leads_at f at) 0 ss ≡ true → Leads ss f at true l
leads_alone ss f at l shows is = record {
  shows = shows;
  only = λ i r k e.
      let here : 0 + i ≡ i = omega arith in
      eqb-true i at (after_not (is_fid f f) (i == at) (is_fid-itself f) (sym (ap (leads_at f at i) e) ∙ sym (ap (λ n. leads_at f at n (get_or ss i hidden)) here) ∙ at_each (leads_at f at) (λ i. refl) 0 ss is i));
}

-- ---- its data pages
abbrev is_seat : ℕ → List PageAt → ℕ → ℕ → Bool
is_seat k [] m i = false
is_seat k (c ∷ cs) m i = (m == k && i == c.0) || is_seat (suc k) cs m i

seat_of : (k : ℕ) (pages : List PageAt) (m i : ℕ) → is_seat k pages m i ≡ true → IsSeat k pages m i
seat_of k [] m i e = absurd cc
seat_of k (c ∷ cs) m i e = by (m == k && i == c.0) refl e (seat_of (suc k) cs m i)
  where
    by : (b : Bool) → (m == k && i == c.0) ≡ b → (b || is_seat (suc k) cs m i) ≡ true → (is_seat (suc k) cs m i ≡ true → IsSeat (suc k) cs m i) → IsSeat k (c ∷ cs) m i
    by true is e later = inl (eqb-true m k (and_left (m == k) (i == c.0) is), eqb-true i c.0 (and_right (m == k) (i == c.0) is))
    by false is e later = inr (later e)

abbrev pub holds_at : Fid → List PageAt → ℕ → Sight → Bool
holds_at f pages i hidden = true
holds_at f pages i free = true
holds_at f pages i stray = true
holds_at f pages i (leads g r l) = true
holds_at f pages i (holds g m bytes) = not (is_fid f g) || is_seat 0 pages m i

pub has_pages : (ss : List Sight) (f : Fid) (pages : List PageAt) → Seated ss f 0 pages → each (holds_at f pages) 0 ss ≡ true → HasPages ss f pages 0 []
has_pages ss f pages seated is = record {
  seated = seated;
  waiting = tt;
  only = λ i m bytes e.
      let here : 0 + i ≡ i = omega arith in
      inl (seat_of 0 pages m i (after_not (is_fid f f) (is_seat 0 pages m i) (is_fid-itself f) (sym (ap (holds_at f pages i) e) ∙ sym (ap (λ n. holds_at f pages n (get_or ss i hidden)) here) ∙ at_each (holds_at f pages) (λ i. refl) 0 ss is i)));
}

-- ---- the files that sectors speak of
abbrev pub spoken : List Sight → List Fid
spoken [] = []
spoken (hidden ∷ ss) = spoken ss
spoken (free ∷ ss) = spoken ss
spoken (stray ∷ ss) = spoken ss
spoken (leads f r l ∷ ss) = f ∷ spoken ss
spoken (holds f n bytes ∷ ss) = f ∷ spoken ss

abbrev speaks_not : Fid → ℕ → Sight → Bool
speaks_not f i hidden = true
speaks_not f i free = true
speaks_not f i stray = true
speaks_not f i (leads g r l) = not (is_fid f g)
speaks_not f i (holds g n bytes) = not (is_fid f g)

neither : (a b : Bool) → (a || b) ≡ false → (not a ≡ true) × (b ≡ false)
neither true b e = absurd cc
neither false b e = (refl, e)

both_true : (a b : Bool) → a ≡ true → b ≡ true → (a && b) ≡ true
both_true a b x y = λ i. x i && y i

silent : (f : Fid) (at : ℕ) (ss : List Sight) → list_any (is_fid f) (spoken ss) ≡ false → each (speaks_not f) at ss ≡ true
silent f at [] e = refl
silent f at (hidden ∷ ss) e = silent f (suc at) ss e
silent f at (free ∷ ss) e = silent f (suc at) ss e
silent f at (stray ∷ ss) e = silent f (suc at) ss e
silent f at (leads g r l ∷ ss) e = let h = neither (is_fid f g) (list_any (is_fid f) (spoken ss)) e in both_true (not (is_fid f g)) (each (speaks_not f) (suc at) ss) h.0 (silent f (suc at) ss h.1)
silent f at (holds g n bytes ∷ ss) e = let h = neither (is_fid f g) (list_any (is_fid f) (spoken ss)) e in both_true (not (is_fid f g)) (each (speaks_not f) (suc at) ss) h.0 (silent f (suc at) ss h.1)

not_itself : (f : Fid) → not (is_fid f f) ≡ true → ⊥
not_itself f e = let same : not (is_fid f f) ≡ false = ap not (is_fid-itself f) in let both : true ≡ false = sym e ∙ same in cc

pub headless : (ss : List Sight) (f : Fid) → list_any (is_fid f) (spoken ss) ≡ false → Headless ss f
headless ss f e = λ i r k is. not_itself f (sym (ap (speaks_not f (0 + i)) is) ∙ at_each (speaks_not f) (λ i. refl) 0 ss (silent f 0 ss e) i)

pub pageless : (ss : List Sight) (f : Fid) → list_any (is_fid f) (spoken ss) ≡ false → HasPages ss f [] 0 []
pageless ss f e = record {
  seated = tt;
  waiting = tt;
  only = λ i m bytes is. absurd (not_itself f (sym (ap (speaks_not f (0 + i)) is) ∙ at_each (speaks_not f) (λ i. refl) 0 ss (silent f 0 ss e) i));
}

pub leaderless : (ss : List Sight) (f : Fid) → list_any (is_fid f) (spoken ss) ≡ false → leader ss f ≡ None
unfolding first
leaderless [] f e = refl
leaderless (hidden ∷ ss) f e = leaderless ss f e
leaderless (free ∷ ss) f e = leaderless ss f e
leaderless (stray ∷ ss) f e = leaderless ss f e
leaderless (leads g r l ∷ ss) f e = none (is_fid f g) (list_any (is_fid f) (spoken ss)) e (leaderless ss f)
  where
    none : (a b : Bool) → (a || b) ≡ false → (b ≡ false → leader ss f ≡ None) → option_or (cond a (Some l) None) (leader ss f) ≡ None
    none true b e h = absurd cc
    none false b e h = h e
leaderless (holds g n bytes ∷ ss) f e = none (is_fid f g) (list_any (is_fid f) (spoken ss)) e (leaderless ss f)
  where
    none : (a b : Bool) → (a || b) ≡ false → (b ≡ false → leader ss f ≡ None) → leader ss f ≡ None
    none true b e h = absurd cc
    none false b e h = h e

-- what holds of each of these files holds of each that sectors speak of
pub data Each (P : Fid → Type 0) : List Fid → Type 0 where
  nobody : Each P []
  and_one : {f : Fid} {fs : List Fid} → P f → Each P fs → Each P (f ∷ fs)

pub of_each : (P : Fid → Type 0) (fs : List Fid) → Each P fs → (f : Fid) → list_any (is_fid f) fs ≡ true → P f
of_each P [] h f e = absurd cc
of_each P (g ∷ fs) (and_one here rest) f e = by (is_fid f g) refl e (of_each P fs rest f)
  where
    by : (b : Bool) → is_fid f g ≡ b → (b || list_any (is_fid f) fs) ≡ true → (list_any (is_fid f) fs ≡ true → P f) → P f
    by true is e later = subst P (sym (same_fid f g is)) here
    by false is e later = later e

-- ---- no sector is stray
abbrev is_known : ℕ → Sight → Bool
is_known i hidden = true
is_known i free = true
is_known i stray = false
is_known i (leads f r l) = true
is_known i (holds f n bytes) = true

pub unlike_any : (ss : List Sight) → each is_known 0 ss ≡ true → (i : ℕ) → get_or ss i hidden ≡ stray → ⊥
unlike_any ss is i e = let known : is_known (0 + i) stray ≡ true = sym (ap (is_known (0 + i)) e) ∙ at_each is_known (λ i. refl) 0 ss is i in cc
