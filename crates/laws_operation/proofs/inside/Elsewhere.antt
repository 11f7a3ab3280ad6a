-- Sectors that concern one file alone: every other file stays where and what it is.
use Rattle.std.proofs.Common.{List, None, Option, Some, [], ap, cond, false, get_or, inl, inr, refl, set, subst, suc, sym, true, zero, ℕ, ◌&&◌, ◌+◌, ◌∙◌, ◌∷◌, ◌≡◌, ◌⊎◌}
use Rattle.std.specs.Option.{option_or}
use Rattle.std.specs.Prelude.{◌==◌}
use mathlib.Core.Path.{fun_ext}
use Rattle.laws_contents.specs.alto_words.specs.Fid.{is_fid}
use Rattle.laws_contents.specs.alto_words.specs.declared.fid.Fid.{Fid}
use Rattle.laws_contents.specs.pack_model.specs.reading.Files.{file_bytes, first, joined, leader, leader_at, most_pages, page_at}
use Rattle.laws_contents.specs.pack_model.specs.reading.Model.{good_one, good_sectors}
use Rattle.laws_contents.specs.pack_model.specs.reading.Sights.{Sight}
use Rattle.laws_contents.specs.pack_model.specs.reading.Sights.Sight.{free, hidden, holds, leads, stray}
use Rattle.laws_contents.specs.pack_model.specs.states.Whole.{HasPages, FileWhole, PageAt, Seated, absent, present}
use Rattle.laws_contents.specs.pack_laws.proofs.Keys.{is_fid-itself}

-- free, or of f
abbrev pub MayBe : Fid → Sight → Type 0
MayBe f hidden = ⊥
MayBe f free = Unit {0}
MayBe f stray = ⊥
MayBe f (leads g r l) = g ≡ f
MayBe f (holds g n b) = g ≡ f

-- the same, or free or of f in both
abbrev pub OneBut : Fid → Sight → Sight → Type 0
OneBut f s t = (s ≡ t) ⊎ (MayBe f s × MayBe f t)

-- sector by sector the same, or free or of f before and after
abbrev pub SameBut : Fid → List Sight → List Sight → Type 0
SameBut f [] [] = Unit {0}
SameBut f [] (t ∷ us) = ⊥
SameBut f (s ∷ ss) [] = ⊥
SameBut f (s ∷ ss) (t ∷ us) = OneBut f s t × SameBut f ss us

-- the sectors themselves
pub same_refl : (f : Fid) (ss : List Sight) → SameBut f ss ss
same_refl f [] = tt
same_refl f (s ∷ ss) = (inl refl, same_refl f ss)

-- one sector that concerns f
pub same_set : (f : Fid) (ss : List Sight) (i : ℕ) (s : Sight) → MayBe f (get_or ss i hidden) → MayBe f s → SameBut f ss (set ss i s)
same_set f [] i s a b = absurd a
same_set f (x ∷ ss) zero s a b = (inr (a, b), same_refl f ss)
same_set f (x ∷ ss) (suc i) s a b = (inl refl, same_set f ss i s a b)

-- one after another
one_trans : (f : Fid) (s t u : Sight) → OneBut f s t → OneBut f t u → OneBut f s u
one_trans f s t u a b = elim a [
  | inl e ↦ subst (λ x. OneBut f x u) (sym e) b
  | inr p ↦ elim b [ inl e ↦ inr (p.0, subst (MayBe f) e p.1) | inr q ↦ inr (p.0, q.1) ]
]

-- so for all sectors
pub but_trans : (f : Fid) (ss us vs : List Sight) → SameBut f ss us → SameBut f us vs → SameBut f ss vs
but_trans f [] [] [] a b = tt
but_trans f [] [] (v ∷ vs) a b = b
but_trans f [] (u ∷ us) vs a b = absurd a
but_trans f (s ∷ ss) [] vs a b = absurd a
but_trans f (s ∷ ss) (u ∷ us) [] a b = b
but_trans f (s ∷ ss) (u ∷ us) (v ∷ vs) a b = (one_trans f s u v a.0 b.0, but_trans f ss us vs a.1 b.1)

-- each sector
pub same_at : (f : Fid) (ss us : List Sight) (i : ℕ) → SameBut f ss us → OneBut f (get_or ss i hidden) (get_or us i hidden)
same_at f [] [] i a = inl refl
same_at f [] (u ∷ us) i a = absurd a
same_at f (s ∷ ss) [] i a = absurd a
same_at f (s ∷ ss) (u ∷ us) zero a = a.0
same_at f (s ∷ ss) (u ∷ us) (suc i) a = same_at f ss us i a.1

-- first answers that such sectors do not give
pub same_first : {X : Type 0} (h : Sight → Option X) (f : Fid) (ss us : List Sight) → ((s : Sight) → MayBe f s → h s ≡ None) → SameBut f ss us → first h ss ≡ first h us
unfolding first
same_first h f [] [] none a = refl
same_first h f [] (u ∷ us) none a = absurd a
same_first h f (s ∷ ss) [] none a = absurd a
same_first h f (s ∷ ss) (u ∷ us) none a =
    let e : h s ≡ h u = elim a.0 [ inl e ↦ ap h e | inr p ↦ none s p.0 ∙ sym (none u p.1) ] in
    ap (λ r. option_or r (first h ss)) e ∙ ap (option_or (h u)) (same_first h f ss us none a.1)

-- such a sector is good
may_good : (f : Fid) (s : Sight) → MayBe f s → good_one s ≡ 1
may_good f hidden m = absurd m
may_good f free m = refl
may_good f stray m = absurd m
may_good f (leads g r l) m = refl
may_good f (holds g n b) m = refl

-- as many good sectors
pub same_good : (f : Fid) (ss us : List Sight) → SameBut f ss us → good_sectors us ≡ good_sectors ss
same_good f [] [] a = refl
same_good f [] (u ∷ us) a = absurd a
same_good f (s ∷ ss) [] a = absurd a
same_good f (s ∷ ss) (u ∷ us) a =
    let e : good_one u ≡ good_one s = elim a.0 [ inl e ↦ ap good_one (sym e) | inr p ↦ may_good f u p.1 ∙ sym (may_good f s p.0) ] in
    ap (λ n. n + good_sectors us) e ∙ ap (λ n. good_one s + n) (same_good f ss us a.1)

-- ---- other files answer as before
-- they do not lead another file
leader_none : (f g : Fid) → is_fid g f ≡ false → (s : Sight) → MayBe f s → leader_at g s ≡ None
leader_none f g ne hidden m = refl
leader_none f g ne free m = refl
leader_none f g ne stray m = refl
leader_none f g ne (leads h r l) m = ap (λ b. cond b (Some l) None) (ap (is_fid g) m ∙ ne)
leader_none f g ne (holds h n b) m = refl

-- nor hold a page of it
page_none : (f g : Fid) (k : ℕ) → is_fid g f ≡ false → (s : Sight) → MayBe f s → page_at g k s ≡ None
page_none f g k ne hidden m = refl
page_none f g k ne free m = refl
page_none f g k ne stray m = refl
page_none f g k ne (leads h r l) m = refl
page_none f g k ne (holds h n b) m = ap (λ t. cond (t && k == n) (Some b) None) (ap (is_fid g) m ∙ ne)

module _ (f : Fid) (ss us : List Sight) (same : SameBut f ss us) where
  -- the leader of another file
  pub other_leader : (g : Fid) → is_fid g f ≡ false → leader us g ≡ leader ss g
  other_leader g ne = sym (same_first (leader_at g) f ss us (leader_none f g ne) same)

  -- its bytes
  pub other_bytes : (g : Fid) → is_fid g f ≡ false → file_bytes us g ≡ file_bytes ss g
  unfolding file_bytes
  other_bytes g ne = ap (joined most_pages) (fun_ext (λ n. sym (same_first (page_at g n) f ss us (page_none f g n ne) same)))

  -- a sector that does not concern f, before and after
  pub there : (i : ℕ) (s : Sight) → (MayBe f s → ⊥) → get_or ss i hidden ≡ s → get_or us i hidden ≡ s
  there i s never e = elim (same_at f ss us i same) [ inl h ↦ sym h ∙ e | inr p ↦ absurd (never (subst (MayBe f) e p.0)) ]

  -- and the other way round
  pub back : (i : ℕ) (s : Sight) → (MayBe f s → ⊥) → get_or us i hidden ≡ s → get_or ss i hidden ≡ s
  back i s never e = elim (same_at f ss us i same) [ inl h ↦ h ∙ e | inr p ↦ absurd (never (subst (MayBe f) e p.1)) ]

  -- no stray sector comes
  pub other_used : ((i : ℕ) → get_or ss i hidden ≡ stray → ⊥) → (i : ℕ) → get_or us i hidden ≡ stray → ⊥
  other_used used i e = used i (back i stray (λ n. n) e)

  -- THE FRAME: where another file lies
  module _ (g : Fid) (ne : g ≡ f → ⊥) where
    -- the seats of its pages
    seated_other : (k : ℕ) (cs : List PageAt) → Seated ss g k cs → Seated us g k cs
    seated_other k [] h = tt
    seated_other k (c ∷ cs) h = (there c.0 (holds g k c.1) ne h.0, seated_other (suc k) cs h.1)

    -- its pages
    carries_other : (pages : List PageAt) → HasPages ss g pages 0 [] → HasPages us g pages 0 []
    carries_other pages c = record { seated = seated_other 0 pages c.seated; waiting = tt; only = λ i m b e. c.only i m b (back i (holds g m b) ne e) }

    -- it is whole as before
    pub other_file : FileWhole ss g → FileWhole us g
    other_file (absent headless c) = absent (λ i r k e. headless i r k (back i (leads g r k) ne e)) (carries_other [] c)
    other_file (present at l pages leads_it c laid few) =
        present at l pages
        (record { shows = there at (leads g true l) ne leads_it.shows; only = λ i r k e. leads_it.only i r k (back i (leads g r k) ne e) })
        (carries_other pages c) laid few

-- another name is another file
pub not_same : (g f : Fid) → is_fid g f ≡ false → g ≡ f → ⊥
not_same g f ne e = let x : true ≡ false = sym (is_fid-itself f) ∙ ap (λ h. is_fid h f) (sym e) ∙ ne in absurd cc
