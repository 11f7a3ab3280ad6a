-- The pages that carry a file, when one is claimed, written or released.
use Rattle.std.proofs.Common.{Bool, List, None, Some, [], ap, arith, cond, false, get_or, inl, inr, length, refl, set, subst, suc, sym, true, ℕ, ◌++◌, ◌+◌, ◌<◌, ◌∙◌, ◌∷◌, ◌≡◌, ◌≤◌, ◌⊎◌}
use Rattle.std.proofs.lemmas.List.{get_or-set_other, get_or-set_same, get_or_default, length-append, set-get_or}
use Rattle.laws_contents.specs.alto_words.specs.Fid.{is_fid}
use Rattle.laws_contents.specs.alto_words.specs.declared.fid.Fid.{Fid}
use Rattle.laws_contents.specs.pack_model.specs.reading.Files.{first, leader, leader_at}
use Rattle.laws_contents.specs.pack_model.specs.reading.Leaders.{Leader}
use Rattle.laws_contents.specs.pack_model.specs.reading.Model.{good_one}
use Rattle.laws_contents.specs.pack_model.specs.reading.Sights.{Sight}
use Rattle.laws_contents.specs.pack_model.specs.reading.Sights.Sight.{free, hidden, holds, leads, stray}
use Rattle.laws_contents.specs.pack_model.specs.states.Whole.{HasPages, Headless, IsLaid, IsSeat, Leads, PageAt, Seated}
use Rattle.laws_contents.specs.pack_laws.proofs.Firsts.{first_alone, first_none}
use Rattle.laws_contents.specs.pack_laws.proofs.Keys.{is_fid-itself, same_fid}
use Rattle.laws_operation.proofs.Lying.{same_number, seat_left, seat_right, seat_split, seated_join, seated_left, seated_right, seated_set, shows_set, within}

module _ (ss : List Sight) (f : Fid) (pages : List PageAt) (lo : ℕ) (loose : List PageAt) (c : HasPages ss f pages lo loose) where
  -- the next loose page is claimed
  pub carries_claim : (a n : ℕ) (b : List ℕ) → get_or ss a hidden ≡ free → n ≡ lo + length loose → HasPages (set ss a (holds f n b)) f pages lo (loose ++ (a, b) ∷ [])
  carries_claim a n b is number =
      let l : a < length ss = within ss a (ap good_one is) in
      let here : get_or (set ss a (holds f n b)) a hidden ≡ holds f (lo + length loose) b = get_or-set_same ss a (holds f n b) hidden l ∙ ap (λ n. holds f n b) number in
      record {
        seated = seated_set ss a (holds f n b) f 0 pages not_page c.seated;
        waiting = seated_join (set ss a (holds f n b)) f lo loose ((a, b) ∷ []) (seated_set ss a (holds f n b) f lo loose not_page c.waiting) (here, tt);
        only = λ i m d e. elim (shows_set ss a (holds f n b) i (holds f m d) l e) [
          | inl p ↦ inr (seat_right lo loose ((a, b) ∷ []) m i (inl (sym (same_number f n m b d p.1) ∙ number, p.0)))
          | inr q ↦ elim (c.only i m d q.1) [ inl s ↦ inl s | inr s ↦ inr (seat_left lo loose ((a, b) ∷ []) m i s) ]
        ];
      }
    where
      not_page : {k h : ℕ} (m : ℕ) (d : List ℕ) → k ≤ m → m < h → get_or ss a hidden ≡ holds f m d → ⊥
      not_page m d x y e = let z : free ≡ holds f m d = sym is ∙ e in absurd cc

  -- a sector that neither was nor becomes a page of f
  pub carries_set : (i : ℕ) (s : Sight) → i < length ss → ((m : ℕ) (b : List ℕ) → get_or ss i hidden ≡ holds f m b → ⊥) → ((m : ℕ) (b : List ℕ) → s ≡ holds f m b → ⊥) → HasPages (set ss i s) f pages lo loose
  carries_set i s l was becomes = record {
    seated = seated_set ss i s f 0 pages (λ m b x y e. was m b e) c.seated;
    waiting = seated_set ss i s f lo loose (λ m b x y e. was m b e) c.waiting;
    only = λ j m b e. elim (shows_set ss i s j (holds f m b) l e) [ inl p ↦ absurd (becomes m b p.1) | inr q ↦ c.only j m b q.1 ];
  }

-- the first loose page is released
pub carries_release : (ss : List Sight) (f : Fid) (pages : List PageAt) (lo : ℕ) (d : PageAt) (loose : List PageAt) → HasPages ss f pages lo (d ∷ loose) → length pages ≤ lo → HasPages (set ss d.0 free) f pages (suc lo) loose
carries_release ss f pages lo d loose c apart =
    let is = c.waiting.0 in
    let l : d.0 < length ss = within ss d.0 (ap good_one is) in
    record {
      seated = seated_set ss d.0 free f 0 pages (λ m b x y e. let n : lo ≡ m = same_number f lo m d.1 b (sym is ∙ e) in omega arith) c.seated;
      waiting = seated_set ss d.0 free f (suc lo) loose (λ m b x y e. let n : lo ≡ m = same_number f lo m d.1 b (sym is ∙ e) in omega arith) c.waiting.1;
      only = λ i m b e. elim (shows_set ss d.0 free i (holds f m b) l e) [
        | inl p ↦ let z = p.1 in absurd cc
        | inr q ↦ elim (c.only i m b q.1) [ inl s ↦ inl s | inr s ↦ elim s [ inl h ↦ absurd (q.0 h.1) | inr t ↦ inr t ] ]
      ];
    }

-- a page holds other bytes
pub carries_write : (ss : List Sight) (f : Fid) (front : List PageAt) (i : ℕ) (old : List ℕ) (later : List PageAt) (lo : ℕ) (loose : List PageAt) (new : List ℕ)
    → HasPages ss f (front ++ (i, old) ∷ later) lo loose → length (front ++ (i, old) ∷ later) ≤ lo ⊎ (loose ≡ []) → HasPages (set ss i (holds f (length front) new)) f (front ++ (i, new) ∷ later) lo loose
carries_write ss f front i old later lo loose new c apart =
    let s : Sight = holds f (length front) new in
    let z : 0 + length front ≡ length front = omega arith in
    let r = seated_right ss f 0 front ((i, old) ∷ later) c.seated in
    let is : get_or ss i hidden ≡ holds f (length front) old = r.0 ∙ ap (λ n. holds f n old) z in
    let l : i < length ss = within ss i (ap good_one is) in
    let number : (m : ℕ) (b : List ℕ) → get_or ss i hidden ≡ holds f m b → length front ≡ m = λ m b e. same_number f (length front) m old b (sym is ∙ e) in
    let here : get_or (set ss i s) i hidden ≡ holds f (0 + length front) new = get_or-set_same ss i s hidden l ∙ ap (λ n. holds f n new) (sym z) in
    record {
      seated = seated_join (set ss i s) f 0 front ((i, new) ∷ later)
          (seated_set ss i s f 0 front (λ m b x y e. let n = number m b e in omega arith) (seated_left ss f 0 front ((i, old) ∷ later) c.seated))
          (here, seated_set ss i s f (suc (0 + length front)) later (λ m b x y e. let n = number m b e in omega arith) r.1);
      waiting = elim apart [
        | inl a ↦ seated_set ss i s f lo loose (λ m b x y e. let n = number m b e in let k : length (front ++ (i, old) ∷ later) ≡ length front + suc (length later) = length-append front ((i, old) ∷ later) in omega arith) c.waiting
        | inr e ↦ subst (λ x. Seated (set ss i s) f lo x) (sym e) tt
      ];
      only = λ j m b e. elim (shows_set ss i s j (holds f m b) l e) [
        | inl p ↦ inl (seat_right 0 front ((i, new) ∷ later) m j (inl (sym (same_number f (length front) m new b p.1) ∙ sym z, p.0)))
        | inr q ↦ elim (c.only j m b q.1) [
          | inl t ↦ inl (elim (seat_split 0 front ((i, old) ∷ later) m j t) [ inl x ↦ seat_left 0 front ((i, new) ∷ later) m j x | inr y ↦ seat_right 0 front ((i, new) ∷ later) m j y ])
          | inr t ↦ inr t
        ]
      ];
    }

-- loose pages that follow become pages, and the other way round
pub carries_join : (ss : List Sight) (f : Fid) (a b : List PageAt) → HasPages ss f a (length a) b → HasPages ss f (a ++ b) 0 []
carries_join ss f a b c =
    let z : length a ≡ 0 + length a = omega arith in
    record {
      seated = seated_join ss f 0 a b c.seated (subst (λ n. Seated ss f n b) z c.waiting);
      waiting = tt;
      only = λ i m d e. inl (elim (c.only i m d e) [ inl s ↦ seat_left 0 a b m i s | inr s ↦ seat_right 0 a b m i (subst (λ n. IsSeat n b m i) z s) ]);
    }

-- some first pages, and the others as loose ones
pub carries_split : (ss : List Sight) (f : Fid) (a b : List PageAt) (lo : ℕ) → lo ≡ length a → HasPages ss f (a ++ b) 0 [] → HasPages ss f a lo b
carries_split ss f a b lo is c =
    let z : 0 + length a ≡ lo = omega (arith, is) in
    record {
      seated = seated_left ss f 0 a b c.seated;
      waiting = subst (λ n. Seated ss f n b) z (seated_right ss f 0 a b c.seated);
      only = λ i m d e. elim (c.only i m d e) [
        | inl s ↦ elim (seat_split 0 a b m i s) [ inl x ↦ inl x | inr y ↦ inr (subst (λ n. IsSeat n b m i) z y) ]
        | inr s ↦ absurd s
      ];
    }

-- no loose pages, from wherever they are counted
pub carries_none : (ss : List Sight) (f : Fid) (pages : List PageAt) (lo hi : ℕ) → HasPages ss f pages lo [] → HasPages ss f pages hi []
carries_none ss f pages lo hi c = record { seated = c.seated; waiting = tt; only = λ i m d e. elim (c.only i m d e) [ inl s ↦ inl s | inr s ↦ absurd s ] }

-- ---- leaders
pub leads_set : (ss : List Sight) (f : Fid) (at : ℕ) (r : Bool) (k : Leader) (i : ℕ) (s : Sight) → Leads ss f at r k → i < length ss
    → ((r : Bool) (k : Leader) → get_or ss i hidden ≡ leads f r k → ⊥) → ((r : Bool) (k : Leader) → s ≡ leads f r k → ⊥) → Leads (set ss i s) f at r k
leads_set ss f at r k i s h l was becomes = record {
  shows = get_or-set_other ss i at s hidden (λ e. was r k (ap (λ n. get_or ss n hidden) (sym e) ∙ h.shows)) ∙ h.shows;
  only = λ j q x e. elim (shows_set ss i s j (leads f q x) l e) [ inl p ↦ absurd (becomes q x p.1) | inr n ↦ h.only j q x n.1 ];
}

-- no leader comes where none is written
pub headless_set : (ss : List Sight) (f : Fid) (i : ℕ) (s : Sight) → Headless ss f → i < length ss → ((r : Bool) (k : Leader) → s ≡ leads f r k → ⊥) → Headless (set ss i s) f
headless_set ss f i s h l becomes j r k e = elim (shows_set ss i s j (leads f r k) l e) [ inl p ↦ becomes r k p.1 | inr n ↦ h j r k n.1 ]

-- a sector that doesn't lead f has no leader of it
no_leader : (s : Sight) (f : Fid) → ((r : Bool) (k : Leader) → s ≡ leads f r k → ⊥) → leader_at f s ≡ None
no_leader hidden f never = refl
no_leader free f never = refl
no_leader stray f never = refl
no_leader (holds g n b) f never = refl
no_leader (leads g r k) f never = elim (is_fid f g) as (λ b. is_fid f g ≡ b → cond b (Some k) None ≡ None) [
  | true ↦ λ e. absurd (let h : g ≡ f = sym (same_fid f g e) in never r k (λ i. leads (h i) r k))
  | false ↦ λ e. refl
] refl

-- the only leader is the one that counts
pub leader_is : (ss : List Sight) (f : Fid) (at : ℕ) (r : Bool) (k : Leader) → Leads ss f at r k → leader ss f ≡ Some k
leader_is ss f at r k h =
    let l : at < length ss = within ss at (ap good_one h.shows) in
    ap (first (leader_at f)) (sym (ap (set ss at) (sym h.shows) ∙ set-get_or ss at hidden))
    ∙ first_alone (leader_at f) ss at (leads f r k) l (λ j d n ne. no_leader (get_or ss j d) f (λ q x e. ne (h.only j q x (get_or_default ss j hidden d n ∙ e))))
    ∙ ap (λ t. cond t (Some k) None) (is_fid-itself f)

-- without one there is none
pub leader_none_is : (ss : List Sight) (f : Fid) → Headless ss f → leader ss f ≡ None
leader_none_is ss f h = first_none (leader_at f) ss (λ j d n. no_leader (get_or ss j d) f (λ q x e. h j q x (get_or_default ss j hidden d n ∙ e)))

-- ---- laid pages
abbrev pub AllFull : List PageAt → Type 0
AllFull [] = Unit {0}
AllFull (c ∷ cs) = (length c.1 ≡ 512) × AllFull cs

-- full pages in front of laid ones
pub laid_join : (a : List PageAt) (c : PageAt) (b : List PageAt) → AllFull a → IsLaid (c ∷ b) → IsLaid (a ++ c ∷ b)
laid_join [] c b h g = g
laid_join (x ∷ []) c b h g = (h.0, g)
laid_join (x ∷ y ∷ a) c b h g = (h.0, laid_join (y ∷ a) c b h.1 g)

-- all pages before another are full
pub laid_front : (a : List PageAt) (c : PageAt) (b : List PageAt) → IsLaid (a ++ c ∷ b) → AllFull a
laid_front [] c b h = tt
laid_front (x ∷ []) c b h = (h.0, tt)
laid_front (x ∷ y ∷ a) c b h = (h.0, laid_front (y ∷ a) c b h.1)

-- and those from it on are laid
pub laid_back : (a : List PageAt) (c : PageAt) (b : List PageAt) → IsLaid (a ++ c ∷ b) → IsLaid (c ∷ b)
laid_back [] c b h = h
laid_back (x ∷ []) c b h = h.1
laid_back (x ∷ y ∷ a) c b h = laid_back (y ∷ a) c b h.1

-- bytes of one length in place of a page's
pub laid_alike : (i : ℕ) (old new : List ℕ) (b : List PageAt) → length new ≡ length old → IsLaid ((i, old) ∷ b) → IsLaid ((i, new) ∷ b)
laid_alike i old new [] e h = rw e h
laid_alike i old new (x ∷ b) e h = (e ∙ h.0, h.1)
