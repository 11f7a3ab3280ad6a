-- Where a file lies, when a sector is written; and its bytes.
use Rattle.std.proofs.Common.{Bool, List, None, Option, Some, [], ap, append-nil, append_assoc, arith, cond, eq-eqb, eqb-true, false, get_or, inl, inr, length, refl, set, subst, suc, sym, true, zero, ℕ, ◌&&◌, ◌++◌, ◌+◌, ◌<◌, ◌∙◌, ◌∷◌, ◌≡◌, ◌≢◌, ◌≤◌, ◌⊎◌}
use Rattle.std.proofs.lemmas.Bool.{cases_eq}
use Rattle.std.proofs.lemmas.List.{get_or-set_other, get_or-set_same, get_or_default, set-get_or}
use Rattle.std.specs.Prelude.{nat_lt, ◌==◌}
use Rattle.laws_contents.specs.alto_words.specs.Fid.{is_fid}
use Rattle.laws_contents.specs.alto_words.specs.declared.fid.Fid.{Fid}
use Rattle.laws_contents.specs.pack_model.specs.reading.Files.{file_bytes, first, joined, most_pages, page, page_at}
use Rattle.laws_contents.specs.pack_model.specs.reading.Model.{good_one}
use Rattle.laws_contents.specs.pack_model.specs.reading.Sights.{Sight}
use Rattle.laws_contents.specs.pack_model.specs.reading.Sights.Sight.{free, hidden, holds, leads, stray}
use Rattle.laws_contents.specs.pack_model.specs.states.Whole.{HasPages, IsLaid, IsSeat, PageAt, Seated}
use Rattle.laws_contents.specs.pack_laws.proofs.Firsts.{first_alone}
use Rattle.laws_contents.specs.pack_laws.proofs.Joining.{continue, joined-suc}
use Rattle.laws_contents.specs.pack_laws.proofs.Keys.{is_fid-itself, same_fid}
use Rattle.laws_contents.specs.laws_record.proofs.Seats.{seat_once, seat_range}
use Rattle.laws_operation.specs.ByteLaws.{together}

-- what shows something is within
pub within : (ss : List Sight) (i : ℕ) → good_one (get_or ss i hidden) ≡ 1 → i < length ss
within [] i e = absurd cc
within (s ∷ ss) zero e = omega arith
within (s ∷ ss) (suc i) e = let l = within ss i e in omega arith

-- one page has one number
pub same_number : (f : Fid) (m k : ℕ) (b c : List ℕ) → holds f m b ≡ holds f k c → m ≡ k
same_number f m k b c e = cc

-- ---- seats
-- a seat among the first pages
pub seat_left : (k : ℕ) (a b : List PageAt) (m i : ℕ) → IsSeat k a m i → IsSeat k (a ++ b) m i
seat_left k [] b m i h = absurd h
seat_left k (c ∷ a) b m i h = elim h [ inl p ↦ inl p | inr q ↦ inr (seat_left (suc k) a b m i q) ]

-- or among those after them
pub seat_right : (k : ℕ) (a b : List PageAt) (m i : ℕ) → IsSeat (k + length a) b m i → IsSeat k (a ++ b) m i
seat_right k [] b m i h = let z : k + 0 ≡ k = omega arith in subst (λ n. IsSeat n b m i) z h
seat_right k (c ∷ a) b m i h = let z : k + suc (length a) ≡ suc k + length a = omega arith in inr (seat_right (suc k) a b m i (subst (λ n. IsSeat n b m i) z h))

-- and no other
pub seat_split : (k : ℕ) (a b : List PageAt) (m i : ℕ) → IsSeat k (a ++ b) m i → IsSeat k a m i ⊎ IsSeat (k + length a) b m i
seat_split k [] b m i h = let z : k ≡ k + 0 = omega arith in inr (subst (λ n. IsSeat n b m i) z h)
seat_split k (c ∷ a) b m i h = elim h [
  | inl p ↦ inl (inl p)
  | inr q ↦ elim (seat_split (suc k) a b m i q) [ inl x ↦ inl (inr x) | inr y ↦ let z : suc k + length a ≡ k + suc (length a) = omega arith in inr (subst (λ n. IsSeat n b m i) z y) ]
]

-- the first pages have their seats
pub seated_left : (ss : List Sight) (f : Fid) (k : ℕ) (a b : List PageAt) → Seated ss f k (a ++ b) → Seated ss f k a
seated_left ss f k [] b h = tt
seated_left ss f k (c ∷ a) b h = (h.0, seated_left ss f (suc k) a b h.1)

-- and those after them
pub seated_right : (ss : List Sight) (f : Fid) (k : ℕ) (a b : List PageAt) → Seated ss f k (a ++ b) → Seated ss f (k + length a) b
seated_right ss f k [] b h = let z : k ≡ k + 0 = omega arith in subst (λ n. Seated ss f n b) z h
seated_right ss f k (c ∷ a) b h = let z : suc k + length a ≡ k + suc (length a) = omega arith in subst (λ n. Seated ss f n b) z (seated_right ss f (suc k) a b h.1)

-- both together
pub seated_join : (ss : List Sight) (f : Fid) (k : ℕ) (a b : List PageAt) → Seated ss f k a → Seated ss f (k + length a) b → Seated ss f k (a ++ b)
seated_join ss f k [] b h g = let z : k + 0 ≡ k = omega arith in subst (λ n. Seated ss f n b) z g
seated_join ss f k (c ∷ a) b h g = let z : k + suc (length a) ≡ suc k + length a = omega arith in (h.0, seated_join ss f (suc k) a b h.1 (subst (λ n. Seated ss f n b) z g))

-- a sector that holds none of these is written
pub seated_set : (ss : List Sight) (i : ℕ) (s : Sight) (f : Fid) (k : ℕ) (cs : List PageAt) → ((m : ℕ) (b : List ℕ) → k ≤ m → m < k + length cs → get_or ss i hidden ≡ holds f m b → ⊥) → Seated ss f k cs → Seated (set ss i s) f k cs
seated_set ss i s f k [] never h = tt
seated_set ss i s f k (c ∷ cs) never h = (
  get_or-set_other ss i c.0 s hidden (λ e. never k c.1 (omega arith) (omega arith) (ap (λ n. get_or ss n hidden) (sym e) ∙ h.0)) ∙ h.0,
  seated_set ss i s f (suc k) cs (λ m b l r e. never m b (omega arith) (omega arith) e) h.1,
)

-- a sector after a write is the written one, or another and as it was
pub shows_set : (ss : List Sight) (a : ℕ) (s : Sight) (i : ℕ) (t : Sight) → a < length ss → get_or (set ss a s) i hidden ≡ t → ((i ≡ a) × (s ≡ t)) ⊎ ((i ≢ a) × (get_or ss i hidden ≡ t))
shows_set ss a s i t l h = elim (cases_eq i a) [
  | inl e ↦ inl (e, sym (get_or-set_same ss a s hidden l) ∙ ap (λ n. get_or (set ss a s) n hidden) (sym e) ∙ h)
  | inr n ↦ inr (n, sym (get_or-set_other ss a i s hidden n) ∙ h)
]

-- ---- bytes
-- of two lists, one after the other
pub together-append : (a b : List PageAt) → together (a ++ b) ≡ together a ++ together b
together-append [] b = refl
together-append (c ∷ a) b = ap (λ r. c.1 ++ r) (together-append a b) ∙ sym (append_assoc c.1 (together a) (together b))

-- the bytes of laid pages are those of all of them
pub joined_laid : (cs : List PageAt) (fuel : ℕ) (page : ℕ → Option (List ℕ)) → length cs ≤ fuel → IsLaid cs → ((j : ℕ) → j < length cs → page j ≡ Some (get_or cs j (0, [])).1) → joined fuel page ≡ together cs
joined_laid [] fuel page l h e = absurd h
joined_laid (c ∷ []) zero page l h e = absurd (omega arith)
joined_laid (c ∷ []) (suc fuel) page l h e =
    joined-suc fuel page ∙ ap (λ r. continue r (joined fuel (λ n. page (suc n)))) (e 0 (omega arith))
    ∙ ap (λ b. cond b c.1 (c.1 ++ joined fuel (λ n. page (suc n)))) h ∙ sym (append-nil c.1)
joined_laid (c ∷ d ∷ cs) zero page l h e = absurd (omega arith)
joined_laid (c ∷ d ∷ cs) (suc fuel) page l h e =
    joined-suc fuel page ∙ ap (λ r. continue r (joined fuel (λ n. page (suc n)))) (e 0 (omega arith))
    ∙ ap (λ n. cond (nat_lt n 512) c.1 (c.1 ++ joined fuel (λ n. page (suc n)))) h.0
    ∙ ap (λ r. c.1 ++ r) (joined_laid (d ∷ cs) fuel (λ n. page (suc n)) (omega arith) h.1 (λ j m. e (suc j) (omega arith)))

-- a page is itself
this_page_test : (f : Fid) (k : ℕ) → (is_fid f f && k == k) ≡ true
this_page_test f k = ap (λ b. b && k == k) (is_fid-itself f) ∙ eq-eqb k k refl

-- a sector that doesn't hold a page doesn't answer for it
none_else : (s : Sight) (f : Fid) (k : ℕ) → ((c : List ℕ) → s ≡ holds f k c → ⊥) → page_at f k s ≡ None
none_else hidden f k never = refl
none_else free f k never = refl
none_else stray f k never = refl
none_else (leads g r l) f k never = refl
none_else (holds g n c) f k never = by (is_fid f g) (k == n) refl refl
  where
    by : (a b : Bool) → is_fid f g ≡ a → (k == n) ≡ b → cond (a && b) (Some c) None ≡ None
    by false b p q = refl
    by true false p q = refl
    by true true p q =
        let e : n ≡ k = sym (eqb-true k n q) in
        let g_is : g ≡ f = sym (same_fid f g p) in
        absurd (never c (λ i. holds (g_is i) (e i) c))

-- the only sector with a page answers for it
pub page_alone : (ss : List Sight) (f : Fid) (m i : ℕ) (b : List ℕ) → get_or ss i hidden ≡ holds f m b → ((j : ℕ) (c : List ℕ) → get_or ss j hidden ≡ holds f m c → j ≡ i) → page ss f m ≡ Some b
page_alone ss f m i b e once =
    let l : i < length ss = within ss i (ap good_one e) in
    ap (first (page_at f m)) (sym (ap (set ss i) (sym e) ∙ set-get_or ss i hidden))
    ∙ first_alone (page_at f m) ss i (holds f m b) l (λ j d n ne. none_else (get_or ss j d) f m (λ c x. ne (once j c (get_or_default ss j hidden d n ∙ x))))
    ∙ ap (λ t. cond t (Some b) None) (this_page_test f m)

-- the seat of a page by its number
pub seat_here : (ss : List Sight) (f : Fid) (k : ℕ) (cs : List PageAt) (j : ℕ) → j < length cs → Seated ss f k cs → (get_or ss (get_or cs j (0, [])).0 hidden ≡ holds f (k + j) (get_or cs j (0, [])).1) × IsSeat k cs (k + j) (get_or cs j (0, [])).0
seat_here ss f k [] j l h = absurd (omega arith)
seat_here ss f k (c ∷ cs) zero l h = let z : k + 0 ≡ k = omega arith in (h.0 ∙ ap (λ n. holds f n c.1) (sym z), inl (z, refl))
seat_here ss f k (c ∷ cs) (suc j) l h =
    let z : suc k + j ≡ k + suc j = omega arith in
    let r = seat_here ss f (suc k) cs j (omega arith) h.1 in
    (r.0 ∙ ap (λ n. holds f n (get_or cs j (0, [])).1) z, inr (subst (λ n. IsSeat (suc k) cs n (get_or cs j (0, [])).0) z r.1))

-- the bytes of a file that is laid, whatever loose pages there are
pub bytes_laid : (ss : List Sight) (f : Fid) (pages : List PageAt) (lo : ℕ) (loose : List PageAt) → HasPages ss f pages lo loose → length pages ≤ lo → IsLaid pages → length pages ≤ most_pages → file_bytes ss f ≡ together pages
unfolding file_bytes
bytes_laid ss f pages lo loose c apart laid few = joined_laid pages most_pages (page ss f) few laid (λ j l.
    let z : 0 + j ≡ j = omega arith in
    let h = seat_here ss f 0 pages j l c.seated in
    let seat : IsSeat 0 pages j (get_or pages j (0, [])).0 = subst (λ n. IsSeat 0 pages n (get_or pages j (0, [])).0) z h.1 in
    page_alone ss f j (get_or pages j (0, [])).0 (get_or pages j (0, [])).1 (h.0 ∙ ap (λ n. holds f n (get_or pages j (0, [])).1) z)
    (λ i b e. elim (c.only i j b e) [ inl s ↦ seat_once 0 pages j i (get_or pages j (0, [])).0 s seat | inr s ↦ absurd (let r = (seat_range lo loose j i s).0 in omega arith) ]))
