-- Pages that are told twice, and a last page that is missing.
use Rattle.std.proofs.Common.{◌&&◌, ◌<◌, ◌==◌, ◌∙◌, ◌≡◌, ◌≢◌, ◌⊎◌, Bool, List, None, Some, ap, arith, cond, false, get_or, inl, inr, length, refl, set, subst, suc, sym, take, true, zero, ℕ}
use Rattle.pack_laws.specs.alto_words.specs.Fid.{is_fid}
use Rattle.pack_laws.specs.alto_words.specs.declared.fid.Fid.{Fid}
use Rattle.pack_laws.specs.disk_records.specs.Labels.{tag}
use Rattle.pack_laws.specs.disk_records.specs.Packs.{Pack, carried, sector_at}
use Rattle.pack_laws.specs.disk_records.specs.declared.records.Page.{Page}
use Rattle.pack_laws.specs.pack_model.specs.reading.Bytes.{bytes_of}
use Rattle.pack_laws.specs.pack_model.specs.reading.Files.{carries_page, leader, leader_at, page, page_at, place}
use Rattle.pack_laws.specs.pack_model.specs.reading.Leaders.{Leader, leader_of}
use Rattle.pack_laws.specs.pack_model.specs.reading.Model.{good_one}
use Rattle.pack_laws.specs.pack_model.specs.reading.Sights.{Sight, page_sight, sights}
use Rattle.pack_laws.specs.pack_model.specs.reading.Sights.Sight.{free, hidden, holds, leads}
use Rattle.pack_laws.proofs.Carrying.{carried_shown}
use Rattle.pack_laws.proofs.Firsts.{first_again, first_copy, first_moves, first_same}
use Rattle.pack_laws.proofs.Guarding.{carried_parts, free_parts}
use Rattle.pack_laws.proofs.Keys.{same_fid}
use Rattle.pack_laws.proofs.Placing.{both_test, carries_alike, leader_of_place, led_alike, none_of_false, page_of_place, place_is}
use Rattle.pack_laws.proofs.Sighted.{length-sights}
use Rattle.laws_record.proofs.Framing.{SameCounted, good_set}
use Rattle.laws_record.proofs.Recording.{carried_sight, carried_within, free_sight, freed_sights, label_sights}
use Rattle.laws_record.proofs.Staying.{Stays, stay_counted}
use Rattle.laws_record.specs.QuietLaws.{CopyClaim, CopyRelease, IsCopyOf, LowestRelease, with_label}

-- ---- an answer that is told twice
-- each question that the new sight answers is answered so already
record Repeats (ss : List Sight) (s : Sight) : Type 0 where
  led : (f : Fid) → (leader_at f s ≡ None) ⊎ (leader_at f s ≡ leader ss f)
  held_page : (f : Fid) (n : ℕ) → (page_at f n s ≡ None) ⊎ (page_at f n s ≡ page ss f n)

-- a sector that answered nothing repeats answers
repeat_frame : (ss : List Sight) (i : ℕ) (s : Sight) → get_or ss i hidden ≡ free → good_one s ≡ 1 → Repeats ss s → SameCounted ss (set ss i s)
repeat_frame ss i s is good h = record {
  good = sym (good_set ss i s hidden (good ∙ sym (ap good_one is)));
  leaders = λ f. sym (elim (h.led f) [ inl e ↦ first_same (leader_at f) ss i s hidden (e ∙ sym (ap (leader_at f) is)) | inr e ↦ first_again (leader_at f) ss i s hidden (ap (leader_at f) is) e ]);
  pages = λ f n r. sym (elim (h.held_page f n) [ inl e ↦ first_same (page_at f n) ss i s hidden (e ∙ sym (ap (page_at f n) is)) | inr e ↦ first_again (page_at f n) ss i s hidden (ap (page_at f n) is) e ]);
}

-- the sight at the place of a data page repeats it
page_repeats : (ss : List Sight) (f : Fid) (n : ℕ) (bytes : List ℕ) → page ss f n ≡ Some bytes → Repeats ss (holds f n bytes)
page_repeats ss f n bytes is = record { led = λ g. inl refl; held_page = λ g m. by g m (is_fid g f && m == n) refl }
  where
    by : (g : Fid) (m : ℕ) (b : Bool) → (is_fid g f && m == n) ≡ b → (page_at g m (holds f n bytes) ≡ None) ⊎ (page_at g m (holds f n bytes) ≡ page ss g m)
    by g m false e = inl (ap (λ t. cond t (Some bytes) None) e)
    by g m true e =
        let same = both_test g f m n e in
        inr (ap (λ t. cond t (Some bytes) None) e ∙ sym is ∙ (λ i. page ss (same.0 i) (same.1 i)))

-- so does that of a leader
leader_repeats : (ss : List Sight) (f : Fid) (r : Bool) (l : Leader) → leader ss f ≡ Some l → Repeats ss (leads f r l)
leader_repeats ss f r l is = record { led = λ g. by g (is_fid g f) refl; held_page = λ g n. inl refl }
  where
    by : (g : Fid) (b : Bool) → is_fid g f ≡ b → (leader_at g (leads f r l) ≡ None) ⊎ (leader_at g (leads f r l) ≡ leader ss g)
    by g false e = inl (ap (λ t. cond t (Some l) None) e)
    by g true e = inr (ap (λ t. cond t (Some l) None) e ∙ sym is ∙ ap (leader ss) (sym (same_fid g f e)))

-- ---- what a copy shows
-- the sight of the place of a page, and what it repeats
record IsTold (ss : List Sight) (s : Sight) : Type 0 where
  good : good_one s ≡ 1
  repeats : Repeats ss s

-- what the place of a page shows
told : (ss : List Sight) (f : Fid) (n at : ℕ) → place ss f n ≡ Some at → IsTold ss (get_or ss at hidden)
told ss f zero at e =
    let h = leader_of_place ss f at e in
    subst (IsTold ss) (sym (h.shows hidden)) (record { good = refl; repeats = leader_repeats ss f h.readable h.lead h.leader_is })
told ss f (suc n) at e =
    let h = page_of_place ss f n at e in
    subst (IsTold ss) (sym (h.shows hidden)) (record { good = refl; repeats = page_repeats ss f n h.bytes h.page_is })

-- a copy shows what its source shows
copy_shown : (p : Pack) (source : ℕ) (x : Page) (label value : List ℕ) → carried p source ≡ Some x → IsCopyOf p source x label value → page_sight x.fid x.number (tag label).bytes value ≡ get_or (sights p) source hidden
copy_shown p source x label value is c = (λ i. page_sight x.fid x.number (c.count i) (c.words i)) ∙ sym (carried_sight p source x is)

-- the sector at the place of a page carries it
pub place_carried : (p : Pack) (x : Page) (at : ℕ) → place (sights p) x.fid x.number ≡ Some at → carried p at ≡ Some x
place_carried p x at e = let h = place_is (sights p) x.fid x.number at e in carried_shown p at x hidden (subst (λ n. at < n) (length-sights p) h.within) (h.carries hidden)

-- a copy of the page that counts, on a free sector
pub copy_claim : CopyClaim Stays
copy_claim p at source x label is bears c =
    let t = told (sights p) x.fid x.number source bears in
    stay_counted p (with_label p at label) (set (sights p) at (get_or (sights p) source hidden)) refl
    (label_sights p at x label (free_parts p at is).0 c.page_is ∙ ap (set (sights p) at) (copy_shown p source x label (sector_at p at).value (place_carried p x source bears) c))
    (repeat_frame (sights p) at (get_or (sights p) source hidden) (free_sight p at is) t.good t.repeats)

-- ---- a sector goes that answers after another one
-- whether a lower sector answers each question that this one answers
copy_frame : (ss : List Sight) (i j : ℕ) → j < i → good_one (get_or ss i hidden) ≡ 1 → ((f : Fid) → leader_at f (get_or ss i hidden) ≡ None ⊎ (leader_at f (get_or ss j hidden) ≡ None → ⊥))
    → ((f : Fid) (n : ℕ) → page_at f n (get_or ss i hidden) ≡ None ⊎ (page_at f n (get_or ss j hidden) ≡ None → ⊥)) → SameCounted ss (set ss i free)
copy_frame ss i j l good a b = record {
  good = sym (good_set ss i free hidden (sym good));
  leaders = λ f. sym (elim (a f) [ inl e ↦ first_same (leader_at f) ss i free hidden (sym e) | inr e ↦ first_copy (leader_at f) ss i j free hidden l e ]);
  pages = λ f n r. sym (elim (b f n) [ inl e ↦ first_same (page_at f n) ss i free hidden (sym e) | inr e ↦ first_copy (page_at f n) ss i j free hidden l e ]);
}

-- two sectors with one page answer the same questions
both_pages : (ss : List Sight) (i j : ℕ) (f : Fid) (n c d : ℕ) (v w : List ℕ) → j < i → get_or ss i hidden ≡ page_sight f n c v → get_or ss j hidden ≡ page_sight f n d w → SameCounted ss (set ss i free)
both_pages ss i j f zero c d v w l here there = copy_frame ss i j l (ap good_one here) (λ g. by g (is_fid g f) refl) (λ g m. inl (ap (page_at g m) here))
  where
    by : (g : Fid) (b : Bool) → is_fid g f ≡ b → leader_at g (get_or ss i hidden) ≡ None ⊎ (leader_at g (get_or ss j hidden) ≡ None → ⊥)
    by g false e = inl (ap (leader_at g) here ∙ ap (λ t. cond t (Some (leader_of f v)) None) e)
    by g true e = inr (λ none. let some : Some (leader_of f w) ≡ None = sym (ap (λ t. cond t (Some (leader_of f w)) None) e) ∙ sym (ap (leader_at g) there) ∙ none in cc)
both_pages ss i j f (suc n) c d v w l here there = copy_frame ss i j l (ap good_one here) (λ g. inl (ap (leader_at g) here)) (λ g m. by g m (is_fid g f && m == n) refl)
  where
    by : (g : Fid) (m : ℕ) (b : Bool) → (is_fid g f && m == n) ≡ b → page_at g m (get_or ss i hidden) ≡ None ⊎ (page_at g m (get_or ss j hidden) ≡ None → ⊥)
    by g m false e = inl (ap (page_at g m) here ∙ ap (λ t. cond t (Some (take c (bytes_of v))) None) e)
    by g m true e = inr (λ none. let some : Some (take d (bytes_of w)) ≡ None = sym (ap (λ t. cond t (Some (take d (bytes_of w))) None) e) ∙ sym (ap (page_at g m) there) ∙ none in cc)

-- a free label in the place of a page that a lower sector carries
pub copy_release : CopyRelease Stays
copy_release p at lower x label is other l none =
    let parts = carried_parts p at x is in
    stay_counted p (with_label p at label) (set (sights p) at free) refl (freed_sights p at label parts.0 none)
    (both_pages (sights p) at lower x.fid x.number _ _ _ _ l (carried_sight p at x is) (carried_sight p lower x other))

-- ---- a sector goes that answers before another one
-- The next sector that carries this page shows the same.
record IsNextCopy (ss : List Sight) (f : Fid) (n i j : ℕ) : Type 0 where
  above : i < j
  within : j < length ss
  same : get_or ss j hidden ≡ get_or ss i hidden
  between : (k : ℕ) (d : Sight) → i < k → k < j → carries_page f n (get_or ss k d) ≡ false

-- a leader page that is told again goes
leader_moves : (ss : List Sight) (f : Fid) (r : Bool) (l : Leader) (i j : ℕ) → IsNextCopy ss f 0 i j → get_or ss i hidden ≡ leads f r l → SameCounted ss (set ss i free)
leader_moves ss f r l i j h here = record {
  good = sym (good_set ss i free hidden (sym (ap good_one here)));
  leaders = λ g. sym (by g (is_fid g f) refl);
  pages = λ g m r. sym (first_same (page_at g m) ss i free hidden (sym (ap (page_at g m) here)));
}
  where
    by : (g : Fid) (b : Bool) → is_fid g f ≡ b → leader (set ss i free) g ≡ leader ss g
    by g false e = first_same (leader_at g) ss i free hidden (sym (ap (leader_at g) here ∙ ap (λ t. cond t (Some l) None) e))
    by g true e =
        let told : leader_at g (get_or ss i hidden) ≡ Some l = ap (leader_at g) here ∙ ap (λ t. cond t (Some l) None) e in
        first_moves (leader_at g) ss i j free hidden l h.above h.within told (ap (leader_at g) h.same ∙ told)
        (λ k d m n. none_of_false (leader_at g (get_or ss k d)) (sym (led_alike g (get_or ss k d)) ∙ ap (λ x. carries_page x 0 (get_or ss k d)) (same_fid g f e) ∙ h.between k d m n)) refl

-- a data page that is told again goes
page_moves : (ss : List Sight) (f : Fid) (n : ℕ) (bytes : List ℕ) (i j : ℕ) → IsNextCopy ss f (suc n) i j → get_or ss i hidden ≡ holds f n bytes → SameCounted ss (set ss i free)
page_moves ss f n bytes i j h here = record {
  good = sym (good_set ss i free hidden (sym (ap good_one here)));
  leaders = λ g. sym (first_same (leader_at g) ss i free hidden (sym (ap (leader_at g) here)));
  pages = λ g m r. sym (by g m (is_fid g f && m == n) refl);
}
  where
    by : (g : Fid) (m : ℕ) (b : Bool) → (is_fid g f && m == n) ≡ b → page (set ss i free) g m ≡ page ss g m
    by g m false e = first_same (page_at g m) ss i free hidden (sym (ap (page_at g m) here ∙ ap (λ t. cond t (Some bytes) None) e))
    by g m true e =
        let one = both_test g f m n e in
        let told : page_at g m (get_or ss i hidden) ≡ Some bytes = ap (page_at g m) here ∙ ap (λ t. cond t (Some bytes) None) e in
        first_moves (page_at g m) ss i j free hidden bytes h.above h.within told (ap (page_at g m) h.same ∙ told)
        (λ k d a b. none_of_false (page_at g m (get_or ss k d)) (sym (carries_alike g m (get_or ss k d)) ∙ (λ z. carries_page (sym one.0 z) (suc (sym one.1 z)) (get_or ss k d)) ∙ h.between k d a b)) refl

-- a free label in the place of the page that counts, where the next sector that carries it holds a copy
pub lowest_release : LowestRelease Stays
lowest_release p at next x label bears other above between c none =
    let is = place_carried p x at bears in
    let parts = carried_parts p at x is in
    let apart : (k : ℕ) (d : Sight) → at < k → k < next → carries_page x.fid x.number (get_or (sights p) k d) ≡ false =
    λ k d a b. let w = carried_within p next x other in not_carried k d (subst (λ n. k < n) (length-sights p) (omega arith)) (between k a b) in
    let h : IsNextCopy (sights p) x.fid x.number at next = record {
      above = above;
      within = carried_within p next x other;
      same = carried_sight p next x other ∙ copy_shown p at x (sector_at p next).label (sector_at p next).value is c;
      between = apart;
    } in
    stay_counted p (with_label p at label) (set (sights p) at free) refl (freed_sights p at label parts.0 none) (by x.number refl h)
  where
    not_carried : (k : ℕ) (d : Sight) → k < length p.sectors → carried p k ≢ Some x → carries_page x.fid x.number (get_or (sights p) k d) ≡ false
    not_carried k d l never = elim (carries_page x.fid x.number (get_or (sights p) k d)) as (λ b. carries_page x.fid x.number (get_or (sights p) k d) ≡ b → b ≡ false) [
      | true ↦ λ e. absurd (never (carried_shown p k x d l e))
      | false ↦ λ e. refl
    ] refl

    by : (n : ℕ) → x.number ≡ n → IsNextCopy (sights p) x.fid x.number at next → SameCounted (sights p) (set (sights p) at free)
    by zero e h =
        let b = leader_of_place (sights p) x.fid at (ap (λ n. place (sights p) x.fid n) (sym e) ∙ bears) in
        leader_moves (sights p) x.fid b.readable b.lead at next (subst (λ n. IsNextCopy (sights p) x.fid n at next) e h) (b.shows hidden)
    by (suc n) e h =
        let b = page_of_place (sights p) x.fid n at (ap (λ n. place (sights p) x.fid n) (sym e) ∙ bears) in
        page_moves (sights p) x.fid n b.bytes at next (subst (λ n. IsNextCopy (sights p) x.fid n at next) e h) (b.shows hidden)
