-- Where a page of a file is: the lowest sector that carries it, and what it shows.
use Rattle.std.proofs.Common.{◌≡◌, ℕ, zero, suc, ◌+◌, ◌<◌, Bool, true, false, cond, List, length, get_or, Option, Some, None, refl, sym, ap, subst, ◌∙◌, add-one, eq-eqb, eqb-true}
use Rattle.std.specs.Prelude.{◌&&◌, ◌==◌}
use Rattle.std.specs.Option.{is_some}
use Rattle.std.proofs.lemmas.List.{get_or_default}
use Rattle.pack_model.specs.alto_words.specs.declared.fid.Fid.{Fid}
use Rattle.pack_model.specs.alto_words.specs.Fid.{is_fid}
use Rattle.pack_model.specs.disk_records.specs.Packs.{Pack, sector_at}
use Rattle.pack_model.specs.reading.Leaders.{Leader}
use Rattle.pack_model.specs.reading.Sights.{Sight, sights}
use Rattle.pack_model.specs.reading.Sights.Sight.{hidden, free, stray, leads, holds}
use Rattle.pack_model.specs.reading.Files.{Bears, leader_at, page_at, leader, page, carries_page, place}
use Rattle.pack_laws.proofs.Keys.{is_fid-itself, same_fid}
use Rattle.pack_laws.proofs.Firsts.{first_of_bears, bears_of_first}
use Rattle.pack_laws.proofs.Joining.{AreShort}
use Rattle.pack_laws.proofs.Sighted.{length-sights, sights-get, page_size}
pub use Rattle.pack_laws.proofs.inside.Places.{IsPlace, place_from, place_is, place_none, place_same}

-- ---- which sectors carry a page
pub page_at-holds : (f : Fid) (n : ℕ) (bytes : List ℕ) → page_at f n (holds f n bytes) ≡ Some bytes
page_at-holds f n bytes = ap (λ b. cond b (Some bytes) None) (ap (λ b. b && n == n) (is_fid-itself f) ∙ eq-eqb n n refl)

-- what the test of a page says
pub both_test : (f g : Fid) (n k : ℕ) → (is_fid f g && n == k) ≡ true → (g ≡ f) × (k ≡ n)
both_test f g n k e = by (is_fid f g) (n == k) refl refl e
  where
    by : (a b : Bool) → is_fid f g ≡ a → (n == k) ≡ b → (a && b) ≡ true → (g ≡ f) × (k ≡ n)
    by true true p q e = (sym (same_fid f g p), sym (eqb-true n k q))
    by true false p q e = cc
    by false b p q e = cc

-- a sector that answers for page n of f shows it
pub shows_answer : (f : Fid) (n : ℕ) (s : Sight) (bytes : List ℕ) → page_at f n s ≡ Some bytes → s ≡ holds f n bytes
shows_answer f n hidden bytes e = absurd cc
shows_answer f n free bytes e = absurd cc
shows_answer f n stray bytes e = absurd cc
shows_answer f n (leads g r l) bytes e = absurd cc
shows_answer f n (holds g k b) bytes e = by (is_fid f g && n == k) refl e
  where
    by : (t : Bool) → (is_fid f g && n == k) ≡ t → cond t (Some b) None ≡ Some bytes → holds g k b ≡ holds f n bytes
    by true is same = let p = both_test f g n k is in let q : b ≡ bytes = cc in λ i. holds (p.0 i) (p.1 i) (q i)
    by false is same = absurd cc

-- so does one that carries it
pub shows_carried : (f : Fid) (n : ℕ) (s : Sight) → carries_page f (suc n) s ≡ true → (bytes : List ℕ) × (s ≡ holds f n bytes)
shows_carried f n hidden e = absurd cc
shows_carried f n free e = absurd cc
shows_carried f n stray e = absurd cc
shows_carried f n (leads g r l) e = absurd cc
shows_carried f n (holds g k b) e = let p = both_test f g n k e in (b, λ i. holds (p.0 i) (p.1 i) b)

-- a sector carries the page that it holds
pub carries-holds : (f : Fid) (n : ℕ) (bytes : List ℕ) → carries_page f (suc n) (holds f n bytes) ≡ true
carries-holds f n bytes = ap (λ b. b && n == n) (is_fid-itself f) ∙ eq-eqb n n refl

-- a sector carries page n where it answers for it
pub carries_alike : (f : Fid) (n : ℕ) (s : Sight) → carries_page f (suc n) s ≡ is_some (page_at f n s)
carries_alike f n hidden = refl
carries_alike f n free = refl
carries_alike f n stray = refl
carries_alike f n (leads g r l) = refl
carries_alike f n (holds g k b) = elim (is_fid f g && n == k) as (λ t. t ≡ is_some (cond t (Some b) None)) [ true ↦ refl | false ↦ refl ]

-- the same for leaders
pub leader_at-leads : (f : Fid) (r : Bool) (l : Leader) → leader_at f (leads f r l) ≡ Some l
leader_at-leads f r l = ap (λ b. cond b (Some l) None) (is_fid-itself f)

-- and that it carries
pub shows_led : (f : Fid) (s : Sight) → carries_page f 0 s ≡ true → (r : Bool) × (l : Leader) × (s ≡ leads f r l)
shows_led f hidden e = absurd cc
shows_led f free e = absurd cc
shows_led f stray e = absurd cc
shows_led f (holds g k b) e = absurd cc
shows_led f (leads g r l) e = (r, l, λ i. leads (sym (same_fid f g e) i) r l)

-- a sector carries a leader page where it answers for the leader
pub led_alike : (f : Fid) (s : Sight) → carries_page f 0 s ≡ is_some (leader_at f s)
led_alike f hidden = refl
led_alike f free = refl
led_alike f stray = refl
led_alike f (holds g k b) = refl
led_alike f (leads g r l) = elim (is_fid f g) as (λ t. t ≡ is_some (cond t (Some l) None)) [ true ↦ refl | false ↦ refl ]

-- ---- a place and its page
pub record IsPageAt (ss : List Sight) (f : Fid) (n at : ℕ) : Type 0 where
  pub bytes : List ℕ
  pub within : at < length ss
  pub shows : (d : Sight) → get_or ss at d ≡ holds f n bytes
  pub page_is : page ss f n ≡ Some bytes
  pub bears : Bears (page_at f n) ss at bytes

-- no answer
pub none_of_false : {X : Type 0} (r : Option X) → is_some r ≡ false → r ≡ None
none_of_false None e = refl
none_of_false (Some x) e = cc

-- the place of a data page shows it
pub page_of_place : (ss : List Sight) (f : Fid) (n at : ℕ) → place ss f (suc n) ≡ Some at → IsPageAt ss f n at
page_of_place ss f n at e =
    let p = place_is ss f (suc n) at e in
    let h = shows_carried f n (get_or ss at hidden) (p.carries hidden) in
    let shows : (d : Sight) → get_or ss at d ≡ holds f n h.0 = λ d. get_or_default ss at d hidden p.within ∙ h.1 in
    let bears : Bears (page_at f n) ss at h.0 = record {
      within = p.within;
      answers = λ d. ap (page_at f n) (shows d) ∙ page_at-holds f n h.0;
      lowest = λ j d m. none_of_false (page_at f n (get_or ss j d)) (sym (carries_alike f n (get_or ss j d)) ∙ p.lowest j d m);
    } in
    record { bytes = h.0; within = p.within; shows = shows; page_is = first_of_bears (page_at f n) ss at h.0 bears; bears = bears }

-- the same, as code writes the number
pub data_page_of_place : (ss : List Sight) (f : Fid) (n at : ℕ) → place ss f (n + 1) ≡ Some at → IsPageAt ss f n at
data_page_of_place ss f n at e = page_of_place ss f n at (rw add-one at e)

-- a page that is there has a place
pub place_of_page : (ss : List Sight) (f : Fid) (n : ℕ) (bytes : List ℕ) → page ss f n ≡ Some bytes → (at : ℕ) × (place ss f (suc n) ≡ Some at)
place_of_page ss f n bytes e =
    let found = bears_of_first (page_at f n) ss bytes e in
    let at : ℕ = found.0 in
    let b : Bears (page_at f n) ss at bytes = found.1 in (
      at,
      place_from ss f (suc n) at (record {
        within = b.within;
        carries = λ d. carries_alike f n (get_or ss at d) ∙ ap is_some (b.answers d);
        lowest = λ j d m. carries_alike f n (get_or ss j d) ∙ ap is_some (b.lowest j d m);
      }),
    )

-- where no sector has the place there is no page
pub no_page : (ss : List Sight) (f : Fid) (n : ℕ) → place ss f (suc n) ≡ None → page ss f n ≡ None
no_page ss f n e = by (page ss f n) refl
  where
    by : (r : Option (List ℕ)) → page ss f n ≡ r → page ss f n ≡ None
    by None is = is
    by (Some bytes) is = let p = place_of_page ss f n bytes is in let q = p.1 in absurd cc

-- what the place of a leader page shows
pub record IsLeaderAt (ss : List Sight) (f : Fid) (at : ℕ) : Type 0 where
  pub readable : Bool
  pub lead : Leader
  pub within : at < length ss
  pub shows : (d : Sight) → get_or ss at d ≡ leads f readable lead
  pub leader_is : leader ss f ≡ Some lead
  pub bears : Bears (leader_at f) ss at lead

-- the place of a leader page shows it
pub leader_of_place : (ss : List Sight) (f : Fid) (at : ℕ) → place ss f 0 ≡ Some at → IsLeaderAt ss f at
leader_of_place ss f at e =
    let p = place_is ss f 0 at e in
    let h = shows_led f (get_or ss at hidden) (p.carries hidden) in
    let shows : (d : Sight) → get_or ss at d ≡ leads f h.0 h.1 = λ d. get_or_default ss at d hidden p.within ∙ h.2 in
    let bears : Bears (leader_at f) ss at h.1 = record {
      within = p.within;
      answers = λ d. ap (leader_at f) (shows d) ∙ leader_at-leads f h.0 h.1;
      lowest = λ j d m. none_of_false (leader_at f (get_or ss j d)) (sym (led_alike f (get_or ss j d)) ∙ p.lowest j d m);
    } in
    record { readable = h.0; lead = h.1; within = p.within; shows = shows; leader_is = first_of_bears (leader_at f) ss at h.1 bears; bears = bears }

-- a file that lives has a place for its leader
pub place_of_leader : (ss : List Sight) (f : Fid) (l : Leader) → leader ss f ≡ Some l → (at : ℕ) × (place ss f 0 ≡ Some at)
place_of_leader ss f l e =
    let found = bears_of_first (leader_at f) ss l e in
    let at : ℕ = found.0 in
    let b : Bears (leader_at f) ss at l = found.1 in (
      at,
      place_from ss f 0 at (record {
        within = b.within;
        carries = λ d. led_alike f (get_or ss at d) ∙ ap is_some (b.answers d);
        lowest = λ j d m. led_alike f (get_or ss j d) ∙ ap is_some (b.lowest j d m);
      }),
    )

-- where no sector has the place the file doesn't live
pub no_leader : (ss : List Sight) (f : Fid) → place ss f 0 ≡ None → leader ss f ≡ None
no_leader ss f e = by (leader ss f) refl
  where
    by : (r : Option Leader) → leader ss f ≡ r → leader ss f ≡ None
    by None is = is
    by (Some l) is = let p = place_of_leader ss f l is in let q = p.1 in absurd cc

-- One place names one page.
pub one_page : (ss : List Sight) (f g : Fid) (n m at : ℕ) → place ss f n ≡ Some at → place ss g m ≡ Some at → (f ≡ g) × (n ≡ m)
one_page ss f g zero zero at a b =
    let x = (leader_of_place ss f at a).shows hidden in let y = (leader_of_place ss g at b).shows hidden in (cc, refl)
one_page ss f g zero (suc m) at a b = let x = (leader_of_place ss f at a).shows hidden in let y = (page_of_place ss g m at b).shows hidden in absurd cc
one_page ss f g (suc n) zero at a b = let x = (page_of_place ss f n at a).shows hidden in let y = (leader_of_place ss g at b).shows hidden in absurd cc
one_page ss f g (suc n) (suc m) at a b =
    let x = (page_of_place ss f n at a).shows hidden in let y = (page_of_place ss g m at b).shows hidden in let z : n ≡ m = cc in (cc, ap suc z)

-- ---- no page of a pack has more than 512 bytes
pub short_pages : (p : Pack) (f : Fid) → AreShort (page (sights p) f)
short_pages p f = record {
  short = λ n bytes e.
      let found = bears_of_first (page_at f n) (sights p) bytes e in
      let at : ℕ = found.0 in
      let b : Bears (page_at f n) (sights p) at bytes = found.1 in
      let l : at < length p.sectors = subst (λ k. at < k) (length-sights p) b.within in
      page_size p.shape at (sector_at p at) f n bytes (sym (sights-get p at hidden l) ∙ shows_answer f n (get_or (sights p) at hidden) bytes (b.answers hidden));
}
