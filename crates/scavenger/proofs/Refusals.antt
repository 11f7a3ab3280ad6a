-- Which refusal comes first.
use Rattle.std.proofs.Common.{◌≡◌, ℕ, zero, suc, ◌+◌, ◌-◌, ◌<◌, ◌≤◌, nat_le, Bool, true, false, cond, not, List, [], ◌∷◌, get_or, length, Some, None, refl, sym, ap, ◌∙◌, le-leb, arith}
use borrow.Author.Tests.{lt-leb}
use Rattle.disk_records.specs.Addresses.{is_right_header, pages_of}
use Rattle.disk_records.specs.Labels.{Tag, in_range, is_free, tag}
use Rattle.disk_records.specs.Packs.{Pack, sector_at}
use Rattle.scav_names.specs.laws_room.proofs.numbers.Laws.{counting_theorem}
use Rattle.scav_names.specs.pack_laws.proofs.Sighted.{length-sights, sights-get}
use Rattle.pack_model.specs.reading.Model.{good_one, good_sectors}
use Rattle.pack_model.specs.reading.Sights.{Sight, page_sight, sight, sights, tag_sight}
use Rattle.pack_model.specs.reading.Sights.Sight.{free, hidden, holds, leads, stray}
use Rattle.pack_model.specs.scavenger.Needed.{needed}
use Rattle.pack_model.specs.scavenger.Scavenging.{first_refusal, root_stands}
use Rattle.pack_model.specs.scavenger.Scavenging.Refusal.{pack_full, root_bad, root_taken}
use Rattle.pack_model.specs.states.InUse.{available, bad_sectors, how_many, is_good, one_if}
use Rattle.scavenger.specs.declared.counts.Counts.{Counts}
use Rattle.scavenger.specs.Counting.{Counted}

-- ---- sector 1
tag_good : (t : Tag) (value : List ℕ) → is_good (tag_sight t value) ≡ true
tag_good t value = by (in_range t) (is_free t) t.page
  where
    by : (r f : Bool) (n : ℕ) → is_good (cond r (page_sight t.fid n t.bytes value) (cond f free stray)) ≡ true
    by true f zero = refl
    by true f (suc n) = refl
    by false true n = refl
    by false false n = refl

pub good_header : (p : Pack) → 1 < length p.sectors → is_good (get_or (sights p) 1 hidden) ≡ is_right_header p.shape 1 (sector_at p 1).header
unfolding sight
good_header p there = ap is_good (sights-get p 1 hidden there) ∙ by (is_right_header p.shape 1 (sector_at p 1).header)
  where
    by : (r : Bool) → is_good (cond r (tag_sight (tag (sector_at p 1).label) (sector_at p 1).value) hidden) ≡ r
    by true = tag_good (tag (sector_at p 1).label) (sector_at p 1).value
    by false = refl

-- ---- the first refusal that holds
module _ (p : Pack) where
  pub first_bad : is_good (get_or (sights p) 1 hidden) ≡ false → Some (root_bad (sector_at p 1).header) ≡ first_refusal p
  first_bad e = sym (ap (λ g. cond (not g) (Some (root_bad (sector_at p 1).header)) (cond (not (root_stands p.shape (sights p) (get_or (sights p) 1 hidden))) (Some (root_taken (sector_at p 1).label)) (cond (nat_le (needed p.shape (sights p)) (available p.shape (sights p))) None (Some (pack_full (needed p.shape (sights p)) (available p.shape (sights p))))))) e)

  after_good : is_good (get_or (sights p) 1 hidden) ≡ true → first_refusal p ≡ cond (not (root_stands p.shape (sights p) (get_or (sights p) 1 hidden))) (Some (root_taken (sector_at p 1).label)) (cond (nat_le (needed p.shape (sights p)) (available p.shape (sights p))) None (Some (pack_full (needed p.shape (sights p)) (available p.shape (sights p)))))
  after_good e = ap (λ g. cond (not g) (Some (root_bad (sector_at p 1).header)) (cond (not (root_stands p.shape (sights p) (get_or (sights p) 1 hidden))) (Some (root_taken (sector_at p 1).label)) (cond (nat_le (needed p.shape (sights p)) (available p.shape (sights p))) None (Some (pack_full (needed p.shape (sights p)) (available p.shape (sights p))))))) e

  pub first_taken : is_good (get_or (sights p) 1 hidden) ≡ true → root_stands p.shape (sights p) (get_or (sights p) 1 hidden) ≡ false → Some (root_taken (sector_at p 1).label) ≡ first_refusal p
  first_taken e r = sym (after_good e ∙ ap (λ b. cond (not b) (Some (root_taken (sector_at p 1).label)) (cond (nat_le (needed p.shape (sights p)) (available p.shape (sights p))) None (Some (pack_full (needed p.shape (sights p)) (available p.shape (sights p)))))) r)

  after_stands : is_good (get_or (sights p) 1 hidden) ≡ true → root_stands p.shape (sights p) (get_or (sights p) 1 hidden) ≡ true → first_refusal p ≡ cond (nat_le (needed p.shape (sights p)) (available p.shape (sights p))) None (Some (pack_full (needed p.shape (sights p)) (available p.shape (sights p))))
  after_stands e r = after_good e ∙ ap (λ b. cond (not b) (Some (root_taken (sector_at p 1).label)) (cond (nat_le (needed p.shape (sights p)) (available p.shape (sights p))) None (Some (pack_full (needed p.shape (sights p)) (available p.shape (sights p)))))) r

  pub first_full : is_good (get_or (sights p) 1 hidden) ≡ true → root_stands p.shape (sights p) (get_or (sights p) 1 hidden) ≡ true → (n m : ℕ) → n ≡ needed p.shape (sights p) → m ≡ available p.shape (sights p) → m < n → Some (pack_full n m) ≡ first_refusal p
  first_full e r n m a b less =
      let no : nat_le (needed p.shape (sights p)) (available p.shape (sights p)) ≡ false = lt-leb (needed p.shape (sights p)) (available p.shape (sights p)) (omega (arith, a, b, less)) in
      (λ i. Some (pack_full (a i) (b i))) ∙ sym (after_stands e r ∙ ap (λ t. cond t None (Some (pack_full (needed p.shape (sights p)) (available p.shape (sights p))))) no)

  pub first_none : is_good (get_or (sights p) 1 hidden) ≡ true → root_stands p.shape (sights p) (get_or (sights p) 1 hidden) ≡ true → (n m : ℕ) → n ≡ needed p.shape (sights p) → m ≡ available p.shape (sights p) → n ≤ m → None ≡ first_refusal p
  first_none e r n m a b few =
      let yes : nat_le (needed p.shape (sights p)) (available p.shape (sights p)) ≡ true = le-leb (needed p.shape (sights p)) (available p.shape (sights p)) (omega (arith, a, b, few)) in
      sym (after_stands e r ∙ ap (λ t. cond t None (Some (pack_full (needed p.shape (sights p)) (available p.shape (sights p))))) yes)

-- ---- the available sectors
good_or_bad : (ss : List Sight) → good_sectors ss + how_many (λ s. not (is_good s)) ss ≡ length ss
good_or_bad [] = refl
good_or_bad (s ∷ ss) = let rest = good_or_bad ss in let here = one s in omega (arith, rest, here)
  where
    one : (s : Sight) → good_one s + one_if (not (is_good s)) ≡ 1
    one hidden = refl
    one free = refl
    one stray = refl
    one (leads f readable l) = refl
    one (holds f n bytes) = refl

good_total : (ss : List Sight) → 0 < length ss → get_or ss 0 hidden ≡ hidden → good_sectors ss + bad_sectors ss + 1 ≡ length ss
good_total [] some first = absurd (omega arith)
good_total (s ∷ ss) some first = let all = good_or_bad ss in let none : good_one s ≡ 0 = ap good_one first in omega (arith, all, none)

pub available_is : (p : Pack) (counts : Counts) (bad : ℕ) → length p.sectors ≡ pages_of p.shape → Counted p counts → bad ≡ bad_sectors (sights p) → available p.shape (sights p) ≡ pages_of p.shape - 1 - bad - counts.in_use
unfolding sight
available_is p counts bad sized counted is =
    let law = counting_theorem p in
    let used = law.in_use in
    let all = law.available_is in
    let mine = counted.in_use_is in
    let least = p.shape.least_pages in
    let size = length-sights p in
    let some : 0 < length p.sectors = omega (arith, sized, least) in
    let total = good_total (sights p) (omega (arith, size, some)) (sights-get p 0 hidden some) in
    omega (arith, used, all, mine, size, sized, total, is, least)
