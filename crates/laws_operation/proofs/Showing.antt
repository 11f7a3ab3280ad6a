-- What the sight of a sector tells of its words.
use Rattle.std.proofs.Common.{Bool, List, ap, cond, false, get_or, length, refl, subst, suc, sym, take, true, zero, ℕ, ◌<◌, ◌∙◌, ◌≡◌}
use Rattle.laws_contents.specs.alto_words.specs.declared.fid.Fid.{Fid}
use Rattle.laws_contents.specs.disk_records.specs.Labels.{Tag, in_range, is_free, tag}
use Rattle.laws_contents.specs.disk_records.specs.Packs.{Pack, is_usable, sector_at}
use Rattle.laws_contents.specs.pack_model.specs.reading.Bytes.{bytes_of}
use Rattle.laws_contents.specs.pack_model.specs.reading.Leaders.{Leader, is_readable, leader_of, leader_words}
use Rattle.laws_contents.specs.pack_model.specs.reading.Model.{good_one}
use Rattle.laws_contents.specs.pack_model.specs.reading.Sights.{Sight, page_sight, sight, sights, tag_sight}
use Rattle.laws_contents.specs.pack_model.specs.reading.Sights.Sight.{free, hidden, holds, leads, stray}
use Rattle.laws_contents.specs.pack_laws.proofs.Sighted.{length-sights, sights-get}
use Rattle.laws_operation.proofs.Lying.{within}

-- ---- what a sector shows tells of its words
pub is_here : (p : Pack) (at : ℕ) → good_one (get_or (sights p) at hidden) ≡ 1 → at < length p.sectors
is_here p at e = subst (λ n. at < n) (length-sights p) (within (sights p) at e)

-- a good sector's sight is that of its words
pub sight_is : (p : Pack) (at : ℕ) → good_one (get_or (sights p) at hidden) ≡ 1 → get_or (sights p) at hidden ≡ sight p.shape at (sector_at p at)
sight_is p at e = sights-get p at hidden (is_here p at e)

-- a good sector is usable
good_usable : (b : Bool) (s : Sight) → good_one (cond b s hidden) ≡ 1 → b ≡ true
good_usable true s e = refl
good_usable false s e = absurd cc

-- so says its sight
pub usable_is : (p : Pack) (at : ℕ) → good_one (get_or (sights p) at hidden) ≡ 1 → is_usable p.shape at (sector_at p at) ≡ true
unfolding sight
usable_is p at e = good_usable (is_usable p.shape at (sector_at p at)) (tag_sight (tag (sector_at p at).label) (sector_at p at).value) (sym (ap good_one (sight_is p at e)) ∙ e)

-- its sight is that of its label and its value
pub tag_is : (p : Pack) (at : ℕ) → good_one (get_or (sights p) at hidden) ≡ 1 → get_or (sights p) at hidden ≡ tag_sight (tag (sector_at p at).label) (sector_at p at).value
unfolding sight
tag_is p at e = sight_is p at e ∙ ap (λ b. cond b (tag_sight (tag (sector_at p at).label) (sector_at p at).value) hidden) (usable_is p at e)

-- a page isn't a free sector
page_not_free : (f : Fid) (n c : ℕ) (v : List ℕ) → page_sight f n c v ≡ free → ⊥
page_not_free f zero c v e = absurd cc
page_not_free f (suc n) c v e = absurd cc

-- what is shown as free is free
shown_is_free : (t : Tag) (v : List ℕ) → tag_sight t v ≡ free → is_free t ≡ true
shown_is_free t v e = by (in_range t) (is_free t) e
  where
    by : (r b : Bool) → cond r (page_sight t.fid t.page t.bytes v) (cond b free stray) ≡ free → b ≡ true
    by true b e = absurd (page_not_free t.fid t.page t.bytes v e)
    by false true e = refl
    by false false e = absurd cc

-- so is the label of a sector that is shown so
pub free_is : (p : Pack) (at : ℕ) → get_or (sights p) at hidden ≡ free → is_free (tag (sector_at p at).label) ≡ true
free_is p at e = shown_is_free (tag (sector_at p at).label) (sector_at p at).value (sym (tag_is p at (ap good_one e)) ∙ e)

-- another value of a data page, and of a leader
page_value : (g f : Fid) (k n c : ℕ) (v w b : List ℕ) → page_sight g k c v ≡ holds f n b → page_sight g k c w ≡ holds f n (take c (bytes_of w))
page_value g f zero n c v w b e = absurd cc
page_value g f (suc k) n c v w b e = let x : g ≡ f = cc in let y : k ≡ n = cc in λ i. holds (x i) (y i) (take c (bytes_of w))

-- under any label
pub other_value : (t : Tag) (v w : List ℕ) (f : Fid) (n : ℕ) (b : List ℕ) → tag_sight t v ≡ holds f n b → tag_sight t w ≡ holds f n (take t.bytes (bytes_of w))
other_value t v w f n b e = by (in_range t) (is_free t) e
  where
    by : (r q : Bool) → cond r (page_sight t.fid t.page t.bytes v) (cond q free stray) ≡ holds f n b → cond r (page_sight t.fid t.page t.bytes w) (cond q free stray) ≡ holds f n (take t.bytes (bytes_of w))
    by true q e = page_value t.fid f t.page n t.bytes v w b e
    by false true e = absurd cc
    by false false e = absurd cc

-- another value of a leader
lead_value : (g f : Fid) (k c : ℕ) (v w : List ℕ) (r : Bool) (l : Leader) → page_sight g k c v ≡ leads f r l → page_sight g k c w ≡ leads f (is_readable (leader_words w)) (leader_of f w)
lead_value g f zero c v w r l e = let x : g ≡ f = cc in λ i. leads (x i) (is_readable (leader_words w)) (leader_of (x i) w)
lead_value g f (suc k) c v w r l e = absurd cc

-- under any label
pub other_leader_value : (t : Tag) (v w : List ℕ) (f : Fid) (r : Bool) (l : Leader) → tag_sight t v ≡ leads f r l → tag_sight t w ≡ leads f (is_readable (leader_words w)) (leader_of f w)
other_leader_value t v w f r l e = by (in_range t) (is_free t) e
  where
    by : (a q : Bool) → cond a (page_sight t.fid t.page t.bytes v) (cond q free stray) ≡ leads f r l → cond a (page_sight t.fid t.page t.bytes w) (cond q free stray) ≡ leads f (is_readable (leader_words w)) (leader_of f w)
    by true q e = lead_value t.fid f t.page t.bytes v w r l e
    by false true e = absurd cc
    by false false e = absurd cc

-- what a label shows
pub page_label : (t : Tag) (v : List ℕ) (f : Fid) (n c : ℕ) → t ≡ record { fid = f; page = suc n; bytes = c } → in_range t ≡ true → tag_sight t v ≡ holds f n (take c (bytes_of v))
page_label t v f n c e r = ap (λ b. cond b (page_sight t.fid t.page t.bytes v) (cond (is_free t) free stray)) r ∙ ap (λ t. page_sight t.fid t.page t.bytes v) e
