-- What the record writes of guarded sector commands leave.
use Rattle.std.proofs.Common.{Bool, List, None, Option, Some, [], ap, arith, cond, false, nat_lt, refl, set, suc, sym, true, zero, ℕ, ◌<◌, ◌∙◌, ◌∷◌, ◌≡◌}
use Rattle.std.proofs.lemmas.Bool.{le-ltb}
use Rattle.pack_model.specs.disk_records.specs.declared.records.Page.{Page}
use Rattle.pack_model.specs.disk_records.specs.declared.records.Sector.{Sector}
use Rattle.pack_model.specs.disk_records.specs.declared.records.Event.TheVariants.{Wrote}
use Rattle.pack_model.specs.disk_records.specs.Commands.{ones, relabel_writes, release_writes, value_writes}
use Rattle.pack_model.specs.disk_records.specs.Labels.{Tag, is_free, page_of, tag}
use Rattle.pack_model.specs.disk_records.specs.Packs.{Pack, after, carried, crash, is_free_at, is_usable, sector_at, with_part}
use Rattle.pack_model.specs.reading.Sights.{Sight, sights, tag_sight}
use Rattle.pack_model.specs.reading.Sights.Sight.{free}
use Rattle.pack_laws.specs.GuardLaws.{ChangesOne, ComesToHold, LooksSame, TakesAtTheLabel, released, with_words}
use Rattle.pack_laws.proofs.Sighted.{sights-write, sights_same}
use Rattle.pack_laws.proofs.Guarding.{carried_parts, free_on, free_parts, free_shown, free_unnamed, front_from, here_written, named_shown, named_taken, ones_free, other_kept, page_on, usable_shown, usable_within, value_page}

-- ---- one record write
module _ (p : Pack) (at : ℕ) (value : List ℕ) where
  value_free : (i : ℕ) → is_free_at (after p (Wrote at 2 value ∷ [])) i ≡ is_free_at p i
  value_free i = let front = front_from p.sectors at i value in λ j. free_on p.shape i (front.0 j) (front.1 j)

-- a value that shows what stood there
same_value : (p : Pack) (at : ℕ) (value : List ℕ) → is_usable p.shape at (sector_at p at) ≡ true → tag_sight (tag (sector_at p at).label) value ≡ tag_sight (tag (sector_at p at).label) (sector_at p at).value → LooksSame at p (after p (Wrote at 2 value ∷ []))
same_value p at value usable same =
    let s : Sector = sector_at p at in
    record {
      pages = value_page p at value;
      frees = value_free p at value;
      shown = sights_same p at 2 value (usable_within p at usable) (usable_shown p.shape at (with_part 2 value s) usable ∙ same ∙ sym (usable_shown p.shape at s usable));
      others = other_kept p at 2 value;
    }

-- a label on a usable sector
label_changes : (p : Pack) (at : ℕ) (label : List ℕ) → is_usable p.shape at (sector_at p at) ≡ true
    → ChangesOne at (page_of label) (is_free (tag label)) (tag_sight (tag label) (sector_at p at).value) (with_words (sector_at p at) label (sector_at p at).value) p (after p (Wrote at 1 label ∷ []))
label_changes p at label usable =
    let s : Sector = sector_at p at in
    let here = here_written p at 1 label (usable_within p at usable) in
    record {
      page_here = ap (λ (x : Sector). page_on p.shape at x.header x.label) here ∙ ap (λ b. cond b (page_of label) None) usable;
      free_here = ap (λ (x : Sector). free_on p.shape at x.header x.label) here ∙ ap (λ b. cond b (is_free (tag label)) false) usable;
      pages = λ i other. ap (λ (x : Sector). page_on p.shape i x.header x.label) (other_kept p at 1 label i other);
      frees = λ i other. ap (λ (x : Sector). free_on p.shape i x.header x.label) (other_kept p at 1 label i other);
      shown = sights-write p at 1 label ∙ ap (set (sights p) at) (usable_shown p.shape at (with_part 1 label s) usable);
      here = here;
      others = other_kept p at 1 label;
    }

-- ---- one write after another
changes_after : {at : ℕ} {page : Option Page} {none : Bool} {x : Sight} {s : Sector} {p q r : Pack} → LooksSame at p q → ChangesOne at page none x s q r → ChangesOne at page none x s p r
changes_after {at} {x = x} same changed =
    record {
      page_here = changed.page_here;
      free_here = changed.free_here;
      pages = λ i other. changed.pages i other ∙ same.pages i;
      frees = λ i other. changed.frees i other ∙ same.frees i;
      shown = changed.shown ∙ ap (λ all. set all at x) same.shown;
      here = changed.here;
      others = λ i other. changed.others i other ∙ same.others i other;
    }

changes_before : {at : ℕ} {page : Option Page} {none : Bool} {x : Sight} {s t : Sector} {p q r : Pack} → ChangesOne at page none x s p q → LooksSame at q r → sector_at r at ≡ t → ChangesOne at page none x t p r
changes_before {at} changed same is =
    record {
      page_here = same.pages at ∙ changed.page_here;
      free_here = same.frees at ∙ changed.free_here;
      pages = λ i other. same.pages i ∙ changed.pages i other;
      frees = λ i other. same.frees i ∙ changed.frees i other;
      shown = same.shown ∙ changed.shown;
      here = is;
      others = λ i other. same.others i other ∙ changed.others i other;
    }

-- the same change, by equal words
changes_as : {at : ℕ} {page page' : Option Page} {none none' : Bool} {x x' : Sight} {s s' : Sector} {p q : Pack} → page ≡ page' → none ≡ none' → x ≡ x' → s ≡ s' → ChangesOne at page none x s p q → ChangesOne at page' none' x' s' p q
changes_as {at} {p = p} is_page is_none is_x is_s changed =
    record {
      page_here = changed.page_here ∙ is_page;
      free_here = changed.free_here ∙ is_none;
      pages = changed.pages;
      frees = changed.frees;
      shown = changed.shown ∙ ap (set (sights p) at) is_x;
      here = changed.here ∙ is_s;
      others = changed.others;
    }

same_self : (p : Pack) (at : ℕ) → LooksSame at p p
same_self p at = record { pages = λ i. refl; frees = λ i. refl; shown = refl; others = λ i other. refl }

-- ---- the laws
-- a sector that carries a page has other bytes of it
pub value_keeps : (p : Pack) (at : ℕ) (page : Page) (value : List ℕ) → carried p at ≡ Some page → ComesToHold at page (sector_at p at).label value p (after p (Wrote at 2 value ∷ []))
value_keeps p at page value is =
    let s : Sector = sector_at p at in
    let parts = carried_parts p at page is in
    record {
      page_here = value_page p at value at ∙ is;
      free_here = value_free p at value at ∙ ap (λ b. cond b (is_free (tag s.label)) false) parts.0 ∙ named_taken s.label page parts.1;
      pages = λ i other. value_page p at value i;
      frees = λ i other. value_free p at value i;
      shown = sights-write p at 2 value ∙ ap (set (sights p) at) (usable_shown p.shape at (with_part 2 value s) parts.0 ∙ named_shown s.label value page parts.1);
      here = here_written p at 2 value (usable_within p at parts.0);
      others = other_kept p at 2 value;
    }

pub value_writes_keep_the_page : (p : Pack) (at : ℕ) (page : Page) (value : List ℕ) (k : ℕ) → carried p at ≡ Some page → 0 < k → ComesToHold at page (sector_at p at).label value p (crash p (value_writes at value) k)
value_writes_keep_the_page p at page value zero is some = absurd (omega arith)
value_writes_keep_the_page p at page value (suc zero) is some = value_keeps p at page value is
value_writes_keep_the_page p at page value (suc (suc k)) is some = value_keeps p at page value is

-- after a label on a usable sector a value may follow that shows the same
value_follows : (p : Pack) (at : ℕ) (label value : List ℕ) → is_usable p.shape at (sector_at p at) ≡ true → tag_sight (tag label) value ≡ tag_sight (tag label) (sector_at p at).value
    → LooksSame at (after p (Wrote at 1 label ∷ [])) (after p (Wrote at 1 label ∷ Wrote at 2 value ∷ []))
value_follows p at label value usable same =
    let here : sector_at (after p (Wrote at 1 label ∷ [])) at ≡ with_part 1 label (sector_at p at) = here_written p at 1 label (usable_within p at usable) in
    same_value (after p (Wrote at 1 label ∷ [])) at value
    (ap (λ (s : Sector). is_usable p.shape at s) here ∙ usable)
    (ap (λ (s : Sector). tag_sight (tag s.label) value) here ∙ same ∙ ap (λ (s : Sector). tag_sight (tag s.label) s.value) (sym here))

-- and what the sector holds then
both_written : (p : Pack) (at : ℕ) (label value : List ℕ) → is_usable p.shape at (sector_at p at) ≡ true → sector_at (after p (Wrote at 1 label ∷ Wrote at 2 value ∷ [])) at ≡ with_words (sector_at p at) label value
both_written p at label value usable =
    let q : Pack = after p (Wrote at 1 label ∷ []) in
    let here : sector_at q at ≡ with_part 1 label (sector_at p at) = here_written p at 1 label (usable_within p at usable) in
    here_written q at 2 value (usable_within q at (ap (λ (s : Sector). is_usable p.shape at s) here ∙ usable)) ∙ ap (with_part 2 value) here

-- a usable sector gets a label and then a value
relabelled : (p : Pack) (at : ℕ) (label value : List ℕ) (k : ℕ) → is_usable p.shape at (sector_at p at) ≡ true → tag_sight (tag label) value ≡ tag_sight (tag label) (sector_at p at).value → 0 < k
    → ChangesOne at (page_of label) (is_free (tag label)) (tag_sight (tag label) (sector_at p at).value) (with_words (sector_at p at) label (cond (nat_lt k 2) (sector_at p at).value value)) p (crash p (relabel_writes at label value) k)
relabelled p at label value zero usable same some = absurd (omega arith)
relabelled p at label value (suc zero) usable same some = label_changes p at label usable
relabelled p at label value (suc (suc zero)) usable same some = changes_before (label_changes p at label usable) (value_follows p at label value usable same) (both_written p at label value usable)
relabelled p at label value (suc (suc (suc k))) usable same some =
    changes_before (label_changes p at label usable) (value_follows p at label value usable same)
    (both_written p at label value usable ∙ sym (ap (λ b. with_words (sector_at p at) label (cond b (sector_at p at).value value)) (le-ltb (suc (suc (suc k))) 2 (omega arith))))

-- the same either way
either_same : (b : Bool) (words : List ℕ) → cond b words words ≡ words
either_same true words = refl
either_same false words = refl

pub relabel_keeps_the_page : (p : Pack) (at : ℕ) (page : Page) (label : List ℕ) (k : ℕ) → carried p at ≡ Some page → page_of label ≡ Some page → 0 < k → ComesToHold at page label (sector_at p at).value p (crash p (relabel_writes at label (sector_at p at).value) k)
relabel_keeps_the_page p at page label k is names some =
    changes_as names (named_taken label page names) (named_shown label (sector_at p at).value page names) (ap (with_words (sector_at p at) label) (either_same (nat_lt k 2) (sector_at p at).value))
    (relabelled p at label (sector_at p at).value k (carried_parts p at page is).0 refl some)

pub release_frees_at_the_label : (p : Pack) (at : ℕ) (page : Page) (k : ℕ) → carried p at ≡ Some page → 0 < k → ChangesOne at None true free (released (sector_at p at) k) p (crash p (release_writes at) k)
release_frees_at_the_label p at page k is some =
    let none : is_free (tag (ones 8)) ≡ true = ones_free in
    let v : List ℕ = (sector_at p at).value in
    changes_as (free_unnamed (ones 8) none) none (free_shown (tag (ones 8)) v none) refl
    (relabelled p at (ones 8) (ones 256) k (carried_parts p at page is).0 (free_shown (tag (ones 8)) (ones 256) none ∙ sym (free_shown (tag (ones 8)) v none)) some)

-- a free sector's value may be written, and then its label
free_filled : (p : Pack) (at : ℕ) (value : List ℕ) → is_free_at p at ≡ true → LooksSame at p (after p (Wrote at 2 value ∷ []))
free_filled p at value is =
    let parts = free_parts p at is in
    let t : Tag = tag (sector_at p at).label in
    same_value p at value parts.0 (free_shown t value parts.1 ∙ sym (free_shown t (sector_at p at).value parts.1))

claim_relabelled : (p : Pack) (at : ℕ) (page : Page) (label value : List ℕ) (k : ℕ) → is_free_at p at ≡ true → page_of label ≡ Some page → 0 < k
    → ComesToHold at page label value p (crash (after p (Wrote at 2 value ∷ [])) (relabel_writes at label value) k)
claim_relabelled p at page label value k is names some =
    let parts = free_parts p at is in
    let q : Pack = after p (Wrote at 2 value ∷ []) in
    let here : sector_at q at ≡ with_part 2 value (sector_at p at) = here_written p at 2 value (usable_within p at parts.0) in
    let usable : is_usable p.shape at (sector_at q at) ≡ true = ap (λ (s : Sector). is_usable p.shape at s) here ∙ parts.0 in
    let stands : (sector_at q at).value ≡ value = ap (λ (s : Sector). s.value) here in
    let words : (b : Bool) → with_words (sector_at q at) label (cond b (sector_at q at).value value) ≡ with_words (sector_at p at) label value =
    λ b. ap (λ (s : Sector). with_words s label (cond b s.value value)) here ∙ ap (with_words (sector_at p at) label) (either_same b value) in
    changes_after (free_filled p at value is)
    (changes_as names (named_taken label page names) (ap (tag_sight (tag label)) stands ∙ named_shown label value page names) (words (nat_lt k 2))
    (relabelled q at label value k usable (ap (tag_sight (tag label)) (sym stands)) some))

pub claim_takes_at_the_label : (p : Pack) (at : ℕ) (page : Page) (label value : List ℕ) (k : ℕ) → is_free_at p at ≡ true → page_of label ≡ Some page → TakesAtTheLabel p at page label value k
claim_takes_at_the_label p at page label value zero is names = record { before = λ few. same_self p at; filled = λ one. absurd (omega arith); taken = λ more. absurd (omega arith) }
claim_takes_at_the_label p at page label value (suc zero) is names = record { before = λ few. free_filled p at value is; filled = λ one. here_written p at 2 value (usable_within p at (free_parts p at is).0); taken = λ more. absurd (omega arith) }
claim_takes_at_the_label p at page label value (suc (suc k)) is names = record { before = λ few. absurd (omega arith); filled = λ one. absurd (omega arith); taken = λ more. claim_relabelled p at page label value (suc k) is names (omega arith) }
