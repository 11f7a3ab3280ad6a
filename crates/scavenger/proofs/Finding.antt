-- The sectors of DiskDescriptor's pages, as a sweep meets them.
use Rattle.std.proofs.Common.{◌≡◌, ◌==◌, ◌&&◌, ℕ, zero, suc, ◌+◌, ◌<◌, ◌≤◌, Bool, true, false, cond, IsTrue, List, [], ◌∷◌, ◌++◌, get_or, length, Option, Some, None, refl, sym, ap, ◌∙◌, eqb-true, arith}
use Rattle.std.specs.Option.{option_map_or, option_or}
use Rattle.std.proofs.lemmas.List.{get_or_default, length-append}
use Rattle.alto_words.specs.declared.fid.Fid.{Fid}
use Rattle.alto_words.specs.Fid.{disk_descriptor}
use Rattle.disk_records.specs.Addresses.{pages_of}
use Rattle.disk_records.specs.declared.shape.Shape.{Shape}
use Rattle.disk_records.specs.Tapes.{Taped, pack}
use Rattle.label_sweep.specs.Swept.{Swept}
use Rattle.label_sweep.proofs.Visiting.{kept_at_each, kept_by_steps, numbered-append}
use Rattle.scav_names.specs.pack_laws.proofs.Firsts.{or_assoc, or_none}
use Rattle.pack_model.specs.reading.Files.{carries_page, first, numbered, place, place_at}
use Rattle.pack_model.specs.reading.Sights.{Sight}
use Rattle.pack_model.specs.reading.Sights.Sight.{hidden}
use Rattle.scav_pages.specs.Ends.{ArePlaces, AreWithin}
use Rattle.scavenger.specs.declared.descriptor.Finder.{Finder}
use Rattle.scavenger.specs.Descriptors.{Finds, NotesPage}

-- ---- the place of a page, one sector more
first-append : {S X : Type 0} (answer : S → Option X) (xs : List S) (x : S) → first answer (xs ++ x ∷ []) ≡ option_or (first answer xs) (answer x)
unfolding first
first-append answer [] x = or_none (answer x)
first-append answer (y ∷ xs) x = ap (option_or (answer y)) (first-append answer xs x) ∙ sym (or_assoc (answer y) (first answer xs) (answer x))

place-append : (f : Fid) (n : ℕ) (ss : List Sight) (s : Sight) → place (ss ++ s ∷ []) f n ≡ option_or (place ss f n) (cond (carries_page f n s) (Some (length ss)) None)
place-append f n ss s =
    let here : 0 + length ss ≡ length ss = omega arith in
    ap (first (place_at f n)) (numbered-append 0 ss s)
    ∙ first-append (place_at f n) (numbered 0 ss) (0 + length ss, s)
    ∙ ap (λ k. option_or (place ss f n) (cond (carries_page f n s) (Some k) None)) here

-- ---- the sectors that a sweep has noted
abbrev or_zero : Option ℕ → ℕ
or_zero o = option_map_or (λ at. at) o 0

-- of these sectors, the first of which is sector 0
pub record HaveNoted (ss : List Sight) (places : List ℕ) : Type 0 where
  pub some : 1 ≤ length ss
  pub above : (n at : ℕ) → place ss disk_descriptor n ≡ Some at → 1 ≤ at
  pub each : (n : ℕ) → n < 6 → get_or places n 0 ≡ or_zero (place ss disk_descriptor n)

-- a page that was noted stays, and another one comes
noted_more : (was : Option ℕ) (old new at : ℕ) (carries : Bool) → old ≡ or_zero was → ((i : ℕ) → was ≡ Some i → 1 ≤ i) → new ≡ cond (old == 0 && carries) at old → new ≡ or_zero (option_or was (cond carries (Some at) None))
noted_more None old new at true is above e = e ∙ ap (λ o. cond (o == 0 && true) at o) is
noted_more None old new at false is above e = e ∙ ap (λ o. cond (o == 0 && false) at o) is
noted_more (Some i) old new at carries is above e = e ∙ (let low : 1 ≤ i = above i refl in by (old == 0) refl low) ∙ is
  where
    by : (t : Bool) → (old == 0) ≡ t → 1 ≤ i → cond (old == 0 && carries) at old ≡ old
    by true q low = absurd (let zero = eqb-true old 0 q in omega (arith, zero, is, low))
    by false q low = ap (λ t. cond (t && carries) at old) q

pub noted_next : (rs : List Sight) (old new : List ℕ) (s : Sight) → HaveNoted rs old → NotesPage old (length rs) s new → HaveNoted (rs ++ s ∷ []) new
noted_next rs old new s h step = record {
  some = let more = length-append rs (s ∷ []) in omega (arith, more, h.some);
  above = λ n at is. by n at (place rs disk_descriptor n) refl (carries_page disk_descriptor n s) (sym (place-append disk_descriptor n rs s) ∙ is);
  each = λ n few. noted_more (place rs disk_descriptor n) (get_or old n 0) (get_or new n 0) (length rs) (carries_page disk_descriptor n s) (h.each n few) (h.above n) (step.each n few) ∙ ap or_zero (sym (place-append disk_descriptor n rs s));
}
  where
    by : (n at : ℕ) (was : Option ℕ) → place rs disk_descriptor n ≡ was → (c : Bool) → option_or (place rs disk_descriptor n) (cond c (Some (length rs)) None) ≡ Some at → 1 ≤ at
    by n at (Some i) e c is = h.above n at (e ∙ sym (ap (λ o. option_or o (cond c (Some (length rs)) None)) e) ∙ is)
    by n at None e true is =
        let both : Some (length rs) ≡ Some at = sym (ap (λ o. option_or o (Some (length rs))) e) ∙ is in
        let same : length rs ≡ at = cc in
        omega (arith, same, h.some)
    by n at None e false is = let both : None ≡ Some at = sym (ap (λ o. option_or o None) e) ∙ is in absurd cc

-- before sector 1
pub none_noted : (places : List ℕ) → ((n : ℕ) → n < 6 → get_or places n 0 ≡ 0) → HaveNoted (hidden ∷ []) places
unfolding first
none_noted places zeros = record { some = omega arith; above = λ n at is. absurd cc; each = zeros }

-- all sectors
pub found_places : {told : Bool} {t : Taped} (before after : Finder) → ((n : ℕ) → n < 6 → get_or before.places n 0 ≡ 0) → Swept told Finds t before after → IsTrue told → ArePlaces (pack t) after.places
unfolding first
found_places before after zeros swept h = (kept_by_steps Finds (λ ss v. HaveNoted ss v.places) (λ rs u w s. noted_next rs u.places w.places s) (none_noted before.places zeros) swept h).each

-- each of them is one of the disk, on every machine
pub record AreBelow (end : ℕ) (places : List ℕ) : Type 0 where
  pub size : length places ≡ 6
  pub each : (n : ℕ) → n < 6 → get_or places n 0 < end

pub below_next : (end : ℕ) (old new : List ℕ) (at : ℕ) (s : Sight) → 1 ≤ at → at < end → AreBelow end old → NotesPage old at s new → AreBelow end new
below_next end old new at s some low h step = record {
  size = step.size ∙ h.size;
  each = λ n few. let is = step.each n few in let was = h.each n few in by n (get_or old n 0 == 0 && carries_page disk_descriptor n s) is was;
}
  where
    by : (n : ℕ) (t : Bool) → get_or new n 0 ≡ cond t at (get_or old n 0) → get_or old n 0 < end → get_or new n 0 < end
    by n true is was = omega (arith, is, low)
    by n false is was = omega (arith, is, was)

pub all_within : (end : ℕ) (places : List ℕ) → AreBelow end places → AreWithin end places
all_within end places h = λ k d few. (let size = h.size in let n : k < 6 = omega (arith, few, size) in let low = h.each k n in let same = get_or_default places k d 0 few in omega (arith, low, same))

pub found_within : {told : Bool} {t : Taped} (before after : Finder) → AreBelow (pages_of t.form) before.places → Swept told Finds t before after → AreWithin (pages_of t.form) after.places
found_within {told} {t} before after first swept = all_within (pages_of t.form) after.places (kept_at_each Finds (pages_of t.form) (λ v. AreBelow (pages_of t.form) v.places) (λ u w. below_next (pages_of t.form) u.places w.places) refl first swept)

-- none yet
abbrev zeros : List ℕ
zeros = 0 ∷ 0 ∷ 0 ∷ 0 ∷ 0 ∷ 0 ∷ []

pub no_places : (n : ℕ) → n < 6 → get_or zeros n 0 ≡ 0
no_places zero few = refl
no_places (suc zero) few = refl
no_places (suc (suc zero)) few = refl
no_places (suc (suc (suc zero))) few = refl
no_places (suc (suc (suc (suc zero)))) few = refl
no_places (suc (suc (suc (suc (suc zero))))) few = refl
no_places (suc (suc (suc (suc (suc (suc n)))))) few = absurd (omega arith)

pub some_pages : (shape : Shape) (at : ℕ) → at ≡ 0 → at < pages_of shape
some_pages shape at is = let least = shape.least_pages in omega (arith, is, least)
