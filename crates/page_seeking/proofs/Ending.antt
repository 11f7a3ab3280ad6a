-- Pages that end a file.
use Rattle.std.proofs.Common.{◌≡◌, ◌≢◌, ℕ, ◌-◌, ◌<◌, ◌≤◌, suc, Bool, true, false, cond, Some, None, IsTrue, inl, refl, ◌∙◌, ap, arith, ◌⊎◌, inr, nat_lt}
use Rattle.std.proofs.lemmas.Bool.Decides.{nat_tests}
use Rattle.alto_words.specs.declared.fid.Fid.{Fid}
use Rattle.disk_records.specs.declared.records.Page.{Page}
use Rattle.disk_records.specs.declared.shape.Shape.{Shape}
use Rattle.disk_records.specs.Labels.{in_range, tag}
use Rattle.disk_records.specs.Packs.{Pack, carried, is_usable, sector_at}
use Rattle.disk_records.specs.Words.{word}
use Rattle.label_check.specs.declared.errors.PageInfo.{PageInfo}
use Rattle.laws_contents.proofs.ends.Laws.{last_page_ends_the_file}
use Rattle.laws_contents.proofs.pages.Laws.{full_before_each_of_a_whole_pack, labels_count}
use Rattle.laws_lookup.specs.laws_record.proofs.Carried.{carried_place}
use Rattle.laws_lookup.specs.pack_laws.proofs.Sighted.{counted}
use Rattle.pack_model.specs.reading.Files.{place}
use Rattle.pack_model.specs.reading.Sights.{sights}
use Rattle.pack_model.specs.states.Whole.{Whole}
use Rattle.page_seeking.specs.declared.seek.Found.{Found}
use Rattle.page_seeking.specs.Seeking.{IsEnd, IsLengthBelow, length_at, page_number}
use Rattle.page_seeking.specs.Inside.{Known}

-- a number that isn't greater is the same or less
pub same_or_less : (a b : ℕ) → a ≤ b → (b ≡ a) ⊎ (a < b)
same_or_less a b most = by (nat_lt a b) refl
  where
    by : (t : Bool) → nat_lt a b ≡ t → (b ≡ a) ⊎ (a < b)
    by true e = inr (grind (arith, nat_tests))
    by false e = inl (grind (arith, nat_tests))

-- a label that names a page is in range
pub ranged : (p : Pack) (at : ℕ) (page : Page) → carried p at ≡ Some page → in_range (tag (sector_at p at).label) ≡ true
ranged p at page e = by (is_usable p.shape at (sector_at p at)) (in_range (tag (sector_at p at).label)) refl e
  where
    by : (u r : Bool) → in_range (tag (sector_at p at).label) ≡ r → cond u (cond r (Some (record { fid = (tag (sector_at p at).label).fid; number = (tag (sector_at p at).label).page })) None) None ≡ Some page → in_range (tag (sector_at p at).label) ≡ true
    by false r is e = absurd cc
    by true false is e = absurd cc
    by true true is e = is

pub end_of : {told : Bool} {p : Pack} {form : Shape} {f : Fid} {last number n : ℕ} {here : Found} → Known told p form (page_number f last) here → IsTrue told → 1 ≤ last → last < number → here.info.bytes ≢ 512 → n ≡ length_at last here.info.bytes → IsEnd p f number n
end_of {p = p} {f = f} {last} {here = here} known told first below short is =
    let count : here.info.bytes ≡ word (sector_at p here.at).label 3 = ap (λ (i : PageInfo). i.bytes) (known.tells told) in
    let most = counted (tag (sector_at p here.at).label) (ranged p here.at (page_number f last) (known.carries told)) in
    record {
      last = last;
      at = here.at;
      first = first;
      below = below;
      carries = known.carries told;
      short = omega (arith, count, most, short);
      sized = known.sized told;
      tells = is ∙ ap (length_at last) count;
    }

-- on a whole pack it tells the file's length
pub end_is_length : (p : Pack) (f : Fid) (number n : ℕ) → Whole p → IsEnd p f number n → IsLengthBelow p f number n
end_is_length p f number n whole e =
    let count = word (sector_at p e.at).label 3 in
    let last = e.last in
    let first = e.first in
    let small = e.short in
    let above : suc (last - 1) ≡ last = omega arith in
    let sector : place (sights p) f (suc (last - 1)) ≡ Some e.at = rw above (carried_place p whole e.at (page_number f last) e.carries) in
    let counts = (labels_count p f (last - 1) e.at sector).says e.sized in
    let size = (last_page_ends_the_file p f (last - 1) e.at (full_before_each_of_a_whole_pack p f (last - 1) e.at whole sector) sector (inl (omega (arith, counts, small)))).size in
    let told = e.tells in
    let below = e.below in
    record { is = omega (arith, told, size, counts); below = omega (arith, told) }
