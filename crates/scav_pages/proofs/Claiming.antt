-- A page that is missing is claimed at the lowest free sector.
use Rattle.std.specs.Option.{option_map_or}
use Rattle.std.proofs.Common.{◌≡◌, ◌≢◌, ℕ, ◌+◌, ◌<◌, ◌≤◌, ◌==◌, nat_lt, Bool, true, false, cond, List, get_or, length, replicate, Option, Some, refl, sym, ap, subst, ◌∙◌, arith}
use Rattle.std.proofs.lemmas.Bool.Decides.{nat_tests}
use Rattle.std.proofs.lemmas.List.{get_or-replicate}
use Rattle.std.proofs.lemmas.Option.{cond_some}
use Rattle.alto_words.specs.Fid.{disk_descriptor, is_full_name, sys_dir}
use Rattle.disk_records.specs.declared.records.Page.{Page}
use Rattle.disk_records.specs.Commands.{claim_writes}
use Rattle.disk_records.specs.Labels.{in_range, is_free, label_of, page_of, tag}
use Rattle.disk_records.specs.Packs.{Pack, after, carried, is_free_at, sector_at}
use Rattle.disk_records.specs.Tapes.{Taped, added, pack}
use Rattle.disk_records.proofs.Growing.{pack-after}
use Rattle.pack_model.specs.reading.Files.{carries_page, place}
use Rattle.pack_model.specs.reading.Leaders.{Leader}
use Rattle.pack_model.specs.reading.Model.{good_one}
use Rattle.pack_model.specs.reading.Sights.{sights}
use Rattle.pack_model.specs.reading.Sights.Sight.{hidden, leads}
use Rattle.pack_model.specs.scavenger.Scavenging.{Scavengeable}
use Rattle.laws_mend.specs.pack_laws.specs.GuardLaws.{ComesToHold}
use Rattle.laws_mend.specs.pack_laws.proofs.Carrying.{carried_shown}
use Rattle.laws_mend.specs.pack_laws.proofs.Guarding.{carried_parts, named_taken}
use Rattle.laws_mend.specs.pack_laws.proofs.guards.Laws.{claim_takes_at_the_label}
use Rattle.laws_mend.specs.pack_laws.proofs.Keys.{is_fid-itself}
use Rattle.laws_mend.specs.pack_laws.proofs.Sighted.{length-sights}
use Rattle.laws_mend.specs.laws_record.proofs.DirReads.{not_descriptor}
use Rattle.laws_mend.specs.laws_operation.proofs.Lying.{within}
use Rattle.laws_mend.specs.laws_room.specs.MarkLaws.{OtherMark}
use Rattle.laws_mend.proofs.joins.Laws.{tending_ends}
use Rattle.laws_mend.proofs.parts.Laws.{last_claim_leaves}
use Rattle.laws_mend.proofs.runs.Laws.{descriptor_claim_tends, last_claim_tends}
use Rattle.laws_mend.specs.Tending.{AllTends}
use Rattle.scav_pages.specs.Ends.{IsWanted, MayClaim}
use Rattle.scav_pages.specs.Ends.IsWanted.{ends, describes}
use Rattle.scav_pages.specs.Free.{IsNextFree, NoneFreeBelow, NoneFreeFrom}
use Rattle.scav_pages.specs.Keeping.{KeepsFiles}
use Rattle.scav_pages.proofs.Changing.{claim_changes}
use Rattle.scav_pages.proofs.Doing.{Going}
use Rattle.scav_pages.proofs.Keeping.{Mends, data_keeps, keeps_bytes}
use Rattle.scav_pages.proofs.Leading.{free_carries, leaders_beside, leading}
use Rattle.scav_pages.proofs.Rooting.{root_page}

-- ---- a part of mending in another
-- what can be scavenged can be scavenged once it has gone on
pub going_scavengeable : {a b : Taped} → Going a b → Scavengeable (pack a) → Scavengeable (pack b)
going_scavengeable {a} {b} x s = subst Scavengeable (sym (pack-after x.grown)) ((tending_ends (pack a) (added a b) x.mends.tends).last.keeps.scavengeable s)

-- ---- labels
-- the label of a page names it, and a label that names a page is in range
pub names_its_page : (page : Page) (bytes next previous : ℕ) → is_full_name page.fid ≡ true → page.number < 65536 → bytes ≤ 512 → page_of (label_of page bytes next previous) ≡ Some page
unfolding in_range
names_its_page page bytes next previous full number few = grind (arith, nat_tests)

pub named_ranged : (label : List ℕ) (page : Page) → page_of label ≡ Some page → in_range (tag label) ≡ true
named_ranged label page names = (cond_some (in_range (tag label)) _ page names).0

-- ---- sector 1
pub root_carried : (p : Pack) (l : Leader) (readable : Bool) → get_or (sights p) 1 hidden ≡ leads sys_dir readable l → carried p 1 ≡ Some (root_page 0)
root_carried p l readable shows =
    let inside : 1 < length (sights p) = within (sights p) 1 (ap good_one shows) in
    let long = length-sights p in
    carried_shown p 1 (root_page 0) hidden (omega arith) (ap (carries_page sys_dir 0) shows ∙ is_fid-itself sys_dir)

pub carried_not_free : (p : Pack) (at : ℕ) (page : Page) → carried p at ≡ Some page → is_free_at p at ≡ false
carried_not_free p at page e =
    let parts = carried_parts p at page e in
    ap (λ b. cond b (is_free (tag (sector_at p at).label)) false) parts.0 ∙ named_taken (sector_at p at).label page parts.1

pub not_root : (p : Pack) (at : ℕ) → is_free_at p 1 ≡ false → is_free_at p at ≡ true → at ≢ 1
not_root p at root free same = (let no : true ≡ false = sym free ∙ ap (is_free_at p) same ∙ root in cc)

-- ---- the claim
-- zeros aren't the clean mark
zeros_unmarked : OtherMark (replicate 256 0)
zeros_unmarked e = omega (arith, e, get_or-replicate {A = ℕ} 256 0 6 0)

pub claim_mends : (p : Pack) (page : Page) (bytes from at : ℕ) (label : List ℕ) → MayClaim p page bytes from → is_free_at p at ≡ true → page_of label ≡ Some page → (tag label).bytes ≡ bytes → Mends p (claim_writes at label (replicate 256 0))
claim_mends p page bytes from at label may free names count = record {
  each = record { tends = by may.wanted; changes = claim_changes p at page label (replicate 256 0) free names };
  keeps = kept may.wanted;
}
  where
    by : IsWanted p page bytes → AllTends p (claim_writes at label (replicate 256 0))
    by (ends none apart number) = last_claim_tends p at page label (replicate 256 0) free (not_root p at may.root free) names apart (count ∙ none) number may.lacks
    by (describes n is) = descriptor_claim_tends p at n label (replicate 256 0) free (not_root p at may.root free) (names ∙ ap Some is) (ap (λ (x : Page). place (sights p) x.fid x.number) (sym is) ∙ may.lacks) zeros_unmarked

    kept : IsWanted p page bytes → KeepsFiles p (after p (claim_writes at label (replicate 256 0)))
    kept (ends none apart number) =
        let claimed = last_claim_leaves p at page label (replicate 256 0) free (not_root p at may.root free) names apart (count ∙ none) number may.lacks in
        keeps_bytes claimed.lives_are (leaders_beside ((claim_takes_at_the_label p at page label (replicate 256 0) 3 free names).taken (omega arith)) claimed.lives_are (λ g. free_carries p at (leading g) free) (λ g same. (let is : page.number ≡ 0 = ap (λ (o : Option Page). option_map_or (λ x. x.number) o 0) same in omega (arith, is, number)))) (λ d live dir. claimed.bytes_are d)
    kept (describes n is) = data_keeps p at disk_descriptor label (replicate 256 0) free n (names ∙ ap Some is) (λ d live dir. not_descriptor d dir)

-- the sector isn't free then, and the others are as they were
pub claim_takes : (p q : Pack) (page : Page) (at : ℕ) (label value : List ℕ) → is_free_at p at ≡ true → page_of label ≡ Some page → q ≡ after p (claim_writes at label value) → ComesToHold at page label value p q
claim_takes p q page at label value free names left = subst (ComesToHold at page label value p) (sym left) ((claim_takes_at_the_label p at page label value 3 free names).taken (omega arith))

pub none_below_claimed : (p q : Pack) (page : Page) (from at : ℕ) (label value : List ℕ) → NoneFreeBelow p from → IsNextFree p from at → page_of label ≡ Some page → q ≡ after p (claim_writes at label value) → NoneFreeBelow q (at + 1)
none_below_claimed p q page from at label value none next names left = λ k below. by k below (k == at) (nat_lt k from) refl refl
  where
    taken : ComesToHold at page label value p q
    taken = claim_takes p q page at label value next.free names left

    by : (k : ℕ) → k < at + 1 → (t u : Bool) → (k == at) ≡ t → nat_lt k from ≡ u → is_free_at q k ≡ false
    by k below true u e l =
        let same : k ≡ at = grind (arith, nat_tests, e) in
        ap (is_free_at q) same ∙ taken.free_here
    by k below false true e l =
        let other : k ≢ at = λ same. (let no = subst (λ i. (i == at) ≡ false) same e in grind (arith, nat_tests, no)) in
        let low : k < from = grind (arith, nat_tests, l) in
        taken.frees k other ∙ none k low
    by k below false false e l =
        let other : k ≢ at = λ same. (let no = subst (λ i. (i == at) ≡ false) same e in grind (arith, nat_tests, no)) in
        let high : from ≤ k = grind (arith, nat_tests, l) in
        taken.frees k other ∙ next.lowest k high (omega (arith, below, other))

-- a free sector is found
pub some_is_free : (p : Pack) (page : Page) (bytes from : ℕ) → MayClaim p page bytes from → NoneFreeFrom p from → ⊥
some_is_free p page bytes from may none = let at = may.some.0 in by (nat_lt at from) refl
  where
    by : (u : Bool) → nat_lt may.some.0 from ≡ u → ⊥
    by true l = let low : may.some.0 < from = grind (arith, nat_tests, l) in let no : true ≡ false = sym may.some.1 ∙ may.none_below may.some.0 low in cc
    by false l = let high : from ≤ may.some.0 = grind (arith, nat_tests, l) in let no : true ≡ false = sym may.some.1 ∙ none may.some.0 high in cc
