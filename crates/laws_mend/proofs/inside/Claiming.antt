-- Free sectors that are claimed while the pages of a pack are mended.
use Rattle.std.proofs.Common.{◌∙◌, ◌≡◌, ◌≢◌, List, None, Some, ap, arith, false, inl, inr, refl, subst, sym, true, suc, ℕ}
use Rattle.std.proofs.lemmas.Bool.{cases_eq}
use Rattle.std.specs.Prelude.{cond, length, ◌/◌}
use Rattle.laws_room.specs.alto_words.specs.Fid.{disk_descriptor, is_fid}
use Rattle.laws_room.specs.disk_records.specs.Commands.{claim_writes}
use Rattle.laws_room.specs.disk_records.specs.Labels.{page_of}
use Rattle.laws_room.specs.disk_records.specs.Packs.{Pack, after, carried, is_free_at, is_usable, sector_at}
use Rattle.laws_room.specs.disk_records.specs.declared.records.Page.{Page}
use Rattle.laws_room.specs.pack_model.specs.reading.Files.{file_bytes, place}
use Rattle.laws_room.specs.pack_model.specs.reading.Model.{read_as}
use Rattle.laws_room.specs.pack_model.specs.reading.Sights.{sights}
use Rattle.laws_room.specs.pack_model.specs.scavenger.Scavenging.{Keeps, Unmarked}
use Rattle.laws_room.specs.pack_model.specs.showing.View.{view}
use Rattle.laws_room.specs.pack_laws.proofs.files.Laws.{places_are_lowest}
use Rattle.laws_room.specs.pack_laws.proofs.guards.Laws.{claim_takes_at_the_label}
use Rattle.laws_room.specs.pack_laws.proofs.Guarding.{free_parts, free_unnamed}
use Rattle.laws_room.specs.pack_laws.specs.GuardLaws.{ComesToHold, LooksSame}
use Rattle.laws_room.specs.laws_record.proofs.quiet.Laws.{equal_value_reads_same, free_value_reads_same, last_claim_reads_same, unread_claim_reads_same}
use Rattle.laws_room.specs.laws_record.proofs.views.Laws.{descriptor_pages_views_same}
use Rattle.laws_room.specs.laws_record.specs.QuietLaws.{IsUnread, with_label, with_value}
use Rattle.laws_room.specs.laws_record.specs.ViewLaws.IsDescriptorPage.{claimed, unclaimed}
use Rattle.laws_room.proofs.keeping.Laws.{descriptor_pages_keeps_aside, equal_value_keeps_aside, free_value_keeps_aside, last_claim_keeps_aside, unread_claim_keeps_aside}
use Rattle.laws_room.proofs.marks.Laws.{unmarked_stays}
use Rattle.laws_room.specs.KeepLaws.{RootMay}
use Rattle.laws_room.specs.KeepLaws.RootMay.{as_before}
use Rattle.laws_room.specs.MarkLaws.{OtherMark, mark_page}
use Rattle.laws_mend.proofs.inside.Joining.{nothing_tends, tends_on}
use Rattle.laws_mend.proofs.inside.Relabelling.{unmarked_same}
use Rattle.laws_mend.specs.RunLaws.{DescriptorClaimTends, LastClaimTends, UnreadClaimTends}
use Rattle.laws_mend.specs.Tending.{Tends, AllTends}

module _ (p : Pack) (at : ℕ) (page : Page) (label value : List ℕ) (is : is_free_at p at ≡ true) (names : page_of label ≡ Some page) where
  -- the pack with the value, with the label, and with the equal value
  abbrev pub once : Pack
  once = with_value p at value

  abbrev pub twice : Pack
  twice = with_label once at label

  abbrev thrice : Pack
  thrice = after p (claim_writes at label value)

  pub one : LooksSame at p once
  one = (claim_takes_at_the_label p at page label value 1 is names).before (omega arith)

  pub two : ComesToHold at page label value p twice
  two = (claim_takes_at_the_label p at page label value 2 is names).taken (omega arith)

  three : ComesToHold at page label value p thrice
  three = (claim_takes_at_the_label p at page label value 3 is names).taken (omega arith)

  -- it carried nothing
  pub none : carried p at ≡ None
  none = let parts = free_parts p at is in ap (λ b. cond b (page_of (sector_at p at).label) None) parts.0 ∙ free_unnamed (sector_at p at).label parts.1

  -- it is free as long as it has its label
  pub still : is_free_at once at ≡ true
  still = one.frees at ∙ is

  -- the value of a free sector
  usable_once : is_usable p.shape 1 (sector_at once 1) ≡ is_usable p.shape 1 (sector_at p 1)
  usable_once = elim (cases_eq 1 at) [
    | inl same ↦ ap (λ k. is_usable p.shape 1 (sector_at once k)) same ∙ ap (is_usable p.shape 1) ((claim_takes_at_the_label p at page label value 1 is names).filled refl) ∙ sym (ap (λ k. is_usable p.shape 1 (sector_at p k)) same)
    | inr other ↦ ap (is_usable p.shape 1) (one.others 1 other)
  ]

  first : Tends p once
  first = record {
    keeps = free_value_keeps_aside p at value is (as_before usable_once (one.pages 1));
    viewed = ap view (free_value_reads_same p at value is);
    unmarked = λ u. unmarked_stays p at 2 value u
        (λ was. let c = ((places_are_lowest p mark_page).lowest at was).here in let n = none in cc)
        (λ c. let n = one.pages at in let m = none in cc);
  }

  -- the equal value
  sectors_thrice : (i : ℕ) → sector_at thrice i ≡ sector_at twice i
  sectors_thrice i = elim (cases_eq i at) [
    | inl same ↦ ap (sector_at thrice) same ∙ three.here ∙ sym two.here ∙ sym (ap (sector_at twice) same)
    | inr other ↦ three.others i other ∙ sym (two.others i other)
  ]

  pages_thrice : (i : ℕ) → carried thrice i ≡ carried twice i
  pages_thrice i = ap (λ s. cond (is_usable p.shape i s) (page_of s.label) None) (sectors_thrice i)

  held : (sector_at twice at).value ≡ value
  held = ap (λ s. s.value) two.here

  third : Tends twice thrice
  third = record {
    keeps = subst (λ v. RootMay twice (with_value twice at v) → Keeps twice (with_value twice at v)) held (equal_value_keeps_aside twice at) (as_before (ap (is_usable p.shape 1) (sectors_thrice 1)) (pages_thrice 1));
    viewed = ap view (subst (λ v. read_as (with_value twice at v) ≡ read_as twice) held (equal_value_reads_same twice at));
    unmarked = unmarked_same twice thrice pages_thrice (λ i. ap (λ s. s.value) (sectors_thrice i));
  }

  -- a claim tends, if its label does
  pub claim_tends : Tends once twice → AllTends p (claim_writes at label value)
  claim_tends second = (nothing_tends p, (first, (tends_on p once twice first second, tends_on p twice thrice (tends_on p once twice first second) third)))

  -- sector 1 is as it was, if another one is claimed
  pub root_aside : at ≢ 1 → RootMay once twice
  root_aside apart =
      let other : 1 ≢ at = λ e. apart (sym e) in
      as_before (ap (is_usable p.shape 1) (two.others 1 other ∙ sym (one.others 1 other))) (two.pages 1 other ∙ sym (one.pages 1))

  -- there is no other mark, if it isn't the mark's page, or has another mark
  pub unmarked_label : (Some page ≡ Some mark_page → OtherMark value) → Unmarked once → Unmarked twice
  unmarked_label other u = unmarked_stays once at 1 label u
      (λ was. let c = ((places_are_lowest once mark_page).lowest at was).here in let n = one.pages at in let m = none in cc)
      (λ c. subst OtherMark (sym held) (other (sym two.page_here ∙ c)))

-- the mark's page is DiskDescriptor's
apart_mark : (page : Page) (value : List ℕ) → is_fid page.fid disk_descriptor ≡ false → Some page ≡ Some mark_page → OtherMark value
apart_mark page value is same =
    let e : page ≡ mark_page = cc in
    let own : is_fid mark_page.fid disk_descriptor ≡ false = ap (λ x. is_fid x.fid disk_descriptor) (sym e) ∙ is in
    absurd (let t : is_fid disk_descriptor disk_descriptor ≡ true = refl in cc)

-- of a page that isn't read
pub unread_claim_tends : UnreadClaimTends
unread_claim_tends p at page label value is apart names file unread =
    let same = (one p at page label value is names).shown in
    let now : IsUnread (sights (once p at page label value is names)) page.fid page.number = subst (λ ss. IsUnread ss page.fid page.number) (sym same) unread in
    let there = still p at page label value is names in
    claim_tends p at page label value is names (record {
      keeps = unread_claim_keeps_aside (once p at page label value is names) at page label there names now (root_aside p at page label value is names apart);
      viewed = ap view (unread_claim_reads_same (once p at page label value is names) at page label there names now);
      unmarked = unmarked_label p at page label value is names (apart_mark page value file);
    })

-- of a last page that is missing
pub last_claim_tends : LastClaimTends
last_claim_tends p at page label value is apart names file empty number lacks =
    let q : Pack = once p at page label value is names in
    let same : sights q ≡ sights p = (one p at page label value is names).shown in
    let there = still p at page label value is names in
    let ends : page.number ≡ suc (length (file_bytes (sights q) page.fid) / 512) = subst (λ ss. page.number ≡ suc (length (file_bytes ss page.fid) / 512)) (sym same) number in
    let gone : place (sights q) page.fid page.number ≡ None = subst (λ ss. place ss page.fid page.number ≡ None) (sym same) lacks in
    claim_tends p at page label value is names (record {
      keeps = last_claim_keeps_aside q at page label there names empty ends gone (root_aside p at page label value is names apart);
      viewed = ap view (last_claim_reads_same q at page label there names empty ends gone);
      unmarked = unmarked_label p at page label value is names (apart_mark page value file);
    })

-- of a data page of DiskDescriptor
pub descriptor_claim_tends : DescriptorClaimTends
descriptor_claim_tends p at n label value is apart names lacks other =
    let page : Page = record { fid = disk_descriptor; number = suc n } in
    let q : Pack = once p at page label value is names in
    let there = still p at page label value is names in
    let now = (two p at page label value is names).page_here in
    claim_tends p at page label value is names (record {
      keeps = descriptor_pages_keeps_aside q at 1 label (unclaimed there) (claimed n now) (root_aside p at page label value is names apart);
      viewed = descriptor_pages_views_same q at 1 label (unclaimed there) (claimed n now);
      unmarked = unmarked_label p at page label value is names (λ same. other);
    })
