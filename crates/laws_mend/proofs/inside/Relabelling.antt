-- Labels of pages that are written anew while the pages of a pack are mended.
use Rattle.std.proofs.Common.{◌∙◌, ◌≡◌, ◌≢◌, ◌<◌, List, None, Some, ap, arith, inl, inr, subst, sym, suc, ℕ}
use Rattle.std.proofs.lemmas.Bool.{cases_eq}
use Rattle.std.specs.Prelude.{cond, nat_lt, ◌&&◌}
use Rattle.laws_room.specs.disk_records.specs.Addresses.{is_right_header}
use Rattle.laws_room.specs.alto_words.specs.Fid.{disk_descriptor}
use Rattle.laws_room.specs.disk_records.specs.Commands.{relabel_writes}
use Rattle.laws_room.specs.disk_records.specs.Labels.{page_of}
use Rattle.laws_room.specs.disk_records.specs.Packs.{Pack, after, carried, is_usable, sector_at}
use Rattle.laws_room.specs.disk_records.specs.Words.{word}
use Rattle.laws_room.specs.disk_records.specs.declared.records.Page.{Page}
use Rattle.laws_room.specs.pack_model.specs.reading.Model.{read_as}
use Rattle.laws_room.specs.pack_model.specs.scavenger.Scavenging.{Keeps, Unmarked}
use Rattle.laws_room.specs.pack_model.specs.showing.View.{view}
use Rattle.laws_room.specs.pack_laws.proofs.files.Laws.{places_are_lowest}
use Rattle.laws_room.specs.pack_laws.proofs.guards.Laws.{relabel_keeps_the_page, value_writes_keep_the_page}
use Rattle.laws_room.specs.pack_laws.proofs.Guarding.{front_from, value_page}
use Rattle.laws_room.specs.pack_laws.specs.GuardLaws.{ComesToHold}
use Rattle.laws_room.specs.laws_record.proofs.quiet.Laws.{equal_value_reads_same, other_links_reads_same, same_leader_reads_same}
use Rattle.laws_room.specs.laws_record.proofs.directories.Laws.{cut_at_slots_reads_same}
use Rattle.laws_room.specs.laws_record.proofs.views.Laws.{descriptor_pages_views_same}
use Rattle.laws_room.specs.laws_record.specs.QuietLaws.{with_label, with_value}
use Rattle.laws_room.specs.laws_record.specs.ViewLaws.IsDescriptorPage.{claimed}
use Rattle.laws_room.proofs.keeping.Laws.{cut_at_slots_keeps_aside, descriptor_pages_keeps_aside, equal_value_keeps_aside, other_links_keeps_aside, same_leader_keeps_aside}
use Rattle.laws_room.specs.KeepLaws.{RootMay}
use Rattle.laws_room.specs.KeepLaws.RootMay.{as_before}
use Rattle.laws_room.proofs.marks.Laws.{unmarked_stays}
use Rattle.laws_room.specs.MarkLaws.{mark_page}
use Rattle.laws_mend.proofs.inside.Joining.{nothing_tends, tends_on}
use Rattle.laws_mend.specs.RunLaws.{DescriptorCountTends, DirectoryCutTends, LostNameTends, OtherLinksTend}
use Rattle.laws_mend.specs.Tending.{Tends, AllTends}

-- where each sector carries the page that it carried, and holds the value that it held, there is no other mark
pub unmarked_same : (p q : Pack) → ((i : ℕ) → carried q i ≡ carried p i) → ((i : ℕ) → (sector_at q i).value ≡ (sector_at p i).value) → Unmarked p → Unmarked q
unmarked_same p q pages values u k is marked =
    let was = (places_are_lowest q mark_page).lowest k is in
    let here : carried p k ≡ Some mark_page = sym (pages k) ∙ was.here in
    let lowest : (j : ℕ) → j < k → carried p j ≢ Some mark_page = λ j less c. was.lowest j less (pages j ∙ c) in
    u k ((places_are_lowest p mark_page).place_is k (record { here = here; lowest = lowest })) (ap (λ v. word v 6) (sym (values k)) ∙ marked)

-- the mark's page is no leader page
pub no_leader : (page : Page) → page.number ≡ 0 → Some page ≡ Some mark_page → ⊥
no_leader page first same = let e : page ≡ mark_page = cc in let n : page.number ≡ 1 = ap (λ (x : Page). x.number) e in omega arith

-- a value leaves headers
pub usable_value : (p : Pack) (at : ℕ) (value : List ℕ) (i : ℕ) → is_usable p.shape i (sector_at (with_value p at value) i) ≡ is_usable p.shape i (sector_at p i)
usable_value p at value i = ap (λ header. nat_lt 0 i && is_right_header p.shape i header) ((front_from p.sectors at i value).0)

module _ (p : Pack) (at : ℕ) (page : Page) (label : List ℕ) (here : carried p at ≡ Some page) (names : page_of label ≡ Some page) where
  abbrev value : List ℕ
  value = (sector_at p at).value

  -- the pack with the label, and with the equal value after it
  abbrev once : Pack
  once = with_label p at label

  abbrev twice : Pack
  twice = after p (relabel_writes at label value)

  one : ComesToHold at page label value p once
  one = relabel_keeps_the_page p at page label 1 here names (omega arith)

  two : ComesToHold at page label value p twice
  two = relabel_keeps_the_page p at page label 2 here names (omega arith)

  -- each sector carries what it carried, and has the value that it had
  pub pages_once : (i : ℕ) → carried once i ≡ carried p i
  pages_once i = elim (cases_eq i at) [
    | inl same ↦ ap (carried once) same ∙ one.page_here ∙ sym here ∙ sym (ap (carried p) same)
    | inr other ↦ one.pages i other
  ]

  values_once : (i : ℕ) → (sector_at once i).value ≡ (sector_at p i).value
  values_once i = elim (cases_eq i at) [
    | inl same ↦ ap (λ k. (sector_at once k).value) same ∙ ap (λ s. s.value) one.here ∙ sym (ap (λ k. (sector_at p k).value) same)
    | inr other ↦ ap (λ s. s.value) (one.others i other)
  ]

  -- the value changes nothing
  sectors_twice : (i : ℕ) → sector_at twice i ≡ sector_at once i
  sectors_twice i = elim (cases_eq i at) [
    | inl same ↦ ap (sector_at twice) same ∙ two.here ∙ sym one.here ∙ sym (ap (sector_at once) same)
    | inr other ↦ two.others i other ∙ sym (one.others i other)
  ]

  pages_twice : (i : ℕ) → carried twice i ≡ carried once i
  pages_twice i = ap (λ s. cond (is_usable p.shape i s) (page_of s.label) None) (sectors_twice i)

  -- sector 1 is as it was
  usable_once : is_usable p.shape 1 (sector_at once 1) ≡ is_usable p.shape 1 (sector_at p 1)
  usable_once = elim (cases_eq 1 at) [
    | inl same ↦ ap (λ k. is_usable p.shape 1 (sector_at once k)) same ∙ ap (is_usable p.shape 1) one.here ∙ sym (ap (λ k. is_usable p.shape 1 (sector_at p k)) same)
    | inr other ↦ ap (is_usable p.shape 1) (one.others 1 other)
  ]

  pub root_once : RootMay p once
  root_once = as_before usable_once (pages_once 1)

  root_twice : RootMay once twice
  root_twice = as_before (ap (is_usable p.shape 1) (sectors_twice 1)) (pages_twice 1)

  held : (sector_at once at).value ≡ value
  held = ap (λ s. s.value) one.here

  second : Tends once twice
  second = record {
    keeps = subst (λ v. RootMay once (with_value once at v) → Keeps once (with_value once at v)) held (equal_value_keeps_aside once at) root_twice;
    viewed = ap view (subst (λ v. read_as (with_value once at v) ≡ read_as once) held (equal_value_reads_same once at));
    unmarked = unmarked_same once twice pages_twice (λ i. ap (λ s. s.value) (sectors_twice i));
  }

  -- a label tends, and so does the whole run
  pub relabel_tends : (RootMay p once → Keeps p once) → view (read_as once) ≡ view (read_as p) → AllTends p (relabel_writes at label value)
  relabel_tends keeps viewed =
      let first : Tends p once = record { keeps = keeps root_once; viewed = viewed; unmarked = unmarked_same p once pages_once values_once } in
      (nothing_tends p, (first, tends_on p once twice first second))

-- other links
pub other_links_tend : OtherLinksTend
other_links_tend p at page label here names tail = relabel_tends p at page label here names (other_links_keeps_aside p at label tail) (ap view (other_links_reads_same p at label tail))

-- another count of a data page of DiskDescriptor
pub descriptor_count_tends : DescriptorCountTends
descriptor_count_tends p at n label here names =
    let page : Page = record { fid = disk_descriptor; number = suc n } in
    let now = pages_once p at page label here names at ∙ here in
    relabel_tends p at page label here names (descriptor_pages_keeps_aside p at 1 label (claimed n here) (claimed n now)) (descriptor_pages_views_same p at 1 label (claimed n here) (claimed n now))

-- one by which a directory ends with its slots
pub directory_cut_tends : DirectoryCutTends
directory_cut_tends p d at n label dir is names short ends =
    let page : Page = record { fid = d; number = suc n } in
    let here : carried p at ≡ Some page = ((places_are_lowest p page).lowest at is).here in
    relabel_tends p at page label here names (cut_at_slots_keeps_aside p d at n label dir is names short ends) (ap view (cut_at_slots_reads_same p d at n label dir is names short ends))

-- ---- a leader page's name that stands for one that can't be read
pub lost_name_tends : LostNameTends
lost_name_tends p at page value here first says =
    let two : ComesToHold at page (sector_at p at).label value p (with_value p at value) = value_writes_keep_the_page p at page value 1 here (omega arith) in
    let same : (i : ℕ) → carried (with_value p at value) i ≡ carried p i = λ i. value_page p at value i in
    let root : RootMay p (with_value p at value) = as_before (usable_value p at value 1) (same 1) in (
      nothing_tends p,
      record {
        keeps = same_leader_keeps_aside p at page value here first says root;
        viewed = ap view (same_leader_reads_same p at page value here first says);
        unmarked = λ u. unmarked_stays p at 2 value u
            (λ is. let m = ((places_are_lowest p mark_page).lowest at is).here in absurd (let e : Some page ≡ Some mark_page = sym here ∙ m in no_leader page first e))
            (λ c. absurd (no_leader page first (sym here ∙ (sym (same at) ∙ c))));
      },
    )
