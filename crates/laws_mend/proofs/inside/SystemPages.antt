-- Leader pages of the system files that are made, moved or given their names.
use Rattle.std.proofs.Common.{◌∙◌, ◌≡◌, ◌≢◌, ◌∷◌, List, None, Some, [], ap, refl, subst, sym, ℕ}
use Rattle.laws_room.specs.alto_words.specs.Fid.{disk_descriptor, sys_dir}
use Rattle.laws_room.specs.disk_records.specs.Labels.{page_of, tag}
use Rattle.laws_room.specs.disk_records.specs.Packs.{Pack, carried, sector_at}
use Rattle.laws_room.specs.disk_records.specs.declared.records.Page.{Page}
use Rattle.laws_room.specs.disk_records.specs.declared.records.Sector.{Sector}
use Rattle.laws_room.specs.pack_model.specs.hints.Links.{dir_words}
use Rattle.laws_room.specs.pack_model.specs.reading.Bytes.{words_of}
use Rattle.laws_room.specs.pack_model.specs.reading.Files.{file_bytes, leader, place}
use Rattle.laws_room.specs.pack_model.specs.reading.Namings.{namings_in}
use Rattle.laws_room.specs.pack_model.specs.reading.Sights.{sights}
use Rattle.laws_room.specs.pack_model.specs.reading.Slots.{slots}
use Rattle.laws_room.specs.pack_model.specs.reading.Slots.Item.{space}
use Rattle.laws_room.specs.pack_model.specs.scavenger.Scavenging.{RootStands, root_stands}
use Rattle.laws_room.specs.pack_model.specs.showing.View.{view}
use Rattle.laws_room.specs.pack_laws.proofs.files.Laws.{places_are_lowest}
use Rattle.laws_room.specs.pack_laws.proofs.guards.Laws.{claim_takes_at_the_label}
use Rattle.laws_room.specs.pack_laws.proofs.Guarding.{carried_parts, value_page}
use Rattle.laws_room.specs.laws_record.proofs.Recording.{carried_sight}
use Rattle.laws_room.specs.laws_record.proofs.quiet.Laws.{copy_claim_reads_same}
use Rattle.laws_room.specs.laws_record.proofs.views.Laws.{descriptor_leader_views_same, first_leader_of_the_main_directory, system_leader_value_views_same}
use Rattle.laws_room.specs.laws_record.specs.QuietLaws.{IsCopyOf, with_value}
use Rattle.laws_room.proofs.keeping.Laws.{copy_claim_keeps_aside, descriptor_leader_keeps_with_root, fresh_leader_of_the_main_directory_keeps, system_leader_value_keeps_with_root}
use Rattle.laws_room.proofs.marks.Laws.{unmarked_stays}
use Rattle.laws_room.specs.KeepLaws.RootMay.{its_leader}
use Rattle.laws_room.specs.MarkLaws.{mark_page}
use Rattle.laws_mend.proofs.inside.Claiming.{claim_tends, none, once, one, still, twice, two, unmarked_label}
use Rattle.laws_mend.proofs.inside.Joining.{nothing_tends}
use Rattle.laws_mend.proofs.inside.Relabelling.{no_leader}
use Rattle.laws_mend.proofs.inside.Releasing.{some_none}
use Rattle.laws_mend.specs.RunLaws.{DescriptorLeaderTends, RootCopyTends, RootLeaderTends, SystemNameTends}

abbrev pub root_page : Page
root_page = record { fid = sys_dir; number = 0 }

-- sector 1 stands as SysDir's leader page where it carries that
pub root_shown : (q : Pack) → carried q 1 ≡ Some root_page → RootStands q.shape (sights q)
root_shown q is = ap (root_stands q.shape (sights q)) (carried_sight q 1 root_page is)

-- ---- DiskDescriptor's first leader page
pub descriptor_leader_tends : DescriptorLeaderTends
descriptor_leader_tends p at label value is apart root names =
    let page : Page = record { fid = disk_descriptor; number = 0 } in
    let q : Pack = once p at page label value is names in
    let r : Pack = twice p at page label value is names in
    let there = still p at page label value is names in
    let other : 1 ≢ at = λ e. apart (sym e) in
    let stands : carried r 1 ≡ Some root_page = (two p at page label value is names).pages 1 other ∙ root in
    claim_tends p at page label value is names (record {
      keeps = descriptor_leader_keeps_with_root q at label there names (λ before. root_shown r stands);
      viewed = descriptor_leader_views_same q at label there names;
      unmarked = unmarked_label p at page label value is names (λ same. absurd (no_leader page refl same));
    })

-- ---- SysDir's first leader page, in sector 1
pub root_leader_tends : RootLeaderTends
root_leader_tends p label value is names headless free =
    let q : Pack = once p 1 root_page label value is names in
    let r : Pack = twice p 1 root_page label value is names in
    let there = still p 1 root_page label value is names in
    let same : sights q ≡ sights p = (one p 1 root_page label value is names).shown in
    let gone : leader (sights q) sys_dir ≡ None = subst (λ ss. leader ss sys_dir ≡ None) (sym same) headless in
    let space_alone : slots (dir_words q sys_dir) ≡ space 255 ∷ [] = subst (λ ss. slots (words_of (file_bytes ss sys_dir)) ≡ space 255 ∷ []) (sym same) free in
    claim_tends p 1 root_page label value is names (record {
      keeps = fresh_leader_of_the_main_directory_keeps q 1 label there names gone space_alone (λ before. root_shown r (two p 1 root_page label value is names).page_here);
      viewed = first_leader_of_the_main_directory q 1 label there names gone (ap (namings_in sys_dir) space_alone);
      unmarked = unmarked_label p 1 root_page label value is names (λ e. absurd (no_leader root_page refl e));
    })

-- ---- an equal copy of SysDir's leader page, in sector 1
pub root_copy_tends : RootCopyTends
root_copy_tends p old is placed =
    let here : carried p old ≡ Some root_page = ((places_are_lowest p root_page).lowest old placed).here in
    let label : List ℕ = (sector_at p old).label in
    let value : List ℕ = (sector_at p old).value in
    let names : page_of label ≡ Some root_page = (carried_parts p old root_page here).1 in
    let q : Pack = once p 1 root_page label value is names in
    let there = still p 1 root_page label value is names in
    let same : sights q ≡ sights p = (one p 1 root_page label value is names).shown in
    let apart : old ≢ 1 = λ e. some_none (sym (none p 1 root_page label value is names) ∙ ap (carried p) (sym e) ∙ here) in
    let source : sector_at q old ≡ sector_at p old = (one p 1 root_page label value is names).others old apart in
    let filled = (claim_takes_at_the_label p 1 root_page label value 1 is names).filled refl in
    let copy : IsCopyOf q old root_page label (sector_at q 1).value = record {
      page_is = names;
      count = ap (λ (s : Sector). (tag s.label).bytes) (sym source);
      words = ap (λ (s : Sector). s.value) filled ∙ ap (λ (s : Sector). s.value) (sym source);
    } in
    let lowest : place (sights q) sys_dir 0 ≡ Some old = subst (λ ss. place ss sys_dir 0 ≡ Some old) (sym same) placed in
    claim_tends p 1 root_page label value is names (record {
      keeps = copy_claim_keeps_aside q 1 old root_page label there lowest copy (its_leader (two p 1 root_page label value is names).page_here);
      viewed = ap view (copy_claim_reads_same q 1 old root_page label there lowest copy);
      unmarked = unmarked_label p 1 root_page label value is names (λ e. absurd (no_leader root_page refl e));
    })

-- ---- the name of a system file
pub system_name_tends : SystemNameTends
system_name_tends p at f value sys root here =
    let page : Page = record { fid = f; number = 0 } in
    let q : Pack = with_value p at value in (
      nothing_tends p,
      record {
        keeps = system_leader_value_keeps_with_root p at f value sys here (λ before. root_shown q (value_page p at value 1 ∙ root));
        viewed = system_leader_value_views_same p at f value sys here;
        unmarked = λ u. unmarked_stays p at 2 value u
            (λ is. absurd (no_leader page refl (sym here ∙ ((places_are_lowest p mark_page).lowest at is).here)))
            (λ c. absurd (no_leader page refl (sym here ∙ sym (value_page p at value at) ∙ c)));
      },
    )
