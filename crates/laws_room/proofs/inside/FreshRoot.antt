-- SysDir comes alive with one free slot of 255 words: as the Scavenger has it where it doesn't live.
use Rattle.std.proofs.Common.{List, None, Some, ap, refl, set, subst, sym, ◌∙◌, ◌≡◌}
use Rattle.std.specs.FinMap.{get}
use Rattle.std.specs.Option.{option_map}
use Rattle.laws_operation.specs.alto_words.specs.Fid.{sys_dir}
use Rattle.laws_operation.specs.disk_records.specs.Labels.{tag}
use Rattle.laws_operation.specs.disk_records.specs.Packs.{sector_at}
use Rattle.laws_operation.specs.disk_records.specs.declared.records.Page.{Page}
use Rattle.laws_operation.specs.pack_model.specs.reading.Bodies.{described}
use Rattle.laws_operation.specs.pack_model.specs.reading.Bodies.Body.{items_of}
use Rattle.laws_operation.specs.pack_model.specs.reading.Files.{file_bytes, leader, leader_at}
use Rattle.laws_operation.specs.pack_model.specs.reading.Leaders.{Leader, is_readable, leader_of, leader_words}
use Rattle.laws_operation.specs.pack_model.specs.hints.Links.{dir_words}
use Rattle.laws_operation.specs.pack_model.specs.scavenger.Mended.{root_body}
use Rattle.laws_operation.specs.pack_model.specs.reading.Model.{good_one}
use Rattle.laws_operation.specs.pack_model.specs.reading.Sights.{Sight, page_sight, sights}
use Rattle.laws_operation.specs.pack_model.specs.reading.Slots.{slots}
use Rattle.laws_room.specs.KeepLaws.{FreshLeaderOfTheMainDirectoryKeeps}
use Rattle.laws_operation.specs.pack_laws.proofs.Firsts.{first_new}
use Rattle.laws_operation.specs.pack_laws.proofs.Guarding.{free_parts}
use Rattle.laws_operation.specs.pack_laws.proofs.Placing.{leader_at-leads}
use Rattle.laws_record.proofs.Reading.{get-found, get_by, read_file}
use Rattle.laws_record.proofs.Recording.{free_sight, free_within, label_sights}
use Rattle.laws_record.proofs.SystemWrites.{mended_from}
use Rattle.laws_record.proofs.Systemic.{MendedStay, OnlyLeader, bytes_kept, described_get, only_free, only_leads, root_leads}
use Rattle.laws_record.specs.QuietLaws.{with_label}

-- SysDir's first leader, over one free slot
pub fresh_root : FreshLeaderOfTheMainDirectoryKeeps MendedStay
fresh_root p at label is names none free_slot =
    let ss : List Sight = sights p in
    let x : Page = record { fid = sys_dir; number = 0 } in
    let l : Leader = leader_of sys_dir (sector_at p at).value in
    let s : Sight = page_sight sys_dir 0 (tag label).bytes (sector_at p at).value in
    let tt : List Sight = set ss at s in
    let was = subst (OnlyLeader sys_dir) (sym (free_sight p at is)) (only_free sys_dir) in
    let now : OnlyLeader sys_dir s = only_leads sys_dir _ _ in
    let lead : leader tt sys_dir ≡ Some l = first_new (leader_at sys_dir) ss at s (free_within p at is) none ∙ leader_at-leads sys_dir (is_readable (leader_words (sector_at p at).value)) l in
    let bytes : file_bytes tt sys_dir ≡ file_bytes ss sys_dir = bytes_kept ss at sys_dir s was now sys_dir in
    let gone : get (described ss) sys_dir ≡ None = described_get ss sys_dir refl ∙ get-found ss sys_dir ∙ ap (option_map (read_file sys_dir (file_bytes ss sys_dir))) none in
    let here : get (described tt) sys_dir ≡ Some (record { leader = l; body = items_of (slots (dir_words p sys_dir)) }) = described_get tt sys_dir refl ∙ get_by tt sys_dir l (file_bytes ss sys_dir) lead bytes in
    mended_from p (with_label p at label) at s refl (label_sights p at x label (free_parts p at is).0 names) (sym (ap good_one (free_sight p at is)))
    (root_leads ss at s was now (ap root_body here ∙ ap items_of free_slot ∙ sym (ap root_body gone)))
