-- A pack on which a hint misleads, and what a call finds there.
use Rattle.std.proofs.Common.{◌≡◌, ℕ, List, [], ◌∷◌, ◌++◌, Some, refl, sym, ap, ◌∙◌, arith}
use Rattle.std.specs.Prelude.{codes, replicate}
use Rattle.pack_laws.specs.alto_words.specs.Fid.{sys_dir, disk_descriptor}
use Rattle.pack_laws.specs.alto_words.specs.Names.{is_stored_name}
use Rattle.pack_laws.specs.disk_records.specs.declared.records.Page.{Page}
use Rattle.pack_laws.specs.disk_records.specs.declared.records.Place.TheVariants.{Entry}
use Rattle.pack_laws.specs.disk_records.specs.declared.records.Event.TheVariants.{Wrote, Shown}
use Rattle.pack_laws.specs.disk_records.specs.Addresses.{real_of}
use Rattle.pack_laws.specs.disk_records.specs.Labels.{in_range, is_free, label_of}
use Rattle.pack_laws.specs.disk_records.specs.Commands.{ones}
use Rattle.pack_laws.specs.disk_records.specs.Packs.{Pack, carried, label_found, after}
use Rattle.pack_laws.specs.pack_model.specs.reading.Leaders.{leader_of, leader_name, is_readable}
use Rattle.pack_laws.specs.pack_model.specs.reading.Sights.{sight, sights_from}
use Rattle.pack_laws.specs.pack_model.specs.reading.Files.{first, joined, most_pages, file_bytes}
use Rattle.pack_laws.specs.pack_model.specs.reading.Slots.{slots_after, slot_at, is_entry}
use Rattle.pack_laws.specs.pack_model.specs.reading.Slots.Item.{space, entry}
use Rattle.pack_laws.specs.pack_model.specs.reading.SlotWords.{SlotAt, entry_words, space_words, slots_at}
use Rattle.pack_laws.specs.pack_model.specs.reading.Namings.{sys_dir_name, descriptor_name}
use Rattle.pack_laws.specs.pack_model.specs.operations.PageWords.{filled, page_number, new_leader_value, leader_label}
use Rattle.pack_laws.specs.pack_model.specs.hints.Links.{no_link, dir_slots}
use Rattle.pack_laws.specs.pack_model.specs.sessions.Format.{Written, format_leader, format_page, with_headers}
use Rattle.pack_laws.specs.pack_model.specs.hints.Misled.{Misled, AnswersMisled, StandsInEntry}
use Rattle.pack_vectors.proofs.Shapes.{small}
use Rattle.pack_vectors.proofs.SmallPacks.{file_3}
use Rattle.pack_vectors.proofs.LinkVectors.{number_in}

-- a file without bytes, its leader in sector 5 and its page 1 in sector 6; SysDir's word 29, the address in its entry, is 6
abbrev wrong_slots : List ℕ
wrong_slots = entry_words sys_dir 1 sys_dir_name ++ entry_words disk_descriptor 3 descriptor_name ++ entry_words file_3 6 (codes "A.") ++ space_words 223

abbrev wrong_sectors : List Written
wrong_sectors =
    (replicate 8 0, replicate 256 0)
    ∷ format_leader small sys_dir sys_dir_name 1000 1 1 510
    ∷ (label_of (page_number sys_dir 1) 510 no_link (real_of small 1), filled 256 wrong_slots)
    ∷ format_leader small disk_descriptor descriptor_name 1000 3 1 38
    ∷ format_page small 0
    ∷ (leader_label small file_3 6, new_leader_value file_3 (codes "A.") 1000 6)
    ∷ (label_of (page_number file_3 1) 0 no_link (real_of small 5), replicate 256 0)
    ∷ replicate 41 (ones 8, ones 256)

abbrev pub wrong : Pack
wrong = record { shape = small; sectors = with_headers small 1 0 wrong_sectors }

abbrev wanted : Page
wanted = record { fid = file_3; number = 0 }

abbrev its_slot : SlotAt
its_slot = record { place = 24; item = entry file_3 (codes "A."); address = 6 }

wrong_dir : dir_slots wrong sys_dir
    ≡ record { place = 0; item = entry sys_dir sys_dir_name; address = 1 }
    ∷ record { place = 10; item = entry disk_descriptor descriptor_name; address = 3 }
    ∷ its_slot
    ∷ record { place = 32; item = space 223; address = 0 }
    ∷ []
unfolding sights_from sight real_of in_range is_free leader_of leader_name is_readable is_stored_name joined most_pages first slots_after slot_at is_entry slots_at file_bytes
wrong_dir = refl

-- the word misleads: sector 6 carries the file's page 1 and not its leader
pub wrong_stands : StandsInEntry wrong sys_dir 29 6 wanted
unfolding sights_from sight real_of in_range is_free leader_of leader_name is_readable is_stored_name joined most_pages first slots_after slot_at is_entry slots_at file_bytes
wrong_stands = record {
  lives = refl;
  directory = refl;
  slot = its_slot;
  name = codes "A.";
  stands = (2, omega arith, refl);
  item = refl;
  number = refl;
  word = refl;
  address = refl;
}

in_sector_6 : carried wrong 6 ≡ Some (record { fid = file_3; number = 1 })
unfolding real_of in_range
in_sector_6 = refl

abbrev label_6 : List ℕ
label_6 = 65535 ∷ 20480 ∷ 0 ∷ 0 ∷ 1 ∷ 1 ∷ 0 ∷ 3 ∷ []

found_6 : label_found wrong 6 ≡ Some label_6
unfolding real_of
found_6 = refl

misleads : Misled wrong (Entry sys_dir 29) 6 wanted
misleads = record {
  stands = wrong_stands;
  misses = λ i names carries.
      let here : carried wrong 6 ≡ Some wanted = ap (carried wrong) names.named ∙ carries in
      let both : Some (record { fid = file_3; number = 1 }) ≡ Some wanted = sym in_sector_6 ∙ here in
      let numbers : 1 ≡ 0 = ap (λ r. number_in r) both in
      omega arith;
}

-- a call that has written nothing finds the label that stands in sector 6
finds_6 : AnswersMisled wrong [] (Entry sys_dir 29) 6 wanted (Some label_6)
finds_6 = record {
  misled = misleads;
  on_disk = λ whole. tt;
  finds = record {
    named = λ i names. sym found_6 ∙ ap (label_found wrong) names.named;
    unnamed = λ none. absurd (none 6 (record { first = omega arith; last = omega arith; named = refl }));
  };
}

-- one that has written ones there before it looked finds these, and then shows a text
ones_6 : label_found (after wrong (Wrote 6 1 (ones 8) ∷ [])) 6 ≡ Some (ones 8)
unfolding real_of
ones_6 = refl

finds_ones : AnswersMisled wrong (Wrote 6 1 (ones 8) ∷ Shown 10 ∷ []) (Entry sys_dir 29) 6 wanted (Some (ones 8))
finds_ones = record {
  misled = misleads;
  on_disk = λ whole. tt;
  finds = record {
    named = λ i names. sym ones_6 ∙ ap (label_found (after wrong (Wrote 6 1 (ones 8) ∷ []))) names.named;
    unnamed = λ none. absurd (none 6 (record { first = omega arith; last = omega arith; named = refl }));
  };
}
