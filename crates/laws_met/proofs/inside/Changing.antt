-- The line that changes files, and the one by which a file goes.
use Rattle.std.proofs.Common.{◌≡◌, ◌<◌, true, List, [], ◌∷◌, length, refl, sym, ap, ◌∙◌, arith}
use Rattle.std.proofs.lemmas.List.Elements.{All-cons, All-nil}
use Rattle.laws_steps.specs.alto_words.specs.Fid.{sys_dir}
use Rattle.laws_steps.specs.disk_records.specs.Packs.{is_free_at}
use Rattle.laws_steps.specs.pack_model.specs.operations.Committing.{length_of}
use Rattle.laws_steps.specs.pack_model.specs.operations.PageWords.{widening_bytes}
use Rattle.laws_steps.specs.pack_model.specs.operations.Step.{new_leader}
use Rattle.laws_steps.specs.pack_model.specs.operations.Step.Operation.{cut, drop_file, grow, put, stamp, title, widen}
use Rattle.laws_steps.specs.pack_model.specs.reading.Model.{read_as}
use Rattle.laws_steps.specs.pack_model.specs.reading.Sights.{sights}
use Rattle.laws_steps.specs.pack_model.specs.reading.Slots.{Item}
use Rattle.laws_steps.specs.pack_model.specs.reading.Slots.Item.{entry, space}
use Rattle.laws_steps.specs.laws_operation.proofs.Rows.{ordinary_length}
use Rattle.laws_steps.specs.laws_operation.specs.DirectoryWords.{HasEntry}
use Rattle.laws_steps.specs.laws_line.specs.SoundLines.IsKindOfLine.{changes, goes}
use Rattle.laws_met.specs.Peopled.{bytes_more, after_cut, cutting, dir_d, dropping, file_a, after_growth, growing, name_a, name_d, name_z, peopled, after_put, putting, after_stamp, stamping, after_title, titling, after_widening}
use Rattle.laws_met.specs.Premises.{LineRuns, changing_events, changing_line, drop_events, drop_line, system_items}
use Rattle.laws_met.proofs.inside.FactsC.{cut_facts, grown_facts, put_facts, stamped_facts, titled_facts}
use Rattle.laws_met.proofs.inside.FactsP.{directory_lies, file_is, root_is, session}
use Rattle.laws_met.proofs.inside.LineA.{all_same}
use Rattle.laws_met.proofs.inside.LineD.{links_b, sound_b}
use Rattle.laws_met.proofs.inside.Meeting.{can_put, may_drop, one_distinct, ordinary_a, stands_b, wide_bytes}
use Rattle.laws_met.proofs.inside.More.{is_cut, is_dropped, is_put, is_stamped, is_titled, is_widened}
use Rattle.laws_met.proofs.inside.Operating.{Done, LineDone, Stands, done_more, done_none, grown, ran_on, stands_after}

-- ---- the operations, each on the pack that the ones before it leave
put_done : Done peopled (putting peopled 510 (1 ∷ 2 ∷ []) 6) (put file_a 510 (1 ∷ 2 ∷ []))
put_done = is_put peopled stands_b file_a 510 (1 ∷ 2 ∷ []) 6 can_put

stands_1 : Stands after_put
stands_1 = stands_after peopled (putting peopled 510 (1 ∷ 2 ∷ []) 6) (put file_a 510 (1 ∷ 2 ∷ [])) stands_b put_done

grown_done : Done after_put (growing after_put file_a 600 bytes_more (12 ∷ []) 7) (grow file_a bytes_more)
grown_done = grown after_put stands_1 file_a 600 bytes_more (12 ∷ []) 7 ordinary_a (record {
  size = sym put_facts.size;
  sector = put_facts.page;
  sized = put_facts.sized;
  bytes = all_same 500 66 (λ x. x < 256) (omega arith);
  words = All-nil (λ w. w < 65536);
  room = omega arith;
  number = refl;
  free = All-cons (λ i. is_free_at after_put i ≡ true) 12 [] put_facts.free (All-nil (λ i. is_free_at after_put i ≡ true));
  distinct = one_distinct 12;
})

stands_2 : Stands after_growth
stands_2 = stands_after after_put (growing after_put file_a 600 bytes_more (12 ∷ []) 7) (grow file_a bytes_more) stands_1 grown_done

cut_done : Done after_growth (cutting after_growth 100 6 (7 ∷ 12 ∷ [])) (cut file_a 100)
cut_done = is_cut after_growth stands_2 file_a 100 6 (7 ∷ 12 ∷ []) (record {
  file = ordinary_a;
  sector = grown_facts.pages.0;
  within = let e = grown_facts.size in omega arith;
  number = let e = grown_facts.size in omega arith;
  later_are = grown_facts.pages.1;
})

stands_3 : Stands after_cut
stands_3 = stands_after after_growth (cutting after_growth 100 6 (7 ∷ 12 ∷ [])) (cut file_a 100) stands_2 cut_done

titled_done : Done after_cut (titling after_cut name_z 5) (title file_a name_z)
titled_done = is_titled after_cut stands_3 file_a name_z 5 (record { file = ordinary_a; sector = cut_facts.0; sized = cut_facts.1 }) titled_facts.2

stands_4 : Stands after_title
stands_4 = stands_after after_cut (titling after_cut name_z 5) (title file_a name_z) stands_3 titled_done

stamped_done : Done after_title (stamping after_title 2000 6 1 100 5) (stamp file_a 2000)
stamped_done = is_stamped after_title stands_4 file_a 2000 5 6 1 100 (record { file = ordinary_a; sector = titled_facts.0; sized = titled_facts.1 })

stands_5 : Stands after_stamp
stands_5 = stands_after after_title (stamping after_title 2000 6 1 100 5) (stamp file_a 2000) stands_4 stamped_done

widened_done : Done after_stamp (growing after_stamp dir_d 510 widening_bytes (7 ∷ []) 9) (widen dir_d)
widened_done = is_widened after_stamp stands_5 dir_d 510 (7 ∷ []) 9 refl (record {
  size = sym stamped_facts.size;
  sector = stamped_facts.page;
  sized = stamped_facts.sized;
  bytes = wide_bytes;
  words = All-nil (λ w. w < 65536);
  room = omega arith;
  number = refl;
  free = All-cons (λ i. is_free_at after_stamp i ≡ true) 7 [] stamped_facts.free (All-nil (λ i. is_free_at after_stamp i ≡ true));
  distinct = one_distinct 7;
})

-- ---- the line
changing_done : LineDone peopled changing_events changing_line
changing_done =
    done_more peopled (putting peopled 510 (1 ∷ 2 ∷ []) 6) _ (put file_a 510 (1 ∷ 2 ∷ [])) _ refl put_done
    (done_more after_put (growing after_put file_a 600 bytes_more (12 ∷ []) 7) _ (grow file_a bytes_more) _ refl grown_done
    (done_more after_growth (cutting after_growth 100 6 (7 ∷ 12 ∷ [])) _ (cut file_a 100) _ refl cut_done
    (done_more after_cut (titling after_cut name_z 5) _ (title file_a name_z) _ refl titled_done
    (done_more after_title (stamping after_title 2000 6 1 100 5) _ (stamp file_a 2000) _ refl stamped_done
    (done_more after_stamp (growing after_stamp dir_d 510 widening_bytes (7 ∷ []) 9) [] (widen dir_d) [] refl widened_done
    (done_none after_widening))))))

length_a : length_of (read_as peopled) file_a ≡ 600
length_a = ordinary_length peopled.shape (sights peopled) file_a (new_leader name_a 1000) file_is.lead ordinary_a ∙ ap length file_is.bytes

pub changing_runs : LineRuns peopled changing_events changing_line
changing_runs =
    let size = length_a in
    ran_on peopled changing_events changing_line session.mark sound_b links_b session.placed (omega arith)
    (changes changing_line (omega arith, (tt, (tt, (omega arith, (tt, (tt, tt)))))))
    (let e = session.free in omega arith) changing_done

-- ---- a file goes
abbrev pub items_then : List Item
items_then = entry dir_d name_d ∷ space 215 ∷ []

pub entry_a : HasEntry peopled sys_dir 2 system_items items_then file_a name_a
entry_a = record { directory = refl; living = root_is.living; slots_are = root_is.slots_are; sector = directory_lies.root_page }

pub drop_runs : LineRuns peopled drop_events drop_line
drop_runs =
    ran_on peopled drop_events drop_line session.mark sound_b links_b session.placed (omega arith)
    (goes file_a (record { no_system = refl; bare = may_drop.bare }))
    (omega arith)
    (done_more peopled (dropping peopled 5 (6 ∷ 7 ∷ []) 2 24 8) [] (drop_file file_a) [] refl (is_dropped peopled stands_b file_a 5 (6 ∷ 7 ∷ []) sys_dir 2 system_items items_then name_a may_drop entry_a) (done_none _))
