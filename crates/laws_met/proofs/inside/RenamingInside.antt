-- The line that renames a file within its directory, where its old slot and the free one after it are joined.
use Rattle.std.proofs.Common.{◌≡◌, List, [], ◌∷◌, length, refl, ap, subst, ◌∙◌, arith}
use Rattle.laws_steps.specs.alto_words.specs.Fid.{sys_dir}
use Rattle.laws_steps.specs.pack_model.specs.operations.Entering.{found_room}
use Rattle.laws_steps.specs.pack_model.specs.operations.PageWords.{entered_words, later}
use Rattle.laws_steps.specs.pack_model.specs.operations.Rooms.{find_room}
use Rattle.laws_steps.specs.pack_model.specs.operations.Step.Operation.{enter, leave, title}
use Rattle.laws_steps.specs.pack_model.specs.reading.Model.{dir_items, read_as}
use Rattle.laws_steps.specs.pack_model.specs.reading.Slots.{Item}
use Rattle.laws_steps.specs.pack_model.specs.reading.Slots.Item.{space}
use Rattle.laws_steps.specs.laws_operation.specs.DirectoryWords.{CanEnter, left_in}
use Rattle.laws_steps.specs.laws_line.specs.SoundLines.{IsKindOfLine}
use Rattle.laws_steps.specs.laws_line.specs.SoundLines.IsKindOfLine.{renamed}
use Rattle.laws_steps.specs.laws_line.proofs.after.Laws.{directories_are_read}
use Rattle.laws_met.specs.Peopled.{dir_d, entering, file_b, leaving, left_b, name_b, name_e, peopled, retitled_b, room_e, titling}
use Rattle.laws_met.specs.Premises.{LineRuns, found_b, inner_renaming_events, inner_renaming_line}
use Rattle.laws_met.proofs.inside.FactsE.{items_free, leader_b, left_facts_b, left_inner_b, names_fit_e, retitled_inner_b, retitled_page_b}
use Rattle.laws_met.proofs.inside.FactsP.{inner_is, inner_items, root_is, root_items, session}
use Rattle.laws_met.proofs.inside.LineD.{links_b, sound_b}
use Rattle.laws_met.proofs.inside.Lines.{is_in_model, items_of_words, may_enter_left, plain_rename}
use Rattle.laws_met.proofs.inside.Meeting.{stands_b}
use Rattle.laws_met.proofs.inside.More.{is_left, is_titled}
use Rattle.laws_met.proofs.inside.Operating.{Done, LineDone, Stands, done_more, done_none, entered, ran_on, stands_after}

-- ---- the operations
titled_done : Done peopled (titling peopled name_e 10) (title file_b name_e)
titled_done = is_titled peopled stands_b file_b name_e 10 (record { file = record { no_directory = refl; no_descriptor = refl }; sector = leader_b.0; sized = leader_b.1 }) names_fit_e.stored

stands_1 : Stands retitled_b
stands_1 = stands_after peopled (titling peopled name_e 10) (title file_b name_e) stands_b titled_done

-- what stands after the entry
abbrev free_then : List Item
free_then = space 247 ∷ []

left_done : Done retitled_b (leaving retitled_b 9 0 8) (leave dir_d name_b)
left_done = is_left retitled_b stands_1 dir_d name_b 9 [] free_then file_b name_b (record { directory = refl; living = retitled_inner_b.living; slots_are = retitled_inner_b.slots_are; sector = retitled_page_b }) refl refl

stands_2 : Stands left_b
stands_2 = stands_after retitled_b (leaving retitled_b 9 0 8) (leave dir_d name_b) stands_1 left_done

inner_titled : dir_items (read_as retitled_b) dir_d ≡ inner_items
inner_titled = items_of_words retitled_b dir_d inner_items stands_1 retitled_inner_b.living refl retitled_inner_b.slots_are

inner_left : dir_items (read_as left_b) dir_d ≡ items_free
inner_left = items_of_words left_b dir_d items_free stands_2 left_inner_b.living refl left_inner_b.slots_are

pub can_enter_e : CanEnter left_b dir_d name_e file_b found_b (entered_words file_b 10 name_e (left_in found_b name_e)) 9 0
can_enter_e =
    let none : length (later found_b.place (entered_words file_b 10 name_e (left_in found_b name_e))) ≡ 0 = ap length (names_fit_e.in_page 10) in
    record {
      directory = refl;
      living = left_inner_b.living;
      no_system = refl;
      entry_is = may_enter_left retitled_b dir_d dir_d file_b name_b name_e 9 0 8 [] free_then inner_items left_done inner_titled refl inner_titled refl left_facts_b.0 names_fit_e.fitting;
      stored = names_fit_e.stored;
      found = ap (find_room 9) inner_left ∙ names_fit_e.found_is;
      sector = left_facts_b.2;
      next_sector = λ l. absurd (omega arith);
    }

entered_done : Done left_b (entering left_b room_e file_b 10 name_e) (enter dir_d name_e file_b)
entered_done = entered left_b stands_2 dir_d name_e file_b 10 found_b 9 0 room_e can_enter_e (ap (λ is. found_room found_b is 9 0) inner_left ∙ names_fit_e.room_is) left_facts_b.1

-- ---- the line
renaming_done : LineDone peopled inner_renaming_events inner_renaming_line
renaming_done =
    done_more peopled (titling peopled name_e 10) _ (title file_b name_e) _ refl titled_done
    (done_more retitled_b (leaving retitled_b 9 0 8) _ (leave dir_d name_b) _ refl left_done
    (done_more left_b (entering left_b room_e file_b 10 name_e) [] (enter dir_d name_e file_b) [] refl entered_done
    (done_none _)))

is_renaming : IsKindOfLine (read_as peopled) inner_renaming_line
is_renaming =
    let roots = items_of_words peopled sys_dir root_items stands_b root_is.living refl root_is.slots_are in
    let items = items_of_words peopled dir_d inner_items stands_b inner_is.living refl inner_is.slots_are in
    subst (IsKindOfLine (read_as peopled)) (plain_rename (read_as peopled) dir_d name_b dir_d name_e file_b root_items inner_items roots items refl refl)
    (renamed dir_d name_b dir_d name_e file_b (directories_are_read peopled dir_d refl (is_in_model peopled dir_d refl inner_is.living)) (record { before = []; own = name_b; behind = free_then; items_are = items; same = refl; first = refl }) (omega arith) refl)

pub inner_renaming_runs : LineRuns peopled inner_renaming_events inner_renaming_line
inner_renaming_runs = ran_on peopled inner_renaming_events inner_renaming_line session.mark sound_b links_b session.placed (omega arith) is_renaming (omega arith) renaming_done
