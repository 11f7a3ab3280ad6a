-- The line that renames a file, from SysDir into the directory.
use Rattle.std.proofs.Common.{◌≡◌, [], length, refl, ap, subst, ◌∙◌, arith}
use Rattle.laws_steps.specs.alto_words.specs.Fid.{sys_dir}
use Rattle.laws_steps.specs.pack_model.specs.operations.Entering.{found_room}
use Rattle.laws_steps.specs.pack_model.specs.operations.PageWords.{entered_words, later}
use Rattle.laws_steps.specs.pack_model.specs.operations.Rooms.{find_room}
use Rattle.laws_steps.specs.pack_model.specs.operations.Step.Operation.{enter, leave, title}
use Rattle.laws_steps.specs.pack_model.specs.reading.Model.{dir_items, read_as}
use Rattle.laws_steps.specs.laws_operation.specs.DirectoryWords.{CanEnter, HasEntry, left_in}
use Rattle.laws_steps.specs.laws_line.specs.SoundLines.{IsKindOfLine}
use Rattle.laws_steps.specs.laws_line.specs.SoundLines.IsKindOfLine.{renamed}
use Rattle.laws_steps.specs.laws_line.proofs.after.Laws.{directories_are_read}
use Rattle.laws_met.specs.Peopled.{dir_d, entering, file_a, leaving, left, name_a, name_c, peopled, retitled, room_c, titling}
use Rattle.laws_met.specs.Premises.{LineRuns, found_c, renaming_events, renaming_line, system_items}
use Rattle.laws_met.proofs.inside.Changing.{items_then}
use Rattle.laws_met.proofs.inside.FactsC.{left_facts, left_inner, names_fit_c, retitled_inner, retitled_page, retitled_root}
use Rattle.laws_met.proofs.inside.FactsP.{inner_is, inner_items, root_is, root_items, session}
use Rattle.laws_met.proofs.inside.LineD.{links_b, sound_b}
use Rattle.laws_met.proofs.inside.Lines.{is_in_model, items_of_words, may_enter_left, plain_rename}
use Rattle.laws_met.proofs.inside.Meeting.{can_write_leader, stands_b}
use Rattle.laws_met.proofs.inside.More.{is_left, is_titled}
use Rattle.laws_met.proofs.inside.Operating.{Done, LineDone, Stands, done_more, done_none, entered, ran_on, stands_after}

-- ---- the operations
titled_done : Done peopled (titling peopled name_c 5) (title file_a name_c)
titled_done = is_titled peopled stands_b file_a name_c 5 can_write_leader names_fit_c.stored

stands_1 : Stands retitled
stands_1 = stands_after peopled (titling peopled name_c 5) (title file_a name_c) stands_b titled_done

retitled_entry : HasEntry retitled sys_dir 2 system_items items_then file_a name_a
retitled_entry = record { directory = refl; living = retitled_root.living; slots_are = retitled_root.slots_are; sector = retitled_page }

left_done : Done retitled (leaving retitled 2 24 8) (leave sys_dir name_a)
left_done = is_left retitled stands_1 sys_dir name_a 2 system_items items_then file_a name_a retitled_entry refl refl

stands_2 : Stands left
stands_2 = stands_after retitled (leaving retitled 2 24 8) (leave sys_dir name_a) stands_1 left_done

inner_left : dir_items (read_as left) dir_d ≡ inner_items
inner_left = items_of_words left dir_d inner_items stands_2 left_inner.living refl left_inner.slots_are

pub can_enter_c : CanEnter left dir_d name_c file_a found_c (entered_words file_a 5 name_c (left_in found_c name_c)) 9 0
can_enter_c =
    let none : length (later found_c.place (entered_words file_a 5 name_c (left_in found_c name_c))) ≡ 0 = ap length (names_fit_c.in_page 5) in
    record {
      directory = refl;
      living = left_inner.living;
      no_system = refl;
      entry_is = may_enter_left retitled sys_dir dir_d file_a name_a name_c 2 24 8 system_items items_then inner_items left_done (items_of_words retitled sys_dir root_items stands_1 retitled_root.living refl retitled_root.slots_are) refl (items_of_words retitled dir_d inner_items stands_1 retitled_inner.living refl retitled_inner.slots_are) names_fit_c.clear left_facts.0 names_fit_c.fitting;
      stored = names_fit_c.stored;
      found = ap (find_room 8) inner_left ∙ names_fit_c.found_is;
      sector = left_facts.2;
      next_sector = λ l. absurd (omega arith);
    }

entered_done : Done left (entering left room_c file_a 5 name_c) (enter dir_d name_c file_a)
entered_done = entered left stands_2 dir_d name_c file_a 5 found_c 9 0 room_c can_enter_c (ap (λ is. found_room found_c is 9 0) inner_left ∙ names_fit_c.room_is) left_facts.1

-- ---- the line
renaming_done : LineDone peopled renaming_events renaming_line
renaming_done =
    done_more peopled (titling peopled name_c 5) _ (title file_a name_c) _ refl titled_done
    (done_more retitled (leaving retitled 2 24 8) _ (leave sys_dir name_a) _ refl left_done
    (done_more left (entering left room_c file_a 5 name_c) [] (enter dir_d name_c file_a) [] refl entered_done
    (done_none _)))

is_renaming : IsKindOfLine (read_as peopled) renaming_line
is_renaming =
    let roots = items_of_words peopled sys_dir root_items stands_b root_is.living refl root_is.slots_are in
    let items = items_of_words peopled dir_d inner_items stands_b inner_is.living refl inner_is.slots_are in
    subst (IsKindOfLine (read_as peopled)) (plain_rename (read_as peopled) sys_dir name_a dir_d name_c file_a root_items inner_items roots items refl refl)
    (renamed sys_dir name_a dir_d name_c file_a (directories_are_read peopled dir_d refl (is_in_model peopled dir_d refl inner_is.living)) (record { before = system_items; own = name_a; behind = items_then; items_are = roots; same = refl; first = refl }) (omega arith) refl)

pub renaming_runs : LineRuns peopled renaming_events renaming_line
renaming_runs = ran_on peopled renaming_events renaming_line session.mark sound_b links_b session.placed (omega arith) is_renaming (omega arith) renaming_done
