-- The second line, which makes a directory, and the third, which makes a file in it.
use Rattle.std.proofs.Common.{◌≡◌, [], ◌++◌, refl, subst, ◌∙◌, arith}
use Rattle.laws_steps.specs.alto_words.specs.Fid.{sys_dir}
use Rattle.laws_steps.specs.disk_records.specs.Packs.{after}
use Rattle.laws_steps.specs.pack_model.specs.hints.Links.{LinksTrue}
use Rattle.laws_steps.specs.pack_model.specs.reading.Model.{read_as}
use Rattle.laws_steps.specs.pack_model.specs.states.Sound.{Sound}
use Rattle.laws_steps.specs.laws_line.specs.SoundLines.{IsKindOfLine}
use Rattle.laws_met.specs.Peopled.{dir_d, entered_d, file_b, grown_a, name_b, name_d, opening, peopled, room_b, room_d}
use Rattle.laws_met.specs.Premises.{LineRuns, directory_events, directory_line, found_b, inner_events, inner_line}
use Rattle.laws_met.proofs.inside.FactsD.{entered_dead, entered_dir, entered_root, entered_session, found_d, grown_dead, grown_root, grown_session, items_of_d, items_with_a, items_with_d, made_dir, made_is_b, made_is_d, made_root_d, names_fit_b, names_fit_d, numbered_dir, numbered_is_b, numbered_is_d, numbered_root_d}
use Rattle.laws_met.proofs.inside.LineA.{links_a, sound_a}
use Rattle.laws_met.proofs.inside.NewFile.{after_new_file, is_new_file, new_file_done}
use Rattle.laws_met.proofs.inside.Operating.{LineDone, Stands, after_opened, done_none, ran_on}

-- ---- the directory
pub stands_a : Stands grown_a
stands_a = record { whole = sound_a.whole; tidy = sound_a.tidy; links = links_a }

done_d : LineDone grown_a directory_events directory_line
done_d = new_file_done grown_a sys_dir dir_d name_d 8 9 items_with_a found_d room_d stands_a names_fit_d grown_session.placed (let e = grown_session.last_is in omega arith) numbered_root_d numbered_is_d (omega arith) made_root_d made_is_d [] [] (done_none entered_d)

is_line_d : IsKindOfLine (read_as grown_a) directory_line
is_line_d = is_new_file grown_a sys_dir dir_d name_d [] items_with_a items_with_a stands_a grown_root grown_root refl refl refl grown_dead refl refl (omega arith) tt

pub ran_d : LineRuns grown_a directory_events directory_line
ran_d = ran_on grown_a directory_events directory_line grown_session.mark sound_a links_a grown_session.placed (omega arith) is_line_d (let e = grown_session.free in omega arith) done_d

all_d : after grown_a (opening grown_a ++ directory_events) ≡ entered_d
all_d = after_opened grown_a directory_events grown_session.mark ∙ after_new_file grown_a sys_dir dir_d name_d 8 9 items_with_a found_d room_d []

sound_d : Sound entered_d
sound_d = subst Sound all_d ran_d.line.sound

links_d : LinksTrue entered_d
links_d = subst LinksTrue all_d ran_d.keeps

-- ---- the file in it
pub stands_d : Stands entered_d
stands_d = record { whole = sound_d.whole; tidy = sound_d.tidy; links = links_d }

done_b : LineDone entered_d inner_events inner_line
done_b = new_file_done entered_d dir_d file_b name_b 10 11 items_of_d found_b room_b stands_d names_fit_b entered_session.placed (let e = entered_session.last_is in omega arith) numbered_dir numbered_is_b (omega arith) made_dir made_is_b [] [] (done_none peopled)

is_line_b : IsKindOfLine (read_as entered_d) inner_line
is_line_b = is_new_file entered_d dir_d file_b name_b [] items_with_d items_of_d stands_d entered_root entered_dir refl refl refl entered_dead refl refl (omega arith) tt

pub ran_b : LineRuns entered_d inner_events inner_line
ran_b = ran_on entered_d inner_events inner_line entered_session.mark sound_d links_d entered_session.placed (omega arith) is_line_b (let e = entered_session.free in omega arith) done_b

all_b : after entered_d (opening entered_d ++ inner_events) ≡ peopled
all_b = after_opened entered_d inner_events entered_session.mark ∙ after_new_file entered_d dir_d file_b name_b 10 11 items_of_d found_b room_b []

pub sound_b : Sound peopled
sound_b = subst Sound all_b ran_b.line.sound

pub links_b : LinksTrue peopled
links_b = subst LinksTrue all_b ran_b.keeps
