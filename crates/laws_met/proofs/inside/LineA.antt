-- The first line: from a formatted pack, an ordinary file in SysDir, with 600 bytes.
use Rattle.std.proofs.Common.{◌≡◌, ℕ, ◌<◌, true, List, [], ◌∷◌, ◌++◌, length, refl, sym, ap, subst, ◌∙◌, arith, replicate, zero, suc}
use Rattle.std.proofs.lemmas.List.Elements.{All-cons, All-nil}
use Rattle.std.specs.Prelude.{All}
use Rattle.laws_steps.specs.alto_words.specs.Fid.{sys_dir}
use Rattle.laws_steps.specs.disk_records.proofs.Growing.{after-append}
use Rattle.laws_steps.specs.disk_records.specs.Packs.{after, is_free_at}
use Rattle.laws_steps.specs.disk_records.specs.declared.records.Event.{Event}
use Rattle.laws_steps.specs.pack_model.specs.hints.Links.{LinksTrue}
use Rattle.laws_steps.specs.pack_model.specs.operations.Step.Operation.{grow, make}
use Rattle.laws_steps.specs.pack_model.specs.reading.Model.{read_as}
use Rattle.laws_steps.specs.pack_model.specs.states.Sound.{Sound}
use Rattle.laws_steps.specs.laws_operation.specs.FileWords.{CanGrow}
use Rattle.laws_format.proofs.formatted.Laws.{formatted_pack_begins_a_session, formatted_pack_has_free_sectors}
use Rattle.laws_steps.specs.laws_line.specs.SoundLines.{IsKindOfLine}
use Rattle.laws_met.specs.Peopled.{bytes_a, entered_a, file_a, formatted_pack, grown_a, growing, name_a, opened, opening, room_a, small}
use Rattle.laws_met.specs.Premises.{LineRuns, file_events, file_line}
use Rattle.laws_met.proofs.inside.FactsA.{formatted_root, found_a, in_entered, in_formatted, in_opened, items_before, made_is, made_root, names_fit_a, numbered_is, numbered_root}
use Rattle.laws_met.proofs.inside.NewFile.{after_new_file, is_new_file, new_file_done, stands_entered}
use Rattle.laws_met.proofs.inside.Operating.{Done, LineDone, Stands, done_more, done_none, grown, ran, stands_opened}

-- ---- the formatted pack
begins : Sound formatted_pack
begins = (formatted_pack_begins_a_session small 1 1000).sound

stands_formatted : Stands formatted_pack
stands_formatted = record { whole = begins.whole; tidy = begins.tidy; links = (formatted_pack_begins_a_session small 1 1000).hints.links }

stands_open : Stands opened
stands_open = stands_opened formatted_pack 4 (make file_a name_a 1000) stands_formatted in_formatted.0

-- ---- the growth
pub all_same : (n x : ℕ) (P : ℕ → Type 0) → P x → All P (replicate n x)
all_same zero x P h = All-nil P
all_same (suc n) x P h = All-cons P x (replicate n x) h (all_same n x P h)

pub can_grow_a : CanGrow entered_a file_a 0 bytes_a [] (7 ∷ []) 6
can_grow_a = record {
  size = sym (ap length in_entered.0);
  sector = in_entered.1;
  sized = in_entered.2;
  bytes = all_same 600 65 (λ x. x < 256) (omega arith);
  words = All-nil (λ w. w < 65536);
  room = omega arith;
  number = refl;
  free = All-cons (λ i. is_free_at entered_a i ≡ true) 7 [] in_entered.3 (All-nil (λ i. is_free_at entered_a i ≡ true));
  distinct = λ i j d a b. absurd (omega arith);
}

grown_it : Done entered_a (growing entered_a file_a 0 bytes_a (7 ∷ []) 6) (grow file_a bytes_a)
grown_it = grown entered_a (stands_entered opened sys_dir file_a name_a 5 6 items_before found_a room_a stands_open names_fit_a in_opened.0 (let e = in_opened.1 in omega arith) numbered_root numbered_is (omega arith) made_root made_is) file_a 0 bytes_a (7 ∷ []) 6 (record { no_directory = refl; no_descriptor = refl }) can_grow_a

-- ---- the line
abbrev growth : List Event
growth = growing entered_a file_a 0 bytes_a (7 ∷ []) 6 ++ []

done_a : LineDone opened file_events file_line
done_a = new_file_done opened sys_dir file_a name_a 5 6 items_before found_a room_a stands_open names_fit_a in_opened.0 (let e = in_opened.1 in omega arith) numbered_root numbered_is (omega arith) made_root made_is growth (grow file_a bytes_a ∷ [])
    (done_more entered_a (growing entered_a file_a 0 bytes_a (7 ∷ []) 6) [] (grow file_a bytes_a) [] refl grown_it (done_none grown_a))

is_line_a : IsKindOfLine (read_as formatted_pack) file_line
is_line_a = is_new_file formatted_pack sys_dir file_a name_a (grow file_a bytes_a ∷ []) items_before items_before stands_formatted formatted_root formatted_root refl refl refl in_formatted.1 refl refl (omega arith) (tt, tt)

pub ran_a : LineRuns formatted_pack file_events file_line
ran_a = ran formatted_pack file_events file_line begins stands_formatted.links in_formatted.0 (omega arith) is_line_a (let e = (formatted_pack_has_free_sectors small 1 1000).shown in omega arith) done_a

-- the pack that it leaves
all_a : after formatted_pack (opening formatted_pack ++ file_events) ≡ grown_a
all_a =
    after-append formatted_pack (opening formatted_pack) file_events
    ∙ after_new_file opened sys_dir file_a name_a 5 6 items_before found_a room_a growth
    ∙ after-append entered_a (growing entered_a file_a 0 bytes_a (7 ∷ []) 6) []

pub sound_a : Sound grown_a
sound_a = subst Sound all_a ran_a.line.sound

pub links_a : LinksTrue grown_a
links_a = subst LinksTrue all_a ran_a.keeps
