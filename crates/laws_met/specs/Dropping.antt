-- The premises of a drop by two calls are met, and those of a file that was found and whose entry leaves.
use Rattle.std.specs.Prelude.{[], ◌∷◌}
use Rattle.laws_steps.specs.alto_words.specs.Fid.{sys_dir}
use Rattle.laws_steps.specs.disk_records.specs.Commands.{value_writes}
use Rattle.laws_steps.specs.disk_records.specs.Packs.{Pack, after}
use Rattle.laws_steps.specs.disk_records.specs.declared.records.Place.TheVariants.{Held}
use Rattle.laws_steps.specs.laws_call.specs.Writing.{entry_freed}
use Rattle.laws_steps.specs.laws_operation.specs.DirectoryWords.{HasEntry}
use Rattle.laws_steps.specs.DroppingLaws.{DropJoins, StandsReleased, released_pack}
use Rattle.laws_steps.specs.LineKeepingLaws.{KeepsFound}
use Rattle.laws_steps.specs.pack_model.specs.hints.Sources.{IsFrom}
use Rattle.laws_steps.specs.pack_model.specs.operations.Step.Operation.{leave}
use Rattle.laws_steps.specs.pack_model.specs.reading.Slots.Item.{entry, space}
use Rattle.laws_met.specs.Peopled.{dir_d, file_a, file_b, name_a, name_b, name_d, peopled}
use Rattle.laws_met.specs.Premises.{system_items}

-- The file of two pages may go by two calls: what stands between them, with its entry, and both of them as the drop of a line, for calls that
-- answer anything.
pub record MeetsDrop (T E : Type 0) (p : Pack) : Type 0 where
  pub between : StandsReleased p file_a sys_dir 5 (6 ∷ 7 ∷ [])
  pub entry : HasEntry (released_pack p 5 (6 ∷ 7 ∷ [])) sys_dir 2 system_items (entry dir_d name_d ∷ space 215 ∷ []) file_a name_a
  pub joins : DropJoins T E p [] [] file_a sys_dir 5 (6 ∷ 7 ∷ [])

-- so it is on the pack on which three lines were run
abbrev pub DropByTwoCallsIsMet : Type 0 → Type 0 → Type 0
DropByTwoCallsIsMet T E = MeetsDrop T E peopled

-- The other file was found by its leader's address, and is found by it once its own entry went; the leaving keeps all files that it may.
pub record MeetsKeeping (p : Pack) : Type 0 where
  pub held : IsFrom p file_b 10 (Held 10)
  pub left : IsFrom (after p (value_writes 9 (entry_freed p 9 [] file_b name_b))) file_b 10 (Held 10)
  pub keeps : KeepsFound p (after p (value_writes 9 (entry_freed p 9 [] file_b name_b))) (leave dir_d name_b ∷ [])

abbrev pub HeldFileStaysFound : Type 0
HeldFileStaysFound = MeetsKeeping peopled
