-- The premises of what a call knew before other operations of its line are met: an entry, a name that no entry has, bytes within a file.
use Rattle.std.specs.Prelude.{None, Some, [], ◌∷◌, ◌≡◌}
use Rattle.laws_steps.specs.alto_words.specs.Fid.{sys_dir}
use Rattle.laws_steps.specs.laws_line.specs.LineLaws.{IsEntered}
use Rattle.laws_steps.specs.pack_model.specs.operations.Committing.{length_of}
use Rattle.laws_steps.specs.pack_model.specs.operations.Step.{step}
use Rattle.laws_steps.specs.pack_model.specs.operations.Step.Operation.{leave, put, title, widen}
use Rattle.laws_steps.specs.pack_model.specs.reading.Model.{Model, dir_items, read_as}
use Rattle.laws_steps.specs.pack_model.specs.reading.Versions.{exact}
use Rattle.laws_met.specs.Peopled.{dir_d, file_a, file_b, name_a, name_b, name_c, peopled}

-- The directory's entry is the one that its name means, and is entered so once the directory has a page more; no entry of the directory has
-- the other name, and none has it once the other file got this name and its own entry left; and this file has as many bytes once its last two
-- are others.
pub record MeetsLookups (m : Model) : Type 0 where
  pub entered : IsEntered m dir_d name_b file_b
  pub meant : exact name_b (dir_items m dir_d) ≡ Some (file_b, name_b)
  pub widened : IsEntered (step m (widen dir_d)) dir_d name_b file_b
  pub absent : exact name_c (dir_items m dir_d) ≡ None
  pub left : exact name_c (dir_items (step (step m (title file_a name_c)) (leave sys_dir name_a)) dir_d) ≡ None
  pub length_is : length_of m file_a ≡ 600
  pub length_stays : length_of (step m (put file_a 598 (1 ∷ 2 ∷ []))) file_a ≡ 600

-- so it is of the pack on which three lines were run
abbrev pub LookupsAreMet : Type 0
LookupsAreMet = MeetsLookups (read_as peopled)
