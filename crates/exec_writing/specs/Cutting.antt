-- What is asked of a file that is to be cut, and the operations of its line.
use Rattle.std.specs.Prelude.{◌≡◌, ◌≤◌, ◌==◌, ℕ, cond, List, [], ◌∷◌, ◌++◌}
use Rattle.alto_words.specs.declared.fid.Fid.{Fid}
use Rattle.disk_records.specs.Packs.{Pack}
use Rattle.file_pages.specs.Cutting.{to_cut}
use Rattle.page_seeking.specs.Seeking.{file_length}
use Rattle.pack_model.specs.operations.Step.{Operation}
use Rattle.exec_steps.specs.Asked.{IsFile, to_stamp}
use Rattle.exec_writing.specs.declared.measuring.Measured.{Measured}

-- a file of b bytes is cut to its first n, where it has more
abbrev pub cuts : Fid → ℕ → ℕ → List Operation
cuts f b n = cond (n == b) [] (to_cut f n ∷ [])

-- and gets this written date
abbrev pub cuts_and_stamps : Fid → ℕ → ℕ → ℕ → List Operation
cuts_and_stamps f b n moment = cuts f b n ++ to_stamp f moment ∷ []

-- An ordinary file that was found, of this length, which has at least n bytes.
pub record MayCutFile (p : Pack) (m : Measured) (n : ℕ) : Type 0 where
  pub found : IsFile p m.file
  pub length : m.length ≡ file_length p m.file.fid
  pub within : n ≤ m.length
