-- The living files of a pack: leaders and bytes, by labels alone.
-- The files are those that the labels of the SOSP 1979 paper give; this form of them is this project's choice.
use Rattle.std.specs.Prelude.{ℕ, ◌==◌, List, [], ◌∷◌, Option, find}
use Rattle.std.specs.FinMap.{FinMap, from_entries, entries}
use Rattle.disk_records.specs.alto_words.specs.declared.fid.Fid.{Fid}
use Rattle.disk_records.specs.alto_words.specs.Fid.{fid_cmp, serial_of}
use Rattle.disk_records.specs.Packs.{Pack}
use Rattle.pack_model.specs.reading.Bytes.{put_at}
use Rattle.pack_model.specs.reading.Leaders.{Leader}
use Rattle.pack_model.specs.reading.Sights.{Sight, sights}
use Rattle.pack_model.specs.reading.Sights.Sight.{hidden, free, stray, leads, holds}
use Rattle.pack_model.specs.reading.Files.{file_bytes}
use Rattle.pack_model.specs.sessions.Maps.{map_values, update}

-- a living file of a pack
pub record StoredFile : Type 0 where
  pub leader : Leader
  pub bytes : List ℕ

-- rising by full name
abbrev pub StoredFiles : Type 0
StoredFiles = FinMap fid_cmp StoredFile

-- each leader that is shown, lowest sector first
abbrev pub leader_entries : List Sight → List (Fid × Leader)
leader_entries [] = []
leader_entries (hidden ∷ ss) = leader_entries ss
leader_entries (free ∷ ss) = leader_entries ss
leader_entries (stray ∷ ss) = leader_entries ss
leader_entries (leads f readable l ∷ ss) = (f, l) ∷ leader_entries ss
leader_entries (holds f n bytes ∷ ss) = leader_entries ss

abbrev pub stored_file : List Sight → Fid → Leader → StoredFile
stored_file ss f l = record { leader = l; bytes = file_bytes ss f }

-- of two leaders of one file the lower sector's counts
unfoldable pub files_shown : List Sight → StoredFiles
files_shown ss = map_values (stored_file ss) (from_entries (leader_entries ss))

-- the living files of a pack
abbrev pub stored_files : Pack → StoredFiles
stored_files p = files_shown (sights p)

-- the living file of least full name with this serial
abbrev pub file_of_serial : StoredFiles → ℕ → Option (Fid × StoredFile)
file_of_serial files serial = find (λ e. serial_of e.0 == serial) (entries files)

-- bytes of a file are replaced from an offset on
abbrev pub put_bytes : ℕ → List ℕ → StoredFile → StoredFile
put_bytes offset new x = record x { bytes = put_at offset new x.bytes }

abbrev pub stored_put : StoredFiles → Fid → ℕ → List ℕ → StoredFiles
stored_put files f offset new = update files f (put_bytes offset new)
