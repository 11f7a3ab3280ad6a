-- Living files, and those that are shown.
use Rattle.std.specs.Prelude.{Bool, not, cond, None, Some}
use Rattle.alto_words.specs.Fid.{is_directory, is_system}
use Rattle.pack_reading.specs.declared.files.Found.{Found}
use Rattle.pack_reading.specs.declared.shown.ShownFile.{ShownFile}

abbrev pub is_shown : Found → Bool
is_shown file = not (is_system file.fid)

-- of a directory no bytes are shown
abbrev pub shown_of : Found → ShownFile
shown_of file = record { fid = file.fid; leader = file.leader; bytes = cond (is_directory file.fid) None (Some file.bytes) }
