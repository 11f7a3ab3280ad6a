-- The entries of directories, in the order of the scan.
use Rattle.std.specs.Prelude.{List, [], ◌∷◌, ◌++◌}
use Rattle.pack_model.specs.reading.Bodies.{body_of}
use Rattle.pack_model.specs.reading.Namings.{Naming, body_namings}
use Rattle.pack_reading.specs.declared.files.Found.{Found}

-- the entries of a directory, none of another file
abbrev pub namings_of : Found → List Naming
namings_of file = body_namings file.fid (body_of file.fid file.bytes)

abbrev pub all_namings : List Found → List Naming
all_namings [] = []
all_namings (file ∷ files) = namings_of file ++ all_namings files
