-- Names that are written where none can be read, and leaders of system files that are made.
use Rattle.std.specs.Prelude.{ℕ, cond, List}
use Rattle.alto_words.specs.declared.fid.Fid.{Fid}
use Rattle.alto_words.specs.Fid.{is_fid, serial_of, sys_dir, disk_descriptor}
use Rattle.alto_words.specs.Names.{lost}
use Rattle.pack_model.specs.operations.Step.{new_leader}
use Rattle.pack_model.specs.reading.Leaders.{Leader}
use Rattle.pack_model.specs.reading.Namings.{sys_dir_name, descriptor_name}

-- the name of a file whose leader page has none that can be read
abbrev pub own_name : Fid → List ℕ
own_name f = cond (is_fid f sys_dir) sys_dir_name (cond (is_fid f disk_descriptor) descriptor_name (lost (serial_of f)))

-- the leader of a file with dates 0 under that name
abbrev pub fresh_leader : Fid → Leader
fresh_leader f = new_leader (own_name f) 0
