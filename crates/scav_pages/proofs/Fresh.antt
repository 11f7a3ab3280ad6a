-- The names of the system files, as they are stored.
use Rattle.std.proofs.Common.{◌≡◌, true, refl}
use Rattle.alto_words.specs.Names.{is_stored_name}
use Rattle.pack_model.specs.reading.Namings.{descriptor_name, sys_dir_name}

pub root_is_stored : is_stored_name sys_dir_name ≡ true
unfolding is_stored_name
root_is_stored = refl

pub its_is_stored : is_stored_name descriptor_name ≡ true
unfolding is_stored_name
its_is_stored = refl
