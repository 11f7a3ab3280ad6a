-- The names of the system files, and the words of SysDir's page.
use Rattle.std.proofs.Common.{◌≡◌, true, List, ℕ, refl, ap, ◌∙◌, replicate, set}
use Rattle.alto_words.specs.Fid.{sys_dir, disk_descriptor}
use Rattle.alto_words.specs.Names.{is_stored_name}
use Rattle.pack_model.specs.operations.PageWords.{filled}
use Rattle.pack_model.specs.reading.Bytes.{put_at}
use Rattle.pack_model.specs.reading.Namings.{descriptor_name, sys_dir_name}
use Rattle.pack_model.specs.reading.SlotWords.{entry_words}
use Rattle.pack_model.specs.sessions.Format.{format_slots}

pub root_is_stored : is_stored_name sys_dir_name ≡ true
unfolding is_stored_name
root_is_stored = refl

pub its_is_stored : is_stored_name descriptor_name ≡ true
unfolding is_stored_name
its_is_stored = refl

pub root_words : (a b v w : List ℕ) → a ≡ sys_dir_name → b ≡ descriptor_name → v ≡ put_at 0 (entry_words sys_dir 1 a) (replicate 256 0) → w ≡ put_at 10 (entry_words disk_descriptor 3 b) v → set w 24 231 ≡ filled 256 format_slots
root_words a b v w name other first second =
    ap (λ value. set value 24 231) (second ∙ (λ i. put_at 10 (entry_words disk_descriptor 3 (other i)) v) ∙ ap (put_at 10 (entry_words disk_descriptor 3 descriptor_name)) (first ∙ ap (λ n. put_at 0 (entry_words sys_dir 1 n) (replicate 256 0)) name))
