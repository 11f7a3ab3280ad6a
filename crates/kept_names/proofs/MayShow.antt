-- Which entries may stand by themselves, by where they stand.
use Rattle.std.proofs.Common.{◌≡◌, Bool, true, false, cond, not, sym, ◌∙◌}
use Rattle.std.specs.Prelude.{◌&&◌, ◌||◌}
use Rattle.alto_words.specs.declared.fid.Fid.{Fid}
use Rattle.alto_words.specs.Fid.{is_fid, is_system, is_directory, sys_dir}
use Rattle.alto_words.specs.Names.{is_same_name}
use Rattle.pack_model.specs.reading.Namings.{Naming, sys_dir_name, descriptor_name}
use Rattle.kept_names.specs.Homes.{may_show}
use Rattle.kept_names.proofs.Tests.{may_show_is}

module _ (lives : Fid → Bool) (e : Naming) where
  pub may_in_root : is_system e.fid ≡ false → lives e.fid ≡ true → is_fid e.dir sys_dir ≡ true → not (is_same_name e.name sys_dir_name || is_same_name e.name descriptor_name) ≡ may_show lives e
  may_in_root other alive root = sym (
      may_show_is lives e
      ∙ (λ i. not (other i) && (alive i && cond (root i) (not (is_same_name e.name sys_dir_name || is_same_name e.name descriptor_name)) (not (is_directory e.fid))))
      )

  pub may_elsewhere : is_system e.fid ≡ false → lives e.fid ≡ true → is_fid e.dir sys_dir ≡ false → not (is_directory e.fid) ≡ may_show lives e
  may_elsewhere other alive away = sym (
      may_show_is lives e
      ∙ (λ i. not (other i) && (alive i && cond (away i) (not (is_same_name e.name sys_dir_name || is_same_name e.name descriptor_name)) (not (is_directory e.fid))))
      )
