use Rattle.std.proofs.Common.{[], ◌++◌, map, sym, ap, subst, ◌∙◌}
use Rattle.std.specs.FinMap.{FinMap, empty}
use Rattle.std.specs.Prelude.{fold}
use Rattle.alto_words.specs.Fid.{disk_descriptor, fid_cmp, sys_dir}
use Rattle.kept_names.specs.Homes.{considered}
use Rattle.pack_model.specs.showing.Settling.{unless}
use Rattle.pack_model.specs.showing.View.{Home}
use Rattle.scav_names.specs.Adopting.{all_entered}
use Rattle.scav_names.specs.Catalogues.{naming_of, pack_entries}
use Rattle.scav_names.specs.Lacking.{system_living}
use Rattle.scav_names.specs.Living.{Rises}
use Rattle.scav_names.specs.Parting.{lives_then}
use Rattle.scav_names.proofs.Adopting.{lacking_is}
use Rattle.scav_names.proofs.LivingFiles.{living_rise}
use Rattle.scav_names.proofs.lacked.lacking.Goals as goal

pub returns-clause-files : goal.returns-clause-files
returns-clause-files c = λ p living parted.
    let rises : Rises c.args.living.now = subst Rises (sym living) (living_rise p) in
    let root = unless c.args.parted.now.names_root (system_living c.args.living.now sys_dir) [] in
    let descriptor = unless c.args.parted.now.names_descriptor (system_living c.args.living.now disk_descriptor) [] in
    let system = c.in_ok-enter_system-2.ensures rises ∙ ap (λ l. l ++ descriptor) (c.in_ok-enter_system.ensures rises ∙ ap (λ l. l ++ root) c.new-files.ensures.items) in
    let homes : FinMap fid_cmp Home = fold (considered (lives_then p)) (empty {R = fid_cmp}) (map naming_of (pack_entries p)) in
    c.from_vec.ensures ∙ c.in_ok-adopt_all.ensures homes parted.names ∙ ap (λ l. l ++ all_entered homes c.args.living.now) system ∙ lacking_is p c.args.living.now c.args.parted.now living parted
