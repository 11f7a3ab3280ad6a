use Rattle.std.proofs.Common.{sym, ◌∙◌, ap, not}
use Rattle.alto_words.specs.Fid.{sys_dir}
use Rattle.kept_names.specs.Homes.{naming_at}
use Rattle.kept_names.proofs.Tests.{fid_eq}
use Rattle.kept_names.proofs.MayShow.{may_in_root, may_elsewhere}
use Rattle.kept_names.proofs.standing.may_show.Goals as goal

pub returns-then-eq : goal.returns-then-eq
returns-then-eq c = λ alive lives. ap not c.is_system_name.ensures ∙ may_in_root alive (naming_at c.args.entry.now) (sym c.is_system.ensures ∙ c.if-is_system.false) (sym lives ∙ c.if-not-lives.false) (fid_eq c.args.entry.now.name.directory sys_dir ∙ sym c.eq.ensures ∙ c.if-eq.true)

pub returns-else-eq : goal.returns-else-eq
returns-else-eq c = λ alive lives. ap not c.is_directory.ensures ∙ may_elsewhere alive (naming_at c.args.entry.now) (sym c.is_system.ensures ∙ c.if-is_system.false) (sym lives ∙ c.if-not-lives.false) (fid_eq c.args.entry.now.name.directory sys_dir ∙ sym c.eq.ensures ∙ c.if-eq.false)
