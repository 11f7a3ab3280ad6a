use Rattle.std.proofs.Common.{refl, sym, ◌∙◌}
use Rattle.scav_names.proofs.Adopting.{knows_then, plain_seen}
use Rattle.scav_names.proofs.lacked.adopt_file.Goals as goal

pub returns-in_ok-push-clause-names : goal.returns-in_ok-push-clause-names
returns-in_ok-push-clause-names c = λ homes k.
    let x = plain_seen c.args.file.now.name in
    knows_then homes c.args.file.now _ _ (sym c.is_system.ensures ∙ c.if-is_system.false) (c.in_ok-name.ensures.names homes x refl k.names_are k.passed_are) (c.in_ok-name.ensures.passed homes x refl k.names_are k.passed_are)

pub returns-in_default-clause-names : goal.returns-in_default-clause-names
returns-in_default-clause-names c = λ homes k.
    let x = plain_seen c.args.file.now.name in
    knows_then homes c.args.file.now _ _ (sym c.is_system.ensures ∙ c.if-is_system.false) (c.in_ok-name.ensures.names homes x refl k.names_are k.passed_are) (c.in_ok-name.ensures.passed homes x refl k.names_are k.passed_are)
