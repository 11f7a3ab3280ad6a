use Rattle.disk_descriptor.proofs.values.descriptor_page.Goals as goal

pub returns-else-page-eq1 : goal.returns-else-page-eq1
returns-else-page-eq1 c = record { value = c.later_page.ensures c.args.last c.args.mark }
