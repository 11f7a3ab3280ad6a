use Rattle.file_pages.proofs.Forgetting.{forgotten_page, keeps_others, lists_no_more}
use Rattle.file_pages.proofs.Going.{handy_forgotten}
use Rattle.file_pages.proofs.releasing.forget_page.Goals as goal

pub returns-clause-handy : goal.returns-clause-handy
returns-clause-handy c = handy_forgotten _ _ c.args.page c.forget.ensures.out

pub returns-clause-forgotten : goal.returns-clause-forgotten
returns-clause-forgotten c = forgotten_page _ _ c.args.page c.forget.ensures.out

pub returns-clause-no_more : goal.returns-clause-no_more
returns-clause-no_more c = lists_no_more _ _ c.args.page c.forget.ensures.out

pub returns-clause-others : goal.returns-clause-others
returns-clause-others c = keeps_others _ _ c.args.page c.forget.ensures.out
