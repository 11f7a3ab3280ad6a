use Rattle.std.proofs.Common.{◌∙◌}
use Rattle.file_pages.proofs.FreshWords.{new_value}
use Rattle.file_pages.proofs.claims.page_value.Goals as goal

pub returns : goal.returns
returns c fits = c.put_in_words.ensures ∙ new_value c.args.bytes.now c.args.past.now c.words_that_fit.result.now (c.words_that_fit.ensures.all fits) c.requires.page
