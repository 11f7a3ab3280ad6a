use Rattle.alto_words.proofs.Parsed.{bare_read, bare_in-marked}
use Rattle.alto_words.proofs.name.Name.parse_bare.Goals as goal

pub returns-in-None-clause-bare : goal.returns-in-None-clause-bare
returns-in-None-clause-bare c = bare_read c.args.text.now c.parse.result c.in-None.ensures.none c.parse.ensures

pub returns-in-Some-clause-value : goal.returns-in-Some-clause-value
returns-in-Some-clause-value c = bare_in-marked c.args.text.now c.in-Some.field-0 c.in-Some.ensures.some
