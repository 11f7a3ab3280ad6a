use Rattle.std.proofs.Common.{ap, ◌∙◌}
use Rattle.alto_words.specs.Names.{is_bare_name, is_stored_name}
use Rattle.alto_words.proofs.Marked.{bare_told}
use Rattle.alto_words.proofs.name.Name.is_bare.Goals as goal

pub returns : goal.returns
returns c =
    let same = c.as_bytes.ensures.value in
    bare_told c.as_bytes.result.now c.mark_in.result c.is_none.result (ap is_stored_name same ∙ c.as_bytes.ensures.stored) c.mark_in.ensures.some c.mark_in.ensures.none c.is_none.ensures
    ∙ ap is_bare_name same
