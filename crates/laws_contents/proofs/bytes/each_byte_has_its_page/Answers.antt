use Rattle.laws_contents.proofs.bytes.Laws.{each_byte_has_its_page}
use Rattle.laws_contents.proofs.bytes.each_byte_has_its_page.Goals as goal

pub returns : goal.returns
returns c = each_byte_has_its_page
