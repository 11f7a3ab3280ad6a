use Rattle.std.proofs.Common.{arith}
use Rattle.disk_records.proofs.Looking.{looks_twice}
use Rattle.page_seeking.proofs.Erring.{if_ok_map}
use Rattle.file_pages.proofs.FileEnds.{page_before}
use Rattle.file_pages.proofs.ends.end_from.Goals as goal

pub returns-in-Ok-clause-page : goal.returns-in-Ok-clause-page
returns-in-Ok-clause-page g c = if_ok_map c.climb_to_end.result c.climb_to_end.ensures.page (λ end page. page_before c.highest_listed.ensures.looks page)

pub returns-in-Ok-clause-looks : goal.returns-in-Ok-clause-looks
returns-in-Ok-clause-looks g c = looks_twice 65536 c.highest_listed.ensures.looks c.climb_to_end.ensures.looks (omega arith)
