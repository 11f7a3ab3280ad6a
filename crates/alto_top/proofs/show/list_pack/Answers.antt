use Rattle.alto_top.proofs.Flushed.{looks_on}
use Rattle.alto_top.proofs.show.list_pack.Goals as goal

pub returns-in_err-flush_disk-clause-looks : goal.returns-in_err-flush_disk-clause-looks
returns-in_err-flush_disk-clause-looks g c = looks_on _ _ _ _ _ c.read_lengths.ensures.looks c.flush_disk.ensures.alone (λ told. (c.flush_disk.ensures.told told).1)

pub returns-in_err-listing_of-clause-looks : goal.returns-in_err-listing_of-clause-looks
returns-in_err-listing_of-clause-looks g c = looks_on _ _ _ _ _ c.read_lengths.ensures.looks c.flush_disk.ensures.alone (λ told. (c.flush_disk.ensures.told told).1)

pub returns-clause-looks : goal.returns-clause-looks
returns-clause-looks g c = looks_on _ _ _ _ _ c.read_lengths.ensures.looks c.flush_disk.ensures.alone (λ told. (c.flush_disk.ensures.told told).1)
