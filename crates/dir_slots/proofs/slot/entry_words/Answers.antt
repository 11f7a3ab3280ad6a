use Rattle.std.proofs.Common.{length, ap, arith}
use Rattle.alto_words.proofs.Versions.{is_stored_name-fits}
use Rattle.dir_slots.proofs.Names.{stored_least}
use Rattle.dir_slots.proofs.slot.entry_words.Goals as goal

pub overflow_cast-characters : goal.overflow_cast-characters
overflow_cast-characters c = let long = is_stored_name-fits _ c.as_bytes.ensures.stored in let same = ap length c.as_bytes.ensures.value in omega (arith, long, same)

pub overflow_add-result : goal.overflow_add-result
overflow_add-result c = let long = is_stored_name-fits _ c.as_bytes.ensures.stored in let same = ap length c.as_bytes.ensures.value in omega (arith, long, same)

pub overflow_add-result-2 : goal.overflow_add-result-2
overflow_add-result-2 c = let long = is_stored_name-fits _ c.as_bytes.ensures.stored in let same = ap length c.as_bytes.ensures.value in omega (arith, long, same)

pub returns-clause-least : goal.returns-clause-least
returns-clause-least c = let long = is_stored_name-fits _ c.as_bytes.ensures.stored in let same = ap length c.as_bytes.ensures.value in omega (arith, stored_least _ c.as_bytes.ensures.stored, long, same)

pub returns-clause-most : goal.returns-clause-most
returns-clause-most c = let long = is_stored_name-fits _ c.as_bytes.ensures.stored in let same = ap length c.as_bytes.ensures.value in omega (arith, stored_least _ c.as_bytes.ensures.stored, long, same)
