use Rattle.std.proofs.Common.{◌≤◌, length, ap, arith, rules}
use Rattle.alto_words.proofs.Versions.{is_stored_name-fits}
use Rattle.leader_page.proofs.Names.{spelled_bytes-copied}
use Rattle.leader_page.proofs.leader.name_bytes.Goals as goal

pub overflow_cast-bytes : goal.overflow_cast-bytes
overflow_cast-bytes c =
    let fits : length c.as_bytes-text.result.now ≤ 39 = omega (arith, is_stored_name-fits _ c.as_bytes-text.ensures.stored, ap length c.as_bytes-text.ensures.value) in
    omega arith

pub slice_bounds-bytes-end : goal.slice_bounds-bytes-end
slice_bounds-bytes-end c =
    let fits : length c.as_bytes-text.result.now ≤ 39 = omega (arith, is_stored_name-fits _ c.as_bytes-text.ensures.stored, ap length c.as_bytes-text.ensures.value) in
    search (rules, fits)

pub returns-clause-bytes : goal.returns-clause-bytes
returns-clause-bytes c =
    let fits : length c.as_bytes-text.result.now ≤ 39 = omega (arith, is_stored_name-fits _ c.as_bytes-text.ensures.stored, ap length c.as_bytes-text.ensures.value) in
    spelled_bytes-copied _ _ _ c.as_bytes-text.ensures.value c.copy_from_slice.ensures.after fits
