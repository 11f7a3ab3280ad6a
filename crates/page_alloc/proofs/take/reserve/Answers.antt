use Rattle.std.proofs.Common.{◌≡◌, ℕ, ◌⊎◌, subst}
use Rattle.std.specs.Prelude.{Contains}
use Rattle.disk_records.specs.Tapes.{pack}
use Rattle.hint_cache.specs.Bits.{busy_at}
use Rattle.page_alloc.proofs.Tables.{corrected_but}
use Rattle.page_alloc.proofs.take.reserve.Goals as goal

pub returns-clause-others : goal.returns-clause-others
returns-clause-others g c = λ told.
    let first = pack (g.D.Tape.tape c.args.disk.now) in
    let marked = subst (λ taken. (at : ℕ) → (busy_at c.mark_busy.new.table at ≡ busy_at c.find_free.new.table at) ⊎ Contains taken at) c.deref.ensures.value c.mark_busy.ensures.others in
    corrected_but first c.in_ok-taken.taken.items c.args.table.now c.find_free.new.table c.mark_busy.new.table (c.in_ok-taken.ensures.corrected told) marked
