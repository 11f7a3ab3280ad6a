use Rattle.std.proofs.Common.{◌≤◌, sym, subst, arith}
use Rattle.std.specs.Prelude.{OnOk}
use Rattle.std.proofs.lemmas.Result.{on_ok_weaker}
use Rattle.label_sweep.specs.Shown.{shown, IsCounted}
use Rattle.pack_reading.specs.Kept.{KeepsSight}
use Rattle.pack_reading.proofs.Keeping.{page_keeps}
use Rattle.pack_reading.proofs.sweep.ReadingVisit.visit.Goals as goal

pub returns-in_ok-bytes-in-Holds-clause-step : goal.returns-in_ok-bytes-in-Holds-clause-step
returns-in_ok-bytes-in-Holds-clause-step c =
    let old = c.args.self.now.swept in
    let counted : (1 ≤ c.in-Holds.number) × (c.in-Holds.bytes ≤ 512) = subst IsCounted c.in-Holds.is c.requires.counted in
    subst (λ s. OnOk c.keep-in-Holds.result (KeepsSight (shown s c.args.sector.now.value) old (record { leaders = old.leaders; pages = c.keep-in-Holds.new.self }))) (sym c.in-Holds.is)
    (on_ok_weaker c.keep-in-Holds.result
    (page_keeps old c.keep-in-Holds.new.self c.in-Holds.fid c.in-Holds.number c.in-Holds.bytes c.args.sector.now.value c.in_ok-bytes-in-Holds.bytes (λ none. absurd (omega (arith, none, counted))) c.in_ok-bytes-in-Holds.ensures)
    c.keep-in-Holds.ensures)
