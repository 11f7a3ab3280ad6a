-- The files of open streams stay found over a line.
use Rattle.std.proofs.Common.{All, ap, false, subst, sym, ◌∙◌, ◌≡◌}
use Rattle.disk_records.specs.Tapes.{pack}
use Rattle.pack_model.specs.reading.Model.{read_as}
use Rattle.exec_session.specs.laws_line.specs.SoundLines.{IsKindOfLine}
use Rattle.exec_session.specs.laws_steps.proofs.lines.Laws.{streamed_files_stay_found}
use Rattle.exec_session.specs.laws_steps.specs.LineKeepingLaws.{StaysFoundOver}
use Rattle.exec_steps.specs.Streamed.{StreamsStayFound}
use Rattle.exec_session.specs.Turned.{line_ops}

pub streams_stay_found : StreamsStayFound
streams_stay_found form old one s l at b formed fits =
    let unneeded : s.world.need ≡ false = ap (λ w. w.need) b.keeping.world ∙ b.unneeded in
    let reads : read_as (pack old) ≡ s.model = b.keeping.stands.reads unneeded in
    subst (λ m. IsKindOfLine m (line_ops s l) → All (λ o. StaysFoundOver m (line_ops s l) o.ref.fid o.ref.place) one.streams) (sym reads)
    (λ kind. streamed_files_stay_found l s.model s.world one.streams kind (ap (λ w. w.streams) b.keeping.world) formed.streams)
    fits.line
