use Rattle.std.proofs.Common.{Some, ap, arith, length, sym, ◌∙◌, ◌≡◌}
use Rattle.disk_records.specs.Addresses.{pages_of}
use Rattle.disk_records.specs.Tapes.{pack}
use Rattle.disk_records.specs.declared.records.Page.{Page}
use Rattle.disk_records.specs.declared.records.Sector.{Sector}
use Rattle.page_seeking.proofs.Parting.{few_by_label}
use Rattle.file_pages.proofs.FileEnds.{carried_within}
use Rattle.file_pages.proofs.ends.data_page_at.Goals as goal
use Rattle.file_pages.proofs.ends.data_page_at.Goals.{then-number-eq0-via-then-number-eq0, then-number-eq0-via-else-number-eq0+then-at-eq0, then-number-eq0-via-else-number-eq0+else-at-eq0+then-at-pages}

pub returns-then-number-eq0-clause-there : goal.returns-then-number-eq0-clause-there
returns-then-number-eq0-clause-there g c told first carries same =
    let within = carried_within (pack (g.D.Tape.tape c.args.disk.now)) c.args.at _ carries in
    let low = within.0 in
    let high = within.1 in
    elim c.then-number-eq0.branch [
      | then-number-eq0-via-then-number-eq0 w ↦ omega (arith, first, w.if-number-eq0.true)
      | then-number-eq0-via-else-number-eq0+then-at-eq0 w ↦ omega (arith, low, w.if-at-eq0.true)
      | then-number-eq0-via-else-number-eq0+else-at-eq0+then-at-pages w ↦
          let pages : w.pages.result ≡ pages_of (g.D.Tape.tape c.args.disk.now).form = w.pages.ensures ∙ ap pages_of w.shape.ensures in
          omega (arith, high, pages, w.if-at-pages.true)
    ]

pub returns-in-Ok-clause-page : goal.returns-in-Ok-clause-page
returns-in-Ok-clause-page g c =
    let p = pack (g.D.Tape.tape c.args.disk.now) in
    let pages : c.pages.result ≡ pages_of (g.D.Tape.tape c.args.disk.now).form = c.pages.ensures ∙ ap pages_of c.shape.ensures in
    record {
      first = omega (arith, c.if-number-eq0.false);
      most = few_by_label c.in-Ok.ensures.page c.in-Ok.ensures.tells;
      known = λ told. record {
        first = omega (arith, c.if-at-eq0.false);
        last = omega (arith, pages, c.if-at-pages.false);
        carries = (c.in-Ok.ensures.guarded told).ok.held ∙ ap (λ (x : Page). Some x) c.page_of_file.ensures;
        tells = (c.in-Ok.ensures.read told).tells;
        sized = ap (λ (s : Sector). length s.value) (sym (c.in-Ok.ensures.read told).holds) ∙ c.in-Ok.ensures.whole;
      };
    }

pub returns-in-Err-Wrong-clause-there : goal.returns-in-Err-Wrong-clause-there
returns-in-Err-Wrong-clause-there g c told first carries same =
    let guarded = rw c.in-Err-Wrong.field-0-is at (c.in-Err-Wrong.ensures.guarded told) in
    guarded.wrong.failed (carries ∙ ap (λ (x : Page). Some x) (sym c.page_of_file.ensures))
