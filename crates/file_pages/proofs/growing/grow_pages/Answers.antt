use Rattle.std.proofs.Common.{List, Ok, Err, Some, ap, arith, length, min, refl, subst, sym, ℕ, ◌+◌, ◌-◌, ◌<◌, ◌∙◌, ◌≡◌, inl, inr}
use Rattle.std.proofs.lemmas.List.Elements.{All-from_get_or}
use Rattle.disk_records.proofs.Growing.{alone_twice}
use Rattle.disk_records.specs.Labels.{page_of}
use Rattle.disk_records.specs.Packs.{carried}
use Rattle.disk_records.specs.Tapes.{pack}
use Rattle.disk_records.specs.declared.records.Page.{Page}
use Rattle.disk_records.specs.declared.shape.Shape.{Shape}
use Rattle.laws_operation.proofs.values.Laws.{label_with_another_count}
use Rattle.page_seeking.specs.Seeking.{page_number}
use Rattle.pack_model.specs.operations.Commands.{past_last}
use Rattle.pack_model.specs.operations.PageWords.{link_to_first}
use Rattle.file_pages.specs.Growing.{CanClaim}
use Rattle.file_pages.proofs.Erring.{cause_after}
use Rattle.file_pages.proofs.GrownPages.{Asked, claims_then, grew_then, may_claim, not_claimed, operated, still_there, words_are}
use Rattle.file_pages.proofs.LastLabel.{label_says}
use Rattle.page_seeking.proofs.Erring.{if_misled_map}
use Rattle.file_pages.proofs.Framed.{claims_and_commit, only_claims}
use Rattle.file_pages.proofs.growing.grow_pages.Goals as goal

pub returns-in-Err-clause-operates : goal.returns-in-Err-clause-operates
returns-in-Err-clause-operates g c o told whole tidy stands is may =
    let a = g.D.Tape.tape c.args.disk.now in
    let b = g.D.Tape.tape c.claim_pages.new.disk in
    let x : Asked (pack a) o c.args.fid c.args.last c.args.buf.now c.args.bytes.now c.args.past.now c.args.fresh.now = record {
      whole = whole;
      tidy = tidy;
      stands = stands;
      is = is;
      may = may;
      sized = c.requires.seen.sized;
      bytes = All-from_get_or (λ n. n < 256) c.args.bytes.now 0 (λ i within. omega (arith, c.type_inv.bytes i));
      words = All-from_get_or (λ n. n < 65536) c.args.past.now 0 (λ i within. omega (arith, c.type_inv.past i));
      small = (label_says c.args.buf.now.label (page_number c.args.fid c.args.last.number) c.requires.seen.holds.names).2;
    } in
    not_claimed a o c.args.fid c.args.last c.args.buf.now c.args.bytes.now c.args.past.now c.args.fresh.now x c.min-count.result c.min-count.ensures b c.claim_pages.ensures.alone c.args.table.now c.args.tally.now c.in-Err.error
    (claims_then a o c.args.fid c.args.last c.args.buf.now c.args.bytes.now c.args.past.now c.args.fresh.now x c.min-count.result c.min-count.ensures b c.claim_pages.ensures.alone c.args.table.now c.args.tally.now c.after_first-more.result.now (Err c.in-Err.error) c.after_first-more.ensures (c.in-Err.ensures.claims told))

pub returns-in-Err-clause-misled : goal.returns-in-Err-clause-misled
returns-in-Err-clause-misled g c o told whole tidy stands is may =
    let a = g.D.Tape.tape c.args.disk.now in
    let b = g.D.Tape.tape c.claim_pages.new.disk in
    let x : Asked (pack a) o c.args.fid c.args.last c.args.buf.now c.args.bytes.now c.args.past.now c.args.fresh.now = record {
      whole = whole;
      tidy = tidy;
      stands = stands;
      is = is;
      may = may;
      sized = c.requires.seen.sized;
      bytes = All-from_get_or (λ n. n < 256) c.args.bytes.now 0 (λ i within. omega (arith, c.type_inv.bytes i));
      words = All-from_get_or (λ n. n < 65536) c.args.past.now 0 (λ i within. omega (arith, c.type_inv.past i));
      small = (label_says c.args.buf.now.label (page_number c.args.fid c.args.last.number) c.requires.seen.holds.names).2;
    } in
    c.in-Err.ensures.misled told (subst (λ (l : List ℕ). CanClaim (pack a) c.args.last.number l c.args.past.now c.args.fresh.now) (sym c.after_first-more.ensures) (may_claim a o c.args.fid c.args.last c.args.buf.now c.args.bytes.now c.args.past.now c.args.fresh.now x c.min-count.result c.min-count.ensures))

pub returns-in-Err-clause-runs : goal.returns-in-Err-clause-runs
returns-in-Err-clause-runs g c o told whole tidy stands is may =
    let a = g.D.Tape.tape c.args.disk.now in
    let b = g.D.Tape.tape c.claim_pages.new.disk in
    let x : Asked (pack a) o c.args.fid c.args.last c.args.buf.now c.args.bytes.now c.args.past.now c.args.fresh.now = record {
      whole = whole;
      tidy = tidy;
      stands = stands;
      is = is;
      may = may;
      sized = c.requires.seen.sized;
      bytes = All-from_get_or (λ n. n < 256) c.args.bytes.now 0 (λ i within. omega (arith, c.type_inv.bytes i));
      words = All-from_get_or (λ n. n < 65536) c.args.past.now 0 (λ i within. omega (arith, c.type_inv.past i));
      small = (label_says c.args.buf.now.label (page_number c.args.fid c.args.last.number) c.requires.seen.holds.names).2;
    } in
    let runs = (claims_then a o c.args.fid c.args.last c.args.buf.now c.args.bytes.now c.args.past.now c.args.fresh.now x c.min-count.result c.min-count.ensures b c.claim_pages.ensures.alone c.args.table.now c.args.tally.now c.after_first-more.result.now (Err c.in-Err.error) c.after_first-more.ensures (c.in-Err.ensures.claims told)).runs in
    omega (arith, runs)

pub returns-in-Ok-committed-clause-operates : goal.returns-in-Ok-committed-clause-operates
returns-in-Ok-committed-clause-operates g c o told whole tidy stands is may =
    let a = g.D.Tape.tape c.args.disk.now in
    let b = g.D.Tape.tape c.claim_pages.new.disk in
    let d = g.D.Tape.tape c.commit_page-committed.new.disk in
    let x : Asked (pack a) o c.args.fid c.args.last c.args.buf.now c.args.bytes.now c.args.past.now c.args.fresh.now = record {
      whole = whole;
      tidy = tidy;
      stands = stands;
      is = is;
      may = may;
      sized = c.requires.seen.sized;
      bytes = All-from_get_or (λ n. n < 256) c.args.bytes.now 0 (λ i within. omega (arith, c.type_inv.bytes i));
      words = All-from_get_or (λ n. n < 65536) c.args.past.now 0 (λ i within. omega (arith, c.type_inv.past i));
      small = (label_says c.args.buf.now.label (page_number c.args.fid c.args.last.number) c.requires.seen.holds.names).2;
    } in
    let claims = claims_then a o c.args.fid c.args.last c.args.buf.now c.args.bytes.now c.args.past.now c.args.fresh.now x c.min-count.result c.min-count.ensures b c.claim_pages.ensures.alone c.args.table.now c.args.tally.now c.after_first-more.result.now (Ok tt) c.after_first-more.ensures (c.in-Ok.ensures.claims told) in
    let done = claims.all in
    let one = c.claim_pages.ensures.alone in
    let two = c.commit_page-committed.ensures.alone in
    let still = still_there a o c.args.fid c.args.last c.args.buf.now c.args.bytes.now c.args.past.now c.args.fresh.now x c.min-count.result c.min-count.ensures b one c.args.table.now c.args.tally.now done in
    let carries : carried (pack b) c.args.last.at ≡ Some c.page_of_file-page.result = still ∙ ap (λ (p : Page). Some p) (sym c.page_of_file-page.ensures) in
    let limit = c.limit_of-limit.ensures in
    let room = words_are a o c.args.fid c.args.last c.args.buf.now c.args.bytes.now c.args.past.now c.args.fresh.now x c.min-count.result c.min-count.ensures in
    let past_is : length c.past_last.result.now ≡ length (past_last c.args.past.now c.args.fresh.now) = ap length c.past_last.ensures in
    let same = c.words_that_fit-words.ensures.all (omega (arith, room, past_is)) ∙ c.past_last.ensures in
    let link = c.link_to_first-next.ensures ∙ ap (λ (s : Shape). link_to_first s c.args.fresh.now) c.shape-shape.ensures in
    operated a o c.args.fid c.args.last c.args.buf.now c.args.bytes.now c.args.past.now c.args.fresh.now x c.min-count.result c.min-count.ensures b one c.args.table.now c.args.tally.now done d two (g.met.D.Disk.counted c.args.disk.now told) (g.met.D.Disk.counted c.claim_pages.new.disk told) (omega (arith, limit)) c.with_count-label.result c.put_in_words.new.value c.words_that_fit-words.result.now (c.args.last.info.bytes + c.min-count.result) c.link_to_first-next.result
    c.with_count-label.ensures refl link c.put_in_words.ensures same c.mark_busy.new.table c.commit_page-committed.new.tally (Ok tt) (rw c.in-Ok-committed.is at (c.commit_page-committed.ensures.commits told carries)) c.mark_busy.ensures.marked

pub returns-in-Err-committed-clause-operates : goal.returns-in-Err-committed-clause-operates
returns-in-Err-committed-clause-operates g c o told whole tidy stands is may =
    let a = g.D.Tape.tape c.args.disk.now in
    let b = g.D.Tape.tape c.claim_pages.new.disk in
    let d = g.D.Tape.tape c.commit_page-committed.new.disk in
    let x : Asked (pack a) o c.args.fid c.args.last c.args.buf.now c.args.bytes.now c.args.past.now c.args.fresh.now = record {
      whole = whole;
      tidy = tidy;
      stands = stands;
      is = is;
      may = may;
      sized = c.requires.seen.sized;
      bytes = All-from_get_or (λ n. n < 256) c.args.bytes.now 0 (λ i within. omega (arith, c.type_inv.bytes i));
      words = All-from_get_or (λ n. n < 65536) c.args.past.now 0 (λ i within. omega (arith, c.type_inv.past i));
      small = (label_says c.args.buf.now.label (page_number c.args.fid c.args.last.number) c.requires.seen.holds.names).2;
    } in
    let claims = claims_then a o c.args.fid c.args.last c.args.buf.now c.args.bytes.now c.args.past.now c.args.fresh.now x c.min-count.result c.min-count.ensures b c.claim_pages.ensures.alone c.args.table.now c.args.tally.now c.after_first-more.result.now (Ok tt) c.after_first-more.ensures (c.in-Ok.ensures.claims told) in
    let done = claims.all in
    let one = c.claim_pages.ensures.alone in
    let two = c.commit_page-committed.ensures.alone in
    let still = still_there a o c.args.fid c.args.last c.args.buf.now c.args.bytes.now c.args.past.now c.args.fresh.now x c.min-count.result c.min-count.ensures b one c.args.table.now c.args.tally.now done in
    let carries : carried (pack b) c.args.last.at ≡ Some c.page_of_file-page.result = still ∙ ap (λ (p : Page). Some p) (sym c.page_of_file-page.ensures) in
    let limit = c.limit_of-limit.ensures in
    let room = words_are a o c.args.fid c.args.last c.args.buf.now c.args.bytes.now c.args.past.now c.args.fresh.now x c.min-count.result c.min-count.ensures in
    let past_is : length c.past_last.result.now ≡ length (past_last c.args.past.now c.args.fresh.now) = ap length c.past_last.ensures in
    let same = c.words_that_fit-words.ensures.all (omega (arith, room, past_is)) ∙ c.past_last.ensures in
    let link = c.link_to_first-next.ensures ∙ ap (λ (s : Shape). link_to_first s c.args.fresh.now) c.shape-shape.ensures in
    operated a o c.args.fid c.args.last c.args.buf.now c.args.bytes.now c.args.past.now c.args.fresh.now x c.min-count.result c.min-count.ensures b one c.args.table.now c.args.tally.now done d two (g.met.D.Disk.counted c.args.disk.now told) (g.met.D.Disk.counted c.claim_pages.new.disk told) (omega (arith, limit)) c.with_count-label.result c.put_in_words.new.value c.words_that_fit-words.result.now (c.args.last.info.bytes + c.min-count.result) c.link_to_first-next.result
    c.with_count-label.ensures refl link c.put_in_words.ensures same c.args.table.now c.commit_page-committed.new.tally (Err c.in-Err-committed.error) (rw c.in-Err-committed.is at (c.commit_page-committed.ensures.commits told carries)) tt

pub returns-in-Ok-committed-clause-grew : goal.returns-in-Ok-committed-clause-grew
returns-in-Ok-committed-clause-grew g c o told whole tidy stands is may =
    let a = g.D.Tape.tape c.args.disk.now in
    let b = g.D.Tape.tape c.claim_pages.new.disk in
    let d = g.D.Tape.tape c.commit_page-committed.new.disk in
    let x : Asked (pack a) o c.args.fid c.args.last c.args.buf.now c.args.bytes.now c.args.past.now c.args.fresh.now = record {
      whole = whole;
      tidy = tidy;
      stands = stands;
      is = is;
      may = may;
      sized = c.requires.seen.sized;
      bytes = All-from_get_or (λ n. n < 256) c.args.bytes.now 0 (λ i within. omega (arith, c.type_inv.bytes i));
      words = All-from_get_or (λ n. n < 65536) c.args.past.now 0 (λ i within. omega (arith, c.type_inv.past i));
      small = (label_says c.args.buf.now.label (page_number c.args.fid c.args.last.number) c.requires.seen.holds.names).2;
    } in
    let claims = claims_then a o c.args.fid c.args.last c.args.buf.now c.args.bytes.now c.args.past.now c.args.fresh.now x c.min-count.result c.min-count.ensures b c.claim_pages.ensures.alone c.args.table.now c.args.tally.now c.after_first-more.result.now (Ok tt) c.after_first-more.ensures (c.in-Ok.ensures.claims told) in
    let done = claims.all in
    let one = c.claim_pages.ensures.alone in
    let two = c.commit_page-committed.ensures.alone in
    let still = still_there a o c.args.fid c.args.last c.args.buf.now c.args.bytes.now c.args.past.now c.args.fresh.now x c.min-count.result c.min-count.ensures b one c.args.table.now c.args.tally.now done in
    let carries : carried (pack b) c.args.last.at ≡ Some c.page_of_file-page.result = still ∙ ap (λ (p : Page). Some p) (sym c.page_of_file-page.ensures) in
    let limit = c.limit_of-limit.ensures in
    let room = words_are a o c.args.fid c.args.last c.args.buf.now c.args.bytes.now c.args.past.now c.args.fresh.now x c.min-count.result c.min-count.ensures in
    let past_is : length c.past_last.result.now ≡ length (past_last c.args.past.now c.args.fresh.now) = ap length c.past_last.ensures in
    let same = c.words_that_fit-words.ensures.all (omega (arith, room, past_is)) ∙ c.past_last.ensures in
    let link = c.link_to_first-next.ensures ∙ ap (λ (s : Shape). link_to_first s c.args.fresh.now) c.shape-shape.ensures in
    grew_then a o c.args.fid c.args.last c.args.buf.now c.args.bytes.now c.args.past.now c.args.fresh.now x c.min-count.result c.min-count.ensures b one c.args.table.now c.args.tally.now done d two (g.met.D.Disk.counted c.args.disk.now told) (g.met.D.Disk.counted c.claim_pages.new.disk told) (omega (arith, limit)) c.with_count-label.result c.put_in_words.new.value c.words_that_fit-words.result.now (c.args.last.info.bytes + c.min-count.result) c.link_to_first-next.result
    c.with_count-label.ensures refl link c.put_in_words.ensures same c.commit_page-committed.new.tally (rw c.in-Ok-committed.is at (c.commit_page-committed.ensures.commits told carries))

pub returns-in-Err-committed-clause-misled : goal.returns-in-Err-committed-clause-misled
returns-in-Err-committed-clause-misled g c o told whole tidy stands is may =
    let a = g.D.Tape.tape c.args.disk.now in
    let b = g.D.Tape.tape c.claim_pages.new.disk in
    let d = g.D.Tape.tape c.commit_page-committed.new.disk in
    let x : Asked (pack a) o c.args.fid c.args.last c.args.buf.now c.args.bytes.now c.args.past.now c.args.fresh.now = record {
      whole = whole;
      tidy = tidy;
      stands = stands;
      is = is;
      may = may;
      sized = c.requires.seen.sized;
      bytes = All-from_get_or (λ n. n < 256) c.args.bytes.now 0 (λ i within. omega (arith, c.type_inv.bytes i));
      words = All-from_get_or (λ n. n < 65536) c.args.past.now 0 (λ i within. omega (arith, c.type_inv.past i));
      small = (label_says c.args.buf.now.label (page_number c.args.fid c.args.last.number) c.requires.seen.holds.names).2;
    } in
    let claims = claims_then a o c.args.fid c.args.last c.args.buf.now c.args.bytes.now c.args.past.now c.args.fresh.now x c.min-count.result c.min-count.ensures b c.claim_pages.ensures.alone c.args.table.now c.args.tally.now c.after_first-more.result.now (Ok tt) c.after_first-more.ensures (c.in-Ok.ensures.claims told) in
    let done = claims.all in
    let one = c.claim_pages.ensures.alone in
    let two = c.commit_page-committed.ensures.alone in
    let still = still_there a o c.args.fid c.args.last c.args.buf.now c.args.bytes.now c.args.past.now c.args.fresh.now x c.min-count.result c.min-count.ensures b one c.args.table.now c.args.tally.now done in
    let carries : carried (pack b) c.args.last.at ≡ Some c.page_of_file-page.result = still ∙ ap (λ (p : Page). Some p) (sym c.page_of_file-page.ensures) in
    rw c.in-Err-committed.is at (c.commit_page-committed.ensures.misled told carries)

pub returns-in-Ok-committed-clause-runs : goal.returns-in-Ok-committed-clause-runs
returns-in-Ok-committed-clause-runs g c o told whole tidy stands is may =
    let a = g.D.Tape.tape c.args.disk.now in
    let b = g.D.Tape.tape c.claim_pages.new.disk in
    let d = g.D.Tape.tape c.commit_page-committed.new.disk in
    let x : Asked (pack a) o c.args.fid c.args.last c.args.buf.now c.args.bytes.now c.args.past.now c.args.fresh.now = record {
      whole = whole;
      tidy = tidy;
      stands = stands;
      is = is;
      may = may;
      sized = c.requires.seen.sized;
      bytes = All-from_get_or (λ n. n < 256) c.args.bytes.now 0 (λ i within. omega (arith, c.type_inv.bytes i));
      words = All-from_get_or (λ n. n < 65536) c.args.past.now 0 (λ i within. omega (arith, c.type_inv.past i));
      small = (label_says c.args.buf.now.label (page_number c.args.fid c.args.last.number) c.requires.seen.holds.names).2;
    } in
    let claims = claims_then a o c.args.fid c.args.last c.args.buf.now c.args.bytes.now c.args.past.now c.args.fresh.now x c.min-count.result c.min-count.ensures b c.claim_pages.ensures.alone c.args.table.now c.args.tally.now c.after_first-more.result.now (Ok tt) c.after_first-more.ensures (c.in-Ok.ensures.claims told) in
    let done = claims.all in
    let one = c.claim_pages.ensures.alone in
    let two = c.commit_page-committed.ensures.alone in
    let still = still_there a o c.args.fid c.args.last c.args.buf.now c.args.bytes.now c.args.past.now c.args.fresh.now x c.min-count.result c.min-count.ensures b one c.args.table.now c.args.tally.now done in
    let carries : carried (pack b) c.args.last.at ≡ Some c.page_of_file-page.result = still ∙ ap (λ (p : Page). Some p) (sym c.page_of_file-page.ensures) in
    let first = claims.runs in
    let second = (c.commit_page-committed.ensures.commits told carries).makes.runs in
    omega (arith, first, second)

pub returns-in-Err-committed-clause-runs : goal.returns-in-Err-committed-clause-runs
returns-in-Err-committed-clause-runs g c o told whole tidy stands is may =
    let a = g.D.Tape.tape c.args.disk.now in
    let b = g.D.Tape.tape c.claim_pages.new.disk in
    let d = g.D.Tape.tape c.commit_page-committed.new.disk in
    let x : Asked (pack a) o c.args.fid c.args.last c.args.buf.now c.args.bytes.now c.args.past.now c.args.fresh.now = record {
      whole = whole;
      tidy = tidy;
      stands = stands;
      is = is;
      may = may;
      sized = c.requires.seen.sized;
      bytes = All-from_get_or (λ n. n < 256) c.args.bytes.now 0 (λ i within. omega (arith, c.type_inv.bytes i));
      words = All-from_get_or (λ n. n < 65536) c.args.past.now 0 (λ i within. omega (arith, c.type_inv.past i));
      small = (label_says c.args.buf.now.label (page_number c.args.fid c.args.last.number) c.requires.seen.holds.names).2;
    } in
    let claims = claims_then a o c.args.fid c.args.last c.args.buf.now c.args.bytes.now c.args.past.now c.args.fresh.now x c.min-count.result c.min-count.ensures b c.claim_pages.ensures.alone c.args.table.now c.args.tally.now c.after_first-more.result.now (Ok tt) c.after_first-more.ensures (c.in-Ok.ensures.claims told) in
    let done = claims.all in
    let one = c.claim_pages.ensures.alone in
    let two = c.commit_page-committed.ensures.alone in
    let still = still_there a o c.args.fid c.args.last c.args.buf.now c.args.bytes.now c.args.past.now c.args.fresh.now x c.min-count.result c.min-count.ensures b one c.args.table.now c.args.tally.now done in
    let carries : carried (pack b) c.args.last.at ≡ Some c.page_of_file-page.result = still ∙ ap (λ (p : Page). Some p) (sym c.page_of_file-page.ensures) in
    let first = claims.runs in
    let second = (c.commit_page-committed.ensures.commits told carries).makes.runs in
    omega (arith, first, second)

pub returns-in-Ok-committed-clause-alone : goal.returns-in-Ok-committed-clause-alone
returns-in-Ok-committed-clause-alone g c = alone_twice c.claim_pages.ensures.alone c.commit_page-committed.ensures.alone

pub returns-in-Err-committed-clause-alone : goal.returns-in-Err-committed-clause-alone
returns-in-Err-committed-clause-alone g c = alone_twice c.claim_pages.ensures.alone c.commit_page-committed.ensures.alone

pub returns-in-Err-committed-clause-cause : goal.returns-in-Err-committed-clause-cause
returns-in-Err-committed-clause-cause g c =
    let less = c.in-Ok.ensures.cause in
    cause_after (g.D.Tape.tape c.args.disk.now) (g.D.Tape.tape c.claim_pages.new.disk) (g.D.Tape.tape c.commit_page-committed.new.disk) c.in-Err-committed.error less (rw c.in-Err-committed.is at c.commit_page-committed.ensures.cause)

pub commit_page-committed-requires-clause-same : goal.commit_page-committed-requires-clause-same
commit_page-committed-requires-clause-same g c =
    let count : c.min-count.result ≡ min (length c.args.bytes.now) (512 - c.args.last.info.bytes) = c.min-count.ensures in
    let few = c.requires.few in
    ap page_of c.with_count-label.ensures ∙ (label_with_another_count c.args.buf.now.label (page_number c.args.fid c.args.last.number) (c.args.last.info.bytes + c.min-count.result) c.link_to_first-next.result c.requires.seen.holds.names (omega (arith, count, few))).0
    ∙ ap (λ (p : Page). Some p) (sym c.page_of_file-page.ensures)

pub mark_busy-requires : goal.mark_busy-requires
mark_busy-requires g c = record { within = λ k d within. let sector = c.requires.sectors k d within in let last = sector.last in let sized = c.requires.sized in omega (arith, last, sized) }

pub returns-in-Err-clause-given : goal.returns-in-Err-clause-given
returns-in-Err-clause-given g c = if_misled_map {T = Unit {0}} (Err c.in-Err.error) c.in-Err.ensures.given (λ place at wanted found x. inl x)

pub returns-in-Err-committed-clause-given : goal.returns-in-Err-committed-clause-given
returns-in-Err-committed-clause-given g c =
    if_misled_map {T = Unit {0}} (Err c.in-Err-committed.error) (rw c.in-Err-committed.is at c.commit_page-committed.ensures.held) (λ place at wanted found x. inr (record { held = x.held; address = x.address; page_is = x.page_is ∙ c.page_of_file-page.ensures }))

pub returns-in-Err-clause-frame : goal.returns-in-Err-clause-frame
returns-in-Err-clause-frame g c told = only_claims c.args.last.at (g.D.Tape.tape c.args.disk.now) (g.D.Tape.tape c.claim_pages.new.disk) (c.claim_pages.ensures.frame told)

pub returns-in-Ok-committed-clause-frame : goal.returns-in-Ok-committed-clause-frame
returns-in-Ok-committed-clause-frame g c told = claims_and_commit c.args.last.at c.claim_pages.ensures.alone.grown c.commit_page-committed.ensures.alone.grown (c.claim_pages.ensures.frame told) (c.commit_page-committed.ensures.frame told)

pub returns-in-Err-committed-clause-frame : goal.returns-in-Err-committed-clause-frame
returns-in-Err-committed-clause-frame g c told = claims_and_commit c.args.last.at c.claim_pages.ensures.alone.grown c.commit_page-committed.ensures.alone.grown (c.claim_pages.ensures.frame told) (c.commit_page-committed.ensures.frame told)
