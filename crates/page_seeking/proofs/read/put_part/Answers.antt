use Rattle.std.proofs.Common.{◌≡◌, ◌∙◌, arith, rules, ap, drop, sym, take}
use Rattle.std.proofs.lemmas.List.{take_all}
use Rattle.disk_records.specs.Bytes.{bytes_of, put_at}
use Rattle.disk_records.proofs.Bytes.{length-bytes_of}
use Rattle.page_seeking.proofs.read.put_part.Goals as goal

pub returns-then-out-done-clause-put : goal.returns-then-out-done-clause-put
returns-then-out-done-clause-put c =
    let bytes = bytes_of c.args.value.now in
    let first : c.args.from ≡ 0 = search rules in
    let sized = c.told-value in
    let all : take 512 bytes ≡ bytes = take_all 512 bytes (omega (arith, length-bytes_of c.args.value.now, sized)) in
    c.put_page.ensures.put ∙ ap (λ l. put_at c.args.done l c.args.out.now) (sym (ap (λ n. take 512 (drop n bytes)) first ∙ all))
