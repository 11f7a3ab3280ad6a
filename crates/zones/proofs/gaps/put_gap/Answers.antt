use Rattle.std.proofs.Common.{◌-◌, ◌∷◌, ◌∙◌, ap, append_assoc, arith, replicate, take, drop, length-drop, sym}
use Rattle.std.proofs.lemmas.List.{length-take-le}
use Rattle.laws_zone.proofs.Taking.{tagged}
use Rattle.zones.proofs.gaps.put_gap.Goals as goal

pub returns : goal.returns
returns c =
    let m = c.args.memory.now in
    let from = c.args.from in
    let end = c.args.end in
    let order = c.requires.order in
    let within = c.requires.within in
    let rest = length-drop from m in
    let long = length-take-le (end - from) (drop from m) (omega (arith, rest, within)) in
    tagged from (end - from) end m c.fill.new.self (omega (arith, order)) (omega (arith, order)) within (c.fill.ensures.after (λ y h. h) ∙ ap (λ n. replicate n 0) long)
    ∙ sym (append_assoc (take from m) ((end - from) ∷ replicate (end - from - 1) 0) (drop end m))
