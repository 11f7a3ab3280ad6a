use Rattle.std.proofs.Common.{◌≡◌, ◌∙◌, rules, tests}
use Rattle.std.proofs.lemmas.Iterator.{YieldsList-from_slice, YieldsList-from_zip}
use Rattle.std.proofs.lemmas.Iterator.Adapters.{position_from-zero}
use Rattle.std.proofs.lemmas.Iterator.Consumers.{YieldsList-at}
use Rattle.std.proofs.lemmas.Iterator.Search.{position_from_yields_List}
use Rattle.std.specs.List.{zip}
use Rattle.disk_records.proofs.Checking.{differs, first_pair}
use Rattle.disk_records.proofs.check.find_mismatch.Goals as goal

pub returns : goal.returns
returns c =
    let memory = c.args.memory.now in
    let disk = c.args.disk.now in
    let second : c.zip.result.b.rest.now ≡ disk = c.zip.ensures.second.0 in
    let road = YieldsList-from_zip (YieldsList-at c.zip.ensures.first (YieldsList-from_slice memory c.iter.ensures.rest)) (YieldsList-from_slice disk second) in
    let found = position_from_yields_List differs c.position.new.self _ c.position.result c.position.ensures.ran road (λ x b q k. search (rules, tests)) in
    let cases = c.map.ensures.cases in
    let at = found ∙ position_from-zero differs (zip memory disk) ∙ first_pair 0 memory disk c.requires.same in
    let same : c.map.result ≡ c.position.result = search (rules, tests) in
    same ∙ at
