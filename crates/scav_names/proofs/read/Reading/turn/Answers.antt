use Rattle.std.proofs.Common.{refl, rules, ap}
use Rattle.std.specs.Option.{option_map}
use Rattle.scav_pages.specs.Walks.{IsOtherFile}
use Rattle.scav_pages.proofs.DirectoryPass.{may_begin}
use Rattle.scav_pages.proofs.laws.Laws.{leaves_its_file}
use Rattle.scav_names.proofs.ReadingTo.{read_left}
use Rattle.scav_names.proofs.read.Reading.turn.Goals as goal

pub returns-then-leaves-clause-read : goal.returns-then-leaves-clause-read
returns-then-leaves-clause-read c = λ p last h words first.
    let other : IsOtherFile c.args.self.now.walk c.args.row.now = c.leaves.ensures.0 (search rules) in
    let left = leaves_its_file p last c.args.self.now.walk c.args.row.now h.walked words first other in
    let start = c.new-self.ensures.start p last h.walked.formed (may_begin h.walked left other.0) in
    read_left p last c.args.self.now h left _ start (ap (option_map (λ r. r.page.fid)) c.new-self.ensures.fresh.last) c.new-self-then-leaves.ensures.start refl
