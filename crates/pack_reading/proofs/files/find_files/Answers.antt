use Rattle.std.proofs.Common.{◌≡◌, [], ◌∷◌, ◌++◌, map, ◌∙◌, sym, ap, subst, arith, rules}
use Rattle.std.proofs.lemmas.Grind.{common_steps}
use Rattle.std.proofs.lemmas.List.{append_assoc}
use Rattle.pack_reading.specs.Kept.{found_in}
use Rattle.pack_reading.proofs.Joins.{AreLeft, bytes_left, left_more}
use Rattle.pack_reading.proofs.files.find_files.Goals as goal

pub loop-fid-preserved : goal.loop-fid-preserved
loop-fid-preserved c =
    let here : c.loop-fid.fid-iterator ≡ (c.in-Some.fid.now, c.in-Some.leader.now) ∷ c.next.new.self = search rules in
    let left = subst (AreLeft c.args.pages c.loop-fid.pages) here c.loop-fid.invariant.left in
    let bytes = c.in_ok-bytes.ensures.bytes ∙ bytes_left c.args.pages c.loop-fid.pages (c.in-Some.fid.now, c.in-Some.leader.now) c.next.new.self left in
    let pages = c.args.pages in
    let pushed : c.push.new.self.items ≡ c.loop-fid.files.items ++ record { fid = c.in-Some.fid.now; leader = c.in-Some.leader.now; bytes = c.in_ok-bytes.bytes } ∷ [] = grind (arith, common_steps) in
    record {
      files =
          ap (λ l. l ++ map (λ e. found_in pages e.0 e.1) c.next.new.self) pushed
          ∙ append_assoc c.loop-fid.files.items _ (map (λ e. found_in pages e.0 e.1) c.next.new.self)
          ∙ (λ i. c.loop-fid.files.items ++ record { fid = c.in-Some.fid.now; leader = c.in-Some.leader.now; bytes = bytes i } ∷ map (λ e. found_in pages e.0 e.1) c.next.new.self)
          ∙ ap (λ es. c.loop-fid.files.items ++ map (λ e. found_in pages e.0 e.1) es) (sym here)
          ∙ c.loop-fid.invariant.files;
      left = left_more c.args.pages c.loop-fid.pages c.file_bytes.new.pages (c.in-Some.fid.now, c.in-Some.leader.now) c.next.new.self left c.in_ok-bytes.ensures.others;
    }
