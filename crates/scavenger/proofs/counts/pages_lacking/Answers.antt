use Rattle.std.proofs.Common.{◌≡◌, ◌<◌, ◌≤◌, true, false, sym, subst, ◌∙◌, rules}
use Rattle.alto_words.specs.Fid.{disk_descriptor, is_fid}
use Rattle.scav_pages.proofs.Counting.{fid_by_words}
use Rattle.scavenger.proofs.Closing.{pages_met}
use Rattle.scavenger.proofs.FileNumbers.{lacks_descriptor, met_all, met_fewer}
use Rattle.scavenger.proofs.counts.pages_lacking.Goals as goal

pub returns-then-eq : goal.returns-then-eq
returns-then-eq c = record {
  lacks = λ p shape system left hand living last.
      let is : is_fid c.args.fid disk_descriptor ≡ true = sym (c.eq.ensures ∙ fid_by_words c.args.fid) ∙ c.if-eq.true in
      lacks_descriptor p c.args.fid c.args.shape c.lacks.result is shape (c.lacks.ensures.lacks p shape system);
}

pub returns-then-from-last : goal.returns-then-from-last
returns-then-from-last c = record {
  lacks = λ p shape system left hand living last.
      let other : is_fid c.args.fid disk_descriptor ≡ false = sym (c.eq.ensures ∙ fid_by_words c.args.fid) ∙ c.if-eq.false in
      let pages : c.from.result ≡ c.args.dir.now.walk.pages = search rules in
      met_fewer p c.args.fid c.args.dir.now.walk.pages c.args.last other (pages_met p c.args.fid c.args.dir.now left hand) last (subst (λ n. n < c.args.last) pages c.if-from-last.true);
}

pub returns-else-from-last : goal.returns-else-from-last
returns-else-from-last c = record {
  lacks = λ p shape system left hand living last.
      let other : is_fid c.args.fid disk_descriptor ≡ false = sym (c.eq.ensures ∙ fid_by_words c.args.fid) ∙ c.if-eq.false in
      let pages : c.from.result ≡ c.args.dir.now.walk.pages = search rules in
      met_all p c.args.fid c.args.dir.now.walk.pages c.args.last other (pages_met p c.args.fid c.args.dir.now left hand) last (subst (λ n. c.args.last ≤ n) pages c.if-from-last.false);
}
