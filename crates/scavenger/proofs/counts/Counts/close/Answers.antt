use Rattle.std.proofs.Common.{◌≡◌, true, false, length, Some, sym, ap, ◌∙◌, subst, rules}
use Rattle.alto_words.specs.Fid.{disk_descriptor}
use Rattle.scav_names.specs.pack_laws.proofs.Keys.{same_fid}
use Rattle.pack_model.specs.reading.Files.{file_bytes, lives}
use Rattle.pack_model.specs.reading.Sights.{sights}
use Rattle.scav_pages.specs.Walks.{file_in_hand}
use Rattle.scav_pages.proofs.Counting.{fid_by_words}
use Rattle.scavenger.proofs.Closing.{SaysOld, closes, closes_none, counts_dead, counts_living, known, says_none, says_old}
use Rattle.scavenger.proofs.counts.Counts.close.Goals as goal
use Rattle.scavenger.proofs.counts.Counts.close.Goals.{then-eq, else-eq}

pub returns-in_default : goal.returns-in_default
returns-in_default c = λ p shape system left. closes_none p c.args.dir.now c.args.self.now (sym c.fid.ensures ∙ c.in_default.is)

pub returns-then-lives : goal.returns-then-lives
returns-then-lives c = λ p shape system left.
    let f = c.in-Some.fid in
    let hand : file_in_hand c.args.dir.now.walk ≡ Some c.in-Some.fid = sym c.fid.ensures ∙ c.in-Some.is in
    let here = known p c.in-Some.fid c.args.dir.now left hand in
    let living : lives (sights p) c.in-Some.fid ≡ true = sym here.lives_is ∙ sym c.lives.ensures ∙ c.if-lives.true in
    let says : SaysOld p c.in-Some.fid c.args.self.now c.if-eq.self = elim c.if-eq.branch [
      | then-eq w ↦ subst (SaysOld p c.in-Some.fid c.args.self.now) (sym w.self-is) (says_old p c.in-Some.fid c.args.self.now w.max-self.result w.old_serial.result (sym (c.eq.ensures ∙ fid_by_words c.in-Some.fid) ∙ w.if-eq.true) (w.old_serial.ensures p shape system (w.length.ensures ∙ here.size ∙ ap (λ g. length (file_bytes (sights p) g)) (same_fid c.in-Some.fid disk_descriptor (sym (c.eq.ensures ∙ fid_by_words c.in-Some.fid) ∙ w.if-eq.true)))) (search rules))
      | else-eq w ↦ subst (SaysOld p c.in-Some.fid c.args.self.now) (sym w.self-is) (says_none p c.in-Some.fid c.args.self.now (sym (c.eq.ensures ∙ fid_by_words c.in-Some.fid) ∙ w.if-eq.false))
    ] in
    closes p c.args.dir.now c.in-Some.fid c.args.self.now c.count_living.new.self hand (λ met unmet counts. counts_living p met c.in-Some.fid c.args.self.now c.if-eq.self c.count_living.new.self c.args.system.now.first c.last_page-last.result c.pages_lacking-lacks.result living unmet system.first (c.last_page-last.ensures.last p shape left hand living) (c.pages_lacking-lacks.ensures.lacks p shape system left hand living (c.last_page-last.ensures.last p shape left hand living)) says c.count_living.ensures counts)

pub returns-else-lives : goal.returns-else-lives
returns-else-lives c = λ p shape system left.
    let hand : file_in_hand c.args.dir.now.walk ≡ Some c.in-Some.fid = sym c.fid.ensures ∙ c.in-Some.is in
    let here = known p c.in-Some.fid c.args.dir.now left hand in
    let dead : lives (sights p) c.in-Some.fid ≡ false = sym here.lives_is ∙ sym c.lives.ensures ∙ c.if-lives.false in
    let says : SaysOld p c.in-Some.fid c.args.self.now c.if-eq.self = elim c.if-eq.branch [
      | then-eq w ↦ subst (SaysOld p c.in-Some.fid c.args.self.now) (sym w.self-is) (says_old p c.in-Some.fid c.args.self.now w.max-self.result w.old_serial.result (sym (c.eq.ensures ∙ fid_by_words c.in-Some.fid) ∙ w.if-eq.true) (w.old_serial.ensures p shape system (w.length.ensures ∙ here.size ∙ ap (λ g. length (file_bytes (sights p) g)) (same_fid c.in-Some.fid disk_descriptor (sym (c.eq.ensures ∙ fid_by_words c.in-Some.fid) ∙ w.if-eq.true)))) (search rules))
      | else-eq w ↦ subst (SaysOld p c.in-Some.fid c.args.self.now) (sym w.self-is) (says_none p c.in-Some.fid c.args.self.now (sym (c.eq.ensures ∙ fid_by_words c.in-Some.fid) ∙ w.if-eq.false))
    ] in
    closes p c.args.dir.now c.in-Some.fid c.args.self.now c.if-eq.self hand (λ met unmet counts. counts_dead p met c.in-Some.fid c.args.self.now c.if-eq.self dead says counts)
