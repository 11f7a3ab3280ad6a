use Rattle.std.proofs.Common.{◌≡◌, ◌/◌, ◌+◌, true, false, sym, ap, ◌∙◌, rules}
use Rattle.alto_words.specs.Fid.{disk_descriptor, is_directory, is_fid}
use Rattle.scav_pages.proofs.Counting.{fid_by_words}
use Rattle.scavenger.proofs.Closing.{directory_end, known}
use Rattle.scavenger.proofs.FileNumbers.{last_of_directory, last_of_file}
use Rattle.scavenger.proofs.counts.last_page.Goals as goal

pub returns-then-is_directory-clause-last : goal.returns-then-is_directory-clause-last
returns-then-is_directory-clause-last c = λ p shape left hand living.
    let other : is_fid c.args.fid disk_descriptor ≡ false = sym (c.eq.ensures ∙ fid_by_words c.args.fid) ∙ c.if-eq.false in
    let isdir : is_directory c.args.fid ≡ true = search rules in
    last_of_directory p c.args.fid c.place.result other isdir (c.place.ensures.place ∙ directory_end p c.args.fid c.args.dir.now left hand living isdir)

pub returns-else-is_directory-clause-last : goal.returns-else-is_directory-clause-last
returns-else-is_directory-clause-last c = λ p shape left hand living.
    let other : is_fid c.args.fid disk_descriptor ≡ false = sym (c.eq.ensures ∙ fid_by_words c.args.fid) ∙ c.if-eq.false in
    let isdir : is_directory c.args.fid ≡ false = search rules in
    ap (λ n. c.length.result / n + 1) c.from-else-is_directory.ensures ∙ last_of_file p c.args.fid c.length.result other isdir (c.length.ensures ∙ (known p c.args.fid c.args.dir.now left hand).size)
