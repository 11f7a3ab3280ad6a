use Rattle.std.proofs.Common.{◌≡◌, get_or, sym, subst, ◌∙◌, refl}
use Rattle.disk_records.specs.Tapes.{pack}
use Rattle.disk_records.proofs.Growing.{alone_here}
use Rattle.disk_records.proofs.Framing.{usable_here}
use Rattle.scav_pages.specs.declared.errors.Stop.TheVariants.{Memory}
use Rattle.scav_pages.proofs.Causing.{cause_of_part}
use Rattle.scav_names.specs.Parts.{AddressesTrue}
use Rattle.scav_names.specs.Words.{AreWordsOf, WritesWords, address_words}
use Rattle.scav_names.proofs.Addressing.{are_words, few_places, run_addresses}
use Rattle.scav_names.proofs.Going.{does_stop, so_far_here}
use Rattle.scav_names.proofs.WordRuns.{does_writes, words_change}
use Rattle.scav_names.proofs.addresses.mend_addresses.Goals as goal

pub returns-clause-does : goal.returns-clause-does
returns-clause-does g c = λ told may.
    let a = g.D.Tape.tape c.args.disk.now in
    let files = c.args.living.now in
    let kept = c.args.kept.now in
    let is : c.as_slice.result.now ≡ address_words files kept = c.as_slice.ensures ∙ c.in_ok-words.ensures may.rises (λ k z within. few_places (pack a) (get_or kept k z) (may.stand k z within)) in
    let runs = run_addresses (pack a) files kept may in
    let wrote : WritesWords (address_words files kept) a (g.D.Tape.tape c.write_words.new.disk) c.write_words.result =
    subst (λ ws. WritesWords ws a (g.D.Tape.tape c.write_words.new.disk) c.write_words.result) is (c.write_words.ensures.writes told (subst (AreWordsOf (pack a)) (sym is) (are_words (pack a) files kept may))) in
    does_writes {Leaves = AddressesTrue} c.write_words.result c.write_words.ensures.alone.grown wrote runs.keeps (words_change (pack a) (address_words files kept)) runs.mended

pub returns-in_err-words-clause-cause : goal.returns-in_err-words-clause-cause
returns-in_err-words-clause-cause g c = cause_of_part Memory c.from_residual.result (alone_here (g.D.Tape.tape c.args.disk.now)) refl (alone_here _) refl c.from_residual.ensures.1

pub returns-clause-cause : goal.returns-clause-cause
returns-clause-cause g c = c.write_words.ensures.cause

pub returns-in_err-words-clause-does : goal.returns-in_err-words-clause-does
returns-in_err-words-clause-does g c = λ told may. does_stop Memory c.from_residual.result (so_far_here (g.D.Tape.tape c.args.disk.now)) (λ astray. cc) c.from_residual.ensures.1

pub returns-in_err-words-clause-alone : goal.returns-in_err-words-clause-alone
returns-in_err-words-clause-alone g c = alone_here _

pub returns-in_err-words-clause-frame : goal.returns-in_err-words-clause-frame
returns-in_err-words-clause-frame g c = usable_here (g.D.Tape.tape c.args.disk.now)

pub returns-clause-alone : goal.returns-clause-alone
returns-clause-alone g c = c.write_words.ensures.alone

pub returns-clause-frame : goal.returns-clause-frame
returns-clause-frame g c = c.write_words.ensures.frame
