use Rattle.std.proofs.Common.{◌≡◌, ◌∙◌, map, subst, sym, refl}
use Rattle.disk_records.specs.Tapes.{pack}
use Rattle.disk_records.proofs.Growing.{alone_here}
use Rattle.disk_records.proofs.Framing.{usable_here}
use Rattle.scav_pages.specs.declared.errors.Stop.TheVariants.{Memory}
use Rattle.scav_pages.proofs.Causing.{cause_of_part}
use Rattle.scav_names.specs.Parts.{UnkeptFreed}
use Rattle.scav_names.specs.Words.{AreWordsOf, WritesWords, freeing_word}
use Rattle.scav_names.proofs.UnkeptRuns.{are_freeing_words, run_unkept}
use Rattle.scav_names.proofs.Going.{does_stop, so_far_here}
use Rattle.scav_names.proofs.WordRuns.{does_writes, words_change}
use Rattle.scav_names.proofs.unkept.free_unkept.Goals as goal

pub returns-clause-does : goal.returns-clause-does
returns-clause-does g c = λ told may are.
    let a = g.D.Tape.tape c.args.disk.now in
    let unkept = c.args.unkept.now in
    let is : c.as_slice.result.now ≡ map freeing_word unkept = c.as_slice.ensures ∙ c.in_ok-words.ensures in
    let runs = run_unkept (pack a) unkept may (sym are) in
    let wrote : WritesWords (map freeing_word unkept) a (g.D.Tape.tape c.write_words.new.disk) c.write_words.result =
    subst (λ ws. WritesWords ws a (g.D.Tape.tape c.write_words.new.disk) c.write_words.result) is (c.write_words.ensures.writes told (subst (AreWordsOf (pack a)) (sym is) (are_freeing_words (pack a) unkept may (sym are)))) in
    does_writes {Leaves = UnkeptFreed} c.write_words.result c.write_words.ensures.alone.grown wrote runs.keeps (words_change (pack a) (map freeing_word unkept)) runs.leaves

pub returns-in_err-words-clause-cause : goal.returns-in_err-words-clause-cause
returns-in_err-words-clause-cause g c = cause_of_part Memory c.from_residual.result (alone_here (g.D.Tape.tape c.args.disk.now)) refl (alone_here _) refl c.from_residual.ensures.1

pub returns-clause-cause : goal.returns-clause-cause
returns-clause-cause g c = c.write_words.ensures.cause

pub returns-in_err-words-clause-does : goal.returns-in_err-words-clause-does
returns-in_err-words-clause-does g c = λ told may are. does_stop Memory c.from_residual.result (so_far_here (g.D.Tape.tape c.args.disk.now)) (λ astray. cc) c.from_residual.ensures.1

pub returns-in_err-words-clause-alone : goal.returns-in_err-words-clause-alone
returns-in_err-words-clause-alone g c = alone_here _

pub returns-in_err-words-clause-frame : goal.returns-in_err-words-clause-frame
returns-in_err-words-clause-frame g c = usable_here (g.D.Tape.tape c.args.disk.now)

pub returns-clause-alone : goal.returns-clause-alone
returns-clause-alone g c = c.write_words.ensures.alone

pub returns-clause-frame : goal.returns-clause-frame
returns-clause-frame g c = c.write_words.ensures.frame
