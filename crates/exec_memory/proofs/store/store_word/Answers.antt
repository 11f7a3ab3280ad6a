use Rattle.std.proofs.Common.{false, true, refl, sym, ap, ◌∙◌, set, arith}
use Rattle.exec_words.specs.declared.line.Line.TheVariants as line
use Rattle.exec_words.specs.declared.reply.Refusal.TheVariants as refused
use Rattle.exec_words.specs.Texts.{done_text}
use Rattle.exec_session.specs.Meant.{kept}
use Rattle.exec_session.specs.declared.stop.Stop.TheVariants as stop
use Rattle.exec_session.proofs.Stopping.{error_is}
use Rattle.session_model.specs.Effects.{says}
use Rattle.session_model.specs.Keeping.{world_of}
use Rattle.exec_memory.proofs.Lines.{store_plain, store_refused}
use Rattle.exec_memory.proofs.LinesAlone.{formed_with, line_done, line_refused, line_wants, stops_by}
use Rattle.exec_memory.proofs.Worlds.{level_after_store, word_missing, world_stored}
use Rattle.exec_memory.proofs.store.store_word.Goals as goal

pub set_word-requires : goal.set_word-requires
set_word-requires c = let long = c.requires.may.memory.memory_is.words in let fits = c.ranges.at.fits in omega (arith, long, fits)

pub returns-then-not-is_storable : goal.returns-then-not-is_storable
returns-then-not-is_storable c =
    let one = kept c.args.session.now in
    let at = c.args.at in
    let no = sym c.is_storable.ensures ∙ c.if-not-is_storable.true in
    record {
      turns = line_refused (line.Store at c.args.word) one refused.NotABlock c.refused.result c.refused.ensures (λ m. store_refused at c.args.word (world_of one) m c.requires.may.taken_up ∙ word_missing one at false no);
      formed = λ form formed. formed;
      stops = stops_by (stop.Refused refused.NotABlock) c.refused.result c.refused.ensures tt;
      alone = refl;
    }

pub returns-in_err-done_text : goal.returns-in_err-done_text
returns-in_err-done_text c =
    let one = kept c.args.session.now in
    let at = c.args.at in
    let yes = sym c.is_storable.ensures ∙ c.if-not-is_storable.false in
    let e = error_is c.from_residual.result c.from_residual.ensures.1 in
    let level = c.requires.may.memory in
    record {
      turns = rw c.set_word.ensures (line_wants (line.Store at c.args.word) one one.moment one.level (set one.memory at c.args.word) c.from_residual.result e (store_plain at c.args.word) c.requires.may.taken_up);
      formed = rw c.set_word.ensures (formed_with one one.moment one.level (set one.memory at c.args.word) (level_after_store one.level at c.args.word one.memory level yes));
      stops = stops_by stop.Memory c.from_residual.result e tt;
      alone = refl;
    }

pub returns : goal.returns
returns c =
    let one = kept c.args.session.now in
    let at = c.args.at in
    let x = c.args.word in
    let yes = sym c.is_storable.ensures ∙ c.if-not-is_storable.false in
    let level = c.requires.may.memory in
    record {
      turns = rw c.set_word.ensures (line_done (line.Store at x) one one.moment one.level (set one.memory at x) c.in_ok-done_text.field-0.items (store_plain at x)
          (λ m. store_refused at x (world_of one) m c.requires.may.taken_up ∙ word_missing one at true yes)
          (λ m. ap (λ w. says w done_text) (world_stored one at x level yes) ∙ ap (says _) (sym c.in_ok-done_text.ensures)));
      formed = rw c.set_word.ensures (formed_with one one.moment one.level (set one.memory at x) (level_after_store one.level at x one.memory level yes));
      stops = tt;
      alone = refl;
    }
