use Rattle.std.proofs.Common.{false, true, sym, ap, ◌∙◌}
use Rattle.exec_words.specs.disk_records.specs.Words.{word}
use Rattle.exec_words.specs.Texts.{word_text}
use Rattle.exec_words.specs.declared.line.Line.TheVariants as line
use Rattle.exec_words.specs.declared.reply.Refusal.TheVariants as refused
use Rattle.exec_session.specs.Meant.{kept}
use Rattle.exec_session.specs.declared.stop.Stop.TheVariants as stop
use Rattle.exec_session.proofs.Stopping.{error_is}
use Rattle.session_model.specs.Keeping.{world_of}
use Rattle.session_model.specs.Effects.{says}
use Rattle.exec_memory.proofs.Lines.{fetch_plain, fetch_refused}
use Rattle.exec_memory.proofs.LinesAlone.{line_done, line_refused, line_wants, stops_by}
use Rattle.exec_memory.proofs.Worlds.{word_missing, word_there}
use Rattle.exec_memory.proofs.fetch.fetch_word.Goals as goal

pub returns-then-not-is_storable : goal.returns-then-not-is_storable
returns-then-not-is_storable c =
    let one = kept c.args.session.now in
    let no = sym c.is_storable.ensures ∙ c.if-not-is_storable.true in
    record {
      turns = line_refused (line.Fetch c.args.at) one refused.NotABlock c.refused.result c.refused.ensures (λ m. fetch_refused c.args.at (world_of one) m c.requires.may.taken_up ∙ word_missing one c.args.at false no);
      stops = stops_by (stop.Refused refused.NotABlock) c.refused.result c.refused.ensures tt;
    }

pub returns-in_err-word_text : goal.returns-in_err-word_text
returns-in_err-word_text c =
    let one = kept c.args.session.now in
    let e = error_is c.from_residual.result c.from_residual.ensures.1 in
    record {
      turns = line_wants (line.Fetch c.args.at) one one.moment one.level one.memory c.from_residual.result e (fetch_plain c.args.at) c.requires.may.taken_up;
      stops = stops_by stop.Memory c.from_residual.result e tt;
    }

pub returns : goal.returns
returns c =
    let one = kept c.args.session.now in
    let yes = sym c.is_storable.ensures ∙ c.if-not-is_storable.false in
    record {
      turns = line_done (line.Fetch c.args.at) one one.moment one.level one.memory c.in_ok-word_text.field-0.items (fetch_plain c.args.at)
          (λ m. fetch_refused c.args.at (world_of one) m c.requires.may.taken_up ∙ word_missing one c.args.at true yes)
          (λ m. ap (λ x. says (world_of one) (word_text x)) (word_there one c.args.at c.requires.may.memory yes)
          ∙ ap (λ words. says (world_of one) (word_text (word words c.args.at))) (sym c.as_slice.ensures)
          ∙ ap (λ k. says (world_of one) (word_text (word c.as_slice.result.now k))) (sym c.from.ensures)
          ∙ ap (says (world_of one)) (sym c.in_ok-word_text.ensures));
      stops = tt;
    }
