use Rattle.std.proofs.Common.{None, Err, ◌&&◌, nat_lt, refl, sym, ap, ◌∙◌}
use Rattle.std.specs.Option.{option_or}
use Rattle.exec_words.specs.Texts.{level_text}
use Rattle.exec_words.specs.declared.line.Line.TheVariants as line
use Rattle.exec_words.specs.declared.reply.Refusal.TheVariants as refused
use Rattle.exec_session.specs.Meant.{kept}
use Rattle.exec_session.specs.declared.stop.Stop.TheVariants as stop
use Rattle.exec_session.proofs.OrdinaryFiles.{by_test, ok_test}
use Rattle.exec_session.proofs.Stopping.{error_is}
use Rattle.session_model.specs.Keeping.{world_of}
use Rattle.session_model.specs.Effects.{says}
use Rattle.session_model.specs.Refusals.{is_any_open, when}
use Rattle.session_model.specs.world_model.specs.Levels.{zone_kept}
use Rattle.exec_memory.proofs.Lines.{junta_plain, junta_refused, level_within}
use Rattle.exec_memory.proofs.LinesAlone.{formed_with, line_done, line_refused, line_wants, stops_by}
use Rattle.exec_memory.proofs.Worlds.{level_lowered, world_now}
use Rattle.exec_memory.proofs.junta.remove_levels.Goals as goal

pub lower_to-requires : goal.lower_to-requires
lower_to-requires c =
    let within = level_within c.args.level (world_of (kept c.args.session.now)) c.requires.may.taken_up in
    record { at = c.requires.may.memory; least = within.0; most = within.1 }

pub returns-in_err-refuse_streams : goal.returns-in_err-refuse_streams
returns-in_err-refuse_streams c =
    let one = kept c.args.session.now in
    let w = world_of one in
    let test = by_test (nat_lt c.args.level 6 && is_any_open w) c.in_err-refuse_streams.field-0.0 refused.StreamsOpen c.in_err-refuse_streams.ensures in
    let e = error_is c.from_residual.result c.from_residual.ensures.1 ∙ ap (λ x. Err x) test.1 in
    record {
      turns = line_refused (line.Junta c.args.level) one refused.StreamsOpen c.from_residual.result e
          (λ m. junta_refused c.args.level w m c.requires.may.taken_up ∙ ap (λ b. option_or (when b refused.StreamsOpen) None) test.0);
      formed = λ form formed. formed;
      stops = stops_by (stop.Refused refused.StreamsOpen) c.from_residual.result e tt;
      alone = refl;
    }

pub returns-in_err-level_text : goal.returns-in_err-level_text
returns-in_err-level_text c =
    let one = kept c.args.session.now in
    let two = c.lower_to.new.world in
    let within = level_within c.args.level (world_of one) c.requires.may.taken_up in
    let e = error_is c.from_residual-in_err-level_text.result c.from_residual-in_err-level_text.ensures.1 in
    record {
      turns = line_wants (line.Junta c.args.level) one one.moment two.level two.memory c.from_residual-in_err-level_text.result e (junta_plain c.args.level) c.requires.may.taken_up;
      formed = formed_with one one.moment two.level two.memory (level_lowered one c.args.level two.level two.memory _ c.requires.may.memory within.0 c.lower_to.ensures.level c.lower_to.ensures.joins);
      stops = stops_by stop.Memory c.from_residual-in_err-level_text.result e tt;
      alone = refl;
    }

pub returns : goal.returns
returns c =
    let one = kept c.args.session.now in
    let w = world_of one in
    let two = c.lower_to.new.world in
    let within = level_within c.args.level w c.requires.may.taken_up in
    let closed = ok_test (nat_lt c.args.level 6 && is_any_open w) c.in_ok-refuse_streams.field-0 refused.StreamsOpen c.in_ok-refuse_streams.ensures in
    let zone = zone_kept w.level c.args.level w.zone in
    record {
      turns = line_done (line.Junta c.args.level) one one.moment two.level two.memory c.in_ok-level_text.field-0.items (junta_plain c.args.level)
          (λ m. junta_refused c.args.level w m c.requires.may.taken_up ∙ ap (λ b. option_or (when b refused.StreamsOpen) None) closed)
          (λ m. ap (λ k. says (record w { level = k; zone = zone }) (level_text k)) (sym c.lower_to.ensures.level) ∙ ap (λ v. says v (level_text two.level)) (world_now one two.level two.memory zone c.lower_to.ensures.joins) ∙ ap (says _) (sym c.in_ok-level_text.ensures));
      formed = formed_with one one.moment two.level two.memory (level_lowered one c.args.level two.level two.memory zone c.requires.may.memory within.0 c.lower_to.ensures.level c.lower_to.ensures.joins);
      stops = tt;
      alone = refl;
    }
