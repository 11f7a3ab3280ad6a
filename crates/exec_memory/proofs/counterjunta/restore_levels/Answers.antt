use Rattle.std.proofs.Common.{refl, sym, ap, ◌∙◌}
use Rattle.std.specs.Option.{option_map}
use Rattle.exec_words.specs.Texts.{level_text}
use Rattle.exec_words.specs.declared.line.Line.TheVariants as line
use Rattle.exec_words.specs.declared.reply.Refusal.TheVariants as refused
use Rattle.exec_session.specs.Meant.{kept}
use Rattle.exec_session.specs.declared.stop.Stop.TheVariants as stop
use Rattle.exec_session.proofs.Stopping.{error_is}
use Rattle.session_model.specs.Keeping.{world_of}
use Rattle.session_model.specs.Effects.{says}
use Rattle.session_model.specs.world_model.specs.Levels.{all_levels, zone_below_all}
use Rattle.exec_memory.proofs.Lines.{counter_plain, counter_refused}
use Rattle.exec_memory.proofs.LinesAlone.{formed_with, line_done, line_refused, line_wants, stops_by}
use Rattle.exec_memory.proofs.Worlds.{level_raised, world_raised}
use Rattle.exec_memory.proofs.counterjunta.restore_levels.Goals as goal

pub returns-in_err-level_text-in-Ok : goal.returns-in_err-level_text-in-Ok
returns-in_err-level_text-in-Ok c =
    let one = kept c.args.session.now in
    let two = c.raise.new.world in
    let e = error_is c.from_residual.result c.from_residual.ensures.1 in
    record {
      turns = line_wants line.CounterJunta one one.moment two.level two.memory c.from_residual.result e counter_plain c.requires.may.taken_up;
      formed = formed_with one one.moment two.level two.memory (level_raised one two.level two.memory _ c.in-Ok.ensures.level c.in-Ok.ensures.back);
      stops = stops_by stop.Memory c.from_residual.result e tt;
      alone = refl;
    }

pub returns-in_ok-level_text-in-Ok : goal.returns-in_ok-level_text-in-Ok
returns-in_ok-level_text-in-Ok c =
    let one = kept c.args.session.now in
    let w = world_of one in
    let two = c.raise.new.world in
    record {
      turns = line_done line.CounterJunta one one.moment two.level two.memory c.in_ok-level_text-in-Ok.field-0.items counter_plain
          (λ m. counter_refused w m c.requires.may.taken_up ∙ ap (option_map refused.InUse) c.in-Ok.ensures.free)
          (λ m. ap (λ v. says v (level_text all_levels)) (world_raised one two.level two.memory (zone_below_all w.zone) c.in-Ok.ensures.level c.in-Ok.ensures.back) ∙ ap (says _) (sym c.in_ok-level_text-in-Ok.ensures));
      formed = formed_with one one.moment two.level two.memory (level_raised one two.level two.memory _ c.in-Ok.ensures.level c.in-Ok.ensures.back);
      stops = tt;
      alone = refl;
    }

pub returns-in-Err : goal.returns-in-Err
returns-in-Err c =
    let one = kept c.args.session.now in
    record {
      turns = rw c.in-Err.ensures.left (line_refused line.CounterJunta one (refused.InUse c.in-Err.field-0.at) c.refused.result c.refused.ensures
          (λ m. counter_refused (world_of one) m c.requires.may.taken_up ∙ ap (option_map refused.InUse) c.in-Err.ensures.in_use));
      formed = rw c.in-Err.ensures.left (λ form formed. formed);
      stops = stops_by (stop.Refused (refused.InUse c.in-Err.field-0.at)) c.refused.result c.refused.ensures tt;
      alone = refl;
    }
