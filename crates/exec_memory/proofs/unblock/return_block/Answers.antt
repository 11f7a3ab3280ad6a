use Rattle.std.proofs.Common.{[], refl, sym, ap, ◌∙◌}
use Rattle.std.specs.Option.{unwrap_or}
use Rattle.exec_words.specs.Texts.{done_text}
use Rattle.exec_words.specs.declared.line.Line.TheVariants as line
use Rattle.exec_words.specs.declared.reply.Refusal.TheVariants as refused
use Rattle.exec_session.specs.Meant.{kept}
use Rattle.exec_session.specs.declared.stop.Stop.TheVariants as stop
use Rattle.exec_session.proofs.Stopping.{error_is}
use Rattle.session_model.specs.Keeping.{world_of}
use Rattle.session_model.specs.Effects.{says}
use Rattle.session_model.specs.Refusals.{when_missing}
use Rattle.session_model.specs.Worlds.{world_with_zone}
use Rattle.exec_memory.proofs.Lines.{unblock_plain, unblock_refused}
use Rattle.exec_memory.proofs.LinesAlone.{formed_with, line_done, line_refused, line_wants, stops_by}
use Rattle.exec_memory.proofs.Worlds.{level_after, zone_now}
use Rattle.exec_memory.proofs.unblock.return_block.Goals as goal

pub returns-in_err-done_text-in-Ok : goal.returns-in_err-done_text-in-Ok
returns-in_err-done_text-in-Ok c =
    let one = kept c.args.session.now in
    let two = c.free_in.new.world in
    let gives = c.in-Ok.ensures.given in
    let e = error_is c.from_residual.result c.from_residual.ensures.1 in
    record {
      turns = line_wants (line.Unblock c.args.at) one one.moment two.level two.memory c.from_residual.result e (unblock_plain c.args.at) c.requires.may.taken_up;
      formed = formed_with one one.moment two.level two.memory (level_after one two.level two.memory gives.blocks c.requires.may.memory c.in-Ok.ensures.level gives.now);
      stops = stops_by stop.Memory c.from_residual.result e tt;
      alone = refl;
    }

pub returns-in_ok-done_text-in-Ok : goal.returns-in_ok-done_text-in-Ok
returns-in_ok-done_text-in-Ok c =
    let one = kept c.args.session.now in
    let w = world_of one in
    let two = c.free_in.new.world in
    let gives = c.in-Ok.ensures.given in
    record {
      turns = line_done (line.Unblock c.args.at) one one.moment two.level two.memory c.in_ok-done_text-in-Ok.field-0.items (unblock_plain c.args.at)
          (λ m. unblock_refused c.args.at w m c.requires.may.taken_up ∙ ap (λ t. when_missing t refused.NotABlock) gives.given)
          (λ m. ap (λ t. says (world_with_zone w (unwrap_or t [])) done_text) gives.given ∙ ap (λ v. says v done_text) (zone_now one two.level two.memory gives.blocks c.in-Ok.ensures.level gives.now) ∙ ap (says _) (sym c.in_ok-done_text-in-Ok.ensures));
      formed = formed_with one one.moment two.level two.memory (level_after one two.level two.memory gives.blocks c.requires.may.memory c.in-Ok.ensures.level gives.now);
      stops = tt;
      alone = refl;
    }

pub returns-in-Err : goal.returns-in-Err
returns-in-Err c =
    let one = kept c.args.session.now in
    record {
      turns = rw c.in-Err.ensures.left (line_refused (line.Unblock c.args.at) one refused.NotABlock c.refused.result c.refused.ensures
          (λ m. unblock_refused c.args.at (world_of one) m c.requires.may.taken_up ∙ ap (λ t. when_missing t refused.NotABlock) c.in-Err.ensures.no_block));
      formed = rw c.in-Err.ensures.left (λ form formed. formed);
      stops = stops_by (stop.Refused refused.NotABlock) c.refused.result c.refused.ensures tt;
      alone = refl;
    }
