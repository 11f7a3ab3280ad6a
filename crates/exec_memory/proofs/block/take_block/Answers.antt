use Rattle.std.proofs.Common.{Err, refl, sym, ap, ◌∙◌}
use Rattle.exec_words.specs.Texts.{at_text}
use Rattle.exec_words.specs.declared.line.Line.TheVariants as line
use Rattle.exec_words.specs.declared.reply.Refusal.TheVariants as refused
use Rattle.exec_session.specs.Meant.{kept}
use Rattle.exec_session.specs.declared.stop.Stop.TheVariants as stop
use Rattle.exec_session.proofs.Stopping.{error_is}
use Rattle.session_model.specs.Keeping.{world_of}
use Rattle.session_model.specs.Effects.{block_effect, says}
use Rattle.session_model.specs.Refusals.{when_missing}
use Rattle.session_model.specs.world_model.specs.Levels.{level_base}
use Rattle.session_model.specs.world_model.specs.Zones.{largest_gap}
use Rattle.exec_memory.proofs.Lines.{block_plain, block_refused, some_words}
use Rattle.exec_memory.proofs.LinesAlone.{formed_with, line_done, line_refused, line_wants, stops_by}
use Rattle.exec_memory.proofs.Worlds.{level_after, no_room_is, zone_now}
use Rattle.exec_memory.proofs.block.take_block.Goals as goal

pub allocate_in-requires : goal.allocate_in-requires
allocate_in-requires c = record { at = c.requires.may.memory; some = some_words c.args.words (world_of (kept c.args.session.now)) c.requires.may.taken_up }

pub returns-in_err-at_text-in-Ok : goal.returns-in_err-at_text-in-Ok
returns-in_err-at_text-in-Ok c =
    let one = kept c.args.session.now in
    let two = c.allocate_in.new.world in
    let takes = c.in-Ok.ensures.taken in
    let e = error_is c.from_residual.result c.from_residual.ensures.1 in
    record {
      turns = line_wants (line.Block c.args.words) one one.moment two.level two.memory c.from_residual.result e (block_plain c.args.words) c.requires.may.taken_up;
      formed = formed_with one one.moment two.level two.memory (level_after one two.level two.memory takes.blocks c.requires.may.memory c.in-Ok.ensures.level takes.now);
      stops = stops_by stop.Memory c.from_residual.result e tt;
      alone = refl;
    }

pub returns-in_ok-at_text-in-Ok : goal.returns-in_ok-at_text-in-Ok
returns-in_ok-at_text-in-Ok c =
    let one = kept c.args.session.now in
    let w = world_of one in
    let two = c.allocate_in.new.world in
    let takes = c.in-Ok.ensures.taken in
    record {
      turns = line_done (line.Block c.args.words) one one.moment two.level two.memory c.in_ok-at_text-in-Ok.field-0.items (block_plain c.args.words)
          (λ m. block_refused c.args.words w m c.requires.may.taken_up ∙ ap (λ t. when_missing t (refused.NoRoom (largest_gap w.zone))) takes.taken_is)
          (λ m. ap (block_effect w) takes.taken_is ∙ ap (λ v. says v (at_text c.in-Ok.at)) (zone_now one two.level two.memory takes.blocks c.in-Ok.ensures.level takes.now) ∙ ap (says _) (sym (c.in_ok-at_text-in-Ok.ensures ∙ ap at_text c.from.ensures)));
      formed = formed_with one one.moment two.level two.memory (level_after one two.level two.memory takes.blocks c.requires.may.memory c.in-Ok.ensures.level takes.now);
      stops = tt;
      alone = refl;
    }

pub returns-in-Err : goal.returns-in-Err
returns-in-Err c =
    let one = kept c.args.session.now in
    let w = world_of one in
    let none = no_room_is (level_base one.level) c.args.words one.memory c.in-Err.error c.in-Err.ensures.no_room in
    let e = c.refused.ensures ∙ ap (λ r. Err (stop.Refused r)) (c.no_room.ensures ∙ none.0) in
    record {
      turns = rw c.in-Err.ensures.left (line_refused (line.Block c.args.words) one (refused.NoRoom (largest_gap w.zone)) c.refused.result e
          (λ m. block_refused c.args.words w m c.requires.may.taken_up ∙ ap (λ t. when_missing t (refused.NoRoom (largest_gap w.zone))) none.1));
      formed = rw c.in-Err.ensures.left (λ form formed. formed);
      stops = stops_by (stop.Refused (refused.NoRoom (largest_gap w.zone))) c.refused.result e tt;
      alone = refl;
    }
