use Rattle.std.proofs.Common.{◌≡◌, IfErr, ap, refl, subst, sym}
use Rattle.exec_words.specs.declared.line.Line.TheVariants as line
use Rattle.exec_session.specs.Meant.{kept}
use Rattle.exec_session.specs.declared.stop.Stop.TheVariants as stop
use Rattle.exec_session.proofs.Stopping.{error_is}
use Rattle.session_model.specs.Keeping.{world_of}
use Rattle.session_model.specs.Effects.{says}
use Rattle.exec_memory.proofs.Lines.{time_plain, time_refused}
use Rattle.exec_memory.proofs.LinesAlone.{formed_with, line_done, line_wants, stops_by}
use Rattle.exec_memory.proofs.moment.set_time.Goals as goal

pub returns-in_err-text-clause-turns : goal.returns-in_err-text-clause-turns
returns-in_err-text-clause-turns c =
    let one = kept c.args.session.now in
    line_wants (line.SetTime c.args.moment) one one.moment one.level one.memory c.from_residual.result (error_is c.from_residual.result c.from_residual.ensures.1) (time_plain c.args.moment) c.requires.may.taken_up

pub returns-in_err-text-clause-formed : goal.returns-in_err-text-clause-formed
returns-in_err-text-clause-formed c = λ form formed. formed

pub returns-in_err-text-clause-stops : goal.returns-in_err-text-clause-stops
returns-in_err-text-clause-stops c = stops_by stop.Memory c.from_residual.result (error_is c.from_residual.result c.from_residual.ensures.1) tt

pub returns-in_err-text-clause-memory : goal.returns-in_err-text-clause-memory
returns-in_err-text-clause-memory c = subst (λ r. IfErr r (λ error. error ≡ stop.Memory)) (sym (error_is c.from_residual.result c.from_residual.ensures.1)) refl

pub returns : goal.returns
returns c =
    let one = kept c.args.session.now in
    record {
      turns = line_done (line.SetTime c.args.moment) one c.args.moment one.level one.memory c.in_ok-text.text.items (time_plain c.args.moment)
          (λ m. time_refused c.args.moment (world_of one) m c.requires.may.taken_up)
          (λ m. ap (says _) (sym c.in_ok-text.ensures));
      formed = formed_with one c.args.moment one.level one.memory c.requires.may.memory;
      stops = tt;
      memory = tt;
      left = tt;
      alone = refl;
    }
