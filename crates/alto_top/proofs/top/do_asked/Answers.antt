use Rattle.std.proofs.Common.{inl, inr, map, string_bytes, subst}
use Rattle.disk_records.specs.Addresses.{disks_of}
use Rattle.alto_top.proofs.Asking.{done_of_two, format_is_no_boot, format_is_no_prepare, format_is_no_scavenge, format_is_no_show, format_of_one_number, prepare_can, prepare_is_no_scavenge, prepare_is_no_show, prepare_needs_none, usage_of_one}
use Rattle.alto_top.specs.Formats.{FormatsPack}
use Rattle.alto_top.specs.Top.{AnswersPrepare, AnswersUsage, AsksFormat, AsksPrepare}
use Rattle.alto_top.proofs.Framing.{scavenge_usable, show_usable, usage_usable}
use Rattle.alto_top.proofs.top.do_asked.Goals as goal

pub returns-in-Format-clause-does : goal.returns-in-Format-clause-does
returns-in-Format-clause-does g c = λ told.
    let words = map string_bytes c.args.words.now in
    let asks : AsksFormat words c.in-Format.number = c.in-Format.ensures in
    record {
      boot = λ boot. absurd (format_is_no_boot words c.in-Format.number asks boot);
      show = λ show. absurd (format_is_no_show words c.in-Format.number asks show);
      scavenge = λ scavenge. absurd (format_is_no_scavenge words c.in-Format.number asks scavenge);
      format = λ n other. subst (λ k. FormatsPack k c.args.moment (g.M.Tape.tape c.args.machine.now) (g.M.Tape.tape c.format_pack.new.machine) c.format_pack.result) (format_of_one_number words c.in-Format.number asks n other) (c.format_pack.ensures.formats told);
      prepare = λ n prepare. absurd (format_is_no_prepare words c.in-Format.number asks n prepare);
      others = λ usage. absurd (usage.no_format c.in-Format.number asks);
    }

pub returns-in-Nothing-clause-does : goal.returns-in-Nothing-clause-does
returns-in-Nothing-clause-does g c = λ told. record {
  boot = λ asks. absurd (c.in-Nothing.ensures.no_boot asks);
  show = λ asks. absurd (c.in-Nothing.ensures.no_show asks);
  scavenge = λ asks. absurd (c.in-Nothing.ensures.no_scavenge asks);
  format = λ n asks. absurd (c.in-Nothing.ensures.no_format n asks);
  prepare = λ n asks. absurd (c.in-Nothing.ensures.no_prepare n asks);
  others = λ asks. c.show_usage.ensures.shown told;
}

pub returns-in-Nothing-clause-answers : goal.returns-in-Nothing-clause-answers
returns-in-Nothing-clause-answers g c = record {
  usage = λ is. inl c.in-Nothing.ensures;
  done = λ is. absurd (subst AnswersUsage is c.show_usage.ensures.answer);
  needs = λ is. absurd (subst AnswersUsage is c.show_usage.ensures.answer);
  cannot = λ is. absurd (subst AnswersUsage is c.show_usage.ensures.answer);
  show = λ asks. absurd (c.in-Nothing.ensures.no_show asks);
  scavenge = λ asks. absurd (c.in-Nothing.ensures.no_scavenge asks);
  format = λ n asks. absurd (c.in-Nothing.ensures.no_format n asks);
  prepare = λ n asks. absurd (c.in-Nothing.ensures.no_prepare n asks);
  others = λ asks. c.show_usage.ensures.answer;
}

pub returns-in-Prepare-clause-answers : goal.returns-in-Prepare-clause-answers
returns-in-Prepare-clause-answers g c =
    let words = map string_bytes c.args.words.now in
    let asks : AsksPrepare words c.in-Prepare.number = c.in-Prepare.ensures in
    let disks = disks_of (g.M.Tape.tape c.args.machine.now).form in
    record {
      usage = λ is. inr ((c.in-Prepare.number, asks), usage_of_one disks (subst (AnswersPrepare disks) is c.prepare_or_usage.ensures.answers));
      done = λ is. inr (inr (inr (inr ((c.in-Prepare.number, asks), done_of_two disks (subst (AnswersPrepare disks) is c.prepare_or_usage.ensures.answers)))));
      needs = λ is. absurd (prepare_needs_none disks (subst (AnswersPrepare disks) is c.prepare_or_usage.ensures.answers));
      cannot = λ is. absurd (prepare_can disks (subst (AnswersPrepare disks) is c.prepare_or_usage.ensures.answers));
      show = λ show. absurd (prepare_is_no_show words c.in-Prepare.number asks show);
      scavenge = λ scavenge. absurd (prepare_is_no_scavenge words c.in-Prepare.number asks scavenge);
      format = λ n format. absurd (format_is_no_prepare words n format c.in-Prepare.number asks);
      prepare = λ n other. c.prepare_or_usage.ensures.answers;
      others = λ usage. absurd (usage.no_prepare c.in-Prepare.number asks);
    }

-- ---- where it writes
pub returns-in-Boot-clause-frame : goal.returns-in-Boot-clause-frame
returns-in-Boot-clause-frame g c = λ no_header. c.boot_uncounted.ensures.frame

pub returns-in-Show-clause-frame : goal.returns-in-Show-clause-frame
returns-in-Show-clause-frame g c = λ no_header. show_usable c.show_pack.ensures.shown

pub returns-in-Scavenge-clause-frame : goal.returns-in-Scavenge-clause-frame
returns-in-Scavenge-clause-frame g c = λ no_header. scavenge_usable c.scavenge_pack.ensures.scavenges

pub returns-in-Format-clause-frame : goal.returns-in-Format-clause-frame
returns-in-Format-clause-frame g c = λ no_header. absurd (no_header.no_format c.in-Format.number c.in-Format.ensures)

pub returns-in-Prepare-clause-frame : goal.returns-in-Prepare-clause-frame
returns-in-Prepare-clause-frame g c = λ no_header. absurd (no_header.no_prepare c.in-Prepare.number c.in-Prepare.ensures)

pub returns-in-Nothing-clause-frame : goal.returns-in-Nothing-clause-frame
returns-in-Nothing-clause-frame g c = λ no_header. usage_usable c.show_usage.ensures.shown
