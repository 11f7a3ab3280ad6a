use Rattle.std.proofs.Common.{map, string_bytes}
use Rattle.disk_records.specs.Addresses.{disks_of}
use Rattle.alto_top.proofs.Displayed.{answers_on, concludes_on, touches_on}
use Rattle.session_boot.proofs.Framing.{usable_still}
use Rattle.alto_top.proofs.top.alto.Goals as goal

pub returns-clause-does : goal.returns-clause-does
returns-clause-does g c = λ told. let same = c.after_display.ensures.told told in rw (same.0, same.1) (c.do_asked-answer.ensures.does told)

pub returns-clause-answers : goal.returns-clause-answers
returns-clause-answers g c =
    answers_on (map string_bytes c.args.words.now) (disks_of (g.M.Tape.tape c.args.machine.now).form) (g.M.Tape.tape c.do_asked-answer.new.machine) (g.M.Tape.tape c.after_display.new.console) c.do_asked-answer.result c.after_display.result
    c.do_asked-answer.ensures.answers c.after_display.ensures.cause

pub returns-clause-ends : goal.returns-clause-ends
returns-clause-ends g c =
    concludes_on _ _ _ (g.M.Tape.tape c.args.machine.now) (g.M.Tape.tape c.do_asked-answer.new.machine) (g.M.Tape.tape c.after_display.new.console) c.do_asked-answer.result c.after_display.result
    c.do_asked-answer.ensures.touches.grown c.after_display.ensures.alone c.do_asked-answer.ensures.ends c.after_display.ensures.cause c.after_display.ensures.unfailed c.after_display.ensures.handed_on c.after_display.ensures.displayed

pub returns-clause-touches : goal.returns-clause-touches
returns-clause-touches g c = touches_on (map string_bytes c.args.words.now) c.do_asked-answer.ensures.touches c.after_display.ensures.alone

pub returns-clause-frame : goal.returns-clause-frame
returns-clause-frame g c = λ no_header. usable_still c.do_asked-answer.ensures.touches.grown (λ told. (c.after_display.ensures.told told).1) (c.do_asked-answer.ensures.frame no_header)
