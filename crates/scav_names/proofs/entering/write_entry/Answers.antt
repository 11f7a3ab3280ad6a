use Rattle.std.proofs.Common.{◌≡◌, ◌≤◌, false, true, length, refl, sym, subst, ◌∙◌, rules}
use Rattle.alto_words.specs.Fid.{is_full_name}
use Rattle.std.proofs.lemmas.List.Elements.{All-head}
use Rattle.disk_records.specs.Tapes.{pack}
use Rattle.disk_records.proofs.Growing.{alone_here, alone_twice}
use Rattle.disk_records.proofs.Framing.{usable_here, usable_twice}
use Rattle.scav_pages.specs.declared.errors.Stop.TheVariants.{Memory}
use Rattle.scav_pages.proofs.Causing.{cause_of_part, cause_sooner}
use Rattle.scav_names.specs.Roots.{AreEntryWords, EntryWritten, IsLed}
use Rattle.scav_names.proofs.FillRoom.{entry_if, led_is_full, room_enough}
use Rattle.scav_names.proofs.Going.{does_last, does_part, does_stop, so_far_does, so_far_here}
use Rattle.scav_names.proofs.entering.write_entry.Goals as goal

pub returns-then-not-is_full_name-clause-does : goal.returns-then-not-is_full_name-clause-does
returns-then-not-is_full_name-clause-does g c = λ told todo may.
    let a = g.D.Tape.tape c.args.disk.now in
    let file = c.args.file.now in
    let yes : is_full_name file.fid ≡ true = led_is_full (pack a) file.fid file.leader_at (All-head (IsLed (pack a)) file todo may.may.led) in
    let no : is_full_name file.fid ≡ false = search rules in
    absurd (let wrong : true ≡ false = sym yes ∙ no in cc)

pub returns-in_err-make_one-clause-does : goal.returns-in_err-make_one-clause-does
returns-in_err-make_one-clause-does g c = λ told todo may.
    does_part c.in_err-make_one.field-0.0 c.from_residual-in_err-make_one.result (so_far_here (g.D.Tape.tape c.args.disk.now)) c.in_err-make_one.ensures.alone.grown (c.in_err-make_one.ensures.does told c.args.file.now todo may) c.from_residual-in_err-make_one.ensures.1

pub returns-clause-alone : goal.returns-clause-alone
returns-clause-alone g c = alone_twice c.in_ok-make_one.ensures.alone c.put_entry.ensures.alone

pub returns-clause-frame : goal.returns-clause-frame
returns-clause-frame g c = usable_twice c.in_ok-make_one.ensures.alone c.put_entry.ensures.alone c.in_ok-make_one.ensures.frame c.put_entry.ensures.frame

pub returns-clause-does : goal.returns-clause-does
returns-clause-does g c = λ told todo may.
    let a = g.D.Tape.tape c.args.disk.now in
    let root = c.args.root.now in
    let file = c.args.file.now in
    let room = c.args.room.now in
    let words = c.in_ok-words.ensures in
    let one = c.in_ok-make_one.ensures.does told file todo may in
    let enough = room_enough one.leaves.may in
    let full : is_full_name file.fid ≡ true = search rules in
    let same = c.as_slice.ensures in
    let are : AreEntryWords file room c.as_slice.result.now = record {
      words_are = same ∙ words.words;
      some = subst (λ l. 1 ≤ length l) (sym same) words.some;
      most = subst (λ l. length l ≤ room.total) (sym same) (words.fits enough);
      full_name = full;
      stored = c.name_is_stored.ensures;
    } in
    does_last {Part = EntryWritten root file todo room} {Leaves = EntryWritten root file todo room} c.put_entry.result (so_far_does (so_far_here a) c.in_ok-make_one.ensures.alone.grown one) c.put_entry.ensures.alone.grown
    (c.put_entry.ensures.does told file todo room one.leaves.may are refl) (entry_if (pack (g.D.Tape.tape c.put_entry.new.disk)) c.put_entry.result one.leaves)

pub returns-in_err-words-clause-cause : goal.returns-in_err-words-clause-cause
returns-in_err-words-clause-cause g c = cause_of_part Memory c.from_residual.result (alone_here (g.D.Tape.tape c.args.disk.now)) refl (alone_here _) refl c.from_residual.ensures.1

pub returns-in_err-make_one-clause-cause : goal.returns-in_err-make_one-clause-cause
returns-in_err-make_one-clause-cause g c = cause_of_part c.in_err-make_one.field-0.0 c.from_residual-in_err-make_one.result (alone_here _) refl c.in_err-make_one.ensures.alone c.in_err-make_one.ensures.cause c.from_residual-in_err-make_one.ensures.1

pub returns-clause-cause : goal.returns-clause-cause
returns-clause-cause g c = cause_sooner (g.D.Tape.tape c.args.disk.now) (g.D.Tape.tape c.make_one.new.disk) (g.D.Tape.tape c.put_entry.new.disk) c.put_entry.result c.in_ok-make_one.ensures.cause c.put_entry.ensures.cause

pub returns-then-not-is_full_name-clause-cause : goal.returns-then-not-is_full_name-clause-cause
returns-then-not-is_full_name-clause-cause g c = refl

pub returns-then-not-is_full_name-clause-alone : goal.returns-then-not-is_full_name-clause-alone
returns-then-not-is_full_name-clause-alone g c = alone_here _

pub returns-then-not-is_full_name-clause-frame : goal.returns-then-not-is_full_name-clause-frame
returns-then-not-is_full_name-clause-frame g c = usable_here (g.D.Tape.tape c.args.disk.now)

pub returns-in_err-words-clause-does : goal.returns-in_err-words-clause-does
returns-in_err-words-clause-does g c = λ told todo may. does_stop Memory c.from_residual.result (so_far_here (g.D.Tape.tape c.args.disk.now)) (λ astray. cc) c.from_residual.ensures.1

pub returns-in_err-words-clause-alone : goal.returns-in_err-words-clause-alone
returns-in_err-words-clause-alone g c = alone_here _

pub returns-in_err-words-clause-frame : goal.returns-in_err-words-clause-frame
returns-in_err-words-clause-frame g c = usable_here (g.D.Tape.tape c.args.disk.now)

pub returns-in_err-make_one-clause-alone : goal.returns-in_err-make_one-clause-alone
returns-in_err-make_one-clause-alone g c = c.in_err-make_one.ensures.alone

pub returns-in_err-make_one-clause-frame : goal.returns-in_err-make_one-clause-frame
returns-in_err-make_one-clause-frame g c = c.in_err-make_one.ensures.frame

pub put_entry-requires : goal.put_entry-requires
put_entry-requires g c = record { most = subst (λ l. length l ≤ 27) (sym c.as_slice.ensures) c.in_ok-words.ensures.most }
