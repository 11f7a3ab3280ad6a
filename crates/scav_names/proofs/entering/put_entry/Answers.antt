use Rattle.std.proofs.Common.{◌≡◌, ◌+◌, ◌/◌, ◌<◌, ◌≤◌, ◌++◌, get_or, length, sym, ap, subst, ◌∙◌, arith, refl}
use Rattle.std.proofs.lemmas.List.{length-append, take-append-drop}
use Rattle.disk_records.specs.Packs.{Pack}
use Rattle.disk_records.specs.Tapes.{pack}
use Rattle.disk_records.proofs.Growing.{alone_here, alone_twice}
use Rattle.disk_records.proofs.Framing.{usable_twice}
use Rattle.pack_model.specs.operations.PageWords.{in_page}
use Rattle.scav_pages.proofs.Causing.{cause_of_part, cause_sooner}
use Rattle.scav_names.specs.Roots.{EntryWritten, IsLater}
use Rattle.scav_names.specs.Words.{WritesPageWords, page_writes}
use Rattle.scav_names.proofs.FillRoom.{entry_written, first_keeps, first_known}
use Rattle.scav_names.proofs.Going.{does_last, does_part, so_far_does, so_far_here}
use Rattle.scav_names.proofs.WordRuns.{does_writes, page_changes}
use Rattle.scav_names.proofs.entering.put_entry.Goals as goal

pub returns-in_err-put_later-clause-does : goal.returns-in_err-put_later-clause-does
returns-in_err-put_later-clause-does g c = λ told next todo room may are at.
    let first = c.split_at.result.0.now in
    let later = c.split_at.result.1.now in
    let split : c.args.words.now ≡ first ++ later = sym (take-append-drop c.min-near.result c.args.words.now) ∙ (λ i. sym c.split_at.ensures.front i ++ sym c.split_at.ensures.back i) in
    let size = ap length split ∙ length-append first later in
    let long = c.split_at.ensures.front_len in
    let near = c.min-near.ensures in
    let some = are.some in
    let most = are.most in
    let is : IsLater room c.args.place c.min-near.result later = record { place_is = at; some = omega (arith, near, some); fits = omega (arith, size, long, most, near) } in
    does_part c.in_err-put_later.field-0.0 c.from_residual.result (so_far_here (g.D.Tape.tape c.args.disk.now)) c.in_err-put_later.ensures.alone.grown (c.in_err-put_later.ensures.does told next todo room may is) c.from_residual.ensures.1

pub returns-clause-alone : goal.returns-clause-alone
returns-clause-alone g c = alone_twice c.in_ok-put_later.ensures.alone c.put_in_root.ensures.alone

pub returns-clause-frame : goal.returns-clause-frame
returns-clause-frame g c = usable_twice c.in_ok-put_later.ensures.alone c.put_in_root.ensures.alone c.in_ok-put_later.ensures.frame c.put_in_root.ensures.frame

pub returns-clause-does : goal.returns-clause-does
returns-clause-does g c = λ told next todo room may are at.
    let a = g.D.Tape.tape c.args.disk.now in
    let b = g.D.Tape.tape c.put_later.new.disk in
    let d = g.D.Tape.tape c.put_in_root.new.disk in
    let root = c.args.root.now in
    let first = c.split_at.result.0.now in
    let later = c.split_at.result.1.now in
    let n = c.min-near.result in
    let split : c.args.words.now ≡ first ++ later = sym (take-append-drop n c.args.words.now) ∙ (λ i. sym c.split_at.ensures.front i ++ sym c.split_at.ensures.back i) in
    let size = ap length split ∙ length-append first later in
    let long : length first ≡ n = omega (arith, c.split_at.ensures.front_len, c.min-near.ensures) in
    let near = c.min-near.ensures in
    let some = are.some in
    let most = are.most in
    let is : IsLater room c.args.place n later = record { place_is = at; some = omega (arith, near, some); fits = omega (arith, size, long, most, near) } in
    let wrote = c.in_ok-put_later.ensures.does told next todo room may is in
    let one : in_page room.place + n ≤ 256 = subst (λ k. in_page k + n ≤ 256) at (omega (arith, near)) in
    let known = first_known n first later c.args.words.now are split long wrote.leaves (omega (arith, near, some)) one in
    let puts : WritesPageWords (page_writes (pack b) (get_or root.pages (room.place / 256) 0) (in_page room.place) first) b d c.put_in_root.result =
    subst (λ w. WritesPageWords (page_writes (pack b) (get_or root.pages (w / 256) 0) (in_page w) first) b d c.put_in_root.result) at (c.put_in_root.ensures.writes told wrote.leaves.may.known.pages (subst (λ w. w / 256 < length root.pages) (sym at) known)) in
    does_last {Part = λ (p : Pack) (r : Pack). EntryWritten root next todo room (pack a) r} {Leaves = EntryWritten root next todo room} c.put_in_root.result (so_far_does (so_far_here a) c.in_ok-put_later.ensures.alone.grown wrote) c.put_in_root.ensures.alone.grown
    (does_writes {Leaves = λ (p : Pack) (r : Pack). EntryWritten root next todo room (pack a) r} c.put_in_root.result c.put_in_root.ensures.alone.grown puts
    (first_keeps n first later c.args.words.now are split long wrote.leaves (omega (arith, near, some)) one)
    (page_changes (pack b) (get_or root.pages (room.place / 256) 0) (in_page room.place) first)
    (entry_written n first later c.args.words.now are split long wrote.leaves (omega (arith, near, some)) one))
    (λ ok. ok)

pub returns-in_err-put_later-clause-cause : goal.returns-in_err-put_later-clause-cause
returns-in_err-put_later-clause-cause g c = cause_of_part c.in_err-put_later.field-0.0 c.from_residual.result (alone_here _) refl c.in_err-put_later.ensures.alone c.in_err-put_later.ensures.cause c.from_residual.ensures.1

pub returns-clause-cause : goal.returns-clause-cause
returns-clause-cause g c = cause_sooner (g.D.Tape.tape c.args.disk.now) (g.D.Tape.tape c.put_later.new.disk) (g.D.Tape.tape c.put_in_root.new.disk) c.put_in_root.result c.in_ok-put_later.ensures.cause c.put_in_root.ensures.cause
