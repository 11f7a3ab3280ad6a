use Rattle.std.proofs.Common.{◌≡◌, ℕ, ◌+◌, ◌/◌, ◌<◌, ◌≤◌, List, [], ◌∷◌, get_or, length, refl, ap, subst, ◌∙◌, arith, rules}
use Rattle.disk_records.specs.Tapes.{pack}
use Rattle.disk_records.proofs.Growing.{alone_here}
use Rattle.disk_records.proofs.Framing.{usable_here}
use Rattle.pack_model.specs.operations.PageWords.{in_page}
use Rattle.scav_names.specs.Roots.{IsLater, LaterWritten}
use Rattle.scav_names.specs.Words.{WritesPageWords, page_writes}
use Rattle.scav_names.proofs.FillRoom.{later_keeps, later_written, none_later, place_few, room_within}
use Rattle.scav_names.proofs.Going.{does_ok, so_far_here}
use Rattle.scav_names.proofs.OneRoom.{word_known}
use Rattle.scav_names.proofs.WordRuns.{does_writes, page_changes}
use Rattle.scav_names.proofs.entering.put_later.Goals as goal

empty_is : (l : List ℕ) → length l ≡ 0 → l ≡ []
empty_is [] e = refl
empty_is (x ∷ l) e = absurd (omega (arith, e))

pub returns-then-is_empty-clause-does : goal.returns-then-is_empty-clause-does
returns-then-is_empty-clause-does g c = λ told next todo room may is.
    let zero : length c.args.later.now ≡ 0 = search rules in
    let none = empty_is c.args.later.now zero in
    does_ok tt (so_far_here (g.D.Tape.tape c.args.disk.now)) (none_later may c.args.near c.args.later.now (record { place_is = refl; some = is.some; fits = is.fits }) none)

pub returns-in_default-clause-does : goal.returns-in_default-clause-does
returns-in_default-clause-does g c = λ told next todo room may is.
    let within = room_within may in
    let fits = is.fits in
    let at = is.place_is in
    let few = place_few may (c.args.place + c.args.near) (omega (arith, within, fits, at)) in
    let no = c.in_default.ensures in
    absurd (omega (arith, few, no))

pub returns-clause-does : goal.returns-clause-does
returns-clause-does g c = λ told next todo room may is.
    let a = g.D.Tape.tape c.args.disk.now in
    let b = g.D.Tape.tape c.put_in_root.new.disk in
    let later = c.args.later.now in
    let near = c.args.near in
    let pages = c.args.root.now.pages in
    let within = room_within may in
    let fits = is.fits in
    let e : c.in-Some.next ≡ room.place + near = c.in-Some.ensures.1 ∙ ap (λ k. k + near) is.place_is in
    let some : 0 < length later = (let t : (length later ≡ 0 → ⊥) = λ zero. search rules in omega (arith, t)) in
    let one : in_page (room.place + near) + length later ≤ 256 = subst (λ k. in_page (k + near) + length later ≤ 256) is.place_is c.requires.fits in
    let known : c.in-Some.next / 256 < length pages = word_known c.in-Some.next may.known (omega (arith, within, fits, e)) in
    let wrote : WritesPageWords (page_writes (pack a) (get_or pages ((room.place + near) / 256) 0) (in_page (room.place + near)) later) a b c.put_in_root.result =
    subst (λ w. WritesPageWords (page_writes (pack a) (get_or pages (w / 256) 0) (in_page w) later) a b c.put_in_root.result) e (c.put_in_root.ensures.writes told may.known.pages known) in
    let there : IsLater room room.place near later = record { place_is = refl; some = is.some; fits = is.fits } in
    does_writes {Leaves = LaterWritten c.args.root.now next todo room near later} c.put_in_root.result c.put_in_root.ensures.alone.grown wrote (later_keeps may near later there some one) (page_changes (pack a) (get_or pages ((room.place + near) / 256) 0) (in_page (room.place + near)) later) (later_written may near later there some one)

pub returns-clause-cause : goal.returns-clause-cause
returns-clause-cause g c = c.put_in_root.ensures.cause

pub returns-then-is_empty-clause-cause : goal.returns-then-is_empty-clause-cause
returns-then-is_empty-clause-cause g c = refl

pub returns-then-is_empty-clause-alone : goal.returns-then-is_empty-clause-alone
returns-then-is_empty-clause-alone g c = alone_here _

pub returns-then-is_empty-clause-frame : goal.returns-then-is_empty-clause-frame
returns-then-is_empty-clause-frame g c = usable_here (g.D.Tape.tape c.args.disk.now)

pub returns-in_default-clause-cause : goal.returns-in_default-clause-cause
returns-in_default-clause-cause g c = refl

pub returns-in_default-clause-alone : goal.returns-in_default-clause-alone
returns-in_default-clause-alone g c = alone_here _

pub returns-in_default-clause-frame : goal.returns-in_default-clause-frame
returns-in_default-clause-frame g c = usable_here (g.D.Tape.tape c.args.disk.now)

pub returns-clause-alone : goal.returns-clause-alone
returns-clause-alone g c = c.put_in_root.ensures.alone

pub returns-clause-frame : goal.returns-clause-frame
returns-clause-frame g c = c.put_in_root.ensures.frame
