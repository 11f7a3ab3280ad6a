use Rattle.std.proofs.Common.{◌≡◌, ℕ, Bool, true, false, List, Option, Some, None, sym, ap, subst, ◌∙◌, arith, refl}
use Rattle.std.specs.Prelude.{not}
use Rattle.std.specs.Option.{is_some}
use Rattle.disk_records.specs.Commands.{value_writes}
use Rattle.disk_records.specs.Packs.{after}
use Rattle.disk_records.specs.Tapes.{pack}
use Rattle.disk_records.proofs.Growing.{alone_here}
use Rattle.label_check.proofs.Framing.{usable_value}
use Rattle.leader_page.specs.declared.leader.Leader.{Leader}
use Rattle.leader_page.specs.Laws.{SaysTitled}
use Rattle.leader_page.specs.Pages.{IsDecoded}
use Rattle.pack_model.specs.reading.Leaders.{is_readable, leader_words}
use Rattle.scav_pages.specs.Fresh.{own_name}
use Rattle.scav_pages.proofs.Causing.{cause_of_guarded}
use Rattle.scav_pages.proofs.Doing.{does_ok, does_stop_two, going_done, going_here, pack_done}
use Rattle.scav_pages.proofs.Keeping.{Mends}
use Rattle.scav_pages.proofs.Naming.{name_mends, name_written, named_already, named_page}
use Rattle.scav_pages.proofs.links.name_page.Goals as goal

unread : (value : List ℕ) (r : Option Leader) (none : Bool) → IsDecoded value r → is_some r ≡ not none → none ≡ true → is_readable (leader_words value) ≡ false
unread value None none d is e = d
unread value (Some x) none d is e = (let wrong : true ≡ false = is ∙ ap not e in cc)

read : (value : List ℕ) (r : Option Leader) (none : Bool) → IsDecoded value r → is_some r ≡ not none → none ≡ false → is_readable (leader_words value) ≡ true
read value None none d is e = (let wrong : false ≡ true = is ∙ ap not e in cc)
read value (Some x) none d is e = d.readable

pub returns-in_err-write_value-clause-does : goal.returns-in_err-write_value-clause-does
returns-in_err-write_value-clause-does g c = λ told may.
    let a = g.D.Tape.tape c.args.disk.now in
    let row = c.args.row.now in
    let value = c.args.value.now in
    let named : SaysTitled value (own_name row.page.fid) = c.title_changes_the_name.ensures value (own_name row.page.fid) may.long c.put_name.ensures.stored in
    let mends = name_mends (pack a) row value may c.requires.leader named (unread value c.decode.result c.is_none.result c.decode.ensures c.is_none.ensures c.if-is_none.true) in
    does_stop_two c.in_err-write_value.field-0.0 c.from_residual.result (going_here a) c.in_err-write_value.ensures.alone.grown may.carries
    (subst (λ v. Mends (pack a) (value_writes row.at v)) (sym c.put_name.ensures.value) mends) (omega arith) (c.in_err-write_value.ensures.guarded told) c.from_residual.ensures.1

pub returns-in_err-write_value-clause-cause : goal.returns-in_err-write_value-clause-cause
returns-in_err-write_value-clause-cause g c = cause_of_guarded c.in_err-write_value.field-0.0 c.from_residual.result (alone_here _) refl c.in_err-write_value.ensures.alone c.in_err-write_value.ensures.cause c.from_residual.ensures.1

pub returns-in_ok-write_value-clause-does : goal.returns-in_ok-write_value-clause-does
returns-in_ok-write_value-clause-does g c = λ told may.
    let a = g.D.Tape.tape c.args.disk.now in
    let row = c.args.row.now in
    let value = c.args.value.now in
    let named : SaysTitled value (own_name row.page.fid) = c.title_changes_the_name.ensures value (own_name row.page.fid) may.long c.put_name.ensures.stored in
    let mends = name_mends (pack a) row value may c.requires.leader named (unread value c.decode.result c.is_none.result c.decode.ensures c.is_none.ensures c.if-is_none.true) in
    let grown = c.in_ok-write_value.ensures.alone.grown in
    let done = (c.in_ok-write_value.ensures.guarded told).ok in
    does_ok tt (going_done (going_here a) grown (subst (λ v. Mends (pack a) (value_writes row.at v)) (sym c.put_name.ensures.value) mends) done)
    (named_page (pack a) row value may c.requires.leader named (pack (g.D.Tape.tape c.write_value.new.disk)) (pack_done grown done ∙ ap (λ v. after (pack a) (value_writes row.at v)) c.put_name.ensures.value))

pub returns-in_ok-write_value-clause-wrote : goal.returns-in_ok-write_value-clause-wrote
returns-in_ok-write_value-clause-wrote g c = λ told was.
    name_written (pack (g.D.Tape.tape c.args.disk.now)) c.args.row.now.at c.args.row.now.page c.put_name.new.value was (pack (g.D.Tape.tape c.write_value.new.disk))
    (pack_done c.in_ok-write_value.ensures.alone.grown (c.in_ok-write_value.ensures.guarded told).ok)

pub returns-else-is_none-clause-does : goal.returns-else-is_none-clause-does
returns-else-is_none-clause-does g c = λ told may.
    let a = g.D.Tape.tape c.args.disk.now in
    does_ok tt (going_here a) (named_already (pack a) c.args.row.now c.args.value.now may (read c.args.value.now c.decode.result c.is_none.result c.decode.ensures c.is_none.ensures c.if-is_none.false))

pub returns-in_err-write_value-clause-frame : goal.returns-in_err-write_value-clause-frame
returns-in_err-write_value-clause-frame g c = usable_value c.in_err-write_value.ensures.guarded

pub returns-in_ok-write_value-clause-frame : goal.returns-in_ok-write_value-clause-frame
returns-in_ok-write_value-clause-frame g c = usable_value c.in_ok-write_value.ensures.guarded
