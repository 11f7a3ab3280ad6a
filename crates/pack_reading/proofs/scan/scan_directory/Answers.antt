use Rattle.std.proofs.Common.{◌≡◌, [], ◌∷◌, Some, None, sym, ap, ◌∙◌}
use Rattle.std.proofs.lemmas.List.{take_rest}
use Rattle.std.specs.Prelude.{fold}
use Rattle.dir_slots.specs.Items.{item_of}
use Rattle.pack_model.specs.reading.Bytes.{words_of}
use Rattle.pack_model.specs.reading.Slots.{slots, slot_at}
use Rattle.pack_model.specs.reading.Namings.{namings_in}
use Rattle.pack_reading.specs.Kept.{lives_kept}
use Rattle.kept_names.specs.Homes.{considered}
use Rattle.pack_reading.specs.Scans.{namings_of}
use Rattle.pack_reading.proofs.Scanning.{directory_namings, slot_considered, none_left}
use Rattle.pack_reading.proofs.scan.scan_directory.Goals as goal

pub loop-slot-init : goal.loop-slot-init
loop-slot-init c = λ homes stands. record {
  homes = homes;
  stands = stands;
  ahead = ap (fold (considered (lives_kept c.args.leaders.now)) homes) (
      ap (λ words. namings_in c.args.file.now.fid (slots words)) (c.as_slice-rest.ensures ∙ c.in_ok-words.ensures ∙ ap words_of c.as_slice.ensures)
      ∙ sym (directory_namings c.args.file.now (sym c.is_directory.ensures ∙ c.if-not-is_directory.false))
      );
}

pub loop-slot-preserved : goal.loop-slot-preserved
loop-slot-preserved c = λ homes stands.
    let lives = lives_kept c.args.leaders.now in
    let d = c.args.file.now.fid in
    let rest = c.loop-slot.rest.now in
    let i = item_of c.in-Some.slot in
    let so_far = c.loop-slot.invariant homes stands in
    let some : slot_at rest ≡ Some i = sym c.in-Some.ensures.item in
    record {
      homes = fold (considered lives) so_far.homes (namings_in d (i ∷ []));
      stands = c.in_ok-consider_slot.ensures so_far.homes so_far.stands;
      ahead = rw (c.words-in-Some.ensures, take_rest rest)
          (slot_considered lives d rest i so_far.homes some c.in-Some.ensures.least c.in-Some.ensures.most ∙ so_far.ahead);
    }

pub returns : goal.returns
returns c = λ homes stands.
    let none : slot_at c.loop-slot.rest.now ≡ None = sym c.in_default.ensures.item in
    none_left (lives_kept c.args.leaders.now) c.args.file.now.fid c.loop-slot.names c.loop-slot.rest.now (fold (considered (lives_kept c.args.leaders.now)) homes (namings_of c.args.file.now)) none (c.loop-slot.invariant homes stands)
