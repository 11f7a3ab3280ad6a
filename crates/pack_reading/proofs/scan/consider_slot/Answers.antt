use Rattle.std.proofs.Common.{[], ◌∷◌, sym, subst}
use Rattle.std.specs.Prelude.{fold}
use Rattle.dir_slots.specs.Items.{item_of}
use Rattle.pack_model.specs.reading.Namings.{namings_in}
use Rattle.kept_names.specs.Homes.{StandsFor, considered}
use Rattle.pack_reading.specs.Kept.{lives_kept}
use Rattle.pack_reading.proofs.scan.consider_slot.Goals as goal

pub returns-in_ok-consider-in-Entry : goal.returns-in_ok-consider-in-Entry
returns-in_ok-consider-in-Entry c = λ homes stands.
    let alive = lives_kept c.args.leaders.now in
    subst (λ s. StandsFor c.consider.new.names (fold (considered alive) homes (namings_in c.args.directory (item_of s ∷ []))))
    (sym c.in-Entry.is) (c.in_ok-consider-in-Entry.ensures.names alive homes c.has.ensures stands)
