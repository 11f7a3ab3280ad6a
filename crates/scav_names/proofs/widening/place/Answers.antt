use Rattle.std.proofs.Common.{sym}
use Rattle.scav_names.proofs.Placing.{is_placed, not_placed, page_has_room}
use Rattle.scav_names.proofs.widening.place.Goals as goal

pub fill-requires-clause-fits : goal.fill-requires-clause-fits
fill-requires-clause-fits c = c.in-Some.ensures.fits

pub returns-in-Some : goal.returns-in-Some
returns-in-Some c = λ is fid name has few size.
    let first = c.in-Some.ensures.room is has in
    let found = is_placed _ is c.args.words first.found size first.first in
    record { widens = sym found; finds = found; rooms_are = c.in_ok-fill.ensures is has first fid name size }

pub returns-in_default-find : goal.returns-in_default-find
returns-in_default-find c = λ is fid name has few size.
    let wide = c.in_ok-widen.ensures is has few in
    absurd (page_has_room c.args.words is c.requires.least c.requires.most has.sizes (c.in_default-find.ensures.room _ wide))

pub returns : goal.returns
returns c = λ is fid name has few size.
    let wide = c.in_ok-widen.ensures is has few in
    let first = c.in-Some-find.ensures.room _ wide in
    record {
      widens = sym (not_placed _ is c.args.words size (c.in_default.ensures.room is has));
      finds = is_placed _ _ c.args.words first.found size first.first;
      rooms_are = c.in_ok-fill-2.ensures _ wide first fid name size;
    }
