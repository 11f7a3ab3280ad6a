use Rattle.std.proofs.Common.{◌∙◌, ◌+◌, min, set, ap}
use Rattle.scav_names.proofs.FilledRooms.{room_filled}
use Rattle.scav_names.proofs.rooms.Rooms.fill.Goals as goal

pub returns : goal.returns
returns c = λ is has first fid name size.
    room_filled c.args.self.now c.take_out.new.self _ c.args.room.now c.args.words c.saturating_add-next.result fid name is
    (record {
      least = c.requires.least;
      most = c.requires.most;
      fits = c.requires.fits;
      out = c.take_out.ensures.free;
      next_is = c.saturating_add-next.ensures ∙ ap (λ x. min (c.args.room.now.place + x) 4294967295) c.from.ensures;
      kept = c.in_ok-keep_rest.ensures.free;
      end_is = c.in_ok-keep_rest.ensures.end ∙ c.take_out.ensures.end;
      from = ap (λ i. set c.keep_rest.new.self.from i c.args.room.now.place) c.from-2.ensures ∙ ap (λ l. set l c.args.words c.args.room.now.place) (c.in_ok-keep_rest.ensures.from ∙ c.take_out.ensures.from);
    })
    has size first
