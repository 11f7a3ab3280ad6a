-- The least full name with a serial, sector by sector.
use Rattle.std.specs.Prelude.{ℕ, ◌==◌, cond, Option, Some, None}
use Rattle.std.specs.Ordering.{is_lt}
use Rattle.pack_model.specs.alto_words.specs.declared.fid.Fid.{Fid}
use Rattle.pack_model.specs.alto_words.specs.Fid.{fid_cmp, serial_of}
use Rattle.pack_model.specs.reading.Sights.{Sight}
use Rattle.pack_model.specs.reading.Sights.Sight.{hidden, free, stray, leads, holds}

-- the lesser of one that was found and a new one
abbrev pub least : Option Fid → Fid → Option Fid
least None f = Some f
least (Some g) f = Some (cond (is_lt (fid_cmp f g)) f g)

-- the least with this serial of those found so far and the leader that a sector shows
abbrev pub least_shown : ℕ → Option Fid → Sight → Option Fid
least_shown serial found hidden = found
least_shown serial found free = found
least_shown serial found stray = found
least_shown serial found (leads f readable l) = cond (serial_of f == serial) (least found f) found
least_shown serial found (holds f n bytes) = found
