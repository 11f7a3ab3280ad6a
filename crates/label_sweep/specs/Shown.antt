-- What a sector shows: the sight that was read off its label, with its value, in the words of pack_model.
use Rattle.std.specs.Prelude.{ℕ, ◌≤◌, List}
use Rattle.pack_model.specs.reading.Sights as model
use Rattle.pack_model.specs.reading.Sights.{page_sight}
use Rattle.pack_model.specs.reading.Sights.Sight.{hidden, free, stray}
use Rattle.label_sweep.specs.declared.sight.Sight.{Sight}
use Rattle.label_sweep.specs.declared.sight.Sight.TheVariants.{Hidden, Free, Stray, Leads, Holds}

abbrev pub shown : Sight → List ℕ → model.Sight
shown Hidden value = hidden
shown Free value = free
shown Stray value = stray
shown (Leads fid) value = page_sight fid 0 0 value
shown (Holds fid number bytes) value = page_sight fid number bytes value

-- data pages are numbered from 1, and 512 of their bytes count at most
abbrev pub IsCounted : Sight → Type 0
IsCounted Hidden = Unit {0}
IsCounted Free = Unit {0}
IsCounted Stray = Unit {0}
IsCounted (Leads fid) = Unit {0}
IsCounted (Holds fid number bytes) = (1 ≤ number) × (bytes ≤ 512)
