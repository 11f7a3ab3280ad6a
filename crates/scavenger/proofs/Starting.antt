-- No file is counted.
use Rattle.std.proofs.Common.{◌≡◌, false, ap, sym, refl, Option, Some, None}
use Rattle.std.specs.FinMap.{entries}
use Rattle.std.specs.Option.{option_map_or}
use Rattle.alto_words.specs.Fid.{is_system}
use Rattle.disk_records.specs.declared.records.Page.{Page}
use Rattle.disk_records.specs.Packs.{Pack, carried}
use Rattle.scav_names.specs.laws_room.specs.CountLaws.{count_placed}
use Rattle.pack_model.specs.reading.Bodies.{found}
use Rattle.pack_model.specs.reading.Sights.{sights}
use Rattle.pack_model.specs.scavenger.Needed.{files_lack}
use Rattle.pack_model.specs.scavenger.Reports.{greatest_serial}
use Rattle.pack_model.specs.states.InUse.{how_many}
use Rattle.scavenger.specs.Counting.{CountsTo, capped, none_met}
use Rattle.scavenger.proofs.Filtering.{none_met_left}
use Rattle.std.proofs.Common.{not, max}

pub counts_none : (p : Pack) → CountsTo p none_met (record { in_use = 0; needed = 0; files = 0; last = 0; taken = false; mark_at = 0; root = false })
counts_none p = record {
  in_use_is = sym (ap (λ es. capped (count_placed p.shape (sights p) es)) (none_met_left (entries (found (sights p)))));
  needed_is = sym (ap (λ es. capped (files_lack p.shape (sights p) es)) (none_met_left (entries (found (sights p)))));
  files = sym (ap (λ es. capped (how_many (λ e. not (is_system e.0)) es)) (none_met_left (entries (found (sights p)))));
  last = sym (ap (λ es. max 0 (greatest_serial es)) (none_met_left (entries (found (sights p)))));
  taken = by (carried p 1);
  root = refl;
}
  where
    by : (o : Option Page) → false ≡ option_map_or (λ page. false) o false
    by None = refl
    by (Some page) = refl
