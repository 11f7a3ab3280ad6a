-- What a mending of all names comes to.
use Rattle.std.proofs.Common.{ℕ, Result, sym, subst}
use Rattle.std.specs.Prelude.{IfOk}
use Rattle.disk_records.specs.Tapes.{Grown, Taped, added, pack}
use Rattle.disk_records.proofs.Growing.{pack-after}
use Rattle.laws_names.specs.Keeping.{AllKeepOpen}
use Rattle.laws_names.proofs.joins.Laws.{keeps_open_ends}
use Rattle.pack_model.specs.scavenger.Scavenging.{Unmarked}
use Rattle.scav_pages.specs.Changes.{AllChange}
use Rattle.scav_table.specs.declared.errors.SweepError.{SweepError}
use Rattle.scav_names.specs.Mending.{AreMended, MendsNames}

pub names_end : (a b : Taped) (result : Result ℕ SweepError) → Grown a b → IfOk result (AreMended (pack a) (pack b)) → AllKeepOpen (pack a) (added a b) → AllChange (pack a) (added a b) → MendsNames a b result
names_end a b result grown mended keeps changes =
    let ends = keeps_open_ends (pack a) (added a b) keeps in
    record {
      mended = mended;
      kept = ends.kept;
      unclean = ends.unclean;
      unmarked = λ u. subst Unmarked (sym (pack-after grown)) (ends.last.unmarked u);
      changes = changes;
    }
