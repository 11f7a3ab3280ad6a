-- Mendings one after another, broken off, and what they come to.
use Rattle.std.proofs.Common.{◌∙◌, ap, refl}
use Rattle.std.specs.FinMap.{entries}
use Rattle.std.specs.Prelude.{length}
use Rattle.laws_room.specs.pack_model.specs.scavenger.Scavenging.{Keeps}
use Rattle.laws_room.specs.pack_model.specs.showing.Settling.{given_names}
use Rattle.laws_room.specs.pack_model.specs.states.Sound.{Clean}
use Rattle.laws_room.specs.laws_record.proofs.Chaining.{at_end, broken_off, keeps_trans, kept_together, throughout_map}
use Rattle.laws_room.proofs.marks.Laws.{unmarked_is_unclean}
use Rattle.laws_mend.specs.JoinLaws.{NothingTends, TendingEnds, TendsBreaksOff, TendsJoin, TendsOn}
use Rattle.laws_mend.specs.Tending.{Tends}

-- ---- from pack to pack
pub nothing_tends : NothingTends
nothing_tends p = record {
  keeps = record { shown = refl; balance = refl; scavengeable = λ s. s };
  viewed = refl;
  unmarked = λ u. u;
}

pub tends_on : TendsOn
tends_on p q r a b = record {
  keeps = keeps_trans p q r a.keeps b.keeps;
  viewed = b.viewed ∙ a.viewed;
  unmarked = λ u. b.unmarked (a.unmarked u);
}

-- ---- runs
pub tends_join : TendsJoin
tends_join = kept_together Tends tends_on

pub tends_breaks_off : TendsBreaksOff
tends_breaks_off p events some first r = broken_off (Tends p) p events some first r

-- ---- what they come to
pub tending_ends : TendingEnds
tending_ends p events r =
    let last = at_end (Tends p) p events r in record {
      last = last;
      adopted = ap (λ v. length (given_names v.names (entries v.files))) last.viewed;
      kept = throughout_map (Tends p) (Keeps p) (λ q t. t.keeps) p events r;
      unclean = λ u. throughout_map (Tends p) (λ q. Clean q → ⊥) (λ q t. unmarked_is_unclean q (t.unmarked u)) p events r;
    }
