-- Mendings of names one after another, broken off, and what they come to.
use Rattle.std.proofs.Common.{refl}
use Rattle.laws_mend.specs.pack_model.specs.scavenger.Scavenging.{Keeps}
use Rattle.laws_mend.specs.pack_model.specs.states.Sound.{Clean}
use Rattle.laws_mend.specs.laws_record.proofs.Chaining.{at_end, broken_off, keeps_trans, kept_together, throughout_map}
use Rattle.laws_mend.specs.laws_room.proofs.marks.Laws.{unmarked_is_unclean}
use Rattle.laws_mend.specs.Tending.{Tends}
use Rattle.laws_names.specs.JoinLaws.{KeepsOpenBreaksOff, KeepsOpenEnds, KeepsOpenJoin, KeepsOpenOn, NothingKeepsOpen, OneKeepsOpen, TendingKeepsOpen}
use Rattle.laws_names.specs.Keeping.{KeepsOpen}

-- ---- from pack to pack
pub nothing_keeps_open : NothingKeepsOpen
nothing_keeps_open p = record {
  keeps = record { shown = refl; balance = refl; scavengeable = λ s. s };
  unmarked = λ u. u;
}

pub keeps_open_on : KeepsOpenOn
keeps_open_on p q r a b = record {
  keeps = keeps_trans p q r a.keeps b.keeps;
  unmarked = λ u. b.unmarked (a.unmarked u);
}

-- ---- runs
pub keeps_open_join : KeepsOpenJoin
keeps_open_join = kept_together KeepsOpen keeps_open_on

pub keeps_open_breaks_off : KeepsOpenBreaksOff
keeps_open_breaks_off p events some first r = broken_off (KeepsOpen p) p events some first r

pub one_keeps_open : OneKeepsOpen
one_keeps_open p at part words t = (nothing_keeps_open p, t)

pub tending_keeps_open : TendingKeepsOpen
tending_keeps_open p events r = throughout_map (Tends p) (KeepsOpen p) (λ q t. record { keeps = t.keeps; unmarked = t.unmarked }) p events r

-- ---- what they come to
pub keeps_open_ends : KeepsOpenEnds
keeps_open_ends p events r = record {
  last = at_end (KeepsOpen p) p events r;
  kept = throughout_map (KeepsOpen p) (Keeps p) (λ q t. t.keeps) p events r;
  unclean = λ u. throughout_map (KeepsOpen p) (λ q. Clean q → ⊥) (λ q t. unmarked_is_unclean q (t.unmarked u)) p events r;
}
