-- Hints in the middle of a line.
use Rattle.std.proofs.Common.{subst, sym}
use Rattle.laws_hint.specs.disk_records.proofs.Growing.{after-append}
use Rattle.laws_hint.specs.pack_model.specs.hints.Misled.{Finds, Misled}
use Rattle.laws_midway.specs.LineHintLaws.{LaterAnswerMisledBefore, LaterMisledBefore}

pub later_misled_before : LaterMisledBefore
later_misled_before p a b first second place at wanted on h = first place at wanted on (second place at wanted on (subst (λ q. Misled q place at wanted) (after-append p a b) h))

pub later_answer_misled_before : LaterAnswerMisledBefore
later_answer_misled_before p a b place at wanted found first whole h = record {
  misled = first place at wanted (h.on_disk whole) h.misled;
  on_disk = λ w. h.on_disk whole;
  finds = subst (λ q. Finds q place at found) (sym (after-append p a b)) h.finds;
}
