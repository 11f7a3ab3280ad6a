-- The files that hints mean, and one hint over a part of a line.
use Rattle.std.proofs.Common.{Bool, None, Some, ap, false, refl, subst, sym, true, ℕ, ◌++◌, ◌∙◌, ◌≡◌}
use Rattle.laws_call.specs.disk_records.proofs.Growing.{after-append}
use Rattle.laws_call.specs.disk_records.specs.Packs.{Pack, after, carried}
use Rattle.laws_call.specs.disk_records.specs.declared.records.Page.{Page}
use Rattle.laws_call.specs.disk_records.specs.declared.records.Place.TheVariants.{Entry, Held, Next, Root}
use Rattle.laws_call.specs.laws_lookup.proofs.before.Laws.{release_misled_before}
use Rattle.laws_midway.proofs.found.Laws.{found_file_lives}
use Rattle.laws_call.specs.laws_operation.proofs.drop.Laws.{release_carries_out}
use Rattle.laws_call.specs.laws_operation.proofs.places.Laws.{file_that_does_not_live_has_no_page}
use Rattle.laws_call.specs.laws_record.proofs.Carried.{carried_place}
use Rattle.laws_call.specs.pack_model.specs.hints.Misled.{Finds, Misled}
use Rattle.laws_call.specs.pack_model.specs.operations.Operations.{release_file_writes}
use Rattle.laws_call.specs.pack_model.specs.reading.Files.{lives, place}
use Rattle.laws_call.specs.pack_model.specs.reading.Sights.{sights}
use Rattle.laws_call.specs.pack_model.specs.states.Whole.{Whole}
use Rattle.laws_steps.specs.HintLaws.{NoHintMeansAnAbsentFile, OneLaterAnswerMisledBefore, OneLaterMisledBefore, ReleasedAnswerMisledBefore, ReleasedOthersMisledBefore}

-- ---- the files that are meant
-- a page is carried of a file that lives
carried_lives : (p : Pack) (i : ℕ) (x : Page) → Whole p → carried p i ≡ Some x → lives (sights p) x.fid ≡ true
carried_lives p i x w is = by (lives (sights p) x.fid) refl
  where
    by : (b : Bool) → lives (sights p) x.fid ≡ b → b ≡ true
    by true e = refl
    by false e = let clash : None ≡ Some i = sym (file_that_does_not_live_has_no_page p x.fid x.number w e) ∙ carried_place p w i x is in cc

pub no_hint_means_an_absent_file : NoHintMeansAnAbsentFile
no_hint_means_an_absent_file p Root at wanted w t on s = absurd on
no_hint_means_an_absent_file p (Held i) at wanted w t on s = absurd on
no_hint_means_an_absent_file p (Next i) at wanted w t on s = ap (λ (x : Page). lives (sights p) x.fid) s.means ∙ carried_lives p i s.page w s.carries
no_hint_means_an_absent_file p (Entry d k) at wanted w t on s =
    found_file_lives p wanted.fid at (Entry d k) w t
    (record { lives = s.lives; directory = s.directory; slot = s.slot; name = s.name; stands = s.stands; item = s.item; number = refl; word = s.word; address = s.address })

-- ---- one hint
pub one_later_misled_before : OneLaterMisledBefore
one_later_misled_before p a b place at wanted first second h = first (second (subst (λ q. Misled q place at wanted) (after-append p a b) h))

pub one_later_answer_misled_before : OneLaterAnswerMisledBefore
one_later_answer_misled_before p a b place at wanted found first whole h = record {
  misled = first h.misled;
  on_disk = λ w. h.on_disk whole;
  finds = subst (λ q. Finds q place at found) (sym (after-append p a b)) h.finds;
}

-- ---- between the two calls of a drop
pub released_others_misled_before : ReleasedOthersMisledBefore
released_others_misled_before p events f at pages first w t may place bt wanted on other =
    one_later_misled_before p events (release_file_writes at pages) place bt wanted (first place bt wanted on)
    (release_misled_before (after p events) f at pages place bt wanted w t may on other)

pub released_answer_misled_before : ReleasedAnswerMisledBefore
released_answer_misled_before p events later f at pages place bt wanted found first w t may other h =
    let whole : Whole (after p (events ++ release_file_writes at pages)) = subst Whole (sym (after-append p events (release_file_writes at pages))) (release_carries_out (after p events) f at pages w t may).drops.whole in
    one_later_answer_misled_before p (events ++ release_file_writes at pages) later place bt wanted found
    (released_others_misled_before p events f at pages first w t may place bt wanted (h.on_disk whole) other) whole h
