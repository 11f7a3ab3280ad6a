-- A last page gets a free slot of 256 words after its words: its value, and then its label.
use Rattle.std.proofs.Common.{◌≡◌, ℕ, suc, ◌+◌, ◌-◌, ◌<◌, ◌≤◌, Bool, true, false, cond, List, [], ◌∷◌, ◌++◌, append_assoc, drop, length, replicate, take, Result, Err, refl, sym, ap, subst, ◌∙◌, arith}
use Rattle.std.specs.Prelude.{IsErrAnd, Some, nat_eq, set}
use Rattle.std.specs.Cmp.Lexicographic.{pointwise, same_text}
use Rattle.std.proofs.lemmas.Bool.Decides.{nat_tests}
use Rattle.std.proofs.lemmas.List.{drop-replicate, length-append, length-take-le, set-append_right}
use Rattle.alto_words.specs.Fid.{is_full_name}
use Rattle.disk_records.specs.declared.records.Event.{Event}
use Rattle.disk_records.specs.declared.records.Page.{Page}
use Rattle.disk_records.specs.declared.records.Sector.{Sector}
use Rattle.disk_records.specs.Commands.{relabel_writes, value_writes}
use Rattle.disk_records.specs.Events.{IsFirstOf}
use Rattle.disk_records.specs.Labels.{in_range, label_of, page_of}
use Rattle.disk_records.specs.Packs.{Pack, after, sector_at}
use Rattle.disk_records.specs.Tapes.{Grown, Taped, added, pack}
use Rattle.disk_records.specs.Words.{word}
use Rattle.disk_records.proofs.FirstOnes.{first_front, first_then}
use Rattle.disk_records.proofs.Growing.{added-twice, grown_twice, pack-after}
use Rattle.label_check.specs.declared.errors.GuardError.{GuardError}
use Rattle.label_check.specs.declared.errors.GuardError.TheVariants as guard_error
use Rattle.label_check.specs.declared.errors.PageInfo.{PageInfo}
use Rattle.label_check.specs.Guarded.{Carries, Guarded, info_of}
use Rattle.scav_pages.specs.pack_laws.proofs.guards.Laws.{value_writes_keep_the_page}
use Rattle.pack_model.specs.operations.PageWords.{filled}
use Rattle.scav_pages.proofs.Doing.{error_is}
use Rattle.scav_pages.specs.declared.errors.Stop.{Stop}
use Rattle.scav_pages.specs.declared.errors.Stop.TheVariants.{Astray}
use Rattle.scav_pages.specs.Stops.{stop_of_guard}
use Rattle.scav_names.specs.Roots.{lengthened_value}
use Rattle.scav_names.specs.Words.{WritesPageWords, changed_writes}

-- ---- the value
-- words of a value, and then zeros, of which the first becomes that of a free slot
pub space_put : (value front : List ℕ) (used : ℕ) → front ≡ take used value → length value ≡ 256 → used < 256 → set (front ++ drop used (replicate 256 0)) used 256 ≡ lengthened_value used value
space_put value front used is size low =
    let long : length front ≡ used = ap length is ∙ length-take-le used value (omega (arith, size, low)) in
    let more : used - used ≡ 0 = omega arith in
    let left : 256 - used ≡ suc (255 - used) = omega (arith, low) in
    let all : 256 - length (front ++ 256 ∷ []) ≡ 255 - used = (let both : length (front ++ 256 ∷ []) ≡ length front + 1 = length-append front (256 ∷ []) in omega (arith, both, long)) in
    ap (λ l. set (front ++ l) used 256) {y = replicate (256 - used) 0} (drop-replicate used 256 0)
    ∙ set-append_right front (replicate (256 - used) 0) used used 256 long (omega arith)
    ∙ (λ i. front ++ set (replicate (left i) 0) (more i) 256)
    ∙ sym (append_assoc front (256 ∷ []) (replicate (255 - used) 0))
    ∙ ap (λ n. (front ++ 256 ∷ []) ++ replicate n 0) (sym all)
    ∙ ap (λ l. filled 256 (l ++ 256 ∷ [])) is

-- ---- the label
-- it names its page
pub label_names : (page : Page) (bytes next previous : ℕ) → is_full_name page.fid ≡ true → page.number < 65536 → bytes ≤ 512 → page_of (label_of page bytes next previous) ≡ Some page
unfolding in_range
label_names page bytes next previous full number few = grind (arith, nat_tests)

-- ---- the commands
-- the record writes, by the sector that was read
pub writes_are : (sector : Sector) (at : ℕ) (page : Page) (used next : ℕ) (info : PageInfo) (buf : Sector) {label value : List ℕ} → buf ≡ sector → info ≡ info_of sector.label → label ≡ label_of page 512 next info.previous → value ≡ lengthened_value used buf.value
    → changed_writes at buf.value value ++ relabel_writes at label value ≡ changed_writes at sector.value (lengthened_value used sector.value) ++ relabel_writes at (label_of page 512 next (word sector.label 1)) (lengthened_value used sector.value)
writes_are sector at page used next info buf holds tells named put =
    (λ i. changed_writes at buf.value (put i) ++ relabel_writes at (named i) (put i))
    ∙ (λ i. changed_writes at (holds i).value (lengthened_value used (holds i).value) ++ relabel_writes at (label_of page 512 next (tells i).previous) (lengthened_value used (holds i).value))

-- a sector that has to hold a page is found so
pub found_held : {T : Type 0} {b c : Taped} {guard : Pack → Type 0} {at count : ℕ} {early writes : List Event} (e : GuardError) → Guarded {T = T} guard at early writes count b c (Err e) → guard (pack b) → stop_of_guard e ≡ Astray → ⊥
found_held (guard_error.Wrong found) g held is = g.wrong.failed held
found_held guard_error.DiskFault g held is = cc
found_held guard_error.Memory g held is = cc

-- a part that isn't done, after some of the record writes
pub part_stops : {a d : Taped} {all : List Event} (e : Stop) (result : Result (Unit {0}) Stop) → IsFirstOf all (added a d) → (e ≡ Astray → ⊥) → IsErrAnd result (λ s. s ≡ e) → WritesPageWords all a d result
part_stops {a} {d} {all} e result some found is = subst (WritesPageWords all a d) (sym (error_is result is)) (record { some = some; ok = tt; found = λ astray. (let same : e ≡ Astray = cc in found same) })

-- nor a guarded command, of a page that is there
pub page_stops : {b c : Taped} {guard : Pack → Type 0} {at count : ℕ} {early writes : List Event} {T : Type 0} {a d : Taped} {all : List Event} (e : GuardError) (result : Result (Unit {0}) Stop) → IsFirstOf all (added a d) → Guarded {T = T} guard at early writes count b c (Err e) → guard (pack b)
    → IsErrAnd result (λ s. s ≡ stop_of_guard e) → WritesPageWords all a d result
page_stops e result some g held is = part_stops (stop_of_guard e) result some (found_held e g held) is

-- after a look that wrote nothing
pub value_part : {a b c : Taped} (at : ℕ) (old label value : List ℕ) → Grown a b → added a b ≡ [] → Grown b c → IsFirstOf (changed_writes at old value) (added b c) → IsFirstOf (changed_writes at old value ++ relabel_writes at label value) (added a c)
value_part {a} {b} {c} at old label value x silent y some =
    subst (IsFirstOf (changed_writes at old value ++ relabel_writes at label value)) (sym (added-twice x y ∙ ap (λ l. l ++ added b c) silent)) (first_front (changed_writes at old value) (relabel_writes at label value) (added b c) some)

module _ {a b c : Taped} (at : ℕ) (page : Page) (old label value : List ℕ) (x : Grown a b) (silent : added a b ≡ []) (held : Carries at page (pack b)) (holds : (sector_at (pack b) at).value ≡ old) (y : Grown b c) (done : added b c ≡ changed_writes at old value) where
  value_added : added a c ≡ changed_writes at old value
  value_added = added-twice x y ∙ ap (λ l. l ++ added b c) silent ∙ done

  now : pack c ≡ after (pack b) (changed_writes at old value)
  now = pack-after y ∙ ap (after (pack b)) done

  -- the page is there still, with the value
  pub carries_still : Carries at page (pack c)
  carries_still = subst (Carries at page) (sym now) (by (pointwise nat_eq old value))
    where
      by : (t : Bool) → Carries at page (after (pack b) (cond t [] (value_writes at value)))
      by true = held
      by false = (value_writes_keep_the_page (pack b) at page value 1 held (omega arith)).page_here

  pub stands : (sector_at (pack c) at).value ≡ value
  stands = ap (λ (p : Pack). (sector_at p at).value) now ∙ by (pointwise nat_eq old value) refl
    where
      by : (t : Bool) → pointwise nat_eq old value ≡ t → (sector_at (after (pack b) (cond t [] (value_writes at value))) at).value ≡ value
      by true e = holds ∙ same_text old value (sym e)
      by false e = ap (λ (s : Sector). s.value) (value_writes_keep_the_page (pack b) at page value 1 held (omega arith)).here

  -- the label after it
  pub label_part : {d : Taped} → Grown c d → IsFirstOf (relabel_writes at label (sector_at (pack c) at).value) (added c d) → IsFirstOf (changed_writes at old value ++ relabel_writes at label value) (added a d)
  label_part {d} z some =
      subst (IsFirstOf (changed_writes at old value ++ relabel_writes at label value)) (sym (added-twice (grown_twice x y) z))
      (first_then (changed_writes at old value) (relabel_writes at label value) (added a c) (added c d) value_added (subst (λ v. IsFirstOf (relabel_writes at label v) (added c d)) stands some))

  pub label_all : {d : Taped} → Grown c d → added c d ≡ relabel_writes at label (sector_at (pack c) at).value → added a d ≡ changed_writes at old value ++ relabel_writes at label value
  label_all {d} z is = added-twice (grown_twice x y) z ∙ (λ i. value_added i ++ (is ∙ ap (relabel_writes at label) stands) i)
