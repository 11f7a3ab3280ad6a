-- What a call knows whose record writes leave no page that wasn't there.
use Rattle.std.proofs.Common.{Err, IsErrOf, List, None, Option, Some, [], ap, arith, get_or, inl, inr, map, not, refl, subst, suc, sym, ℕ, ◌∙◌, ◌∷◌, ◌≡◌}
use Rattle.std.proofs.lemmas.List.Elements.{All-cons, All-filter, All-map, All-nil}
use Rattle.std.specs.Prelude.{All}
use Rattle.alto_words.specs.declared.fid.Fid.{Fid}
use Rattle.disk_records.proofs.Growing.{pack-after}
use Rattle.disk_records.specs.Packs.{Pack}
use Rattle.disk_records.specs.Tapes.{Grown, Taped, added, pack}
use Rattle.disk_records.specs.declared.records.Page.{Page}
use Rattle.disk_records.specs.declared.records.Place.{Place}
use Rattle.hint_cache.specs.Caches.{Cached, is_page, without}
use Rattle.hint_cache.specs.declared.cache.Entry.{Entry}
use Rattle.label_check.specs.Guarded.{FoundWrong, IfWrong}
use Rattle.label_check.specs.declared.errors.GuardError.TheVariants as guard
use Rattle.label_check.specs.declared.errors.GuardError.{GuardError}
use Rattle.laws_call.specs.laws_record.proofs.Carried.{carried_place}
use Rattle.laws_call.specs.laws_record.proofs.Copying.{place_carried}
use Rattle.pack_model.specs.hints.Handy.{CachedAt, HandyCache, IsRightOrIdle}
use Rattle.pack_model.specs.hints.Misled.{Finds}
use Rattle.pack_model.specs.reading.Files.{place}
use Rattle.pack_model.specs.reading.Sights.{Sight, sights}
use Rattle.pack_model.specs.states.Whole.{Whole}
use Rattle.page_seeking.specs.Refs.{IfMisled, MisledBy}
use Rattle.page_seeking.specs.declared.refs.FileError.TheVariants as file
use Rattle.page_seeking.specs.declared.refs.FileError.{FileError}
use Rattle.file_pages.specs.Inside.{error_at}
use Rattle.page_seeking.specs.Seeking.{all_listed, as_listed, page_number}
use Rattle.file_pages.specs.Releasing.{KeepsEachHandy, MisledSince, OnlyGo}

one : {T : Type 0} {a b : T} → ◌≡◌ {A = Option T} (Some a) (Some b) → a ≡ b
one e = cc

-- each page that has a place then had it before
stood : (p q : Pack) → Whole p → OnlyGo p q → (f : Fid) (n at : ℕ) → place (sights q) f n ≡ Some at → place (sights p) f n ≡ Some at
stood p q whole only f n at there = carried_place p whole at (page_number f n) (only at (page_number f n) (place_carried q (page_number f n) at there))

right_still : (p q : Pack) → Whole p → OnlyGo p q → (f : Fid) (n at : ℕ) → IsRightOrIdle (sights p) f n at → IsRightOrIdle (sights q) f n at
right_still p q whole only f n at right = by (place (sights q) f n) refl right
  where
    by : (r : Option ℕ) → place (sights q) f n ≡ r → IsRightOrIdle (sights p) f n at → IsRightOrIdle (sights q) f n at
    by None is right = inr is
    by (Some i) is (inl there) = inl (is ∙ ap Some (one (sym (stood p q whole only f n i is) ∙ there)))
    by (Some i) is (inr none) = absurd (clash (sym none ∙ stood p q whole only f n i is))
      where
        clash : {x : ℕ} → ◌≡◌ {A = Option ℕ} None (Some x) → ⊥
        clash e = cc

-- so a cache that was handy for a file is
pub handy_still : (p q : Pack) (f : Fid) (cache : List CachedAt) → Whole p → OnlyGo p q → HandyCache (sights p) f cache → HandyCache (sights q) f cache
handy_still p q f cache whole only handy = λ k d within own. right_still p q whole only f (get_or cache k d).0.number (get_or cache k d).1 (handy k d within own)

-- a hint that misled as the call began, by the call's events
pub misled_by : {a b : Taped} (f : Fid) (place : Place) (at : ℕ) (wanted : Page) (found : Option (List ℕ)) → Grown a b → MisledSince (pack a) (pack b) f place at wanted found → MisledBy (pack a) (added a b) f place at wanted found
misled_by f place at wanted found grown x = record { own = x.link.own; answers = record { misled = x.misled; on_disk = x.on_disk; finds = subst (λ (q : Pack). Finds q place at found) (pack-after grown) x.finds } }

-- ---- a page that is forgotten
each_entry : (P : Page × ℕ → Type 0) (entries : List Entry) → All P (map as_listed entries) → All (λ e. P (as_listed e)) entries
each_entry P [] h = All-nil (λ e. P (as_listed e))
each_entry P (x ∷ xs) h = All-cons (λ e. P (as_listed e)) x xs (h 0 (x.page, x.at) (omega arith)) (each_entry P xs (λ k d within. h (suc k) d (omega arith)))

-- an address for a page of this file is right, or no sector bears the page
abbrev IsRightPair : List Sight → Fid → Page × ℕ → Type 0
IsRightPair ss f c = c.0.fid ≡ f → IsRightOrIdle ss f c.0.number c.1

pub handy_forgotten : (old new : Cached) (page : Page) → new ≡ record old { entries = without page old.entries } → KeepsEachHandy old new
handy_forgotten old new page is ss f handy =
    subst (λ (c : Cached). HandyCache ss f (all_listed c)) (sym is) (All-map (IsRightPair ss f) as_listed (without page old.entries) (All-filter (λ e. not (is_page e.page page)) (λ e. IsRightPair ss f (as_listed e)) old.entries (each_entry (IsRightPair ss f) old.entries handy)))

-- ---- answers
-- a guarded command whose guard failed
pub at_wrong : (T U : Type 0) {place : Place} {at : ℕ} {wanted : Page} {e : FileError} (P : Place → ℕ → Page → Option (List ℕ) → Type 0) (Q : Option (List ℕ) → Type 0) (error : GuardError)
    → e ≡ error_at place at wanted error → IfWrong {T = U} (Err error) Q → ((found : Option (List ℕ)) → Q found → P place at wanted found) → IfMisled {T = T} (Err e) P
at_wrong T U P Q (guard.Wrong found) is wrong h = rw is (h found wrong)
at_wrong T U P Q guard.DiskFault is wrong h = rw is tt
at_wrong T U P Q guard.Memory is wrong h = rw is tt

-- where the guard held, nothing misleads, whatever is answered at Ok
pub never_here : (T : Type 0) (holds : Pack → Type 0) (at : ℕ) (a b : Taped) (error : GuardError) (place : Place) (held : ℕ) (wanted : Page) (e : FileError) → e ≡ error_at place held wanted error
    → IfWrong {T = Unit {0}} (Err error) (FoundWrong holds at a b) → holds (pack a) → IfMisled {T = T} (Err e) (λ place at wanted found. ⊥)
never_here T holds at a b (guard.Wrong found) place held wanted e same wrong held_then = absurd (wrong.failed held_then)
never_here T holds at a b guard.DiskFault place held wanted e same wrong held_then = rw same tt
never_here T holds at a b guard.Memory place held wanted e same wrong held_then = rw same tt

-- out of memory is so whatever is answered at Ok
pub memory_as : (T U : Type 0) (e : FileError) → IsErrOf {T = T} (Err e) file.Memory → IsErrOf {T = U} (Err e) file.Memory
memory_as T U (file.Misled place at wanted found) is = absurd cc
memory_as T U (file.Beyond length) is = absurd cc
memory_as T U file.DiskFault is = absurd cc
memory_as T U file.Memory is = refl

pub refusal_as : (T U : Type 0) (e : GuardError) → IsErrOf {T = T} (Err e) guard.Memory → IsErrOf {T = U} (Err e) guard.Memory
refusal_as T U (guard.Wrong found) is = absurd cc
refusal_as T U guard.DiskFault is = absurd cc
refusal_as T U guard.Memory is = refl
