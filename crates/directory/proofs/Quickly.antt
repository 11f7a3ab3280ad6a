-- How many sector commands the pages of a directory take where its hints are handy, one page after another.
use Rattle.std.proofs.Common.{◌≡◌, ℕ, suc, ◌+◌, ◌≤◌, ◌⊎◌, inl, inr, Bool, true, false, nat_lt, Option, Some, None, refl, sym, ◌∙◌, ap, subst, add-one, arith}
use Rattle.std.proofs.lemmas.Bool.Decides.{nat_tests}
use Rattle.alto_words.specs.declared.fid.Fid.{Fid}
use Rattle.disk_records.specs.Packs.{Pack, carried, sector_at}
use Rattle.disk_records.specs.Tapes.{Taped}
use Rattle.disk_records.specs.Words.{word}
use Rattle.hint_cache.specs.Caches.{Cached, address_in}
use Rattle.file_pages.specs.laws_contents.proofs.pages.Laws.{page_numbers_are_words}
use Rattle.laws_operation.proofs.links.Laws.{next_link_names_the_page_after}
use Rattle.pack_model.specs.hints.Links.{LinksTrue, link_to}
use Rattle.pack_model.specs.reading.Files.{place}
use Rattle.pack_model.specs.reading.Sights.{sights}
use Rattle.pack_model.specs.states.Whole.{Whole}
use Rattle.page_seeking.specs.Seeking.{GoesOn, KeepsHandy, Links, Refused, page_after, page_number}
use Rattle.directory.proofs.Standing.{placed_usable}

-- ---- hints over several calls
pub handy_twice : (p q : Pack) (a b c : Cached) → q ≡ p → KeepsHandy p a b → KeepsHandy q b c → KeepsHandy p a c
handy_twice p q a b c same first next = λ whole links f handy. (subst (λ r. KeepsHandy r b c) same next) whole links f (first whole links f handy)

pub refused_sooner : (a b c : Cached) → b.refused ≤ c.refused → Refused a b → Refused a c
refused_sooner a b c grows rose = omega (arith, grows, rose)

pub refused_later : (a b c : Cached) → a.refused ≤ b.refused → Refused b c → Refused a c
refused_later a b c grows rose = omega (arith, grows, rose)

-- ---- before page n is located
-- so few sector commands were run, and the cache lists it
pub record IsListed (p : Pack) (f : Fid) (n : ℕ) (now : Cached) (old new : Taped) : Type 0 where
  pub runs : new.runs ≤ old.runs + n
  pub listed : (at : ℕ) → place (sights p) f n ≡ Some at → address_in now.entries (page_number f n) ≡ Some at

-- of page 1 nothing is known: none was located
pub record IsAhead (p : Pack) (f : Fid) (n : ℕ) (before now : Cached) (old new : Taped) : Type 0 where
  pub start : n ≡ 1 → (new.runs ≤ old.runs) × (now ≡ before)
  pub later : 2 ≤ n → IsListed p f n now old new ⊎ Refused before now

pub ahead_first : (p : Pack) (f : Fid) (n : ℕ) (now : Cached) (old : Taped) → n ≡ 1 → IsAhead p f n now now old old
ahead_first p f n now old first = record { start = λ is. (omega arith, refl); later = λ more. absurd (omega (arith, more, first)) }

first_or_later : (n : ℕ) → 1 ≤ n → (n ≡ 1) ⊎ (2 ≤ n)
first_or_later n some = by (nat_lt 1 n) refl
  where
    by : (t : Bool) → nat_lt 1 n ≡ t → (n ≡ 1) ⊎ (2 ≤ n)
    by true e = inr (grind (arith, nat_tests))
    by false e = inl (grind (arith, nat_tests))

-- ---- once it is located
pub found_soon : (p : Pack) (f : Fid) (n at : ℕ) (before mid now : Cached) (old here new : Taped) → 1 ≤ n → IsAhead p f n before mid old here → mid.refused ≤ now.refused → place (sights p) f n ≡ Some at → carried p at ≡ Some (page_number f n)
    → (mid ≡ before → new.runs ≤ here.runs + (n + 1)) → ((i : ℕ) → address_in mid.entries (page_number f n) ≡ Some i → carried p i ≡ Some (page_number f n) → new.runs ≤ here.runs + 1)
    → (new.runs ≤ old.runs + (n + 1)) ⊎ Refused before now
found_soon p f n at before mid now old here new some ahead grows placed carries quick soon = elim (first_or_later n some) [
  | inl first ↦ let start = ahead.start first in let least = quick start.1 in let none = start.0 in inl (omega (arith, least, none))
  | inr more ↦ elim (ahead.later more) [ inl l ↦ let one = soon at (l.listed at placed) carries in let runs = l.runs in inl (omega (arith, one, runs)) | inr rose ↦ inr (refused_sooner before mid now grows rose) ]
]

-- the next page is listed then at the sector that the true link names
pub ahead_next : (p : Pack) (f : Fid) (n at bytes next : ℕ) (before mid now : Cached) (old new : Taped) → Whole p → LinksTrue p → 1 ≤ n → bytes ≡ 512 → place (sights p) f n ≡ Some at → next ≡ word (sector_at p at).label 0
    → before.refused ≤ mid.refused → ((i : ℕ) → GoesOn (page_number f n) bytes → Links p.shape next i → (address_in now.entries (page_after (page_number f n)) ≡ Some i) ⊎ Refused mid now)
    → (new.runs ≤ old.runs + (n + 1)) ⊎ Refused before now → IsAhead p f (n + 1) before now old new
ahead_next p f n at bytes next before mid now old new whole links some full placed link grows lists soon = record { start = λ first. absurd (omega (arith, first, some)); later = λ more. elim soon [ inl few ↦ by (place (sights p) f (n + 1)) refl few | inr rose ↦ inr rose ] }
  where
    one : {a b : ℕ} → ◌≡◌ {A = Option ℕ} (Some a) (Some b) → a ≡ b
    one e = cc

    no : {b : ℕ} → ◌≡◌ {A = Option ℕ} None (Some b) → ⊥
    no e = cc

    -- a page that is there comes after one with a number below the greatest
    goes : (i : ℕ) → place (sights p) f (n + 1) ≡ Some i → GoesOn (page_number f n) bytes
    goes i there = let word_number = page_numbers_are_words p f (n + 1) i there in record { full = inr full; more = omega (arith, word_number) }

    named : (i : ℕ) → place (sights p) f (n + 1) ≡ Some i → Links p.shape next i
    named i there =
        let there_too : place (sights p) f (suc n) ≡ Some i = ap (place (sights p) f) (sym (add-one n)) ∙ there in
        let usable = placed_usable p f n i there_too in
        record { first = usable.0; last = usable.1; named = sym (link ∙ next_link_names_the_page_after p f n at whole links placed ∙ ap (link_to p.shape) there_too) }

    by : (r : Option ℕ) → place (sights p) f (n + 1) ≡ r → new.runs ≤ old.runs + (n + 1) → IsListed p f (n + 1) now old new ⊎ Refused before now
    by None none few = inl (record { runs = few; listed = λ i there. absurd (no (sym none ∙ there)) })
    by (Some i) there few = elim (lists i (goes i there) (named i there)) [
      | inl is ↦ inl (record { runs = few; listed = λ j e. is ∙ sym there ∙ e })
      | inr rose ↦ inr (refused_later before mid now grows rose)
    ]
