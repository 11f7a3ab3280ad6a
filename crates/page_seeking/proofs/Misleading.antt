-- Hints that were followed and misled.
use Rattle.std.proofs.Common.{◌≡◌, ℕ, zero, suc, ◌<◌, ◌==◌, ◌&&◌, Bool, true, false, cond, nat_lt, List, [], Option, Some, None, IsTrue, unwrap_or, inl, inr, refl, sym, ◌∙◌, ap, subst, arith}
use Rattle.std.specs.Prelude.{IfSome}
use Rattle.std.proofs.lemmas.Bool.Decides.{nat_tests}
use Rattle.alto_words.specs.declared.fid.Fid.{Fid}
use Rattle.disk_records.specs.declared.shape.Shape.{Shape}
use Rattle.disk_records.specs.declared.records.Page.{Page}
use Rattle.disk_records.specs.declared.records.Place.{Place}
use Rattle.disk_records.specs.declared.records.Place.TheVariants.{Root, Entry, Next, Held}
use Rattle.disk_records.specs.Addresses.{pages_of, real_of}
use Rattle.disk_records.specs.Words.{word}
use Rattle.disk_records.specs.Packs.{Pack, carried, label_found, sector_at}
use Rattle.label_check.specs.declared.errors.PageInfo.{PageInfo}
use Rattle.pack_model.specs.hints.Misled.{AnswersMisled, IsOnDisk, NamesSector, StandsAt, leader_page}
use Rattle.pack_model.specs.hints.Sources.{IsFrom}
use Rattle.laws_lookup.proofs.hints.Laws.{label_of_another_page_misleads, link_means_the_next_page, no_sector_misleads}
use Rattle.laws_lookup.proofs.sources.Laws.{leader_that_is_not_there_misleads}
use Rattle.page_seeking.specs.declared.seek.Found.{Found}
use Rattle.page_seeking.specs.Refs.{MisledBy}
use Rattle.page_seeking.specs.Seeking.{IsFull, Links, page_after}
use Rattle.page_seeking.specs.Inside.{Known}

-- ---- what is found at an address
no_label : (a b c : Bool) (x : Option (List ℕ)) → (a ≡ true → b ≡ true → ⊥) → cond (a && (b && c)) x None ≡ None
no_label false b c x h = refl
no_label true false c x h = refl
no_label true true c x h = absurd (h refl refl)

-- no label is found if no usable sector is there
unfound : (p : Pack) (at : ℕ) → (0 < at → at < pages_of p.shape → ⊥) → label_found p at ≡ None
unfound p at none = no_label (nat_lt 0 at) (nat_lt at (pages_of p.shape)) (word (sector_at p at).header 1 == real_of p.shape at) (Some (sector_at p at).label) (λ a b. none (grind (arith, nat_tests)) (grind (arith, nat_tests)))

-- ---- the address that a file is named with
pub leader_misled : (p : Pack) (f : Fid) (at : ℕ) (from : Place) (found : Option (List ℕ)) → IsFrom p f at from → (carried p at ≡ Some (leader_page f) → ⊥) → found ≡ label_found p at → MisledBy p [] f from at (leader_page f) found
leader_misled p f at from found h failed is = record { own = refl; answers = subst (AnswersMisled p [] from at (leader_page f)) (sym is) (leader_that_is_not_there_misleads p [] f at from h failed) }

-- it stands on the disk: where the leader is at SysDir's fixed address, or was seen before, the address doesn't mislead
pub leader_on_disk : (p : Pack) (f : Fid) (at : ℕ) (from : Place) → IsFrom p f at from → (from ≡ Root → carried p at ≡ Some (leader_page f)) → (carried p at ≡ Some (leader_page f) → ⊥) → IsOnDisk from
leader_on_disk p f at Root h root failed = absurd (failed (root refl))
leader_on_disk p f at (Entry d w) h root failed = tt
leader_on_disk p f at (Next i) h root failed = absurd h
leader_on_disk p f at (Held i) h root failed = absurd (failed h.1)

-- ---- a next link
-- the sector that a link was taken to name
pub taken_link : (shape : Shape) (link to : ℕ) (v : Option ℕ) → IfSome v (λ at. (at < pages_of shape) × (real_of shape at ≡ link)) → ((at : ℕ) → at < pages_of shape → real_of shape at ≡ link → v ≡ Some at) → to ≡ unwrap_or v 0
    → ((i : ℕ) → Links shape link i → to ≡ i) × (0 < to → Links shape link to)
taken_link shape link to None some back is = (λ i n. absurd (none (back i n.last n.named)), λ first. absurd (omega (arith, is)))
  where
    none : {i : ℕ} → ◌≡◌ {A = Option ℕ} None (Some i) → ⊥
    none e = cc
taken_link shape link to (Some w) some back is = (λ i n. is ∙ one (back i n.last n.named), λ first. subst (Links shape link) (sym is) (record { first = omega (arith, is); last = some.0; named = some.1 }))
  where
    one : {i : ℕ} → ◌≡◌ {A = Option ℕ} (Some w) (Some i) → w ≡ i
    one e = cc

-- a link whose sector doesn't carry the page after the one that was read
pub link_misled : {told : Bool} (p : Pack) (form : Shape) (page : Page) (here : Found) (to : ℕ) (found : Option (List ℕ)) → IsTrue told → form ≡ p.shape → Known told p form page here → IsFull page here.info.bytes
    → ((i : ℕ) → Links form here.info.next i → to ≡ i) → (0 < to → Links form here.info.next to) → (carried p to ≡ Some (page_after page) → ⊥) → found ≡ label_found p to
    → MisledBy p [] page.fid (Next here.at) here.info.next (page_after page) found
link_misled p form page here to found told same known full one back failed is = record { own = refl; answers = by to refl }
  where
    stands : StandsAt p (Next here.at) here.info.next (page_after page)
    stands = subst (λ n. StandsAt p (Next here.at) n (page_after page)) (sym (ap (λ (i : PageInfo). i.next) (known.tells told))) (link_means_the_next_page p here.at page (known.carries told) (elim full [ inl first ↦ inl first | inr all ↦ inr (sym (ap (λ (i : PageInfo). i.bytes) (known.tells told)) ∙ all) ]))

    links : (i : ℕ) → NamesSector p.shape (Next here.at) here.info.next i → Links form here.info.next i
    links i n = record { first = n.first; last = subst (λ (s : Shape). i < pages_of s) (sym same) n.last; named = ap (λ (s : Shape). real_of s i) same ∙ sym n.named }

    names : 0 < to → NamesSector p.shape (Next here.at) here.info.next to
    names first = let l = back first in record { first = first; last = subst (λ (s : Shape). to < pages_of s) same l.last; named = sym l.named ∙ ap (λ (s : Shape). real_of s to) same }

    by : (k : ℕ) → to ≡ k → AnswersMisled p [] (Next here.at) here.info.next (page_after page) found
    by zero e = subst (AnswersMisled p [] (Next here.at) here.info.next (page_after page)) (sym (is ∙ unfound p to (λ first last. omega (arith, e, first)))) (no_sector_misleads p [] (Next here.at) here.info.next (page_after page) stands (λ i n. let s = one i (links i n) in let f = n.first in omega (arith, e, s, f)) (λ whole. tt))
    by (suc k) e = subst (AnswersMisled p [] (Next here.at) here.info.next (page_after page)) (sym is) (label_of_another_page_misleads p [] (Next here.at) here.info.next to (page_after page) stands (names (omega (arith, e))) failed (λ whole. tt))
