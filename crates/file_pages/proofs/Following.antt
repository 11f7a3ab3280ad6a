-- The later pages of a file while they are released one after another.
use Rattle.std.proofs.Common.{Bool, List, None, Option, Some, ap, arith, cond, false, inl, inr, length, refl, subst, suc, sym, true, zero, ℕ, ◌+◌, ◌<◌, ◌==◌, ◌∙◌, ◌≡◌, ◌≢◌, ◌≤◌, ◌⊎◌}
use Rattle.std.proofs.lemmas.Bool.Decides.{nat_tests}
use Rattle.alto_words.specs.declared.fid.Fid.{Fid}
use Rattle.disk_records.specs.Addresses.{pages_of, real_of}
use Rattle.disk_records.specs.Commands.{relabel_writes, release_writes}
use Rattle.disk_records.specs.Labels.{page_of}
use Rattle.disk_records.specs.Packs.{Pack, after, carried, crash, is_usable, label_found, sector_at}
use Rattle.disk_records.specs.declared.records.Page.{Page}
use Rattle.disk_records.specs.declared.records.Place.TheVariants.{Next}
use Rattle.disk_records.specs.declared.records.Sector.{Sector}
use Rattle.disk_records.specs.declared.shape.Shape.{Shape}
use Rattle.label_check.specs.Guarded.{info_of}
use Rattle.label_check.specs.declared.errors.PageInfo.{PageInfo}
use Rattle.laws_lookup.proofs.hints.Laws.{link_means_the_next_page}
use Rattle.laws_call.specs.pack_laws.specs.GuardLaws.{ComesToHold}
use Rattle.laws_call.specs.pack_laws.proofs.guards.Laws.{relabel_keeps_the_page, release_frees_at_the_label}
use Rattle.pack_model.specs.hints.Misled.{NamesSector, StandsAt}
use Rattle.page_seeking.specs.Seeking.{IsFull, Links, Seen, Stands, page_after, page_number}
use Rattle.file_pages.specs.Releasing.{IsKnown, Follows, MisledSince, OnlyGo}

one : {T : Type 0} {a b : T} → ◌≡◌ {A = Option T} (Some a) (Some b) → a ≡ b
one e = cc

pub same_or_not : (a b : ℕ) → (a ≡ b) ⊎ (a ≢ b)
same_or_not a b = by (a == b) refl
  where
    by : (t : Bool) → (a == b) ≡ t → (a ≡ b) ⊎ (a ≢ b)
    by true e = inl (grind (arith, nat_tests))
    by false e = inr (grind (arith, nat_tests))

carried_alike : (p q : Pack) (i : ℕ) → q.shape ≡ p.shape → sector_at q i ≡ sector_at p i → carried q i ≡ carried p i
carried_alike p q i shape same = ap (λ (s : Shape). cond (is_usable s i (sector_at q i)) (page_of (sector_at q i).label) None) shape ∙ ap (λ (s : Sector). cond (is_usable p.shape i s) (page_of s.label) None) same

-- ---- a link that is followed
-- one whose sector doesn't carry the page after the one that was read misled as the call began
pub link_misled_since : (p q : Pack) (page : Page) (at : ℕ) (info : PageInfo) (to : ℕ) (found : Option (List ℕ)) → Follows p q page at info → IsFull page info.bytes
    → ((i : ℕ) → Links q.shape info.next i → to ≡ i) → (0 < to → Links q.shape info.next to) → (carried q to ≡ Some (page_after page) → ⊥) → found ≡ label_found q to
    → MisledSince p q page.fid (Next at) info.next (page_after page) found
link_misled_since p q page at info to found f full only back failed is = record {
  link = record { followed = at; link = refl; own = refl; later = omega arith };
  misled = record { stands = stands; misses = misses };
  on_disk = λ whole. tt;
  finds = record { named = λ i n. is ∙ ap (label_found q) (only i (record { first = n.first; last = n.last; named = sym n.named })); unnamed = λ none. by none to refl };
}
  where
    tells : info ≡ info_of (sector_at p at).label
    tells = f.known.tells

    stands : StandsAt p (Next at) info.next (page_after page)
    stands = subst (λ n. StandsAt p (Next at) n (page_after page)) (sym (ap (λ (i : PageInfo). i.next) tells)) (link_means_the_next_page p at page (f.known.carries) (elim full [ inl first ↦ inl first | inr all ↦ inr (sym (ap (λ (i : PageInfo). i.bytes) tells) ∙ all) ]))

    misses : (i : ℕ) → NamesSector p.shape (Next at) info.next i → carried p i ≡ Some (page_after page) → ⊥
    misses i n there =
        let same : to ≡ i = only i (record { first = n.first; last = subst (λ (s : Shape). i < pages_of s) (sym f.shape) n.last; named = ap (λ (s : Shape). real_of s i) f.shape ∙ sym n.named }) in
        let here : carried p to ≡ Some (page_after page) = ap (carried p) same ∙ there in
        failed (carried_alike p q to f.shape (f.later to (page.number + 1) (omega arith) here) ∙ here)

    by : ((i : ℕ) → NamesSector q.shape (Next at) info.next i → ⊥) → (k : ℕ) → to ≡ k → found ≡ None
    by none zero e = is ∙ ap (label_found q) e
    by none (suc k) e = let l = back (omega (arith, e)) in absurd (none to (record { first = l.first; last = l.last; named = sym l.named }))

-- ---- a sector that is released
pub only_after_release : (p q : Pack) (to : ℕ) (page : Page) → OnlyGo p q → carried q to ≡ Some page → OnlyGo p (after q (release_writes to))
only_after_release p q to page only is = λ i x there.
    let change = release_frees_at_the_label q to page 2 is (omega arith) in
    elim (same_or_not i to) [
      | inl same ↦ absurd (none (sym change.page_here ∙ ap (carried (after q (release_writes to))) (sym same) ∙ there))
      | inr other ↦ only i x (sym (change.pages i other) ∙ there)
    ]
  where
    none : {x : Page} → ◌≡◌ {A = Option Page} None (Some x) → ⊥
    none e = cc

-- pages above this one are in their sectors still
pub later_after_release : (p q : Pack) (f : Fid) (k to : ℕ) → ((i n : ℕ) → k ≤ n → carried p i ≡ Some (page_number f n) → i ≢ to → sector_at q i ≡ sector_at p i) → carried p to ≡ Some (page_number f k) → carried q to ≡ Some (page_number f k)
    → (i n : ℕ) → k < n → carried p i ≡ Some (page_number f n) → sector_at (after q (release_writes to)) i ≡ sector_at p i
later_after_release p q f k to later here is i n above there =
    (release_frees_at_the_label q to (page_number f k) 2 is (omega arith)).others i other ∙ later i n (omega (arith, above)) there other
  where
    other : i ≢ to
    other same = let number : n ≡ k = ap (λ (x : Page). x.number) (one (sym there ∙ ap (carried p) same ∙ here)) in omega (arith, number, above)

-- ---- each start, and each step
-- the page after this one was read, and released
pub follows_next : (p q r : Pack) (form : Shape) (page : Page) (at to : ℕ) (info next : PageInfo) (buffer : Sector) → Follows p q page at info → Seen form (page_after page) to next buffer → form ≡ q.shape → Stands q (page_after page) to buffer → r ≡ after q (release_writes to)
    → Follows p r (page_after page) to next
follows_next p q r form page at to info next buffer f seen formed stands is =
    let here : carried p to ≡ Some (page_after page) = f.only to (page_after page) stands.carries in
    let holds : buffer ≡ sector_at p to = stands.holds ∙ f.later to (page.number + 1) (omega arith) here in
    record {
      shape = ap (λ (p : Pack). p.shape) is ∙ f.shape;
      known = record {
        first = seen.first;
        last = subst (λ (s : Shape). to < pages_of s) (formed ∙ f.shape) seen.last;
        carries = here;
        tells = seen.tells ∙ ap (λ (s : Sector). info_of s.label) holds;
        sized = ap (λ (s : Sector). length s.value) (sym holds) ∙ seen.sized;
      };
      later = λ i n above there. subst (λ (r : Pack). sector_at r i ≡ sector_at p i) (sym is) (later_after_release p q page.fid (page.number + 1) to (λ i n above there other. f.later i n (omega (arith, above)) there) here stands.carries i n above there);
      only = subst (OnlyGo p) (sym is) (only_after_release p q to (page_after page) f.only stands.carries);
    }

-- the page's own sector is released, as a leader is
pub follows_released : (p r : Pack) (f : Fid) (number at : ℕ) (info : PageInfo) → IsKnown p (page_number f number) at info → r ≡ after p (release_writes at) → Follows p r (page_number f number) at info
follows_released p r f number at info known is = record {
  shape = ap (λ (p : Pack). p.shape) is;
  known = known;
  later = λ i n above there. subst (λ (r : Pack). sector_at r i ≡ sector_at p i) (sym is) (later_after_release p p f number at (λ i n above there other. refl) (known.carries) (known.carries) i n above there);
  only = subst (OnlyGo p) (sym is) (only_after_release p p at (page_number f number) (λ i x there. there) (known.carries));
}

-- the page gets another label
pub follows_relabelled : (p r : Pack) (f : Fid) (number at : ℕ) (info : PageInfo) (label : List ℕ) → IsKnown p (page_number f number) at info → page_of label ≡ Some (page_number f number) → r ≡ after p (relabel_writes at label (sector_at p at).value)
    → Follows p r (page_number f number) at info
follows_relabelled p r f number at info label known same is = record {
  shape = ap (λ (p : Pack). p.shape) is;
  known = known;
  later = λ i n above there. ap (λ (r : Pack). sector_at r i) is ∙ change.others i (λ e. let equal : n ≡ number = ap (λ (x : Page). x.number) (one (sym there ∙ ap (carried p) e ∙ known.carries)) in omega (arith, equal, above));
  only = λ i x there. elim (same_or_not i at) [
    | inl e ↦
        let named : page_number f number ≡ x = one (sym change.page_here ∙ ap (λ (r : Pack). carried r at) (sym is) ∙ ap (carried r) (sym e) ∙ there) in
        ap (carried p) e ∙ known.carries ∙ ap Some named
    | inr other ↦ sym (change.pages i other) ∙ ap (λ (r : Pack). carried r i) (sym is) ∙ there
  ];
}
  where
    change : ComesToHold at (page_number f number) label (sector_at p at).value p (crash p (relabel_writes at label (sector_at p at).value) 2)
    change = relabel_keeps_the_page p at (page_number f number) label 2 (known.carries) same (omega arith)
