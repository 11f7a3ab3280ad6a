-- Where the record writes of calls go.
use Rattle.std.proofs.Common.{◌≡◌, ◌≢◌, ◌==◌, ◌∙◌, ◌++◌, ℕ, zero, suc, Bool, List, [], ◌∷◌, get_or, set, Option, Some, None, ap, sym, refl, subst, true, false, cond, eqb-true, eq-eqb, nat_eq}
use Rattle.std.proofs.lemmas.List.{get_or-set_other}
use Rattle.alto_words.specs.declared.fid.Fid.{Fid}
use Rattle.disk_records.specs.declared.records.Event.{Event}
use Rattle.disk_records.specs.declared.records.Event.TheVariants.{Wrote, Shown}
use Rattle.disk_records.specs.declared.records.Page.{Page}
use Rattle.disk_records.specs.declared.records.Sector.{Sector}
use Rattle.disk_records.specs.declared.shape.Shape.{Shape}
use Rattle.disk_records.specs.Labels.{tag, is_free, page_of}
use Rattle.disk_records.specs.Events.{IsFirstOf}
use Rattle.disk_records.specs.Frames.{WritesIn, WritesUsable, IsFreeSector, IsPageOf, IsUsableSector}
use Rattle.disk_records.specs.Packs.{Pack, after, carried, is_free_at, is_usable, sector_at, no_sector, with_part}
use Rattle.disk_records.specs.Tapes.{Taped, DiskAlone, Grown, Looks, added, pack}
use Rattle.disk_records.proofs.Growing.{added-twice, nothing_added, pack-after}

-- ---- the record writes that were made are a prefix of some
one_more : (Here : ℕ → Type 0) (e : Event) (writes events : List Event) → WritesIn Here (e ∷ writes) → (WritesIn Here writes → WritesIn Here events) → WritesIn Here (e ∷ events)
one_more Here (Wrote at part words) writes events all then = (all.0, (all.1.0, then all.1.1))
one_more Here (Shown byte) writes events all then = then all

pub writes_some : (Here : ℕ → Type 0) (writes events : List Event) → IsFirstOf writes events → WritesIn Here writes → WritesIn Here events
writes_some Here writes [] first all = tt
writes_some Here [] (e ∷ events) first all = absurd first
writes_some Here (w ∷ writes) (e ∷ events) first all = subst (λ x. WritesIn Here (x ∷ events)) (sym first.0) (one_more Here w writes events all (writes_some Here writes events first.1))

-- each sector of which one thing holds is one of which another does
pub writes_map : (Here There : ℕ → Type 0) → ((at : ℕ) → Here at → There at) → (events : List Event) → WritesIn Here events → WritesIn There events
writes_map Here There then [] all = tt
writes_map Here There then (Wrote at part words ∷ events) all = (all.0, (then at all.1.0, writes_map Here There then events all.1.1))
writes_map Here There then (Shown byte ∷ events) all = writes_map Here There then events all

pub writes_append : (Here : ℕ → Type 0) (a b : List Event) → WritesIn Here a → WritesIn Here b → WritesIn Here (a ++ b)
writes_append Here [] b x y = y
writes_append Here (Wrote at part words ∷ a) b x y = (x.0, (x.1.0, writes_append Here a b x.1.1 y))
writes_append Here (Shown byte ∷ a) b x y = writes_append Here a b x y

-- ---- what a sector is depends on its shape and its words alone
abbrev pub IsBySector : (Pack → ℕ → Type 0) → Type 0
IsBySector Here = (p q : Pack) (at : ℕ) → q.shape ≡ p.shape → sector_at q at ≡ sector_at p at → Here q at → Here p at

same_sector : {T : Type 0} (f : Shape → ℕ → Sector → T) (p q : Pack) (at : ℕ) → q.shape ≡ p.shape → sector_at q at ≡ sector_at p at → f q.shape at (sector_at q at) ≡ f p.shape at (sector_at p at)
same_sector f p q at shape same = ap (λ s. f s at (sector_at q at)) shape ∙ ap (f p.shape at) same

same_carried : (p q : Pack) (at : ℕ) → q.shape ≡ p.shape → sector_at q at ≡ sector_at p at → carried q at ≡ carried p at
same_carried p q at shape same = same_sector (λ (s : Shape) (i : ℕ) (x : Sector). cond (is_usable s i x) (page_of x.label) None) p q at shape same

same_free : (p q : Pack) (at : ℕ) → q.shape ≡ p.shape → sector_at q at ≡ sector_at p at → is_free_at q at ≡ is_free_at p at
same_free p q at shape same = same_sector (λ (s : Shape) (i : ℕ) (x : Sector). cond (is_usable s i x) (is_free (tag x.label)) false) p q at shape same

pub free_by_sector : IsBySector IsFreeSector
free_by_sector p q at shape same free = sym (same_free p q at shape same) ∙ free

pub page_by_sector : (f : Fid) → IsBySector (IsPageOf f)
page_by_sector f p q at shape same page = record { number = page.number; carries = sym (same_carried p q at shape same) ∙ page.carries }

-- ---- what stays
-- a sector that isn't such a one, whole
pub others_stay : (Here : ℕ → Type 0) (p : Pack) (events : List Event) (at : ℕ) → WritesIn Here events → (Here at → ⊥) → sector_at (after p events) at ≡ sector_at p at
others_stay Here p [] at all not = refl
others_stay Here p (Shown byte ∷ events) at all not = others_stay Here p events at all not
others_stay Here p (Wrote i part words ∷ events) at all not =
    others_stay Here (after p (Wrote i part words ∷ [])) events at all.1.1 not
    ∙ get_or-set_other p.sectors i at (with_part part words (sector_at p i)) no_sector (λ e. not (subst Here (sym e) all.1.0))

-- and the header of each sector
header_kept : (part : ℕ) (words : List ℕ) (s : Sector) → part ≢ 0 → (with_part part words s).header ≡ s.header
header_kept zero words s not = absurd (not refl)
header_kept (suc zero) words s not = refl
header_kept (suc (suc n)) words s not = refl

one_header : (sectors : List Sector) (i at part : ℕ) (words : List ℕ) → part ≢ 0 → (get_or (set sectors i (with_part part words (get_or sectors i no_sector))) at no_sector).header ≡ (get_or sectors at no_sector).header
one_header [] zero at part words not = refl
one_header [] (suc i) at part words not = refl
one_header (s ∷ sectors) zero zero part words not = header_kept part words s not
one_header (s ∷ sectors) zero (suc at) part words not = refl
one_header (s ∷ sectors) (suc i) zero part words not = refl
one_header (s ∷ sectors) (suc i) (suc at) part words not = one_header sectors i at part words not

pub headers_stay : (Here : ℕ → Type 0) (p : Pack) (events : List Event) (at : ℕ) → WritesIn Here events → (sector_at (after p events) at).header ≡ (sector_at p at).header
headers_stay Here p [] at all = refl
headers_stay Here p (Shown byte ∷ events) at all = headers_stay Here p events at all
headers_stay Here p (Wrote i part words ∷ events) at all = headers_stay Here (after p (Wrote i part words ∷ [])) events at all.1.1 ∙ one_header p.sectors i at part words all.0

-- ---- calls one after another
-- A sector that is such a one after these record writes was one before them, or is among those that were written, which were.
back : (Here : Pack → ℕ → Type 0) → IsBySector Here → (p q : Pack) (events : List Event) (at : ℕ) → WritesIn (Here p) events → q.shape ≡ p.shape → sector_at q at ≡ sector_at p at → Here (after q events) at → Here p at
back Here by_sector p q [] at all shape same there = by_sector p q at shape same there
back Here by_sector p q (Shown byte ∷ events) at all shape same there = back Here by_sector p q events at all shape same there
back Here by_sector p q (Wrote i part words ∷ events) at all shape same there = elim (nat_eq at i) as (λ b. (at == i) ≡ b → Here p at) [
  | true ↦ λ is. let z : at ≡ i = eqb-true at i is in subst (Here p) (sym z) all.1.0
  | false ↦ λ is. let z : at ≢ i = λ e. let t : (at == i) ≡ true = eq-eqb at i e in cc in
      back Here by_sector p (after q (Wrote i part words ∷ [])) events at all.1.1 shape (get_or-set_other q.sectors i at (with_part part words (sector_at q i)) no_sector z ∙ same) there
] refl

pub writes_then : (Here : Pack → ℕ → Type 0) → IsBySector Here → {a b c : Taped} → Grown a b → Grown b c → WritesIn (Here (pack a)) (added a b) → WritesIn (Here (pack b)) (added b c) → WritesIn (Here (pack a)) (added a c)
writes_then Here by_sector {a} {b} {c} x y first second =
    let then : (at : ℕ) → Here (pack b) at → Here (pack a) at = λ at there. back Here by_sector (pack a) (pack a) (added a b) at first refl refl (subst (λ p. Here p at) (pack-after x) there) in
    subst (WritesIn (Here (pack a))) (sym (added-twice x y)) (writes_append (Here (pack a)) (added a b) (added b c) first (writes_map (Here (pack b)) (Here (pack a)) then (added b c) second))

-- a call that writes nothing before one that writes
pub writes_after_look : (Here : Pack → ℕ → Type 0) {a b c : Taped} → Grown a b → Grown b c → added a b ≡ [] → WritesIn (Here (pack b)) (added b c) → WritesIn (Here (pack a)) (added a c)
writes_after_look Here {a} {b} {c} x y silent second =
    let same : pack b ≡ pack a = pack-after x ∙ ap (after (pack a)) silent in
    subst (WritesIn (Here (pack a))) (sym (added-twice x y ∙ ap (λ l. l ++ added b c) silent)) (subst (λ p. WritesIn (Here p) (added b c)) same second)

-- nor does a call that writes nothing
pub writes_silent : (Here : ℕ → Type 0) (events : List Event) → events ≡ [] → WritesIn Here events
writes_silent Here events silent = subst (WritesIn Here) (sym silent) tt

-- a sector that is free after record writes in free sectors was free before them
pub free_before : {a b : Taped} → Grown a b → WritesIn (IsFreeSector (pack a)) (added a b) → (at : ℕ) → IsFreeSector (pack b) at → IsFreeSector (pack a) at
free_before {a} {b} x writes at there = back IsFreeSector free_by_sector (pack a) (pack a) (added a b) at writes refl refl (subst (λ p. IsFreeSector p at) (pack-after x) there)

-- ---- sectors that are usable
pub usable_by_sector : IsBySector IsUsableSector
usable_by_sector p q at shape same usable = sym (same_sector (λ (s : Shape) (i : ℕ) (x : Sector). is_usable s i x) p q at shape same) ∙ usable

only_usable : {T : Type 0} (usable : Bool) (one other wanted : T) → cond usable one other ≡ wanted → other ≢ wanted → usable ≡ true
only_usable true one other wanted is not = refl
only_usable false one other wanted is not = absurd (not is)

-- a free sector is one, and so is one that carries a page
pub free_usable : (p : Pack) (at : ℕ) → IsFreeSector p at → IsUsableSector p at
free_usable p at free = only_usable (is_usable p.shape at (sector_at p at)) (is_free (tag (sector_at p at).label)) false true free (λ z. cc)

pub carried_usable : (p : Pack) (at : ℕ) (page : Page) → carried p at ≡ Some page → IsUsableSector p at
carried_usable p at page carries = only_usable {T = Option Page} (is_usable p.shape at (sector_at p at)) (page_of (sector_at p at).label) None (Some page) carries (λ z. cc)

-- no call, a call that writes nothing, and two calls one after the other
pub usable_here : {told : Bool} (a : Taped) → WritesUsable told a a
usable_here a = λ told. writes_silent (IsUsableSector (pack a)) (added a a) (nothing_added a.events)

pub usable_looks : {told : Bool} {most : ℕ} {a b : Taped} → Looks told most a b → WritesUsable told a b
usable_looks {a = a} {b = b} looks = λ told. writes_silent (IsUsableSector (pack a)) (added a b) (looks.silent told)

pub usable_twice : {told : Bool} {a b c : Taped} → DiskAlone a b → DiskAlone b c → WritesUsable told a b → WritesUsable told b c → WritesUsable told a c
usable_twice x y first second = λ told. writes_then IsUsableSector usable_by_sector x.grown y.grown (first told) (second told)
