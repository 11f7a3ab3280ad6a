-- Pages whose hints are handy: what is tried first is right.
use Rattle.std.proofs.Common.{◌≡◌, ◌≢◌, ℕ, suc, ◌-◌, ◌<◌, ◌≤◌, Bool, List, [], ◌∷◌, Option, Some, None, Result, Ok, Err, IsTrue, get_or, inl, inr, refl, sym, ◌∙◌, ap, subst, arith}
use Rattle.std.specs.Prelude.{map}
use Rattle.std.proofs.lemmas.List.Elements.{All-cons, All-map, All-nil}
use Rattle.alto_words.specs.declared.fid.Fid.{Fid}
use Rattle.disk_records.specs.declared.records.Page.{Page}
use Rattle.disk_records.specs.declared.records.Sector.{Sector}
use Rattle.disk_records.specs.Packs.{Pack, carried}
use Rattle.disk_records.specs.Tapes.{Taped, pack}
use Rattle.disk_records.specs.Words.{word}
use Rattle.disk_records.proofs.Looking.{looks_pack}
use Rattle.hint_cache.specs.declared.cache.Entry.{Entry}
use Rattle.hint_cache.specs.Caches.{Cached, address_in}
use Rattle.label_check.specs.declared.errors.LookError.{LookError}
use Rattle.laws_contents.proofs.pages.Laws.{full_before_each_of_a_whole_pack}
use Rattle.laws_lookup.specs.laws_record.proofs.Carried.{carried_place, place_of_carried, seat_in}
use Rattle.laws_lookup.specs.laws_record.proofs.Copying.{place_carried}
use Rattle.laws_lookup.specs.pack_laws.proofs.Keys.{is_fid-itself}
use Rattle.laws_lookup.specs.pack_laws.proofs.Placing.{page_of_place}
use Rattle.pack_model.specs.hints.Handy.{HandyCache, IsRightOrIdle, NamesLastPage, last_at_word, last_number_word, leader_word, row_word}
use Rattle.pack_model.specs.hints.Links.{LinksTrue}
use Rattle.pack_model.specs.reading.Files.{carries_page, place}
use Rattle.pack_model.specs.reading.Sights.{Sight, sights}
use Rattle.pack_model.specs.reading.Sights.Sight.{hidden, holds}
use Rattle.pack_model.specs.states.Whole.{FileWhole, Whole, absent, present}
use Rattle.page_seeking.specs.declared.seek.Found.{Found}
use Rattle.page_seeking.specs.Seeking.{IsInARow, KeepsHandy, Quick, QuickCache, Stands, all_listed, as_listed, page_number}
use Rattle.page_seeking.specs.Inside.{Eases, Finds, HandyEntries, IfMissed, IsHandyEntry, IsNoneOr, LeadsTo, Sought}
use Rattle.page_seeking.proofs.Handing.{placed_within}
use Rattle.page_seeking.proofs.Recalling.{of_listed}

-- ---- entries
-- the listed address of a page that is there is its sector
pub right_entry : (p : Pack) (f : Fid) (n i at : ℕ) (entries : List Entry) → HandyEntries p f entries → address_in entries (page_number f n) ≡ Some i → place (sights p) f n ≡ Some at → i ≡ at
right_entry p f n i at entries handy listed placed = elim (of_listed (IsHandyEntry (sights p) f) (page_number f n) i entries listed handy refl) [ inl is ↦ one (sym is ∙ placed) | inr none ↦ absurd (no (sym none ∙ placed)) ]
  where
    one : {a b : ℕ} → ◌≡◌ {A = Option ℕ} (Some a) (Some b) → a ≡ b
    one e = cc

    no : {b : ℕ} → ◌≡◌ {A = Option ℕ} None (Some b) → ⊥
    no e = cc

-- a page that was missed by the cache isn't listed there
pub passed_free : {P : Type 0} (p : Pack) (f : Fid) (n at : ℕ) (cache : Cached) → Finds p f n at cache → (address_in cache.entries (page_number f n) ≡ None → P) → ((i : ℕ) → address_in cache.entries (page_number f n) ≡ Some i → carried p i ≡ Some (page_number f n) → ⊥) → P
passed_free {P} p f n at cache finds free here = by (address_in cache.entries (page_number f n)) refl
  where
    by : (o : Option ℕ) → address_in cache.entries (page_number f n) ≡ o → P
    by None e = free e
    by (Some i) e = absurd (here i e (ap (carried p) (right_entry p f n i at cache.entries finds.entries e finds.placed) ∙ place_carried p (page_number f n) at finds.placed))

-- what is handy for a page finds it
pub finds_eased : {p : Pack} {f : Fid} {n at : ℕ} {c : Cached} → Eases p f n at c → Finds p f n at c
finds_eased x = record { entries = x.entries; placed = x.placed }

-- ---- pages of a whole file
-- a page before one that is there is there
placed_below : (p : Pack) (f : Fid) (n at m : ℕ) → Whole p → place (sights p) f n ≡ Some at → 1 ≤ m → m < n → (i : ℕ) × (place (sights p) f m ≡ Some i)
placed_below p f n at m whole placed first below =
    let last : suc (n - 1) ≡ n = omega arith in
    let sector : place (sights p) f (suc (n - 1)) ≡ Some at = rw last placed in
    let full = (full_before_each_of_a_whole_pack p f (n - 1) at whole sector).each (m - 1) (omega arith) in
    let number : suc (m - 1) ≡ m = omega arith in
    (full.at, ap (place (sights p) f) (sym number) ∙ full.sector)

-- and so is the leader
pub leader_placed : (p : Pack) (f : Fid) (n at : ℕ) → Whole p → place (sights p) f (suc n) ≡ Some at → (i : ℕ) × (place (sights p) f 0 ≡ Some i)
leader_placed p f n at whole placed = let h = page_of_place (sights p) f n at placed in by (whole.files f) h.bytes (h.shows hidden)
  where
    by : FileWhole (sights p) f → (bytes : List ℕ) → get_or (sights p) at hidden ≡ holds f n bytes → (i : ℕ) × (place (sights p) f 0 ≡ Some i)
    by (absent h c) bytes is = absurd (seat_in (sights p) f [] c n at bytes is)
    by (present i l pages h c laid few) bytes is = (i, place_of_carried (sights p) f (present i l pages h c laid few) 0 i (ap (carries_page f 0) h.shows ∙ is_fid-itself f))

-- the sector of a listed page before one that is there carries it
pub listed_right : (p : Pack) (f : Fid) (n at : ℕ) (entries : List Entry) (e : Entry) → Whole p → place (sights p) f n ≡ Some at → HandyEntries p f entries → e.page.fid ≡ f → 1 ≤ e.page.number → e.page.number < n → address_in entries e.page ≡ Some e.at
    → carried p e.at ≡ Some e.page
listed_right p f n at entries e whole placed handy own first below listed =
    let is : e.page ≡ page_number f e.page.number = λ i. record { fid = own i; number = e.page.number } in
    let low = placed_below p f n at e.page.number whole placed first below in
    let same = right_entry p f e.page.number e.at low.0 entries handy (ap (address_in entries) (sym is) ∙ listed) low.1 in
    ap (carried p) same ∙ place_carried p (page_number f e.page.number) low.0 low.1 ∙ ap Some (sym is)

-- ---- a file over several calls
-- hints stay handy
pub eases_later : {told : Bool} {k : ℕ} {a b : Taped} {c d : Cached} {f : Fid} {n at : ℕ} → Sought told k a b c d → IsTrue told → Eases (pack a) f n at c → Eases (pack b) f n at d
eases_later {a = a} {b} {c} {d} {f} {n} {at} sought told x = subst (λ (p : Pack). Eases p f n at d) (sym (looks_pack sought.looks told)) (record { whole = x.whole; links = x.links; hints = x.hints; entries = sought.handy told x.whole x.links f x.entries; placed = x.placed })

-- those of a data page are handy for its leader
pub eases_leader : {p : Pack} {f : Fid} {n at : ℕ} {c : Cached} → 1 ≤ n → Eases p f n at c → (i : ℕ) × Eases p f 0 i c
eases_leader {p} {f} {n} {at} {c} first x =
    let number : suc (n - 1) ≡ n = omega arith in
    let low = leader_placed p f (n - 1) at x.whole (rw number x.placed) in
    (low.0, record { whole = x.whole; links = x.links; hints = x.hints; entries = x.entries; placed = low.1 })

-- what the leader says of the page isn't wrong
pub leads_to : {p : Pack} {f : Fid} {n at la : ℕ} {c : Cached} {leader : Sector} → 1 ≤ n → Eases p f n at c → Stands p (page_number f 0) la leader → LeadsTo leader la n at
leads_to {p} {f} {n} {at} {la} {c} {leader} first x stands =
    let led : place (sights p) f 0 ≡ Some la = carried_place p x.whole la (page_number f 0) stands.carries in
    let number : suc (n - 1) ≡ n = omega arith in
    let within = placed_within p f (n - 1) at (rw number x.placed) in
    let few = p.shape.most_pages in
    record {
      small = omega (arith, within, few);
      lies = elim (x.hints.row la led) [ inl none ↦ inl (ap (λ (s : Sector). word s.value row_word) stands.holds ∙ none) | inr row ↦ inr (row n at x.placed) ];
      ends = λ is. named is (x.hints.last la led);
    }
  where
    one : {a b : ℕ} → ◌≡◌ {A = Option ℕ} (Some a) (Some b) → a ≡ b
    one e = cc

    no : {b : ℕ} → ◌≡◌ {A = Option ℕ} None (Some b) → ⊥
    no e = cc

    value : (k : ℕ) → word leader.value k ≡ leader_word p la k
    value k = ap (λ (s : Sector). word s.value k) stands.holds

    named : word leader.value last_number_word ≡ n → NamesLastPage (sights p) f (leader_word p la last_number_word) (leader_word p la last_at_word) → word leader.value last_at_word ≡ at
    named is h =
        let same : leader_word p la last_number_word ≡ n = sym (value last_number_word) ∙ is in
        let there : place (sights p) f (leader_word p la last_number_word) ≡ Some at = ap (place (sights p) f) same ∙ x.placed in
        elim h [
          | inl zeroth ↦ absurd (omega (arith, same, zeroth))
          | inr found ↦ elim found [ inl right ↦ value last_at_word ∙ one (sym right ∙ there) | inr idle ↦ absurd (no (sym idle ∙ there)) ]
        ]

-- the flag that is set on the pack is set in the leader that was read
pub row_set : {p : Pack} {f : Fid} {la : ℕ} {leader : Sector} → Whole p → Stands p (page_number f 0) la leader → IsInARow p f → word leader.value row_word ≢ 0
row_set {p} {f} {la} {leader} whole stands row zeroth =
    let same : la ≡ row.leader_at = one (sym (carried_place p whole la (page_number f 0) stands.carries) ∙ row.leader) in
    let value : word leader.value row_word ≡ leader_word p row.leader_at row_word = ap (λ (s : Sector). word s.value row_word) stands.holds ∙ ap (λ i. leader_word p i row_word) same in
    row.set (sym value ∙ zeroth)
  where
    one : {a b : ℕ} → ◌≡◌ {A = Option ℕ} (Some a) (Some b) → a ≡ b
    one e = cc

-- ---- what a caller sees
handy_entries : (p : Pack) (f : Fid) (entries : List Entry) → HandyCache (sights p) f (map as_listed entries) → HandyEntries p f entries
handy_entries p f [] h = All-nil (IsHandyEntry (sights p) f)
handy_entries p f (x ∷ xs) h = All-cons (IsHandyEntry (sights p) f) x xs (h 0 (x.page, x.at) (omega arith)) (handy_entries p f xs (λ k d lt. h (suc k) d (omega arith)))

pub keeps_handy : {told : Bool} {n : ℕ} {a b : Taped} {c d : Cached} → Sought told n a b c d → IsTrue told → KeepsHandy (pack a) c d
keeps_handy {a = a} {c = c} {d} x told whole links f h = All-map (IsRightPair (sights (pack a)) f) as_listed d.entries (x.handy told whole links f (handy_entries (pack a) f c.entries h))
  where
    IsRightPair : List Sight → Fid → Page × ℕ → Type 0
    IsRightPair ss f e = e.0.fid ≡ f → IsRightOrIdle ss f e.0.number e.1

pub keeps_handy_twice : (p q : Pack) (c d e : Cached) → q ≡ p → KeepsHandy p c d → KeepsHandy q d e → KeepsHandy p c e
keeps_handy_twice p q c d e same one two whole links f handy =
    let mid = subst (λ (x : Pack). HandyCache (sights x) f (all_listed d)) (sym same) (one whole links f handy) in
    subst (λ (x : Pack). HandyCache (sights x) f (all_listed e)) same (two (subst Whole (sym same) whole) (subst LinksTrue (sym same) links) f mid)

-- the hints of a page that is carried are handy
pub eases_of : {p : Pack} {f : Fid} {n at : ℕ} {c : Cached} → Quick p f c → carried p at ≡ Some (page_number f n) → Eases p f n at c
eases_of {p} {f} {n} {at} {c} quick carries =
    record {
      whole = quick.whole;
      links = quick.links;
      hints = record { row = quick.handy.row; last = quick.handy.last; cached = λ k d lt. absurd (omega (arith, lt)) };
      entries = handy_entries p f c.entries quick.handy.cached;
      placed = carried_place p quick.whole at (page_number f n) carries;
    }

-- a handy cache finds a page that is carried
pub finds_of : {p : Pack} {f : Fid} {n at : ℕ} {c : Cached} → QuickCache p f c → carried p at ≡ Some (page_number f n) → Finds p f n at c
finds_of {p} {f} {n} {at} {c} quick carries = record { entries = handy_entries p f c.entries quick.cached; placed = carried_place p quick.whole at (page_number f n) carries }

-- handy hints are handy on the pack as it is after a call that only looked
pub quick_later : {p q : Pack} {f : Fid} {c d : Cached} → q ≡ p → KeepsHandy p c d → Quick p f c → Quick q f d
quick_later {f = f} {d = d} same keeps quick =
    let handy = quick.handy in
    subst (λ (x : Pack). Quick x f d) (sym same) (record {
      whole = quick.whole;
      links = quick.links;
      handy = record { row = handy.row; last = handy.last; cached = keeps quick.whole quick.links f handy.cached };
    })

pub quick_cache : {p : Pack} {f : Fid} {c : Cached} → Quick p f c → QuickCache p f c
quick_cache quick = record { whole = quick.whole; links = quick.links; cached = quick.handy.cached }

-- ---- hints that may be passed over
-- a hint that is right, if there is one, isn't missed: so there is none
pub free_or : {R : Type 0} (a : Option ℕ) (at : ℕ) → IsNoneOr at a → (a ≡ None → R) → (a ≡ Some at → ⊥) → R
free_or a at (inl none) free here = free none
free_or a at (inr is) free here = absurd (here is)

-- what is missed by such a hint takes no sector command
pub missed_or : {R : Type 0} (result : Result (Option Found) LookError) (a : Option ℕ) (at : ℕ) → IsNoneOr at a → (a ≡ None → R) → (a ≡ Some at → IfMissed result ⊥) → IfMissed result R
missed_or (Ok (Some f)) a at which free here = tt
missed_or (Ok None) a at which free here = free_or a at which free here
missed_or (Err e) a at which free here = tt
