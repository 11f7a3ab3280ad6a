-- The last page of a file, and its length by that page's label.
use Rattle.std.proofs.Common.{true, false, nat_lt, min, List, IfSome, IfNone, None, ◌≡◌, ◌≢◌, ◌⊎◌, ℕ, ◌+◌, ◌-◌, ◌/◌, ◌<◌, ◌≤◌, suc, Bool, length, Option, Some, IsTrue, inl, inr, refl, sym, ◌∙◌, ap, subst, arith}
use Rattle.std.proofs.lemmas.Bool.Decides.{nat_tests}
use Rattle.alto_words.specs.declared.fid.Fid.{Fid}
use Rattle.disk_records.specs.declared.records.Sector.{Sector}
use Rattle.disk_records.specs.declared.shape.Shape.{Shape}
use Rattle.disk_records.specs.Packs.{Pack, sector_at}
use Rattle.disk_records.specs.Words.{word}
use Rattle.disk_records.specs.Tapes.{Taped, pack}
use Rattle.hint_cache.specs.declared.cache.Entry.{Entry}
use Rattle.hint_cache.specs.Caches.{IsHighestBelow, NoneListed, address_in}
use Rattle.label_check.specs.declared.errors.PageInfo.{PageInfo}
use Rattle.laws_contents.proofs.ends.Laws.{whole_file_ends_in_a_page}
use Rattle.laws_contents.proofs.model.Laws.{leader_is_its_value}
use Rattle.laws_contents.proofs.pages.Laws.{full_before_each_of_a_whole_pack, labels_count, page_numbers_are_words}
use Rattle.laws_contents.specs.EndLaws.{EndsInAPage}
use Rattle.laws_contents.specs.PageLaws.{bytes_at}
use Rattle.laws_lookup.specs.laws_record.proofs.Carried.{carried_place}
use Rattle.laws_lookup.specs.laws_record.proofs.Copying.{place_carried}
use Rattle.pack_model.specs.hints.Handy.{leader_word}
use Rattle.pack_model.specs.operations.Committing.{page_of_byte}
use Rattle.pack_model.specs.reading.Files.{place}
use Rattle.pack_model.specs.reading.Sights.{sights}
use Rattle.pack_model.specs.states.Whole.{Whole}
use Rattle.page_seeking.specs.declared.links.Below.{Below}
use Rattle.page_seeking.specs.declared.seek.Found.{Found}
use Rattle.page_seeking.specs.Seeking.{EndsAtPage, IsLast, LastNamed, NamedNearEnd, Stands, file_length, length_at, page_number}
use Rattle.page_seeking.specs.Inside.{Ends, Known, NamesEnd, Near}
use Rattle.page_seeking.specs.Inside.Near.{after_full, at_named}
use Rattle.page_seeking.proofs.Easing.{leader_placed}
use Rattle.page_seeking.proofs.Ending.{end_is_length, end_of, same_or_less}

one : {a b : ℕ} → ◌≡◌ {A = Option ℕ} (Some a) (Some b) → a ≡ b
one e = cc

-- ---- the last page
-- the last page of a file whose leader has a place
pub ending : (p : Pack) (f : Fid) (at : ℕ) → Whole p → place (sights p) f 0 ≡ Some at → EndsInAPage p f
ending p f at whole placed = whole_file_ends_in_a_page p f whole (leader_is_its_value p f at placed).living

-- a leader that names the last page names a page near the end
pub near_of_last : {p : Pack} {f : Fid} → LastNamed p f → NamedNearEnd p f 0
near_of_last {p} {f} named =
    let number = named.number in
    record {
      leader_at = named.leader_at;
      leader = named.leader;
      first = omega (arith, number);
      at = ap (place (sights p) f) number ∙ named.at;
      near = omega (arith, number);
    }

-- and does so by its words
pub names_end : {p : Pack} {f : Fid} {la more : ℕ} {leader : Sector} → Whole p → Stands p (page_number f 0) la leader → (named : NamedNearEnd p f more) → NamesEnd p f leader (leader_word p named.leader_at 254)
names_end {p} {f} {la} {more} {leader} whole stands named =
    let same : la ≡ named.leader_at = one (sym (carried_place p whole la (page_number f 0) stands.carries) ∙ named.leader) in
    let value : leader.value ≡ (sector_at p named.leader_at).value = ap (λ (s : Sector). s.value) stands.holds ∙ ap (λ i. (sector_at p i).value) same in
    record {
      first = named.first;
      number = ap (λ l. word l 254) value;
      carries = place_carried p (page_number f (leader_word p named.leader_at 254)) _ (named.at ∙ ap (λ l. Some (word l 253)) (sym value));
    }

pub names_last : {p : Pack} {f : Fid} {la : ℕ} {leader : Sector} → Whole p → Stands p (page_number f 0) la leader → LastNamed p f → NamesEnd p f leader (page_of_byte (file_length p f))
unfolding near_of_last
names_last {p} {f} {leader = leader} whole stands named = subst (NamesEnd p f leader) named.number (names_end whole stands (near_of_last named))

-- a data page that goes on is full
pub known_full : {told : Bool} {p : Pack} {form : Shape} {f : Fid} {n number : ℕ} {found : Found} → 1 ≤ n → number ≡ n → (number ≡ 0) ⊎ (found.info.bytes ≡ 512) → Known told p form (page_number f number) found → Known told p form (page_number f n) found × (found.info.bytes ≡ 512)
known_full first is (inl zeroth) known = absurd (omega (arith, first, is, zeroth))
known_full {told} {p} {form} {f} {found = found} first is (inr full) known = (subst (λ k. Known told p form (page_number f k) found) is known, full)

-- a known data page counts as many bytes as its label says
pub counts_known : {told : Bool} {p : Pack} {form : Shape} {f : Fid} {n : ℕ} {found : Found} → Whole p → IsTrue told → 1 ≤ n → Known told p form (page_number f n) found → length (bytes_at p found.at) ≡ found.info.bytes
counts_known {p = p} {f = f} {n} {found} whole told first known =
    let above : suc (n - 1) ≡ n = omega arith in
    let sector : place (sights p) f (suc (n - 1)) ≡ Some found.at = rw above (carried_place p whole found.at (page_number f n) (known.carries told)) in
    (labels_count p f (n - 1) found.at sector).says (known.sized told) ∙ sym (ap (λ (i : PageInfo). i.bytes) (known.tells told))

-- ---- the length
-- data page 65,535 isn't full: no page would come after it
top_short : {told : Bool} {p : Pack} {form : Shape} {f : Fid} {n : ℕ} {found : Found} → Whole p → IsTrue told → Known told p form (page_number f n) found → n ≡ 65535 → found.info.bytes ≢ 512
top_short {p = p} {f = f} {n} {found} whole told known top full =
    let above : suc 65534 ≡ n = omega (arith, top) in
    let sector : place (sights p) f (suc 65534) ≡ Some found.at = ap (place (sights p) f) above ∙ carried_place p whole found.at (page_number f n) (known.carries told) in
    let low = leader_placed p f 65534 found.at whole sector in
    let e = ending p f low.0 whole low.1 in
    let counts = counts_known whole told (omega (arith, top)) known in
    let rest = e.counts in
    let most = page_numbers_are_words p f (page_of_byte (file_length p f)) e.at e.sector in
    elim (same_or_less (file_length p f / 512) 65534 (omega (arith, most))) [
      | inl last ↦
          let here : found.at ≡ e.at = one (sym sector ∙ ap (λ k. place (sights p) f (suc k)) last ∙ e.sector) in
          let same = ap (λ i. length (bytes_at p i)) here in
          omega (arith, counts, same, rest, full)
      | inr less ↦
          let early = (full_before_each_of_a_whole_pack p f 65534 found.at whole sector).each (file_length p f / 512) less in
          let here : early.at ≡ e.at = one (sym early.sector ∙ e.sector) in
          let same = ap (λ i. length (bytes_at p i)) here in
          let whole_page = early.full in
          omega (arith, same, rest, whole_page)
    ]

-- the length is what the label of the last page tells
pub ends_at : {told : Bool} {p : Pack} {form : Shape} {f : Fid} {last : ℕ} {found : Found} → Whole p → IsTrue told → Ends told p form f last found → length_at last found.info.bytes ≡ file_length p f
ends_at {p = p} {f = f} {last} {found} whole told x = by (elim x.ends [ inl short ↦ short | inr top ↦ top_short whole told x.known top ])
  where
    by : found.info.bytes ≢ 512 → length_at last found.info.bytes ≡ file_length p f
    by short = (end_is_length p f (suc last) (length_at last found.info.bytes) whole (end_of x.known told x.first (omega arith) short refl)).is

-- the page has the number and the count that the length says, and its place
pub is_last : {told : Bool} {p : Pack} {form : Shape} {f : Fid} {n : ℕ} {found : Found} → Whole p → IsTrue told → Ends told p form f n found → IsLast p f (record { number = n; at = found.at; info = found.info })
is_last {p = p} {f = f} {n} {found} whole told x =
    let first = x.first in
    let size = ends_at whole told x in
    let above : suc (n - 1) ≡ n = omega (arith, first) in
    let sector = carried_place p whole found.at (page_number f n) (x.known.carries told) in
    let most = (labels_count p f (n - 1) found.at (rw above sector)).most in
    let counts = counts_known whole told first x.known in
    let short : found.info.bytes ≢ 512 = elim x.ends [ inl short ↦ short | inr top ↦ top_short whole told x.known top ] in
    let few : found.info.bytes < 512 = omega (arith, most, counts, short) in
    record { number = omega (arith, size, first, few); bytes = omega (arith, size, first, few); placed = sector }

-- a page with that number isn't full
pub last_not_full : {told : Bool} {p : Pack} {form : Shape} {f : Fid} {n : ℕ} {found : Found} → Whole p → IsTrue told → n ≡ page_of_byte (file_length p f) → Known told p form (page_number f n) found → found.info.bytes ≢ 512
last_not_full {p = p} {f = f} {n} {found} whole told last known full =
    let above : suc (n - 1) ≡ n = omega (arith, last) in
    let sector : place (sights p) f (suc (n - 1)) ≡ Some found.at = rw above (carried_place p whole found.at (page_number f n) (known.carries told)) in
    let low = leader_placed p f (n - 1) found.at whole sector in
    let e = ending p f low.0 whole low.1 in
    let counts = counts_known whole told (omega (arith, last)) known in
    let rest = e.counts in
    let number : suc (n - 1) ≡ page_of_byte (file_length p f) = omega (arith, last) in
    let here : found.at ≡ e.at = one (sym sector ∙ ap (place (sights p) f) number ∙ e.sector) in
    let same = ap (λ i. length (bytes_at p i)) here in
    omega (arith, counts, same, rest, full)

-- and has fewer than 65,535 full pages
pub most_length : {told : Bool} {p : Pack} {form : Shape} {f : Fid} {last : ℕ} {found : Found} → Whole p → IsTrue told → Ends told p form f last found → file_length p f / 512 < 65535
most_length {p = p} {f = f} {last} {found} whole told x =
    let first = x.first in
    let above : suc (last - 1) ≡ last = omega (arith, first) in
    let sector : place (sights p) f (suc (last - 1)) ≡ Some found.at = rw above (carried_place p whole found.at (page_number f last) (x.known.carries told)) in
    let low = leader_placed p f (last - 1) found.at whole sector in
    let e = ending p f low.0 whole low.1 in
    let most = page_numbers_are_words p f (page_of_byte (file_length p f)) e.at e.sector in
    omega (arith, most)

-- ---- how many sector commands are run
-- with the page that the leader names, where it names the last one
pub few_of_last : {told : Bool} {p : Pack} {f : Fid} {n now : ℕ} {a b : Taped} {below last : Below} (old : ℕ) → Whole p → IsTrue told → pack a ≡ p → a.runs ≤ old + 1 → IsLast p f (record { number = last.number; at = last.found.at; info = last.found.info }) → n ≡ page_of_byte (file_length p f) → Near told a b f n below
    → now + below.number ≤ b.runs + last.number → now ≤ old + 2
few_of_last old whole told same leader is named (at_named at runs) climbed = let number = is.number in omega (arith, leader, number, named, at, runs, climbed)
few_of_last {told} {p} {f} {n} {a = a} old whole told_true same leader is named (after_full here known full from runs) climbed = absurd (last_not_full (subst Whole (sym same) whole) told_true (named ∙ ap (λ q. page_of_byte (file_length q f)) (sym same)) known full)

-- and where it names a page near the last one
pub few_near_end : {told : Bool} {p : Pack} {f : Fid} {n now : ℕ} {a b : Taped} {below last : Below} (more old : ℕ) → Whole p → IsTrue told → pack a ≡ p → a.runs ≤ old + 1 → IsLast p f (record { number = last.number; at = last.found.at; info = last.found.info }) → page_of_byte (file_length p f) ≤ n + more → Near told a b f n below
    → b.runs ≤ now → now + below.number ≤ b.runs + last.number → now ≤ old + (more + min more 1 + 2)
few_near_end more old whole told same leader is near (at_named at runs) rises climbed = let number = is.number in omega (arith, leader, number, near, at, runs, climbed)
few_near_end {told} {p} {f} {n} {now} {a} {b} {below} {last} more old whole told_true same leader is near (after_full here known full from runs) rises climbed = by (nat_lt 0 more) refl
  where
    by : (t : Bool) → nat_lt 0 more ≡ t → now ≤ old + (more + min more 1 + 2)
    by true e = let number = is.number in let some : 0 < more = grind (arith, nat_tests) in omega (arith, leader, number, near, from, runs, climbed, some)
    by false e =
        let number = is.number in
        let none : more ≤ 0 = grind (arith, nat_tests) in
        let named : n ≡ page_of_byte (file_length p f) = omega (arith, number, near, from, rises, climbed, none) in
        absurd (last_not_full (subst Whole (sym same) whole) told_true (named ∙ ap (λ q. page_of_byte (file_length q f)) (sym same)) known full)

-- the highest entry is the one that is answered
pub highest_is : (entries : List Entry) (f : Fid) (n : ℕ) (e : Entry) (result : Option Entry) → IfSome result (IsHighestBelow entries f n) → IfNone result (NoneListed entries f 0 n) → IsHighestBelow entries f n e → result ≡ Some e
highest_is entries f n e None some none is = absurd (unlisted (ap (address_in entries) (own is.file) ∙ none.none e.page.number (omega arith) is.below) is.listed)
  where
    own : e.page.fid ≡ f → e.page ≡ record { fid = f; number = e.page.number }
    own file = λ i. record { fid = file i; number = e.page.number }

    unlisted : {at : ℕ} → address_in entries e.page ≡ None → address_in entries e.page ≡ Some at → ⊥
    unlisted a b = cc
highest_is entries f n e (Some x) some none is = by (nat_lt x.page.number e.page.number) (nat_lt e.page.number x.page.number) refl refl
  where
    own : (y : Entry) → y.page.fid ≡ f → y.page ≡ record { fid = f; number = y.page.number }
    own y file = λ i. record { fid = file i; number = y.page.number }

    unlisted : (y : Entry) {at : ℕ} → address_in entries y.page ≡ None → address_in entries y.page ≡ Some at → ⊥
    unlisted y a b = cc

    by : (l m : Bool) → nat_lt x.page.number e.page.number ≡ l → nat_lt e.page.number x.page.number ≡ m → Some x ≡ Some e
    by true m less more = absurd (unlisted e (ap (address_in entries) (own e is.file) ∙ some.highest.none e.page.number (grind (arith, nat_tests)) is.below) is.listed)
    by false true less more = absurd (unlisted x (ap (address_in entries) (own x some.file) ∙ is.highest.none x.page.number (grind (arith, nat_tests)) some.below) some.listed)
    by false false less more =
        let same : x.page.number ≡ e.page.number = grind (arith, nat_tests) in
        let page : x.page ≡ e.page = own x some.file ∙ (λ i. record { fid = f; number = same i }) ∙ sym (own e is.file) in
        let at : x.at ≡ e.at = one (sym some.listed ∙ ap (address_in entries) page ∙ is.listed) in
        λ i. Some (record { page = page i; at = at i })

-- with the page that the cache lists
pub few_listed : {told : Bool} {p : Pack} {form : Shape} {f : Fid} {now near : ℕ} {below last : Below} (old : ℕ) → Whole p → IsTrue told → IsLast p f (record { number = last.number; at = last.found.at; info = last.found.info }) → Known told p form (page_number f below.number) below.found
    → (page_of_byte (file_length p f) ≤ below.number) ⊎ EndsAtPage below.number below.found.info.bytes → near ≤ old + 3 → now + below.number ≤ near + last.number → now ≤ old + 3
few_listed old whole told is known (inl from) runs climbed = let number = is.number in omega (arith, number, from, runs, climbed)
few_listed old whole told is known (inr ends) runs climbed =
    let number = is.number in
    let here = (is_last whole told (record { first = ends.first; known = known; ends = ends.ends })).number in
    omega (arith, number, here, runs, climbed)
