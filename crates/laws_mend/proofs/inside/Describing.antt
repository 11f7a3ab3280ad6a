-- The pages of DiskDescriptor are made.
use Rattle.std.proofs.Common.{◌*◌, ◌-◌, ◌/◌, ◌<◌, ◌∙◌, ◌≡◌, ◌≢◌, ◌⊎◌, Bool, List, None, Option, Some, ap, arith, eq-eqb, false, get_or, inl, inr, length, min, refl, subst, suc, sym, take, true, ℕ}
use Rattle.std.proofs.lemmas.Bool.{cases_eq}
use Rattle.std.proofs.lemmas.List.{get_or-set_other, get_or-set_same}
use Rattle.std.specs.Option.{is_some, option_map}
use Rattle.std.specs.Prelude.{◌&&◌}
use Rattle.laws_room.specs.alto_words.specs.declared.fid.Fid.{Fid}
use Rattle.laws_room.specs.alto_words.specs.Fid.{disk_descriptor, is_fid}
use Rattle.laws_room.specs.disk_records.specs.Addresses.{descriptor_length}
use Rattle.laws_room.specs.disk_records.specs.Commands.{claim_writes, relabel_writes}
use Rattle.laws_room.specs.disk_records.specs.Labels.{tag}
use Rattle.laws_room.specs.disk_records.specs.Packs.{Pack, after, carried, sector_at}
use Rattle.laws_room.specs.disk_records.specs.declared.records.Page.{Page}
use Rattle.laws_room.specs.disk_records.specs.declared.records.Sector.{Sector}
use Rattle.laws_room.specs.disk_records.specs.declared.shape.Shape.{Shape}
use Rattle.laws_room.specs.pack_model.specs.reading.Bytes.{bytes_of}
use Rattle.laws_room.specs.pack_model.specs.reading.Files.{carries_page, file_bytes, leader, lives, place}
use Rattle.laws_room.specs.pack_model.specs.reading.Leaders.{Leader}
use Rattle.laws_room.specs.pack_model.specs.reading.Sights.{Sight, sights}
use Rattle.laws_room.specs.pack_model.specs.reading.Sights.Sight.{free, hidden, holds, leads, stray}
use Rattle.laws_room.specs.pack_model.specs.reading.Slots.{SlotsReachEnd}
use Rattle.laws_room.specs.pack_model.specs.sessions.Descriptor.{data_pages}
use Rattle.laws_room.specs.pack_model.specs.states.InUse.{counts, in_use, is_good, is_place, is_within}
use Rattle.laws_room.specs.pack_model.specs.states.Sentences.{HasLastPage, IsUsed}
use Rattle.laws_room.specs.pack_laws.proofs.guards.Laws.{claim_takes_at_the_label, relabel_keeps_the_page}
use Rattle.laws_room.specs.pack_laws.proofs.Keys.{is_fid-itself, same_fid}
use Rattle.laws_room.specs.pack_laws.proofs.Placing.{one_page, page_of_place, place_none}
use Rattle.laws_room.specs.pack_laws.specs.GuardLaws.{ComesToHold}
use Rattle.laws_room.specs.laws_contents.proofs.ends.Laws.{last_page_ends_the_file}
use Rattle.laws_room.specs.laws_contents.specs.PageLaws.{FullBefore}
use Rattle.laws_room.specs.laws_record.proofs.Carried.{carries_within}
use Rattle.laws_room.specs.laws_record.proofs.Copying.{place_carried}
use Rattle.laws_room.specs.laws_record.proofs.DirReads.{not_descriptor}
use Rattle.laws_room.specs.laws_record.proofs.Ends.{counts_none}
use Rattle.laws_room.specs.laws_record.proofs.Reading.{get-found, read_file}
use Rattle.laws_room.specs.laws_record.proofs.Recording.{carried_sight, carried_within, free_sight}
use Rattle.laws_mend.proofs.inside.Alike.{counts_alike}
use Rattle.laws_mend.proofs.inside.Availing.{same_in_use}
use Rattle.laws_mend.proofs.inside.Completed.{claimed_aside, claimed_cleared, claimed_others, claimed_place}
use Rattle.laws_mend.proofs.inside.Counted.{carried_in_use, led_counts}
use Rattle.laws_mend.proofs.inside.Filed.{bytes_by_places, lives_by_place, lives_place}
use Rattle.laws_mend.proofs.inside.Freed.{rewritten_places, same_carried}
use Rattle.laws_mend.proofs.inside.LackedDescriptor.{living_used}
use Rattle.laws_mend.specs.PartLaws.{DescribedIsLasting, DescriptorClaimLeaves, DescriptorCountLeaves, DescriptorLeaderMakesLasting, DescriptorPageWritten, IsDescribed}
use Rattle.laws_mend.specs.Parts.{Cleared, Lasting, Rooted, RootedBut}

-- ---- pages that count
-- of DiskDescriptor only whether it lives counts
counts_but : (shape : Shape) (ss tt : List Sight) (f : Fid) (n : ℕ) → lives tt f ≡ lives ss f → (is_fid f disk_descriptor ≡ false → file_bytes tt f ≡ file_bytes ss f) → counts shape tt f n ≡ counts shape ss f n
counts_but shape ss tt f n live bytes = by (is_fid f disk_descriptor) refl
  where
    own : (x y : List ℕ) (a b : Option Leader) → is_some a ≡ is_some b → is_within shape disk_descriptor n (option_map (read_file disk_descriptor x) a) ≡ is_within shape disk_descriptor n (option_map (read_file disk_descriptor y) b)
    own x y None None e = refl
    own x y None (Some b) e = absurd (let c : false ≡ true = e in cc)
    own x y (Some a) None e = absurd (let c : true ≡ false = e in cc)
    own x y (Some a) (Some b) e = refl

    by : (b : Bool) → is_fid f disk_descriptor ≡ b → counts shape tt f n ≡ counts shape ss f n
    by false e = counts_alike shape ss tt f n live (bytes e)
    by true e =
        let same = same_fid f disk_descriptor e in
        subst (λ g. counts shape tt g n ≡ counts shape ss g n) (sym same)
        (ap (is_within shape disk_descriptor n) (get-found tt disk_descriptor)
        ∙ own (file_bytes tt disk_descriptor) (file_bytes ss disk_descriptor) (leader tt disk_descriptor) (leader ss disk_descriptor) (ap (lives tt) (sym same) ∙ live ∙ ap (lives ss) same)
        ∙ sym (ap (is_within shape disk_descriptor n) (get-found ss disk_descriptor)))

-- of a file that doesn't live no page does
dead_counts : (p : Pack) (n : ℕ) → lives (sights p) disk_descriptor ≡ false → counts p.shape (sights p) disk_descriptor n ≡ false
dead_counts p n dead = by (leader (sights p) disk_descriptor) refl
  where
    by : (l : Option Leader) → leader (sights p) disk_descriptor ≡ l → counts p.shape (sights p) disk_descriptor n ≡ false
    by None e = counts_none p.shape (sights p) disk_descriptor n e
    by (Some l) e = absurd (let c : true ≡ false = sym (ap is_some e) ∙ dead in cc)

-- a sector in use is so where each page that makes it so does there
pub use_alike : (shape : Shape) (ss tt : List Sight) (i : ℕ) (x : Sight) → ((f : Fid) (n : ℕ) → (counts shape ss f n && is_place i (place ss f n)) ≡ true → (counts shape tt f n && is_place i (place tt f n)) ≡ true) → in_use shape ss (i, x) ≡ true → in_use shape tt (i, x) ≡ true
use_alike shape ss tt i hidden h e = e
use_alike shape ss tt i free h e = e
use_alike shape ss tt i stray h e = e
use_alike shape ss tt i (leads f r l) h e = h f 0 e
use_alike shape ss tt i (holds f k b) h e = h f (suc k) e

-- ---- a data page is written
-- what is known of both packs
record Written (p q : Pack) (at n : ℕ) : Type 0 where
  shape : q.shape ≡ p.shape
  here : place (sights q) disk_descriptor (suc n) ≡ Some at
  others : (f : Fid) (m : ℕ) → (f ≡ disk_descriptor → m ≡ suc n → ⊥) → place (sights q) f m ≡ place (sights p) f m
  aside : (k : ℕ) → k ≢ at → sector_at q k ≡ sector_at p k
  shown : (k : ℕ) → k ≢ at → get_or (sights q) k hidden ≡ get_or (sights p) k hidden
  pages : (k : ℕ) → k ≢ at → carried q k ≡ carried p k
  elsewhere : (f : Fid) (m k : ℕ) → (f ≡ disk_descriptor → m ≡ n → ⊥) → place (sights p) f (suc m) ≡ Some k → k ≢ at
  cleared : Cleared p → Cleared q
  placed : (i : ℕ) (f : Fid) (m : ℕ) → i ≢ at → carries_page f m (get_or (sights p) i hidden) ≡ true → place (sights q) f m ≡ place (sights p) f m
  root : RootedBut p → 1 ≢ at

-- the sector is free or in use, or it carries a data page of DiskDescriptor
abbrev UsedAt : Pack → ℕ → Type 0
UsedAt q i = IsUsed q.shape (sights q) i ⊎ ((m : ℕ) × (m < data_pages q.shape) × (carried q i ≡ Some (record { fid = disk_descriptor; number = suc m })))

-- another file isn't DiskDescriptor
apart_from : (f : Fid) → is_fid f disk_descriptor ≡ false → f ≡ disk_descriptor → ⊥
apart_from f e same = let c : true ≡ false = sym (is_fid-itself disk_descriptor) ∙ ap (λ g. is_fid g disk_descriptor) (sym same) ∙ e in cc

module _ (p q : Pack) (at n : ℕ) (w : Written p q at n) where
  lives_stay : (f : Fid) → lives (sights q) f ≡ lives (sights p) f
  lives_stay f = lives_by_place (sights p) (sights q) f (w.others f 0 (λ same number. omega arith))

  bytes_stay : (f : Fid) → is_fid f disk_descriptor ≡ false → file_bytes (sights q) f ≡ file_bytes (sights p) f
  bytes_stay f other = bytes_by_places (sights p) (sights q) f (λ m. w.others f (suc m) (λ same _. apart_from f other same)) (λ m k e. w.shown k (w.elsewhere f m k (λ same _. apart_from f other same) e))

  counted : (f : Fid) (m : ℕ) → counts p.shape (sights q) f m ≡ counts p.shape (sights p) f m
  counted f m = counts_but p.shape (sights p) (sights q) f m (lives_stay f) (bytes_stay f)

  described_still : (m : ℕ) → m ≢ n → IsDescribed p m → IsDescribed q m
  described_still m other d =
      let apart : disk_descriptor ≡ disk_descriptor → m ≡ n → ⊥ = λ _ same. other same in
      record {
        at = d.at;
        sector = w.others disk_descriptor (suc m) (λ _ same. other (omega arith)) ∙ d.sector;
        counts = ap (λ (s : Sector). length (take (tag s.label).bytes (bytes_of s.value))) (w.aside d.at (w.elsewhere disk_descriptor m d.at apart d.sector)) ∙ d.counts ∙ ap (λ s. min 512 (descriptor_length s - 512 * m)) (sym w.shape);
      }

  rooted_still : UsedAt q at → RootedBut p → RootedBut q
  rooted_still here r = record {
    ended = record {
      cleared = w.cleared r.ended.cleared;
      directories = λ d live dir. subst SlotsReachEnd (sym (bytes_stay d (not_descriptor d dir))) (r.ended.directories d (sym (lives_stay d) ∙ live) dir);
    };
    used = each;
    root = (r.root.0, r.root.1, w.shown 1 (w.root r) ∙ r.root.2);
  }
    where
      still : (i : ℕ) → i ≢ at → IsUsed p.shape (sights p) i → IsUsed q.shape (sights q) i
      still i other was good = by (was (ap is_good (sym (w.shown i other)) ∙ good))
        where
          apart : (f : Fid) (m : ℕ) → carries_page f m (get_or (sights p) i hidden) ≡ true → is_place i (place (sights q) f m) ≡ is_place i (place (sights p) f m)
          apart f m has = ap (is_place i) (w.placed i f m other has)

          by : (get_or (sights p) i hidden ≡ free) ⊎ (in_use p.shape (sights p) (i, get_or (sights p) i hidden) ≡ true) → (get_or (sights q) i hidden ≡ free) ⊎ (in_use q.shape (sights q) (i, get_or (sights q) i hidden) ≡ true)
          by (inl e) = inl (w.shown i other ∙ e)
          by (inr e) = inr
              (ap (λ s. in_use s (sights q) (i, get_or (sights q) i hidden)) w.shape
              ∙ ap (λ x. in_use p.shape (sights q) (i, x)) (w.shown i other)
              ∙ same_in_use p.shape (sights p) (sights q) i (get_or (sights p) i hidden) counted apart
              ∙ e)

      each : (i : ℕ) → UsedAt q i
      each i = elim (cases_eq i at) [
        | inl same ↦ subst (UsedAt q) (sym same) here
        | inr other ↦ elim (r.used i) [
          | inl used ↦ inl (still i other used)
          | inr x ↦ inr (x.0, subst (λ s. x.0 < data_pages s) (sym w.shape) x.1, w.pages i other ∙ x.2)
        ]
      ]

  -- all of it
  page_written : (RootedBut p → UsedAt q at) → DescriptorPageWritten p q at n
  page_written here = record {
    here = w.here;
    others = w.others;
    lives_are = lives_stay;
    bytes_are = bytes_stay;
    described = described_still;
    described_here = λ size. record { at = at; sector = w.here; counts = size ∙ ap (λ s. min 512 (descriptor_length s - 512 * n)) (sym w.shape) };
    rooted = λ r. rooted_still (here r) r;
  }

-- a data page that is missing is claimed
pub descriptor_claim_leaves : DescriptorClaimLeaves
descriptor_claim_leaves p at n label value is aside_root names less lacks =
    let page : Page = record { fid = disk_descriptor; number = suc n } in
    let q : Pack = after p (claim_writes at label value) in
    let c : ComesToHold at page label value p q = (claim_takes_at_the_label p at page label value 3 is names).taken (omega arith) in
    let w : Written p q at n = record {
      shape = refl;
      here = claimed_place p q at page (tag label).bytes value is lacks c.shown;
      others = claimed_others p q at page (tag label).bytes value is lacks c.shown;
      aside = c.others;
      shown = claimed_aside p q at page (tag label).bytes value is lacks c.shown;
      pages = c.pages;
      elsewhere = λ f m k apart e same. free_holds f m k e same;
      cleared = claimed_cleared p q at page (tag label).bytes value is lacks c.shown;
      placed = λ i f m other has. claimed_others p q at page (tag label).bytes value is lacks c.shown f m (λ x y.
          let none : place (sights p) f m ≡ None = (λ k. place (sights p) (x k) (y k)) ∙ lacks in
          let e : true ≡ false = sym has ∙ place_none (sights p) f m i hidden none (carries_within (sights p) f m i has) in cc);
      root = λ r same. aside_root (sym same);
    } in
    page_written p q at n w (λ r. inr (n, less, c.page_here))
  where
    free_holds : (f : Fid) (m k : ℕ) → place (sights p) f (suc m) ≡ Some k → k ≡ at → ⊥
    free_holds f m k e same =
        let h = page_of_place (sights p) f m k e in
        let x : holds f m h.bytes ≡ free = sym (h.shows hidden) ∙ ap (λ j. get_or (sights p) j hidden) same ∙ free_sight p at is in cc

-- one that is there gets another count
pub descriptor_count_leaves : DescriptorCountLeaves
descriptor_count_leaves p at n label is names =
    let page : Page = record { fid = disk_descriptor; number = suc n } in
    let value : List ℕ = (sector_at p at).value in
    let q : Pack = after p (relabel_writes at label value) in
    let here : carried p at ≡ Some page = place_carried p page at is in
    let c : ComesToHold at page label value p q = relabel_keeps_the_page p at page label 2 here names (omega arith) in
    let places : (f : Fid) (m : ℕ) → place (sights q) f m ≡ place (sights p) f m = rewritten_places p q at page (tag label).bytes value here c.shown in
    let aside : (k : ℕ) → k ≢ at → get_or (sights q) k hidden ≡ get_or (sights p) k hidden =
    λ k other. ap (λ us. get_or us k hidden) c.shown ∙ get_or-set_other (sights p) at k (holds disk_descriptor n (take (tag label).bytes (bytes_of value))) hidden other in
    let held : get_or (sights q) at hidden ≡ holds disk_descriptor n (take (tag label).bytes (bytes_of value)) =
    ap (λ us. get_or us at hidden) c.shown ∙ get_or-set_same (sights p) at (holds disk_descriptor n (take (tag label).bytes (bytes_of value))) hidden (carried_within p at page here) in
    let was : (i : ℕ) (f : Fid) (m : ℕ) → carries_page f m (get_or (sights q) i hidden) ≡ true → carries_page f m (get_or (sights p) i hidden) ≡ true =
    λ i f m x. elim (cases_eq i at) [
      | inl same ↦
          ap (λ k. carries_page f m (get_or (sights p) k hidden)) same ∙ ap (carries_page f m) (carried_sight p at page here)
          ∙ same_carried f disk_descriptor m (suc n) (tag (sector_at p at).label).bytes (tag label).bytes value value
          ∙ sym (ap (carries_page f m) held) ∙ sym (ap (λ k. carries_page f m (get_or (sights q) k hidden)) same) ∙ x
      | inr other ↦ sym (ap (carries_page f m) (aside i other)) ∙ x
    ] in
    let w : Written p q at n = record {
      shape = refl;
      here = places disk_descriptor (suc n) ∙ is;
      others = λ f m apart. places f m;
      aside = c.others;
      shown = aside;
      pages = c.pages;
      elsewhere = λ f m k apart e same. (let one = one_page (sights p) f disk_descriptor (suc m) (suc n) at (e ∙ ap Some same) is in apart one.0 (let z = one.1 in omega arith));
      cleared = λ r. record {
        once = λ f m i j x y. r.once f m i j (was i f m x) (was j f m y);
        no_stray = λ i e. elim (cases_eq i at) [
          | inl same ↦ (let x : holds disk_descriptor n (take (tag label).bytes (bytes_of value)) ≡ stray = sym held ∙ ap (λ k. get_or (sights q) k hidden) (sym same) ∙ e in cc)
          | inr other ↦ r.no_stray i (sym (aside i other) ∙ e)
        ];
      };
      placed = λ i f m other has. places f m;
      root = λ r same. (let x = carried_sight p at page here in let y = ap (λ k. get_or (sights p) k hidden) same in let z = r.root.2 in cc);
    } in
    page_written p q at n w (λ r. elim (r.used at) [
      | inr x ↦ inr (x.0, x.1, c.page_here ∙ sym here ∙ x.2)
      | inl used ↦ inl (λ good. elim (used (ap is_good (carried_sight p at page here))) [
        | inl e ↦ absurd (let x = carried_sight p at page here in cc)
        | inr e ↦ inr
            (carried_in_use q at page c.page_here
            ∙ (λ i. counted p q at n w disk_descriptor (suc n) i && is_place at (places disk_descriptor (suc n) i))
            ∙ sym (carried_in_use p at page here) ∙ e)
      ])
    ])

-- ---- all of them
-- the length is that of the format
module _ (p : Pack) (d : (n : ℕ) → n < data_pages p.shape → IsDescribed p n) where
  described_before : FullBefore p disk_descriptor (descriptor_length p.shape / 512)
  described_before = record {
    each = λ j less.
        let h = d j (omega arith) in
        let c = h.counts in
        record { at = h.at; sector = h.sector; full = omega arith };
  }

  described_size : length (file_bytes (sights p) disk_descriptor) ≡ descriptor_length p.shape
  described_size =
      let h = d (descriptor_length p.shape / 512) (omega arith) in
      let c = h.counts in
      let e = (last_page_ends_the_file p disk_descriptor (descriptor_length p.shape / 512) h.at described_before h.sector (inl (omega arith))).size in
      omega arith

  described_last : HasLastPage (sights p) disk_descriptor
  described_last = let h = d (descriptor_length p.shape / 512) (omega arith) in ap is_some (ap (λ n. place (sights p) disk_descriptor (suc (n / 512))) described_size ∙ h.sector)

lasting_of : (p : Pack) → Rooted p → ((n : ℕ) → n < data_pages p.shape → IsDescribed p n) → ((f : Fid) → lives (sights p) f ≡ true → is_fid f disk_descriptor ≡ false → HasLastPage (sights p) f) → lives (sights p) disk_descriptor ≡ true → Lasting p
lasting_of p rooted d last live = record {
  rooted = rooted;
  last_pages = λ f alive. by f alive (is_fid f disk_descriptor) refl;
  descriptor_lives = live;
  descriptor_size = described_size p d;
}
  where
    by : (f : Fid) → lives (sights p) f ≡ true → (b : Bool) → is_fid f disk_descriptor ≡ b → HasLastPage (sights p) f
    by f alive false e = last f alive e
    by f alive true e = subst (HasLastPage (sights p)) (sym (same_fid f disk_descriptor e)) (described_last p d)

pub described_is_lasting : DescribedIsLasting
described_is_lasting p h live = lasting_of p (record { used = living_used p h.rooted live; root = h.rooted.root }) h.described h.last_pages live

-- ---- the leader page
pub descriptor_leader_makes_lasting : DescriptorLeaderMakesLasting
descriptor_leader_makes_lasting p at label value h is aside_root names lacks =
    let page : Page = record { fid = disk_descriptor; number = 0 } in
    let q : Pack = after p (claim_writes at label value) in
    let c : ComesToHold at page label value p q = (claim_takes_at_the_label p at page label value 3 is names).taken (omega arith) in
    let here : place (sights q) disk_descriptor 0 ≡ Some at = claimed_place p q at page (tag label).bytes value is lacks c.shown in
    let others = claimed_others p q at page (tag label).bytes value is lacks c.shown in
    let aside = claimed_aside p q at page (tag label).bytes value is lacks c.shown in
    let elsewhere : (f : Fid) (m k : ℕ) → place (sights p) f (suc m) ≡ Some k → k ≢ at = λ f m k e same.
    (let s = page_of_place (sights p) f m k e in let x : holds f m s.bytes ≡ free = sym (s.shows hidden) ∙ ap (λ j. get_or (sights p) j hidden) same ∙ free_sight p at is in cc) in
    let bytes : (f : Fid) → file_bytes (sights q) f ≡ file_bytes (sights p) f = λ f. bytes_by_places (sights p) (sights q) f (λ m. others f (suc m) (λ x y. omega arith)) (λ m k e. aside k (elsewhere f m k e)) in
    let lived : (f : Fid) → is_fid f disk_descriptor ≡ false → lives (sights q) f ≡ lives (sights p) f = λ f other. lives_by_place (sights p) (sights q) f (others f 0 (λ same _. apart_from f other same)) in
    let live : lives (sights q) disk_descriptor ≡ true = lives_place (sights q) disk_descriptor ∙ ap is_some here in
    let dead : lives (sights p) disk_descriptor ≡ false = lives_place (sights p) disk_descriptor ∙ ap is_some lacks in
    let cleared = claimed_cleared p q at page (tag label).bytes value is lacks c.shown h.rooted.ended.cleared in
    let but : RootedBut q = record {
      ended = record {
        cleared = cleared;
        directories = λ d alive dir. subst SlotsReachEnd (sym (bytes d)) (h.rooted.ended.directories d (sym (lived d (not_descriptor d dir)) ∙ alive) dir);
      };
      used = λ i. elim (cases_eq i at) [
        | inl same ↦ inl (λ good. inr
            (ap (λ k. in_use q.shape (sights q) (k, get_or (sights q) k hidden)) same
            ∙ carried_in_use q at page c.page_here
            ∙ (λ j. leads_count (leader (sights q) disk_descriptor) refl live j && is_place at (here j))
            ∙ eq-eqb at at refl))
        | inr other ↦ elim (h.rooted.used i) [
          | inr x ↦ inr (x.0, x.1, c.pages i other ∙ x.2)
          | inl used ↦ inl (λ good. still i other (used (ap is_good (sym (aside i other)) ∙ good)) aside others lived bytes dead)
        ]
      ];
      root = (h.rooted.root.0, h.rooted.root.1, aside 1 (λ same. aside_root (sym same)) ∙ h.rooted.root.2);
    } in
    lasting_of q (record { used = living_used q but live; root = but.root })
    (λ n less. let d = h.described n less in record {
      at = d.at;
      sector = others disk_descriptor (suc n) (λ x y. omega arith) ∙ d.sector;
      counts = ap (λ (s : Sector). length (take (tag s.label).bytes (bytes_of s.value))) (c.others d.at (elsewhere disk_descriptor n d.at d.sector)) ∙ d.counts;
    })
    (λ f alive other. ap is_some (ap (λ b. place (sights q) f (suc (length b / 512))) (bytes f) ∙ others f (suc (length (file_bytes (sights p) f) / 512)) (λ x y. omega arith)) ∙ h.last_pages f (sym (lived f other) ∙ alive) other)
    live
  where
    leads_count : (l : Option Leader) → leader (sights (after p (claim_writes at label value))) disk_descriptor ≡ l → lives (sights (after p (claim_writes at label value))) disk_descriptor ≡ true → counts p.shape (sights (after p (claim_writes at label value))) disk_descriptor 0 ≡ true
    leads_count None e live = absurd (let c : false ≡ true = sym (ap is_some e) ∙ live in cc)
    leads_count (Some l) e live = led_counts (after p (claim_writes at label value)) disk_descriptor l e

    -- a sector that was in use carries a page of another file
    still : (i : ℕ) → i ≢ at → (get_or (sights p) i hidden ≡ free) ⊎ (in_use p.shape (sights p) (i, get_or (sights p) i hidden) ≡ true)
        → ((k : ℕ) → k ≢ at → get_or (sights (after p (claim_writes at label value))) k hidden ≡ get_or (sights p) k hidden)
        → ((f : Fid) (n : ℕ) → (f ≡ disk_descriptor → n ≡ 0 → ⊥) → place (sights (after p (claim_writes at label value))) f n ≡ place (sights p) f n)
        → ((f : Fid) → is_fid f disk_descriptor ≡ false → lives (sights (after p (claim_writes at label value))) f ≡ lives (sights p) f)
        → ((f : Fid) → file_bytes (sights (after p (claim_writes at label value))) f ≡ file_bytes (sights p) f)
        → lives (sights p) disk_descriptor ≡ false
        → (get_or (sights (after p (claim_writes at label value))) i hidden ≡ free) ⊎ (in_use p.shape (sights (after p (claim_writes at label value))) (i, get_or (sights (after p (claim_writes at label value))) i hidden) ≡ true)
    still i other (inl e) aside others lived bytes dead = inl (aside i other ∙ e)
    still i other (inr e) aside others lived bytes dead = inr
        (ap (λ x. in_use p.shape (sights (after p (claim_writes at label value))) (i, x)) (aside i other) ∙ use_alike p.shape (sights p) (sights (after p (claim_writes at label value))) i (get_or (sights p) i hidden) test e)
      where
        test : (f : Fid) (n : ℕ) → (counts p.shape (sights p) f n && is_place i (place (sights p) f n)) ≡ true → (counts p.shape (sights (after p (claim_writes at label value))) f n && is_place i (place (sights (after p (claim_writes at label value))) f n)) ≡ true
        test f n is = by (is_fid f disk_descriptor) refl
          where
            by : (b : Bool) → is_fid f disk_descriptor ≡ b → (counts p.shape (sights (after p (claim_writes at label value))) f n && is_place i (place (sights (after p (claim_writes at label value))) f n)) ≡ true
            by false apart =
                (λ j. counts_alike p.shape (sights p) (sights (after p (claim_writes at label value))) f n (lived f apart) (bytes f) j && is_place i (others f n (λ same _. apart_from f apart same) j)) ∙ is
            by true same =
                let none : counts p.shape (sights p) f n ≡ false = ap (λ g. counts p.shape (sights p) g n) (same_fid f disk_descriptor same) ∙ dead_counts p n dead in
                absurd (let x : true ≡ false = sym is ∙ ap (λ b. b && is_place i (place (sights p) f n)) none in cc)
