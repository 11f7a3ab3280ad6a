-- A page that isn't in use, and that no other sector carries, is made free.
use Rattle.std.proofs.Common.{◌&&◌, ◌*◌, ◌/◌, ◌<◌, ◌==◌, ◌∙◌, ◌≡◌, ◌≢◌, Bool, List, None, Option, Some, ap, arith, cond, eq-eqb, false, get_or, inl, inr, le-leb, leb-false, length, nat_le, refl, set, subst, suc, sym, take, true, zero, ℕ}
use Rattle.std.proofs.lemmas.Bool.{cases_lt}
use Rattle.std.specs.Option.{is_some, option_map}
use Rattle.pack_laws.specs.alto_words.specs.Fid.{disk_descriptor, is_directory, is_fid}
use Rattle.pack_laws.specs.alto_words.specs.declared.fid.Fid.{Fid}
use Rattle.pack_laws.specs.disk_records.specs.Addresses.{descriptor_length}
use Rattle.pack_laws.specs.disk_records.specs.Labels.{is_free, tag}
use Rattle.pack_laws.specs.disk_records.specs.Packs.{Pack, carried, is_free_at, is_usable, sector_at}
use Rattle.pack_laws.specs.disk_records.specs.declared.records.Page.{Page}
use Rattle.pack_laws.specs.pack_model.specs.reading.Bodies.{Body, body_length, body_of}
use Rattle.pack_laws.specs.pack_model.specs.reading.Bodies.Body.{data_of, items_of}
use Rattle.pack_laws.specs.pack_model.specs.reading.Bytes.{words_of}
use Rattle.pack_laws.specs.pack_model.specs.reading.Files.{carries_page, file_bytes, leader, leader_at, most_pages, page, page_at, place}
use Rattle.pack_laws.specs.pack_model.specs.states.InUse.{counts, in_use, is_place, is_within, last_page}
use Rattle.pack_laws.specs.pack_model.specs.reading.Leaders.{Leader}
use Rattle.pack_laws.specs.pack_model.specs.hints.Links.{dir_words}
use Rattle.pack_laws.specs.pack_model.specs.reading.Model.{good_one, good_sectors}
use Rattle.pack_laws.specs.pack_model.specs.reading.Sights.{Sight, page_sight, sights}
use Rattle.pack_laws.specs.pack_model.specs.reading.Sights.Sight.{free, hidden}
use Rattle.pack_laws.specs.pack_model.specs.reading.Slots.{all_words, slots}
use Rattle.pack_laws.proofs.Carrying.{carried_shown, sight_carries}
use Rattle.pack_laws.proofs.Firsts.{first_alone, first_same}
use Rattle.pack_laws.proofs.Guarding.{carried_parts, here_written, usable_within}
use Rattle.pack_laws.proofs.Joining.{Reaches, most_is}
use Rattle.pack_laws.proofs.Keys.{same_fid}
use Rattle.pack_laws.proofs.Paging.{other_number}
use Rattle.pack_laws.proofs.Placing.{carries_alike, page_of_place, place_from, short_pages}
use Rattle.pack_laws.proofs.Sighted.{length-sights}
use Rattle.laws_record.proofs.inside.Cutting.{bytes_gone}
use Rattle.laws_record.proofs.DirEnds.{ends_same}
use Rattle.laws_record.proofs.Framing.{bytes_frame, good_set}
use Rattle.laws_record.proofs.Lasting.{reaches_end}
use Rattle.laws_record.proofs.Reading.{get-found, read_file}
use Rattle.laws_record.proofs.Recording.{carried_sight, carried_within, freed_sights, number_below}
use Rattle.laws_record.proofs.Staying.{FilesStay, Stays}
use Rattle.laws_record.proofs.SystemWrites.{descriptor_pages, some_leader}
use Rattle.laws_record.proofs.Unread.{unread_release}
use Rattle.laws_record.specs.DirLaws.{UnusedRelease}
use Rattle.laws_record.specs.QuietLaws.{with_label}
use Rattle.laws_record.specs.QuietLaws.IsUnread.{leaderless, past_end}
use Rattle.laws_record.specs.ViewLaws.IsDescriptorPage.{claimed, unclaimed}

-- the only sector with a page is its place
only_place : (p : Pack) (at : ℕ) (x : Page) → carried p at ≡ Some x → ((j : ℕ) → carried p j ≡ Some x → j ≡ at) → place (sights p) x.fid x.number ≡ Some at
only_place p at x is only =
    let w = carried_within p at x is in
    place_from (sights p) x.fid x.number at (record {
      within = w;
      carries = λ d. sight_carries p at x d (subst (λ n. at < n) (length-sights p) w) is;
      lowest = λ j d l. elim (carries_page x.fid x.number (get_or (sights p) j d)) as (λ b. carries_page x.fid x.number (get_or (sights p) j d) ≡ b → b ≡ false) [
        | true ↦ λ e. absurd (let same = only j (carried_shown p j x d (subst (λ n. j < n) (length-sights p) (omega arith)) e) in omega arith)
        | false ↦ λ e. refl
      ] refl;
    })

-- the sector is free then
freed_at : (p : Pack) (at : ℕ) (label : List ℕ) → is_usable p.shape at (sector_at p at) ≡ true → is_free (tag label) ≡ true → is_free_at (with_label p at label) at ≡ true
freed_at p at label usable none =
    ap (λ s. cond (is_usable p.shape at s) (is_free (tag s.label)) false) (here_written p at 1 label (usable_within p at usable))
    ∙ ap (λ b. cond b (is_free (tag label)) false) usable ∙ none

-- one of two that isn't both
not_both : (a b : Bool) → (a && b) ≡ false → b ≡ true → a ≡ false
not_both true true e t = e
not_both true false e t = cc
not_both false b e t = refl

-- a page in its place that isn't in use doesn't count
uncounted : (p : Pack) (at : ℕ) (x : Page) → carried p at ≡ Some x → place (sights p) x.fid x.number ≡ Some at → in_use p.shape (sights p) (at, get_or (sights p) at hidden) ≡ false → counts p.shape (sights p) x.fid x.number ≡ false
uncounted p at x is bears unused =
    not_both (counts p.shape (sights p) x.fid x.number) (is_place at (place (sights p) x.fid x.number))
    (by x.number (tag (sector_at p at).label).bytes (sector_at p at).value ∙ sym (ap (λ s. in_use p.shape (sights p) (at, s)) (carried_sight p at x is)) ∙ unused)
    (ap (is_place at) bears ∙ eq-eqb at at refl)
  where
    by : (n c : ℕ) (v : List ℕ) → (counts p.shape (sights p) x.fid n && is_place at (place (sights p) x.fid n)) ≡ in_use p.shape (sights p) (at, page_sight x.fid n c v)
    by zero c v = refl
    by (suc n) c v = refl

-- ---- a page past the slots of its directory
-- it goes
slots_stay : (p : Pack) (at n : ℕ) (label : List ℕ) (d : Fid) → is_directory d ≡ true → carried p at ≡ Some (record { fid = d; number = suc n }) → ((j : ℕ) → carried p j ≡ Some (record { fid = d; number = suc n }) → j ≡ at) → is_free (tag label) ≡ true
    → all_words (slots (dir_words p d)) * 2 / 512 < n → Stays p (with_label p at label)
slots_stay p at n label d dir is only none past = elim (cases_lt (length (file_bytes ss d)) (512 * n)) [
  | inl short ↦ unread_release p at x label is none (past_end (omega arith))
  | inr long ↦ goes (reaches_end ss d n (short_pages p d) (omega arith))
]
  where
    x : Page
    x = record { fid = d; number = suc n }

    ss : List Sight
    ss = sights p

    goes : Reaches (page (sights p) d) n → Stays p (with_label p at label)
    goes reached =
        let bears = only_place p at (record { fid = d; number = suc n }) is only in
        let h = page_of_place (sights p) d n at bears in
        let parts = carried_parts p at (record { fid = d; number = suc n }) is in
        let below = number_below (sector_at p at).label (record { fid = d; number = suc n }) parts.1 in
        let most : n < most_pages = rw most_is (omega arith) in
        let us : List Sight = set (sights p) at free in
        let shown : sights (with_label p at label) ≡ us = freed_sights p at label parts.0 none in
        let pages : (g : Fid) (k : ℕ) → (is_fid g d && k == n) ≡ false → page us g k ≡ page (sights p) g k = λ g k e. first_same (page_at g k) (sights p) at free hidden (sym (ap (page_at g k) (h.shows hidden) ∙ ap (λ b. cond b (Some h.bytes) None) e)) in
        let gone : page us d n ≡ None = first_alone (page_at d n) (sights p) at free h.within (λ k e l other. alone k e (subst (λ m. k < m) (length-sights p) l) other) in
        ends_same p (with_label p at label) d (256 * n) dir refl
        (ap good_sectors shown ∙ good_set (sights p) at free hidden (sym (ap good_one (h.shows hidden))))
        (λ g. ap (λ us. leader us g) shown ∙ first_same (leader_at g) (sights p) at free hidden (sym (ap (leader_at g) (h.shows hidden))))
        (λ g e. ap (λ us. file_bytes us g) shown ∙ bytes_frame us (sights p) g (λ k r. pages g k (ap (λ b. b && k == n) e)))
        (ap (λ us. file_bytes us d) shown
        ∙ bytes_gone (sights p) us d n (short_pages p d) most reached (λ k e. pages d k (other_number (is_fid d d) k n e)) gone
        ∙ (let z : 512 * n ≡ 2 * (256 * n) = omega arith in ap (λ k. take k (file_bytes (sights p) d)) z))
        (omega arith)
      where
        alone : (k : ℕ) (e : Sight) → k < length p.sectors → k ≢ at → page_at d n (get_or (sights p) k e) ≡ None
        alone k e l other = by (page_at d n (get_or (sights p) k e)) refl
          where
            by : (r : Option (List ℕ)) → page_at d n (get_or (sights p) k e) ≡ r → page_at d n (get_or (sights p) k e) ≡ None
            by None none = none
            by (Some b) some = absurd (other (only k (carried_shown p k (record { fid = d; number = suc n }) e l (carries_alike d n (get_or (sights p) k e) ∙ ap is_some some))))

-- ---- all of it
-- DiskDescriptor's data pages aren't viewed
descriptor_release : (p : Pack) (at n : ℕ) (label : List ℕ) → carried p at ≡ Some (record { fid = disk_descriptor; number = suc n }) → is_free (tag label) ≡ true → FilesStay p (with_label p at label)
descriptor_release p at n label is none =
    descriptor_pages p at 1 label (claimed n is) (unclaimed (freed_at p at label (carried_parts p at (record { fid = disk_descriptor; number = suc n }) is).0 none))

-- a leader always counts
leader_counts : (p : Pack) (at : ℕ) (f : Fid) → carried p at ≡ Some (record { fid = f; number = 0 }) → counts p.shape (sights p) f 0 ≡ true
leader_counts p at f is =
    let x : Page = record { fid = f; number = 0 } in
    let l = some_leader (sights p) at f _ _ (carried_within p at x is) (carried_sight p at x is) in
    ap (is_within p.shape f 0) (get-found (sights p) f ∙ ap (option_map (read_file f (file_bytes (sights p) f))) l.1)
    ∙ le-leb 0 (last_page p.shape f (body_of f (file_bytes (sights p) f))) (omega arith)

-- a data page that doesn't count
data_release : (p : Pack) (at n : ℕ) (f : Fid) (label : List ℕ) → carried p at ≡ Some (record { fid = f; number = suc n }) → ((j : ℕ) → carried p j ≡ Some (record { fid = f; number = suc n }) → j ≡ at) → is_free (tag label) ≡ true
    → is_fid f disk_descriptor ≡ false → counts p.shape (sights p) f (suc n) ≡ false → Stays p (with_label p at label)
data_release p at n f label is only none other uncounted = by (leader (sights p) f) refl
  where
    by : (r : Option Leader) → leader (sights p) f ≡ r → Stays p (with_label p at label)
    by None e = unread_release p at (record { fid = f; number = suc n }) label is none (leaderless e other (omega arith))
    by (Some l) e = kind (is_directory f) refl
      where
        beyond : (body : Body) → body ≡ body_of f (file_bytes (sights p) f) → nat_le (suc n) (suc ((cond (is_fid f disk_descriptor) (descriptor_length p.shape) (body_length body)) / 512)) ≡ false
        beyond body same =
            ap (λ b. nat_le (suc n) (last_page p.shape f b)) same
            ∙ sym (ap (is_within p.shape f (suc n)) (get-found (sights p) f ∙ ap (option_map (read_file f (file_bytes (sights p) f))) e))
            ∙ uncounted

        past : (body : Body) → body ≡ body_of f (file_bytes (sights p) f) → body_length body / 512 < n
        past body same =
            let far : suc (body_length body / 512) < suc n = leb-false (suc n) (suc (body_length body / 512)) (ap (λ b. nat_le (suc n) (suc ((cond b (descriptor_length p.shape) (body_length body)) / 512))) (sym other) ∙ beyond body same) in
            omega arith

        kind : (b : Bool) → is_directory f ≡ b → Stays p (with_label p at label)
        kind true dir = slots_stay p at n label f dir is only none (past (items_of (slots (dir_words p f))) (sym (ap (λ b. cond b (items_of (slots (words_of (file_bytes (sights p) f)))) (data_of (file_bytes (sights p) f))) dir)))
        kind false ordinary =
            let far = past (data_of (file_bytes (sights p) f)) (sym (ap (λ b. cond b (items_of (slots (words_of (file_bytes (sights p) f)))) (data_of (file_bytes (sights p) f))) ordinary)) in
            unread_release p at (record { fid = f; number = suc n }) label is none (past_end (omega arith))

-- a free label in the place of a page that isn't in use
pub unused_release : UnusedRelease FilesStay
unused_release p at x label is unused only none = by x.fid x.number is only (uncounted p at x is (only_place p at x is only) unused)
  where
    by : (f : Fid) (n : ℕ) → carried p at ≡ Some (record { fid = f; number = n }) → ((j : ℕ) → carried p j ≡ Some (record { fid = f; number = n }) → j ≡ at) → counts p.shape (sights p) f n ≡ false → FilesStay p (with_label p at label)
    by f zero is only e = absurd (let clash : true ≡ false = sym (leader_counts p at f is) ∙ e in cc)
    by f (suc n) is only e = elim (is_fid f disk_descriptor) as (λ b. is_fid f disk_descriptor ≡ b → FilesStay p (with_label p at label)) [
      | true ↦ λ own. descriptor_release p at n label (is ∙ ap (λ g. Some (record { fid = g; number = suc n })) (same_fid f disk_descriptor own)) none
      | false ↦ λ other. (data_release p at n f label is only none other e).files
    ] refl
