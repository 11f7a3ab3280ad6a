-- Preparing the second drive, record write by record write.
use Rattle.std.proofs.Common.{Bool, List, None, Option, Some, [], ap, arith, cond, false, get_or, inl, inr, length, refl, set, subst, suc, sym, true, zero, ℕ, ◌*◌, ◌+◌, ◌++◌, ◌<◌, ◌∙◌, ◌∷◌, ◌≡◌, ◌≢◌, ◌≤◌, ◌⊎◌, append_assoc}
use Rattle.std.proofs.lemmas.Bool.{cases_lt}
use Rattle.std.proofs.lemmas.List.{append-nil}
use Rattle.std.proofs.Math.ListN.{length-set}
use Rattle.std.specs.FinMap.{retain_keys}
use Rattle.laws_hint.specs.alto_words.specs.declared.fid.Fid.{Fid}
use Rattle.laws_hint.specs.disk_records.specs.Addresses.{cylinders_of, pages_of}
use Rattle.laws_hint.specs.disk_records.specs.Commands.{ones}
use Rattle.laws_hint.specs.disk_records.specs.Labels.{in_range, is_free, page_of, tag}
use Rattle.laws_hint.specs.disk_records.specs.Packs.{Pack, after, carried, crash, is_usable, sector_at, with_part}
use Rattle.laws_hint.specs.disk_records.specs.declared.records.Page.{Page}
use Rattle.laws_hint.specs.disk_records.specs.declared.records.Sector.{Sector}
use Rattle.laws_hint.specs.disk_records.specs.declared.shape.Shape.{Shape}
use Rattle.laws_hint.specs.pack_model.specs.reading.Bodies.{Files, described, is_described}
use Rattle.laws_hint.specs.pack_model.specs.reading.Files.{file_bytes, leader, leader_at, lives, page_at}
use Rattle.laws_hint.specs.pack_model.specs.reading.Model.{read_sights}
use Rattle.laws_hint.specs.pack_model.specs.reading.Namings.{tidied}
use Rattle.laws_hint.specs.pack_model.specs.reading.Sights.{Sight, page_sight, sight, sights, tag_sight}
use Rattle.laws_hint.specs.pack_model.specs.reading.Sights.Sight.{free, hidden, stray}
use Rattle.laws_hint.specs.pack_model.specs.showing.Settling.{settle}
use Rattle.laws_hint.specs.pack_model.specs.showing.View.{view}
use Rattle.laws_hint.specs.pack_laws.proofs.Firsts.{first_same}
use Rattle.laws_hint.specs.pack_laws.proofs.Guarding.{free_shown, free_unnamed, here_written, ones_free, other_kept}
use Rattle.laws_hint.specs.pack_laws.proofs.Sighted.{length-sights, sights-get, sights-write}
use Rattle.laws_record.proofs.Framing.{bytes_same, lives_same}
use Rattle.laws_record.proofs.Reading.{found_frame}
use Rattle.laws_record.proofs.Unread.{stray_release}
use Rattle.laws_record.proofs.Unseen.{sights_kept}
use Rattle.laws_record.specs.QuietLaws.{ReadsSame, with_label, with_value}
use Rattle.laws_record.specs.ViewLaws.{ViewsSame}
use Rattle.laws_format.proofs.inside.Sighting.{headed_usable}
use Rattle.laws_format.specs.Preparing.{FreeHeader, PreparingFreesTheDrive, PreparingGoesOn, PreparingShowsSame, UnusedValue, drive_pages, prepared_sector, prepared_writes, preparing_writes, with_header}

-- ---- a value of a sector that carries no page
-- it shows nothing of its value
value_unseen : (p : Pack) (at : ℕ) (value : List ℕ) → carried p at ≡ None → sight p.shape at (with_part 2 value (sector_at p at)) ≡ sight p.shape at (sector_at p at)
unfolding sight
value_unseen p at value none = by (sector_at p at) (is_usable p.shape at (sector_at p at)) (in_range (tag (sector_at p at).label)) none
  where
    by : (s : Sector) (u r : Bool) → cond {A = Option Page} u (cond r (Some (record { fid = (tag s.label).fid; number = (tag s.label).page })) None) None ≡ None
        → cond u (cond r (page_sight (tag s.label).fid (tag s.label).page (tag s.label).bytes value) (cond (is_free (tag s.label)) free stray)) hidden
        ≡ cond u (cond r (page_sight (tag s.label).fid (tag s.label).page (tag s.label).bytes s.value) (cond (is_free (tag s.label)) free stray)) hidden
    by s false r none = refl
    by s true true none = cc
    by s true false none = refl

pub unused_value_reads_same : UnusedValue ReadsSame
unused_value_reads_same p at value none = ap (read_sights p.shape) (sights_kept p at 2 value (value_unseen p at value none))

-- ---- a header of a sector with a free label
-- it shows nothing but that it is free
data IsBlank (s : Sight) : Type 0 where
  dark : s ≡ hidden → IsBlank s
  blank : s ≡ free → IsBlank s

blank_of : (shape : Shape) (at : ℕ) (s : Sector) → is_free (tag s.label) ≡ true → IsBlank (sight shape at s)
unfolding sight
blank_of shape at s none = by (is_usable shape at s)
  where
    by : (u : Bool) → IsBlank (cond u (tag_sight (tag s.label) s.value) hidden)
    by true = blank (free_shown (tag s.label) s.value none)
    by false = dark refl

-- an address is among sights, or shows nothing
here_or_none : (ss : List Sight) (at : ℕ) → (at < length ss) ⊎ (get_or ss at hidden ≡ hidden)
here_or_none [] at = inr refl
here_or_none (s ∷ ss) zero = inl (omega arith)
here_or_none (s ∷ ss) (suc at) = elim (here_or_none ss at) [ inl l ↦ inl (omega arith) | inr e ↦ inr e ]

blank_here : (p : Pack) (at : ℕ) → is_free (tag (sector_at p at).label) ≡ true → IsBlank (get_or (sights p) at hidden)
blank_here p at none = elim (here_or_none (sights p) at) [
  | inl l ↦ subst IsBlank (sym (sights-get p at hidden (subst (λ n. at < n) (length-sights p) l))) (blank_of p.shape at (sector_at p at) none)
  | inr e ↦ dark e
]

-- so it answers for no leader and for no page
no_leader_at : (f : Fid) (s : Sight) → IsBlank s → leader_at f s ≡ None
no_leader_at f s (dark e) = ap (leader_at f) e
no_leader_at f s (blank e) = ap (leader_at f) e

no_page_at : (f : Fid) (n : ℕ) (s : Sight) → IsBlank s → page_at f n s ≡ None
no_page_at f n s (dark e) = ap (page_at f n) e
no_page_at f n s (blank e) = ap (page_at f n) e

-- the same files, the same view, however many sectors are good
view_by_files : (shape : Shape) (g h l k : ℕ) (a b : Files) → a ≡ b → view (record { shape = shape; good = g; last = l; files = a }) ≡ view (record { shape = shape; good = h; last = k; files = b })
unfolding view
view_by_files shape g h l k a b e = ap (λ files. view (record { shape = shape; good = g; last = l; files = files })) e

-- the same leaders and the same bytes, the same files
view_by_bytes : (shape : Shape) (ss tt : List Sight) → ((f : Fid) → leader ss f ≡ leader tt f) → ((f : Fid) → file_bytes ss f ≡ file_bytes tt f) → view (read_sights shape ss) ≡ view (read_sights shape tt)
unfolding read_sights
view_by_bytes shape ss tt leaders bytes =
    view_by_files shape _ _ _ _ _ _
    (ap (λ v. tidied v (described ss)) (lives_same ss tt leaders)
    ∙ ap (λ m. tidied (lives tt) (retain_keys m is_described)) (found_frame ss tt leaders (λ f lives. bytes f)))

pub free_header_views_same : FreeHeader ViewsSame
free_header_views_same p at header none =
    let s : Sight = sight p.shape at (with_part 0 header (sector_at p at)) in
    let before = blank_here p at none in
    let now = blank_of p.shape at (with_part 0 header (sector_at p at)) none in
    ap (λ ss. view (read_sights p.shape ss)) (sights-write p at 0 header)
    ∙ view_by_bytes p.shape (set (sights p) at s) (sights p)
    (λ f. first_same (leader_at f) (sights p) at s hidden (no_leader_at f s now ∙ sym (no_leader_at f (get_or (sights p) at hidden) before)))
    (λ f. bytes_same (sights p) at s f (λ n. no_page_at f n s now ∙ sym (no_page_at f n (get_or (sights p) at hidden) before)))

-- ---- one sector
-- a free label names no page
unnamed : (p : Pack) (at : ℕ) → is_free (tag (sector_at p at).label) ≡ true → carried p at ≡ None
unnamed p at none = by (is_usable p.shape at (sector_at p at))
  where
    by : (u : Bool) → cond u (page_of (sector_at p at).label) None ≡ None
    by true = free_unnamed (sector_at p at).label none
    by false = refl

module _ (p : Pack) (number at : ℕ) (within : at < length p.sectors) where
  abbrev header : List ℕ
  header = (prepared_sector p.shape number at).header

  abbrev p1 : Pack
  p1 = with_label p at (ones 8)

  abbrev p2 : Pack
  p2 = with_value p1 at (ones 256)

  abbrev p3 : Pack
  p3 = with_header p2 at header

  abbrev p4 : Pack
  p4 = with_label p3 at (ones 8)

  abbrev p5 : Pack
  p5 = with_value p4 at (ones 256)

  -- as many sectors throughout
  sized1 : length p1.sectors ≡ length p.sectors
  sized1 = length-set p.sectors at _

  sized2 : length p2.sectors ≡ length p.sectors
  sized2 = length-set p1.sectors at _ ∙ sized1

  sized3 : length p3.sectors ≡ length p.sectors
  sized3 = length-set p2.sectors at _ ∙ sized2

  sized4 : length p4.sectors ≡ length p.sectors
  sized4 = length-set p3.sectors at _ ∙ sized3

  sized5 : length p5.sectors ≡ length p.sectors
  sized5 = length-set p4.sectors at _ ∙ sized4

  here : (n : ℕ) → n ≡ length p.sectors → at < n
  here n e = omega arith

  -- what the sector holds after each record write
  sector1 : sector_at p1 at ≡ with_part 1 (ones 8) (sector_at p at)
  sector1 = here_written p at 1 (ones 8) within

  sector2 : sector_at p2 at ≡ with_part 2 (ones 256) (sector_at p1 at)
  sector2 = here_written p1 at 2 (ones 256) (here (length p1.sectors) sized1)

  sector3 : sector_at p3 at ≡ with_part 0 header (sector_at p2 at)
  sector3 = here_written p2 at 0 header (here (length p2.sectors) sized2)

  sector4 : sector_at p4 at ≡ with_part 1 (ones 8) (sector_at p3 at)
  sector4 = here_written p3 at 1 (ones 8) (here (length p3.sectors) sized3)

  sector5 : sector_at p5 at ≡ with_part 2 (ones 256) (sector_at p4 at)
  sector5 = here_written p4 at 2 (ones 256) (here (length p4.sectors) sized4)

  -- from the first on its label is free
  free1 : is_free (tag (sector_at p1 at).label) ≡ true
  free1 = ap (λ s. is_free (tag s.label)) sector1 ∙ ones_free

  free2 : is_free (tag (sector_at p2 at).label) ≡ true
  free2 = ap (λ s. is_free (tag s.label)) sector2 ∙ free1

  free3 : is_free (tag (sector_at p3 at).label) ≡ true
  free3 = ap (λ s. is_free (tag s.label)) sector3 ∙ free2

  free4 : is_free (tag (sector_at p4 at).label) ≡ true
  free4 = ap (λ s. is_free (tag s.label)) sector4 ∙ ones_free

  -- at the end it is the prepared one, and all others are as before
  prepared_here : sector_at p5 at ≡ prepared_sector p.shape number at
  prepared_here = sector5 ∙ ap (with_part 2 (ones 256)) (sector4 ∙ ap (with_part 1 (ones 8)) sector3)

  others_kept : (i : ℕ) → i ≢ at → sector_at p5 i ≡ sector_at p i
  others_kept i other =
      other_kept p4 at 2 (ones 256) i other
      ∙ other_kept p3 at 1 (ones 8) i other
      ∙ other_kept p2 at 0 header i other
      ∙ other_kept p1 at 2 (ones 256) i other
      ∙ other_kept p at 1 (ones 8) i other

  others_carried : (i : ℕ) → i ≢ at → carried p5 i ≡ carried p i
  others_carried i other = ap (λ s. cond (is_usable p.shape i s) (page_of s.label) None) (others_kept i other)

  -- what is viewed after each record write, where the sector carried no page
  module _ (none : carried p at ≡ None) where
    views1 : ViewsSame p p1
    views1 = ap view (stray_release p at (ones 8) none ones_free).read

    views2 : ViewsSame p p2
    views2 = ap view (unused_value_reads_same p1 at (ones 256) (unnamed p1 at free1)) ∙ views1

    views3 : ViewsSame p p3
    views3 = free_header_views_same p2 at header free2 ∙ views2

    views4 : ViewsSame p p4
    views4 = ap view (stray_release p3 at (ones 8) (unnamed p3 at free3) ones_free).read ∙ views3

    views5 : ViewsSame p p5
    views5 = ap view (unused_value_reads_same p4 at (ones 256) (unnamed p4 at free4)) ∙ views4

-- ---- sectors in a row
views_in_a_row : (number n at k : ℕ) (p : Pack) → at + n ≤ length p.sectors → ((i : ℕ) → at ≤ i → i < at + n → carried p i ≡ None) → ViewsSame p (crash p (preparing_writes p.shape number at n) k)
views_in_a_row number zero at zero p within unused = refl
views_in_a_row number zero at (suc k) p within unused = refl
views_in_a_row number (suc n) at zero p within unused = refl
views_in_a_row number (suc n) at (suc zero) p within unused = views1 p number at (omega arith) (unused at (omega arith) (omega arith))
views_in_a_row number (suc n) at (suc (suc zero)) p within unused = views2 p number at (omega arith) (unused at (omega arith) (omega arith))
views_in_a_row number (suc n) at (suc (suc (suc zero))) p within unused = views3 p number at (omega arith) (unused at (omega arith) (omega arith))
views_in_a_row number (suc n) at (suc (suc (suc (suc zero)))) p within unused = views4 p number at (omega arith) (unused at (omega arith) (omega arith))
views_in_a_row number (suc n) at (suc (suc (suc (suc (suc k))))) p within unused =
    let low : at < length p.sectors = omega arith in
    let size = sized5 p number at low in
    views_in_a_row number n (suc at) k (p5 p number at low) (omega (arith, size))
    (λ i above below. let other : i ≢ at = omega arith in others_carried p number at low i other ∙ unused i (omega arith) (omega arith))
    ∙ views5 p number at low (unused at (omega arith) (omega arith))

-- what so many sectors are afterwards
record AreFreed (number n at : ℕ) (p q : Pack) : Type 0 where
  below : (i : ℕ) → i < at → sector_at q i ≡ sector_at p i
  among : (i : ℕ) → at ≤ i → i < at + n → sector_at q i ≡ prepared_sector p.shape number i

freed_in_a_row : (number n at : ℕ) (p : Pack) → at + n ≤ length p.sectors → AreFreed number n at p (after p (preparing_writes p.shape number at n))
freed_in_a_row number zero at p within = record { below = λ i low. refl; among = λ i above low. absurd (omega arith) }
freed_in_a_row number (suc n) at p within =
    let low : at < length p.sectors = omega arith in
    let size = sized5 p number at low in
    let q : Pack = p5 p number at low in
    let later = freed_in_a_row number n (suc at) q (omega (arith, size)) in
    record {
      below = λ i under. let other : i ≢ at = omega arith in later.below i (omega arith) ∙ others_kept p number at low i other;
      among = λ i above under. elim (cases_lt at i) [
        | inl after ↦ later.among i (omega arith) (omega arith)
        | inr upto ↦ (let same : at ≡ i = omega arith in subst (λ k. sector_at (after q (preparing_writes p.shape number (suc at) n)) k ≡ prepared_sector p.shape number k) same (later.below at (omega arith) ∙ prepared_here p number at low))
      ];
    }

-- ---- the second drive
two_drives : (p : Pack) → p.shape.disks ≡ 2 → pages_of p.shape ≡ drive_pages p.shape + drive_pages p.shape
two_drives p two = let e = ap (λ d. d * cylinders_of p.shape * 24) two in omega (arith, e)

pub preparing_shows_same : PreparingShowsSame
preparing_shows_same p number k two sized unused =
    let both = two_drives p two in
    ap settle (views_in_a_row number (drive_pages p.shape) (drive_pages p.shape) k p (omega (arith, both, sized)) (λ i above below. unused i above (omega (arith, both))))

pub preparing_frees_the_drive : PreparingFreesTheDrive
preparing_frees_the_drive p number two sized =
    let both = two_drives p two in
    let all = freed_in_a_row number (drive_pages p.shape) (drive_pages p.shape) p (omega (arith, both, sized)) in
    let least = p.shape.least in
    record {
      first = all.below;
      frees = λ at above below.
          ap (λ s. cond (is_usable p.shape at s) (is_free (tag s.label)) false) (all.among at above (omega (arith, both)))
          ∙ ap (λ b. cond b (is_free (tag (ones 8))) false) (headed_usable p.shape number at (ones 8, ones 256) (omega (arith, least)) below)
          ∙ ones_free;
    }

pub preparing_goes_on : PreparingGoesOn
preparing_goes_on shape number at zero next is =
    let same : next ≡ at = omega arith in append-nil (prepared_writes shape number at) ∙ ap (prepared_writes shape number) (sym same)
preparing_goes_on shape number at (suc n) next is =
    let later : next ≡ suc at + n = omega arith in
    ap (λ events. prepared_writes shape number at ++ events) (preparing_goes_on shape number (suc at) n next later)
    ∙ sym (append_assoc (prepared_writes shape number at) (preparing_writes shape number (suc at) n) (prepared_writes shape number next))
