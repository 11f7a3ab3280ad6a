-- Record writes on the sectors of system files, on any pack.
use Rattle.std.proofs.Common.{Bool, List, None, Option, Some, [], ap, cond, false, get_or, length, refl, set, subst, suc, sym, take, true, ℕ, ◌&&◌, ◌<◌, ◌==◌, ◌||◌, ◌∙◌, ◌∷◌, ◌≡◌}
use Rattle.std.proofs.lemmas.List.{get_or-set_same, length-set}
use Rattle.std.specs.FinMap.{get}
use Rattle.std.specs.Option.{option_map}
use Rattle.pack_laws.specs.alto_words.specs.Fid.{disk_descriptor, is_fid, sys_dir}
use Rattle.pack_laws.specs.alto_words.specs.declared.fid.Fid.{Fid}
use Rattle.pack_laws.specs.disk_records.specs.Labels.{tag}
use Rattle.pack_laws.specs.disk_records.specs.Packs.{Pack, after, sector_at, with_part}
use Rattle.pack_laws.specs.disk_records.specs.declared.records.Event.TheVariants.{Wrote}
use Rattle.pack_laws.specs.disk_records.specs.declared.records.Page.{Page}
use Rattle.pack_laws.specs.pack_model.specs.reading.Bodies.{described}
use Rattle.pack_laws.specs.pack_model.specs.reading.Bodies.Body.{items_of}
use Rattle.pack_laws.specs.pack_model.specs.reading.Bytes.{bytes_of}
use Rattle.pack_laws.specs.pack_model.specs.reading.Files.{file_bytes, leader, leader_at}
use Rattle.pack_laws.specs.pack_model.specs.reading.Leaders.{Leader, is_readable, leader_of, leader_words}
use Rattle.pack_laws.specs.pack_model.specs.hints.Links.{dir_words}
use Rattle.pack_laws.specs.pack_model.specs.scavenger.Mended.{root_body}
use Rattle.pack_laws.specs.pack_model.specs.reading.Model.{good_one, good_sectors, read_sights}
use Rattle.pack_laws.specs.pack_model.specs.reading.Sights.{Sight, page_sight, sight, sights}
use Rattle.pack_laws.specs.pack_model.specs.reading.Sights.Sight.{hidden, leads}
use Rattle.pack_laws.specs.pack_model.specs.reading.Slots.{slots}
use Rattle.pack_laws.specs.pack_model.specs.showing.View.{view}
use Rattle.pack_laws.proofs.Firsts.{first_new, none_each}
use Rattle.pack_laws.proofs.Guarding.{free_parts}
use Rattle.pack_laws.proofs.Keys.{same_fid}
use Rattle.pack_laws.proofs.Placing.{leader_at-leads}
use Rattle.pack_laws.proofs.Sighted.{sights-write}
use Rattle.laws_record.proofs.Describing.{OnlyDescriptor, described_same, leaders_stay}
use Rattle.laws_record.proofs.Framing.{good_set}
use Rattle.laws_record.proofs.Reading.{get-found, get_by, read_file}
use Rattle.laws_record.proofs.Recording.{carried_sight, carried_within, free_sight, free_within, label_sights, value_sights}
use Rattle.laws_record.proofs.Rooting.{root_view}
use Rattle.laws_record.proofs.Staying.{FilesStay}
use Rattle.laws_record.proofs.Systemic.{MendedStay, OnlyLeader, bytes_kept, described_get, descriptor_leads, mended_files, only_free, only_leads, root_leads, root_others, system_lives}
use Rattle.laws_record.specs.QuietLaws.{with_label, with_value}
use Rattle.laws_record.specs.ViewLaws.{DescriptorLeader, DescriptorPages, FirstLeaderOfTheMainDirectory, IsDescriptorPage, SystemLeaderValue, ViewsSame}
use Rattle.laws_record.specs.ViewLaws.IsDescriptorPage.{claimed, unclaimed}

-- the view of a pack from its sights
views_from : (p q : Pack) (us : List Sight) → q.shape ≡ p.shape → sights q ≡ us → view (read_sights p.shape us) ≡ view (read_sights p.shape (sights p)) → ViewsSame p q
views_from p q us shape shown same = (λ i. view (read_sights (shape i) (shown i))) ∙ same

-- the files as the Scavenger will find them, from the sights
pub mended_from : (p q : Pack) (at : ℕ) (s : Sight) → q.shape ≡ p.shape → sights q ≡ set (sights p) at s → good_one s ≡ good_one (get_or (sights p) at hidden) → mended_files (set (sights p) at s) ≡ mended_files (sights p) → MendedStay p q
mended_from p q at s shape shown good same = record { shape = shape; good = ap good_sectors shown ∙ good_set (sights p) at s hidden good; files = ap mended_files shown ∙ same }

-- ---- data pages of DiskDescriptor
-- such a sector answers for DiskDescriptor alone
descriptor_alone : (p : Pack) (at : ℕ) → IsDescriptorPage p at → OnlyDescriptor (get_or (sights p) at hidden)
descriptor_alone p at (unclaimed is) = subst OnlyDescriptor (sym (free_sight p at is)) (record { leads = λ g. refl; holds = λ g n e. refl })
descriptor_alone p at (claimed n is) =
    subst OnlyDescriptor (sym (carried_sight p at (record { fid = disk_descriptor; number = suc n }) is))
    (record { leads = λ g. refl; holds = λ g m e. ap (λ b. cond (b && m == n) (Some (take (tag (sector_at p at).label).bytes (bytes_of (sector_at p at).value))) None) e })

-- its address is one of the pack's
descriptor_within : (p : Pack) (at : ℕ) → IsDescriptorPage p at → at < length (sights p)
descriptor_within p at (unclaimed is) = free_within p at is
descriptor_within p at (claimed n is) = carried_within p at (record { fid = disk_descriptor; number = suc n }) is

-- it counts as good
descriptor_good : (p : Pack) (at : ℕ) → IsDescriptorPage p at → good_one (get_or (sights p) at hidden) ≡ 1
descriptor_good p at (unclaimed is) = ap good_one (free_sight p at is)
descriptor_good p at (claimed n is) = ap good_one (carried_sight p at (record { fid = disk_descriptor; number = suc n }) is)

-- any record of it
pub descriptor_pages : DescriptorPages FilesStay
descriptor_pages p at part words was now =
    let q : Pack = after p (Wrote at part words ∷ []) in
    let s : Sight = sight p.shape at (with_part part words (sector_at p at)) in
    let shown : sights q ≡ set (sights p) at s = sights-write p at part words in
    let here : get_or (sights q) at hidden ≡ s = ap (λ us. get_or us at hidden) shown ∙ get_or-set_same (sights p) at s hidden (descriptor_within p at was) in
    let alone = descriptor_alone p at was in
    let after_all : OnlyDescriptor s = subst OnlyDescriptor here (descriptor_alone q at now) in
    let counts : good_one s ≡ good_one (get_or (sights p) at hidden) = ap good_one (sym here) ∙ descriptor_good q at now ∙ sym (descriptor_good p at was) in
    record {
      shape = refl;
      good = ap good_sectors shown ∙ good_set (sights p) at s hidden counts;
      leaders = λ g. ap (λ us. leader us g) shown ∙ leaders_stay (sights p) at s alone after_all g;
      files = ap described shown ∙ described_same (sights p) at s alone after_all;
    }

-- ---- leaders
-- DiskDescriptor's first leader
pub descriptor_leader : DescriptorLeader MendedStay
descriptor_leader p at label is names =
    let x : Page = record { fid = disk_descriptor; number = 0 } in
    let s : Sight = page_sight disk_descriptor 0 (tag label).bytes (sector_at p at).value in
    mended_from p (with_label p at label) at s refl (label_sights p at x label (free_parts p at is).0 names) (sym (ap good_one (free_sight p at is)))
    (descriptor_leads (sights p) at s (subst (OnlyLeader disk_descriptor) (sym (free_sight p at is)) (only_free disk_descriptor)) (only_leads disk_descriptor _ _))

-- the slots of SysDir, whatever its leader
root_slots : (ss tt : List Sight) (k l : Leader) → file_bytes tt sys_dir ≡ file_bytes ss sys_dir → leader ss sys_dir ≡ Some k → leader tt sys_dir ≡ Some l → root_body (get (described tt) sys_dir) ≡ root_body (get (described ss) sys_dir)
root_slots ss tt k l bytes was now =
    ap root_body (described_get tt sys_dir refl ∙ get_by tt sys_dir l (file_bytes ss sys_dir) now bytes)
    ∙ sym (ap root_body (described_get ss sys_dir refl ∙ get_by ss sys_dir k (file_bytes ss sys_dir) was refl))

-- some leader of a file is shown
pub some_leader : (ss : List Sight) (i : ℕ) (f : Fid) (r : Bool) (l : Leader) → i < length ss → get_or ss i hidden ≡ leads f r l → (k : Leader) × (leader ss f ≡ Some k)
some_leader ss i f r l within is = by (leader ss f) refl
  where
    by : (x : Option Leader) → leader ss f ≡ x → (k : Leader) × (leader ss f ≡ Some k)
    by (Some k) e = (k, e)
    by None e = absurd (let clash : Some l ≡ None = sym (leader_at-leads f r l) ∙ sym (ap (leader_at f) is) ∙ none_each (leader_at f) ss i hidden e within in cc)

-- SysDir's first leader
pub first_leader_of_the_main_directory : FirstLeaderOfTheMainDirectory
first_leader_of_the_main_directory p at label is names none bare =
    let x : Page = record { fid = sys_dir; number = 0 } in
    let ss : List Sight = sights p in
    let l : Leader = leader_of sys_dir (sector_at p at).value in
    let s : Sight = page_sight sys_dir 0 (tag label).bytes (sector_at p at).value in
    let tt : List Sight = set ss at s in
    let was = subst (OnlyLeader sys_dir) (sym (free_sight p at is)) (only_free sys_dir) in
    let now : OnlyLeader sys_dir s = only_leads sys_dir _ _ in
    let lead : leader tt sys_dir ≡ Some l = first_new (leader_at sys_dir) ss at s (free_within p at is) none ∙ leader_at-leads sys_dir (is_readable (leader_words (sector_at p at).value)) l in
    let bytes : file_bytes tt sys_dir ≡ file_bytes ss sys_dir = bytes_kept ss at sys_dir s was now sys_dir in
    let gone : get (described ss) sys_dir ≡ None = described_get ss sys_dir refl ∙ get-found ss sys_dir ∙ ap (option_map (read_file sys_dir (file_bytes ss sys_dir))) none in
    let here : get (described tt) sys_dir ≡ Some (record { leader = l; body = items_of (slots (dir_words p sys_dir)) }) = described_get tt sys_dir refl ∙ get_by tt sys_dir l (file_bytes ss sys_dir) lead bytes in
    views_from p (with_label p at label) tt refl (label_sights p at x label (free_parts p at is).0 names)
    (root_view p.shape ss tt (slots (dir_words p sys_dir)) l (system_lives ss at sys_dir s was now refl) gone here (root_others ss at s was now) bare)

-- any value of a system file's leader
pub system_leader_value : SystemLeaderValue MendedStay
system_leader_value p at f value system is =
    let ss : List Sight = sights p in
    let x : Page = record { fid = f; number = 0 } in
    let count : ℕ = (tag (sector_at p at).label).bytes in
    let was : get_or ss at hidden ≡ page_sight f 0 count (sector_at p at).value = carried_sight p at x is in
    let s : Sight = page_sight f 0 count value in
    let l : Leader = leader_of f value in
    let within : at < length ss = carried_within p at x is in
    let old = some_leader ss at f _ _ within was in
    let here : get_or (set ss at s) at hidden ≡ s = get_or-set_same ss at s hidden within in
    let new = some_leader (set ss at s) at f _ _ (subst (λ n. at < n) (sym (length-set ss at s)) within) here in
    mended_from p (with_value p at value) at s refl (value_sights p at x value is) (sym (ap good_one was))
    (by f (is_fid f sys_dir) (is_fid f disk_descriptor) refl refl system ss s (subst (OnlyLeader f) (sym was) (only_leads f _ _)) (only_leads f _ _) old.0 new.0 old.1 new.1)
  where
    by : (f : Fid) (a b : Bool) → is_fid f sys_dir ≡ a → is_fid f disk_descriptor ≡ b → (a || b) ≡ true → (ss : List Sight) (s : Sight) → OnlyLeader f (get_or ss at hidden) → OnlyLeader f s → (k l : Leader) → leader ss f ≡ Some k → leader (set ss at s) f ≡ Some l
        → mended_files (set ss at s) ≡ mended_files ss
    by f false false x y e ss s was now k l lead lead2 = cc
    by f false true x y e ss s was now k l lead lead2 =
        let same : f ≡ disk_descriptor = same_fid f disk_descriptor y in
        descriptor_leads ss at s (subst (λ g. OnlyLeader g (get_or ss at hidden)) same was) (subst (λ g. OnlyLeader g s) same now)
    by f true b x y e ss s was now k l lead lead2 =
        let same : f ≡ sys_dir = same_fid f sys_dir x in
        let was2 = subst (λ g. OnlyLeader g (get_or ss at hidden)) same was in
        let now2 = subst (λ g. OnlyLeader g s) same now in
        root_leads ss at s was2 now2
        (root_slots ss (set ss at s) k l (bytes_kept ss at sys_dir s was2 now2 sys_dir) (ap (leader ss) (sym same) ∙ lead) (ap (leader (set ss at s)) (sym same) ∙ lead2))
