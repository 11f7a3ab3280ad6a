-- What guarded commands keep of directories and leader pages.
use Rattle.std.proofs.Common.{◌≡◌, ◌⊎◌, inl, inr, ℕ, suc, ◌==◌, ◌&&◌, Bool, true, false, cond, List, [], ◌∷◌, take, Option, Some, None, refl, sym, ap, subst, ◌∙◌, arith}
use Rattle.std.specs.Option.{is_some}
use Rattle.alto_words.specs.declared.fid.Fid.{Fid}
use Rattle.alto_words.specs.Fid.{is_directory, is_fid, sys_dir}
use Rattle.disk_records.specs.declared.records.Event.{Event}
use Rattle.disk_records.specs.declared.records.Page.{Page}
use Rattle.disk_records.specs.Commands.{claim_writes, release_writes}
use Rattle.disk_records.specs.Labels.{page_of, tag}
use Rattle.disk_records.specs.Packs.{Pack, after, carried, is_free_at}
use Rattle.pack_model.specs.hints.Links.{dir_words}
use Rattle.pack_model.specs.reading.Bytes.{bytes_of, words_of}
use Rattle.pack_model.specs.reading.Files.{file_bytes, leader_at, lives, page_at, place}
use Rattle.pack_model.specs.reading.Leaders.{Leader, leader_of}
use Rattle.pack_model.specs.reading.Sights.{Sight, page_sight, sights}
use Rattle.pack_model.specs.reading.Sights.Sight.{hidden}
use Rattle.pack_model.specs.reading.Slots.{slots}
use Rattle.pack_model.specs.reading.Slots.Item.{space}
use Rattle.laws_mend.specs.pack_laws.specs.GuardLaws.{ComesToHold}
use Rattle.laws_mend.specs.pack_laws.proofs.files.Laws.{places_are_lowest}
use Rattle.laws_mend.specs.pack_laws.proofs.guards.Laws.{claim_takes_at_the_label, release_frees_at_the_label}
use Rattle.laws_mend.specs.pack_laws.proofs.Firsts.{first_same}
use Rattle.laws_mend.specs.pack_laws.proofs.Keys.{same_fid}
use Rattle.laws_mend.specs.laws_record.proofs.Framing.{bytes_same}
use Rattle.laws_mend.specs.laws_record.proofs.Recording.{free_sight}
use Rattle.laws_mend.specs.laws_operation.proofs.places.Laws.{file_lives_in_a_place}
use Rattle.laws_mend.specs.Parts.{SameFiles}
use Rattle.scav_pages.specs.Changes.{AllMend}
use Rattle.scav_pages.specs.Fresh.{fresh_leader}
use Rattle.scav_pages.specs.Keeping.{KeepsFiles, KeepsLeaders, Leads, RootIsNew}
use Rattle.scav_pages.proofs.Changing.{nothing_mends}
use Rattle.scav_pages.proofs.Leading.{free_carries, leaders_beside, leaders_claimed, leaders_here, leaders_join, leaders_released, leaders_shown, leading, other_number}

-- ---- from one pack to the next
pub keeps_here : (p : Pack) → KeepsFiles p p
keeps_here p = record { living = λ f live. live; leaders = leaders_here p; slots_are = λ d live dir. refl; root = λ dead. inl dead }

pub keeps_join : {p q r : Pack} → KeepsFiles p q → KeepsFiles q r → KeepsFiles p r
keeps_join x y = record {
  living = λ f live. y.living f (x.living f live);
  leaders = leaders_join x.leaders y.leaders;
  slots_are = λ d live dir. y.slots_are d (x.living d live) dir ∙ x.slots_are d live dir;
  root = λ dead. elim (x.root dead) [
    | inl still ↦ y.root still
    | inr made ↦ inr (y.living sys_dir made.0, y.slots_are sys_dir made.0 refl ∙ made.1)
  ];
}

-- the same files live
pub keeps_slots : {p q : Pack} → ((f : Fid) → lives (sights q) f ≡ lives (sights p) f) → KeepsLeaders p q → ((d : Fid) → lives (sights p) d ≡ true → is_directory d ≡ true → slots (dir_words q d) ≡ slots (dir_words p d)) → KeepsFiles p q
keeps_slots lives_are leaders slots_are = record { living = λ f live. lives_are f ∙ live; leaders = leaders; slots_are = slots_are; root = λ dead. inl (lives_are sys_dir ∙ dead) }

-- and directories with the same bytes
pub keeps_bytes : {p q : Pack} → ((f : Fid) → lives (sights q) f ≡ lives (sights p) f) → KeepsLeaders p q → ((d : Fid) → lives (sights p) d ≡ true → is_directory d ≡ true → file_bytes (sights q) d ≡ file_bytes (sights p) d) → KeepsFiles p q
keeps_bytes lives_are leaders bytes_are = keeps_slots lives_are leaders (λ d live dir. ap (λ bytes. slots (words_of bytes)) (bytes_are d live dir))

pub keeps_files : {p q : Pack} → SameFiles p q → KeepsLeaders p q → KeepsFiles p q
keeps_files same leaders = keeps_bytes same.lives_are leaders (λ d live dir. same.bytes_are d)

pub keeps_shown : {p q : Pack} → sights q ≡ sights p → KeepsFiles p q
keeps_shown same = keeps_bytes (λ f. ap (λ ss. lives ss f) same) (leaders_shown same) (λ d live dir. ap (λ ss. file_bytes ss d) same)

-- a release that leaves the same files
pub keeps_released : (p : Pack) (at : ℕ) (page : Page) → carried p at ≡ Some page → SameFiles p (after p (release_writes at)) → KeepsFiles p (after p (release_writes at))
keeps_released p at page carries same =
    keeps_files same (leaders_released (release_frees_at_the_label p at page 2 carries (omega arith)) refl same.lives_are (λ f k e. same.places_are f 0 ∙ e))

-- a file whose leader page some sector carries lives
pub carried_lives : (p : Pack) (at : ℕ) (f : Fid) → carried p at ≡ Some (record { fid = f; number = 0 }) → lives (sights p) f ≡ true
carried_lives p at f carries = by (place (sights p) f 0) refl
  where
    by : (o : Option ℕ) → place (sights p) f 0 ≡ o → lives (sights p) f ≡ true
    by None e = absurd ((places_are_lowest p (record { fid = f; number = 0 })).none e at carries)
    by (Some k) e = file_lives_in_a_place p f ∙ ap is_some e

-- ---- a claim
module _ (p : Pack) (at : ℕ) (f : Fid) (label value : List ℕ) (is_free : is_free_at p at ≡ true) where
  abbrev q : Pack
  q = after p (claim_writes at label value)

  -- of a file's leader page: if it is that of SysDir, which didn't live, its data pages were there
  module _ (names : page_of label ≡ Some (record { fid = f; number = 0 })) (new : lives (sights p) sys_dir ≡ false → is_fid sys_dir f ≡ true → slots (dir_words p sys_dir) ≡ space 255 ∷ [])
      (own : (readable : Bool) (l : Leader) → Leads p f readable l → Leads q f readable l) (fresh : lives (sights p) f ≡ false → Leads q f true (fresh_leader f)) where
    taken : ComesToHold at (record { fid = f; number = 0 }) label value p q
    taken = (claim_takes_at_the_label p at (record { fid = f; number = 0 }) label value 3 is_free names).taken (omega arith)

    abbrev leader_seen : Sight
    leader_seen = page_sight f 0 (tag label).bytes value

    bytes_are : (g : Fid) → file_bytes (sights q) g ≡ file_bytes (sights p) g
    bytes_are g = ap (λ ss. file_bytes ss g) taken.shown ∙ bytes_same (sights p) at leader_seen g (λ n. sym (ap (page_at g n) (free_sight p at is_free)))

    other_lives : (g : Fid) → is_fid g f ≡ false → lives (sights q) g ≡ lives (sights p) g
    other_lives g other =
        ap (λ ss. lives ss g) taken.shown
        ∙ ap is_some (first_same (leader_at g) (sights p) at leader_seen hidden (ap (λ t. cond t (Some (leader_of f value)) None) other ∙ sym (ap (leader_at g) (free_sight p at is_free))))

    lives_or : (g : Fid) (t : Bool) → is_fid g f ≡ t → lives (sights p) g ≡ true → lives (sights q) g ≡ true
    lives_or g true e live = subst (λ h. lives (sights q) h ≡ true) (sym (same_fid g f e)) (carried_lives q at f taken.page_here)
    lives_or g false e live = other_lives g e ∙ live

    root_or : (t : Bool) → is_fid sys_dir f ≡ t → lives (sights p) sys_dir ≡ false → (lives (sights q) sys_dir ≡ false) ⊎ RootIsNew q
    root_or true e dead = inr (
      subst (λ h. lives (sights q) h ≡ true) (sym (same_fid sys_dir f e)) (carried_lives q at f taken.page_here),
      ap (λ bytes. slots (words_of bytes)) (bytes_are sys_dir) ∙ new dead e,
    )
    root_or false e dead = inl (other_lives sys_dir e ∙ dead)

    pub leader_keeps : KeepsFiles p q
    leader_keeps = record {
      living = λ g live. lives_or g (is_fid g f) refl live;
      leaders = leaders_claimed p at f label value is_free names other_lives own fresh;
      slots_are = λ d live dir. ap (λ bytes. slots (words_of bytes)) (bytes_are d);
      root = λ dead. root_or (is_fid sys_dir f) refl dead;
    }

  -- of a data page of a file that is no living directory
  module _ (n : ℕ) (names : page_of label ≡ Some (record { fid = f; number = suc n })) (apart : (d : Fid) → lives (sights p) d ≡ true → is_directory d ≡ true → is_fid d f ≡ false) where
    page_taken : ComesToHold at (record { fid = f; number = suc n }) label value p q
    page_taken = (claim_takes_at_the_label p at (record { fid = f; number = suc n }) label value 3 is_free names).taken (omega arith)

    abbrev page_seen : Sight
    page_seen = page_sight f (suc n) (tag label).bytes value

    data_lives : (g : Fid) → lives (sights q) g ≡ lives (sights p) g
    data_lives g = ap (λ ss. lives ss g) page_taken.shown ∙ ap is_some (first_same (leader_at g) (sights p) at page_seen hidden (sym (ap (leader_at g) (free_sight p at is_free))))

    pub data_keeps : KeepsFiles p q
    data_keeps = keeps_bytes data_lives (leaders_beside page_taken data_lives (λ g. free_carries p at (leading g) is_free) (λ g. other_number f g n))
        (λ d live dir. ap (λ ss. file_bytes ss d) page_taken.shown
        ∙ bytes_same (sights p) at page_seen d (λ k. ap (λ t. cond (t && k == n) (Some (take (tag label).bytes (bytes_of value))) None) (apart d live dir) ∙ sym (ap (page_at d k) (free_sight p at is_free))))

-- ---- guarded commands
-- these record writes keep what a mending keeps at each crash point, each of them changes what stands, and in the end directories are kept
pub record Mends (p : Pack) (writes : List Event) : Type 0 where
  pub each : AllMend p writes
  pub keeps : KeepsFiles p (after p writes)

pub mends_nothing : (p : Pack) → Mends p []
mends_nothing p = record { each = nothing_mends p; keeps = keeps_here p }
