-- Whether sector 1 may become SysDir's leader, by the page that it has.
use Rattle.std.proofs.Common.{◌∙◌, ◌≡◌, ◌≤◌, Bool, List, None, Option, Some, ap, false, get_or, inl, inr, length, not, refl, subst, suc, sym, true, zero, ℕ}
use Rattle.std.proofs.lemmas.Bool.{cases_lt}
use Rattle.std.proofs.lemmas.List.{get_or_past}
use Rattle.std.specs.FinMap.{get}
use Rattle.std.specs.Option.{option_map}
use Rattle.laws_operation.specs.alto_words.specs.Fid.{disk_descriptor, is_fid, sys_dir}
use Rattle.laws_operation.specs.alto_words.specs.declared.fid.Fid.{Fid}
use Rattle.laws_operation.specs.disk_records.specs.Packs.{Pack, carried, is_usable, sector_at}
use Rattle.laws_operation.specs.disk_records.specs.declared.records.Page.{Page}
use Rattle.laws_operation.specs.pack_model.specs.reading.Files.{file_bytes, leader}
use Rattle.laws_operation.specs.pack_model.specs.states.InUse.{counts, is_within}
use Rattle.laws_operation.specs.pack_model.specs.reading.Leaders.{Leader}
use Rattle.laws_operation.specs.pack_model.specs.scavenger.Scavenging.{RootStands, root_stands}
use Rattle.laws_operation.specs.pack_model.specs.reading.Sights.{page_sight, sights}
use Rattle.laws_operation.specs.pack_model.specs.reading.Sights.Sight.{hidden}
use Rattle.laws_room.specs.KeepLaws.{RootMay}
use Rattle.laws_room.specs.KeepLaws.RootMay.{as_before, its_leader, made_free}
use Rattle.laws_operation.specs.pack_laws.proofs.Keys.{same_fid}
use Rattle.laws_operation.specs.pack_laws.proofs.Sighted.{length-sights, sights-get}
use Rattle.laws_record.proofs.Reading.{get-found, read_file}
use Rattle.laws_record.proofs.Recording.{carried_sight, free_sight}
use Rattle.laws_record.proofs.Staying.{FilesStay}
use Rattle.laws_record.proofs.Systemic.{described_get}
use Rattle.laws_record.proofs.Unread.{dark, no_page_shown}

-- the same pages are within their files' ends
abbrev pub SamePagesCount : Pack → Pack → Type 0
SamePagesCount p q = (f : Fid) (n : ℕ) → counts q.shape (sights q) f n ≡ counts p.shape (sights p) f n

-- so it is where the same files are found; of DiskDescriptor only whether it lives counts
pub within_stays : (p q : Pack) → FilesStay p q → SamePagesCount p q
within_stays p q s f n = ap (λ shape. counts shape (sights q) f n) s.shape ∙ by (is_fid f disk_descriptor) refl
  where
    own : (r : Option Leader) → is_within p.shape disk_descriptor n (option_map (read_file disk_descriptor (file_bytes (sights q) disk_descriptor)) r) ≡ is_within p.shape disk_descriptor n (option_map (read_file disk_descriptor (file_bytes (sights p) disk_descriptor)) r)
    own None = refl
    own (Some l) = refl

    by : (b : Bool) → is_fid f disk_descriptor ≡ b → counts p.shape (sights q) f n ≡ counts p.shape (sights p) f n
    by false e = ap (is_within p.shape f n) (sym (described_get (sights q) f e) ∙ ap (λ files. get files f) s.files ∙ described_get (sights p) f e)
    by true e = subst (λ g. counts p.shape (sights q) g n ≡ counts p.shape (sights p) g n) (sym (same_fid f disk_descriptor e))
        (ap (is_within p.shape disk_descriptor n) (get-found (sights q) disk_descriptor ∙ ap (option_map (read_file disk_descriptor (file_bytes (sights q) disk_descriptor))) (s.leaders disk_descriptor))
        ∙ own (leader (sights p) disk_descriptor)
        ∙ sym (ap (is_within p.shape disk_descriptor n) (get-found (sights p) disk_descriptor)))

-- the same page stands as before, whatever its words
page_stands : (p q : Pack) → SamePagesCount p q → (x : Page) (c d : ℕ) (v w : List ℕ) → root_stands q.shape (sights q) (page_sight x.fid x.number c v) ≡ root_stands p.shape (sights p) (page_sight x.fid x.number d w)
page_stands p q s x c d v w = by x.number
  where
    by : (n : ℕ) → root_stands q.shape (sights q) (page_sight x.fid n c v) ≡ root_stands p.shape (sights p) (page_sight x.fid n d w)
    by zero = refl
    by (suc n) = ap not (s x.fid (suc n))

-- a sector that shows no page but is usable may be anything
no_page_stands : (p q : Pack) → is_usable q.shape 1 (sector_at q 1) ≡ true → carried q 1 ≡ None → RootStands q.shape (sights q)
no_page_stands p q usable none = elim (no_page_shown q 1 usable none) [
  | inl is ↦ ap (root_stands q.shape (sights q)) is
  | inr is ↦ ap (root_stands q.shape (sights q)) is
]

-- sector 1 may become SysDir's leader as before
pub root_may : (p q : Pack) → SamePagesCount p q → RootMay p q → RootStands p.shape (sights p) → RootStands q.shape (sights q)
root_may p q s (made_free is) h = ap (root_stands q.shape (sights q)) (free_sight q 1 is)
root_may p q s (its_leader is) h = ap (root_stands q.shape (sights q)) (carried_sight q 1 (record { fid = sys_dir; number = 0 }) is)
root_may p q s (as_before usable same) h = by (carried p 1) refl
  where
    by : (r : Option Page) → carried p 1 ≡ r → RootStands q.shape (sights q)
    by (Some x) is =
        ap (root_stands q.shape (sights q)) (carried_sight q 1 x (same ∙ is))
        ∙ page_stands p q s x _ _ _ _
        ∙ sym (ap (root_stands p.shape (sights p)) (carried_sight p 1 x is)) ∙ h
    by None is = elim (is_usable p.shape 1 (sector_at p 1)) as (λ b. is_usable p.shape 1 (sector_at p 1) ≡ b → RootStands q.shape (sights q)) [
      | true ↦ λ yes. no_page_stands p q (usable ∙ yes) (same ∙ is)
      | false ↦ λ bad. absurd (let clash : true ≡ false = sym h ∙ ap (root_stands p.shape (sights p)) (unusable bad) in cc)
    ] refl
      where
        unusable : is_usable p.shape 1 (sector_at p 1) ≡ false → get_or (sights p) 1 hidden ≡ hidden
        unusable bad = elim (cases_lt 1 (length p.sectors)) [
          | inl within ↦ sights-get p 1 hidden within ∙ dark p.shape 1 (sector_at p 1) bad
          | inr past ↦ get_or_past (sights p) 1 hidden (subst (λ n. n ≤ 1) (sym (length-sights p)) past)
        ]
