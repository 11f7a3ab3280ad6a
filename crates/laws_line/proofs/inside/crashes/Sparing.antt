-- Record writes in sectors of other pages than SysDir's leader and DiskDescriptor's: they leave both alone.
use Rattle.std.proofs.Common.{List, None, Some, [], ap, arith, cond, false, get_or, inl, inr, refl, suc, sym, true, ℕ, ◌<◌, ◌∙◌, ◌∷◌, ◌≡◌, ◌≢◌, ◌⊎◌}
use Rattle.std.proofs.lemmas.List.Elements.{All-append, All-cons, All-nil}
use Rattle.laws_room.specs.alto_words.specs.Fid.{disk_descriptor, is_fid, sys_dir}
use Rattle.laws_room.specs.alto_words.specs.declared.fid.Fid.{Fid}
use Rattle.disk_records.specs.Commands.{claim_writes, ones, release_writes, relabel_writes, value_writes}
use Rattle.disk_records.specs.Labels.{is_free, page_of, tag}
use Rattle.disk_records.specs.Packs.{Pack, carried, is_free_at, sector_at}
use Rattle.disk_records.specs.declared.records.Event.TheVariants.{Wrote}
use Rattle.disk_records.specs.declared.records.Page.{Page}
use Rattle.pack_model.specs.reading.Files.{carries_page}
use Rattle.pack_model.specs.reading.Leaders.{Leader}
use Rattle.pack_model.specs.reading.Model.{good_one}
use Rattle.pack_model.specs.operations.PageWords.{page_number}
use Rattle.pack_model.specs.reading.Sights.{sights}
use Rattle.pack_model.specs.reading.Sights.Sight.{free, hidden, leads}
use Rattle.pack_model.specs.operations.Commands.{releases_writes}
use Rattle.laws_room.specs.pack_laws.proofs.Carrying.{carried_shown}
use Rattle.laws_room.specs.pack_laws.proofs.Guarding.{carried_parts, free_parts, free_unnamed}
use Rattle.laws_room.specs.pack_laws.proofs.Keys.{is_fid-itself}
use Rattle.laws_room.specs.laws_record.proofs.Copying.{place_carried}
use Rattle.laws_room.specs.laws_record.proofs.Recording.{free_sight}
use Rattle.laws_room.specs.laws_operation.proofs.Commanding.{ones_none}
use Rattle.laws_room.specs.laws_operation.proofs.Showing.{free_is, is_here, usable_is}
use Rattle.laws_room.specs.laws_operation.specs.ByteLaws.{Bear}
use Rattle.laws_line.specs.SystemLaws.{LeavesSystem, RecordLeavesSystem, LeavesSystemAt}

-- a page of another file than DiskDescriptor, and not SysDir's leader
pub record IsElse (x : Page) : Type 0 where
  pub no_descriptor : is_fid x.fid disk_descriptor ≡ false
  pub no_root : (0 < x.number) ⊎ (is_fid x.fid sys_dir ≡ false)

-- a label that names no page of DiskDescriptor
abbrev pub NamesElse : List ℕ → Type 0
NamesElse words = (page : Page) → page_of words ≡ Some page → is_fid page.fid disk_descriptor ≡ false

-- so it is where it names that page, or none
pub names_else : (words : List ℕ) (x : Page) → page_of words ≡ Some x → is_fid x.fid disk_descriptor ≡ false → NamesElse words
names_else words x is apart page e = let same : page ≡ x = (let both : Some page ≡ Some x = sym e ∙ is in cc) in ap (λ (y : Page). is_fid y.fid disk_descriptor) same ∙ apart

pub names_none : (words : List ℕ) → page_of words ≡ None → NamesElse words
names_none words none page e = absurd (let both : None ≡ Some page = sym none ∙ e in cc)

module _ (p : Pack) (l : Leader) (root : get_or (sights p) 1 hidden ≡ leads sys_dir true l) where
  -- sector 1 carries SysDir's leader
  pub root_carried : carried p 1 ≡ Some (page_number sys_dir 0)
  root_carried = carried_shown p 1 (page_number sys_dir 0) hidden (is_here p 1 (ap good_one root)) (ap (carries_page sys_dir 0) root ∙ is_fid-itself sys_dir)

  -- a sector that carries another page
  apart_from_root : (at : ℕ) (x : Page) → carried p at ≡ Some x → IsElse x → at ≢ 1
  apart_from_root at x is other z =
      let both : Some x ≡ Some (page_number sys_dir 0) = sym is ∙ ap (carried p) z ∙ root_carried in
      let same : x ≡ page_number sys_dir 0 = cc in
      elim other.no_root [
        | inl l ↦ (let n : x.number ≡ 0 = ap (λ (y : Page). y.number) same in omega arith)
        | inr e ↦ (let t : true ≡ false = sym (ap (λ (y : Page). is_fid y.fid sys_dir) same ∙ is_fid-itself sys_dir) ∙ e in cc)
      ]

  module _ (at : ℕ) where
    -- a value, and a label, of a sector with such a page
    value_spares : (x : Page) (words : List ℕ) → carried p at ≡ Some x → IsElse x → RecordLeavesSystem p at 2 words
    value_spares x words is other = record {
      not_root = apart_from_root at x is other;
      not_descriptor = λ page e. (let both : Some page ≡ Some x = sym e ∙ is in let same : page ≡ x = cc in ap (λ (y : Page). is_fid y.fid disk_descriptor) same ∙ other.no_descriptor);
      record_is = inl refl;
    }

    label_spares : (x : Page) (words : List ℕ) → carried p at ≡ Some x → IsElse x → NamesElse words → RecordLeavesSystem p at 1 words
    label_spares x words is other names = let v = value_spares x words is other in record { not_root = v.not_root; not_descriptor = v.not_descriptor; record_is = inr (refl, names) }

    -- and of a free one
    free_value_spares : (words : List ℕ) → is_free_at p at ≡ true → RecordLeavesSystem p at 2 words
    free_value_spares words is = record {
      not_root = λ z. (let both : free ≡ leads sys_dir true l = sym (free_sight p at is) ∙ ap (λ i. get_or (sights p) i hidden) z ∙ root in absurd cc);
      not_descriptor = λ page e. absurd (let both : None ≡ Some page = sym (free_unnamed (sector_at p at).label (free_parts p at is).1) ∙ (carried_parts p at page e).1 in cc);
      record_is = inl refl;
    }

    free_label_spares : (words : List ℕ) → is_free_at p at ≡ true → NamesElse words → RecordLeavesSystem p at 1 words
    free_label_spares words is names = let v = free_value_spares words is in record { not_root = v.not_root; not_descriptor = v.not_descriptor; record_is = inr (refl, names) }

    -- ---- the record writes of sector commands
    pub value_alone : (x : Page) (value : List ℕ) → carried p at ≡ Some x → IsElse x → LeavesSystem p (value_writes at value)
    value_alone x value is other = All-cons (LeavesSystemAt p) (Wrote at 2 value) [] (value_spares x value is other) (All-nil (LeavesSystemAt p))

    pub relabel_spares : (x : Page) (label value : List ℕ) → carried p at ≡ Some x → IsElse x → NamesElse label → LeavesSystem p (relabel_writes at label value)
    relabel_spares x label value is other names = All-cons (LeavesSystemAt p) (Wrote at 1 label) (value_writes at value) (label_spares x label is other names) (value_alone x value is other)

    pub release_spares : (x : Page) → carried p at ≡ Some x → IsElse x → LeavesSystem p (release_writes at)
    release_spares x is other = relabel_spares x (ones 8) (ones 256) is other (names_none (ones 8) ones_none)

    -- of a page that is in use, its value, its label and its value again
    pub reclaim_spares : (x : Page) (label value : List ℕ) → carried p at ≡ Some x → IsElse x → NamesElse label → LeavesSystem p (claim_writes at label value)
    reclaim_spares x label value is other names = All-cons (LeavesSystemAt p) (Wrote at 2 value) (relabel_writes at label value) (value_spares x value is other) (relabel_spares x label value is other names)

    -- of a free sector
    pub claim_spares : (label value : List ℕ) → is_free_at p at ≡ true → NamesElse label → LeavesSystem p (claim_writes at label value)
    claim_spares label value is names =
        All-cons (LeavesSystemAt p) (Wrote at 2 value) (relabel_writes at label value) (free_value_spares value is)
        (All-cons (LeavesSystemAt p) (Wrote at 1 label) (value_writes at value) (free_label_spares label is names) (All-cons (LeavesSystemAt p) (Wrote at 2 value) [] (free_value_spares value is) (All-nil (LeavesSystemAt p))))

  -- ---- and of several in a row
  -- pages of a file, from one that isn't the leader on
  pub releases_spare : (f : Fid) (n : ℕ) (ats : List ℕ) → is_fid f disk_descriptor ≡ false → 0 < n → Bear (sights p) f n ats → LeavesSystem p (releases_writes ats)
  releases_spare f n [] apart some h = All-nil (LeavesSystemAt p)
  releases_spare f n (at ∷ ats) apart some h =
      All-append (LeavesSystemAt p) (release_writes at) (releases_writes ats) (release_spares at (page_number f n) (place_carried p (page_number f n) at h.0) (record { no_descriptor = apart; no_root = inl some }))
      (releases_spare f (suc n) ats apart (omega arith) h.1)

-- what is shown as free is free
pub shown_free : (p : Pack) (at : ℕ) → get_or (sights p) at hidden ≡ free → is_free_at p at ≡ true
shown_free p at is = ap (λ b. cond b (is_free (tag (sector_at p at).label)) false) (usable_is p at (ap good_one is)) ∙ free_is p at is
