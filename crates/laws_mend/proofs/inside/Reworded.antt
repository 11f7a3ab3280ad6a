-- Words of a directory are written in a pack whose pages are mended.
use Rattle.std.proofs.Common.{◌+◌, ◌/◌, ◌*◌, ◌<◌, ◌∙◌, ◌≡◌, Bool, List, Some, ap, arith, false, get_or, inl, inr, length, nat_le, refl, set, subst, suc, sym, true, zero, ℕ}
use Rattle.std.proofs.lemmas.Bool.{cases_eq}
use Rattle.std.proofs.lemmas.List.{get_or-set_other, get_or-set_same}
use Rattle.std.specs.Option.{is_some}
use Rattle.laws_room.specs.alto_words.specs.declared.fid.Fid.{Fid}
use Rattle.laws_room.specs.alto_words.specs.Fid.{disk_descriptor, is_directory, is_fid, sys_dir}
use Rattle.laws_room.specs.disk_records.specs.Packs.{Pack, carried, sector_at}
use Rattle.laws_room.specs.disk_records.specs.Words.{word}
use Rattle.laws_room.specs.disk_records.specs.declared.records.Page.{Page}
use Rattle.laws_room.specs.disk_records.specs.declared.records.Sector.{Sector}
use Rattle.laws_room.specs.pack_model.specs.hints.Links.{HasLinks, dir_words}
use Rattle.laws_room.specs.pack_model.specs.operations.PageWords.{in_page}
use Rattle.laws_room.specs.pack_model.specs.reading.Bytes.{put_at, words_of}
use Rattle.laws_room.specs.pack_model.specs.reading.Files.{carries_page, file_bytes, lives, place}
use Rattle.laws_room.specs.pack_model.specs.reading.Leaders.{Leader}
use Rattle.laws_room.specs.pack_model.specs.reading.Sights.{Sight, sights}
use Rattle.laws_room.specs.pack_model.specs.reading.Sights.Sight.{free, hidden, holds, leads, stray}
use Rattle.laws_room.specs.pack_model.specs.reading.Slots.{IsEven, SlotsReachEnd, all_words, slots}
use Rattle.laws_room.specs.pack_model.specs.reading.Slots.IsEven.{none, two}
use Rattle.laws_room.specs.pack_model.specs.scavenger.Reports.{PagesMended}
use Rattle.laws_room.specs.pack_model.specs.states.InUse.{counts, in_use, is_good, is_place}
use Rattle.laws_room.specs.pack_model.specs.states.Sentences.{IsUsed}
use Rattle.laws_room.specs.pack_laws.proofs.guards.Laws.{value_writes_keep_the_page}
use Rattle.laws_room.specs.pack_laws.proofs.Keys.{is_fid-sym, same_fid}
use Rattle.laws_room.specs.pack_laws.proofs.Placing.{place_same}
use Rattle.laws_room.specs.pack_laws.specs.GuardLaws.{ComesToHold}
use Rattle.laws_room.specs.laws_record.proofs.Copying.{place_carried}
use Rattle.laws_room.specs.laws_record.proofs.DirReads.{not_descriptor}
use Rattle.laws_room.specs.laws_record.proofs.DirWords.{dir_change, dir_page, new_bytes, new_size, page_by_bytes, written_sights}
use Rattle.laws_room.specs.laws_record.proofs.Heads.{all_read}
use Rattle.laws_room.specs.laws_record.specs.DirLaws.{DirWrite, dir_written}
use Rattle.laws_mend.proofs.inside.Alike.{alike_next, alike_previous, counts_alike}
use Rattle.laws_mend.proofs.inside.Availing.{same_in_use}
use Rattle.laws_mend.proofs.inside.Counted.{counts_end}
use Rattle.laws_mend.proofs.inside.Shortened.{directory_reaches_its_end}
use Rattle.laws_mend.proofs.inside.Filed.{lives_by_place}
use Rattle.laws_mend.proofs.inside.Revalued.{IsNear, bytes_long, near_carries, near_free, near_good, near_leads, near_next, near_previous, near_use}
use Rattle.laws_mend.proofs.inside.Revalued.IsNear.{one, held}
use Rattle.laws_mend.specs.Parts.{Ended}
use Rattle.laws_mend.specs.SlotLaws.{DirWriteKeepsPages, DirWriteReachesItsEnd}

-- bytes in whole words
even_length : (bytes : List ℕ) → IsEven bytes → length bytes ≡ 2 * length (words_of bytes)
even_length bytes none = refl
even_length bytes (two {bytes = rest} e) = let r = even_length rest e in omega arith

module _ (p : Pack) (d : Fid) (w at : ℕ) (new : List ℕ) (h : DirWrite p d w at new) where
  abbrev q : Pack
  q = dir_written p w at new

  abbrev n : ℕ
  n = 2 * w / 512

  abbrev page : Page
  page = record { fid = d; number = w / 256 + 1 }

  here : carried p at ≡ Some page
  here = place_carried p page at h.sector

  c : ComesToHold at page (sector_at p at).label (put_at (in_page w) new (sector_at p at).value) p q
  c = value_writes_keep_the_page p at page (put_at (in_page w) new (sector_at p at).value) 1 here (omega arith)

  within : at < length (sights p)
  within = (dir_page p d w at new h).within

  was : get_or (sights p) at hidden ≡ holds d n (page_by_bytes p d w at new h).bytes
  was = (page_by_bytes p d w at new h).shows hidden

  shown : sights q ≡ set (sights p) at (holds d n (new_bytes p d w at new h))
  shown = written_sights p d w at new h

  now : get_or (sights q) at hidden ≡ holds d n (new_bytes p d w at new h)
  now = ap (λ us. get_or us at hidden) shown ∙ get_or-set_same (sights p) at (holds d n (new_bytes p d w at new h)) hidden within

  near : (i : ℕ) → IsNear d (get_or (sights q) i hidden) (get_or (sights p) i hidden)
  near i = elim (cases_eq i at) [
    | inl same ↦ held n (new_bytes p d w at new h) (page_by_bytes p d w at new h).bytes (ap (λ k. get_or (sights q) k hidden) same ∙ now) (ap (λ k. get_or (sights p) k hidden) same ∙ was) (new_size p d w at new h)
    | inr other ↦ one (ap (λ us. get_or us i hidden) shown ∙ get_or-set_other (sights p) at i (holds d n (new_bytes p d w at new h)) hidden other)
  ]

  places : (f : Fid) (k : ℕ) → place (sights q) f k ≡ place (sights p) f k
  places f k = ap (λ us. place us f k) shown ∙ place_same (sights p) at (holds d n (new_bytes p d w at new h)) f k within (same f k)
    where
      same : (f : Fid) (k : ℕ) → carries_page f k (holds d n (new_bytes p d w at new h)) ≡ carries_page f k (get_or (sights p) at hidden)
      same f zero = sym (ap (carries_page f 0) was)
      same f (suc k) = sym (ap (carries_page f (suc k)) was)

  labels : (i : ℕ) → (sector_at q i).label ≡ (sector_at p i).label
  labels i = elim (cases_eq i at) [
    | inl same ↦ ap (λ k. (sector_at q k).label) same ∙ ap (λ (s : Sector). s.label) c.here ∙ sym (ap (λ k. (sector_at p k).label) same)
    | inr other ↦ ap (λ (s : Sector). s.label) (c.others i other)
  ]

  lives_stay : (f : Fid) → lives (sights q) f ≡ lives (sights p) f
  lives_stay f = lives_by_place (sights p) (sights q) f (places f 0)

  others : (f : Fid) → is_fid f d ≡ false → file_bytes (sights q) f ≡ file_bytes (sights p) f
  others = (dir_change p d w at new h).others

  sizes : (f : Fid) → length (file_bytes (sights q) f) ≡ length (file_bytes (sights p) f)
  sizes f = bytes_long d (sights p) (sights q) f (λ k. places f (suc k)) near

  plain : is_fid disk_descriptor d ≡ false
  plain = is_fid-sym disk_descriptor d ∙ not_descriptor d h.directory

  carries_same : (i : ℕ) (f : Fid) (k : ℕ) → carries_page f k (get_or (sights q) i hidden) ≡ carries_page f k (get_or (sights p) i hidden)
  carries_same i f k = near_carries d _ _ (near i) f k

  -- the directory ends with its slots still, if they have as many words
  reaches : PagesMended p → all_words (slots (dir_words q d)) ≡ all_words (slots (dir_words p d)) → SlotsReachEnd (file_bytes (sights q) d)
  reaches m same =
      let e = m.pages.directories d h.lives h.directory in
      let r = all_read (dir_words p d) e.items e.reads in
      let all : all_words (slots (dir_words p d)) ≡ length (dir_words p d) = ap all_words r.0 ∙ r.1 in
      let even = even_length (file_bytes (sights p) d) e.even in
      let long = sizes d in
      directory_reaches_its_end q d (omega arith)

  module _ (m : PagesMended p) (ends : SlotsReachEnd (file_bytes (sights q) d)) where
    directories : (e : Fid) → lives (sights q) e ≡ true → is_directory e ≡ true → SlotsReachEnd (file_bytes (sights q) e)
    directories e live dir = by (is_fid e d) refl
      where
        by : (b : Bool) → is_fid e d ≡ b → SlotsReachEnd (file_bytes (sights q) e)
        by false x = subst SlotsReachEnd (sym (others e x)) (m.pages.directories e (sym (lives_stay e) ∙ live) dir)
        by true x = subst (λ g. SlotsReachEnd (file_bytes (sights q) g)) (sym (same_fid e d x)) ends

    once : (f : Fid) (k i j : ℕ) → carries_page f k (get_or (sights q) i hidden) ≡ true → carries_page f k (get_or (sights q) j hidden) ≡ true → i ≡ j
    once f k i j x y = m.pages.once f k i j (sym (carries_same i f k) ∙ x) (sym (carries_same j f k) ∙ y)

    ended_before : Ended p
    ended_before = record { cleared = record { once = m.pages.once; no_stray = none_before }; directories = m.pages.directories }
      where
        none_before : (i : ℕ) → get_or (sights p) i hidden ≡ stray → ⊥
        none_before i e = elim (m.pages.used i (ap is_good e)) [
          | inl is ↦ (let x : stray ≡ free = sym e ∙ is in cc)
          | inr is ↦ (let x : false ≡ true = sym (ap (λ s. in_use p.shape (sights p) (i, s)) e) ∙ is in cc)
        ]

    ended_after : Ended q
    ended_after = record { cleared = record { once = once; no_stray = λ i e. ended_before.cleared.no_stray i (stray_was (near i) e) }; directories = directories }
      where
        stray_was : {s t : Sight} → IsNear d s t → s ≡ stray → t ≡ stray
        stray_was (one e) is = sym e ∙ is
        stray_was (held k a b x y l) is = absurd (let z : holds d k a ≡ stray = sym x ∙ is in cc)

    counted : (f : Fid) (k : ℕ) → counts p.shape (sights q) f k ≡ counts p.shape (sights p) f k
    counted f k = by (is_fid f d) refl
      where
        own : counts p.shape (sights q) d k ≡ counts p.shape (sights p) d k
        own =
            counts_end q ended_after d (lives_stay d ∙ h.lives) (not_descriptor d h.directory) k
            ∙ ap (λ j. nat_le k (suc (j / 512))) (sizes d)
            ∙ sym (counts_end p ended_before d h.lives (not_descriptor d h.directory) k)

        by : (b : Bool) → is_fid f d ≡ b → counts p.shape (sights q) f k ≡ counts p.shape (sights p) f k
        by false x = counts_alike p.shape (sights p) (sights q) f k (lives_stay f) (others f x)
        by true x = subst (λ g. counts p.shape (sights q) g k ≡ counts p.shape (sights p) g k) (sym (same_fid f d x)) own

    use_stays : (i : ℕ) → in_use p.shape (sights q) (i, get_or (sights q) i hidden) ≡ in_use p.shape (sights p) (i, get_or (sights p) i hidden)
    use_stays i = near_use d p.shape (sights q) i _ _ (near i) ∙ same_in_use p.shape (sights p) (sights q) i (get_or (sights p) i hidden) counted (λ f k has. ap (is_place i) (places f k))

    used : (i : ℕ) → IsUsed p.shape (sights q) i
    used i good = elim (m.pages.used i (sym (near_good d _ _ (near i)) ∙ good)) [
      | inl e ↦ inl (near_free d _ _ (near i) e)
      | inr e ↦ inr (use_stays i ∙ e)
    ]

    links : (i : ℕ) → HasLinks p i → HasLinks q i
    links i l = record {
      next = ap (λ x. word x 0) (labels i) ∙ l.next ∙ sym (alike_next p.shape (sights p) (sights q) places (get_or (sights q) i hidden) ∙ near_next d p.shape (sights p) _ _ (near i));
      previous = ap (λ x. word x 1) (labels i) ∙ l.previous ∙ sym (alike_previous p.shape (sights p) (sights q) places (get_or (sights q) i hidden) ∙ near_previous d p.shape (sights p) _ _ (near i));
    }

    mended : PagesMended q
    mended = record {
      pages = record {
        used = used;
        once = once;
        last_pages = λ f live. ap is_some (ap (λ k. place (sights q) f (suc (k / 512))) (sizes f) ∙ places f (suc (length (file_bytes (sights p) f) / 512))) ∙ m.pages.last_pages f (sym (lives_stay f) ∙ live);
        readable = λ f live i readable l e is. m.pages.readable f (sym (lives_stay f) ∙ live) i readable l (sym (places f 0) ∙ e) (led (near i) is);
        directories = directories;
        root = (m.pages.root.0, m.pages.root.1, near_leads d _ _ (near 1) sys_dir m.pages.root.1 m.pages.root.0 m.pages.root.2);
        descriptor_lives = lives_stay disk_descriptor ∙ m.pages.descriptor_lives;
        descriptor_size = sizes disk_descriptor ∙ m.pages.descriptor_size;
      };
      links = λ i u. links i (m.links i (sym (use_stays i) ∙ u));
    }
      where
        led : {s t : Sight} {f : Fid} {readable : Bool} {l : Leader} → IsNear d s t → s ≡ leads f readable l → t ≡ leads f readable l
        led (one e) is = sym e ∙ is
        led {f = f} {readable = r} {l = l} (held k a b x y z) is = absurd (let e : holds d k a ≡ leads f r l = sym x ∙ is in cc)

pub dir_write_keeps_pages : DirWriteKeepsPages
dir_write_keeps_pages p d w at new h m ends = record {
  mended = mended p d w at new h m ends;
  lives_are = lives_stay p d w at new h;
  places_are = places p d w at new h;
  others = others p d w at new h;
}

pub dir_write_reaches_its_end : DirWriteReachesItsEnd
dir_write_reaches_its_end p d w at new h m same = reaches p d w at new h m same
