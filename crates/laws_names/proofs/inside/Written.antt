-- Words of a directory are written while names are mended: what every such record write keeps and leaves.
use Rattle.std.proofs.Common.{◌*◌, ◌+◌, ◌/◌, ◌∙◌, ◌≡◌, ◌≢◌, ◌⊎◌, List, Some, ap, false, get_or, inl, inr, set, sym, true, ℕ}
use Rattle.std.proofs.lemmas.Bool.{cases_eq}
use Rattle.std.proofs.lemmas.List.{get_or-set_other, get_or-set_same}
use Rattle.std.specs.Prelude.{nat_lt, ◌&&◌}
use Rattle.laws_mend.specs.alto_words.specs.Fid.{disk_descriptor, is_fid}
use Rattle.laws_mend.specs.alto_words.specs.declared.fid.Fid.{Fid}
use Rattle.laws_mend.specs.disk_records.specs.Addresses.{is_right_header}
use Rattle.laws_mend.specs.disk_records.specs.Packs.{Pack, carried, is_free_at, sector_at}
use Rattle.laws_mend.specs.disk_records.specs.declared.records.Page.{Page}
use Rattle.laws_mend.specs.pack_model.specs.hints.Links.{dir_words}
use Rattle.laws_mend.specs.pack_model.specs.operations.PageWords.{in_page}
use Rattle.laws_mend.specs.pack_model.specs.reading.Bytes.{put_at}
use Rattle.laws_mend.specs.pack_model.specs.reading.Sights.{sights}
use Rattle.laws_mend.specs.pack_model.specs.reading.Sights.Sight.{hidden, holds}
use Rattle.laws_mend.specs.pack_model.specs.reading.Slots.{all_words, slots}
use Rattle.laws_mend.specs.pack_model.specs.scavenger.Reports.{PagesMended}
use Rattle.laws_mend.specs.pack_model.specs.scavenger.Scavenging.{Keeps, Unmarked}
use Rattle.laws_mend.specs.pack_model.specs.states.InUse.{is_free_sight}
use Rattle.laws_mend.specs.pack_laws.proofs.files.Laws.{places_are_lowest}
use Rattle.laws_mend.specs.pack_laws.proofs.Guarding.{front_from, value_page}
use Rattle.laws_mend.specs.laws_record.proofs.Copying.{place_carried}
use Rattle.laws_mend.specs.laws_record.proofs.DirReads.{not_descriptor}
use Rattle.laws_mend.specs.laws_record.proofs.DirWords.{dir_change, new_bytes, page_by_bytes, written_sights}
use Rattle.laws_mend.specs.laws_record.specs.DirLaws.{DirWrite, dir_written}
use Rattle.laws_mend.specs.laws_room.proofs.Found.{found_shown}
use Rattle.laws_mend.specs.laws_room.proofs.marks.Laws.{unmarked_stays}
use Rattle.laws_mend.specs.laws_room.specs.KeepLaws.{RootMay}
use Rattle.laws_mend.specs.laws_room.specs.KeepLaws.RootMay.{as_before}
use Rattle.laws_mend.specs.laws_room.specs.MarkLaws.{mark_page}
use Rattle.laws_mend.proofs.slots.Laws.{dir_write_keeps_pages, dir_write_reaches_its_end}
use Rattle.laws_names.specs.WriteLaws.{NamesWritten}

module _ (p : Pack) (d : Fid) (w at : ℕ) (new : List ℕ) (h : DirWrite p d w at new) where
  abbrev q : Pack
  q = dir_written p w at new

  abbrev value : List ℕ
  value = put_at (in_page w) new (sector_at p at).value

  abbrev page : Page
  page = record { fid = d; number = w / 256 + 1 }

  here : carried p at ≡ Some page
  here = place_carried p page at h.sector

  -- sector 1 carries what it carried
  pub root_may : RootMay p q
  root_may = as_before (ap (λ header. nat_lt 0 1 && is_right_header p.shape 1 header) ((front_from p.sectors at 1 value).0)) (value_page p at value 1)

  -- it isn't the page with the mark
  no_mark : carried p at ≡ Some mark_page → ⊥
  no_mark e =
      let both : Some page ≡ Some mark_page = sym here ∙ e in
      let same : page ≡ mark_page = cc in
      let c : false ≡ true = sym (not_descriptor d h.directory) ∙ ap (λ (x : Page). is_fid x.fid disk_descriptor) same in
      cc

  unmarked : Unmarked p → Unmarked q
  unmarked u = unmarked_stays p at 2 value u (λ is. absurd (no_mark ((places_are_lowest p mark_page).lowest at is).here)) (λ c. absurd (no_mark (sym (value_page p at value at) ∙ c)))

  -- a sector is free if it was
  free_same : (i : ℕ) → is_free_at q i ≡ is_free_at p i
  free_same i = found_shown q i ∙ by (cases_eq i at) ∙ sym (found_shown p i)
    where
      shown : sights q ≡ set (sights p) at (holds d (2 * w / 512) (new_bytes p d w at new h))
      shown = written_sights p d w at new h

      by : (i ≡ at) ⊎ (i ≢ at) → is_free_sight (get_or (sights q) i hidden) ≡ is_free_sight (get_or (sights p) i hidden)
      by (inr other) = ap (λ us. is_free_sight (get_or us i hidden)) shown ∙ ap is_free_sight (get_or-set_other (sights p) at i (holds d (2 * w / 512) (new_bytes p d w at new h)) hidden other)
      by (inl same) =
          ap (λ k. is_free_sight (get_or (sights q) k hidden)) same
          ∙ ap (λ us. is_free_sight (get_or us at hidden)) shown
          ∙ ap is_free_sight (get_or-set_same (sights p) at (holds d (2 * w / 512) (new_bytes p d w at new h)) hidden (page_by_bytes p d w at new h).within)
          ∙ sym (ap (λ k. is_free_sight (get_or (sights p) k hidden)) same ∙ ap is_free_sight ((page_by_bytes p d w at new h).shows hidden))

  -- pages are mended as before, if its slots have as many words
  pub pages_mended : PagesMended p → all_words (slots (dir_words q d)) ≡ all_words (slots (dir_words p d)) → PagesMended q
  pages_mended m same = (dir_write_keeps_pages p d w at new h m (dir_write_reaches_its_end p d w at new h m same)).mended

  -- all of it
  pub names_written : PagesMended p → all_words (slots (dir_words q d)) ≡ all_words (slots (dir_words p d)) → Keeps p q → NamesWritten p q d w new
  names_written m same keeps =
      let c = dir_change p d w at new h in
      let k = dir_write_keeps_pages p d w at new h m (dir_write_reaches_its_end p d w at new h m same) in
      record {
        keeps = record { keeps = keeps; unmarked = unmarked };
        mended = k.mended;
        leaders_are = c.leaders;
        places_are = k.places_are;
        others = k.others;
        words_are = c.words_are;
        free_are = free_same;
      }
