-- The words of a make, a put, a cut, a title and a stamp.
use Rattle.std.proofs.Common.{Bool, List, Some, [], ap, arith, cond, false, get_or, inl, inr, length, min, refl, subst, sym, take, true, ℕ, ◌%◌, ◌*◌, ◌++◌, ◌+◌, ◌-◌, ◌/◌, ◌<◌, ◌∙◌, ◌∷◌, ◌≡◌, ◌≤◌, ◌⊎◌}
use Rattle.std.proofs.lemmas.List.{length-replicate}
use Rattle.laws_contents.specs.alto_words.specs.Fid.{is_directory}
use Rattle.laws_contents.specs.alto_words.specs.declared.fid.Fid.{Fid}
use Rattle.laws_contents.specs.disk_records.specs.Addresses.{real_of}
use Rattle.laws_contents.specs.disk_records.specs.Labels.{tag}
use Rattle.laws_contents.specs.disk_records.specs.Packs.{Pack, sector_at}
use Rattle.laws_contents.specs.pack_model.specs.reading.Bytes.{bytes_of}
use Rattle.laws_contents.specs.pack_model.specs.operations.Committing.{page_of_byte}
use Rattle.laws_contents.specs.pack_model.specs.reading.Files.{file_bytes, place}
use Rattle.laws_contents.specs.pack_model.specs.reading.Leaders.{Leader, is_readable, leader_of, leader_words}
use Rattle.laws_contents.specs.pack_model.specs.hints.Links.{no_link}
use Rattle.laws_contents.specs.pack_model.specs.reading.Model.{good_one}
use Rattle.laws_contents.specs.pack_model.specs.operations.PageWords.{filled, first_page_value, last_page_hints, new_bytes, page_number}
use Rattle.laws_contents.specs.pack_model.specs.reading.Sights.{Sight, sights, tag_sight}
use Rattle.laws_contents.specs.pack_model.specs.reading.Sights.Sight.{hidden, holds, leads}
use Rattle.laws_contents.specs.pack_model.specs.reading.SlotWords.{space_words}
use Rattle.laws_contents.specs.pack_model.specs.operations.Step.{new_leader}
use Rattle.laws_contents.specs.pack_model.specs.states.Whole.{PageAt, Whole}
use Rattle.laws_contents.specs.pack_laws.proofs.Bytes.{length-bytes_of}
use Rattle.laws_contents.specs.pack_laws.proofs.Placing.{leader_of_place}
use Rattle.laws_contents.specs.laws_record.specs.QuietLaws.{counted_of}
use Rattle.laws_contents.proofs.bytes.Laws.{page_is_a_slice}
use Rattle.laws_contents.proofs.pages.Laws.{full_before_each_of_a_whole_pack, labels_count}
use Rattle.laws_operation.proofs.Changing.{headed}
use Rattle.laws_operation.proofs.Showing.{other_leader_value, tag_is}
use Rattle.laws_operation.proofs.inside.Wording.{bytes_in_a_value, label_with_another_count, past_in_a_value}
use Rattle.laws_operation.specs.LifeLaws.{first_bytes}
use Rattle.laws_operation.proofs.inside.words.Labels.{label_page, placed_label}
use Rattle.laws_operation.proofs.inside.words.LeaderWords.{new_says, stamp_says, title_says}
use Rattle.laws_operation.specs.FileWords.{CutWordsFit, MakeWordsFit, PutPastWordsFit, PutWordsFit, StampWordsFit, TitleWordsFit}

-- ---- make
-- page 1 of a new file has at most 510 bytes
few_bytes : (f : Fid) → new_bytes f ≤ 512
few_bytes f = by (is_directory f)
  where
    by : (b : Bool) → cond b 510 0 ≤ 512
    by true = omega arith
    by false = omega arith

-- its value's first bytes are these
first_counted : (f : Fid) → take (new_bytes f) (bytes_of (first_page_value f)) ≡ first_bytes f
first_counted f = by (is_directory f)
  where
    by : (b : Bool) → take (cond b 510 0) (bytes_of (filled 256 (cond b (space_words 255) []))) ≡ cond b (bytes_of (space_words 255)) []
    by true = refl
    by false = refl

-- a new leader keeps no properties
rest_size : (name : List ℕ) (moment : ℕ) → length (new_leader name moment).rest ≡ 220
rest_size name moment = length-replicate {A = ℕ} 220 0

pub make_words_fit : MakeWordsFit
make_words_fit p f name moment leader_at page_at h =
    let says = new_says (new_leader name moment) (last_page_hints page_at 1 (new_bytes f)) h.stored (rest_size name moment) in
    record {
      no_descriptor = h.no_descriptor;
      not_there = h.not_there;
      last = h.last;
      page_free = h.page_free;
      leader_free = h.leader_free;
      two = h.two;
      page_is = label_page f 1 (new_bytes f) no_link (real_of p.shape leader_at) h.full_name (few_bytes f) (omega arith);
      bytes = first_counted f;
      leader_is = label_page f 0 512 (real_of p.shape page_at) no_link h.full_name (omega arith) (omega arith);
      readable = says.readable;
      says = says.says f;
    }

-- ---- title and stamp
-- the leader of a whole file can be read
still_readable : (p : Pack) (f : Fid) (at : ℕ) → Whole p → place (sights p) f 0 ≡ Some at → is_readable (leader_words (sector_at p at).value) ≡ true
still_readable p f at w sector =
    let v : List ℕ = (sector_at p at).value in
    let here = leader_of_place (sights p) f at sector in
    let l : Leader = here.lead in
    let h = headed (sights p) f at here.readable l (w.files f) (here.shows hidden) in
    let shown : tag_sight (tag (sector_at p at).label) v ≡ leads f true l = sym (tag_is p at (ap good_one h.leads_it.shows)) ∙ h.leads_it.shows in
    let again : leads f true l ≡ leads f (is_readable (leader_words v)) (leader_of f v) = sym shown ∙ other_leader_value (tag (sector_at p at).label) v v f true l shown in
    cc

pub title_words_fit : TitleWordsFit
title_words_fit p f name at h stored =
    let says = title_says (sector_at p at).value h.sized name stored in
    record { file = h.file; sector = h.sector; readable = says.readable; says = says.says f }

pub stamp_words_fit : StampWordsFit
stamp_words_fit p f moment at last_at number bytes w h =
    let says = stamp_says (sector_at p at).value h.sized moment last_at number bytes (still_readable p f at w h.sector) in
    record { file = h.file; sector = h.sector; readable = says.readable; says = says.says f }

-- ---- put
-- the offset's page comes after full ones, and counts 512 bytes, or those up to the file's end
page_counts : (p : Pack) (f : Fid) (offset at : ℕ) → Whole p → place (sights p) f (page_of_byte offset) ≡ Some at → length (counted_of p at (sector_at p at).value) ≡ min 512 (length (file_bytes (sights p) f) - 512 * (offset / 512))
page_counts p f offset at w sector = (page_is_a_slice p f (offset / 512) at (full_before_each_of_a_whole_pack p f (offset / 512) at w sector) sector).size

pub put_words_fit : PutWordsFit
put_words_fit p f offset new at w h =
    let size = page_counts p f offset at w h.sector in
    let one_page = h.one_page in
    let within = h.within in
    record {
      file = h.file;
      sector = h.sector;
      one_page = h.one_page;
      within = h.within;
      counted = bytes_in_a_value p at (offset % 512) new h.bytes (omega arith);
    }

pub put_past_words_fit : PutPastWordsFit
put_past_words_fit p f offset new past at w h b =
    let size = page_counts p f offset at w h.sector in
    let one_page = h.one_page in
    let within = h.within in
    let room = b.room in
    let sized = b.sized in
    let twice = length-bytes_of (sector_at p at).value in
    let says = (labels_count p f (offset / 512) at h.sector).says sized in
    let ends : (past ≡ []) ⊎ ((tag (sector_at p at).label).bytes ≡ offset % 512 + length new) = elim b.last [ inl none ↦ inl none | inr end ↦ inr (omega arith) ] in
    record {
      file = h.file;
      sector = h.sector;
      one_page = h.one_page;
      within = h.within;
      counted = past_in_a_value p at (offset % 512) new past h.bytes b.words (omega arith) (omega arith) ends;
    }

-- ---- cut
pub cut_words_fit : CutWordsFit
cut_words_fit p f n at later h =
    let r = label_with_another_count (sector_at p at).label (page_number f (page_of_byte n)) (n % 512) no_link (placed_label p f (page_of_byte n) at h.sector) (omega arith) in
    record { file = h.file; sector = h.sector; within = h.within; page = r.0; count = r.1; number = h.number; later_are = h.later_are }
