-- The words of DiskDescriptor after closing.
use Rattle.std.proofs.Common.{Bool, List, Some, [], ap, arith, drop, get_or, inl, inr, length, refl, suc, sym, take, zero, ℕ, ◌*◌, ◌+◌, ◌/◌, ◌<◌, ◌∙◌, ◌∷◌, ◌≡◌, ◌≤◌}
use Rattle.std.proofs.lemmas.List.{take_all}
use Rattle.laws_line.specs.alto_words.specs.Fid.{disk_descriptor}
use Rattle.laws_line.specs.disk_records.specs.Addresses.{descriptor_length, table_words}
use Rattle.laws_line.specs.disk_records.specs.Labels.{tag}
use Rattle.laws_line.specs.disk_records.specs.Packs.{Pack, sector_at}
use Rattle.laws_line.specs.disk_records.specs.declared.shape.Shape.{Shape}
use Rattle.laws_line.specs.pack_laws.proofs.Bytes.{length-bytes_of, words_of-bytes_of}
use Rattle.laws_line.specs.pack_laws.proofs.Placing.{leader_of_place, place_of_leader}
use Rattle.laws_line.specs.pack_model.specs.reading.Bytes.{bytes_of, words_of}
use Rattle.laws_line.specs.pack_model.specs.sessions.Descriptor.{data_pages, descriptor_text, descriptor_value}
use Rattle.laws_line.specs.pack_model.specs.reading.Files.{file_bytes, place}
use Rattle.laws_line.specs.pack_model.specs.reading.Model.{descriptor_words}
use Rattle.laws_line.specs.pack_model.specs.reading.Sights.{sights}
use Rattle.laws_line.specs.pack_model.specs.reading.Sights.Sight.{hidden, holds}
use Rattle.laws_line.specs.pack_model.specs.states.Sound.{mark_clean}
use Rattle.laws_line.specs.pack_model.specs.hints.Tables.{words_of_bits}
use Rattle.laws_line.specs.pack_model.specs.states.Whole.{HasPages, IsSeat, PageAt, Seated, Whole}
use Rattle.laws_line.specs.laws_record.proofs.DirReads.{has_leader}
use Rattle.laws_line.specs.laws_record.proofs.Seats.{seat_once}
use Rattle.laws_line.specs.laws_operation.proofs.Changing.{headed}
use Rattle.laws_line.specs.laws_operation.proofs.Grown.{old_counted}
use Rattle.laws_line.specs.laws_operation.proofs.Lying.{bytes_laid}
use Rattle.laws_line.specs.laws_operation.proofs.Rows.{pages_by_bytes, place_alone}
use Rattle.laws_line.specs.laws_operation.proofs.Seating.{carries_none}
use Rattle.laws_line.specs.laws_operation.specs.ByteLaws.{together}
use Rattle.laws_hint.proofs.inside.ClosedBytes.{Shows, shown_bytes}

-- as many words as are asked for
pub words_many : (n : ℕ) (bits : List Bool) → length (words_of_bits n bits) ≡ n
words_many zero bits = refl
words_many (suc n) bits = ap suc (words_many n (drop 16 bits))

-- so many words, as its bytes are in a whole pack
text_many : (shape : Shape) (last mark : ℕ) (busy : List Bool) → 2 * length (descriptor_text shape last mark busy) ≡ descriptor_length shape
text_many shape last mark busy = let map = words_many (table_words shape) busy in omega arith

module _ (q : Pack) (w : Whole q) (last : ℕ) (busy : List Bool) (values : (k at : ℕ) → k < data_pages q.shape → place (sights q) disk_descriptor (suc k) ≡ Some at → (sector_at q at).value ≡ descriptor_value q.shape last mark_clean busy k) where
  -- a page that is carried has its value
  one_shown : (pages : List PageAt) → HasPages (sights q) disk_descriptor pages 0 [] → (c : PageAt) (k : ℕ) → k < data_pages q.shape → get_or (sights q) c.0 hidden ≡ holds disk_descriptor k c.1
      → (count : ℕ) × (c.1 ≡ take count (bytes_of (descriptor_value q.shape last mark_clean busy k)))
  one_shown pages carries c k low is =
      let seat : (j : ℕ) (d : List ℕ) → get_or (sights q) j hidden ≡ holds disk_descriptor k d → IsSeat 0 pages k j = λ j d x. elim (carries.only j k d x) [ inl s ↦ s | inr s ↦ absurd s ] in
      let here : place (sights q) disk_descriptor (suc k) ≡ Some c.0 = place_alone (sights q) disk_descriptor k c.0 c.1 is (λ j d x. seat_once 0 pages k j c.0 (seat j d x) (seat c.0 c.1 is)) in
      let count : ℕ = (tag (sector_at q c.0).label).bytes in
      (count, old_counted q disk_descriptor k c.0 c.1 is ∙ ap (λ v. take count (bytes_of v)) (values k c.0 low here))

  -- and so have pages in a row
  all_shown : (pages : List PageAt) → HasPages (sights q) disk_descriptor pages 0 [] → (cs : List PageAt) (k : ℕ) → k + length cs ≤ data_pages q.shape → Seated (sights q) disk_descriptor k cs
      → Shows (descriptor_text q.shape last mark_clean busy) k cs
  all_shown pages carries [] k few seated = tt
  all_shown pages carries (c ∷ cs) k few seated = (one_shown pages carries c k (omega arith) seated.0, all_shown pages carries cs (suc k) (omega arith) seated.1)

  -- so its words are these
  pub closed_words : descriptor_words (sights q) ≡ descriptor_text q.shape last mark_clean busy
  closed_words =
      let text : List ℕ = descriptor_text q.shape last mark_clean busy in
      let lead = has_leader (sights q) disk_descriptor w.descriptor_lives in
      let p = place_of_leader (sights q) disk_descriptor lead.0 lead.1 in
      let here = leader_of_place (sights q) disk_descriptor p.0 p.1 in
      let h = headed (sights q) disk_descriptor p.0 here.readable here.lead (w.files disk_descriptor) (here.shows hidden) in
      let bytes : file_bytes (sights q) disk_descriptor ≡ together h.pages = bytes_laid (sights q) disk_descriptor h.pages (length h.pages) [] (carries_none (sights q) disk_descriptor h.pages 0 (length h.pages) h.carries) (omega arith) h.laid h.few in
      let size : length (together h.pages) ≡ descriptor_length q.shape = ap length (sym bytes) ∙ w.descriptor_fits.size in
      let number : length h.pages ≡ suc (length (together h.pages) / 512) = pages_by_bytes h.pages h.laid in
      let shows = all_shown h.pages h.carries h.pages 0 (omega arith) h.carries.seated in
      let many = text_many q.shape last mark_clean busy in
      let all = length-bytes_of text in
      ap words_of (bytes ∙ shown_bytes text 0 h.pages shows h.laid (omega arith) ∙ take_all (length (together h.pages)) (bytes_of text) (omega arith)) ∙ words_of-bytes_of text
