-- What a session keeps of DiskDescriptor, after each record write of it.
use Rattle.std.proofs.Common.{List, [], ap, arith, length, refl, slice_get, subst, suc, sym, ℕ, ◌+◌, ◌<◌, ◌∙◌, ◌∷◌, ◌≡◌, ◌≤◌}
use Rattle.std.proofs.lemmas.List.{take_all}
use Rattle.laws_room.specs.alto_words.specs.Fid.{disk_descriptor}
use Rattle.disk_records.specs.Packs.{Pack, after, crash, sector_at}
use Rattle.disk_records.specs.declared.records.Event.{Event}
use Rattle.disk_records.specs.declared.shape.Shape.{Shape}
use Rattle.pack_model.specs.operations.Step.Operation.{drop_file}
use Rattle.pack_model.specs.reading.Files.{place}
use Rattle.pack_model.specs.reading.Model.{read_as}
use Rattle.pack_model.specs.reading.Sights.{Sight, sights}
use Rattle.pack_model.specs.sessions.Descriptor.{DescriptorFits, close_writes, data_pages, open_writes, serial_writes}
use Rattle.pack_model.specs.sessions.Meanings.{reading}
use Rattle.pack_model.specs.states.Sound.{mark_clean, mark_of, mark_open}
use Rattle.laws_room.specs.pack_laws.proofs.Moving.{stands_last}
use Rattle.laws_line.proofs.inside.Closing.{close_model, open_model}
use Rattle.laws_line.specs.FitLaws.{DescriptorFitsOn, FittingDescriptorMayClose}
use Rattle.laws_room.specs.laws_operation.proofs.descriptor.Laws.{close_carries_out, open_carries_out, serial_carries_out}
use Rattle.laws_room.specs.laws_operation.specs.ByteLaws.{Bear}

-- ---- after record writes
-- the same pages bear it, and the last serial and the mark are these
fits_after : (p q : Pack) (shape : Shape) (last mark new next : ℕ) (pages : List ℕ) → DescriptorFits p shape last mark pages → q.shape ≡ p.shape → (read_as q).last ≡ new → mark_of (sights q) ≡ next
    → ((n : ℕ) → place (sights q) disk_descriptor n ≡ place (sights p) disk_descriptor n) → DescriptorFits q shape new next pages
fits_after p q shape last mark new next pages d same is now places = record {
  shape_is = same ∙ d.shape_is;
  last_is = is;
  mark_is = now;
  size = d.size;
  bears = λ n low. places (n + 1) ∙ d.bears n low;
}

pub descriptor_fits_on : DescriptorFitsOn
descriptor_fits_on p shape last mark pages whole tidy d = record {
  opened = λ at placed.
      let h = open_carries_out p at (drop_file disk_descriptor) [] whole tidy placed in
      let reads = ap (λ m. m.last) (stands_last reading h.obeys ∙ open_model (read_as p) (mark_of (sights p)) (drop_file disk_descriptor) []) in
      subst (λ x. DescriptorFits (after p (open_writes x at (sector_at p at).value)) shape last mark_open pages) d.mark_is
      (fits_after p (after p (open_writes (mark_of (sights p)) at (sector_at p at).value)) shape last mark last mark_open pages d refl (reads ∙ d.last_is) h.marked h.keeps.places);
  serial = λ at new placed above.
      let more : (read_as p).last ≤ new = let is = d.last_is in omega (arith, is, above) in
      let h = serial_carries_out p at new whole tidy placed more in
      fits_after p (after p (serial_writes at new (sector_at p at).value)) shape last mark new mark pages d refl (ap (λ m. m.last) h.reads) (h.mark ∙ d.mark_is) h.keeps.places;
  closed = λ busy may.
      let h = close_carries_out p busy pages whole tidy may in
      let events : List Event = close_writes (mark_of (sights p)) p.shape (read_as p).last busy pages in
      let all : crash p events (length events) ≡ after p events = ap (after p) (take_all (length events) events (omega arith)) in
      let reads = ap (λ m. m.last) (stands_last reading h.obeys ∙ close_model (read_as p) (mark_of (sights p)) pages) in
      let same : close_writes (mark_of (sights p)) p.shape (read_as p).last busy pages ≡ close_writes mark shape last busy pages = λ i. close_writes (d.mark_is i) (d.shape_is i) (d.last_is i) busy pages in
      subst (λ l. DescriptorFits (after p l) shape last mark_clean pages) same
      (fits_after p (after p events) shape last mark last mark_clean pages d refl (reads ∙ d.last_is) h.marked (λ n. ap (λ q. place (sights q) disk_descriptor n) (sym all) ∙ (h.keeps (length events)).places n));
}

-- ---- closing
bear_all : (ss : List Sight) (n : ℕ) (pages : List ℕ) → ((k : ℕ) → k < length pages → place ss disk_descriptor (k + n) ≡ slice_get pages k) → Bear ss disk_descriptor n pages
bear_all ss n [] h = tt
bear_all ss n (at ∷ pages) h =
    let z : 0 + n ≡ n = omega arith in (
      ap (place ss disk_descriptor) (sym z) ∙ h 0 (omega arith),
      bear_all ss (suc n) pages (λ k low. let y : suc k + n ≡ k + suc n = omega arith in ap (place ss disk_descriptor) (sym y) ∙ h (suc k) (omega arith)),
    )

pub fitting_descriptor_may_close : FittingDescriptorMayClose
fitting_descriptor_may_close p shape last mark pages d sized = record { pages_are = bear_all (sights p) 1 pages d.bears; number = d.size ∙ ap data_pages (sym d.shape_is); sized = sized }
