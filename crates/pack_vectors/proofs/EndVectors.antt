-- A record write that ends a scavenge, and some that don't.
use Rattle.std.proofs.Common.{◌≡◌, ℕ, true, [], ◌∷◌, refl, sym, ap, subst, ◌∙◌, arith}
use Rattle.std.specs.Prelude.{get_or, length}
use Rattle.std.specs.Fmt.{digits}
use Rattle.std.specs.FinMap.{entries, same_entries_map}
use Rattle.pack_laws.specs.alto_words.specs.Fid.{disk_descriptor}
use Rattle.pack_laws.specs.alto_words.specs.Names.{is_stored_name, suffixed}
use Rattle.pack_laws.specs.disk_records.specs.declared.records.Event.{Event}
use Rattle.pack_laws.specs.disk_records.specs.declared.records.Event.TheVariants.{Wrote}
use Rattle.pack_laws.specs.disk_records.specs.Addresses.{real_of}
use Rattle.pack_laws.specs.disk_records.specs.Labels.{in_range, is_free}
use Rattle.pack_laws.specs.disk_records.specs.Packs.{Pack, after}
use Rattle.pack_laws.specs.pack_model.specs.reading.Bytes.{bytes_of}
use Rattle.pack_laws.specs.pack_model.specs.reading.Leaders.{leader_of, leader_name, is_readable}
use Rattle.pack_laws.specs.pack_model.specs.reading.Sights.{sight, sights, sights_from}
use Rattle.pack_laws.specs.pack_model.specs.reading.Sights.Sight.{hidden, stray}
use Rattle.pack_laws.specs.pack_model.specs.reading.Files.{first, joined, most_pages, file_bytes, lives}
use Rattle.pack_laws.specs.pack_model.specs.reading.Slots.{slots_after, slot_at, is_entry}
use Rattle.pack_laws.specs.pack_model.specs.reading.Namings.{keeps_system}
use Rattle.pack_laws.specs.pack_model.specs.operations.PageWords.{page_value}
use Rattle.pack_laws.specs.pack_model.specs.reading.Model.{Model, read_sights, read_as}
use Rattle.pack_laws.specs.pack_model.specs.showing.View.{view}
use Rattle.pack_laws.specs.pack_model.specs.showing.Settling.{most_suffixes, settle, settled, show}
use Rattle.pack_laws.specs.pack_model.specs.states.Sound.{Sound, Clean, mark_of}
use Rattle.pack_laws.specs.pack_model.specs.sessions.Descriptor.{descriptor_value}
use Rattle.pack_laws.specs.pack_model.specs.sessions.Format.{format_table, formatted}
use Rattle.pack_laws.specs.pack_model.specs.operations.Operations.Move.{mends}
use Rattle.pack_laws.specs.pack_model.specs.operations.Committing.{MakesMove}
use Rattle.pack_laws.proofs.ByLists.{read_by, read_list, seen_by, seen_list, names_by, names_list, shown_list}
use Rattle.pack_vectors.proofs.StateVectors.{sound_fresh, clean_fresh}
use Rattle.pack_vectors.proofs.Shapes.{small}
use Rattle.pack_vectors.proofs.SmallPacks.{its_words, made_7}

-- ---- what packs are read as, and show
-- models of one shape, with as many good sectors, one last serial and the same files
same_model : (m n : Model) → m.shape ≡ n.shape → m.good ≡ n.good → m.last ≡ n.last → entries m.files ≡ entries n.files → m ≡ n
same_model m n shape good last files = λ i. record { shape = shape i; good = good i; last = last i; files = same_entries_map m.files n.files files i }

-- a pack on which nothing but system files lives: none lacks a name
all_named : (p : Pack) → seen_by (read_by (sights p)) ≡ [] → show p ≡ view (read_as p)
unfolding settle
all_named p none = λ i. record {
  files = (view (read_as p)).files;
  names = settled (view (read_as p)).names ((seen_list (read_as p) ∙ ap seen_by (read_list p.shape (sights p)) ∙ none) i);
}

-- ---- the one that ends it: DiskDescriptor's page, with a clean mark
-- the pack that formatting writes, with an open mark
abbrev marked : ℕ → Event
marked mark = Wrote 4 2 (descriptor_value small 2 mark (format_table small) 0)

abbrev closed : Pack
closed = formatted small 1 1000

abbrev opened : Pack
opened = after closed (marked 2 ∷ [])

abbrev ended : Pack
ended = after opened (marked 1 ∷ [])

ended_is : ended ≡ closed
unfolding real_of
ended_is = refl

abbrev closed_model : Model
closed_model = read_as closed

opened_files : (read_by (sights opened) ≡ read_by (sights closed)) × (seen_by (read_by (sights opened)) ≡ [])
unfolding sights_from sight real_of in_range is_free leader_of leader_name is_readable is_stored_name first joined most_pages file_bytes slots_after slot_at is_entry keeps_system
opened_files = (refl, refl)

opened_numbers : ((read_as opened).good ≡ closed_model.good) × ((read_as opened).last ≡ closed_model.last) × (closed_model.last ≡ 2)
unfolding read_sights sights_from sight real_of in_range is_free leader_of leader_name is_readable is_stored_name first joined most_pages file_bytes
opened_numbers = (refl, refl, refl)

-- the mark is no part of a model
opened_reads : read_as opened ≡ closed_model
unfolding read_sights
opened_reads = same_model (read_as opened) closed_model refl opened_numbers.0 (opened_numbers.1) (read_list small (sights opened) ∙ opened_files.0 ∙ sym (read_list small (sights closed)))

ends_scavenge : MakesMove opened (marked 1) (mends closed_model)
ends_scavenge = record {
  reads = ap read_as ended_is;
  views = sym (all_named opened opened_files.1 ∙ ap view opened_reads);
  sound = subst Sound (sym ended_is) sound_fresh;
  clean = subst Clean (sym ended_is) clean_fresh;
}

-- read as another model, it isn't the last one of a scavenge
reads_otherwise : MakesMove opened (marked 1) (mends (record closed_model { last = 9 })) → ⊥
reads_otherwise ends =
    let other : closed_model.last ≡ 9 = ap (λ m. m.last) (sym (ap read_as ended_is) ∙ ends.reads) in
    let last = opened_numbers.2 in
    omega arith

-- ---- some that don't
-- One that leaves an open mark: the pack is read as the model, and shows what it showed.
open_mark : mark_of (sights opened) ≡ 2
unfolding sights_from sight real_of in_range is_free leader_of leader_name is_readable is_stored_name first joined most_pages file_bytes
open_mark = refl

opened_but_mark : (read_as opened ≡ closed_model) × (view closed_model ≡ show closed)
opened_but_mark = (opened_reads, sym (all_named closed (ap seen_by (sym opened_files.0) ∙ opened_files.1)))

marks_otherwise : MakesMove closed (marked 2) (mends closed_model) → ⊥
marks_otherwise ends = let mark = ends.clean.mark in let is_open = open_mark in omega arith

-- One that leaves a sector with a label of 513 bytes; else it is as the one that ends it.
abbrev strayed : Pack
strayed = after opened (Wrote 5 1 (0 ∷ 0 ∷ 0 ∷ 513 ∷ 1 ∷ 1 ∷ 0 ∷ 3 ∷ []) ∷ [])

abbrev stray_left : Pack
stray_left = after strayed (marked 1 ∷ [])

strays : (get_or (sights stray_left) 5 hidden ≡ stray) × (lives (sights stray_left) disk_descriptor ≡ true) × (mark_of (sights stray_left) ≡ 1)
unfolding sights_from sight real_of in_range is_free leader_of leader_name is_readable is_stored_name first joined most_pages file_bytes
strays = (refl, refl, refl)

stray_files : (read_by (sights stray_left) ≡ read_by (sights closed)) × (read_by (sights strayed) ≡ read_by (sights closed))
unfolding sights_from sight real_of in_range is_free leader_of leader_name is_readable is_stored_name first joined most_pages file_bytes slots_after slot_at is_entry keeps_system
stray_files = (refl, refl)

stray_numbers : ((read_as stray_left).good ≡ closed_model.good) × ((read_as stray_left).last ≡ closed_model.last) × ((read_as strayed).good ≡ closed_model.good) × ((read_as strayed).last ≡ closed_model.last)
unfolding read_sights sights_from sight real_of in_range is_free leader_of leader_name is_readable is_stored_name first joined most_pages file_bytes
stray_numbers = (refl, refl, refl, refl)

stray_reads : (read_as stray_left ≡ closed_model) × (read_as strayed ≡ closed_model)
unfolding read_sights
stray_reads = (
  same_model (read_as stray_left) closed_model refl stray_numbers.0 stray_numbers.1 (read_list small (sights stray_left) ∙ stray_files.0 ∙ sym (read_list small (sights closed))),
  same_model (read_as strayed) closed_model refl stray_numbers.2 stray_numbers.3 (read_list small (sights strayed) ∙ stray_files.1 ∙ sym (read_list small (sights closed))),
)

stray_but_sound : (view closed_model ≡ show strayed) × Clean stray_left
stray_but_sound = (
  opened_but_mark.1 ∙ ap settle (ap view (sym stray_reads.1)),
  record { lives = strays.1; mark = strays.2 },
)

strays_otherwise : MakesMove strayed (marked 1) (mends closed_model) → ⊥
strays_otherwise ends = ends.sound.whole.used 5 strays.0

-- One that leaves a file nameless: it changes neither what is read nor what is shown, but no entry has the name that is shown.
abbrev clean_mark : Event
clean_mark = Wrote 4 2 (page_value (bytes_of (its_words 3 1)) [])

abbrev cleaned : Pack
cleaned = after made_7 (clean_mark ∷ [])

names_shown : (length (entries (show made_7).names) ≡ 1) × (length (entries (view (read_as cleaned)).names) ≡ 0)
unfolding sights_from sight real_of in_range is_free leader_of leader_name is_readable is_stored_name first joined most_pages file_bytes slots_after slot_at is_entry keeps_system most_suffixes suffixed digits
names_shown = (
  ap length (shown_list made_7),
  ap length (names_list (read_as cleaned) ∙ ap names_by (read_list small (sights cleaned))),
)

same_files : read_by (sights cleaned) ≡ read_by (sights made_7)
unfolding sights_from sight real_of in_range is_free leader_of leader_name is_readable is_stored_name first joined most_pages file_bytes slots_after slot_at is_entry keeps_system
same_files = refl

same_numbers : ((read_as cleaned).good ≡ (read_as made_7).good) × ((read_as cleaned).last ≡ (read_as made_7).last)
unfolding read_sights sights_from sight real_of in_range is_free leader_of leader_name is_readable is_stored_name first joined most_pages file_bytes
same_numbers = (refl, refl)

shows_the_same : show cleaned ≡ show made_7
unfolding read_sights
shows_the_same = ap (λ m. settle (view m)) (same_model (read_as cleaned) (read_as made_7) refl same_numbers.0 same_numbers.1 (read_list small (sights cleaned) ∙ same_files ∙ sym (read_list small (sights made_7))))

shows_otherwise : MakesMove made_7 clean_mark (mends (read_as cleaned)) → ⊥
shows_otherwise ends =
    let counts : length (entries (view (read_as cleaned)).names) ≡ length (entries (show made_7).names) = ap (λ v. length (entries v.names)) ends.views in
    let shown = names_shown.0 in
    let entered = names_shown.1 in
    omega arith
