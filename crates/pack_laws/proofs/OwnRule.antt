-- By the rule of stored names itself, the readings by a rule are the ones that stand.
use Rattle.std.proofs.Common.{◌≡◌, ℕ, zero, suc, ◌-◌, ◌≤◌, cond, List, [], ◌∷◌, refl, ap, sym, subst, ◌∙◌}
use Rattle.std.specs.FinMap.{retain_keys}
use Rattle.pack_model.specs.alto_words.specs.declared.fid.Fid.{Fid}
use Rattle.pack_model.specs.alto_words.specs.Fid.{is_directory, serial_of, sys_dir, disk_descriptor}
use Rattle.pack_model.specs.alto_words.specs.Names.{is_stored_name}
use Rattle.pack_model.specs.disk_records.specs.declared.shape.Shape.{Shape}
use Rattle.pack_model.specs.disk_records.specs.declared.records.Sector.{Sector}
use Rattle.pack_model.specs.disk_records.specs.Labels.{tag, in_range, is_free}
use Rattle.pack_model.specs.disk_records.specs.Packs.{Pack, is_usable}
use Rattle.pack_model.specs.reading.Bytes.{words_of}
use Rattle.pack_model.specs.reading.Leaders.{leader_of, leader_name, is_readable}
use Rattle.pack_model.specs.reading.Sights.Sight.{hidden, free, stray}
use Rattle.pack_model.specs.reading.Sights.{Sight, sight, sights_from, sights, page_sight}
use Rattle.pack_model.specs.reading.Slots.{Item, is_entry, slot_of, slot_at, slots_after, and_then, Reads}
use Rattle.pack_model.specs.reading.Slots.Reads.{none as no_more, next as one_more}
use Rattle.pack_model.specs.reading.Files.{lives, file_bytes}
use Rattle.pack_model.specs.reading.Stored.{StoredFile, files_shown}
use Rattle.pack_model.specs.sessions.Maps.{map_values}
use Rattle.pack_model.specs.reading.Bodies.{file_of, found, described, is_described}
use Rattle.pack_model.specs.reading.Bodies.Body.{data_of, items_of}
use Rattle.pack_model.specs.reading.Model.{IsNamed, good_sectors, last_serial, descriptor_words, read_sights, read_as}
use Rattle.pack_model.specs.reading.Namings.{IsTidy, tidied}
use Rattle.pack_model.specs.states.Whole.{WholeSights, TidySights}
use Rattle.pack_model.specs.states.Sound.{Sound}
use Rattle.pack_model.specs.reading.OtherNames.{page_sight_by, sight_by, sights_from_by, sights_by, slot_of_by, slot_at_by, slots_after_by, ReadsBy, file_by, described_by, read_sights_by, read_by, WholeSightsBy, SoundBy}
use Rattle.pack_model.specs.reading.OtherNames.ReadsBy.{none, next}
use Rattle.pack_laws.specs.NameLaws.{OwnRule}

-- ---- what sectors show
own_page : (f : Fid) (n bytes : ℕ) (value : List ℕ) → page_sight_by is_stored_name f n bytes value ≡ page_sight f n bytes value
unfolding leader_of leader_name is_readable
own_page f zero bytes value = refl
own_page f (suc n) bytes value = refl

-- what a sector shows, where its page shows this
abbrev sight_with : Shape → ℕ → Sector → Sight → Sight
sight_with shape at s x = cond (is_usable shape at s) (cond (in_range (tag s.label)) x (cond (is_free (tag s.label)) free stray)) hidden

own_sight : (shape : Shape) (at : ℕ) (s : Sector) → sight_by is_stored_name shape at s ≡ sight shape at s
unfolding sight
own_sight shape at s = ap (sight_with shape at s) (own_page (tag s.label).fid (tag s.label).page (tag s.label).bytes s.value)

own_sights_from : (shape : Shape) (at : ℕ) (sectors : List Sector) → sights_from_by is_stored_name shape at sectors ≡ sights_from shape at sectors
unfolding sights_from
own_sights_from shape at [] = refl
own_sights_from shape at (s ∷ sectors) = λ i. own_sight shape at s i ∷ own_sights_from shape (suc at) sectors i

own_sights : (p : Pack) → sights_by is_stored_name p ≡ sights p
own_sights p = own_sights_from p.shape 0 p.sectors

-- ---- slots
own_slot_of : (words : List ℕ) → slot_of_by is_stored_name words ≡ slot_of words
unfolding is_entry
own_slot_of words = refl

own_slot_at : (words : List ℕ) → slot_at_by is_stored_name words ≡ slot_at words
unfolding slot_at is_entry
own_slot_at words = refl

own_slots_after : (skip : ℕ) (words : List ℕ) → slots_after_by is_stored_name skip words ≡ slots_after skip words
unfolding slots_after
own_slots_after skip [] = refl
own_slots_after zero (w ∷ words) = λ i. and_then (own_slot_at (w ∷ words) i) (λ n. own_slots_after (n - 1) words i)
own_slots_after (suc k) (w ∷ words) = own_slots_after k words

reads_own : (words : List ℕ) (is : List Item) → ReadsBy is_stored_name words is → Reads words is
reads_own words is none = no_more
reads_own words is (next {w = w} {rest = rest} {i = i} {is = js} split slot reads) =
    one_more split (record { some = slot.some; most = slot.most; first = slot.first; reads = sym (own_slot_of w) ∙ slot.reads; size = slot.size }) (reads_own rest js reads)

own_reads : (words : List ℕ) (is : List Item) → Reads words is → ReadsBy is_stored_name words is
own_reads words is no_more = none
own_reads words is (one_more {w = w} {rest = rest} {i = i} {is = js} split slot reads) =
    next split (record { some = slot.some; most = slot.most; first = slot.first; reads = own_slot_of w ∙ slot.reads; size = slot.size }) (own_reads rest js reads)

-- ---- models
own_file : (f : Fid) (x : StoredFile) → file_by is_stored_name f x ≡ file_of f x
own_file f x = ap (λ is. record { leader = x.leader; body = cond (is_directory f) (items_of is) (data_of x.bytes) }) (own_slots_after 0 (words_of x.bytes))

pub own_described : (ss : List Sight) → described_by is_stored_name ss ≡ described ss
unfolding found
own_described ss = λ i. retain_keys (map_values (λ f x. own_file f x i) (files_shown ss)) is_described

pub own_model : (shape : Shape) (ss : List Sight) → read_sights_by is_stored_name shape ss ≡ read_sights shape ss
unfolding read_sights
own_model shape ss = λ i. record { shape = shape; good = good_sectors ss; last = last_serial (descriptor_words ss); files = tidied (lives ss) (own_described ss i) }

pub own_read : (p : Pack) → read_by is_stored_name p ≡ read_as p
own_read p = own_model p.shape (sights_by is_stored_name p) ∙ ap (read_sights p.shape) (own_sights p)

-- ---- sound packs
own_whole : (shape : Shape) (ss : List Sight) → WholeSightsBy is_stored_name shape ss → WholeSights shape ss
own_whole shape ss w = record {
  files = w.files;
  used = w.used;
  directories = λ d living dir. let r = w.directories d living dir in record { even = r.even; items = r.items; reads = reads_own (words_of (file_bytes ss d)) r.items r.reads };
  root = w.root;
  root_named = subst (λ m. IsNamed m sys_dir) (own_model shape ss) w.root_named;
  descriptor_named = subst (λ m. IsNamed m disk_descriptor) (own_model shape ss) w.descriptor_named;
  descriptor_lives = w.descriptor_lives;
  descriptor_fits = w.descriptor_fits;
  last = λ f living. subst (λ m. serial_of f ≤ m.last) (own_model shape ss) (w.last f living);
}

whole_own : (shape : Shape) (ss : List Sight) → WholeSights shape ss → WholeSightsBy is_stored_name shape ss
whole_own shape ss w = record {
  files = w.files;
  used = w.used;
  directories = λ d living dir. let r = w.directories d living dir in record { even = r.even; items = r.items; reads = own_reads (words_of (file_bytes ss d)) r.items r.reads };
  root = w.root;
  root_named = subst (λ m. IsNamed m sys_dir) (sym (own_model shape ss)) w.root_named;
  descriptor_named = subst (λ m. IsNamed m disk_descriptor) (sym (own_model shape ss)) w.descriptor_named;
  descriptor_lives = w.descriptor_lives;
  descriptor_fits = w.descriptor_fits;
  last = λ f living. subst (λ m. serial_of f ≤ m.last) (sym (own_model shape ss)) (w.last f living);
}

pub sound_own : (p : Pack) → SoundBy is_stored_name p → Sound p
sound_own p is =
    let e = own_sights p in
    let whole = subst (WholeSights p.shape) e (own_whole p.shape (sights_by is_stored_name p) is.whole) in
    let tidy = subst TidySights e (subst (IsTidy (lives (sights_by is_stored_name p))) (own_described (sights_by is_stored_name p)) is.tidy) in
    record {
      whole = whole;
      tidy = tidy;
      named = λ f living. subst (λ m. IsNamed m f) (own_read p) (is.named f (ap (λ ss. lives ss f) e ∙ living));
    }

own_sound : (p : Pack) → Sound p → SoundBy is_stored_name p
own_sound p is =
    let ss : List Sight = sights_by is_stored_name p in
    let e : sights p ≡ ss = sym (own_sights p) in
    record {
      whole = whole_own p.shape ss (subst (WholeSights p.shape) e is.whole);
      tidy = subst (IsTidy (lives ss)) (sym (own_described ss)) (subst TidySights e is.tidy);
      named = λ f living. subst (λ m. IsNamed m f) (sym (own_read p)) (is.named f (ap (λ ss. lives ss f) e ∙ living));
    }

pub own_rule : OwnRule
own_rule = λ p. record { shown = own_sights p; read = own_read p; sound = (sound_own p, own_sound p) }
