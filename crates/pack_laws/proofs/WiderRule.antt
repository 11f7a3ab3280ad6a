-- A pack that is sound by one rule of stored names is sound by a rule that takes more names, and is read as before.
use Rattle.std.proofs.Common.{◌≡◌, ℕ, zero, suc, Bool, true, false, cond, List, [], ◌∷◌, get_or, drop, Option, Some, None, refl, sym, ap, subst, ◌∙◌}
use Rattle.std.specs.Prelude.{◌==◌, length}
use Rattle.std.specs.Option.{option_map, is_some}
use Rattle.std.specs.FinMap.{get, retain_keys, same_map}
use Rattle.std.proofs.lemmas.Bool.{and_from, and_parts}
use Rattle.pack_model.specs.alto_words.specs.declared.fid.Fid.{Fid}
use Rattle.pack_model.specs.alto_words.specs.Fid.{fid_cmp, is_directory, serial_of, sys_dir, disk_descriptor}
use Rattle.pack_model.specs.alto_words.specs.Names.{lost}
use Rattle.pack_model.specs.disk_records.specs.declared.shape.Shape.{Shape}
use Rattle.pack_model.specs.disk_records.specs.declared.records.Sector.{Sector}
use Rattle.pack_model.specs.disk_records.specs.Labels.{tag, in_range, is_free}
use Rattle.pack_model.specs.disk_records.specs.Packs.{Pack, is_usable}
use Rattle.pack_model.specs.disk_records.specs.Words.{word, double}
use Rattle.pack_model.specs.reading.Bytes.{words_of}
use Rattle.pack_model.specs.reading.Leaders.{Leader, name_bytes, spelled_name, leader_words}
use Rattle.pack_model.specs.reading.Sights.{Sight}
use Rattle.pack_model.specs.reading.Sights.Sight.{hidden, free, stray, leads}
use Rattle.pack_model.specs.reading.Files.{leader, lives, file_bytes}
use Rattle.pack_model.specs.reading.Stored.{stored_file, files_shown}
use Rattle.pack_model.specs.sessions.Maps.{map_values}
use Rattle.pack_model.specs.reading.Bodies.{Body, is_described}
use Rattle.pack_model.specs.reading.Bodies.Body.{data_of, items_of}
use Rattle.pack_model.specs.reading.Namings.{IsTidy, tidied}
use Rattle.pack_model.specs.reading.Model.{IsNamed, good_sectors, last_serial, descriptor_words}
use Rattle.pack_model.specs.states.Whole.{FileWhole}
use Rattle.pack_model.specs.states.Whole.FileWhole.{absent, present}
use Rattle.pack_model.specs.reading.OtherNames.{Rule, is_readable_by, leader_by, page_sight_by, sight_by, sights_from_by, sights_by, slots_by, SlotsReachEndBy, file_by, described_by, read_sights_by, read_by, WholeSightsBy, SoundBy}
use Rattle.pack_laws.proofs.Keys.{fid_total, fid_same}
use Rattle.pack_laws.proofs.Mapping.{get-map_values}
use Rattle.pack_laws.proofs.inside.SlotsByRule.{slots_of_reads, reads_too}
use Rattle.pack_laws.proofs.Storing.{get-files_shown}

-- a leader page that is shown can be read
abbrev CanBeRead : Sight → Type 0
CanBeRead x = (f : Fid) (readable : Bool) (l : Leader) → x ≡ leads f readable l → readable ≡ true

-- and so can each of these
abbrev AllReadable : List Sight → Type 0
AllReadable ss = (i : ℕ) → CanBeRead (get_or ss i hidden)

-- as those of whole files can
all_readable : (ss : List Sight) → ((f : Fid) → FileWhole ss f) → AllReadable ss
all_readable ss files i f readable l shows = by (files f)
  where
    by : FileWhole ss f → readable ≡ true
    by (absent headless carries) = absurd (headless i readable l shows)
    by (present at k pages is carries laid few) =
        let here : leads f readable l ≡ leads f true k = sym shows ∙ ap (λ j. get_or ss j hidden) (is.only i readable l shows) ∙ is.shows in cc

-- living directories that are slots to their end
abbrev Directories : Rule → List Sight → Type 0
Directories rule ss = (d : Fid) → lives ss d ≡ true → is_directory d ≡ true → SlotsReachEndBy rule (file_bytes ss d)

-- the body of a directory, or of another file
abbrev body_by : Rule → Bool → List ℕ → Body
body_by rule dir bytes = cond dir (items_of (slots_by rule (words_of bytes))) (data_of bytes)

-- Sound, by what sectors show.
record SoundSights (rule : Rule) (shape : Shape) (ss : List Sight) : Type 0 where
  whole : WholeSightsBy rule shape ss
  tidy : IsTidy (lives ss) (described_by rule ss)
  named : (f : Fid) → lives ss f ≡ true → IsNamed (read_sights_by rule shape ss) f

-- A pack that is sound by one rule is so by another, and is read as by the first.
pub record StaysSound (old new : Rule) (p : Pack) : Type 0 where
  pub sound : SoundBy new p
  pub read : read_by new p ≡ read_by old p

module _ (old new : Rule) (wider : (name : List ℕ) → old name ≡ true → new name ≡ true) where
  -- ---- what sectors show
  readable_too : (words : List ℕ) → is_readable_by old words ≡ true → is_readable_by new words ≡ true
  readable_too words is =
      let parts = and_parts (length (spelled_name words) == word (name_bytes words) 0) (old (spelled_name words)) is in
      and_from (length (spelled_name words) == word (name_bytes words) 0) (new (spelled_name words)) parts.0 (wider (spelled_name words) parts.1)

  same_page : (f : Fid) (n bytes : ℕ) (value : List ℕ) → CanBeRead (page_sight_by old f n bytes value) → page_sight_by old f n bytes value ≡ page_sight_by new f n bytes value
  same_page f zero bytes value all =
      let words : List ℕ = leader_words value in
      let before : is_readable_by old words ≡ true = all f (is_readable_by old words) (leader_by old f value) refl in
      let now : is_readable_by new words ≡ true = readable_too words before in
      let same : is_readable_by old words ≡ is_readable_by new words = before ∙ sym now in
      λ i. leads f (same i) (record {
        created = double words 0;
        written = double words 2;
        read = double words 4;
        name = cond (same i) (spelled_name words) (lost (serial_of f));
        rest = drop 26 words;
      })
  same_page f (suc n) bytes value all = refl

  same_sight : (shape : Shape) (at : ℕ) (s : Sector) → CanBeRead (sight_by old shape at s) → sight_by old shape at s ≡ sight_by new shape at s
  same_sight shape at s all = by (is_usable shape at s) (in_range (tag s.label)) all
    where
      shown : Rule → Bool → Bool → Sight
      shown rule u r = cond u (cond r (page_sight_by rule (tag s.label).fid (tag s.label).page (tag s.label).bytes s.value) (cond (is_free (tag s.label)) free stray)) hidden

      by : (u r : Bool) → CanBeRead (shown old u r) → shown old u r ≡ shown new u r
      by false r all = refl
      by true false all = refl
      by true true all = same_page (tag s.label).fid (tag s.label).page (tag s.label).bytes s.value all

  same_sights : (shape : Shape) (at : ℕ) (sectors : List Sector) → AllReadable (sights_from_by old shape at sectors) → sights_from_by old shape at sectors ≡ sights_from_by new shape at sectors
  same_sights shape at [] all = refl
  same_sights shape at (s ∷ sectors) all = λ i. same_sight shape at s (all 0) i ∷ same_sights shape (suc at) sectors (λ n. all (suc n)) i

  -- ---- what they are read as
  reach_end_too : (bytes : List ℕ) → SlotsReachEndBy old bytes → SlotsReachEndBy new bytes
  reach_end_too bytes is = record { even = is.even; items = is.items; reads = reads_too old new wider (words_of bytes) is.items is.reads }

  same_slots : (bytes : List ℕ) → SlotsReachEndBy old bytes → slots_by old (words_of bytes) ≡ slots_by new (words_of bytes)
  same_slots bytes is = slots_of_reads old (words_of bytes) is.items is.reads ∙ sym (slots_of_reads new (words_of bytes) is.items (reads_too old new wider (words_of bytes) is.items is.reads))

  module _ (ss : List Sight) (directories : Directories old ss) where
    same_body : (f : Fid) (d : Bool) → is_directory f ≡ d → lives ss f ≡ true → body_by old d (file_bytes ss f) ≡ body_by new d (file_bytes ss f)
    same_body f true is living = ap items_of (same_slots (file_bytes ss f) (directories f living is))
    same_body f false is living = refl

    same_file : (f : Fid) (r : Option Leader) → leader ss f ≡ r → option_map (file_by old f) (option_map (stored_file ss f) r) ≡ option_map (file_by new f) (option_map (stored_file ss f) r)
    same_file f None is = refl
    same_file f (Some l) is = ap (λ b. Some (record { leader = l; body = b })) (same_body f (is_directory f) refl (ap is_some is))

    pub same_described : described_by old ss ≡ described_by new ss
    same_described = ap (λ m. retain_keys m is_described) (same_map fid_total fid_same _ _ (λ f. file_is old f ∙ same_file f (leader ss f) refl ∙ sym (file_is new f)))
      where
        file_is : (rule : Rule) (f : Fid) → get (map_values {R = fid_cmp} (file_by rule) (files_shown ss)) f ≡ option_map (file_by rule f) (option_map (stored_file ss f) (leader ss f))
        file_is rule f = get-map_values fid_total fid_same (file_by rule) (files_shown ss) f ∙ ap (option_map (file_by rule f)) (get-files_shown ss f)

    pub same_model : (shape : Shape) → read_sights_by old shape ss ≡ read_sights_by new shape ss
    same_model shape = λ i. record { shape = shape; good = good_sectors ss; last = last_serial (descriptor_words ss); files = tidied (lives ss) (same_described i) }

  -- ---- sound packs
  sights_too : (shape : Shape) (ss : List Sight) → SoundSights old shape ss → SoundSights new shape ss
  sights_too shape ss is =
      let w = is.whole in
      let files = same_described ss w.directories in
      let model = same_model ss w.directories shape in
      record {
        whole = record {
          files = w.files;
          used = w.used;
          directories = λ d living dir. reach_end_too (file_bytes ss d) (w.directories d living dir);
          root = w.root;
          root_named = subst (λ m. IsNamed m sys_dir) model w.root_named;
          descriptor_named = subst (λ m. IsNamed m disk_descriptor) model w.descriptor_named;
          descriptor_lives = w.descriptor_lives;
          descriptor_fits = w.descriptor_fits;
          last = w.last;
        };
        tidy = subst (IsTidy (lives ss)) files is.tidy;
        named = λ f living. subst (λ m. IsNamed m f) model (is.named f living);
      }

  pub stays_sound : (p : Pack) → SoundBy old p → StaysSound old new p
  stays_sound p is =
      let e : sights_by old p ≡ sights_by new p = same_sights p.shape 0 p.sectors (all_readable (sights_by old p) is.whole.files) in
      let s = subst (SoundSights new p.shape) e (sights_too p.shape (sights_by old p) (record { whole = is.whole; tidy = is.tidy; named = is.named })) in
      record {
        sound = record { whole = s.whole; tidy = s.tidy; named = s.named };
        read = ap (read_sights_by new p.shape) (sym e) ∙ sym (same_model (sights_by old p) is.whole.directories p.shape);
      }
