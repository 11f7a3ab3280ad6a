-- All hints of a formatted pack are true: the map in its DiskDescriptor, and the words of its leaders.
use Rattle.std.proofs.Common.{◌≡◌, ℕ, suc, ◌+◌, ◌-◌, ◌<◌, Bool, true, false, List, [], ◌∷◌, ◌++◌, length, take, drop, refl, sym, ap, subst, ◌∙◌, arith, replicate, Some, None, inl, inr}
use Rattle.std.specs.List.{slice_get}
use Rattle.std.proofs.lemmas.List.{length-append, length-replicate, take_all}
use Rattle.std.proofs.lemmas.List.FromFn.{get_or-range_with_len, length-range_with_len}
use Rattle.std.proofs.lemmas.Option.{slice_get-get_or}
use Rattle.laws_hint.specs.alto_words.specs.declared.fid.Fid.{Fid}
use Rattle.laws_hint.specs.alto_words.specs.Fid.{sys_dir, disk_descriptor}
use Rattle.laws_hint.specs.disk_records.specs.declared.shape.Shape.{Shape}
use Rattle.laws_hint.specs.disk_records.specs.Addresses.{pages_of, table_words}
use Rattle.laws_hint.specs.disk_records.specs.Packs.{Pack}
use Rattle.laws_hint.specs.disk_records.specs.Words.{word}
use Rattle.laws_hint.specs.pack_model.specs.reading.Files.{leader, place}
use Rattle.laws_hint.specs.pack_model.specs.reading.Model.{descriptor_words}
use Rattle.laws_hint.specs.pack_model.specs.reading.Sights.{Sight, sights}
use Rattle.laws_hint.specs.pack_model.specs.hints.Handy.{CachedAt, Handy, HandyCache, NamesLastPage, last_at_word, last_number_word, leader_word, row_word}
use Rattle.laws_hint.specs.pack_model.specs.hints.Tables.{HintsTrue, bits_from, described_table, table_in, true_table, words_of_bits}
use Rattle.laws_hint.specs.pack_model.specs.sessions.Descriptor.{data_pages}
use Rattle.laws_hint.specs.pack_model.specs.sessions.Format.{format_table, formatted, free_after_format, sectors_used, with_headers, Written}
use Rattle.laws_hint.specs.pack_laws.proofs.Placing.{leader_of_place}
use Rattle.laws_hint.specs.laws_operation.proofs.places.Laws.{whole_pack_carries_once}
use Rattle.laws_hint.proofs.meanings.Laws.{true_table_is_free_table}
use Rattle.laws_hint.proofs.words.Laws.{words_give_the_map_back}
use Rattle.laws_format.specs.Formatted.{DescribesIt, SessionBegins, descriptor_sectors}
use Rattle.laws_format.proofs.inside.Freeing.{free_many, free_map, table_many}
use Rattle.laws_format.proofs.inside.Linking.{its_at, links_true, root_at}
use Rattle.laws_format.proofs.inside.Living.{no_leader}
use Rattle.laws_format.proofs.inside.Pages.{its_bytes, its_text, words_many}
use Rattle.laws_format.proofs.inside.Shown.{by_file, sector_of, shown}
use Rattle.laws_format.proofs.inside.Sighting.{formatted_sights, used_few}
use Rattle.laws_format.proofs.inside.Wholeness.{clean, reads_empty, sound, words_read}

-- as many bits as there are sectors
pub length-format_table : (shape : Shape) → length (format_table shape) ≡ pages_of shape
length-format_table shape =
    let used : List Bool = replicate (sectors_used shape) true in
    let frees : List Bool = replicate (free_after_format shape) false in
    let all : length (used ++ frees) ≡ length used + length frees = length-append used frees in
    let some : length used ≡ sectors_used shape = length-replicate (sectors_used shape) true in
    let rest : length frees ≡ free_after_format shape = length-replicate (free_after_format shape) false in
    let few = used_few shape in
    omega arith

length-with_headers : (shape : Shape) (number at : ℕ) (ws : List Written) → length (with_headers shape number at ws) ≡ length ws
length-with_headers shape number at [] = refl
length-with_headers shape number at (w ∷ ws) = ap suc (length-with_headers shape number (suc at) ws)

module _ (shape : Shape) (number moment : ℕ) where
  abbrev p : Pack
  p = formatted shape number moment

  abbrev ss : List Sight
  ss = shown moment (its_bytes shape) (data_pages shape) (free_after_format shape)

  -- ---- DiskDescriptor's words
  its_words : descriptor_words (sights p) ≡ its_text shape
  its_words = ap descriptor_words (formatted_sights shape number moment) ∙ words_read shape moment

  map_words : table_in p ≡ words_of_bits (table_words shape) (format_table shape)
  map_words =
      let size = words_many (table_words shape) (format_table shape) in
      ap (λ words. take (table_words shape) (drop 16 words)) its_words ∙ take_all (table_words shape) (words_of_bits (table_words shape) (format_table shape)) (omega arith)

  pub map_is : true_table p ≡ format_table shape
  map_is = true_table_is_free_table p (sound shape moment number).whole ∙ free_map shape number moment

  pub hints_true : HintsTrue p
  hints_true = record {
    links = links_true shape number moment;
    table = map_words ∙ ap (words_of_bits (table_words shape)) (sym map_is);
    free = ap (λ words. word words 7) its_words ∙ table_many (sectors_used shape) (free_after_format shape) ∙ sym (free_many shape number moment);
  }

  pub session_begins : SessionBegins p
  session_begins = record {
    sound = sound shape moment number;
    clean = clean shape moment number;
    hints = hints_true;
    once = whole_pack_carries_once p (sound shape moment number).whole;
  }

  map_said : described_table p ≡ format_table shape
  map_said =
      let size = length-format_table shape in
      ap (λ words. bits_from words 0 (pages_of shape)) map_words
      ∙ ap (bits_from (words_of_bits (table_words shape) (format_table shape)) 0) (sym size)
      ∙ words_give_the_map_back (table_words shape) (format_table shape) (omega arith)

  -- ---- what a session keeps of it
  its_sectors : (n : ℕ) → n < length (descriptor_sectors shape) → place ss disk_descriptor (n + 1) ≡ slice_get (descriptor_sectors shape) n
  its_sectors n low =
      let size = length-range_with_len 4 (data_pages shape) in
      let within : n < data_pages shape = omega arith in
      let y : n + 1 ≡ suc n = omega arith in
      let z : sector_of n ≡ 4 + n = omega arith in
      ap (place ss disk_descriptor) y ∙ its_at shape number moment n within ∙ ap Some (z ∙ sym (get_or-range_with_len 4 (data_pages shape) n 0 within)) ∙ sym (slice_get-get_or (descriptor_sectors shape) n 0 low)

  pub describes_it : DescribesIt p
  describes_it = record {
    fits = record {
      shape_is = refl;
      last_is = ap (λ m. m.last) (reads_empty shape moment number);
      mark_is = (clean shape moment number).mark;
      size = length-range_with_len 4 (data_pages shape);
      bears = subst (λ ss. (n : ℕ) → n < length (descriptor_sectors shape) → place ss disk_descriptor (n + 1) ≡ slice_get (descriptor_sectors shape) n) (sym (formatted_sights shape number moment)) its_sectors;
    };
    says = map_said;
  }

  -- ---- the leaders' words
  abbrev Led : Fid → ℕ → Type 0
  Led f at = (leader_word p at row_word ≡ 0) × NamesLastPage ss f (leader_word p at last_number_word) (leader_word p at last_at_word)

  root_led : Led sys_dir 1
  root_led = (refl, inr (inl (root_at shape number moment).1))

  its_led : Led disk_descriptor 3
  its_led =
      let last : data_pages shape - 1 < data_pages shape = omega arith in
      let y : suc (data_pages shape - 1) ≡ data_pages shape = omega arith in
      let z : sector_of (data_pages shape - 1) ≡ 3 + data_pages shape = omega arith in
      (refl, inr (inl (ap (place ss disk_descriptor) (sym y) ∙ its_at shape number moment (data_pages shape - 1) last ∙ ap Some z)))

  led : (f : Fid) (at : ℕ) → place ss f 0 ≡ Some at → Led f at
  led f at is = by_file f (Led f at)
      (λ e. let same : Some 1 ≡ Some at = sym (root_at shape number moment).0 ∙ ap (λ g. place ss g 0) (sym e) ∙ is in let one : 1 ≡ at = cc in subst (λ g. Led g at) (sym e) (subst (Led sys_dir) one root_led))
      (λ e. let same : Some 3 ≡ Some at = sym (root_at shape number moment).2 ∙ ap (λ g. place ss g 0) (sym e) ∙ is in let three : 3 ≡ at = cc in subst (λ g. Led g at) (sym e) (subst (Led disk_descriptor) three its_led))
      (λ x y. let none : leader ss f ≡ None = no_leader moment (its_bytes shape) (data_pages shape) (free_after_format shape) f x y in let some = (leader_of_place ss f at is).leader_is in absurd cc)

  pub leaders_are_handy : (f : Fid) (cache : List CachedAt) → HandyCache (sights p) f cache → Handy p f cache
  leaders_are_handy f cache right =
      let each : (at : ℕ) → place (sights p) f 0 ≡ Some at → (leader_word p at row_word ≡ 0) × NamesLastPage (sights p) f (leader_word p at last_number_word) (leader_word p at last_at_word) = subst (λ ss. (at : ℕ) → place ss f 0 ≡ Some at → (leader_word p at row_word ≡ 0) × NamesLastPage ss f (leader_word p at last_number_word) (leader_word p at last_at_word)) (sym (formatted_sights shape number moment)) (led f) in
      record { row = λ at is. inl (each at is).0; last = λ at is. (each at is).1; cached = right }
