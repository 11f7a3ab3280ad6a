-- The last serial that the old DiskDescriptor says.
use Rattle.std.proofs.Common.{◌≡◌, ◌⊎◌, inl, inr, ◌==◌, ◌&&◌, ◌||◌, ℕ, ◌+◌, ◌*◌, ◌/◌, ◌%◌, ◌<◌, ◌≤◌, nat_le, Bool, true, false, cond, List, length, Some, refl, sym, ap, ◌∙◌, eqb-true, le-leb, arith}
use Rattle.std.proofs.lemmas.Bool.Decides.{nat_tests}
use Rattle.std.proofs.lemmas.List.{get_or-take}
use Rattle.alto_words.specs.Fid.{disk_descriptor}
use Rattle.disk_records.specs.declared.shape.Shape.{Shape}
use Rattle.disk_records.specs.Addresses.{cylinders_of, disks_of}
use Rattle.disk_records.specs.Packs.{Pack, sector_at}
use Rattle.disk_records.specs.Words.{double, word}
use Rattle.scav_names.specs.laws_contents.specs.WordContents.{HasWordOf, file_words}
use Rattle.scav_names.specs.laws_contents.proofs.words.Laws.{each_word_has_its_page, word_stands_in_its_page}
use Rattle.scav_names.specs.pack_laws.proofs.Bytes.{length-words_of}
use Rattle.pack_model.specs.reading.Files.{file_bytes, place}
use Rattle.pack_model.specs.reading.Model.{descriptor_words, last_serial}
use Rattle.pack_model.specs.reading.Sights.{sights}
use Rattle.pack_model.specs.scavenger.Reports.{map_words, old_serial, says_drives}
use Rattle.scavenger.specs.Descriptors.{AreFirstWords, heads}

module _ (p : Pack) (words : List ℕ) (are : AreFirstWords p words) where
  -- DiskDescriptor has nine words at least where it has 32 bytes
  pub many_words : 32 ≤ length (file_bytes (sights p) disk_descriptor) → 16 ≤ length (descriptor_words (sights p))
  many_words long = let half = length-words_of (file_bytes (sights p) disk_descriptor) in omega (arith, half, long)

  -- and these are they
  pub said_word : 32 ≤ length (file_bytes (sights p) disk_descriptor) → (k : ℕ) → k < 9 → word (descriptor_words (sights p)) k ≡ word words k
  said_word long k few =
      let many = many_words long in
      let there : k < length (file_words p disk_descriptor) = omega (arith, many, few) in
      let has : HasWordOf p disk_descriptor k = each_word_has_its_page p disk_descriptor k there in
      let first : k / 256 + 1 ≡ 1 = omega (arith, few) in
      let same : k % 256 ≡ k = omega (arith, few) in
      let here : place (sights p) disk_descriptor 1 ≡ Some has.at = sym (ap (place (sights p) disk_descriptor) first) ∙ has.stands.sector in
      word_stands_in_its_page p disk_descriptor k has.at (k % 256) there has.stands
      ∙ ap (word (sector_at p has.at).value) same
      ∙ sym (get_or-take 9 (sector_at p has.at).value k 0 few)
      ∙ sym (ap (λ l. word l k) (are has.at here))

  -- the words that it says
  heads_same : 32 ≤ length (file_bytes (sights p) disk_descriptor) → (drives cylinders map : ℕ) → heads words drives cylinders map ≡ heads (descriptor_words (sights p)) drives cylinders map
  heads_same long drives cylinders map i =
      sym (said_word long 0 (omega arith)) i == drives && sym (said_word long 1 (omega arith)) i == cylinders && sym (said_word long 2 (omega arith)) i == 2 && sym (said_word long 3 (omega arith)) i == 12 && sym (said_word long 8 (omega arith)) i == map

  -- where it has the length and the words of so many drives
  pub drives_said : (shape : Shape) (drives bytes map : ℕ) (said : Bool) → bytes ≡ length (file_bytes (sights p) disk_descriptor) → map ≡ map_words drives shape → bytes ≡ 32 + 2 * map → said ≡ heads words drives (cylinders_of shape) map
      → said ≡ says_drives drives shape (file_bytes (sights p) disk_descriptor) (descriptor_words (sights p))
  drives_said shape drives bytes map said is maps long says =
      let enough : 32 ≤ length (file_bytes (sights p) disk_descriptor) = omega (arith, is, long) in
      let sized : length (file_bytes (sights p) disk_descriptor) ≡ 32 + 2 * map_words drives shape = sym is ∙ long ∙ ap (λ m. 32 + 2 * m) maps in
      says ∙ heads_same enough drives (cylinders_of shape) map ∙ ap (heads (descriptor_words (sights p)) drives (cylinders_of shape)) maps ∙ sym (both (length (file_bytes (sights p) disk_descriptor) == 32 + 2 * map_words drives shape) (grind (arith, nat_tests, sized)))
    where
      both : (t : Bool) → t ≡ true
          → (t && word (descriptor_words (sights p)) 0 == drives && word (descriptor_words (sights p)) 1 == cylinders_of shape && word (descriptor_words (sights p)) 2 == 2 && word (descriptor_words (sights p)) 3 == 12 && word (descriptor_words (sights p)) 8 == map_words drives shape)
          ≡ heads (descriptor_words (sights p)) drives (cylinders_of shape) (map_words drives shape)
      both true e = refl
      both false e = absurd cc

  -- it has 32 bytes then
  pub said_long : (shape : Shape) (drives : ℕ) → says_drives drives shape (file_bytes (sights p) disk_descriptor) (descriptor_words (sights p)) ≡ true → 32 ≤ length (file_bytes (sights p) disk_descriptor)
  said_long shape drives e = by (length (file_bytes (sights p) disk_descriptor) == 32 + 2 * map_words drives shape) refl e
    where
      by : (t : Bool) → (length (file_bytes (sights p) disk_descriptor) == 32 + 2 * map_words drives shape) ≡ t
          → (t && word (descriptor_words (sights p)) 0 == drives && word (descriptor_words (sights p)) 1 == cylinders_of shape && word (descriptor_words (sights p)) 2 == 2 && word (descriptor_words (sights p)) 3 == 12 && word (descriptor_words (sights p)) 8 == map_words drives shape) ≡ true
          → 32 ≤ length (file_bytes (sights p) disk_descriptor)
      by true q h = let sized : length (file_bytes (sights p) disk_descriptor) ≡ 32 + 2 * map_words drives shape = eqb-true (length (file_bytes (sights p) disk_descriptor)) (32 + 2 * map_words drives shape) q in omega (arith, sized)
      by false q h = absurd cc

  -- the last serial in its words
  pub serial_said : (shape : Shape) (last : ℕ) → (one two : Bool) → one ≡ says_drives (disks_of shape) shape (file_bytes (sights p) disk_descriptor) (descriptor_words (sights p)) → two ≡ says_drives 1 shape (file_bytes (sights p) disk_descriptor) (descriptor_words (sights p))
      → (one ≡ true) ⊎ (two ≡ true) → last ≡ word words 4 * 65536 + word words 5 → last ≡ old_serial shape (file_bytes (sights p) disk_descriptor) (descriptor_words (sights p))
  serial_said shape last one two first second either says =
      let some : (one || two) ≡ true = any one two either in
      let enough : 32 ≤ length (file_bytes (sights p) disk_descriptor) = long one two first second some in
      let many = many_words enough in
      let high = said_word enough 4 (omega arith) in
      let low = said_word enough 5 (omega arith) in
      let there : nat_le 6 (length (descriptor_words (sights p))) ≡ true = le-leb 6 (length (descriptor_words (sights p))) (omega (arith, many)) in
      let sum : last ≡ double (descriptor_words (sights p)) 4 = omega (arith, says, high, low) in
      sum ∙ sym (ap (λ t. cond t (double (descriptor_words (sights p)) 4) 0) there)
      ∙ sym (ap (λ t. cond t (last_serial (descriptor_words (sights p))) 0) ((λ i. sym first i || sym second i) ∙ some))
    where
      any : (a b : Bool) → (a ≡ true) ⊎ (b ≡ true) → (a || b) ≡ true
      any true b e = refl
      any false true e = refl
      any false false e = elim e [ inl x ↦ x | inr y ↦ y ]

      long : (a b : Bool) → a ≡ says_drives (disks_of shape) shape (file_bytes (sights p) disk_descriptor) (descriptor_words (sights p)) → b ≡ says_drives 1 shape (file_bytes (sights p) disk_descriptor) (descriptor_words (sights p)) → (a || b) ≡ true → 32 ≤ length (file_bytes (sights p) disk_descriptor)
      long true b x y e = said_long shape (disks_of shape) (sym x)
      long false b x y e = said_long shape 1 (sym y ∙ e)

  -- none is said
  pub none_said : (shape : Shape) (one two : Bool) → one ≡ says_drives (disks_of shape) shape (file_bytes (sights p) disk_descriptor) (descriptor_words (sights p)) → two ≡ says_drives 1 shape (file_bytes (sights p) disk_descriptor) (descriptor_words (sights p))
      → (one || two) ≡ false → 0 ≡ old_serial shape (file_bytes (sights p) disk_descriptor) (descriptor_words (sights p))
  none_said shape one two first second none = sym (ap (λ t. cond t (last_serial (descriptor_words (sights p))) 0) ((λ i. sym first i || sym second i) ∙ none))
