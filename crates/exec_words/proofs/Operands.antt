-- Operands in their shortest texts are read back.
use Rattle.std.proofs.Common.{◌≡◌, ℕ, ◌+◌, ◌*◌, ◌/◌, ◌%◌, ◌≤◌, ◌<◌, ◌^◌, Bool, true, false, ◌&&◌, ◌==◌, not, nat_le, List, [], ◌∷◌, ◌++◌, codes, decimal, length, Option, Some, None, refl, sym, ◌∙◌, ap, arith, append_assoc, length-append}
use Rattle.std.specs.Fmt.{digit_glyph}
use Rattle.std.specs.List.{All, list_all}
use Rattle.std.specs.Option.{option_map}
use Rattle.std.proofs.lemmas.Bool.{and_parts, and_from, cond-true, cond-false}
use Rattle.std.proofs.lemmas.Bool.Decides.{nat_tests}
use Rattle.std.proofs.lemmas.Fmt.{length-decimal-le}
use Rattle.std.proofs.lemmas.List.Elements.{All-head, All-tail}
use Rattle.alto_words.specs.declared.wanted.Wanted.{Wanted}
use Rattle.alto_words.specs.Names.{is_name_character, is_bare_name, is_stored_name, bare_in}
use Rattle.alto_words.specs.Numbers.{number_in, bytes_in_hex, hex_of}
use Rattle.alto_words.specs.Wanted.{wanted_in}
use Rattle.alto_words.proofs.Marks.{characters-digits}
use Rattle.alto_words.proofs.Folding.{are_digits}
use Rattle.alto_words.proofs.Reading.{number_in-decimal}
use Rattle.alto_words.proofs.Hex.{bytes_in_hex-hex_of}
use Rattle.exec_words.specs.declared.line.Path.{Path}
use Rattle.exec_words.specs.declared.line.Target.{Target}
use Rattle.exec_words.specs.declared.line.Target.TheVariants.{ByPath, BySerial}
use Rattle.exec_words.specs.Grammar.{within, number_from, at_most, bytes_up_to, both, in_dir, path_by, path_in, file_in, is_byte}
use Rattle.exec_words.specs.Typed.{short_name, wanted_text, path_text_in, path_text, file_text, hex_text, is_typed_dir, is_typed_wanted, is_typed_path, is_typed_file}
use Rattle.exec_words.specs.Laws.{AreBytes, IsWanted, IsPath, IsFile}
use Rattle.exec_words.proofs.Plain.{Lacks, characters_lack, lacks_both, lacks_after, cut_before, cut_after}
use Rattle.exec_words.proofs.Names.{short_is, bare_read, wanted_read}

-- an operand's text is read as it, has no space, and so many bytes at most
pub record Back {X : Type 0} (read : List ℕ → Option X) (x : X) (text : List ℕ) (most : ℕ) : Type 0 where
  pub reads : read text ≡ Some x
  pub plain : Lacks 32 text
  pub fits : length text ≤ most

pub name_back : (name : List ℕ) → is_bare_name name ≡ true → Back bare_in name (short_name name) 39
name_back name bare =
    let short = short_is name bare in
    record { reads = bare_read name bare; plain = characters_lack 32 (short_name name) refl short.characters; fits = short.fits }

-- ---- numbers
pub number_back : (n : ℕ) → n < 2 ^ 32 → Back number_in n (decimal n) 10
number_back n is = record {
  reads = number_in-decimal n is;
  plain = characters_lack 32 (decimal n) refl (characters-digits 10 (decimal n) (omega arith) (are_digits n (omega (arith, is))));
  fits = length-decimal-le 10 n (omega arith) (omega (arith, is)) (omega (arith, is));
}

pub bounded_back : (least most n : ℕ) → n < 2 ^ 32 → nat_le least n ≡ true → nat_le n most ≡ true → Back (number_from least most) n (decimal n) 10
bounded_back least most n is low high =
    let b = number_back n is in
    record {
      reads = ap (within least most) b.reads ∙ cond-true (nat_le least n && nat_le n most) (Some n) None (and_from (nat_le least n) (nat_le n most) low high);
      plain = b.plain;
      fits = b.fits;
    }

-- ---- bytes
glyph_character : (d : ℕ) → d < 16 → is_name_character (digit_glyph false d) ≡ true
glyph_character d small = grind (arith, nat_tests)

hex_characters : (bytes : List ℕ) → All (λ b. b < 256) bytes → list_all is_name_character (hex_of bytes) ≡ true
hex_characters [] all = refl
hex_characters (b ∷ bytes) all =
    let byte : b < 256 = All-head (λ x. x < 256) b bytes all in
    and_from (is_name_character (digit_glyph false (b / 16))) _ (glyph_character (b / 16) (omega arith))
    (and_from (is_name_character (digit_glyph false (b % 16))) _ (glyph_character (b % 16) (omega arith)) (hex_characters bytes (All-tail (λ x. x < 256) b bytes all)))

pub length_hex : (bytes : List ℕ) → length (hex_of bytes) ≡ 2 * length bytes
length_hex [] = refl
length_hex (b ∷ bytes) = omega (arith, length_hex bytes)

hex_back : (bytes : List ℕ) → AreBytes bytes → Back bytes_in_hex bytes (hex_text bytes) (1 + 2 * length bytes)
unfolding bytes_in_hex
hex_back [] all = record { reads = refl; plain = refl; fits = omega arith }
hex_back (b ∷ bytes) all = record {
  reads = bytes_in_hex-hex_of (b ∷ bytes) (omega arith) all;
  plain = characters_lack 32 (hex_of (b ∷ bytes)) refl (hex_characters (b ∷ bytes) all);
  fits = omega (arith, length_hex (b ∷ bytes));
}

pub bytes_back : (most : ℕ) (bytes : List ℕ) → AreBytes bytes → nat_le (length bytes) most ≡ true → Back (bytes_up_to most) bytes (hex_text bytes) (1 + 2 * length bytes)
bytes_back most bytes all few =
    let b = hex_back bytes all in
    record { reads = ap (at_most most) b.reads ∙ cond-true (nat_le (length bytes) most) (Some bytes) None few; plain = b.plain; fits = b.fits }

-- ---- paths
-- its text lacks all bytes but name characters, `!` and `>`
record IsPathText (path : Path) (text : List ℕ) : Type 0 where
  pub reads : path_in text ≡ Some path
  pub lacks : (byte : ℕ) → is_name_character byte ≡ false → Lacks byte (codes "!>") → Lacks byte text
  pub fits : length text ≤ 85

-- what lacks both lacks each
mark_alone : (byte : ℕ) → Lacks byte (codes "!>") → Lacks byte (codes "!")
mark_alone byte both = let p = and_parts (not (is_byte byte 33)) _ both in and_from (not (is_byte byte 33)) true p.0 refl

part_alone : (byte : ℕ) → Lacks byte (codes "!>") → Lacks byte (codes ">")
part_alone byte both = (and_parts (not (is_byte byte 33)) _ both).1

path_is : (dir : Option (List ℕ)) (wanted : Wanted) → IsWanted wanted → is_typed_dir dir ≡ true → is_typed_wanted wanted ≡ true → IsPathText (record { dir = dir; wanted = wanted }) (path_text_in dir wanted)
path_is None wanted is bare typed =
    let w = wanted_read wanted is typed in
    let text = wanted_text wanted in
    record {
      reads = ap (path_by text) (lacks_after 62 text (w.lacks 62 refl refl)) ∙ ap (option_map (λ wanted. record { dir = None; wanted = wanted })) w.reads;
      lacks = λ byte none marks. w.lacks byte none (mark_alone byte marks);
      fits = omega (arith, w.fits);
    }
path_is (Some dir) wanted is bare typed =
    let w = wanted_read wanted is typed in
    let short = short_is dir bare in
    let front = short_name dir in
    let name = wanted_text wanted in
    let lack = characters_lack 62 front refl short.characters in
    let whole = append_assoc front (62 ∷ []) name in
    record {
      reads = ap path_in whole ∙ ap (path_by (front ++ 62 ∷ name)) (cut_after 62 front name lack) ∙ ap (λ t. in_dir t name) (cut_before 62 front name lack)
          ∙ ap (λ d. both (λ dir wanted. record { dir = Some dir; wanted = wanted }) d (wanted_in name)) (bare_read dir bare)
          ∙ ap (both (λ dir wanted. record { dir = Some dir; wanted = wanted }) (Some dir)) w.reads;
      lacks = λ byte none marks.
          lacks_both byte (front ++ codes ">") name (lacks_both byte front (codes ">") (characters_lack byte front none short.characters) (part_alone byte marks)) (w.lacks byte none (mark_alone byte marks));
      fits = omega (arith, length-append (front ++ codes ">") name, length-append front (codes ">"), short.fits, w.fits);
    }

path_text_is : (path : Path) → IsPath path → is_typed_path path ≡ true → IsPathText path (path_text path)
path_text_is path is typed =
    let t = and_parts (is_typed_dir path.dir) (is_typed_wanted path.wanted) typed in
    path_is path.dir path.wanted is.1 t.0 t.1

pub path_back : (path : Path) → IsPath path → is_typed_path path ≡ true → Back path_in path (path_text path) 85
path_back path is typed = let p = path_text_is path is typed in record { reads = p.reads; plain = p.lacks 32 refl refl; fits = p.fits }

-- ---- files
no_path : path_in [] ≡ None
unfolding is_stored_name
no_path = refl

file_of_path : (text : List ℕ) (path : Path) → Lacks 35 text → path_in text ≡ Some path → file_in text ≡ Some (ByPath path)
file_of_path [] path lacks reads = let f : Some path ≡ None = sym reads ∙ no_path in cc
file_of_path (c ∷ text) path lacks reads =
    let p = and_parts (not (is_byte 35 c)) _ lacks in
    cond-false (c == 35) (option_map BySerial (number_in text)) (option_map ByPath (path_in (c ∷ text))) (not_so (c == 35) p.0) ∙ ap (option_map ByPath) reads
  where
    not_so : (b : Bool) → not b ≡ true → b ≡ false
    not_so true e = sym e
    not_so false e = refl

pub file_back : (file : Target) → IsFile file → is_typed_file file ≡ true → Back file_in file (file_text file) 85
file_back (ByPath path) is typed =
    let p = path_text_is path is typed in
    record { reads = file_of_path (path_text path) path (p.lacks 35 refl refl) p.reads; plain = p.lacks 32 refl refl; fits = p.fits }
file_back (BySerial serial) is typed =
    let b = number_back serial is in
    record { reads = ap (option_map BySerial) b.reads; plain = and_from true (list_all (λ c. not (is_byte 32 c)) (decimal serial)) refl b.plain; fits = omega (arith, b.fits) }
