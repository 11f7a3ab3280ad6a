-- The name that is read from words 6 to 25 of a value.
use Rattle.std.proofs.Common.{◌≡◌, ℕ, ◌-◌, ◌<◌, ◌≤◌, List, length, get_or, take, drop, None, sym, ap, ◌∙◌, arith}
use Rattle.std.specs.List.{slice_range}
use Rattle.std.proofs.lemmas.List.{length-take-le, length-drop, drop-take, take-take, take_all}
use Rattle.alto_words.specs.Names.{stored_in}
use Rattle.disk_records.specs.Words.{word}
use Rattle.pack_model.specs.reading.Bytes.{bytes_of}
use Rattle.pack_model.specs.reading.Leaders.{name_bytes, spelled_name, leader_words}
use Rattle.disk_records.proofs.Bytes.{length-bytes_of}
use Rattle.leader_page.proofs.Spelling.{spelled, spelled-too_long, spelled-whole}

name_words-leader : (value : List ℕ) → take 20 (drop 6 (leader_words value)) ≡ take 20 (drop 6 value)
name_words-leader value = ap (take 20) (drop-take 6 240 value) ∙ take-take 20 240 (drop 6 value) (omega arith)

module _ (value bytes : List ℕ) (long : length value ≡ 256) (written : bytes ≡ bytes_of (take 20 (drop 6 value))) where
  words-length : length (take 20 (drop 6 value)) ≡ 20
  words-length = length-take-le 20 (drop 6 value) (omega (arith, length-drop 6 value, long))

  bytes-name : bytes ≡ name_bytes (leader_words value)
  bytes-name = written ∙ ap bytes_of (sym (name_words-leader value))

  room : length (name_bytes (leader_words value)) ≡ 40
  room = ap (λ (w : List ℕ). length (bytes_of w)) (name_words-leader value) ∙ length-bytes_of (take 20 (drop 6 value)) ∙ omega (arith, words-length)

  first_byte : get_or bytes 0 0 ≡ word (name_bytes (leader_words value)) 0
  first_byte = ap (λ (b : List ℕ). get_or b 0 0) bytes-name

  whole : length bytes ≡ 40
  whole = ap length bytes-name ∙ room

  behind : take 39 (drop 1 bytes) ≡ drop 1 bytes
  behind = take_all 39 (drop 1 bytes) (omega (arith, whole, length-drop 1 bytes))

  behind-length : length (take 39 (drop 1 bytes)) ≡ 39
  behind-length = ap length behind ∙ length-drop 1 bytes ∙ omega (arith, whole)

  -- fewer bytes than the length byte says
  pub reads-none : length (take 39 (drop 1 bytes)) < get_or bytes 0 0 → spelled (leader_words value) ≡ None
  reads-none more = spelled-too_long (leader_words value) room (omega (arith, more, first_byte, behind-length))

  -- as many as it says
  module _ (text : List ℕ) (short : get_or bytes 0 0 ≤ length (take 39 (drop 1 bytes))) (is : text ≡ slice_range (take 39 (drop 1 bytes)) 0 (get_or bytes 0 0)) where
    fits : get_or bytes 0 0 ≤ 39
    fits = omega (arith, short, behind-length)

    text-is : text ≡ take (get_or bytes 0 0) (drop 1 bytes)
    text-is =
        let none : get_or bytes 0 0 - 0 ≡ get_or bytes 0 0 = omega arith in
        is ∙ ap (λ (n : ℕ). take n (take 39 (drop 1 bytes))) none ∙ ap (take (get_or bytes 0 0)) behind

    pub reads-stored : spelled (leader_words value) ≡ stored_in text
    reads-stored =
        let same : spelled_name (leader_words value) ≡ text = sym (text-is ∙ ap (λ (b : List ℕ). take (get_or b 0 0) (drop 1 b)) bytes-name) in
        spelled-whole (leader_words value) room (omega (arith, fits, first_byte)) ∙ ap stored_in same
