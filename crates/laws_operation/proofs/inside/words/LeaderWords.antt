-- Values of leader pages: a new one, one with another name, and one with another written date.
use Rattle.std.proofs.Common.{List, [], ap, append_assoc, arith, cond, drop, length, refl, sym, take, true, ℕ, ◌%◌, ◌&&◌, ◌*◌, ◌++◌, ◌+◌, ◌/◌, ◌<◌, ◌==◌, ◌∙◌, ◌∷◌, ◌≡◌, ◌≤◌}
use Rattle.std.proofs.lemmas.List.{drop_at, length-append, length-take-le, take-append-le, take-take, take_at}
use Rattle.laws_contents.specs.alto_words.specs.Fid.{serial_of}
use Rattle.laws_contents.specs.alto_words.specs.Names.{is_stored_name, lost}
use Rattle.laws_contents.specs.alto_words.specs.declared.fid.Fid.{Fid}
use Rattle.laws_contents.specs.disk_records.specs.Words.{double, word}
use Rattle.laws_contents.specs.pack_model.specs.reading.Bytes.{bytes_of, put_at}
use Rattle.laws_contents.specs.pack_model.specs.reading.Leaders.{Leader, is_readable, leader_name, leader_of, leader_words, name_bytes}
use Rattle.laws_contents.specs.pack_model.specs.operations.PageWords.{halves, leader_value, name_words, stamped_value, titled_value}
use Rattle.laws_contents.specs.pack_laws.proofs.Bytes.{length-put_at, take-put_at}
use Rattle.laws_contents.specs.laws_record.proofs.Slotwise.{put_before, put_after, put_here}
use Rattle.laws_operation.specs.LeaderLaws.{stamped, titled}
use Rattle.laws_operation.proofs.inside.words.Filled.{drop-put_at, take-drop-put_at}
use Rattle.laws_operation.proofs.inside.words.NameWords.{length-name_words, name_named, readable_named}

-- the leader of the words that say something
pub said : Fid → List ℕ → Leader
said f words = record { created = double words 0; written = double words 2; read = double words 4; name = leader_name f words; rest = drop 26 words }

said_is : (f : Fid) (value : List ℕ) → leader_of f value ≡ said f (leader_words value)
unfolding leader_of said
said_is f value = refl

-- a number of its halves
of_halves : (n : ℕ) → n / 65536 * 65536 + n % 65536 ≡ n
of_halves n = omega arith

-- what a leader's value says
pub record Saying (value : List ℕ) (leader : Fid → Leader) : Type 0 where
  pub readable : is_readable (leader_words value) ≡ true
  pub says : (f : Fid) → leader_of f value ≡ leader f

-- ---- a new value
module _ (l : Leader) (hints : List ℕ) (stored : is_stored_name l.name ≡ true) (whole : length l.rest ≡ 220) where
  abbrev dated : List ℕ → List ℕ
  dated words = l.created / 65536 ∷ l.created % 65536 ∷ l.written / 65536 ∷ l.written % 65536 ∷ l.read / 65536 ∷ l.read % 65536 ∷ words

  size : length (name_words l.name) ≡ 20
  size = length-name_words l.name stored

  both : length (name_words l.name ++ l.rest) ≡ 240
  both = length-append (name_words l.name) l.rest ∙ omega (arith, size, whole)

  words_are : leader_words (leader_value l hints) ≡ dated (name_words l.name ++ l.rest)
  words_are = ap dated (take_at (name_words l.name ++ l.rest) hints 240 both)

  named : take 20 (drop 6 (dated (name_words l.name ++ l.rest))) ≡ name_words l.name
  named = take_at (name_words l.name) l.rest 20 size

  in_dated : (f : Fid) → said f (dated (name_words l.name ++ l.rest)) ≡ l
  unfolding said
  in_dated f =
      let name = name_named (dated (name_words l.name ++ l.rest)) l.name stored named f in
      let rest = drop_at (name_words l.name) l.rest 20 size in
      λ i. record { created = of_halves l.created i; written = of_halves l.written i; read = of_halves l.read i; name = name i; rest = rest i }

  pub new_says : Saying (leader_value l hints) (λ f. l)
  new_says = record {
    readable = ap is_readable words_are ∙ readable_named (dated (name_words l.name ++ l.rest)) l.name stored named;
    says = λ f. said_is f (leader_value l hints) ∙ ap (said f) words_are ∙ in_dated f;
  }

-- ---- a value of 256 words
module _ (value : List ℕ) (sized : length value ≡ 256) where
  front_size : length (take 246 value) ≡ 246
  front_size = length-take-le 246 value (omega (arith, sized))

  -- with another name
  module _ (name : List ℕ) (stored : is_stored_name name ≡ true) where
    name_size : length (name_words name) ≡ 20
    name_size = length-name_words name stored

    titled_words : leader_words (titled_value name value) ≡ put_at 6 (name_words name) (leader_words value)
    titled_words = take-put_at 246 6 (name_words name) value (omega (arith, front_size, name_size))

    -- its words before and after the name
    before : (k : ℕ) → k < 6 → word (put_at 6 (name_words name) (take 246 value)) k ≡ word (take 246 value) k
    before k l = put_before 6 (name_words name) (take 246 value) k (omega (arith, front_size, name_size)) l

    behind : drop 26 (put_at 6 (name_words name) (take 246 value)) ≡ drop 26 (take 246 value)
    behind = drop-put_at 26 6 (name_words name) (take 246 value) (omega (arith, front_size)) (omega (arith, name_size))

    there : take 20 (drop 6 (put_at 6 (name_words name) (take 246 value))) ≡ name_words name
    there = ap (λ n. take n (drop 6 (put_at 6 (name_words name) (take 246 value)))) (sym name_size) ∙ take-drop-put_at 6 (name_words name) (take 246 value) (omega (arith, front_size))

    titled_said : (f : Fid) → said f (put_at 6 (name_words name) (take 246 value)) ≡ titled name (said f (take 246 value))
    unfolding said
    titled_said f =
        let own = name_named (put_at 6 (name_words name) (take 246 value)) name stored there f in
        λ i. record {
          created = before 0 (omega arith) i * 65536 + before 1 (omega arith) i;
          written = before 2 (omega arith) i * 65536 + before 3 (omega arith) i;
          read = before 4 (omega arith) i * 65536 + before 5 (omega arith) i;
          name = own i;
          rest = behind i;
        }

    pub title_says : Saying (titled_value name value) (λ f. titled name (leader_of f value))
    title_says = record {
      readable = ap is_readable titled_words ∙ readable_named (put_at 6 (name_words name) (take 246 value)) name stored there;
      says = λ f. said_is f (titled_value name value) ∙ ap (said f) titled_words ∙ titled_said f ∙ ap (titled name) (sym (said_is f value));
    }

  -- with another written date
  module _ (moment at number bytes : ℕ) (readable : is_readable (leader_words value) ≡ true) where
    abbrev with_date : List ℕ
    with_date = put_at 2 (halves moment) value

    date_size : length (put_at 2 (halves moment) value) ≡ 256
    date_size = length-put_at 2 (halves moment) value (omega (arith, sized)) ∙ sized

    stamped_words : leader_words (stamped_value moment at number bytes value) ≡ put_at 2 (halves moment) (take 246 value)
    stamped_words =
        let last : List ℕ = at ∷ number ∷ bytes ∷ [] in
        let long : length (take 253 with_date) ≡ 253 = length-take-le 253 with_date (omega (arith, date_size)) in
        ap (take 246) (append_assoc (take 253 with_date) last (drop 256 with_date))
        ∙ take-append-le 246 (take 253 with_date) (last ++ drop 256 with_date) (omega (arith, long))
        ∙ take-take 246 253 with_date (omega arith)
        ∙ take-put_at 246 2 (halves moment) value (omega (arith, front_size))

    -- its words before the date and after it
    ahead : (k : ℕ) → k < 2 → word (put_at 2 (halves moment) (take 246 value)) k ≡ word (take 246 value) k
    ahead k l = put_before 2 (halves moment) (take 246 value) k (omega (arith, front_size)) l

    further : (k : ℕ) → 4 ≤ k → word (put_at 2 (halves moment) (take 246 value)) k ≡ word (take 246 value) k
    further k l = put_after 2 (halves moment) (take 246 value) k (omega (arith, front_size)) l

    -- the rest of them
    later : (n : ℕ) → 4 ≤ n → drop n (put_at 2 (halves moment) (take 246 value)) ≡ drop n (take 246 value)
    later n l = drop-put_at n 2 (halves moment) (take 246 value) (omega (arith, front_size)) l

    same_bytes : name_bytes (put_at 2 (halves moment) (take 246 value)) ≡ name_bytes (take 246 value)
    same_bytes = ap (λ w. bytes_of (take 20 w)) (later 6 (omega arith))

    same_readable : is_readable (put_at 2 (halves moment) (take 246 value)) ≡ is_readable (take 246 value)
    unfolding is_readable
    same_readable = ap (λ b. length (take (word b 0) (drop 1 b)) == word b 0 && is_stored_name (take (word b 0) (drop 1 b))) same_bytes

    same_name : (f : Fid) → leader_name f (put_at 2 (halves moment) (take 246 value)) ≡ leader_name f (take 246 value)
    unfolding leader_name
    same_name f = (λ i. cond (same_readable i) (take (word (same_bytes i) 0) (drop 1 (same_bytes i))) (lost (serial_of f)))

    here : (k : ℕ) → k < 2 → word (put_at 2 (halves moment) (take 246 value)) (2 + k) ≡ word (halves moment) k
    here k l = put_here 2 (halves moment) (take 246 value) k (omega (arith, front_size)) l

    stamped_said : (f : Fid) → said f (put_at 2 (halves moment) (take 246 value)) ≡ stamped moment (said f (take 246 value))
    unfolding said
    stamped_said f =
        let own = same_name f in
        let rest = later 26 (omega arith) in
        let date : double (put_at 2 (halves moment) (take 246 value)) 2 ≡ moment = (λ i. here 0 (omega arith) i * 65536 + here 1 (omega arith) i) ∙ of_halves moment in
        λ i. record {
          created = ahead 0 (omega arith) i * 65536 + ahead 1 (omega arith) i;
          written = date i;
          read = further 4 (omega arith) i * 65536 + further 5 (omega arith) i;
          name = own i;
          rest = rest i;
        }

    pub stamp_says : Saying (stamped_value moment at number bytes value) (λ f. stamped moment (leader_of f value))
    stamp_says = record {
      readable = ap is_readable stamped_words ∙ same_readable ∙ readable;
      says = λ f. said_is f (stamped_value moment at number bytes value) ∙ ap (said f) stamped_words ∙ stamped_said f ∙ ap (stamped moment) (sym (said_is f value));
    }
