-- Sights that differ in hints alone: they are read the same, and one is whole where the other is.
use Rattle.std.proofs.Common.{◌*◌, ◌+◌, ◌/◌, ◌<◌, ◌∙◌, ◌∷◌, ◌≡◌, ◌≢◌, ◌⊎◌, Bool, List, None, Option, Some, [], ap, arith, cond, false, get_or, inl, inr, length, nat_le, refl, suc, sym, true, zero, ℕ}
use Rattle.std.specs.Option.{is_some, option_map, option_or}
use Rattle.pack_laws.specs.alto_words.specs.Fid.{disk_descriptor, is_directory, is_fid}
use Rattle.pack_laws.specs.alto_words.specs.declared.fid.Fid.{Fid}
use Rattle.pack_laws.specs.disk_records.specs.Words.{word}
use Rattle.pack_laws.specs.disk_records.specs.declared.shape.Shape.{Shape}
use Rattle.pack_laws.specs.pack_model.specs.reading.Bodies.{body_of, described}
use Rattle.pack_laws.specs.pack_model.specs.reading.Bodies.Body.{data_of, items_of}
use Rattle.pack_laws.specs.pack_model.specs.reading.Bytes.{words_of}
use Rattle.pack_laws.specs.pack_model.specs.reading.Files.{carries_page, file_bytes, first, leader, leader_at, lives, numbered, place, place_at}
use Rattle.pack_laws.specs.pack_model.specs.reading.Leaders.{Leader}
use Rattle.pack_laws.specs.pack_model.specs.reading.Model.{descriptor_words, good_one, good_sectors, last_serial, read_sights}
use Rattle.pack_laws.specs.pack_model.specs.reading.Namings.{tidied}
use Rattle.pack_laws.specs.pack_model.specs.reading.Sights.{Sight}
use Rattle.pack_laws.specs.pack_model.specs.reading.Sights.Sight.{hidden, holds, leads, stray}
use Rattle.pack_laws.specs.pack_model.specs.reading.Slots.{slots}
use Rattle.pack_laws.specs.pack_model.specs.states.Sound.{mark_of}
use Rattle.pack_laws.proofs.Bytes.{length-words_of}
use Rattle.laws_record.proofs.Framing.{lives_same, model_same}
use Rattle.laws_record.proofs.Keeping.{described_kept}
use Rattle.laws_record.proofs.Reading.{get-found, read_file}

-- ---- one sector
-- A data page with other bytes, as many.
pub record HeldAlike (s t : Sight) : Type 0 where
  pub fid : Fid
  pub number : ℕ
  pub old : List ℕ
  pub new : List ℕ
  pub was : s ≡ holds fid number old
  pub now : t ≡ holds fid number new
  pub size : length new ≡ length old

-- the same, or such a page
abbrev pub OneAlike : Sight → Sight → Type 0
OneAlike s t = (t ≡ s) ⊎ HeldAlike s t

-- both show the same leader, if any
leader_alike : (f : Fid) (s t : Sight) → OneAlike s t → leader_at f t ≡ leader_at f s
leader_alike f s t (inl e) = ap (leader_at f) e
leader_alike f s t (inr h) = ap (leader_at f) h.now ∙ sym (ap (leader_at f) h.was)

-- both carry the same page, if any
pub carry_alike : (f : Fid) (n : ℕ) (s t : Sight) → OneAlike s t → carries_page f n t ≡ carries_page f n s
carry_alike f n s t (inl e) = ap (carries_page f n) e
carry_alike f n s t (inr h) = ap (carries_page f n) h.now ∙ by n ∙ sym (ap (carries_page f n) h.was)
  where
    by : (n : ℕ) → carries_page f n (holds h.fid h.number h.new) ≡ carries_page f n (holds h.fid h.number h.old)
    by zero = refl
    by (suc n) = refl

-- both are good sectors, or neither
good_alike : (s t : Sight) → OneAlike s t → good_one t ≡ good_one s
good_alike s t (inl e) = ap good_one e
good_alike s t (inr h) = ap good_one h.now ∙ sym (ap good_one h.was)

-- and the other way
pub one_sym : (s t : Sight) → OneAlike s t → OneAlike t s
one_sym s t (inl e) = inl (sym e)
one_sym s t (inr h) = inr (record { fid = h.fid; number = h.number; old = h.new; new = h.old; was = h.now; now = h.was; size = sym h.size })

-- a leader is the same leader
pub leads_alike : (s t : Sight) (f : Fid) (r : Bool) (l : Leader) → OneAlike s t → t ≡ leads f r l → s ≡ leads f r l
leads_alike s t f r l (inl e) is = sym e ∙ is
leads_alike s t f r l (inr h) is = absurd (let clash : holds h.fid h.number h.new ≡ leads f r l = sym h.now ∙ is in cc)

-- a stray label is one
pub stray_alike : (s t : Sight) → OneAlike s t → t ≡ stray → s ≡ stray
stray_alike s t (inl e) is = sym e ∙ is
stray_alike s t (inr h) is = absurd (let clash : holds h.fid h.number h.new ≡ stray = sym h.now ∙ is in cc)

-- a data page is that page with as many bytes
pub record WasHeld (s : Sight) (f : Fid) (n : ℕ) (bytes : List ℕ) : Type 0 where
  pub old : List ℕ
  pub was : s ≡ holds f n old
  pub size : length bytes ≡ length old

-- what it was before
pub holds_alike : (s t : Sight) (f : Fid) (n : ℕ) (bytes : List ℕ) → OneAlike s t → t ≡ holds f n bytes → WasHeld s f n bytes
holds_alike s t f n bytes (inl e) is = record { old = bytes; was = sym e ∙ is; size = refl }
holds_alike s t f n bytes (inr h) is =
    let both : holds h.fid h.number h.new ≡ holds f n bytes = sym h.now ∙ is in
    let a : h.fid ≡ f = cc in
    let b : h.number ≡ n = cc in
    let c : h.new ≡ bytes = cc in
    record { old = h.old; was = h.was ∙ (λ i. holds (a i) (b i) h.old); size = sym (ap length c) ∙ h.size }

-- ---- all sectors
-- What differs is never read: the same leaders and bytes, the slots of directories, the words of DiskDescriptor except 7 and from 16 on.
pub record Alike (ss tt : List Sight) : Type 0 where
  pub size : length tt ≡ length ss
  pub each : (i : ℕ) → OneAlike (get_or ss i hidden) (get_or tt i hidden)
  pub sizes : (f : Fid) → length (file_bytes tt f) ≡ length (file_bytes ss f)
  pub plain : (f : Fid) → is_directory f ≡ false → is_fid f disk_descriptor ≡ false → file_bytes tt f ≡ file_bytes ss f
  pub slots_are : (d : Fid) → lives ss d ≡ true → is_directory d ≡ true → slots (words_of (file_bytes tt d)) ≡ slots (words_of (file_bytes ss d))
  pub words : (k : ℕ) → k < 16 → k ≢ 7 → word (descriptor_words tt) k ≡ word (descriptor_words ss) k

-- the same first answer where all answers are the same
first_all : {S X : Type 0} (answer : S → Option X) (ss tt : List S) (d : S) → length tt ≡ length ss → ((i : ℕ) → answer (get_or tt i d) ≡ answer (get_or ss i d)) → first answer tt ≡ first answer ss
unfolding first
first_all answer [] [] d size e = refl
first_all answer [] (t ∷ tt) d size e = absurd (omega arith)
first_all answer (s ∷ ss) [] d size e = absurd (omega arith)
first_all answer (s ∷ ss) (t ∷ tt) d size e = λ i. option_or (e 0 i) (first_all answer ss tt d (omega arith) (λ k. e (suc k)) i)

-- as many good sectors
good_all : (ss tt : List Sight) → length tt ≡ length ss → ((i : ℕ) → good_one (get_or tt i hidden) ≡ good_one (get_or ss i hidden)) → good_sectors tt ≡ good_sectors ss
good_all [] [] size e = refl
good_all [] (t ∷ tt) size e = absurd (omega arith)
good_all (s ∷ ss) [] size e = absurd (omega arith)
good_all (s ∷ ss) (t ∷ tt) size e = λ i. e 0 i + good_all ss tt (omega arith) (λ k. e (suc k)) i

-- places are the same where all sectors carry the same pages
pub place_all : (ss tt : List Sight) (f : Fid) (n : ℕ) → length tt ≡ length ss → ((i : ℕ) → carries_page f n (get_or tt i hidden) ≡ carries_page f n (get_or ss i hidden)) → place tt f n ≡ place ss f n
unfolding first
place_all ss tt f n size e = by 0 ss tt size e
  where
    by : (at : ℕ) (ss tt : List Sight) → length tt ≡ length ss → ((i : ℕ) → carries_page f n (get_or tt i hidden) ≡ carries_page f n (get_or ss i hidden)) → first (place_at f n) (numbered at tt) ≡ first (place_at f n) (numbered at ss)
    by at [] [] size e = refl
    by at [] (t ∷ tt) size e = absurd (omega arith)
    by at (s ∷ ss) [] size e = absurd (omega arith)
    by at (s ∷ ss) (t ∷ tt) size e = λ i. option_or (cond (e 0 i) (Some at) None) (by (suc at) ss tt (omega arith) (λ k. e (suc k)) i)

module _ (ss tt : List Sight) (a : Alike ss tt) where
  -- the same leaders
  leaders_alike : (f : Fid) → leader tt f ≡ leader ss f
  leaders_alike f = first_all (leader_at f) ss tt hidden a.size (λ i. leader_alike f _ _ (a.each i))

  -- the same files live
  pub live_alike : lives tt ≡ lives ss
  live_alike = lives_same tt ss leaders_alike

  -- the same bodies
  body_alike : (f : Fid) (l : Leader) → leader ss f ≡ Some l → is_fid f disk_descriptor ≡ false → body_of f (file_bytes tt f) ≡ body_of f (file_bytes ss f)
  body_alike f l is other = by (is_directory f) refl
    where
      by : (b : Bool) → is_directory f ≡ b → body_of f (file_bytes tt f) ≡ body_of f (file_bytes ss f)
      by true e = ap (λ c. cond c (items_of (slots (words_of (file_bytes tt f)))) (data_of (file_bytes tt f))) e ∙ ap items_of (a.slots_are f (ap is_some is) e) ∙ sym (ap (λ c. cond c (items_of (slots (words_of (file_bytes ss f)))) (data_of (file_bytes ss f))) e)
      by false e = ap (body_of f) (a.plain f e other)

  -- the same files
  pub described_alike : described tt ≡ described ss
  described_alike = described_kept ss tt (λ g e. get-found tt g ∙ ap (option_map (read_file g (file_bytes tt g))) (leaders_alike g) ∙ file g (leader ss g) refl e ∙ sym (get-found ss g))
    where
      file : (g : Fid) (r : Option Leader) → leader ss g ≡ r → is_fid g disk_descriptor ≡ false → option_map (read_file g (file_bytes tt g)) r ≡ option_map (read_file g (file_bytes ss g)) r
      file g None is other = refl
      file g (Some l) is other = ap (λ b. Some (record { leader = l; body = b })) (body_alike g l is other)

  -- as many words
  words_alike : length (descriptor_words tt) ≡ length (descriptor_words ss)
  words_alike = length-words_of (file_bytes tt disk_descriptor) ∙ ap (λ n. n / 2) (a.sizes disk_descriptor) ∙ sym (length-words_of (file_bytes ss disk_descriptor))

  -- the same last serial
  last_alike : last_serial (descriptor_words tt) ≡ last_serial (descriptor_words ss)
  last_alike =
      let four : word (descriptor_words tt) 4 ≡ word (descriptor_words ss) 4 = a.words 4 (omega arith) (omega arith) in
      let five : word (descriptor_words tt) 5 ≡ word (descriptor_words ss) 5 = a.words 5 (omega arith) (omega arith) in
      λ i. cond (nat_le 6 (words_alike i)) (four i * 65536 + five i) 0

  -- so they are read the same
  pub read_alike : (shape : Shape) → read_sights shape tt ≡ read_sights shape ss
  unfolding read_sights
  read_alike shape = model_same shape _ _ _ _ _ _ (good_all ss tt a.size (λ i. good_alike _ _ (a.each i))) last_alike (λ i. tidied (live_alike i) (described_alike i))

  -- the same mark
  pub mark_alike : mark_of tt ≡ mark_of ss
  mark_alike = a.words 6 (omega arith) (omega arith)
