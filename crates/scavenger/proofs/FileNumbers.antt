-- The pages of one file that are in use, and those that no sector carries.
use Rattle.std.proofs.Common.{◌≡◌, ◌⊎◌, inl, inr, ℕ, zero, suc, ◌+◌, ◌*◌, ◌/◌, ◌<◌, ◌≤◌, nat_lt, Bool, true, false, cond, not, List, length, Option, Some, None, refl, sym, ap, ◌∙◌, lt-ltb, le-ltb, arith}
use Rattle.std.specs.Option.{is_some}
use Rattle.std.proofs.lemmas.Bool.{cases_lt}
use Rattle.alto_words.specs.declared.fid.Fid.{Fid}
use Rattle.alto_words.specs.Fid.{disk_descriptor, is_directory, is_fid}
use Rattle.disk_records.specs.Addresses.{descriptor_length}
use Rattle.disk_records.specs.declared.shape.Shape.{Shape}
use Rattle.disk_records.specs.Packs.{Pack}
use Rattle.scav_names.specs.laws_contents.proofs.ends.Laws.{each_file_has_its_end}
use Rattle.scav_names.specs.laws_operation.proofs.places.Laws.{file_lives_in_a_place}
use Rattle.scav_names.specs.laws_record.proofs.Heads.{all_within}
use Rattle.scav_names.specs.laws_room.specs.CountLaws.{placed_pages}
use Rattle.scav_names.specs.pack_laws.proofs.Bytes.{length-words_of}
use Rattle.scav_names.specs.pack_laws.proofs.Keys.{same_fid}
use Rattle.scav_names.specs.pack_laws.proofs.Placing.{no_page, page_of_place}
use Rattle.pack_model.specs.hints.Links.{dir_words}
use Rattle.pack_model.specs.reading.Bodies.{body_length, body_of}
use Rattle.pack_model.specs.reading.Bodies.Body.{data_of, items_of}
use Rattle.pack_model.specs.reading.Bytes.{words_of}
use Rattle.pack_model.specs.reading.Files.{file_bytes, lives, page, place}
use Rattle.pack_model.specs.reading.Sights.{sights}
use Rattle.pack_model.specs.reading.Slots.{all_words, slots}
use Rattle.pack_model.specs.scavenger.Needed.{missing, page_lacks}
use Rattle.pack_model.specs.sessions.Descriptor.{data_pages}
use Rattle.pack_model.specs.states.InUse.{end_of, one_if}
use Rattle.scavenger.specs.InUse.{lacking_of, last_in_use}

-- a page is missing if it has no place
pub page_there : (p : Pack) (f : Fid) (n : ℕ) → is_some (page (sights p) f n) ≡ is_some (place (sights p) f (suc n))
page_there p f n = by (place (sights p) f (suc n)) refl
  where
    by : (o : Option ℕ) → place (sights p) f (suc n) ≡ o → is_some (page (sights p) f n) ≡ is_some (place (sights p) f (suc n))
    by None e = ap is_some (no_page (sights p) f n e) ∙ sym (ap is_some e)
    by (Some at) e = ap is_some (page_of_place (sights p) f n at e).page_is ∙ sym (ap is_some e)

pub lacks_place : (p : Pack) (f : Fid) (n : ℕ) → page_lacks (sights p) f n ≡ one_if (not (is_some (place (sights p) f (suc n))))
lacks_place p f n = ap (λ b. one_if (not b)) (page_there p f n)

-- ---- a living file
one_or_not : (b : Bool) → one_if b + one_if (not b) ≡ 1
one_or_not true = refl
one_or_not false = refl

-- each page up to one is carried, or it is missing
pub placed_or_missing : (p : Pack) (f : Fid) → lives (sights p) f ≡ true → (n : ℕ) → placed_pages (sights p) f n + missing (sights p) f n ≡ suc n
placed_or_missing p f living zero = let here : one_if (is_some (place (sights p) f 0)) ≡ 1 = ap one_if (sym (file_lives_in_a_place p f) ∙ living) in omega (arith, here)
placed_or_missing p f living (suc n) =
    let rest = placed_or_missing p f living n in
    let one = one_or_not (is_some (place (sights p) f (suc n))) in
    let same = lacks_place p f n in
    omega (arith, rest, one, same)

-- none is missing below the page that the end of the bytes is in
full_there : (p : Pack) (f : Fid) (n : ℕ) → n < length (file_bytes (sights p) f) / 512 → is_some (place (sights p) f (suc n)) ≡ true
full_there p f n few = ap is_some ((each_file_has_its_end p f).before.each n few).sector

none_missing : (p : Pack) (f : Fid) (n : ℕ) → n ≤ length (file_bytes (sights p) f) / 512 → missing (sights p) f n ≡ 0
none_missing p f zero few = refl
none_missing p f (suc n) few =
    let rest = none_missing p f n (omega arith) in
    let here = ap (λ b. one_if (not b)) (full_there p f n (omega arith)) in
    let same = lacks_place p f n in
    omega (arith, rest, here, same)

-- the slots of a directory, and the bytes of any other file, are within its bytes
body_within : (f : Fid) (bytes : List ℕ) → body_length (body_of f bytes) ≤ length bytes
body_within f bytes = by (is_directory f)
  where
    by : (b : Bool) → body_length (cond b (items_of (slots (words_of bytes))) (data_of bytes)) ≤ length bytes
    by true = let h = all_within (slots (words_of bytes)) (words_of bytes) refl in let w = length-words_of bytes in omega arith
    by false = omega arith

-- ---- its last page
abbrev pub its_end : Pack → Fid → ℕ
its_end p f = body_length (body_of f (file_bytes (sights p) f)) / 512

end_within : (p : Pack) (f : Fid) → its_end p f ≤ length (file_bytes (sights p) f) / 512
end_within p f = let few = body_within f (file_bytes (sights p) f) in omega (arith, few)

-- of any file except DiskDescriptor it is by the body, and it alone may be missing
pub last_by_body : (p : Pack) (f : Fid) → is_fid f disk_descriptor ≡ false → last_in_use p f ≡ suc (its_end p f)
last_by_body p f other = ap (λ b. suc (cond b (descriptor_length p.shape) (body_length (body_of f (file_bytes (sights p) f))) / 512)) other

pub lacks_by_body : (p : Pack) (f : Fid) → is_fid f disk_descriptor ≡ false → lacking_of p f ≡ page_lacks (sights p) f (its_end p f)
lacks_by_body p f other = ap (λ b. cond b (missing (sights p) f (suc (cond b (descriptor_length p.shape) (body_length (body_of f (file_bytes (sights p) f))) / 512))) (page_lacks (sights p) f (cond b (descriptor_length p.shape) (body_length (body_of f (file_bytes (sights p) f))) / 512))) other

pub lacks_by_format : (p : Pack) (f : Fid) → is_fid f disk_descriptor ≡ true → lacking_of p f ≡ missing (sights p) f (last_in_use p f)
lacks_by_format p f is = ap (λ b. cond b (missing (sights p) f (last_in_use p f)) (page_lacks (sights p) f (end_of p.shape f (body_of f (file_bytes (sights p) f)) / 512))) is

-- its pages are those that are carried and those that it lacks
pub file_total : (p : Pack) (f : Fid) → lives (sights p) f ≡ true → placed_pages (sights p) f (last_in_use p f) + lacking_of p f ≡ suc (last_in_use p f)
file_total p f living = by (is_fid f disk_descriptor) refl
  where
    all : placed_pages (sights p) f (last_in_use p f) + missing (sights p) f (last_in_use p f) ≡ suc (last_in_use p f)
    all = placed_or_missing p f living (last_in_use p f)

    by : (t : Bool) → is_fid f disk_descriptor ≡ t → placed_pages (sights p) f (last_in_use p f) + lacking_of p f ≡ suc (last_in_use p f)
    by true e = let same = lacks_by_format p f e in omega (arith, all, same)
    by false e =
        let last = last_by_body p f e in
        let same = lacks_by_body p f e in
        let none = none_missing p f (its_end p f) (end_within p f) in
        let parts : missing (sights p) f (last_in_use p f) ≡ page_lacks (sights p) f (its_end p f) + missing (sights p) f (its_end p f) = ap (missing (sights p) f) last in
        omega (arith, all, same, none, parts)

-- ---- by the pages that were met
-- The pages that were met are the full ones, and the one after them is missing; or they are all, and it isn't.
pub data PagesMet (p : Pack) (f : Fid) (pages : ℕ) : Type 0 where
  open_ended : pages ≡ length (file_bytes (sights p) f) / 512 → place (sights p) f (suc (length (file_bytes (sights p) f) / 512)) ≡ None → PagesMet p f pages
  closed : pages ≡ suc (length (file_bytes (sights p) f) / 512) → is_some (place (sights p) f (suc (length (file_bytes (sights p) f) / 512))) ≡ true → PagesMet p f pages

pub lacks_met : (p : Pack) (f : Fid) (pages : ℕ) → is_fid f disk_descriptor ≡ false → PagesMet p f pages → lacking_of p f ≡ one_if (nat_lt pages (last_in_use p f))
lacks_met p f pages other met = lacks_by_body p f other ∙ lacks_place p f (its_end p f) ∙ by (cases_lt (its_end p f) (length (file_bytes (sights p) f) / 512)) met ∙ sym (ap (λ n. one_if (nat_lt pages n)) (last_by_body p f other))
  where
    within : its_end p f ≤ length (file_bytes (sights p) f) / 512
    within = end_within p f

    reaches : (n : ℕ) → nat_lt pages n ≡ false → 0 ≡ one_if (nat_lt pages n)
    reaches n e = sym (ap one_if e)

    by : (its_end p f < length (file_bytes (sights p) f) / 512) ⊎ (length (file_bytes (sights p) f) / 512 ≤ its_end p f) → PagesMet p f pages → one_if (not (is_some (place (sights p) f (suc (its_end p f))))) ≡ one_if (nat_lt pages (suc (its_end p f)))
    by (inl less) (open_ended is none) = let few : nat_lt pages (suc (its_end p f)) ≡ false = le-ltb pages (suc (its_end p f)) (omega (arith, less, is)) in ap (λ b. one_if (not b)) (full_there p f (its_end p f) less) ∙ reaches (suc (its_end p f)) few
    by (inl less) (closed is there) = let few : nat_lt pages (suc (its_end p f)) ≡ false = le-ltb pages (suc (its_end p f)) (omega (arith, less, is)) in ap (λ b. one_if (not b)) (full_there p f (its_end p f) less) ∙ reaches (suc (its_end p f)) few
    by (inr most) (open_ended is none) =
        let same : its_end p f ≡ length (file_bytes (sights p) f) / 512 = omega (arith, within, most) in
        let few : nat_lt pages (suc (its_end p f)) ≡ true = lt-ltb pages (suc (its_end p f)) (omega (arith, same, is)) in
        ap (λ n. one_if (not (is_some (place (sights p) f (suc n))))) same ∙ ap (λ o. one_if (not (is_some o))) none ∙ sym (ap one_if few)
    by (inr most) (closed is there) =
        let same : its_end p f ≡ length (file_bytes (sights p) f) / 512 = omega (arith, within, most) in
        let few : nat_lt pages (suc (its_end p f)) ≡ false = le-ltb pages (suc (its_end p f)) (omega (arith, same, is)) in
        ap (λ n. one_if (not (is_some (place (sights p) f (suc n))))) same ∙ ap (λ b. one_if (not b)) there ∙ sym (ap one_if few)

-- ---- its number in memory
pub last_of_directory : (p : Pack) (f : Fid) (n : ℕ) → is_fid f disk_descriptor ≡ false → is_directory f ≡ true → n ≡ all_words (slots (dir_words p f)) → n / 256 + 1 ≡ last_in_use p f
last_of_directory p f n other isdir is =
    let body : its_end p f ≡ all_words (slots (dir_words p f)) * 2 / 512 = ap (λ b. body_length (cond b (items_of (slots (words_of (file_bytes (sights p) f)))) (data_of (file_bytes (sights p) f))) / 512) isdir in
    let last = last_by_body p f other in
    omega (arith, body, last, is)

pub last_of_file : (p : Pack) (f : Fid) (n : ℕ) → is_fid f disk_descriptor ≡ false → is_directory f ≡ false → n ≡ length (file_bytes (sights p) f) → n / 512 + 1 ≡ last_in_use p f
last_of_file p f n other isdir is =
    let body : its_end p f ≡ length (file_bytes (sights p) f) / 512 = ap (λ b. body_length (cond b (items_of (slots (words_of (file_bytes (sights p) f)))) (data_of (file_bytes (sights p) f))) / 512) isdir in
    let last = last_by_body p f other in
    omega (arith, body, last, is)

-- ---- how many it lacks, in memory
pub met_fewer : (p : Pack) (f : Fid) (pages last : ℕ) → is_fid f disk_descriptor ≡ false → PagesMet p f pages → last ≡ last_in_use p f → pages < last → 1 ≡ lacking_of p f
met_fewer p f pages last other met is few = let yes : nat_lt pages (last_in_use p f) ≡ true = lt-ltb pages (last_in_use p f) (omega (arith, is, few)) in sym (ap one_if yes) ∙ sym (lacks_met p f pages other met)

pub met_all : (p : Pack) (f : Fid) (pages last : ℕ) → is_fid f disk_descriptor ≡ false → PagesMet p f pages → last ≡ last_in_use p f → last ≤ pages → 0 ≡ lacking_of p f
met_all p f pages last other met is few = let no : nat_lt pages (last_in_use p f) ≡ false = le-ltb pages (last_in_use p f) (omega (arith, is, few)) in sym (ap one_if no) ∙ sym (lacks_met p f pages other met)

pub lacks_descriptor : (p : Pack) (f : Fid) (shape : Shape) (n : ℕ) → is_fid f disk_descriptor ≡ true → p.shape ≡ shape → n ≡ missing (sights p) disk_descriptor (data_pages shape) → n ≡ lacking_of p f
lacks_descriptor p f shape n is same number =
    number
    ∙ (λ i. missing (sights p) (sym (same_fid f disk_descriptor is) i) (data_pages (sym same i)))
    ∙ ap (missing (sights p) f) (sym (ap (λ b. suc (cond b (descriptor_length p.shape) (body_length (body_of f (file_bytes (sights p) f))) / 512)) is))
    ∙ sym (lacks_by_format p f is)
