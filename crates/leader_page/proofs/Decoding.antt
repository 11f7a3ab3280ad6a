-- The leader of a value, and its name.
use Rattle.std.proofs.Common.{◌≡◌, ℕ, ◌+◌, ◌*◌, ◌<◌, Bool, false, cond, List, length, take, drop, Some, None, refl, sym, ap, ◌∙◌, arith, inl, inr}
use Rattle.std.proofs.lemmas.List.{length-drop, drop-take, take_all, get_or-take}
use Rattle.std.proofs.lemmas.Bool.{cases_Bool}
use Rattle.std.proofs.lemmas.Option.{cond_some}
use Rattle.alto_words.specs.declared.fid.Fid.{Fid}
use Rattle.alto_words.specs.Fid.{serial_of}
use Rattle.alto_words.specs.Names.{lost}
use Rattle.disk_records.specs.Words.{double}
use Rattle.pack_model.specs.reading.Leaders as model
use Rattle.pack_model.specs.reading.Leaders.{spelled_name, is_readable, leader_name, leader_words, leader_of}
use Rattle.leader_page.specs.declared.leader.Leader.{Leader}
use Rattle.leader_page.specs.Pages.{said, Says}
use Rattle.leader_page.proofs.Spelling.{spelled}
use Rattle.leader_page.proofs.Values.{in_words, leader_of-in_words, leader_name-readable}

-- ---- what a value says under some name
double_in : (value : List ℕ) (at : ℕ) → at + 1 < 246 → double (leader_words value) at ≡ double value at
double_in value at below =
    let high = get_or-take 246 value at 0 (omega (arith, below)) in
    let low = get_or-take 246 value (at + 1) 0 below in
    λ i. high i * 65536 + low i

pub under_name : (value : List ℕ) (l : Leader) → l.created ≡ double value 0 → l.written ≡ double value 2 → l.read ≡ double value 4 → l.rest ≡ take 220 (drop 26 value)
    → (f : Fid) → said l ≡ record (leader_of f value) { name = l.name }
under_name value l created written read rest f =
    let c = created ∙ sym (double_in value 0 (omega arith)) in
    let w = written ∙ sym (double_in value 2 (omega arith)) in
    let r = read ∙ sym (double_in value 4 (omega arith)) in
    let k = rest ∙ sym (drop-take 26 220 value) in
    (λ i. record { created = c i; written = w i; read = r i; name = l.name; rest = k i })
    ∙ ap (λ (m : model.Leader). record m { name = l.name }) (sym (leader_of-in_words f value))

pub hints_whole : (value : List ℕ) → length value ≡ 256 → take 10 (drop 246 value) ≡ drop 246 value
hints_whole value long = take_all 10 (drop 246 value) (omega (arith, length-drop 246 value, long))

-- ---- under its own name
-- the leader of a value under the name that a file has there
own_name : (f : Fid) (value name : List ℕ) → name ≡ leader_name f (leader_words value) → record (leader_of f value) { name = name } ≡ leader_of f value
own_name f value name own =
    ap (λ (m : model.Leader). record m { name = name }) (leader_of-in_words f value)
    ∙ ap (λ (n : List ℕ). record (in_words f (leader_words value)) { name = n }) own
    ∙ sym (leader_of-in_words f value)

name_read : (f : Fid) (value name : List ℕ) → Some name ≡ spelled (leader_words value) → name ≡ leader_name f (leader_words value)
name_read f value name some =
    let found = cond_some (is_readable (leader_words value)) (spelled_name (leader_words value)) name (sym some) in
    sym (leader_name-readable f (leader_words value) found.0 ∙ found.1)

pub none_decoded : (value : List ℕ) → None ≡ spelled (leader_words value) → is_readable (leader_words value) ≡ false
none_decoded value none =
    elim (cases_Bool (is_readable (leader_words value))) [
      | inl spells ↦ absurd (let e : spelled (leader_words value) ≡ Some (spelled_name (leader_words value)) = rw spells refl in cc)
      | inr spells_none ↦ spells_none
    ]

pub some_decoded : (value : List ℕ) (l : Leader) (name : List ℕ) → Some name ≡ spelled (leader_words value) → ((f : Fid) → said l ≡ record (leader_of f value) { name = name }) → l.hints ≡ drop 246 value
    → Says value (said l) l.hints
some_decoded value l name some under hints = record {
  readable = (cond_some (is_readable (leader_words value)) (spelled_name (leader_words value)) name (sym some)).0;
  leader_is = λ f. sym (under f ∙ own_name f value name (name_read f value name some));
  hints_are = sym hints;
}

-- ---- the leader of a file
pub of_file_named : (f : Fid) (value name : List ℕ) → Some name ≡ spelled (leader_words value) → record (leader_of f value) { name = name } ≡ leader_of f value
of_file_named f value name some = own_name f value name (name_read f value name some)

lost_name : (f : Fid) (words : List ℕ) → is_readable words ≡ false → lost (serial_of f) ≡ leader_name f words
unfolding leader_name
lost_name f words unread = sym (ap (λ (t : Bool). cond t (spelled_name words) (lost (serial_of f))) unread)

pub of_file_lost : (f : Fid) (value name : List ℕ) → name ≡ lost (serial_of f) → None ≡ spelled (leader_words value) → record (leader_of f value) { name = name } ≡ leader_of f value
of_file_lost f value name is none = own_name f value name (is ∙ lost_name f (leader_words value) (none_decoded value none))
