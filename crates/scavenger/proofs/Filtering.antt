-- Numbers of those files that were met, and of one file more.
use Rattle.std.proofs.Common.{◌≡◌, ◌||◌, ◌+◌, Bool, true, false, cond, max, List, [], ◌∷◌, ◌++◌, Some, None, T, refl, sym, ap, ◌∙◌, arith}
use Rattle.std.specs.FinMap.{find, is_sorted}
use Rattle.std.specs.FinMap.Entries.{below_all}
use Rattle.std.specs.List.{filter}
use Rattle.alto_words.specs.declared.fid.Fid.{Fid}
use Rattle.alto_words.specs.Fid.{fid_cmp, is_fid, serial_of}
use Rattle.disk_records.specs.declared.shape.Shape.{Shape}
use Rattle.scav_names.specs.laws_room.specs.CountLaws.{count_placed, placed_pages}
use Rattle.scav_names.specs.laws_record.proofs.Around.{first_part, not_below, second_part}
use Rattle.scav_names.specs.pack_laws.proofs.Keys.{is_fid-itself, is_fid-sym, same_fid}
use Rattle.pack_model.specs.reading.Bodies.{File}
use Rattle.pack_model.specs.reading.Sights.{Sight}
use Rattle.pack_model.specs.scavenger.Needed.{file_lacks, files_lack}
use Rattle.pack_model.specs.scavenger.Reports.{greatest_serial}
use Rattle.pack_model.specs.states.InUse.{how_many, last_page, one_if}

abbrev Entries : Type 0
Entries = List (Fid × File)

-- one file more is met
abbrev pub more : (Fid → Bool) → Fid → Fid → Bool
more met f g = met g || is_fid g f

or_false : (a : Bool) → (a || false) ≡ a
or_false true = refl
or_false false = refl

or_true : (a : Bool) → (a || true) ≡ true
or_true true = refl
or_true false = refl

-- ---- the files that were met, and that one
-- where it isn't among them nothing changes
pub none_more : (met : Fid → Bool) (f : Fid) (es : Entries) → find fid_cmp f es ≡ None → filter (λ e. more met f e.0) es ≡ filter (λ e. met e.0) es
none_more met f [] none = refl
none_more met f (e ∷ es) none = by (none_more met f es) (is_fid f e.0) refl
  where
    by : (find fid_cmp f es ≡ None → filter (λ e. more met f e.0) es ≡ filter (λ e. met e.0) es) → (t : Bool) → is_fid f e.0 ≡ t → filter (λ e. more met f e.0) (e ∷ es) ≡ filter (λ e. met e.0) (e ∷ es)
    by again true q = absurd (let both : Some e.1 ≡ None = sym (ap (λ b. cond b (Some e.1) (find fid_cmp f es)) q) ∙ none in cc)
    by again false q =
        let rest = again (sym (ap (λ b. cond b (Some e.1) (find fid_cmp f es)) q) ∙ none) in
        let same : more met f e.0 ≡ met e.0 = ap (λ b. met e.0 || b) (is_fid-sym e.0 f ∙ q) ∙ or_false (met e.0) in
        λ i. cond (same i) (e ∷ rest i) (rest i)

-- else it comes among them
pub record IsAmong (met : Fid → Bool) (f : Fid) (x : File) (es : Entries) : Type 0 where
  pub front : Entries
  pub back : Entries
  pub new_is : filter (λ e. more met f e.0) es ≡ front ++ (f, x) ∷ back
  pub old_is : filter (λ e. met e.0) es ≡ front ++ back

pub one_more : (met : Fid → Bool) (f : Fid) (x : File) (es : Entries) → T (is_sorted fid_cmp es) → met f ≡ false → find fid_cmp f es ≡ Some x → IsAmong met f x es
one_more met f x [] sorted unmet here = absurd cc
one_more met f x (e ∷ es) sorted unmet here = by (one_more met f x es after unmet) (is_fid f e.0) refl
  where
    after : T (is_sorted fid_cmp es)
    after = second_part (below_all fid_cmp e.0 es) (is_sorted fid_cmp es) sorted

    by : (find fid_cmp f es ≡ Some x → IsAmong met f x es) → (t : Bool) → is_fid f e.0 ≡ t → IsAmong met f x (e ∷ es)
    by again true q =
        let same : f ≡ e.0 = same_fid f e.0 q in
        let value : Some e.1 ≡ Some x = sym (ap (λ b. cond b (Some e.1) (find fid_cmp f es)) q) ∙ here in
        let file : e.1 ≡ x = cc in
        let gone : find fid_cmp f es ≡ None = ap (λ g. find fid_cmp g es) same ∙ not_below fid_cmp e.0 es (first_part (below_all fid_cmp e.0 es) (is_sorted fid_cmp es) sorted) in
        let rest = none_more met f es gone in
        let yes : more met f e.0 ≡ true = ap (λ b. met e.0 || b) (is_fid-sym e.0 f ∙ q) ∙ or_true (met e.0) in
        let no : met e.0 ≡ false = ap met (sym same) ∙ unmet in
        record {
          front = [];
          back = filter (λ e. met e.0) es;
          new_is = ap (λ t. cond t (e ∷ filter (λ e. more met f e.0) es) (filter (λ e. more met f e.0) es)) yes ∙ (λ i. (sym same i, file i) ∷ rest i);
          old_is = ap (λ t. cond t (e ∷ filter (λ e. met e.0) es) (filter (λ e. met e.0) es)) no;
        }
    by again false q =
        let there : find fid_cmp f es ≡ Some x = sym (ap (λ b. cond b (Some e.1) (find fid_cmp f es)) q) ∙ here in
        let rest : IsAmong met f x es = again there in
        let same : more met f e.0 ≡ met e.0 = ap (λ b. met e.0 || b) (is_fid-sym e.0 f ∙ q) ∙ or_false (met e.0) in
        put rest same (met e.0) refl
      where
        put : IsAmong met f x es → more met f e.0 ≡ met e.0 → (t : Bool) → met e.0 ≡ t → IsAmong met f x (e ∷ es)
        put rest same true m = record {
          front = e ∷ rest.front;
          back = rest.back;
          new_is = ap (λ t. cond t (e ∷ filter (λ e. more met f e.0) es) (filter (λ e. more met f e.0) es)) (same ∙ m) ∙ ap (λ l. e ∷ l) rest.new_is;
          old_is = ap (λ t. cond t (e ∷ filter (λ e. met e.0) es) (filter (λ e. met e.0) es)) m ∙ ap (λ l. e ∷ l) rest.old_is;
        }
        put rest same false m = record {
          front = rest.front;
          back = rest.back;
          new_is = ap (λ t. cond t (e ∷ filter (λ e. more met f e.0) es) (filter (λ e. more met f e.0) es)) (same ∙ m) ∙ rest.new_is;
          old_is = ap (λ t. cond t (e ∷ filter (λ e. met e.0) es) (filter (λ e. met e.0) es)) m ∙ rest.old_is;
        }

-- ---- entries by their files
pub found_first : (e : Fid × File) (es : Entries) → find fid_cmp e.0 (e ∷ es) ≡ Some e.1
found_first e es = ap (λ b. cond b (Some e.1) (find fid_cmp e.0 es)) (is_fid-itself e.0)

pub found_later : (f : Fid) (x : File) (e : Fid × File) (es : Entries) → T (is_sorted fid_cmp (e ∷ es)) → find fid_cmp f es ≡ Some x → find fid_cmp f (e ∷ es) ≡ Some x
found_later f x e es sorted is = by (is_fid f e.0) refl
  where
    by : (t : Bool) → is_fid f e.0 ≡ t → cond (is_fid f e.0) (Some e.1) (find fid_cmp f es) ≡ Some x
    by false q = ap (λ b. cond b (Some e.1) (find fid_cmp f es)) q ∙ is
    by true q = absurd (let n : None ≡ Some x = sym (not_below fid_cmp e.0 es (first_part (below_all fid_cmp e.0 es) (is_sorted fid_cmp es) sorted)) ∙ ap (λ k. find fid_cmp k es) (sym (same_fid f e.0 q)) ∙ is in cc)

-- where all are met, all are left
pub all_met : (met : Fid → Bool) (es : Entries) → T (is_sorted fid_cmp es) → ((f : Fid) (x : File) → find fid_cmp f es ≡ Some x → met f ≡ true) → filter (λ e. met e.0) es ≡ es
all_met met [] sorted each = refl
all_met met (e ∷ es) sorted each =
    let yes : met e.0 ≡ true = each e.0 e.1 (found_first e es) in
    let rest = all_met met es (second_part (below_all fid_cmp e.0 es) (is_sorted fid_cmp es) sorted) (λ f x is. each f x (later f x is)) in
    ap (λ t. cond t (e ∷ filter (λ e. met e.0) es) (filter (λ e. met e.0) es)) yes ∙ ap (λ l. e ∷ l) rest
  where
    later : (f : Fid) (x : File) → find fid_cmp f es ≡ Some x → find fid_cmp f (e ∷ es) ≡ Some x
    later f x is = found_later f x e es sorted is

-- none is met
pub none_met_left : (es : Entries) → filter (λ e. false) es ≡ []
none_met_left [] = refl
none_met_left (e ∷ es) = none_met_left es

-- ---- numbers with one file more
module _ (shape : Shape) (ss : List Sight) (f : Fid) (x : File) where
  pub placed_more : (a b : Entries) → count_placed shape ss (a ++ (f, x) ∷ b) ≡ placed_pages ss f (last_page shape f x.body) + count_placed shape ss (a ++ b)
  placed_more [] b = refl
  placed_more (e ∷ a) b = let rest = placed_more a b in omega (arith, rest)

  pub lacks_more : (a b : Entries) → files_lack shape ss (a ++ (f, x) ∷ b) ≡ file_lacks shape ss f x.body + files_lack shape ss (a ++ b)
  lacks_more [] b = refl
  lacks_more (e ∷ a) b = let rest = lacks_more a b in omega (arith, rest)

  pub many_more : (test : Fid × File → Bool) (a b : Entries) → how_many test (a ++ (f, x) ∷ b) ≡ one_if (test (f, x)) + how_many test (a ++ b)
  many_more test [] b = refl
  many_more test (e ∷ a) b = let rest = many_more test a b in omega (arith, rest)

  pub serial_more : (a b : Entries) → greatest_serial (a ++ (f, x) ∷ b) ≡ max (serial_of f) (greatest_serial (a ++ b))
  serial_more [] b = refl
  serial_more (e ∷ a) b = let rest = serial_more a b in omega (arith, rest)
