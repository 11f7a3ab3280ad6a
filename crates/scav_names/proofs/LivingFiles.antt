-- The living files of a pack in memory: they rise, and a file is among them if and only if it lives.
use Rattle.std.proofs.Common.{◌≡◌, Bool, true, false, cond, List, [], ◌∷◌, map, Option, Some, None, refl, sym, ap, ◌∙◌}
use Rattle.std.specs.Prelude.{◌||◌, ◌&&◌, T}
use Rattle.std.specs.declared.cmp.Ordering.{Ordering}
use Rattle.std.specs.declared.cmp.Ordering.TheVariants.{Less, Equal, Greater}
use Rattle.std.specs.Ordering.{is_lt}
use Rattle.std.specs.List.{AllByRecursion}
use Rattle.std.specs.List.Sorted.{IsStrictlySortedBy}
use Rattle.std.specs.Option.{is_some, option_map}
use Rattle.std.specs.FinMap.{find, get-entries, entries, entries_sorted, is_sorted}
use Rattle.std.specs.FinMap.Entries.{below_all}
use Rattle.alto_words.specs.declared.fid.Fid.{Fid}
use Rattle.alto_words.specs.Fid.{fid_cmp, is_fid, is_system}
use Rattle.disk_records.specs.Packs.{Pack}
use Rattle.pack_model.specs.reading.Bodies.{File, found}
use Rattle.pack_model.specs.reading.Files.{file_bytes, leader, lives}
use Rattle.pack_model.specs.reading.Sights.{Sight, sights}
use Rattle.scav_pages.specs.laws_record.proofs.Reading.{get-found, read_file}
use Rattle.scav_names.specs.Living.{Rises, lives_in, living_files, living_in, living_of}
use Rattle.scav_names.specs.Parting.{lives_then}

-- ---- they rise
pub is_less : (r : Ordering) (b : Bool) → T (is_lt r && b) → (r ≡ Less) × T b
is_less Less b h = (refl, h)
is_less Equal b h = absurd h
is_less Greater b h = absurd h

pub both : (a b : Bool) → T (a && b) → T a × T b
both true b h = (tt, h)
both false b h = absurd h

rises_first : (ss : List Sight) (q : Fid) (es : List (Fid × File)) → T (below_all fid_cmp q es) → AllByRecursion (λ y. fid_cmp q y ≡ Less) (map (λ x. x.fid) (map (living_of ss) es))
rises_first ss q [] h = tt
rises_first ss q (e ∷ es) h = let p = is_less (fid_cmp q e.0) (below_all fid_cmp q es) h in (p.0, rises_first ss q es p.1)

rises_from : (ss : List Sight) (es : List (Fid × File)) → T (is_sorted fid_cmp es) → Rises (map (living_of ss) es)
unfolding IsStrictlySortedBy
rises_from ss [] h = tt
rises_from ss (e ∷ es) h = let p = both (below_all fid_cmp e.0 es) (is_sorted fid_cmp es) h in (rises_first ss e.0 es p.0, rises_from ss es p.1)

pub living_rise : (p : Pack) → Rises (living_files p)
living_rise p = rises_from (sights p) (entries (found (sights p))) (entries_sorted (found (sights p)))

-- ---- the one with a full name
living_find : (ss : List Sight) (es : List (Fid × File)) (f : Fid) → is_some (living_in (map (living_of ss) es) f) ≡ is_some (find fid_cmp f es)
living_find ss [] f = refl
living_find ss (e ∷ es) f = elim (is_fid f e.0) as (λ b. is_some (cond b (Some (living_of ss e)) (living_in (map (living_of ss) es) f)) ≡ is_some (cond b (Some e.1) (find fid_cmp f es))) [ true ↦ refl | false ↦ living_find ss es f ]

some_mapped : {A B : Type 0} (g : A → B) (o : Option A) → is_some (option_map g o) ≡ is_some o
some_mapped g None = refl
some_mapped g (Some x) = refl

pub living_found : (p : Pack) (f : Fid) → is_some (living_in (living_files p) f) ≡ lives (sights p) f
living_found p f =
    living_find (sights p) (entries (found (sights p))) f
    ∙ ap is_some (sym (get-entries (found (sights p)) f) ∙ get-found (sights p) f)
    ∙ some_mapped (read_file f (file_bytes (sights p) f)) (leader (sights p) f)

or_cond : (a b : Bool) → (a || b) ≡ cond a true b
or_cond true b = refl
or_cond false b = refl

-- by memory, a system file taken for living
pub lives_in_is : (p : Pack) (f : Fid) → lives_in (living_files p) f ≡ lives_then p f
lives_in_is p f = ap (λ b. is_system f || b) (living_found p f) ∙ or_cond (is_system f) (lives (sights p) f)

pub lets_system : (p : Pack) (f : Fid) → is_system f ≡ true → lives_then p f ≡ true
lets_system p f is = ap (λ b. cond b true (lives (sights p) f)) is
