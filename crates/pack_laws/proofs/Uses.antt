-- Living files and sectors in use, by leaders and bytes: the forms that compute.
use Rattle.std.proofs.Common.{◌≡◌, ℕ, Bool, not, List, Option, Some, None, refl, ap, ◌∙◌}
use Rattle.std.specs.Prelude.{◌&&◌}
use Rattle.std.specs.Option.{option_map}
use Rattle.std.specs.FinMap.{get}
use Rattle.pack_model.specs.alto_words.specs.declared.fid.Fid.{Fid}
use Rattle.pack_model.specs.disk_records.specs.declared.shape.Shape.{Shape}
use Rattle.pack_model.specs.reading.Sights.{Sight}
use Rattle.pack_model.specs.reading.Files.{leader, place, numbered}
use Rattle.pack_model.specs.reading.Stored.{stored_file, files_shown}
use Rattle.pack_model.specs.reading.Bodies.{File, found, file_of}
use Rattle.pack_model.specs.states.InUse.{in_use, is_within, is_place, of_page, is_good, how_many, available}
use Rattle.pack_laws.proofs.Keys.{fid_total, fid_same}
use Rattle.pack_laws.proofs.Mapping.{get-map_values}
use Rattle.pack_laws.proofs.Storing.{get-files_shown}

-- a living file, by its leader and its bytes
abbrev pub file_by : List Sight → Fid → Option File
file_by ss f = option_map (λ l. file_of f (stored_file ss f l)) (leader ss f)

pub map_twice : {X Y Z : Type 0} (g : Y → Z) (h : X → Y) (r : Option X) → option_map g (option_map h r) ≡ option_map (λ x. g (h x)) r
map_twice g h None = refl
map_twice g h (Some x) = refl

pub found_is : (ss : List Sight) (f : Fid) → get (found ss) f ≡ file_by ss f
unfolding found
found_is ss f =
    get-map_values fid_total fid_same file_of (files_shown ss) f
    ∙ ap (option_map (file_of f)) (get-files_shown ss f)
    ∙ map_twice (file_of f) (stored_file ss f) (leader ss f)

-- in use, by that
abbrev pub used_by : Shape → List Sight → ℕ × Sight → Bool
used_by shape ss e = of_page (λ f n. is_within shape f n (file_by ss f) && is_place e.0 (place ss f n)) e.1

pub used_is : (shape : Shape) (ss : List Sight) (e : ℕ × Sight) → in_use shape ss e ≡ used_by shape ss e
used_is shape ss e = λ i. of_page (λ f n. is_within shape f n (found_is ss f i) && is_place e.0 (place ss f n)) e.1

pub available_is : (shape : Shape) (ss : List Sight) → available shape ss ≡ how_many (λ e. is_good e.1 && not (used_by shape ss e)) (numbered 0 ss)
unfolding available
available_is shape ss = λ i. how_many (λ e. is_good e.1 && not (used_is shape ss e i)) (numbered 0 ss)
