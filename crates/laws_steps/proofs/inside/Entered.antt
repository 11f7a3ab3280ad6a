-- The entry that a name means, over operations that keep entries.
use Rattle.std.proofs.Common.{Bool, List, None, Option, Some, [], ap, append_assoc, cond, false, not, refl, sym, true, ℕ, ◌++◌, ◌∙◌, ◌∷◌, ◌≡◌}
use Rattle.std.specs.FinMap.{get}
use Rattle.std.specs.List.{list_any}
use Rattle.std.specs.Option.{option_map}
use Rattle.laws_call.specs.alto_words.specs.Fid.{is_fid}
use Rattle.laws_call.specs.alto_words.specs.Names.{is_same_name}
use Rattle.laws_call.specs.alto_words.specs.declared.fid.Fid.{Fid}
use Rattle.laws_call.specs.laws_line.specs.LineLaws.{IsEntered}
use Rattle.laws_call.specs.laws_lookup.proofs.names.Laws.{slots_stay}
use Rattle.laws_call.specs.laws_record.proofs.Tidying.{or_false_left, or_false_right}
use Rattle.pack_laws.proofs.Keys.{fid_same, fid_total, same_fid}
use Rattle.pack_laws.proofs.Mapping.{get-update}
use Rattle.laws_call.specs.pack_model.specs.operations.Step.Operation.{cut, drop_file, enter, grow, leave, make, put, stamp, title, widen}
use Rattle.laws_call.specs.pack_model.specs.operations.Step.{on_items, step}
use Rattle.laws_call.specs.pack_model.specs.reading.Bodies.Body.{data_of, items_of}
use Rattle.laws_call.specs.pack_model.specs.reading.Bodies.{Body, File, body_items, items_in}
use Rattle.laws_call.specs.pack_model.specs.reading.Model.{Model, dir_items}
use Rattle.laws_call.specs.pack_model.specs.reading.Namings.{namings_in}
use Rattle.laws_call.specs.pack_model.specs.reading.Slots.Item.{entry, space}
use Rattle.laws_call.specs.pack_model.specs.reading.Slots.{Item}
use Rattle.laws_call.specs.pack_model.specs.reading.Versions.{exact}
use Rattle.laws_steps.specs.EnteredLaws.{EnteredIsMeant, EnteredStays}

-- ---- the one that is meant
-- of the slots before it none has the name
module _ (d f : Fid) (own name : List ℕ) (same : is_same_name own name ≡ true) where
  meant_here : (a b : List Item) → list_any (λ e. is_same_name e.name name) (namings_in d a) ≡ false → exact name (a ++ entry f own ∷ b) ≡ Some (f, own)
  meant_here [] b none = ap (λ c. cond c (Some (f, own)) (exact name b)) same
  meant_here (space n ∷ a) b none = meant_here a b none
  meant_here (entry g mine ∷ a) b none =
      ap (λ c. cond c (Some (g, mine)) (exact name (a ++ entry f own ∷ b))) (or_false_left (is_same_name mine name) (list_any (λ e. is_same_name e.name name) (namings_in d a)) none)
      ∙ meant_here a b (or_false_right (is_same_name mine name) (list_any (λ e. is_same_name e.name name) (namings_in d a)) none)

pub entered_is_meant : EnteredIsMeant
entered_is_meant m d f name h = ap (exact name) h.items_are ∙ meant_here d f h.own name h.same h.before h.behind h.first

-- ---- it stays so
some_slot : (a b : List Item) (i : Item) → [] ≡ a ++ i ∷ b → ⊥
some_slot [] b i e = cc
some_slot (j ∷ a) b i e = cc

-- with slots after those of before
goes_on : (m n : Model) (d f : Fid) (name : List ℕ) (more : List Item) (h : IsEntered m d name f) → dir_items n d ≡ h.before ++ (entry f h.own ∷ (h.behind ++ more)) → IsEntered n d name f
goes_on m n d f name more h are = record { before = h.before; own = h.own; behind = h.behind ++ more; items_are = are; same = h.same; first = h.first }

-- with the same slots
still : (m n : Model) (d f : Fid) (name : List ℕ) → IsEntered m d name f → dir_items n d ≡ dir_items m d → IsEntered n d name f
still m n d f name h are = record { before = h.before; own = h.own; behind = h.behind; items_are = are ∙ h.items_are; same = h.same; first = h.first }

-- a directory with a page more
widened : (a b : List Item) (i : Item) (r : Option File) → items_in r ≡ a ++ i ∷ b → items_in (option_map (on_items (λ is. is ++ space 256 ∷ [])) r) ≡ a ++ (i ∷ (b ++ space 256 ∷ []))
widened a b i None e = absurd (some_slot a b i e)
widened a b i (Some x) e = by x.body e
  where
    by : (c : Body) → body_items c ≡ a ++ i ∷ b → items_in (Some (on_items (λ is. is ++ space 256 ∷ []) (record { leader = x.leader; body = c }))) ≡ a ++ (i ∷ (b ++ space 256 ∷ []))
    by (data_of bytes) e = absurd (some_slot a b i e)
    by (items_of is) e = ap (λ js. js ++ space 256 ∷ []) e ∙ append_assoc a (i ∷ b) (space 256 ∷ [])

pub entered_stays : EnteredStays
entered_stays m d f name (make g own moment) keeps h = absurd cc
entered_stays m d f name (put g offset new) keeps h = still m (step m (put g offset new)) d f name h (slots_stay m d (put g offset new) refl)
entered_stays m d f name (grow g new) keeps h = still m (step m (grow g new)) d f name h (slots_stay m d (grow g new) refl)
entered_stays m d f name (cut g n) keeps h = still m (step m (cut g n)) d f name h (slots_stay m d (cut g n) refl)
entered_stays m d f name (title g own) keeps h = still m (step m (title g own)) d f name h (slots_stay m d (title g own) refl)
entered_stays m d f name (stamp g moment) keeps h = still m (step m (stamp g moment)) d f name h (slots_stay m d (stamp g moment) refl)
entered_stays m d f name (drop_file g) keeps h = absurd cc
entered_stays m d f name (leave e own) keeps h = absurd cc
entered_stays m d f name (enter e own g) keeps h = absurd cc
entered_stays m d f name (widen e) keeps h = by (is_fid d e) refl
  where
    by : (c : Bool) → is_fid d e ≡ c → IsEntered (step m (widen e)) d name f
    by false is = still m (step m (widen e)) d f name h (slots_stay m d (widen e) (ap not is))
    by true is =
        goes_on m (step m (widen e)) d f name (space 256 ∷ []) h
        (ap items_in (get-update fid_total fid_same m.files e (on_items (λ is. is ++ space 256 ∷ [])) d)
        ∙ ap (λ c. items_in (cond c (option_map (on_items (λ is. is ++ space 256 ∷ [])) (get m.files e)) (get m.files d))) is
        ∙ widened h.before h.behind (entry f h.own) (get m.files e) (ap (λ k. items_in (get m.files k)) (sym (same_fid d e is)) ∙ h.items_are))
