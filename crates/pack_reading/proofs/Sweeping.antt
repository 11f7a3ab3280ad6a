-- What a sweep of all sectors keeps, by what each of its steps does.
use Rattle.std.proofs.Common.{◌≡◌, ℕ, List, [], ◌∷◌, ◌++◌, Bool, IsTrue, Option, Some, None, refl, sym, ◌∙◌, ap}
use Rattle.std.specs.Option.{option_map, option_or}
use Rattle.alto_words.specs.declared.fid.Fid.{Fid}
use Rattle.disk_records.specs.Tapes.{Taped, pack}
use Rattle.pack_model.specs.reading.Sights.{Sight, sights}
use Rattle.pack_model.specs.reading.Sights.Sight.{hidden}
use Rattle.pack_model.specs.reading.Files.{first, leader_at, page_at}
use Rattle.label_sweep.specs.pack_laws.proofs.Firsts.{first_more}
use Rattle.label_sweep.specs.Swept as sweeps
use Rattle.label_sweep.proofs.Visiting.{kept_by_steps}
use Rattle.pack_reading.specs.declared.swept.Swept.{Swept}
use Rattle.pack_reading.specs.declared.sweep.Reading.{Reading}
use Rattle.pack_reading.specs.Kept.{plain_leader, leader_kept, page_kept, KeepsSight, HoldsSights}

pub map_or : {X Y : Type 0} (g : X → Y) (a b : Option X) → option_or (option_map g a) (option_map g b) ≡ option_map g (option_or a b)
map_or g None b = refl
map_or g (Some x) b = refl

-- sector 0 shows nothing
pub nothing_first : {X : Type 0} (answer : Sight → Option X) → answer hidden ≡ None → None ≡ first answer (hidden ∷ [])
unfolding first
nothing_first answer e = rw e refl

pub holds_none : (swept : Swept) → ((f : Fid) → leader_kept swept.leaders f ≡ None) → ((f : Fid) (n : ℕ) → page_kept swept.pages f n ≡ None) → HoldsSights (hidden ∷ []) swept
holds_none swept leaders pages = record {
  leaders = λ f. leaders f ∙ ap (option_map plain_leader) (nothing_first (leader_at f) refl);
  pages = λ f n. pages f n ∙ nothing_first (page_at f n) refl;
}

-- one sector more
pub holds_more : (ss : List Sight) (s : Sight) (old new : Swept) → HoldsSights ss old → KeepsSight s old new → HoldsSights (ss ++ s ∷ []) new
holds_more ss s old new so_far kept = record {
  leaders = λ f.
      kept.leaders f
      ∙ ap (λ o. option_or o (option_map plain_leader (leader_at f s))) (so_far.leaders f)
      ∙ map_or plain_leader (first (leader_at f) ss) (leader_at f s)
      ∙ ap (option_map plain_leader) (sym (first_more (leader_at f) ss s));
  pages = λ f n.
      kept.pages f n
      ∙ ap (λ o. option_or o (page_at f n s)) (so_far.pages f n)
      ∙ sym (first_more (page_at f n) ss s);
}

-- what a step does
abbrev Step : Reading → ℕ → Sight → Reading → Type 0
Step old at s new = KeepsSight s old.swept new.swept

pub holds_all : {told : Bool} {t : Taped} (before after : Reading) → ((f : Fid) → leader_kept before.swept.leaders f ≡ None) → ((f : Fid) (n : ℕ) → page_kept before.swept.pages f n ≡ None)
    → sweeps.Swept told Step t before after → IsTrue told → HoldsSights (sights (pack t)) after.swept
holds_all before after leaders pages swept h =
    kept_by_steps Step (λ ss v. HoldsSights ss v.swept) (λ rs u w s so_far step. holds_more rs s u.swept w.swept so_far step) (holds_none before.swept leaders pages) swept h
