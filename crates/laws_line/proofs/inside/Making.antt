-- A new file: it alone has no name, and SysDir still has the run for it.
use Rattle.std.proofs.Common.{◌+◌, ◌∙◌, ◌≡◌, ◌≤◌, Bool, List, None, Some, ap, arith, cond, false, length, refl, subst, sym, true, ℕ}
use Rattle.std.specs.FinMap.{contains_key, entries, get, get-insert}
use Rattle.std.specs.Option.{is_some}
use Rattle.std.specs.Prelude.{All}
use Rattle.laws_room.specs.alto_words.specs.Fid.{disk_descriptor, is_fid, sys_dir}
use Rattle.laws_room.specs.alto_words.specs.declared.fid.Fid.{Fid}
use Rattle.laws_line.proofs.inside.Mentions.{Mentioned, mentioned, named_there}
use Rattle.laws_line.proofs.inside.Runs.{IsShort}
use Rattle.laws_line.proofs.inside.Spared.{Spared}
use Rattle.laws_line.proofs.inside.Throughout.{Pages}
use Rattle.laws_room.specs.pack_laws.proofs.Keys.{fid_total, same_fid}
use Rattle.pack_model.specs.reading.Bodies.{File, items_in}
use Rattle.pack_model.specs.reading.Model.{IsNamed, Model, files_pages, root_items}
use Rattle.pack_model.specs.operations.Rooms.{largest_run}
use Rattle.pack_model.specs.operations.Step.{new_file, step}
use Rattle.pack_model.specs.operations.Step.Operation.{make}
use Rattle.laws_room.specs.laws_record.proofs.FilePages.{new_pages}
use Rattle.laws_room.proofs.Stepping.{first_pages}
use Rattle.laws_room.specs.pack_laws.proofs.Placing.{none_of_false}

module _ (m : Model) (f : Fid) (name : List ℕ) (moment : ℕ) (s : Spared m f) (short : length name ≤ 39) (fresh : contains_key m.files f ≡ false) where
  -- the model then
  abbrev made : Model
  made = step m (make f name moment)

  none : get m.files f ≡ None
  none = none_of_false (get m.files f) fresh

  -- a look-up
  got : (q : Fid) → get made.files q ≡ cond (is_fid q f) (Some (new_file f name moment)) (get m.files q)
  got q = get-insert fid_total m.files f (new_file f name moment) q

  -- two pages more
  pub made_pages : files_pages (entries made.files) ≡ 2 + files_pages (entries m.files)
  made_pages = let p = new_pages m.files f (new_file f name moment) none in let n = first_pages f in omega arith

  -- SysDir is another file, since it has a run of free words
  root_still : root_items made ≡ root_items m
  root_still = ap items_in (got sys_dir) ∙ by (is_fid sys_dir f) refl
    where
      by : (b : Bool) → is_fid sys_dir f ≡ b → items_in (cond b (Some (new_file f name moment)) (get m.files sys_dir)) ≡ root_items m
      by false e = refl
      by true e = absurd (let h = s.run in let n = ap (λ r. largest_run (items_in r)) (ap (get m.files) (same_fid sys_dir f e) ∙ none) in omega arith)

  -- leaders' names
  names_still : (q : Fid) (y : File) → get made.files q ≡ Some y → length y.leader.name ≤ 39
  names_still q y is = by (is_fid q f) (sym (got q) ∙ is)
    where
      by : (b : Bool) → cond b (Some (new_file f name moment)) (get m.files q) ≡ Some y → length y.leader.name ≤ 39
      by false e = s.fitting.names q y e
      by true e = let same : new_file f name moment ≡ y = cc in subst (λ z. length z.leader.name ≤ 39) same short

  -- entries
  named_still : (q : Fid) → IsNamed m q → IsNamed made q
  named_still q h = named_there made.files q (at (mentioned m.files q h))
    where
      at : Mentioned m.files q → Mentioned made.files q
      at k = by (is_fid k.dir f) refl
        where
          by : (b : Bool) → is_fid k.dir f ≡ b → Mentioned made.files q
          by true e = absurd (let n : None ≡ Some k.own = sym none ∙ ap (get m.files) (sym (same_fid k.dir f e)) ∙ k.there in cc)
          by false e = record { dir = k.dir; own = k.own; there = got k.dir ∙ ap (λ b. cond b (Some (new_file f name moment)) (get m.files k.dir)) e ∙ k.there; says = k.says }

  -- another file was there before
  others_there : (g : Fid) → contains_key made.files g ≡ true → is_fid g f ≡ false → contains_key m.files g ≡ true
  others_there g there other = ap is_some (sym (ap (λ b. cond b (Some (new_file f name moment)) (get m.files g)) other) ∙ sym (got g)) ∙ there

  -- together
  pub made_spared : Pages m 2 → Spared made f
  made_spared enough =
      let p = made_pages in
      let r = ap largest_run root_still in
      let h = s.run in
      record {
        fitting = record { pages = omega arith; names = names_still; slots = subst (All IsShort) (sym root_still) s.fitting.slots };
        named = record {
          main = named_still sys_dir s.named.main;
          descriptor = named_still disk_descriptor s.named.descriptor;
          others = λ g there other. named_still g (s.named.others g (others_there g there other) other);
        };
        run = omega arith;
      }
