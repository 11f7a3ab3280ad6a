-- One file changes: pages, names, slots and entries of all files.
use Rattle.std.proofs.Common.{◌+◌, ◌∙◌, ◌≡◌, ◌≤◌, Bool, List, None, Option, Some, ap, arith, cond, false, length, refl, subst, sym, true, ℕ}
use Rattle.std.specs.FinMap.{contains_key, entries, get}
use Rattle.std.specs.Option.{is_some, option_map}
use Rattle.std.specs.Prelude.{All}
use Rattle.laws_room.specs.alto_words.specs.Fid.{is_fid, sys_dir}
use Rattle.laws_room.specs.alto_words.specs.declared.fid.Fid.{Fid}
use Rattle.laws_line.proofs.inside.Mentions.{Mentioned, mentioned, mentions, named_there}
use Rattle.laws_line.proofs.inside.Runs.{IsShort}
use Rattle.laws_line.specs.Ready.{Fitting}
use Rattle.laws_room.specs.pack_laws.proofs.Keys.{fid_same, fid_total, same_fid}
use Rattle.laws_room.specs.pack_laws.proofs.Mapping.{get-update}
use Rattle.pack_model.specs.reading.Bodies.{File, body_items, body_length, items_in, pages_for}
use Rattle.pack_model.specs.sessions.Maps.{update, update_found}
use Rattle.pack_model.specs.reading.Model.{IsNamed, Model, descriptor_pages, dir_items, files_pages, root_items}
use Rattle.pack_model.specs.operations.Rooms.{largest_run}
use Rattle.pack_model.specs.reading.Slots.{Item}
use Rattle.pack_model.specs.operations.Step.{update_file}
use Rattle.laws_room.specs.laws_record.proofs.FilePages.{changed_pages}
use Rattle.laws_room.specs.laws_record.proofs.Tidying.{some_map}

-- ---- what the new models keep
-- each leader's name has at most 39 characters
abbrev pub ShortNames : Model → Type 0
ShortNames m = (g : Fid) (x : File) → get m.files g ≡ Some x → length x.leader.name ≤ 39

-- So many pages more at most; the files and the names are still there, and so are the words that are free in a row in SysDir.
pub record Keeps (m n : Model) (more : ℕ) : Type 0 where
  pub shape : n.shape ≡ m.shape
  pub good : n.good ≡ m.good
  pub pages : files_pages (entries n.files) ≤ files_pages (entries m.files) + more
  pub names : ShortNames m → ShortNames n
  pub slots : All IsShort (root_items m) → All IsShort (root_items n)
  pub there : (q : Fid) → contains_key n.files q ≡ contains_key m.files q
  pub named : (q : Fid) → IsNamed m q → IsNamed n q
  pub row : largest_run (root_items m) ≤ largest_run (root_items n)

-- Of one file that changes.
pub record Fair (d : Fid) (g : File → File) (more : ℕ) (x : File) : Type 0 where
  pub pages : pages_for (body_length (g x).body) ≤ pages_for (body_length x.body) + more
  pub name : length x.leader.name ≤ 39 → length (g x).leader.name ≤ 39
  pub slots : All IsShort (body_items x.body) → All IsShort (body_items (g x).body)
  pub named : (q : Fid) → mentions q d (body_items x.body) ≡ true → mentions q d (body_items (g x).body) ≡ true
  pub row : largest_run (body_items x.body) ≤ largest_run (body_items (g x).body)

-- ---- a change of one file
module _ (m : Model) (d : Fid) (g : File → File) where
  -- a look-up
  pub got_updated : (q : Fid) → get (update m.files d g) q ≡ cond (is_fid q d) (option_map g (get m.files d)) (get m.files q)
  got_updated q = get-update fid_total fid_same m.files d g q

  -- no file comes or goes
  pub there_updated : (q : Fid) → contains_key (update m.files d g) q ≡ contains_key m.files q
  there_updated q = ap is_some (got_updated q) ∙ by (is_fid q d) refl
    where
      by : (b : Bool) → is_fid q d ≡ b → is_some (cond b (option_map g (get m.files d)) (get m.files q)) ≡ is_some (get m.files q)
      by true e = some_map g (get m.files d) ∙ ap (contains_key m.files) (sym (same_fid q d e))
      by false e = refl

  -- pages
  pub pages_updated : (more : ℕ) → ((x : File) → get m.files d ≡ Some x → pages_for (body_length (g x).body) ≤ pages_for (body_length x.body) + more) → files_pages (entries (update m.files d g)) ≤ files_pages (entries m.files) + more
  pages_updated more fair = by (get m.files d) refl
    where
      by : (r : Option File) → get m.files d ≡ r → files_pages (entries (update_found m.files d g r)) ≤ files_pages (entries m.files) + more
      by None e = omega arith
      by (Some x) e = let p = changed_pages m.files d x (g x) e in let l = fair x e in omega arith

  -- leaders' names
  pub names_updated : ((x : File) → get m.files d ≡ Some x → length x.leader.name ≤ 39 → length (g x).leader.name ≤ 39) → ShortNames m → ShortNames (update_file m d g)
  names_updated fair short q y is = by (is_fid q d) (get m.files d) refl (sym (got_updated q) ∙ is)
    where
      by : (b : Bool) (r : Option File) → get m.files d ≡ r → cond b (option_map g r) (get m.files q) ≡ Some y → length y.leader.name ≤ 39
      by false r e s = short q y s
      by true None e s = absurd (let n : None ≡ Some y = s in cc)
      by true (Some x) e s = let same : g x ≡ y = cc in subst (λ z. length z.leader.name ≤ 39) same (fair x e (short d x e))

  -- slots of any directory
  pub items_updated : (P : List Item → Type 0) (q : Fid) → ((x : File) → get m.files d ≡ Some x → P (body_items x.body) → P (body_items (g x).body)) → P (dir_items m q) → P (dir_items (update_file m d g) q)
  items_updated P q fair h = subst (λ r. P (items_in r)) (sym (got_updated q)) (by (is_fid q d) refl)
    where
      one : (r : Option File) → get m.files d ≡ r → P (items_in r) → P (items_in (option_map g r))
      one None e k = k
      one (Some x) e k = fair x e k

      by : (b : Bool) → is_fid q d ≡ b → P (items_in (cond b (option_map g (get m.files d)) (get m.files q)))
      by false e = h
      by true e = one (get m.files d) refl (subst (λ k. P (dir_items m k)) (same_fid q d e) h)

  -- entries
  pub named_updated : (q : Fid) → ((x : File) → get m.files d ≡ Some x → mentions q d (body_items x.body) ≡ true → mentions q d (body_items (g x).body) ≡ true) → IsNamed m q → IsNamed (update_file m d g) q
  named_updated q fair h = named_there (update m.files d g) q (by (mentioned m.files q h))
    where
      by : Mentioned m.files q → Mentioned (update m.files d g) q
      by s = at (is_fid s.dir d) refl
        where
          at : (b : Bool) → is_fid s.dir d ≡ b → Mentioned (update m.files d g) q
          at false e = record { dir = s.dir; own = s.own; there = got_updated s.dir ∙ ap (λ b. cond b (option_map g (get m.files d)) (get m.files s.dir)) e ∙ s.there; says = s.says }
          at true e =
              let here : get m.files d ≡ Some s.own = ap (get m.files) (sym (same_fid s.dir d e)) ∙ s.there in
              record {
                dir = d;
                own = g s.own;
                there = got_updated d ∙ ap (λ b. cond b (option_map g (get m.files d)) (get m.files d)) (ap (λ k. is_fid k d) (sym (same_fid s.dir d e)) ∙ e) ∙ ap (option_map g) here;
                says = fair s.own here (ap (λ k. mentions q k (body_items s.own.body)) (sym (same_fid s.dir d e)) ∙ s.says);
              }

  -- all of it
  pub kept_updated : (more : ℕ) → ((x : File) → get m.files d ≡ Some x → Fair d g more x) → Keeps m (update_file m d g) more
  kept_updated more fair = record {
    shape = refl;
    good = refl;
    pages = pages_updated more (λ x e. (fair x e).pages);
    names = names_updated (λ x e. (fair x e).name);
    slots = items_updated (All IsShort) sys_dir (λ x e. (fair x e).slots);
    there = there_updated;
    named = λ q. named_updated q (λ x e. (fair x e).named q);
    row = items_updated (λ is. largest_run (root_items m) ≤ largest_run is) sys_dir (λ x e h. let r = (fair x e).row in omega arith) (omega arith);
  }

-- so the files still fit, where there are so many pages
pub fitting_kept : (m n : Model) (more : ℕ) → Keeps m n more → Fitting m → files_pages (entries m.files) + more + descriptor_pages m.shape ≤ m.good → Fitting n
fitting_kept m n more k h enough =
    let p = k.pages in
    let s = ap descriptor_pages k.shape in
    let g = k.good in
    record { pages = omega arith; names = k.names h.names; slots = k.slots h.slots }

-- two changes
pub kept_both : (m n k : Model) (more rest : ℕ) → Keeps m n more → Keeps n k rest → Keeps m k (more + rest)
kept_both m n k more rest a b =
    let p = a.pages in
    let q = b.pages in
    let r = a.row in
    let s = b.row in
    record {
      shape = b.shape ∙ a.shape;
      good = b.good ∙ a.good;
      pages = omega arith;
      names = λ h. b.names (a.names h);
      slots = λ h. b.slots (a.slots h);
      there = λ q. b.there q ∙ a.there q;
      named = λ q h. b.named q (a.named q h);
      row = omega arith;
    }
