-- What a sound pack is read as is settled.
use Rattle.std.proofs.Common.{Bool, List, None, Option, Some, [], ap, arith, cond, drop, false, length, refl, subst, suc, sym, true, zero, ℕ, ◌<◌, ◌==◌, ◌∙◌, ◌∷◌, ◌≡◌, ◌≤◌}
use Rattle.std.proofs.lemmas.List.Elements.{All-cons, All-head, All-nil, All-tail}
use Rattle.std.specs.FinMap.{get}
use Rattle.std.specs.Option.{is_some, option_map}
use Rattle.std.specs.Prelude.{All}
use Rattle.laws_room.specs.alto_words.proofs.Versions.{is_stored_name-fits}
use Rattle.laws_room.specs.alto_words.specs.Fid.{serial_of, sys_dir}
use Rattle.laws_room.specs.alto_words.specs.Names.{is_stored_name, lost}
use Rattle.laws_room.specs.alto_words.specs.declared.fid.Fid.{Fid}
use Rattle.disk_records.specs.Labels.{in_range, is_free, tag}
use Rattle.disk_records.specs.Packs.{Pack, is_usable, sector_at}
use Rattle.disk_records.specs.Words.{word}
use Rattle.disk_records.specs.declared.records.Sector.{Sector}
use Rattle.disk_records.specs.declared.shape.Shape.{Shape}
use Rattle.laws_line.proofs.inside.Runs.{IsShort}
use Rattle.laws_line.specs.LineLaws.{SoundIsSettled}
use Rattle.laws_line.specs.Ready.{Settled}
use Rattle.laws_room.specs.laws_operation.proofs.Changing.{headed}
use Rattle.laws_room.specs.pack_laws.proofs.Placing.{leader_of_place, place_of_leader}
use Rattle.laws_room.specs.pack_laws.proofs.Sighted.{length-sights, sights-get}
use Rattle.pack_model.specs.reading.Bodies.{File, body_items, described, found, is_described, items_in}
use Rattle.pack_model.specs.reading.Bodies.Body.{items_of}
use Rattle.pack_model.specs.reading.Bytes.{words_of}
use Rattle.pack_model.specs.reading.Files.{file_bytes, leader, lives}
use Rattle.pack_model.specs.reading.Leaders.{Leader, is_readable, leader_name, leader_of, leader_words, name_bytes, spelled_name}
use Rattle.pack_model.specs.reading.Model.{read_as, read_sights}
use Rattle.pack_model.specs.reading.Namings.{Naming, is_kept, items_kept, kept_by}
use Rattle.pack_model.specs.reading.Sights.{Sight, page_sight, sight, sights}
use Rattle.pack_model.specs.reading.Sights.Sight.{free, hidden, leads, stray}
use Rattle.pack_model.specs.reading.Slots.{Item, item_words, slots}
use Rattle.pack_model.specs.reading.Slots.Item.{entry, space}
use Rattle.pack_model.specs.states.Sound.{Sound}
use Rattle.pack_model.specs.showing.View.{seen_of}
use Rattle.laws_room.specs.laws_record.proofs.DirReads.{has_leader}
use Rattle.laws_room.specs.laws_record.proofs.Heads.{and_right, head_of, slots_cons}
use Rattle.laws_room.specs.laws_record.proofs.Keeping.{get-where}
use Rattle.laws_room.specs.laws_record.proofs.LeaderSteps.{body_left, tidied_file}
use Rattle.laws_room.specs.laws_record.proofs.Mending.{get-seen}
use Rattle.laws_room.specs.laws_record.proofs.Reading.{get-found, get_by, read_file}
use Rattle.laws_room.specs.laws_record.proofs.Systemic.{described_get}
use Rattle.laws_room.proofs.FreeRoom.{root_lives}
use Rattle.laws_room.proofs.rooms.Laws.{free_is_the_room}

-- ---- slots
-- a slot that is read has at most 1,023 words
pub slots_short : (is : List Item) (words : List ℕ) → slots words ≡ is → All IsShort is
slots_short [] words e = All-nil IsShort
slots_short (i ∷ is) words e =
    let s = slots_cons words i is e in
    let l = (head_of words i s.0).most in
    All-cons IsShort i is (omega arith) (slots_short is (drop (item_words i) words) s.1)

-- the scan leaves it as long
pub kept_short : (ok : List Naming → Naming → Bool) (d : Fid) (b : List Naming) (is : List Item) → All IsShort is → All IsShort (items_kept ok d b is)
kept_short ok d b [] h = All-nil IsShort
kept_short ok d b (space n ∷ is) h = All-cons IsShort (space n) (items_kept ok d b is) (All-head IsShort (space n) is h) (kept_short ok d b is (All-tail IsShort (space n) is h))
kept_short ok d b (entry f name ∷ is) h =
    All-cons IsShort (cond (ok b (record { dir = d; name = name; fid = f })) (entry f name) (space (item_words (entry f name)))) (items_kept ok d (kept_by ok d b (entry f name)) is)
    (one (ok b (record { dir = d; name = name; fid = f })) (All-head IsShort (entry f name) is h)) (kept_short ok d (kept_by ok d b (entry f name)) is (All-tail IsShort (entry f name) is h))
  where
    one : (c : Bool) → IsShort (entry f name) → IsShort (cond c (entry f name) (space (item_words (entry f name))))
    one true k = k
    one false k = k

-- ---- names
-- a name that can be read has at most 39 characters
name_fits : (f : Fid) (value : List ℕ) → is_readable (leader_words value) ≡ true → length (leader_of f value).name ≤ 39
unfolding leader_of leader_name is_readable
name_fits f value e =
    let words : List ℕ = leader_words value in
    let same = ap (λ b. length (cond b (spelled_name words) (lost (serial_of f)))) e in
    let l = is_stored_name-fits (spelled_name words) (and_right (length (spelled_name words) == word (name_bytes words) 0) (is_stored_name (spelled_name words)) e) in
    omega arith

-- so it is of a leader that a sector shows
leader_fits : (shape : Shape) (at : ℕ) (s : Sector) (f : Fid) (l : Leader) → sight shape at s ≡ leads f true l → length l.name ≤ 39
unfolding sight
leader_fits shape at s f l e = by (is_usable shape at s) (in_range (tag s.label)) (is_free (tag s.label)) (tag s.label).page e
  where
    by : (u r f0 : Bool) (k : ℕ) → cond u (cond r (page_sight (tag s.label).fid k (tag s.label).bytes s.value) (cond f0 free stray)) hidden ≡ leads f true l → length l.name ≤ 39
    by false r f0 k e = absurd cc
    by true false true k e = absurd cc
    by true false false k e = absurd cc
    by true true f0 (suc k) e = absurd cc
    by true true f0 zero e =
        let readable : is_readable (leader_words s.value) ≡ true = cc in
        let same : leader_of (tag s.label).fid s.value ≡ l = cc in
        subst (λ k. length k.name ≤ 39) same (name_fits (tag s.label).fid s.value readable)

module _ (p : Pack) (s : Sound p) where
  abbrev ss : List Sight
  ss = sights p

  -- a whole pack's leaders can be read
  lead_fits : (g : Fid) (l : Leader) → leader ss g ≡ Some l → length l.name ≤ 39
  lead_fits g l lead =
      let q = place_of_leader ss g l lead in
      let here = leader_of_place ss g q.0 q.1 in
      let h = headed ss g q.0 here.readable here.lead (s.whole.files g) (here.shows hidden) in
      let within : q.0 < length p.sectors = subst (λ n. q.0 < n) (length-sights p) here.within in
      let same : here.lead ≡ l = (let both : Some here.lead ≡ Some l = sym here.leader_is ∙ lead in cc) in
      subst (λ k. length k.name ≤ 39) same (leader_fits p.shape q.0 (sector_at p q.0) g here.lead (sym (sights-get p q.0 hidden within) ∙ h.leads_it.shows))

  -- a file of the model has its leader
  model_leader : (g : Fid) (x : File) → get (read_as p).files g ≡ Some x → leader ss g ≡ Some x.leader
  unfolding read_sights
  model_leader g x is = by (is_described g) (leader ss g) refl (ap (option_map (seen_of g)) (sym is) ∙ get-seen (lives ss) (described ss) g ∙ ap (option_map (seen_of g)) (get-where (found ss) is_described g ∙ ap (λ r. cond (is_described g) r None) (get-found ss g)))
    where
      by : (b : Bool) (r : Option Leader) → leader ss g ≡ r → Some (seen_of g x) ≡ option_map (seen_of g) (cond b (option_map (read_file g (file_bytes ss g)) r) None) → leader ss g ≡ Some x.leader
      by false r e q = absurd (let n : Some (seen_of g x) ≡ None = q in cc)
      by true None e q = absurd (let n : Some (seen_of g x) ≡ None = q in cc)
      by true (Some l) e q =
          let same : seen_of g x ≡ seen_of g (read_file g (file_bytes ss g) l) = cc in
          e ∙ ap (λ s. Some s.leader) (sym same)

  -- so it lives
  model_lives : (g : Fid) (r : Option File) → get (read_as p).files g ≡ r → is_some r ≡ true → lives ss g ≡ true
  model_lives g None e t = cc
  model_lives g (Some x) e t = ap is_some (model_leader g x e)

  -- ---- SysDir
  lead : (l : Leader) × (leader ss sys_dir ≡ Some l)
  lead = has_leader ss sys_dir (root_lives p.shape ss s.whole)

  abbrev root : File
  root = read_file sys_dir (file_bytes ss sys_dir) lead.0

  here : get (described ss) sys_dir ≡ Some root
  here = described_get ss sys_dir refl ∙ get_by ss sys_dir lead.0 (file_bytes ss sys_dir) lead.1 refl

  -- its slots, as the scan leaves them
  abbrev items : List Item
  items = body_items (body_left (lives ss) (described ss) sys_dir root here)

  root_is : get (read_as p).files sys_dir ≡ Some (record { leader = lead.0; body = items_of items })
  unfolding read_sights
  root_is = tidied_file (lives ss) (described ss) sys_dir root here

  items_short : All IsShort items
  items_short = kept_short (is_kept (lives ss)) sys_dir _ (slots (words_of (file_bytes ss sys_dir))) (slots_short (slots (words_of (file_bytes ss sys_dir))) (words_of (file_bytes ss sys_dir)) refl)

  -- together
  settled : Settled (read_as p)
  unfolding read_sights
  settled =
      let pages = (free_is_the_room p s.whole).pages in
      record {
        fitting = record {
          pages = omega arith;
          names = λ g x e. lead_fits g x.leader (model_leader g x e);
          slots = subst (λ r. All IsShort (items_in r)) (sym root_is) items_short;
        };
        root = (lead.0, items, root_is);
        main = s.whole.root_named;
        descriptor = s.whole.descriptor_named;
        all = λ g there. s.named g (model_lives g (get (read_as p).files g) refl there);
      }

pub sound_is_settled : SoundIsSettled
sound_is_settled p s = settled p s
