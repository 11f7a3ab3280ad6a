-- How many files get a name: as many as are lacking, the system files aside, and fewer than sectors.
use Rattle.std.proofs.Common.{◌≡◌, ℕ, suc, ◌+◌, ◌≤◌, Bool, true, false, cond, not, List, [], ◌∷◌, length, map, Less, Equal, Greater, refl, ap, ◌∙◌, arith}
use Rattle.std.specs.declared.cmp.Ordering.{Ordering}
use Rattle.std.specs.FinMap.{FinMap, contains_key, entries}
use Rattle.std.specs.FinMap.Entries.{by_order, put, where_key}
use Rattle.alto_words.specs.declared.fid.Fid.{Fid}
use Rattle.alto_words.specs.Fid.{disk_descriptor, fid_cmp, is_system, sys_dir}
use Rattle.disk_records.specs.Packs.{Pack}
use Rattle.laws_names.proofs.lacking.Laws.{lacking_are_adopted}
use Rattle.laws_names.proofs.models.Laws.{mended_is_read}
use Rattle.scav_pages.specs.laws_record.proofs.Mending.{entries-tidied}
use Rattle.laws_room.specs.NextLaws.{mended_pack}
use Rattle.scav_pages.specs.pack_laws.proofs.ByLists.{described_list, found_by, is_shown, puts, seen_list}
use Rattle.scav_pages.specs.pack_laws.proofs.Sighted.{length-sights}
use Rattle.pack_model.specs.reading.Bodies.{File, described, file_of, is_described}
use Rattle.pack_model.specs.reading.Leaders.{Leader}
use Rattle.pack_model.specs.reading.Model.{Model, is_named, read_as, read_sights}
use Rattle.pack_model.specs.reading.Namings.{Naming, descriptor_name, files_kept, is_kept, kept_after_body, sys_dir_name}
use Rattle.pack_model.specs.reading.Files.{lives}
use Rattle.pack_model.specs.reading.Sights.{Sight, sights}
use Rattle.pack_model.specs.reading.Sights.Sight.{free, hidden, holds, leads, stray}
use Rattle.pack_model.specs.reading.Stored.{leader_entries, stored_file}
use Rattle.pack_model.specs.scavenger.Mended.{lacking}
use Rattle.pack_model.specs.scavenger.Reports.{PagesMended, adopted_files}
use Rattle.pack_model.specs.sessions.Maps.{map_entries}
use Rattle.pack_model.specs.showing.Settling.{adopted, chosen, given_names, unless}
use Rattle.pack_model.specs.showing.View.{Home, Seen, seen_of, view}
use Rattle.pack_model.specs.states.InUse.{how_many, one_if}
use Rattle.scav_names.specs.Lacking.{adopted_among, lacking_file, lacking_files}

-- ---- counted
among_pairs : (p : Pack) (es : List (Fid × List ℕ)) → adopted_among (map (lacking_file p) es) ≡ how_many {X = Fid × List ℕ} (λ e. not (is_system e.0)) es
among_pairs p [] = refl
among_pairs p (e ∷ es) = ap (λ n. one_if (not (is_system e.0)) + n) (among_pairs p es)

pub lacking_counted : (p : Pack) → PagesMended p → adopted_among (lacking_files p) ≡ adopted_files p
lacking_counted p m = among_pairs p (lacking (mended_pack p)) ∙ lacking_are_adopted p m

-- ---- at most
few_where : {X : Type 0} (test : Fid → Bool) (es : List (Fid × X)) → length (where_key fid_cmp test es) ≤ length es
few_where test [] = omega arith
few_where {X} test (e ∷ es) = by (test e.0) (few_where test es)
  where
    by : (b : Bool) → length (where_key fid_cmp test es) ≤ length es → length (cond b (e ∷ where_key fid_cmp test es) (where_key fid_cmp test es)) ≤ suc (length es)
    by true l = omega (arith, l)
    by false l = omega (arith, l)

many_mapped : {X Y : Type 0} (g : Fid → X → Y) (es : List (Fid × X)) → length (map_entries g es) ≡ length es
many_mapped g [] = refl
many_mapped g (e ∷ es) = ap suc (many_mapped g es)

many_kept : (ok : List Naming → Naming → Bool) (before : List Naming) (es : List (Fid × File)) → length (files_kept ok before es) ≡ length es
many_kept ok before [] = refl
many_kept ok before (e ∷ es) = ap suc (many_kept ok (kept_after_body ok e.0 before e.1.body) es)

few_given : (names : FinMap fid_cmp Home) (es : List (Fid × Seen)) → length (given_names names es) ≤ length es
few_given names [] = omega arith
few_given names (e ∷ es) = by (contains_key names e.0) (few_given (adopted names e) es)
  where
    by : (b : Bool) → length (given_names (adopted names e) es) ≤ length es → length (unless b (e.0, chosen names e.1.leader.name) (given_names (adopted names e) es)) ≤ suc (length es)
    by true l = omega (arith, l)
    by false l = omega (arith, l)

few_put : (f : Fid) (l : Leader) (es : List (Fid × Leader)) → length (put fid_cmp f l es) ≤ suc (length es)
few_put f l [] = omega arith
few_put f l (e ∷ es) = by (fid_cmp f e.0) (few_put f l es)
  where
    by : (r : Ordering) → length (put fid_cmp f l es) ≤ suc (length es) → length (by_order r ((f, l) ∷ e ∷ es) ((e.0, l) ∷ es) (e ∷ put fid_cmp f l es)) ≤ suc (suc (length es))
    by Less more = omega arith
    by Equal more = omega arith
    by Greater more = omega (arith, more)

few_puts : (es : List (Fid × Leader)) → length (puts fid_cmp es) ≤ length es
few_puts [] = omega arith
few_puts (e ∷ es) = let one = few_put e.0 e.1 (puts fid_cmp es) in let rest = few_puts es in omega (arith, one, rest)

few_leaders : (ss : List Sight) → length (leader_entries ss) ≤ length ss
few_leaders [] = omega arith
few_leaders (hidden ∷ ss) = let rest = few_leaders ss in omega (arith, rest)
few_leaders (free ∷ ss) = let rest = few_leaders ss in omega (arith, rest)
few_leaders (stray ∷ ss) = let rest = few_leaders ss in omega (arith, rest)
few_leaders (leads f readable l ∷ ss) = let rest = few_leaders ss in omega (arith, rest)
few_leaders (holds f n bytes ∷ ss) = let rest = few_leaders ss in omega (arith, rest)

few_unless : (b : Bool) (x : Fid × List ℕ) (xs : List (Fid × List ℕ)) → length (unless b x xs) ≤ suc (length xs)
few_unless true x xs = omega arith
few_unless false x xs = omega arith

few_read : (p : Pack) → length (entries (read_as p).files) ≤ length (sights p)
unfolding read_sights
few_read p =
    let kept : length (entries (read_as p).files) ≡ length (entries (described (sights p))) = ap length (entries-tidied (lives (sights p)) (described (sights p))) ∙ many_kept (is_kept (lives (sights p))) [] (entries (described (sights p))) in
    let told = ap length (described_list (sights p)) in
    let some = few_where is_described (found_by (sights p)) in
    let all = many_mapped file_of (map_entries (stored_file (sights p)) (puts fid_cmp (leader_entries (sights p)))) ∙ many_mapped (stored_file (sights p)) (puts fid_cmp (leader_entries (sights p))) in
    let each = few_puts (leader_entries (sights p)) in
    let shown = few_leaders (sights p) in
    omega (arith, kept, told, some, all, each, shown)

few_then : (p : Pack) → length (lacking (read_as p)) ≤ length (sights p) + 2
unfolding lacking
few_then p =
    let r : Model = read_as p in
    let given : List (Fid × List ℕ) = given_names (view r).names (entries (view r).files) in
    let one = few_unless (is_named r sys_dir) (sys_dir, sys_dir_name) (unless (is_named r disk_descriptor) (disk_descriptor, descriptor_name) given) in
    let two = few_unless (is_named r disk_descriptor) (disk_descriptor, descriptor_name) given in
    let few = few_given (view r).names (entries (view r).files) in
    let seen = ap length (seen_list r) in
    let some = few_where is_shown (map_entries seen_of (entries r.files)) in
    let all = many_mapped seen_of (entries r.files) in
    let read = few_read p in
    omega (arith, one, two, few, seen, some, all, read)

many_pairs : (p : Pack) (es : List (Fid × List ℕ)) → length (map (lacking_file p) es) ≡ length es
many_pairs p [] = refl
many_pairs p (e ∷ es) = ap suc (many_pairs p es)

pub few_lacking : (p : Pack) → PagesMended p → length (lacking_files p) ≤ length p.sectors + 2
few_lacking p m =
    let many = many_pairs p (lacking (mended_pack p)) in
    let same = ap length (mended_is_read p m).lacking_is in
    let few = few_then p in
    let size = length-sights p in
    omega (arith, many, same, few, size)
