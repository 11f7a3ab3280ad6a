-- Sectors for pages that are lacking.
use Rattle.std.proofs.Common.{[], ◌++◌, ◌/◌, ◌∙◌, ◌∷◌, ◌≡◌, ◌≢◌, ◌≤◌, Bool, List, None, Option, Some, ap, arith, cond, false, get_or, length, not, refl, subst, sym, true, ℕ}
use Rattle.std.specs.FinMap.{entries, get}
use Rattle.std.specs.Option.{is_some}
use Rattle.laws_room.specs.alto_words.specs.declared.fid.Fid.{Fid}
use Rattle.laws_room.specs.alto_words.specs.Fid.{sys_dir}
use Rattle.laws_room.specs.disk_records.specs.Addresses.{descriptor_length}
use Rattle.laws_room.specs.disk_records.specs.Packs.{Pack, is_free_at}
use Rattle.laws_room.specs.disk_records.specs.declared.shape.Shape.{Shape}
use Rattle.laws_room.specs.pack_model.specs.reading.Bodies.{File, body_length, body_of, found}
use Rattle.laws_room.specs.pack_model.specs.reading.Files.{file_bytes, leader}
use Rattle.laws_room.specs.pack_model.specs.reading.Leaders.{Leader}
use Rattle.laws_room.specs.pack_model.specs.reading.Sights.{Sight, sights}
use Rattle.laws_room.specs.pack_model.specs.reading.Sights.Sight.{hidden, leads}
use Rattle.laws_room.specs.pack_model.specs.scavenger.Needed.{file_lacks, files_lack, missing, needed, page_lacks, root_lacks}
use Rattle.laws_room.specs.pack_model.specs.states.InUse.{is_free_sight, last_page, one_if}
use Rattle.laws_room.specs.pack_laws.proofs.Keys.{fid_same, fid_total}
use Rattle.laws_room.specs.pack_laws.proofs.Placing.{no_page}
use Rattle.laws_room.specs.laws_record.proofs.Around.{around}
use Rattle.laws_room.specs.laws_record.proofs.Reading.{get_by, read_file}
use Rattle.laws_room.proofs.Found.{found_shown}
use Rattle.laws_mend.proofs.inside.Counted.{body_ends}
use Rattle.laws_mend.proofs.inside.FreeOnes.{needed_is_free}
use Rattle.laws_mend.specs.NumberLaws.{LackingPageIsFree, RootNeedsTwo}

-- one file lacks no more than all do
one_lacks : (shape : Shape) (ss : List Sight) (f : Fid) (x : File) (front back : List (Fid × File)) → file_lacks shape ss f x.body ≤ files_lack shape ss (front ++ (f, x) ∷ back)
one_lacks shape ss f x [] back = omega arith
one_lacks shape ss f x (e ∷ front) back = let r = one_lacks shape ss f x front back in omega arith

pub file_is_counted : (shape : Shape) (ss : List Sight) (f : Fid) (x : File) → get (found ss) f ≡ Some x → file_lacks shape ss f x.body ≤ files_lack shape ss (entries (found ss))
file_is_counted shape ss f x is =
    let a = around fid_total fid_same (found ss) f x is in
    subst (λ es. file_lacks shape ss f x.body ≤ files_lack shape ss es) (sym a.was) (one_lacks shape ss f x a.front a.back)

-- what files lack is needed
pub lacking_is_needed : (p : Pack) → files_lack p.shape (sights p) (entries (found (sights p))) ≤ needed p.shape (sights p)
unfolding needed
lacking_is_needed p = omega arith

-- sector 1 isn't free where it is SysDir's leader page
pub root_taken : (p : Pack) (f : Fid) (readable : Bool) (l : Leader) → get_or (sights p) 1 hidden ≡ leads f readable l → (at : ℕ) → is_free_at p at ≡ true → at ≢ 1
root_taken p f readable l root at is same =
    let c : true ≡ false = sym is ∙ ap (is_free_at p) same ∙ found_shown p 1 ∙ ap is_free_sight root in cc

-- ---- the laws
pub lacking_page_is_free : LackingPageIsFree
lacking_page_is_free p f ready rooted live other lacks = by (leader (sights p) f) refl
  where
    by : (r : Option Leader) → leader (sights p) f ≡ r → (at : ℕ) × (at ≢ 1) × (is_free_at p at ≡ true)
    by None e = absurd (let c : false ≡ true = sym (ap is_some e) ∙ live in cc)
    by (Some l) e =
        let bytes : List ℕ = file_bytes (sights p) f in
        let counted = file_is_counted p.shape (sights p) f (read_file f bytes l) (get_by (sights p) f l bytes e refl) in
        let end : file_lacks p.shape (sights p) f (body_of f bytes) ≡ 1 =
        (λ i. cond (other i) (missing (sights p) f (last_page p.shape f (body_of f bytes))) (page_lacks (sights p) f (cond (other i) (descriptor_length p.shape) (body_length (body_of f bytes)) / 512)))
        ∙ ap (λ n. page_lacks (sights p) f (n / 512)) (body_ends p rooted.used.ended f live)
        ∙ ap (λ r. one_if (not (is_some r))) (no_page (sights p) f (length bytes / 512) lacks) in
        let all = lacking_is_needed p in
        let r = needed_is_free p rooted.used ready (omega arith) in
        (r.0, root_taken p sys_dir rooted.root.1 rooted.root.0 rooted.root.2 r.0 r.1, r.1)

pub root_needs_two : RootNeedsTwo
unfolding needed
root_needs_two p dead = let two : root_lacks (sights p) ≡ 2 = ap (λ b. cond b 0 2) dead in omega arith
