-- One directory changes, among the files as the Scavenger will find them.
use Rattle.std.proofs.Common.{◌∙◌, ◌≡◌, Bool, Some, ap, cond, false, refl, sym, true}
use Rattle.std.specs.FinMap.{get, get-insert, insert, same_map}
use Rattle.laws_operation.specs.alto_words.specs.Fid.{is_fid, sys_dir}
use Rattle.laws_operation.specs.alto_words.specs.declared.fid.Fid.{Fid}
use Rattle.laws_operation.specs.pack_model.specs.reading.Bodies.{File, Files}
use Rattle.laws_operation.specs.pack_model.specs.scavenger.Mended.{root_body, root_file, rooted}
use Rattle.laws_operation.specs.pack_laws.proofs.Keys.{fid_same, fid_total, is_fid-sym, same_fid}

-- SysDir's leader is left out
abbrev pub counted_file : Fid → File → File
counted_file d x = cond (is_fid d sys_dir) (root_file x.body) x

-- a change of one file is a change of that file
pub rooted_at : (files : Files) (d : Fid) (x : File) → rooted (insert files d x) ≡ insert (rooted files) d (counted_file d x)
rooted_at files d x = same_map fid_total fid_same _ _ (λ q.
    get-insert fid_total (insert files d x) sys_dir _ q
    ∙ ap (cond (is_fid q sys_dir) (Some (root_file (root_body (get (insert files d x) sys_dir))))) (get-insert fid_total files d x q)
    ∙ ap (λ r. cond (is_fid q sys_dir) (Some (root_file (root_body r))) (cond (is_fid q d) (Some x) (get files q))) (get-insert fid_total files d x sys_dir)
    ∙ at q (is_fid q sys_dir) (is_fid q d) (is_fid sys_dir d) refl refl refl
    ∙ sym (ap (cond (is_fid q d) (Some (counted_file d x))) (get-insert fid_total files sys_dir _ q))
    ∙ sym (get-insert fid_total (rooted files) d _ q))
  where
    at : (q : Fid) (a b c : Bool) → is_fid q sys_dir ≡ a → is_fid q d ≡ b → is_fid sys_dir d ≡ c
        → cond a (Some (root_file (root_body (cond c (Some x) (get files sys_dir))))) (cond b (Some x) (get files q)) ≡ cond b (Some (counted_file d x)) (cond a (Some (root_file (root_body (get files sys_dir)))) (get files q))
    at q true true true p r s = ap (λ t. Some (cond t (root_file x.body) x)) (sym (is_fid-sym d sys_dir ∙ s))
    at q true true false p r s = absurd (let e : false ≡ true = sym s ∙ ap (λ g. is_fid g d) (sym (same_fid q sys_dir p)) ∙ r in cc)
    at q true false true p r s = absurd (let e : true ≡ false = sym s ∙ ap (λ g. is_fid g d) (sym (same_fid q sys_dir p)) ∙ r in cc)
    at q true false false p r s = refl
    at q false true true p r s = absurd (let e : false ≡ true = sym p ∙ ap (λ g. is_fid g sys_dir) (same_fid q d r) ∙ is_fid-sym d sys_dir ∙ s in cc)
    at q false true false p r s = ap (λ t. Some (cond t (root_file x.body) x)) (sym (is_fid-sym d sys_dir ∙ s))
    at q false false c p r s = refl
