-- The records before the first one that is written.
use Rattle.std.proofs.Common.{◌≡◌, ℕ, ◌*◌, Bool, true, false, cond, ◌&&◌, List, [], ◌++◌, length, refl, sym, ap, ◌∙◌, arith, IsTrue, Option}
use Rattle.std.proofs.lemmas.Bool.{false≢true}
use Rattle.std.proofs.lemmas.List.{append_assoc, append-nil, length-append}
use Rattle.std.specs.Io.KnownBytes.{Consumes}
use Rattle.disk_records.specs.declared.records.Act.{Act}
use Rattle.disk_records.specs.declared.records.Act.TheVariants.{Read, Check, Write}
use Rattle.disk_records.specs.declared.records.Plan.{Plan}
use Rattle.disk_records.specs.declared.records.Sector.{Sector}
use Rattle.disk_records.specs.Checks.{is_write, may_follow, is_legal}
use Rattle.disk_image.specs.Images.{sector_bytes, IsWhole}
use Rattle.disk_image.specs.Records.{read_bytes, read_length, front_bytes, front_length}
use Rattle.disk_image.proofs.Inverses.{fronts_same}
use Rattle.disk_records.specs.Bytes.{bytes_of}
use Rattle.disk_records.proofs.Bytes.{length-bytes_of}

-- the other records
abbrev written_bytes : Act → List ℕ → List ℕ
written_bytes Read words = []
written_bytes Check words = []
written_bytes Write words = bytes_of words

abbrev back_bytes : Plan → Sector → List ℕ
back_bytes plan sector = written_bytes plan.header sector.header ++ (written_bytes plan.label sector.label ++ written_bytes plan.value sector.value)

read_bytes-cond : (act : Act) (words : List ℕ) → read_bytes act words ≡ cond (is_write act) [] (bytes_of words)
read_bytes-cond Read words = refl
read_bytes-cond Check words = refl
read_bytes-cond Write words = refl

written_bytes-cond : (act : Act) (words : List ℕ) → written_bytes act words ≡ cond (is_write act) (bytes_of words) []
written_bytes-cond Read words = refl
written_bytes-cond Check words = refl
written_bytes-cond Write words = refl

may_follow-cond : (act next : Act) → may_follow act next ≡ cond (is_write act) (is_write next) true
may_follow-cond Read next = refl
may_follow-cond Check next = refl
may_follow-cond Write next = refl

length-read_bytes : (act : Act) (words : List ℕ) (n : ℕ) → 2 * length words ≡ n → length (read_bytes act words) ≡ read_length act n
length-read_bytes Read words n is = length-bytes_of words ∙ is
length-read_bytes Check words n is = length-bytes_of words ∙ is
length-read_bytes Write words n is = refl

-- of three lists what is left out after the first of them, and what isn't
joined : (h l v : Bool) (a b c : List ℕ) → IsTrue (cond h l true && cond l v true) → (cond h [] a ++ (cond l [] b ++ cond v [] c)) ++ (cond h a [] ++ (cond l b [] ++ cond v c [])) ≡ a ++ (b ++ c)
joined true true true a b c legal = refl
joined true true false a b c legal = absurd (false≢true legal)
joined true false v a b c legal = absurd (false≢true legal)
joined false true true a b c legal = ap (λ (l : List ℕ). l ++ (b ++ c)) (append-nil a)
joined false true false a b c legal = absurd (false≢true legal)
joined false false true a b c legal = ap (λ (l : List ℕ). (a ++ l) ++ c) (append-nil b) ∙ append_assoc a b c
joined false false false a b c legal = append-nil (a ++ (b ++ c))

-- the records that a command reads, and then those that it writes, are all of the sector
fronts_and_backs : (plan : Plan) (s : Sector) → IsTrue (is_legal plan) → front_bytes plan s ++ back_bytes plan s ≡ sector_bytes s
fronts_and_backs plan s legal =
    let h = is_write plan.header in
    let l = is_write plan.label in
    let v = is_write plan.value in
    let follows : IsTrue (cond h l true && cond l v true) = sym (ap (λ (b : Bool). b && may_follow plan.label plan.value) (may_follow-cond plan.header plan.label) ∙ ap (λ (b : Bool). cond h l true && b) (may_follow-cond plan.label plan.value)) ∙ legal in
    rw (read_bytes-cond plan.header s.header, read_bytes-cond plan.label s.label, read_bytes-cond plan.value s.value)
    (rw (written_bytes-cond plan.header s.header, written_bytes-cond plan.label s.label, written_bytes-cond plan.value s.value)
    (joined h l v (bytes_of s.header) (bytes_of s.label) (bytes_of s.value) follows))

length-front_bytes : (plan : Plan) (s : Sector) → IsWhole s → length (front_bytes plan s) ≡ front_length plan
length-front_bytes plan s whole =
    let header = length-read_bytes plan.header s.header 4 (omega (arith, whole.header)) in
    let label = length-read_bytes plan.label s.label 16 (omega (arith, whole.label)) in
    let value = length-read_bytes plan.value s.value 512 (omega (arith, whole.value)) in
    let inner = length-append (read_bytes plan.label s.label) (read_bytes plan.value s.value) in
    let outer = length-append (read_bytes plan.header s.header) (read_bytes plan.label s.label ++ read_bytes plan.value s.value) in
    omega (arith, header, label, value, inner, outer)

-- what was read of a file are the bytes of the records before the first Write
pub front_read : (a b : Option (List ℕ)) (plan : Plan) (s : Sector) (front rest : List ℕ) → IsTrue (is_legal plan) → IsWhole s → length front ≡ front_length plan → sector_bytes s ≡ front ++ rest → Consumes a b front → Consumes a b (front_bytes plan s)
front_read a b plan s front rest legal whole len are consumes =
    let same : front_bytes plan s ≡ front = fronts_same (front_bytes plan s) (back_bytes plan s) front rest (length-front_bytes plan s whole ∙ sym len) (fronts_and_backs plan s legal ∙ are) in
    rw same consumes
