use Rattle.std.proofs.Common.{◌∷◌, [], ◌+◌, ◌-◌, length, take, drop, Some, None, ap, sym, ◌∙◌}
use Rattle.std.proofs.lemmas.Bool.Decides.{Decides-eqb}
use Rattle.std.proofs.lemmas.Slice.Eq.{strip_suffix_is}
use Rattle.std.specs.Fmt.{decimal}
use Rattle.alto_words.specs.Names.{stored_in, version_of}
use Rattle.alto_words.proofs.Marks.{after_here}
use Rattle.alto_words.proofs.Marked.{stated_after}
use Rattle.alto_words.proofs.Parsed.{not_stored, digits_stated, bytes_marked}
use Rattle.alto_words.proofs.Unmarked.{uncharactered}
use Rattle.alto_words.proofs.name.Name.stored.Goals as goal

-- without a mark
pub returns-in-None : goal.returns-in-None
returns-in-None c = uncharactered c.args.bytes.now c.in-None.ensures.none (sym c.if-has_name_characters.ensures)

-- with one
pub returns-in_err-strip_suffix-in-Some : goal.returns-in_err-strip_suffix-in-Some
returns-in_err-strip_suffix-in-Some c =
    let bytes = c.args.bytes.now in
    let at = c.in-Some.at in
    let rest = take (length bytes - (at + 1)) (drop (at + 1) bytes) in
    let cases = rw c.as_slice.ensures at c.in_err-strip_suffix-in-Some.ensures.cases in
    c.from_residual.ensures
    ∙ not_stored bytes (λ s. strip_suffix_is Decides-eqb rest (46 ∷ []) None cases (decimal (version_of bytes)) (stated_after bytes rest s (after_here bytes at c.in-Some.ensures.some)).is)

pub returns-in_err-version-in-Some : goal.returns-in_err-version-in-Some
returns-in_err-version-in-Some c =
    let bytes = c.args.bytes.now in
    let at = c.in-Some.at in
    let rest = take (length bytes - (at + 1)) (drop (at + 1) bytes) in
    let x = c.in_ok-strip_suffix-in-Some.field-0 in
    let cases = rw c.as_slice.ensures at c.in_ok-strip_suffix-in-Some.ensures.cases in
    let is = strip_suffix_is Decides-eqb rest (46 ∷ []) (Some x) cases in
    c.from_residual-in_err-version-in-Some.ensures
    ∙ not_stored bytes (λ s. let stated = c.in_err-version-in-Some.ensures.value ∙ digits_stated bytes rest x.now s (after_here bytes at c.in-Some.ensures.some) is in absurd cc)

pub returns-then-version-eq1 : goal.returns-then-version-eq1
returns-then-version-eq1 c =
    let bytes = c.args.bytes.now in
    let at = c.in-Some.at in
    let rest = take (length bytes - (at + 1)) (drop (at + 1) bytes) in
    let x = c.in_ok-strip_suffix-in-Some.field-0 in
    let cases = rw c.as_slice.ensures at c.in_ok-strip_suffix-in-Some.ensures.cases in
    let is = strip_suffix_is Decides-eqb rest (46 ∷ []) (Some x) cases in
    let marked = after_here bytes at c.in-Some.ensures.some in
    not_stored bytes (λ s. let stated = c.in_ok-version-in-Some.ensures.value ∙ digits_stated bytes rest x.now s marked is in (stated_after bytes rest s marked).more cc)

pub returns-else-version-eq1 : goal.returns-else-version-eq1
returns-else-version-eq1 c =
    let bytes = c.args.bytes.now in
    let at = c.in-Some.at in
    let rest = take (length bytes - (at + 1)) (drop (at + 1) bytes) in
    let x = c.in_ok-strip_suffix-in-Some.field-0 in
    let cases = rw c.as_slice.ensures at c.in_ok-strip_suffix-in-Some.ensures.cases in
    let is = strip_suffix_is Decides-eqb rest (46 ∷ []) (Some x) cases in
    c.with_stem.ensures
    ∙ ap stored_in (bytes_marked bytes x.now at c.in_ok-version-in-Some.version c.in-Some.ensures.some is (sym c.in_ok-version-in-Some.ensures.value) c.if-version-eq1.false)
