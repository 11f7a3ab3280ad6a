use Rattle.std.proofs.Common.{◌≡◌, ◌∷◌, [], length, ap, ◌∙◌, arith, length-append}
use Rattle.std.specs.Fmt.{decimal}
use Rattle.alto_words.specs.Names.{is_stored_name, version_of}
use Rattle.alto_words.proofs.Marks.{after_here}
use Rattle.alto_words.proofs.Marked.{stated_after, version_stated}
use Rattle.alto_words.proofs.name.Name.version.Goals as goal

pub slice_bounds-version_in-count : goal.slice_bounds-version_in-count
slice_bounds-version_in-count c =
    let name = c.as_bytes-bytes.result.now in
    let m = after_here name c.in-Some.at c.in-Some.ensures.some in
    let s = stated_after name _ (ap is_stored_name c.as_bytes-bytes.ensures.value ∙ c.as_bytes-bytes.ensures.stored) m in
    omega (arith, ap length s.is, length-append (decimal (version_of name)) (46 ∷ []))

pub unreachable-requires : goal.unreachable-requires
unreachable-requires c =
    let name = c.as_bytes-bytes.result.now in
    let m = after_here name c.in-Some.at c.in-Some.ensures.some in
    let z = c.in-None.ensures.value ∙ version_stated name _ (ap is_stored_name c.as_bytes-bytes.ensures.value ∙ c.as_bytes-bytes.ensures.stored) m in
    absurd cc

pub returns-clause-value : goal.returns-clause-value
returns-clause-value c =
    let name = c.as_bytes-bytes.result.now in
    let m = after_here name c.in-Some.at c.in-Some.ensures.some in
    let z = c.in-Some-version_in.ensures.value ∙ version_stated name _ (ap is_stored_name c.as_bytes-bytes.ensures.value ∙ c.as_bytes-bytes.ensures.stored) m in
    let same : c.in-Some-version_in.version ≡ version_of name = cc in
    same ∙ ap version_of c.as_bytes-bytes.ensures.value
