use Rattle.std.proofs.Common.{◌≡◌, ◌+◌, ◌-◌, ◌++◌, length, take, min, List, ℕ, ap, ◌∙◌, arith, length-append}
use Rattle.alto_words.specs.Names.{is_stored_name, suffixed, version_text}
use Rattle.alto_words.proofs.Made.{is_stored_name-suffixed, suffixed-front, suffixed-parts, suffixed-front_fits, suffixed-room}
use Rattle.alto_words.proofs.name.Name.suffixed.Goals as goal

pub overflow_sub-digits : goal.overflow_sub-digits
overflow_sub-digits c =
    omega (arith, suffixed-room c.args.self.now c.args.k c.requires.most, ap length (c.as_bytes-digits.ensures.value ∙ c.format.ensures.text), ap length (c.as_bytes.ensures ∙ c.version_mark-mark.ensures ∙ ap version_text c.version.ensures.value))

pub push-requires-4 : goal.push-requires-4
push-requires-4 c =
    let base = c.as_bytes-name.ensures.value ∙ c.base-base.ensures.value in
    let mark = c.as_bytes.ensures ∙ c.version_mark-mark.ensures ∙ ap version_text c.version.ensures.value in
    let again = c.as_bytes-2.ensures ∙ c.version_mark-mark.ensures ∙ ap version_text c.version.ensures.value in
    let front = suffixed-front c.new-text.result c.push.new.self c.push-2.new.self c.push-3.new.self c.args.self.now c.as_bytes-digits.result.now c.as_bytes.result.now c.min-kept.result c.args.k
    (c.as_bytes-digits.ensures.value ∙ c.format.ensures.text) mark (c.min-kept.ensures ∙ ap (λ (b : List ℕ). min (length b) (38 - (1 + length c.as_bytes-digits.result.now + length c.as_bytes.result.now))) base)
    c.new-text.ensures (c.push.ensures ∙ ap (λ (b : List ℕ). c.new-text.result ++ take c.min-kept.result b) base) c.push-2.ensures c.push-3.ensures in
    omega (arith, suffixed-front_fits c.push-3.new.self c.args.self.now c.args.k c.requires.most front, ap length again)

pub push-requires-5 : goal.push-requires-5
push-requires-5 c =
    let base = c.as_bytes-name.ensures.value ∙ c.base-base.ensures.value in
    let mark = c.as_bytes.ensures ∙ c.version_mark-mark.ensures ∙ ap version_text c.version.ensures.value in
    let again = c.as_bytes-2.ensures ∙ c.version_mark-mark.ensures ∙ ap version_text c.version.ensures.value in
    let front = suffixed-front c.new-text.result c.push.new.self c.push-2.new.self c.push-3.new.self c.args.self.now c.as_bytes-digits.result.now c.as_bytes.result.now c.min-kept.result c.args.k
    (c.as_bytes-digits.ensures.value ∙ c.format.ensures.text) mark (c.min-kept.ensures ∙ ap (λ (b : List ℕ). min (length b) (38 - (1 + length c.as_bytes-digits.result.now + length c.as_bytes.result.now))) base)
    c.new-text.ensures (c.push.ensures ∙ ap (λ (b : List ℕ). c.new-text.result ++ take c.min-kept.result b) base) c.push-2.ensures c.push-3.ensures in
    omega (arith, suffixed-front_fits c.push-3.new.self c.args.self.now c.args.k c.requires.most front, ap length again, ap length c.push-4.ensures, length-append c.push-3.new.self c.as_bytes-2.result.now)

made : (c : goal.After-push-5) → c.push-5.new.self ≡ suffixed c.args.self.now c.args.k
made c =
    let base = c.as_bytes-name.ensures.value ∙ c.base-base.ensures.value in
    let mark = c.as_bytes.ensures ∙ c.version_mark-mark.ensures ∙ ap version_text c.version.ensures.value in
    let again = c.as_bytes-2.ensures ∙ c.version_mark-mark.ensures ∙ ap version_text c.version.ensures.value in
    let front = suffixed-front c.new-text.result c.push.new.self c.push-2.new.self c.push-3.new.self c.args.self.now c.as_bytes-digits.result.now c.as_bytes.result.now c.min-kept.result c.args.k
    (c.as_bytes-digits.ensures.value ∙ c.format.ensures.text) mark (c.min-kept.ensures ∙ ap (λ (b : List ℕ). min (length b) (38 - (1 + length c.as_bytes-digits.result.now + length c.as_bytes.result.now))) base)
    c.new-text.ensures (c.push.ensures ∙ ap (λ (b : List ℕ). c.new-text.result ++ take c.min-kept.result b) base) c.push-2.ensures c.push-3.ensures in
    suffixed-parts c.push-3.new.self c.push-4.new.self c.push-5.new.self c.args.self.now c.as_bytes-2.result.now c.args.k front again c.push-4.ensures c.push-5.ensures

pub invariant_of-result : goal.invariant_of-result
invariant_of-result c = ap is_stored_name (made c) ∙ is_stored_name-suffixed c.args.self.now c.args.k c.version.ensures.stored c.requires.most

pub returns : goal.returns
returns c = made c
