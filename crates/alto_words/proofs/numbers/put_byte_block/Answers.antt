use Rattle.std.proofs.Common.{◌≡◌, ◌+◌, ◌*◌, ◌%◌, length, max, take, ap, sym, ◌∙◌, arith, length-take, take-add}
use Rattle.std.specs.List.{list_all}
use Rattle.std.specs.Simd.Lanes.{chunk}
use Rattle.std.proofs.lemmas.Simd.{length-zip2, take_more_put_chunk}
use Rattle.alto_words.specs.Numbers.{bytes_if, hex_pairs, is_digit_value}
use Rattle.alto_words.proofs.HexLanes.{chunk-append, greater_lanes, hex_pairs-append, max_lanes}
use Rattle.alto_words.proofs.numbers.put_byte_block.Goals as goal

pub returns-clause-lanes : goal.returns-clause-lanes
returns-clause-lanes c =
    let values = c.bytes_of_digits.result.1 in
    ap length (max_lanes c.args.greatest values) ∙ length-zip2 max c.args.greatest values (c.fits-greatest.0 ∙ sym c.bytes_of_digits.ensures.lanes) ∙ c.fits-greatest.0

pub returns-clause-bytes : goal.returns-clause-bytes
returns-clause-bytes c =
    let text = c.args.text.now in
    let old = c.args.bytes.now in
    let at = c.args.at in
    let greatest = c.args.greatest in
    let block = c.bytes_of_digits.result.0 in
    let values = c.bytes_of_digits.result.1 in
    let more : 2 * (at + 16) ≡ 2 * at + 32 = omega arith in
    let digits : hex_pairs (chunk (2 * at) 32 text) ≡ bytes_if (list_all is_digit_value values) block =
    ap hex_pairs (sym (chunk-append text (2 * at) 16 16)) ∙ c.bytes_of_digits.ensures.bytes in
    let even : length (take (2 * at) text) % 2 ≡ 0 = omega (arith, length-take (2 * at) text) in
    let put = take_more_put_chunk at old block (at + 16) (omega (arith, c.bytes_of_digits.ensures.length)) c.requires.within in
    let lanes = greater_lanes 16 greatest values c.fits-greatest.0 c.bytes_of_digits.ensures.lanes ∙ ap (list_all is_digit_value) (sym (max_lanes greatest values)) in
    ap (λ n. hex_pairs (take n text)) more
    ∙ ap hex_pairs (take-add (2 * at) 32 text)
    ∙ hex_pairs-append (take (2 * at) text) (chunk (2 * at) 32 text) (take at old) block
    (list_all is_digit_value greatest) (list_all is_digit_value values) even c.requires.before digits
    ∙ (λ i. bytes_if (lanes i) (sym put i))
