use Rattle.std.proofs.Common.{None, ap, arith, drop, sym, take, ◌+◌, ◌-◌, ◌∙◌, ◌≡◌}
use borrow.Rule.Slice.PartMut.{mid_of}
use Rattle.disk_records.specs.Addresses.{descriptor_length, table_words}
use Rattle.hint_cache.specs.Bits.{bits_in}
use Rattle.disk_descriptor.proofs.FirstPage.{clean_page}
use Rattle.disk_descriptor.proofs.Opened.{opened}
use Rattle.disk_descriptor.specs.Opening.{bad_word, shape_words}
use Rattle.disk_descriptor.proofs.opening.keep_read.Goals as goal

pub returns-clause-opened : goal.returns-clause-opened
returns-clause-opened c = λ p read same.
    let shape = c.args.shape in
    let words = c.args.words.now in
    let pages = c.args.pages.now in
    let is : c.args.size ≡ descriptor_length shape = c.if-size-descriptor_length.false ∙ c.descriptor_length.ensures in
    let right : bad_word (shape_words shape) words ≡ None = sym c.bad_word.ensures ∙ c.in_default.is in
    let many : 16 + c.div_ceil-map_words.result - 16 ≡ table_words shape = omega arith in
    let map_words = mid_of 16 (16 + c.div_ceil-map_words.result - 16) words in
    let map_is : map_words ≡ take (table_words shape) (drop 16 words) = ap (λ n. take n (drop 16 words)) many in
    let table = c.fill_table.ensures.bits ∙ ap (λ n. bits_in n map_words) c.requires.sized in
    opened p shape words pages c.args.size read same is c.fill_table.new.table map_words right (omega arith) (omega arith) c.if-words-ne-CLEAN.false map_is table

pub returns-clause-clean_page : goal.returns-clause-clean_page
returns-clause-clean_page c = λ p f first same. clean_page p f c.args.shape c.args.words.now first same (sym c.bad_word.ensures ∙ c.in_default.is) c.if-words-ne-CLEAN.false
