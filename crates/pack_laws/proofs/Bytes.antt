-- Words as bytes and back, and bytes put in the place of others: the lemmas of disk_records.
pub use Rattle.pack_model.specs.disk_records.proofs.Bytes.{length-bytes_of, length-words_of, words_of-bytes_of, ArePairs, bytes_of-words_of, pairs_of_words, pairs_of_bytes, bytes_below, length-put_at, put_at-nil, put_at-later, put_at-here, put_at-append_left, put_at-append_right, take-put_at, put_pairs, bytes_of-put}
