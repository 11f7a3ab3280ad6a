-- Words as bytes, and bytes as words: those of disk_records.
pub use Rattle.disk_records.specs.Bytes.{bytes_of, words_of, put_at}
