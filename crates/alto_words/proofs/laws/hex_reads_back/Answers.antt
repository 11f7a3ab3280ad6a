use Rattle.alto_words.proofs.Hex.{bytes_in_hex-hex_of}
use Rattle.alto_words.proofs.laws.hex_reads_back.Goals as goal

pub returns : goal.returns
returns c = bytes_in_hex-hex_of
