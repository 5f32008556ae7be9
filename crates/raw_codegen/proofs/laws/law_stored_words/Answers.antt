use Rattle.raw_model.proofs.Words.{length-stored}
use Rattle.std.specs.Int.{w32, to_be_bytes}
use Rattle.raw_codegen.proofs.StoredWords.{word_stored, word_apart}
use Rattle.std.proofs.Common.{◌*◌}
use Rattle.raw_codegen.proofs.laws.law_stored_words.Goals as goal

pub returns : goal.returns
returns c = record {
  there = λ memory v x inside small. word_stored memory (4 * v) x inside small;
  elsewhere = word_apart;
  size = λ memory v x. length-stored memory (4 * v) (to_be_bytes w32 x);
}
