use Rattle.std.proofs.Common.{refl}
use Rattle.std.specs.Fmt.{digits}
use Rattle.hex.specs.Hex.{encode_with}
use Rattle.raw_model.specs.Texts.{word_text}
use Rattle.raw_generated.specs.Generated.{words_from}
use Rattle.raw_generated.specs.Summary.{summary_line}
use Rattle.raw_generated.proofs.laws.law_lines.Goals as goal

pub returns : goal.returns
unfolding words_from summary_line word_text digits encode_with
returns c = record { words = refl; one = refl; two = refl }
