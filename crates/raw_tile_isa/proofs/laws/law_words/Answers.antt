use Rattle.raw_tile_isa.proofs.WordLimits.{give_words, extend}
use Rattle.raw_tile_isa.proofs.laws.law_words.Goals as goal

pub returns : goal.returns
returns c = record { operations = give_words; extensions = extend }
