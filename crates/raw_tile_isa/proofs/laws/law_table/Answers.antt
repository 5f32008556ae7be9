use Rattle.raw_tile_isa.proofs.Encoding.{name_back, op_back}
use Rattle.raw_tile_isa.proofs.laws.law_table.Goals as goal

pub returns : goal.returns
returns c = record { names = name_back; keys = op_back }
