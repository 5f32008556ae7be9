use Rattle.raw_tile_isa.proofs.Encoding.{code_small, decode_back, decode_found, one_instruction}
use Rattle.raw_tile_isa.proofs.laws.law_codes.Goals as goal

pub returns : goal.returns
returns c = record { word = code_small; decodes = decode_back; encodes = decode_found; one = one_instruction }
