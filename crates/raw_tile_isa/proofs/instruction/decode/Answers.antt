use Rattle.std.proofs.Common.{◌∙◌, IfSome, sym, subst}
use Rattle.raw_tile_isa.specs.Instruction.{TileCode}
use Rattle.raw_tile_isa.proofs.Encoding.{decode_found, decode_back}
use Rattle.raw_tile_isa.proofs.instruction.decode.Goals as goal

pub returns-clause-found : goal.returns-clause-found
returns-clause-found c =
    subst (λ r. IfSome r (λ ins. TileCode ins c.args.word)) (sym c.instruction_of.ensures)
    (decode_found c.args.word)

pub returns-clause-only : goal.returns-clause-only
returns-clause-only c = λ ins encodes. c.instruction_of.ensures ∙ decode_back ins c.args.word encodes
