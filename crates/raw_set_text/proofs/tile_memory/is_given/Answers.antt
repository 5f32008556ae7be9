use Rattle.std.proofs.Common.{◌+◌, sym, ◌∙◌, arith}
use Rattle.std.specs.Option.{is_some}
use Rattle.raw_set_text.specs.Memory.{word_of}
use Rattle.raw_set_text.proofs.Building.TilesCells.{any_next, any_here}
use Rattle.raw_set_text.proofs.tile_memory.is_given.Goals as goal

pub returns-then-contains_key : goal.returns-then-contains_key
returns-then-contains_key c =
    sym (any_here (λ i. is_some (word_of c.args.memory.now (c.args.first + i))) c.loop-i.i c.args.count (omega (arith, c.loop-i-test.true)) (sym c.contains_key.ensures ∙ c.if-contains_key.true))

pub loop-i-preserved : goal.loop-i-preserved
loop-i-preserved c =
    any_next (λ i. is_some (word_of c.args.memory.now (c.args.first + i))) c.loop-i.i c.loop-i.invariant (sym c.contains_key.ensures ∙ c.if-contains_key.false)
