use Rattle.std.proofs.Common.{sym, ap, subst, ◌∙◌}
use Rattle.raw_model.specs.Program.{IsSet}
use Rattle.raw_generated.specs.Generated.{generated}
use Rattle.raw_generated.proofs.Whole.{parts_are}
use Rattle.raw_generated.proofs.make.make_set.Goals as goal

pub invariant_of-result : goal.invariant_of-result
invariant_of-result c =
    let n = c.count-words.result in
    let same = parts_are n c.in_ok-topo.topo c.in_ok-ports.ports.items c.in_ok-tiles.tiles.items c.new.result.items c.in_ok-topo.ensures.value c.in_ok-ports.ensures c.in_ok-tiles.ensures c.new.ensures.items in
    subst IsSet (sym same) (c.law_generated.ensures n c.count-words.ensures.some c.count-words.ensures.few)

pub returns : goal.returns
returns c =
    parts_are c.count-words.result c.in_ok-topo.topo c.in_ok-ports.ports.items c.in_ok-tiles.tiles.items c.new.result.items c.in_ok-topo.ensures.value c.in_ok-ports.ensures c.in_ok-tiles.ensures c.new.ensures.items
    ∙ ap generated c.count-words.ensures.value
