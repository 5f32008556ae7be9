use Rattle.std.proofs.Common.{◌*◌}
use Rattle.raw_codegen.specs.Parts.{to_switches, Gives}
use Rattle.raw_route.specs.Tree.{tree_ins}
use Rattle.raw_route.proofs.giving.give_tree.Given as goal

-- the switches so far have got their instructions
abbrev pub invariant-loop-tile : goal.invariant-loop-tile
invariant-loop-tile l = Gives (l.cols * l.rows) (to_switches l.tile (tree_ins l.cols l.haul)) l.initial.programs l.programs
