use Rattle.std.proofs.Common.{◌≡◌}
use Rattle.raw_term.specs.TermMachine.{first_nodes}
use Rattle.raw_term.proofs.table.first_nodes.Given as goal

abbrev pub invariant-loop : goal.invariant-loop
invariant-loop l = l.nodes.items ≡ first_nodes l.counter
