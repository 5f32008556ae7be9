use Rattle.std.proofs.Common.{◌≡◌, ℕ, List, take}
use Rattle.raw_asm.specs.NameTable.{value_in, named_in}
use Rattle.raw_asm.proofs.name_table.Names.new.Given as goal

abbrev pub invariant-loop-value : goal.invariant-loop-value
invariant-loop-value g l = (name : List ℕ) → value_in l.by_name name ≡ named_in g.T.NameTable.name_of (take l.value-index g.T.NameTable.values) name
