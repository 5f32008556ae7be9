use Rattle.std.proofs.Common.{◌≡◌, ◌++◌, take}
use Rattle.raw_row_terms.specs.OutTerms.{outs_in}
use Rattle.raw_row_terms.proofs.claiming.push_outs.Given as goal

abbrev pub invariant-loop-out : goal.invariant-loop-out
invariant-loop-out l = l.all.items ≡ l.initial.all.items ++ outs_in (take l.out-index l.outs) l.numbers
