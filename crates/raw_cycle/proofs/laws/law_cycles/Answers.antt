use Rattle.raw_cycle.proofs.Rounds.{on_below, cycle_short}
use Rattle.raw_cycle.proofs.Ends.{walk_ends, chain_along, along_last, one_chain}
use Rattle.raw_cycle.proofs.Reported.{cycle_law, cycle_found, cycle_absent, the_cycle_one}
use Rattle.raw_cycle.proofs.laws.law_cycles.Goals as goal

pub returns : goal.returns
returns c = record {
  listed = cycle_law;
  found = λ next n p ps within. cycle_found next n within p ps;
  none = cycle_absent;
  one = the_cycle_one;
  there = λ next n p q ps within. on_below next n within p ps q;
  few = λ next n p ps within. cycle_short next n within p ps;
  ends = λ next n p within none. walk_ends next n within none p;
  along = λ next n p within none. chain_along next n within none p;
  stopped = along_last;
  one_chain = one_chain;
}
