use Rattle.raw_grid.proofs.OtherEnds.{output_joined, input_joined, from_input, from_output, other_proc, other_ten, other_apart}
use Rattle.raw_grid.proofs.laws.law_other_ends.Goals as goal

pub returns : goal.returns
returns c = record {
  producer_end = output_joined;
  consumer_end = input_joined;
  from_input = from_input;
  from_output = from_output;
  proc = other_proc;
  ten = other_ten;
  apart = other_apart;
}
