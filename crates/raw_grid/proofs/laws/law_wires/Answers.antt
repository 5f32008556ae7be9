use Rattle.raw_grid.proofs.Edges.{ports_few}
use Rattle.raw_grid.proofs.Growth.{wires_few}
use Rattle.raw_grid.proofs.WireLaws.{input_within, input_owner, one_input, ten_inputs, output_within, output_owner, one_output, ten_outputs, ends_apart, producer_few, consumer_few, input_is, output_is}
use Rattle.raw_grid.proofs.laws.law_wires.Goals as goal

pub returns : goal.returns
returns c = record {
  input_exists = λ t p i w. input_within t w p i;
  input_owner = λ t p i w. input_owner t w p i;
  one_input = λ t p q i j w. one_input t w p q i j;
  ten_inputs = λ t p i w. ten_inputs t w p i;
  output_exists = λ t p i w. output_within t w p i;
  output_owner = λ t p i w. output_owner t w p i;
  one_output = λ t p q i j w. one_output t w p q i j;
  ten_outputs = λ t p i w. ten_outputs t w p i;
  apart = ends_apart;
  producer = producer_few;
  consumer = consumer_few;
  input_end = input_is;
  output_end = output_is;
  few_ports = ports_few;
  few_wires = wires_few;
}
