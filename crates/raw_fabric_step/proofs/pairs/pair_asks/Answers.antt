use Rattle.std.proofs.Common.{◌+◌, sym, subst, ◌∙◌}
use Rattle.std.specs.Prelude.{bit_or}
use Rattle.raw_fabric_step.specs.Asks.{AreAsked}
use Rattle.raw_fabric_step.specs.Pairs.{before_second}
use Rattle.raw_fabric_step.proofs.Asking.{pair_asked}
use Rattle.raw_fabric_step.proofs.pairs.pair_asks.Goals as goal

pub returns : goal.returns
returns c set p l needs_are gives_are =
    subst (AreAsked set p l)
    (λ i. record {
      needs = record { inputs = bit_or (sym c.input_bit.ensures i) (sym c.input_bit-2.ensures i); outputs = sym c.output_bits.ensures i };
      each = 1 + (sym (c.before_second.ensures.value ∙ (λ j. before_second (c.via_end.ensures j) (c.via_end-2.ensures j))) i);
    })
    (pair_asked set p l c.args.first c.args.second c.args.sends_first c.args.sends_second needs_are gives_are)
