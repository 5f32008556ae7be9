use Rattle.std.proofs.Common.{subst, length, ap, arith}
use Rattle.std.specs.List.{All}
use Rattle.raw_text.specs.Tokens.{BeginsToken, AreInOrder}
use Rattle.raw_text.proofs.read.read_text.Goals as goal

pub invariant_of-result : goal.invariant_of-result
invariant_of-result c =
    let places = c.in_ok-places.places in
    let cut = c.in_ok-places.ensures in
    let bytes = c.deref.ensures.value in
    record {
      few = omega (arith, cut.few, ap length bytes, c.requires);
      small = c.requires;
      tokens = subst (λ b. All (BeginsToken b) places.starts.items) bytes cut.tokens;
      ordered = subst (λ b. AreInOrder b places.starts.items) bytes cut.ordered;
      parts = cut.parts;
      lines_ordered = cut.lines_ordered;
    }
