use Rattle.std.proofs.Common.{◌≡◌, length, drop, ap, arith}
use Rattle.std.proofs.lemmas.List.{length-drop}
use Rattle.raw_explore.proofs.line.Line.prepend_hex.Goals as goal

pub invariant_of-self : goal.invariant_of-self
invariant_of-self c = (
  omega (arith, c.write_hex-self-inside.ensures.start, c.self.invariant.0),
  omega (arith, c.write_hex-self-inside.auto.bytes, c.self.invariant.1),
)

pub returns-clause-len : goal.returns-clause-len
returns-clause-len c =
    let call = c.write_hex-self-inside in
    let was = length-drop c.self.inside.start c.self.inside.bytes in
    let now = length-drop call.result call.new.bytes in
    let seen : length (drop c.self.inside.start c.self.inside.bytes) ≡ length c.args.self.now = ap length c.self.view_is in
    omega (arith, was, now, seen, call.auto.bytes, call.ensures.start, call.ensures.few, c.self.invariant.0, c.self.invariant.1)
