use Rattle.std.proofs.Common.{◌≡◌, ℕ, ◌≤◌, ◌<◌, ◌^◌, length, drop, ap, arith}
use Rattle.std.specs.Prelude.{decimal}
use Rattle.std.proofs.lemmas.Fmt.{length-decimal-le}
use Rattle.std.proofs.lemmas.List.{length-append, length-drop}
use Rattle.raw_explore.proofs.line.Line.prepend_number.Goals as goal

short : (n : ℕ) → n < 2 ^ 64 → length (decimal n) ≤ 20
short n small = length-decimal-le 20 n (omega arith) (omega (arith, small)) small

pub write_digits-self-inside-requires : goal.write_digits-self-inside-requires
write_digits-self-inside-requires c =
    let few = short c.args.number (omega (arith, c.ranges.number.fits)) in
    let left = length-drop c.self.inside.start c.self.inside.bytes in
    let seen : length (drop c.self.inside.start c.self.inside.bytes) ≡ length c.args.self.now = ap length c.self.view_is in (
      omega (arith, few, left, seen, c.requires, c.self.invariant.0, c.self.invariant.1),
      omega (arith, c.self.invariant.0, c.self.invariant.1),
    )

pub returns-clause-len : goal.returns-clause-len
returns-clause-len c =
    let few = short c.args.number (omega (arith, c.ranges.number.fits)) in
    let text = ap length c.write_digits-self-inside.ensures.written in
    let both = length-append (decimal c.args.number) (drop c.self.inside.start c.self.inside.bytes) in
    let seen : length (drop c.self.inside.start c.self.inside.bytes) ≡ length c.args.self.now = ap length c.self.view_is in
    omega (arith, few, text, both, seen)
