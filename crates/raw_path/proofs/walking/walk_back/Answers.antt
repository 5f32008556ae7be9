use Rattle.std.proofs.Common.{arith, ◌≡◌, ◌-◌, suc}
use Rattle.raw_path.proofs.walking.walk_back.Goals as goal

pub walk-requires-clause-few : goal.walk-requires-clause-few
walk-requires-clause-few c =
    let next : suc (c.args.cycles - 1) ≡ c.args.cycles = omega (arith, c.if-cycles-eq0.false) in
    let now = (c.last_end-last.ensures (c.args.cycles - 1) next).now in
    omega (arith, now, c.requires.few)

pub walk-requires-clause-end : goal.walk-requires-clause-end
walk-requires-clause-end c =
    let next : suc (c.args.cycles - 1) ≡ c.args.cycles = omega (arith, c.if-cycles-eq0.false) in
    (c.last_end-last.ensures (c.args.cycles - 1) next).end
