use Rattle.std.proofs.Common.{◌≡◌, suc, ◌+◌, ap, ◌∙◌, arith}
use Rattle.std.proofs.lemmas.Option.{slice_get_within}
use Rattle.raw_lost.specs.Lost.{lost_by}
use Rattle.raw_lost.proofs.Counts.{noted_one}
use Rattle.raw_lost.proofs.counting.note_cycle.Goals as goal

pub all-preserved : goal.all-preserved
all-preserved c = (
  c.all.invariant.0,
  noted_one c.args.set.now c.args.cycles c.all.p c.all.lost c.note_turn.new.lost c.all.invariant.1 c.note_turn.ensures.lost,
  c.note_turn.ensures.kinds,
)

pub returns : goal.returns
returns c =
    let next : suc c.args.cycles ≡ c.args.cycles + 1 = omega arith in
    let many = c.all.invariant.1.many in
    record {
      many = many;
      each = λ p l here.
          let inside = slice_get_within c.all.lost p l here in
          c.all.invariant.1.below p l (omega (arith, inside, many, c.all-test.false, c.all.invariant.0)) here ∙ ap (λ n. lost_by c.args.set.now n p) next;
    }
