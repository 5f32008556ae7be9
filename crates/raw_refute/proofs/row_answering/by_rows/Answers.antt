use Rattle.std.proofs.Common.{refl}
use Rattle.raw_refute.proofs.RowConcluding.{own_met}
use Rattle.raw_refute.proofs.row_answering.by_rows.Goals as goal

pub returns-then-branch : goal.returns-then-branch
returns-then-branch c = record {
  outs_are = c.in-Some.ensures;
  met = record {
    meets = c.in_ok-prove_length.ensures.unrolled c.if-branch.true;
    rows = c.in_ok-prove_length.ensures.meets c.if-branch.true;
    own = own_met c.args.set.now c.args.stream.now c.args.order.now c.requires.valid c.requires.claim (c.in_ok-prove_length.ensures.meets c.if-branch.true);
    stays = refl;
  };
}
