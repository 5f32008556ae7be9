use Rattle.std.proofs.Common.{arith}
use Rattle.raw_state_text.proofs.Sections.{same_text, failed_listed, more_listed, all_listed}
use Rattle.raw_whole.proofs.writing.put_turns.Goals as goal

pub returns-in_err-put_line : goal.returns-in_err-put_line
returns-in_err-put_line g c =
    failed_listed _ c.args.pieces.now _ c.all.invariant.1 (omega (arith, c.all-test.true, c.all.invariant.0)) (same_text _ _ _ _ _ c.turns_word.ensures c.in_err-put_line.ensures) c.from_residual.ensures.0

pub all-preserved : goal.all-preserved
all-preserved g c = (c.all.invariant.0, more_listed _ c.args.pieces.now _ c.all.invariant.1 (omega (arith, c.all-test.true, c.all.invariant.0)) (same_text _ _ _ _ _ c.turns_word.ensures c.in_ok-put_line.ensures))

pub returns : goal.returns
returns g c = all_listed _ c.args.pieces.now c.all.invariant.1 (omega (arith, c.all-test.false, c.all.invariant.0))
