use Rattle.raw_model.specs.declared.limits.TheConstants.{MEMORY_WORDS}
use Rattle.std.proofs.Common.{arith}
use Rattle.raw_state_text.proofs.Sections.{nothing_yet, failed_numbered, more_numbered, all_numbered}
use Rattle.raw_explore.proofs.standing.put_memory.Goals as goal

pub loop-i-init : goal.loop-i-init
loop-i-init g c = (omega arith, nothing_yet _ _)

pub returns-in_err-put_word : goal.returns-in_err-put_word
returns-in_err-put_word g c = failed_numbered _ MEMORY_WORDS c.loop-i.i c.loop-i.invariant.1 (omega (arith, c.loop-i-test.true, c.loop-i.invariant.0)) c.in_err-put_word.ensures c.from_residual.ensures.0

pub loop-i-preserved : goal.loop-i-preserved
loop-i-preserved g c = (omega (arith, c.loop-i-test.true), more_numbered _ MEMORY_WORDS c.loop-i.i c.loop-i.invariant.1 (omega (arith, c.loop-i-test.true, c.loop-i.invariant.0)) c.in_ok-put_word.ensures)

pub returns : goal.returns
returns g c = all_numbered _ MEMORY_WORDS c.loop-i.i c.loop-i.invariant.1 (omega (arith, c.loop-i-test.false, c.loop-i.invariant.0))
