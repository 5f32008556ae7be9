use Rattle.std.proofs.Common.{None, is_some, sym, ◌∙◌, arith}
use Rattle.std.specs.Prelude.{slice_index_or}
use Rattle.raw_switch_isa.specs.Ends.{has_end}
use Rattle.raw_processor.proofs.EndLists.{all_more, all_failed, all_done}
use Rattle.raw_processor.proofs.switches.all_have_wires.Goals as goal

pub returns-then-is_missing : goal.returns-then-is_missing
returns-then-is_missing c =
    all_failed (λ end. is_some (slice_index_or c.args.wires.now end None)) (has_end c.args.word) c.loop-end.end (omega arith)
    (sym c.is_missing.ensures ∙ c.if-is_missing.true)
    ∙ c.loop-end.invariant

pub loop-end-preserved : goal.loop-end-preserved
loop-end-preserved c =
    all_more (λ end. is_some (slice_index_or c.args.wires.now end None)) (has_end c.args.word) c.loop-end.end (omega arith)
    (sym c.is_missing.ensures ∙ c.if-is_missing.false)
    ∙ c.loop-end.invariant

pub returns : goal.returns
returns c =
    all_done (λ end. is_some (slice_index_or c.args.wires.now end None)) (has_end c.args.word) c.loop-end.end (omega arith)
    ∙ c.loop-end.invariant
