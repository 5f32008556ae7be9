use Rattle.std.proofs.Common.{length, ap, ◌∙◌, subst}
use Rattle.raw_grid.specs.Topology.{proc_count}
use Rattle.raw_grid.specs.Wires.{wires_of}
use Rattle.raw_model.specs.Program.{ProgramSet}
use Rattle.raw_whole.specs.Kept.{AreNoTurns, AreNoSends}
use Rattle.raw_whole.proofs.Kept.{none_turns, none_sends}
use Rattle.raw_whole.proofs.gathering.Whole.open.Goals as goal

pub returns-clause-turns : goal.returns-clause-turns
returns-clause-turns c =
    none_turns c.args.set.now c.in_ok-no_turns.field-0.items (subst (λ n. AreNoTurns n c.in_ok-no_turns.field-0.items) (c.procs.ensures.value ∙ ap (λ (s : ProgramSet). proc_count s.topo) c.set.view_is) c.in_ok-no_turns.ensures)

pub returns-clause-sends : goal.returns-clause-sends
returns-clause-sends c =
    none_sends c.args.set.now c.in_ok-no_sends.field-0.items (subst (λ n. AreNoSends n c.in_ok-no_sends.field-0.items) (c.wires.ensures.value ∙ ap (λ (s : ProgramSet). length (wires_of s.topo)) c.set.view_is) c.in_ok-no_sends.ensures)
