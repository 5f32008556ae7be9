use Rattle.std.proofs.Common.{sym, ap, ◌∙◌, subst}
use Rattle.raw_grid.specs.Topology.{proc_count}
use Rattle.raw_model.specs.Program.{ProgramSet, IsSet}
use Rattle.raw_clock.specs.Clock.{program_steps}
use Rattle.raw_path.specs.declared.running.Path.{Path}
use Rattle.raw_path.specs.Path.{path_of, stalls_of}
use Rattle.raw_path.specs.Known.{AreHops, IsTold}
use Rattle.raw_path.proofs.Ending.{path_by, path_rests}
use Rattle.raw_path.proofs.running.run_path.Goals as goal

pub walk_back-requires-clause-hops : goal.walk_back-requires-clause-hops
walk_back-requires-clause-hops c =
    subst (λ s. AreHops s c.deref-2.result.now) (sym c.set-set.ensures.value)
    (subst (AreHops c.args.machine.now.set) (sym c.deref-2.ensures.value) c.in_ok-cycles.ensures.hops)

pub returns-clause-path : goal.returns-clause-path
returns-clause-path c =
    let g = c.args.machine.now.set in
    let n = c.in_ok-cycles.cycles in
    let did = c.in_ok-cycles.ensures in
    let path : Path = record { cycles = n; steps = c.program_steps-steps.result; told = c.in_ok-told.told } in
    path_by g c.run_seen.new.machine path did.set did.cycles (c.program_steps-steps.ensures ∙ ap (λ h. program_steps h n) c.set-set.ensures.value)
    (subst (λ (h : ProgramSet). IsTold (proc_count h.topo) (stalls_of h n) (path_of h n) c.in_ok-told.told) c.set-set.ensures.value c.in_ok-told.ensures) did.state

pub returns-clause-quiet : goal.returns-clause-quiet
returns-clause-quiet c =
    let path : Path = record { cycles = c.in_ok-cycles.cycles; steps = c.program_steps-steps.result; told = c.in_ok-told.told } in
    path_rests c.run_seen.new.machine path (subst IsSet (sym c.in_ok-cycles.ensures.set) c.set-set.ensures.valid) (returns-clause-path c)
