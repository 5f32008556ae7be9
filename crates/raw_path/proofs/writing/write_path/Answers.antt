use Rattle.std.proofs.Common.{◌≡◌, ℕ, ◌++◌, length, refl, sym, ap, ◌∙◌, arith, append_assoc}
use Rattle.raw_grid.specs.Topology.{proc_count}
use Rattle.raw_model.specs.Program.{ProgramSet}
use Rattle.raw_model.specs.Start.{MachineState}
use Rattle.raw_model.specs.Outcomes.{outcome}
use Rattle.raw_report.specs.Report.{outcome_lines}
use Rattle.raw_clock.specs.Clock.{machine_at, clock, program_steps}
use Rattle.raw_clock_text.specs.Lines.{cycles_line}
use Rattle.raw_state_text.proofs.Sections.{nothing_yet, one_more, failed, last_part, same_text}
use Rattle.raw_path.specs.Path.{path_of, stalls_of}
use Rattle.raw_path.specs.Text.{path_lines, path_text}
use Rattle.raw_path.proofs.Ending.{stalls_few, stretches_few}
use Rattle.raw_path.proofs.writing.write_path.Goals as goal

-- the text begins as the state says at which it is
parts : (set : ProgramSet) (state : MachineState) (n : ℕ) → state ≡ machine_at (clock set n)
    → path_text set n ≡ outcome_lines set state (outcome set state) ++ (cycles_line n (program_steps set n) ++ path_lines (proc_count set.topo) n (stalls_of set n) (path_of set n))
unfolding path_text
parts set state n is =
    let line = cycles_line n (program_steps set n) in
    let last = path_lines (proc_count set.topo) n (stalls_of set n) (path_of set n) in
    ap (λ s. outcome_lines set s (outcome set s) ++ line ++ last) (sym is) ∙ append_assoc (outcome_lines set state (outcome set state)) line last

pub put_path-requires-clause-stalled : goal.put_path-requires-clause-stalled
put_path-requires-clause-stalled g c =
    let path = c.args.path.now in
    let told = c.requires.path.told.stalled in
    omega (arith, told, stalls_few c.args.m.now.set path.cycles)

pub put_path-requires-clause-stretches : goal.put_path-requires-clause-stretches
put_path-requires-clause-stretches g c =
    let path = c.args.path.now in
    let told = ap length c.requires.path.told.stretches in
    omega (arith, told, stretches_few c.args.m.now.set path.cycles)

pub returns-in_err-put_outcome : goal.returns-in_err-put_outcome
returns-in_err-put_outcome g c =
    failed _ _ _ _ _ _ _ (nothing_yet _ _) (parts c.args.m.now.set c.args.m.now.state c.args.path.now.cycles c.requires.path.state) _
    c.from_residual.result c.from_residual.ensures.0 c.in_err-put_outcome.ensures

pub returns-in_err-put_line : goal.returns-in_err-put_line
returns-in_err-put_line g c =
    let n = c.args.path.now.cycles in
    let begun = one_more _ _ _ _ _ _ _ (nothing_yet _ _) (parts c.args.m.now.set c.args.m.now.state n c.requires.path.state) _ c.in_ok-put_outcome.ensures in
    failed _ _ _ _ _ _ _ begun refl _ c.from_residual-in_err-put_line.result c.from_residual-in_err-put_line.ensures.0
    (same_text _ _ _ _ _ (c.cycles_line.ensures ∙ ap (cycles_line n) c.requires.path.steps) c.in_err-put_line.ensures)

pub returns : goal.returns
returns g c =
    let set = c.args.m.now.set in
    let n = c.args.path.now.cycles in
    let told = c.args.path.now.told in
    let is = c.requires.path.told in
    let begun = one_more _ _ _ _ _ _ _ (nothing_yet _ _) (parts set c.args.m.now.state n c.requires.path.state) _ c.in_ok-put_outcome.ensures in
    let more = one_more _ _ _ _ _ _ _ begun refl _ (same_text _ _ _ _ _ (c.cycles_line.ensures ∙ ap (cycles_line n) c.requires.path.steps) c.in_ok-put_line.ensures) in
    let same =
    ap (λ procs. path_lines procs n told.stalled told.stretches.items) is.many
    ∙ ap (λ stalls. path_lines (proc_count set.topo) n stalls told.stretches.items) is.stalled
    ∙ ap (λ ss. path_lines (proc_count set.topo) n (stalls_of set n) ss) is.stretches in
    last_part _ _ _ _ _ _ _ more refl (same_text _ _ _ _ _ same c.put_path.ensures)
