use Rattle.std.proofs.Common.{◌≡◌, ℕ, ◌++◌, ◌-◌, refl, sym, ap, ◌∙◌, subst}
use Rattle.std.specs.List.{flat_map, range_with_len}
use Rattle.std.proofs.lemmas.Grind.{flat_map-append}
use Rattle.raw_grid.specs.Topology.{proc_count}
use Rattle.raw_model.specs.Program.{ProgramSet}
use Rattle.raw_serial.specs.Fresh.{IsFresh}
use Rattle.raw_clock.specs.Clock.{clock}
use Rattle.raw_clock.proofs.Telling.{fresh_told}
use Rattle.raw_state_text.proofs.Sections.{nothing_yet, one_more, failed, last_part, same_text}
use Rattle.raw_trace.specs.Lines.{Begins, cycle_lines, state_line}
use Rattle.raw_trace.specs.Text.{line_text}
use Rattle.raw_trace.proofs.Lists.{flat_flat}
use Rattle.raw_explore.proofs.writing.put_lines.Goals as goal

-- the texts of the lines, part by part
parts : (set : ProgramSet) (first many : ℕ)
    → line_text (Begins first)
    ++ flat_map line_text
    (flat_map (state_line set (clock set first)) (range_with_len 0 (proc_count set.topo)) ++ flat_map (cycle_lines set first) (range_with_len first many))
    ≡ line_text (Begins first)
    ++ (flat_map (λ p. flat_map line_text (state_line set (clock set first) p)) (range_with_len 0 (proc_count set.topo))
    ++ flat_map (λ k. flat_map line_text (cycle_lines set first k)) (range_with_len first many))
parts set first many =
    let states = flat_map (state_line set (clock set first)) (range_with_len 0 (proc_count set.topo)) in
    let cycles = flat_map (cycle_lines set first) (range_with_len first many) in
    ap (λ xs. line_text (Begins first) ++ xs)
    (flat_map-append line_text states cycles
    ∙ ap (λ xs. xs ++ flat_map line_text cycles) (flat_flat line_text (state_line set (clock set first)) (range_with_len 0 (proc_count set.topo)))
    ∙ ap (λ xs. flat_map (λ p. flat_map line_text (state_line set (clock set first) p)) (range_with_len 0 (proc_count set.topo)) ++ xs)
    (flat_flat line_text (cycle_lines set first) (range_with_len first many)))

pub step_to-requires : goal.step_to-requires
step_to-requires g c = fresh_told c.args.machine.now.set c.set-set.ensures.valid c.args.machine.now c.requires.machine

pub put_states-requires-clause-fresh : goal.put_states-requires-clause-fresh
put_states-requires-clause-fresh g c = subst (λ set. IsFresh set c.args.fresh.now) (sym c.step_to.ensures.set) c.requires.fresh

pub returns-in_err-put_line-clause-writes : goal.returns-in_err-put_line-clause-writes
returns-in_err-put_line-clause-writes g c =
    failed _ _ _ _ _ _ _ (nothing_yet _ _) (parts c.args.machine.now.set c.args.window.first (c.args.window.end - c.args.window.first)) _
    c.from_residual.result c.from_residual.ensures.0 (same_text _ _ _ _ _ c.begin_line.ensures c.in_err-put_line.ensures)

pub returns-in_err-put_states-clause-writes : goal.returns-in_err-put_states-clause-writes
returns-in_err-put_states-clause-writes g c =
    let set = c.args.machine.now.set in
    let first = c.args.window.first in
    let same = ap (λ set. flat_map (λ p. flat_map line_text (state_line set (clock set first) p)) (range_with_len 0 (proc_count set.topo))) c.step_to.ensures.set in
    failed _ _ _ _ _ _ _
    (one_more _ _ _ _ _ _ _ (nothing_yet _ _) (parts set first (c.args.window.end - first)) _ (same_text _ _ _ _ _ c.begin_line.ensures c.in_ok-put_line.ensures)) refl _
    c.from_residual-in_err-put_states.result c.from_residual-in_err-put_states.ensures.0 (same_text _ _ _ _ _ same c.in_err-put_states.ensures)

pub returns-clause-writes : goal.returns-clause-writes
returns-clause-writes g c =
    let set = c.args.machine.now.set in
    let first = c.args.window.first in
    let many = c.args.window.end - first in
    let same = ap (λ set. flat_map (λ p. flat_map line_text (state_line set (clock set first) p)) (range_with_len 0 (proc_count set.topo))) c.step_to.ensures.set in
    let later = ap (λ set. flat_map (λ k. flat_map line_text (cycle_lines set first k)) (range_with_len first many)) c.step_to.ensures.set in
    last_part _ _ _ _ _ _ _
    (one_more _ _ _ _ _ _ _ (one_more _ _ _ _ _ _ _ (nothing_yet _ _) (parts set first many) _ (same_text _ _ _ _ _ c.begin_line.ensures c.in_ok-put_line.ensures)) refl _
    (same_text _ _ _ _ _ same c.in_ok-put_states.ensures))
    refl (same_text _ _ _ _ _ later c.put_cycles.ensures.writes)
