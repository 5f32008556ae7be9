use Rattle.std.proofs.Common.{arith, ◌≡◌, ◌+◌, ◌-◌, ◌++◌, cond, Some, None, refl, sym, ap, ◌∙◌, append-nil}
use Rattle.std.specs.Prelude.{option_map}
use Rattle.std.specs.List.{range_with_len}
use Rattle.std.proofs.lemmas.Bool.{ne_eqb}
use Rattle.raw_grid.specs.Topology.{proc_count}
use Rattle.raw_clock.specs.Clock.{clock, clock_turns, turn_in}
use Rattle.raw_clock.proofs.Telling.{turn_told}
use Rattle.raw_state_text.proofs.Sections.{nothing_yet, one_more, failed, all_written, same_text}
use Rattle.raw_trace.specs.Lines.{Cycle, turn_lines}
use Rattle.raw_trace.specs.Text.{line_text}
use Rattle.raw_trace.proofs.Lists.{flat_flat}
use Rattle.raw_explore.proofs.position.put_cycle.Goals as goal

pub returns-in_err-put_line-clause-writes : goal.returns-in_err-put_line-clause-writes
returns-in_err-put_line-clause-writes g c =
    let set = c.args.machine.now.set in
    let lines = turn_lines set c.args.first c.args.k in
    let parts = ap (λ xs. line_text (Cycle c.args.k) ++ xs) (flat_flat line_text lines (range_with_len 0 (proc_count set.topo))) in
    failed _ _ _ _ _ _ _ (nothing_yet _ _) parts _ c.from_residual.result c.from_residual.ensures.0 (same_text _ _ _ _ _ c.cycle_line.ensures c.in_err-put_line.ensures)

pub returns-in_err-put_turns-clause-writes : goal.returns-in_err-put_turns-clause-writes
returns-in_err-put_turns-clause-writes g c =
    let set = c.args.machine.now.set in
    let lines = turn_lines set c.args.first c.args.k in
    let parts = ap (λ xs. line_text (Cycle c.args.k) ++ xs) (flat_flat line_text lines (range_with_len 0 (proc_count set.topo))) in
    failed _ _ _ _ _ _ _ (one_more _ _ _ _ _ _ _ (nothing_yet _ _) parts _ (same_text _ _ _ _ _ c.cycle_line.ensures c.in_ok-put_line.ensures)) (sym (append-nil _)) _
    c.from_residual-in_err-put_turns.result c.from_residual-in_err-put_turns.ensures.0 c.in_err-put_turns.ensures.writes

pub returns-clause-writes : goal.returns-clause-writes
returns-clause-writes g c =
    let set = c.args.machine.now.set in
    let lines = turn_lines set c.args.first c.args.k in
    let parts = ap (λ xs. line_text (Cycle c.args.k) ++ xs) (flat_flat line_text lines (range_with_len 0 (proc_count set.topo))) in
    all_written _ _ _ _ _
    (one_more _ _ _ _ _ _ _ (one_more _ _ _ _ _ _ _ (nothing_yet _ _) parts _ (same_text _ _ _ _ _ c.cycle_line.ensures c.in_ok-put_line.ensures)) (sym (append-nil _)) _ c.in_ok-put_turns.ensures.writes) refl

pub returns-clause-before : goal.returns-clause-before
returns-clause-before g c =
    λ p below.
    let m = c.args.machine.now in
    let set = m.set in
    let k = c.args.k in
    let told : turn_in set (clock set k) p ≡ turn_in set (clock set ((k + 1) - 1)) p =
    let same : k ≡ (k + 1) - 1 = omega arith in ap (λ j. turn_in set (clock set j) p) same in
    c.remember.ensures p (omega (arith, below, c.procs-procs.ensures.value))
    ∙ ap (option_map Some)
    (c.ask_all.ensures.turns p below
    ∙ ap Some (turn_told set c.set-set.ensures.valid m (clock_turns set k) c.requires.at p (λ past. c.ask_all.ensures.tiles p past below) ∙ told))
    ∙ ap Some (sym (ap (λ b. cond b None (Some (turn_in set (clock set ((k + 1) - 1)) p))) (ne_eqb (k + 1) c.args.first (λ e. absurd (omega (arith, e, c.requires.begun))))))
