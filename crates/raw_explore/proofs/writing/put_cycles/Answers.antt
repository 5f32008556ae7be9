use Rattle.std.proofs.Common.{arith, ◌≡◌, ℕ, List, ◌≤◌, ◌+◌, refl, sym, ap, ◌∙◌, subst}
use Rattle.std.specs.List.{flat_map}
use Rattle.raw_state_text.proofs.Sections.{nothing_yet, one_more, failed, all_written, same_text}
use Rattle.raw_trace.specs.Lines.{cycle_lines}
use Rattle.raw_trace.specs.Text.{line_text}
use Rattle.raw_explore.specs.Engine.{IsAt, AreTurnsBefore}
use Rattle.raw_explore.proofs.Texts.{next_from, none_from, no_turns_before}
use Rattle.raw_explore.proofs.writing.put_cycles.Goals as goal

pub cycles-init : goal.cycles-init
cycles-init g c = (
  refl,
  omega arith,
  c.requires.later,
  c.requires.at,
  no_turns_before c.args.machine.now.set c.args.window.first (omega (arith, c.procs-procs.ensures.few, c.procs-procs.ensures.value)),
  nothing_yet _ _,
)

pub put_cycle-requires-clause-before : goal.put_cycle-requires-clause-before
put_cycle-requires-clause-before g c =
    subst (λ set. AreTurnsBefore set c.args.window.first c.cycles.k c.cycles.before) (sym c.cycles.invariant.0) c.cycles.invariant.4

pub returns-in_err-put_cycle-clause-writes : goal.returns-in_err-put_cycle-clause-writes
returns-in_err-put_cycle-clause-writes g c =
    let text : ℕ → List ℕ = λ k. flat_map line_text (cycle_lines c.args.machine.now.set c.args.window.first k) in
    let same = ap (λ set. flat_map line_text (cycle_lines set c.args.window.first c.cycles.k)) c.cycles.invariant.0 in
    failed _ _ _ _ _ _ _ c.cycles.invariant.5 (next_from text c.cycles.k c.args.window.end c.cycles-test.true) _
    c.from_residual.result c.from_residual.ensures.0 (same_text _ _ _ _ _ same c.in_err-put_cycle.ensures.writes)

pub cycles-preserved : goal.cycles-preserved
cycles-preserved g c =
    let set = c.args.machine.now.set in
    let first = c.args.window.first in
    let text : ℕ → List ℕ = λ k. flat_map line_text (cycle_lines set first k) in
    let same = ap (λ set. flat_map line_text (cycle_lines set first c.cycles.k)) c.cycles.invariant.0 in (
      c.in_ok-put_cycle.ensures.set ∙ c.cycles.invariant.0,
      omega (arith, c.cycles.invariant.1),
      omega (arith, c.cycles-test.true),
      c.in_ok-put_cycle.ensures.at,
      subst (λ set. AreTurnsBefore set first (c.cycles.k + 1) c.put_cycle.new.before) c.cycles.invariant.0 c.in_ok-put_cycle.ensures.before,
      one_more _ _ _ _ _ _ _ c.cycles.invariant.5 (next_from text c.cycles.k c.args.window.end c.cycles-test.true) _
          (same_text _ _ _ _ _ same c.in_ok-put_cycle.ensures.writes),
    )

pub returns-clause-at : goal.returns-clause-at
returns-clause-at g c =
    let last : c.cycles.k ≡ c.args.window.end = omega (arith, c.cycles-test.false, c.cycles.invariant.2) in
    subst (IsAt c.cycles.machine) last c.cycles.invariant.3

pub returns-clause-writes : goal.returns-clause-writes
returns-clause-writes g c =
    let text : ℕ → List ℕ = λ k. flat_map line_text (cycle_lines c.args.machine.now.set c.args.window.first k) in
    let le : c.args.window.end ≤ c.cycles.k = omega (arith, c.cycles-test.false) in
    all_written _ _ _ _ _ c.cycles.invariant.5 (none_from text c.cycles.k c.args.window.end le)
