use Rattle.std.proofs.Common.{arith, ◌≡◌, ℕ, Bool, List, ◌+◌, ◌-◌, ◌++◌, ◌∷◌, refl, sym, ap, ◌∙◌, subst}
use Rattle.std.specs.Prelude.{codes, is_some}
use Rattle.std.specs.List.{flat_map, range_with_len}
use Rattle.raw_io.specs.declared.Failed.{Failed}
use Rattle.raw_grid.specs.Topology.{proc_count}
use Rattle.raw_model.specs.Program.{ProgramSet}
use Rattle.raw_model.specs.Waits.{waits_for}
use Rattle.raw_model.specs.Outcomes.{outcome}
use Rattle.raw_serial.specs.Fresh.{IsFresh}
use Rattle.raw_outcome.specs.Told.{told}
use Rattle.raw_clock.specs.Clock.{clock, clock_turns, machine_at, HasCycles, program_steps}
use Rattle.raw_clock.specs.Tally.{IsTally}
use Rattle.raw_clock.specs.Values.{HaveSent}
use Rattle.raw_clock_text.specs.Text.{cycles_text}
use Rattle.raw_state_text.proofs.Sections.{nothing_yet, one_more, failed, last_part, same_text}
use Rattle.raw_trace.specs.Lines.{Begins, cycle_lines, state_line, first_told, past_told, positions, trace_lines}
use Rattle.raw_trace.specs.Text.{line_text, trace_text}
use Rattle.raw_trace.specs.Whole.{whole_lines}
use Rattle.raw_explore.proofs.Resting.{state_at_rest}
use Rattle.raw_explore.proofs.writing.write_trace.Goals as goal

-- the text of a trace by the window of its cycles
trace_parts : (front : List ℕ) (set : ProgramSet) (whole : Bool) (n from most first end : ℕ) → first ≡ first_told n from
    → end ≡ first + positions n (first_told n from) (past_told n from most)
    → trace_text front set whole n from most
    ≡ front
    ++ (whole_lines whole set n
    ++ (flat_map line_text
    (Begins first
    ∷ (flat_map (state_line set (clock set first)) (range_with_len 0 (proc_count set.topo)) ++ flat_map (cycle_lines set first) (range_with_len first (end - first))))
    ++ (codes "counts\n" ++ cycles_text set n)))
unfolding trace_text trace_lines
trace_parts front set whole n from most first end is last =
    let many : positions n (first_told n from) (past_told n from most) ≡ end - first = omega (arith, last) in
    let text : ℕ → ℕ → List ℕ = λ f k.
    front
    ++ (whole_lines whole set n
    ++ (flat_map line_text
    (Begins f ∷ (flat_map (state_line set (clock set f)) (range_with_len 0 (proc_count set.topo)) ++ flat_map (cycle_lines set f) (range_with_len f k)))
    ++ (codes "counts\n" ++ cycles_text set n))) in
    ap (text (first_told n from)) many ∙ ap (λ f. text f (end - first)) (sym is)

pub put_lines-requires : goal.put_lines-requires
put_lines-requires g c = record {
  machine = subst (λ s. IsFresh s c.restart.new.self) (sym c.restart.ensures.set) c.restart.ensures;
  fresh = subst (λ s. IsFresh s c.args.opened.fresh) (sym c.restart.ensures.set) c.requires.other_fresh;
  later = let end = c.new-window.ensures.end in omega (arith, end);
}

pub returns-in_err-put_all : goal.returns-in_err-put_all
returns-in_err-put_all g c =
    let set = c.args.opened.machine.set in
    let parts = trace_parts c.args.opened.text.items set (is_some c.args.opened.whole) c.args.opened.ran.cycles c.args.from c.args.most c.new-window.result.first c.new-window.result.end
    c.new-window.ensures.first c.new-window.ensures.end in
    let text = c.deref.ensures.value in
    failed _ _ _ _ _ _ _ (nothing_yet _ _) parts {S = Unit {0}} {F = Failed} c.in_err-put_all.field-0.0 c.from_residual.result c.from_residual.ensures.0
    (same_text _ _ _ _ _ text (record { ok = c.in_err-put_all.ensures.ok; front = c.in_err-put_all.ensures.front; fault = c.in_err-put_all.ensures.fault; count = c.in_err-put_all.ensures.count }))

pub returns-in_err-put_whole : goal.returns-in_err-put_whole
returns-in_err-put_whole g c =
    let set = c.args.opened.machine.set in
    let parts = trace_parts c.args.opened.text.items set (is_some c.args.opened.whole) c.args.opened.ran.cycles c.args.from c.args.most c.new-window.result.first c.new-window.result.end
    c.new-window.ensures.first c.new-window.ensures.end in
    let text = c.deref.ensures.value in
    failed _ _ _ _ _ _ _
    (one_more _ _ _ _ _ _ _ (nothing_yet _ _) parts {T = Unit {0}} {E = Failed} tt (same_text _ _ _ _ _ text (record { ok = c.in_ok-put_all.ensures.ok; front = c.in_ok-put_all.ensures.front; fault = c.in_ok-put_all.ensures.fault; count = c.in_ok-put_all.ensures.count }))) refl _
    c.from_residual-in_err-put_whole.result c.from_residual-in_err-put_whole.ensures.0 c.in_err-put_whole.ensures

pub returns-in_err-put_lines : goal.returns-in_err-put_lines
returns-in_err-put_lines g c =
    let set = c.args.opened.machine.set in
    let parts = trace_parts c.args.opened.text.items set (is_some c.args.opened.whole) c.args.opened.ran.cycles c.args.from c.args.most c.new-window.result.first c.new-window.result.end
    c.new-window.ensures.first c.new-window.ensures.end in
    let text = c.deref.ensures.value in
    let first = c.new-window.result.first in
    let many = c.new-window.result.end - c.new-window.result.first in
    let later =
    ap
    (λ (s : ProgramSet). flat_map line_text
    (Begins first ∷ (flat_map (state_line s (clock s first)) (range_with_len 0 (proc_count s.topo)) ++ flat_map (cycle_lines s first) (range_with_len first many))))
    c.restart.ensures.set in
    failed _ _ _ _ _ _ _
    (one_more _ _ _ _ _ _ _ (one_more _ _ _ _ _ _ _ (nothing_yet _ _) parts {T = Unit {0}} {E = Failed} tt (same_text _ _ _ _ _ text (record { ok = c.in_ok-put_all.ensures.ok; front = c.in_ok-put_all.ensures.front; fault = c.in_ok-put_all.ensures.fault; count = c.in_ok-put_all.ensures.count }))) refl _ c.in_ok-put_whole.ensures) refl _
    c.from_residual-in_err-put_lines.result c.from_residual-in_err-put_lines.ensures.0 (same_text _ _ _ _ _ later c.in_err-put_lines.ensures.writes)

pub returns-in_err-put_all-2 : goal.returns-in_err-put_all-2
returns-in_err-put_all-2 g c =
    let set = c.args.opened.machine.set in
    let parts = trace_parts c.args.opened.text.items set (is_some c.args.opened.whole) c.args.opened.ran.cycles c.args.from c.args.most c.new-window.result.first c.new-window.result.end
    c.new-window.ensures.first c.new-window.ensures.end in
    let text = c.deref.ensures.value in
    let first = c.new-window.result.first in
    let many = c.new-window.result.end - c.new-window.result.first in
    let later =
    ap
    (λ (s : ProgramSet). flat_map line_text
    (Begins first ∷ (flat_map (state_line s (clock s first)) (range_with_len 0 (proc_count s.topo)) ++ flat_map (cycle_lines s first) (range_with_len first many))))
    c.restart.ensures.set in
    failed _ _ _ _ _ _ _
    (one_more _ _ _ _ _ _ _ (one_more _ _ _ _ _ _ _ (one_more _ _ _ _ _ _ _ (nothing_yet _ _) parts {T = Unit {0}} {E = Failed} tt (same_text _ _ _ _ _ text (record { ok = c.in_ok-put_all.ensures.ok; front = c.in_ok-put_all.ensures.front; fault = c.in_ok-put_all.ensures.fault; count = c.in_ok-put_all.ensures.count }))) refl _ c.in_ok-put_whole.ensures) refl _ (same_text _ _ _ _ _ later c.in_ok-put_lines.ensures.writes)) refl {S = Unit {0}} {F = Failed} c.in_err-put_all-2.field-0.0
    c.from_residual-in_err-put_all-2.result c.from_residual-in_err-put_all-2.ensures.0 (record { ok = c.in_err-put_all-2.ensures.ok; front = c.in_err-put_all-2.ensures.front; fault = c.in_err-put_all-2.ensures.fault; count = c.in_err-put_all-2.ensures.count })

pub write_cycles-requires-clause-outcome : goal.write_cycles-requires-clause-outcome
write_cycles-requires-clause-outcome g c =
    let n = c.args.opened.ran.cycles in
    let answer = c.args.opened.outcome in
    let same : c.step_to.new.machine.set ≡ c.args.opened.machine.set = c.step_to.ensures.set ∙ c.in_ok-put_lines.ensures.set ∙ c.restart.ensures.set in
    let state =
    state_at_rest c.args.opened.machine.set c.requires.valid n c.requires.cycles c.step_to.new.machine c.new-window.result.end same c.step_to.ensures.at c.new-window.ensures.ended
    ∙ ap (λ s. machine_at (clock s n)) (sym same) in
    subst (λ s. told (waits_for c.step_to.new.machine.set s) answer ≡ outcome c.step_to.new.machine.set s) (sym state)
    (subst (λ s. told (waits_for s (machine_at (clock s n))) answer ≡ outcome s (machine_at (clock s n))) (sym same) c.requires.rest)

pub write_cycles-requires-clause-counted : goal.write_cycles-requires-clause-counted
write_cycles-requires-clause-counted g c =
    let ran = c.args.opened.ran in
    let same : c.step_to.new.machine.set ≡ c.args.opened.machine.set = c.step_to.ensures.set ∙ c.in_ok-put_lines.ensures.set ∙ c.restart.ensures.set in
    record {
      cycles = subst (λ s. HasCycles s ran.cycles) (sym same) c.requires.cycles;
      steps = c.requires.steps ∙ ap (λ s. program_steps s ran.cycles) (sym same);
      tally = subst (λ s. IsTally s ran.cycles ran.tally) (sym same) c.requires.tally;
      passed = subst (λ s. HaveSent s (clock_turns s ran.cycles) ran.passed.items) (sym same) c.requires.passed;
      state =
          state_at_rest c.args.opened.machine.set c.requires.valid ran.cycles c.requires.cycles c.step_to.new.machine c.new-window.result.end same c.step_to.ensures.at c.new-window.ensures.ended
          ∙ ap (λ s. machine_at (clock s ran.cycles)) (sym same);
    }

pub returns : goal.returns
returns g c =
    let set = c.args.opened.machine.set in
    let parts = trace_parts c.args.opened.text.items set (is_some c.args.opened.whole) c.args.opened.ran.cycles c.args.from c.args.most c.new-window.result.first c.new-window.result.end
    c.new-window.ensures.first c.new-window.ensures.end in
    let text = c.deref.ensures.value in
    let first = c.new-window.result.first in
    let many = c.new-window.result.end - c.new-window.result.first in
    let later =
    ap
    (λ (s : ProgramSet). flat_map line_text
    (Begins first ∷ (flat_map (state_line s (clock s first)) (range_with_len 0 (proc_count s.topo)) ++ flat_map (cycle_lines s first) (range_with_len first many))))
    c.restart.ensures.set in
    let same : c.step_to.new.machine.set ≡ c.args.opened.machine.set = c.step_to.ensures.set ∙ c.in_ok-put_lines.ensures.set ∙ c.restart.ensures.set in
    let last = ap (λ s. cycles_text s c.args.opened.ran.cycles) same in
    last_part _ _ _ _ _ _ _
    (one_more _ _ _ _ _ _ _ (one_more _ _ _ _ _ _ _ (one_more _ _ _ _ _ _ _ (one_more _ _ _ _ _ _ _ (nothing_yet _ _) parts {T = Unit {0}} {E = Failed} tt (same_text _ _ _ _ _ text (record { ok = c.in_ok-put_all.ensures.ok; front = c.in_ok-put_all.ensures.front; fault = c.in_ok-put_all.ensures.fault; count = c.in_ok-put_all.ensures.count }))) refl _ c.in_ok-put_whole.ensures) refl _ (same_text _ _ _ _ _ later c.in_ok-put_lines.ensures.writes)) refl {T = Unit {0}} {E = Failed} tt (record { ok = c.in_ok-put_all-2.ensures.ok; front = c.in_ok-put_all-2.ensures.front; fault = c.in_ok-put_all-2.ensures.fault; count = c.in_ok-put_all-2.ensures.count })) refl
    (same_text _ _ _ _ _ last c.write_cycles.ensures)
