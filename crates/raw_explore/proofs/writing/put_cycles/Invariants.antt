use Rattle.std.proofs.Common.{◌≡◌, ◌≤◌, ◌-◌, ℕ, List}
use Rattle.std.specs.List.{flat_map, range_with_len}
use Rattle.raw_state_text.proofs.Sections.{Begun}
use Rattle.raw_trace.specs.Lines.{cycle_lines}
use Rattle.raw_trace.specs.Text.{line_text}
use Rattle.raw_explore.specs.Engine.{IsAt, AreTurnsBefore}
use Rattle.raw_explore.proofs.writing.put_cycles.Given as goal

abbrev pub invariant-cycles : goal.invariant-cycles
invariant-cycles g l =
    let text : ℕ → List ℕ = λ k. flat_map line_text (cycle_lines l.fn.machine.set l.fn.window.first k) in
    (l.machine.set ≡ l.fn.machine.set) × (l.fn.window.first ≤ l.k) × (l.k ≤ l.fn.window.end) × IsAt l.machine l.k
    × AreTurnsBefore l.fn.machine.set l.fn.window.first l.k l.before
    × Begun (g.K.Sink.sight l.fn.out) (g.K.Sink.sight l.out) (flat_map text (range_with_len l.k (l.fn.window.end - l.k)))
    (flat_map text (range_with_len l.fn.window.first (l.fn.window.end - l.fn.window.first)))
