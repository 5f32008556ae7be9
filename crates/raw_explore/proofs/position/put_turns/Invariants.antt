use Rattle.std.proofs.Common.{◌≡◌, ◌≤◌, ◌++◌, ℕ, List, drop, slice_index}
use Rattle.std.specs.List.{filter, flat_map, range_with_len}
use Rattle.raw_network.specs.Network.{is_enabled}
use Rattle.raw_grid.specs.Topology.{proc_count}
use Rattle.raw_clock.specs.Clock.{clocked, clock, clock_turns}
use Rattle.raw_clock.specs.Engine.{HasTaken}
use Rattle.raw_state_text.proofs.Sections.{Begun}
use Rattle.raw_trace.specs.Lines.{turn_lines}
use Rattle.raw_trace.specs.Text.{line_text}
use Rattle.raw_explore.proofs.position.put_turns.Given as goal

abbrev pub invariant-procs : goal.invariant-procs
invariant-procs g l =
    let text : ℕ → List ℕ = λ p. flat_map line_text (turn_lines l.fn.machine.set l.fn.first l.fn.k p) in
    let all = range_with_len 0 (proc_count l.fn.machine.set.topo) in
    (l.p-end ≡ proc_count l.fn.machine.set.topo)
    × (l.machine.set ≡ l.fn.machine.set)
    × ((q : ℕ) → l.p ≤ q → slice_index l.machine.owed q ≡ slice_index l.fn.machine.owed q)
    × HasTaken l.fn.machine.set l.machine
    (clock_turns l.fn.machine.set l.fn.k
    ++ filter (λ p. is_enabled (clocked l.fn.machine.set) (clock l.fn.machine.set l.fn.k) p) (range_with_len 0 l.p))
    × Begun (g.K.Sink.sight l.fn.out) (g.K.Sink.sight l.out) (flat_map text (drop l.p all)) (flat_map text all)
