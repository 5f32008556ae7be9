-- What each port of a compiled set is given.
use Rattle.std.proofs.Common.{◌≡◌, ℕ, ◌+◌, ◌-◌, ◌*◌, ◌<◌, ◌++◌, List, length, map, Some, ap, ◌∙◌, arith, length-append}
use Rattle.std.specs.Prelude.{slice_get}
use Rattle.std.specs.List.{range_with_len}
use Rattle.std.proofs.lemmas.List.{get_or_append_left, get_or-append-add}
use Rattle.std.proofs.lemmas.List.FromFn.{length-map-range_with_len, get_or-map-range_with_len}
use Rattle.std.proofs.lemmas.Option.{slice_get-get_or}
use Rattle.raw_grid.specs.Topology.{tile_count}
use Rattle.raw_model.specs.Program.{PortProgram}
use Rattle.raw_model.specs.Machine.{words_of, capacity_of, port_program}
use Rattle.raw_flow.specs.Flows.{Dataflow}
use Rattle.raw_flow.specs.Ports.{FlowPorts, picked}
use Rattle.raw_flow.specs.Compiled.{source_program, sink_program, port_programs, compiled_at}

module _ (flow : Dataflow) (ports : FlowPorts) (inputs : List ℕ) where
  abbrev front : List PortProgram
  front = map (source_program ports inputs) (range_with_len 0 (length ports.sources))

  abbrev back : List PortProgram
  back = map (sink_program flow ports) (range_with_len 0 (length ports.sinks))

  pub long_front : length front ≡ length ports.sources
  long_front = length-map-range_with_len (source_program ports inputs) 0 (length ports.sources)

  pub long_back : length back ≡ length ports.sinks
  long_back = length-map-range_with_len (sink_program flow ports) 0 (length ports.sinks)

  pub long_programs : length (port_programs flow ports inputs) ≡ length ports.sources + length ports.sinks
  long_programs = omega (arith, length-append front back, long_front, long_back)

  -- the program of source q, and that of sink q
  pub source_given : (q : ℕ) → q < length ports.sources → slice_get (port_programs flow ports inputs) q ≡ Some (source_program ports inputs q)
  source_given q h =
      let d : PortProgram = source_program ports inputs q in
      let same : 0 + q ≡ q = omega arith in
      slice_get-get_or (front ++ back) q d (omega (arith, long_programs))
      ∙ ap (λ (x : PortProgram). Some x) (get_or_append_left front back d q (omega (arith, long_front))
      ∙ get_or-map-range_with_len (source_program ports inputs) 0 (length ports.sources) q q d h same)

  pub sink_given : (q : ℕ) → q < length ports.sinks → slice_get (port_programs flow ports inputs) (length ports.sources + q) ≡ Some (sink_program flow ports q)
  sink_given q h =
      let d : PortProgram = sink_program flow ports q in
      let same : 0 + q ≡ q = omega arith in
      let at : length ports.sources + q ≡ length front + q = omega (arith, long_front) in
      ap (slice_get (front ++ back)) at
      ∙ slice_get-get_or (front ++ back) (length front + q) d (omega (arith, length-append front back, long_back))
      ∙ ap (λ (x : PortProgram). Some x) (get_or-append-add front back q d ∙ get_or-map-range_with_len (sink_program flow ports) 0 (length ports.sinks) q q d h same)

  -- among the processors of the compiled set
  pub words_are : (q : ℕ) → q < length ports.sources → words_of (port_program (compiled_at flow ports inputs) (2 * tile_count (compiled_at flow ports inputs).topo + q)) ≡ picked q ports.comes inputs
  unfolding compiled_at
  words_are q h =
      let n : ℕ = tile_count (compiled_at flow ports inputs).topo in
      let at : 2 * n + q - 2 * n ≡ q = omega arith in
      ap (λ k. words_of (slice_get (port_programs flow ports inputs) k)) at ∙ ap words_of (source_given q h)

  pub capacity_is : (q : ℕ) → q < length ports.sinks
      → capacity_of (port_program (compiled_at flow ports inputs) (2 * tile_count (compiled_at flow ports inputs).topo + (length ports.sources + q))) ≡ length (picked q ports.goes flow.outs)
  unfolding compiled_at
  capacity_is q h =
      let n : ℕ = tile_count (compiled_at flow ports inputs).topo in
      let at : 2 * n + (length ports.sources + q) - 2 * n ≡ length ports.sources + q = omega arith in
      ap (λ k. capacity_of (slice_get (port_programs flow ports inputs) k)) at ∙ ap capacity_of (sink_given q h)
