-- Every list of steps of the compiled set that comes to rest is done, with the values of the outs in the sinks.
use Rattle.std.proofs.Common.{◌≡◌, ℕ, zero, suc, take, ◌+◌, ◌-◌, ◌*◌, ◌<◌, ◌≤◌, true, List, [], ◌∷◌, ◌++◌, length, Some, refl, sym, ap, ◌∙◌, subst, ⊎_elim, arith, append_assoc, length-append}
use Rattle.std.specs.Prelude.{slice_get, slice_index}
use Rattle.std.proofs.lemmas.Bool.{cases_lt, le-leb}
use Rattle.std.proofs.lemmas.List.{append-nil, length-map}
use Rattle.std.proofs.lemmas.Option.{same_Some, slice_get_within}
use Rattle.raw_grid.specs.Topology.{tile_count}
use Rattle.raw_model.specs.Program.{ProgramSet, IsSet}
use Rattle.raw_model.specs.Local.{Local, Source, Sink}
use Rattle.raw_model.specs.Machine.{is_stopped, words_of, capacity_of, port_program}
use Rattle.raw_model.specs.Start.{MachineState, start, first_memory}
use Rattle.raw_model.specs.Rest.{end, end_from}
use Rattle.raw_model.specs.Laws.{ComesToRest}
use Rattle.raw_model.specs.Parts.{got_of}
use Rattle.raw_codegen.specs.Parts.{Part}
use Rattle.raw_codegen.specs.Steps.{Leads}
use Rattle.raw_codegen.specs.Standing.{IsScript, PortsAreStopped, HasHalted}
use Rattle.raw_codegen.proofs.Moves.{then, more}
use Rattle.raw_flow.specs.declared.node.Node.{Node}
use Rattle.raw_flow.specs.declared.node.Node.TheVariants.{Input, Const, Apply}
use Rattle.raw_flow.specs.Flows.{Dataflow, IsFlow, AreInputs, values_of, outs_of, inputs_in}
use Rattle.raw_flow.specs.Places.{Holding, has, with_value}
use Rattle.raw_flow.specs.Ports.{FlowPorts, ArePorts, picked}
use Rattle.raw_flow.specs.Compiled.{source_tile, inputs_from, held_inputs, first_held, nodes_from, all_held, outs_from, flow_parts, compiled_at}
use Rattle.raw_flow.specs.Right.{IsRightAt, EachRunIsRightAt, EachPlacedFlowIsRight}
use Rattle.raw_flow.proofs.Chunks.{Rests}
use Rattle.raw_flow.proofs.Given.{Laws}
use Rattle.raw_flow.proofs.Homes.{input_home}
use Rattle.raw_flow.proofs.Moving.{AreHome}
use Rattle.raw_flow.proofs.Phases.{Stage, held_outs, inputs_phase, nodes_phase, nodes_home, outs_phase}
use Rattle.raw_flow.proofs.Picked.{picked_map}
use Rattle.raw_flow.proofs.PortPrograms.{words_are, capacity_is}
use Rattle.raw_flow.proofs.PortStates.{first_states, at_first, all_sent, all_got}
use Rattle.raw_flow.proofs.Walks.{walk_first, has_new, has_still}

-- the tiles of inputs have them
held_keeps : (flow : Dataflow) (ports : FlowPorts) (nodes : List Node) (held : List Holding) (k v u t : ℕ) → has held u t ≡ true → has (held_inputs flow ports held k v nodes) u t ≡ true
held_keeps flow ports [] held k v u t h = h
held_keeps flow ports (Input ∷ nodes) held k v u t h =
    held_keeps flow ports nodes (with_value held v (source_tile flow ports k)) (k + 1) (v + 1) u t (has_still held v (source_tile flow ports k) u t h)
held_keeps flow ports (Const w ∷ nodes) held k v u t h = held_keeps flow ports nodes held k (v + 1) u t h
held_keeps flow ports (Apply op a b ∷ nodes) held k v u t h = held_keeps flow ports nodes held k (v + 1) u t h

module _ (flow : Dataflow) (ports : FlowPorts) where
  has_inputs : (nodes : List Node) (held : List Holding) (k v m i u : ℕ) → slice_get nodes m ≡ Some Input → u ≡ v + m → i ≡ k + inputs_in (take m nodes)
      → has (held_inputs flow ports held k v nodes) u (source_tile flow ports i) ≡ true
  has_inputs [] held k v m i u e is from = cc e
  has_inputs (Input ∷ nodes) held k v zero i u e is from =
      let at : u ≡ v = omega arith in
      let first : i ≡ k = omega arith in
      let t : ℕ = source_tile flow ports k in
      let new : has (held_inputs flow ports (with_value held v t) (k + 1) (v + 1) nodes) v t ≡ true = held_keeps flow ports nodes (with_value held v t) (k + 1) (v + 1) v t (has_new held v t) in
      subst (λ w. has (held_inputs flow ports (with_value held v t) (k + 1) (v + 1) nodes) w (source_tile flow ports i) ≡ true) (sym at)
      (subst (λ n. has (held_inputs flow ports (with_value held v t) (k + 1) (v + 1) nodes) v (source_tile flow ports n) ≡ true) (sym first) new)
  has_inputs (Input ∷ nodes) held k v (suc m) i u e is from = has_inputs nodes (with_value held v (source_tile flow ports k)) (k + 1) (v + 1) m i u e (omega arith) (omega arith)
  has_inputs (Const w ∷ nodes) held k v zero i u e is from = cc e
  has_inputs (Const w ∷ nodes) held k v (suc m) i u e is from = has_inputs nodes held k (v + 1) m i u e (omega arith) from
  has_inputs (Apply op a b ∷ nodes) held k v zero i u e is from = cc e
  has_inputs (Apply op a b ∷ nodes) held k v (suc m) i u e is from = has_inputs nodes held k (v + 1) m i u e (omega arith) from

  pub first_home : AreHome flow ports (first_held flow ports) 0
  first_home = record {
    nodes = λ u h. absurd (omega arith);
    inputs = λ u e.
        let k : ℕ = inputs_in (take u flow.nodes) in
        subst (λ t. has (first_held flow ports) u t ≡ true) (sym (input_home flow ports u e)) (has_inputs flow.nodes [] 0 0 u k u e (omega arith) (omega arith));
  }

module _ (laws : Laws) (flow : Dataflow) (ports : FlowPorts) (inputs : List ℕ) (is : IsFlow flow) (are : ArePorts flow ports) (given : AreInputs flow inputs) (valid : IsSet (compiled_at flow ports inputs)) where
  abbrev set : ProgramSet
  set = compiled_at flow ports inputs

  abbrev vals : List ℕ
  vals = values_of flow inputs

  abbrev values : List ℕ
  values = outs_of flow inputs

  abbrev all : List Part
  all = flow_parts flow ports

  abbrev n : ℕ
  n = tile_count set.topo

  abbrev front : ℕ
  front = length ports.sources

  script : IsScript set all
  unfolding compiled_at
  script = record { valid = valid; tiles = refl; limit = omega arith }

  -- at the start
  first_rests : Stage set vals ports inputs values [] [] 0 0 (start set)
  unfolding compiled_at
  first_rests = record {
    states = first_states flow ports inputs values;
    rests = record {
      has = record {
        memories = λ t. first_memory [];
        stands = laws.scripts.start set all script;
        know = λ t. record { word = λ v none. cc };
        ports = λ q. laws.scripts.start_ports set all script q;
      };
      idle = laws.scripts.start_idle set;
    };
    at = at_first flow ports inputs values are;
  }

  -- where each source has sent all its words and each sink is full, the ports are stopped
  module _ (held : List Holding) (s : MachineState) (old : Stage set vals ports inputs values all held (length inputs) (length values) s) where
    source_stopped : (q : ℕ) (l : Local) → q < front → slice_get s.locals (2 * n + q) ≡ Some l → is_stopped set (2 * n + q) l ≡ true
    source_stopped q l h e =
        let has = old.at.sources q h in
        let now : Local = Source (record { done = has.done; got = [] }) in
        let same : now ≡ l = same_Some now l (sym (old.rests.has.ports q ∙ has.is) ∙ e) in
        subst (λ k. is_stopped set (2 * n + q) k ≡ true) same
        (le-leb (length (words_of (port_program set (2 * n + q)))) has.done
        (let a = ap length (words_are flow ports inputs q h) in let b = all_sent flow ports inputs values old.states old.at q h in omega arith))

    sink_stopped : (q : ℕ) (l : Local) → q < length ports.sinks → slice_get s.locals (2 * n + (front + q)) ≡ Some l → is_stopped set (2 * n + (front + q)) l ≡ true
    sink_stopped q l h e =
        let has = old.at.sinks q h in
        let now : Local = Sink (record { done = length has.got; got = has.got }) in
        let same : now ≡ l = same_Some now l (sym (old.rests.has.ports (front + q) ∙ has.is) ∙ e) in
        subst (λ k. is_stopped set (2 * n + (front + q)) k ≡ true) same
        (le-leb (capacity_of (port_program set (2 * n + (front + q)))) (length has.got)
        (let a = capacity_is flow ports inputs q h in
        let b = ap length (all_got flow ports inputs values old.states old.at q h) in
        let c = ap length (picked_map (λ u. slice_index vals u) q ports.goes flow.outs) in
        let d = length-map (picked q ports.goes flow.outs) (λ u. slice_index vals u) in
        omega arith))

    stopped : PortsAreStopped set s
    unfolding compiled_at
    stopped = record { at = at }
      where
        port : (p q : ℕ) (l : Local) → p ≡ 2 * n + q → slice_get s.locals p ≡ Some l → is_stopped set p l ≡ true
        port p q l is e = ⊎_elim source sink (cases_lt q front)
          where
            source : q < front → is_stopped set p l ≡ true
            source h = subst (λ k. is_stopped set k l ≡ true) (sym is) (source_stopped q l h (ap (slice_get s.locals) (sym is) ∙ e))

            sink : front ≤ q → is_stopped set p l ≡ true
            sink h =
                let within = slice_get_within s.locals p l e in
                let places = length-append ports.sources ports.sinks in
                let room : q - front < length ports.sinks = let a = old.rests.has.stands.fits.processors in omega (arith, a, places, within) in
                let at : p ≡ 2 * n + (front + (q - front)) = omega arith in
                subst (λ k. is_stopped set k l ≡ true) (sym at) (sink_stopped (q - front) l room (ap (slice_get s.locals) (sym at) ∙ e))

        at : (p : ℕ) (l : Local) → 2 * n ≤ p → slice_get s.locals p ≡ Some l → is_stopped set p l ≡ true
        at p l h e = port p (p - 2 * n) l (omega arith) e

  abbrev HasAll : MachineState → Type 0
  HasAll r = (q : ℕ) → q < length ports.sinks → got_of (slice_get r.locals (2 * n + (front + q))) ≡ picked q ports.goes values

  abbrev Halted : MachineState → Type 0
  Halted r = (m : ℕ → List ℕ) × ((before : MachineState) × HasHalted set m before r × HasAll r)

  -- one serial order
  serial : Leads set (start set) Halted
  unfolding flow_parts
  serial =
      let s : MachineState = start set in
      let ps : List Part = inputs_from flow ports 0 0 flow.nodes in
      let qs : List Part = nodes_from flow ports (first_held flow ports) 0 flow.nodes in
      let rs : List Part = outs_from flow ports (all_held flow ports) 0 flow.outs in
      let last : List Holding = held_outs flow ports (all_held flow ports) 0 flow.outs in
      let count : 0 + inputs_in flow.nodes ≡ length inputs = omega (arith, given.each) in
      let P1 : MachineState → Type 0 = Stage set vals ports inputs values ps (first_held flow ports) (length inputs) 0 in
      let P3 : MachineState → Type 0 = Stage set vals ports inputs values ((ps ++ qs) ++ rs) last (length inputs) (length flow.outs) in
      let whole : all ≡ (ps ++ qs) ++ (rs ++ []) = sym (append_assoc ps qs rs) ∙ ap (λ xs. (ps ++ qs) ++ xs) (sym (append-nil rs)) in
      let walk = walk_first flow inputs in
      let full : length flow.outs ≡ length values = sym (length-map flow.outs (λ v. slice_index vals v)) in
      then set s P1 Halted
      (inputs_phase laws flow ports inputs is are given script flow.nodes 0 0 0 [] [] [] (qs ++ rs) s walk count refl first_rests)
      (λ r1 b1. then set r1 (Rests set vals (ps ++ qs) (all_held flow ports) b1.states) Halted
      (nodes_phase laws flow ports inputs is are given script flow.nodes 0 0 [] b1.states (first_held flow ports) ps rs r1 walk (first_home flow ports) refl b1.rests)
      (λ r2 b2. then set r2 P3 Halted
      (outs_phase laws flow ports inputs is are given script flow.outs (length inputs) 0 (all_held flow ports) (ps ++ qs) [] r2 is.outs refl (omega arith)
      (nodes_home laws flow ports inputs is are given script flow.nodes 0 0 [] (first_held flow ports) r2 walk (first_home flow ports)) whole
      (record { states = b1.states; rests = b2; at = b1.at }))
      (λ r3 b3.
      let b : Stage set vals ports inputs values all last (length inputs) (length values) r3 =
      subst (λ xs. Stage set vals ports inputs values xs last (length inputs) (length values) r3) (append_assoc ps qs rs)
      (subst (λ j. Stage set vals ports inputs values ((ps ++ qs) ++ rs) last (length inputs) j r3) full b3) in
      more set r3 (λ q. HasHalted set b.rests.has.memories r3 q) Halted
      (laws.scripts.halts set all b.rests.has.memories r3 script b.rests.has.stands (stopped last r3 b))
      (λ q h. (
        b.rests.has.memories,
        (
          r3,
          h,
          λ k some. ap got_of (h.ports.at (2 * n + (front + k)) (omega arith) ∙ b.rests.has.ports (front + k) ∙ (b.at.sinks k some).is) ∙ all_got flow ports inputs values b.states b.at k some,
        ),
      )))))

  pub each_run_is_right : EachRunIsRightAt flow ports inputs
  unfolding compiled_at
  each_run_is_right steps run =
      let r : MachineState = end_from set (start set) serial.steps in
      let h = serial.holds.1.1 in
      let ours : ComesToRest set (start set) serial.steps = record { lawful = serial.lawful; quiet = h.quiet } in
      let theirs : ComesToRest set (start set) steps = record { lawful = run.lawful; quiet = run.quiet } in
      let same : end set steps ≡ r = laws.same_rest set (start set) serial.steps steps valid ours theirs in
      subst (λ q. IsRightAt flow ports inputs q) (sym same) (record { done = h.done; values = serial.holds.1.2 })

pub each_flow_is_right : Laws → EachPlacedFlowIsRight
each_flow_is_right laws flow ports inputs is are given valid = each_run_is_right laws flow ports inputs is are given valid
