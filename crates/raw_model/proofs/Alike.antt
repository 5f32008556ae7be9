-- Two sets that differ in miss streams alone have one machine and one start, and what is said of a state is the same.
use Rattle.std.proofs.Common.{◌≡◌, ℕ, zero, suc, ◌-◌, Option, Some, None, List, [], ◌∷◌, ◌++◌, map, refl, sym, ap, ap₂, ◌∙◌, subst}
use Rattle.std.specs.Prelude.{◌↔◌, slice_get, option_map, codes, if◌then◌else◌}
use Rattle.std.specs.List.{position}
use Rattle.std.proofs.Math.Path.{fun_ext}
use Rattle.std.proofs.lemmas.Simd.{map-map}
use Rattle.raw_network.specs.Network.{Network}
use Rattle.raw_network.specs.Runs.{IsLawful as IsLawfulList, end_of, events, IsQuiet as IsQuietState, passed, touches}
use Rattle.raw_network.specs.Waits.{first_wait as first_wait_in}
use Rattle.raw_grid.specs.declared.parts.PortPlace.{PortPlace}
use Rattle.raw_grid.specs.Topology.{tile_count, proc_count}
use Rattle.raw_cycle.specs.Cycles.{the_cycle as cycle_of_waits}
use Rattle.raw_model.specs.Program.{ProgramSet, TileProgram}
use Rattle.raw_model.specs.Local.{Local, Tile, Switch, Source, Sink}
use Rattle.raw_model.specs.TileTable.{next_instruction}
use Rattle.raw_model.specs.SwitchTable.{switch_row}
use Rattle.raw_model.specs.SwitchTable.{next_instruction as next_switch_instruction}
use Rattle.raw_model.specs.Machine.{program_code, program_switch, tile_takes, tile_sends, switch_takes, switch_sends, tile_effect, tile_network_row, switch_network_row, given_to, is_stopped, takes, sends, row, machine_of}
use Rattle.raw_model.specs.Start.{MachineState, start, first_tile, first_switch, first_port}
use Rattle.raw_model.specs.Rest.{stopped, is_stopped_at, IsLawful, IsRun, is_trapped, is_at_limit}
use Rattle.raw_model.specs.Waits.{inputs_at, outputs_at, first_wait, other_end, waits_for}
use Rattle.raw_model.specs.Outcomes.{is_unhalted, first_of, outcome}
use Rattle.raw_model.specs.StateTexts.{local_mark, mark_of, program_mark, going_text, wait_line_of, wait_line}
use Rattle.raw_model.specs.MissStreams.{without_stream, without_misses, AreAlikeButMisses, RunsTheSame, RestsTheSame}

-- the programs of tiles and switches stay as they are
codes_same : (tiles : List TileProgram) (p : ℕ) → program_code (slice_get tiles p) ≡ program_code (slice_get (map without_stream tiles) p)
codes_same [] p = refl
codes_same (tile ∷ tiles) zero = refl
codes_same (tile ∷ tiles) (suc p) = codes_same tiles p

switches_same : (tiles : List TileProgram) (p : ℕ) → program_switch (slice_get tiles p) ≡ program_switch (slice_get (map without_stream tiles) p)
switches_same [] p = refl
switches_same (tile ∷ tiles) zero = refl
switches_same (tile ∷ tiles) (suc p) = switches_same tiles p

module _ (set : ProgramSet) where
  stopped_same : (p : ℕ) (l : Local) → is_stopped set p l ≡ is_stopped (without_misses set) p l
  stopped_same p (Tile l) = refl
  stopped_same p _ = refl

  takes_same : (p : ℕ) (l : Local) → takes set p l ≡ takes (without_misses set) p l
  takes_same p (Tile l) = ap (λ code. tile_takes set.topo p (next_instruction code l)) (codes_same set.tiles p)
  takes_same p (Switch l) = ap (λ code. switch_takes set.topo p (next_switch_instruction code l)) (switches_same set.tiles (p - tile_count set.topo))
  takes_same p _ = refl

  sends_same : (p : ℕ) (l : Local) → sends set p l ≡ sends (without_misses set) p l
  sends_same p (Tile l) = ap (λ code. tile_sends set.topo p (next_instruction code l)) (codes_same set.tiles p)
  sends_same p (Switch l) = ap (λ code. switch_sends set.topo p (next_switch_instruction code l)) (switches_same set.tiles (p - tile_count set.topo))
  sends_same p _ = refl

  row_same : (p : ℕ) (l : Local) (values : List ℕ) → row set p l values ≡ row (without_misses set) p l values
  row_same p (Tile l) values = ap (λ code. tile_network_row set.topo p (tile_effect code l values)) (codes_same set.tiles p)
  row_same p (Switch l) values =
      ap (λ code. switch_network_row set.topo p (switch_row code l (given_to set.topo p (next_switch_instruction code l) values)))
      (switches_same set.tiles (p - tile_count set.topo))
  row_same p (Source l) values = refl
  row_same p (Sink l) values = refl

  machine_same : machine_of set ≡ machine_of (without_misses set)
  unfolding machine_of
  machine_same =
      let all_stopped : is_stopped set ≡ is_stopped (without_misses set) = fun_ext (λ p. fun_ext (stopped_same p)) in
      let all_takes : takes set ≡ takes (without_misses set) = fun_ext (λ p. fun_ext (takes_same p)) in
      let all_sends : sends set ≡ sends (without_misses set) = fun_ext (λ p. fun_ext (sends_same p)) in
      let all_rows : row set ≡ row (without_misses set) = fun_ext (λ p. fun_ext (λ l. fun_ext (row_same p l))) in
      λ i. record { depth = set.depth; is_stopped = all_stopped i; takes = all_takes i; sends = all_sends i; row = all_rows i }

  start_same : start set ≡ start (without_misses set)
  unfolding start
  start_same =
      let tiles = map-map (λ (tile : TileProgram). Tile (first_tile tile)) without_stream set.tiles in
      let switches = map-map (λ (tile : TileProgram). Switch (first_switch tile.switch)) without_stream set.tiles in
      let ports = map (λ (place : PortPlace). first_port place.kind) set.topo.places in
      let locals = ap₂ (λ xs ys. xs ++ (ys ++ ports)) (sym tiles) (sym switches) in
      λ i. record { locals = locals i; wires = (start set).wires }

  -- what a processor waits for, and whether it is stopped
  wait_same : (s : MachineState) (p : ℕ) → first_wait set s p ≡ first_wait (without_misses set) s p
  wait_same s p = ap (λ net. first_wait_in net (inputs_at set.topo) (outputs_at set.topo) s p) machine_same

  waits_same : (s : MachineState) → waits_for set s ≡ waits_for (without_misses set) s
  waits_same s = fun_ext (λ p. ap (option_map (other_end set.topo p)) (wait_same s p))

  stopped_at_same : (p : ℕ) (here : Option Local) → is_stopped_at set p here ≡ is_stopped_at (without_misses set) p here
  stopped_at_same p None = refl
  stopped_at_same p (Some l) = stopped_same p l

  at_limit_same : (l : Local) → is_at_limit set l ≡ is_at_limit (without_misses set) l
  at_limit_same (Tile l) = refl
  at_limit_same _ = refl

  outcome_same : (s : MachineState) → outcome set s ≡ outcome (without_misses set) s
  unfolding outcome
  outcome_same s =
      let limits : is_at_limit set ≡ is_at_limit (without_misses set) = fun_ext at_limit_same in
      λ i. first_of
      (cycle_of_waits (waits_same s i) (proc_count set.topo))
      (position is_trapped s.locals)
      (position (limits i) s.locals)
      (position is_unhalted s.locals)

  -- its mark, and the line of its wait
  local_mark_same : (s : MachineState) (p : ℕ) (here : Option Local) → local_mark set s p here ≡ local_mark (without_misses set) s p here
  local_mark_same s p None = refl
  local_mark_same s p (Some (Tile l)) = ap (λ wait. program_mark set.limit wait l.mark l.count) (wait_same s p)
  local_mark_same s p (Some (Switch l)) = ap (λ wait. program_mark set.limit wait l.mark l.count) (wait_same s p)
  local_mark_same s p (Some (Source l)) =
      ap₂ (λ spent wait. if spent then codes "spent" else going_text wait) (stopped_at_same p (slice_get s.locals p)) (wait_same s p)
  local_mark_same s p (Some (Sink l)) =
      ap₂ (λ full wait. if full then codes "full" else going_text wait) (stopped_at_same p (slice_get s.locals p)) (wait_same s p)

  mark_same : (s : MachineState) (p : ℕ) → mark_of set s p ≡ mark_of (without_misses set) s p
  unfolding mark_of
  mark_same s p = local_mark_same s p (slice_get s.locals p)

  wait_line_same : (s : MachineState) (p : ℕ) → wait_line set s p ≡ wait_line (without_misses set) s p
  unfolding wait_line
  wait_line_same s p = ap (wait_line_of set p) (wait_same s p) ∙ wait_lines_same p (first_wait (without_misses set) s p)
    where
      wait_lines_same : (p : ℕ) (wait : Option ℕ) → wait_line_of set p wait ≡ wait_line_of (without_misses set) p wait
      wait_lines_same p None = refl
      wait_lines_same p (Some wire) = refl

-- what holds of a machine and its start holds of equal ones
carried : (P : Network Local → MachineState → Type 0) (n m : Network Local) (s t : MachineState) → n ≡ m → s ≡ t → P n s → P m t
carried P n m s t net state holds = subst (λ net. P net t) net (subst (λ state. P n state) state holds)

module _ (a b : ProgramSet) (alike : AreAlikeButMisses a b) where
  nets : machine_of a ≡ machine_of b
  nets = machine_same a ∙ ap machine_of alike ∙ sym (machine_same b)

  pub starts : start a ≡ start b
  starts = start_same a ∙ ap start alike ∙ sym (start_same b)

  module _ (steps : List ℕ) where
    abbrev IsRunOf : Network Local → MachineState → Type 0
    IsRunOf net s = IsLawfulList net s steps × IsQuietState net (end_of net s steps)

    lawful : IsLawful a steps ↔ IsLawful b steps
    lawful =
        let is = λ (net : Network Local) (s : MachineState). IsLawfulList net s steps in (
          carried is (machine_of a) (machine_of b) (start a) (start b) nets starts,
          carried is (machine_of b) (machine_of a) (start b) (start a) (sym nets) (sym starts),
        )

    runs : IsRun a steps ↔ IsRun b steps
    runs = (
      λ (run : IsRun a steps).
          let there = carried IsRunOf (machine_of a) (machine_of b) (start a) (start b) nets starts (run.lawful, run.quiet) in
          record { lawful = there.0; quiet = there.1 },
      λ (run : IsRun b steps).
          let there = carried IsRunOf (machine_of b) (machine_of a) (start b) (start a) (sym nets) (sym starts) (run.lawful, run.quiet) in
          record { lawful = there.0; quiet = there.1 },
    )

    pub run_alike : RunsTheSame a b steps
    run_alike =
        record {
          same_lawful = lawful;
          same_rest = runs;
          same_end = ap₂ (λ net s. end_of net s steps) nets starts;
          same_events = λ i. ap₂ (λ net s. slice_get (events net s steps) i) nets starts;
          same_passed = λ wire. ap₂ (λ net s. passed net s steps wire) nets starts;
          same_touches = λ tile. ap₂ (λ net s. touches net s steps tile) nets starts;
        }

  pub rest_alike : (s : MachineState) → RestsTheSame a b s
  rest_alike s =
      record {
        same_stopped = λ p. stopped_at_same a p (slice_get s.locals p) ∙ ap (λ set. stopped set s p) alike ∙ sym (stopped_at_same b p (slice_get s.locals p));
        same_first_wait = λ p. wait_same a s p ∙ ap (λ set. first_wait set s p) alike ∙ sym (wait_same b s p);
        same_waits_for = λ p. ap (λ waits. waits p) (waits_same a s ∙ ap (λ set. waits_for set s) alike ∙ sym (waits_same b s));
        same_outcome = outcome_same a s ∙ ap (λ set. outcome set s) alike ∙ sym (outcome_same b s);
        same_mark = λ p. mark_same a s p ∙ ap (λ set. mark_of set s p) alike ∙ sym (mark_same b s p);
        same_wait_line = λ p. wait_line_same a s p ∙ ap (λ set. wait_line set s p) alike ∙ sym (wait_line_same b s p);
      }
