-- Two sets that differ in miss streams alone have reports that differ in turns alone.
use Rattle.std.proofs.Common.{◌≡◌, ℕ, ◌+◌, ◌*◌, Option, Some, List, [], ◌∷◌, ◌++◌, map, length, refl, sym, ap, ap₂, ◌∙◌}
use Rattle.std.specs.Prelude.{slice_get, slice_index, codes}
use Rattle.std.specs.List.{flat_map, enumerate_from}
use Rattle.std.proofs.Math.Path.{fun_ext}
use Rattle.raw_grid.specs.declared.parts.PortPlace.{PortPlace}
use Rattle.raw_grid.specs.Topology.{tile_count, proc_count}
use Rattle.raw_grid.specs.Wires.{tiles_of}
use Rattle.raw_cycle.specs.Chains.{chain_from, last_of, chain_after}
use Rattle.raw_model.specs.Program.{ProgramSet, TileProgram}
use Rattle.raw_model.specs.Local.{Local, Tile, Switch, Source, Sink}
use Rattle.raw_model.specs.Start.{MachineState, start}
use Rattle.raw_model.specs.Rest.{end}
use Rattle.raw_model.specs.Waits.{waits_for}
use Rattle.raw_model.specs.Cache.{misses, touches_of, turns, stream_of}
use Rattle.raw_model.specs.MissStreams.{without_stream, without_misses, AreAlikeButMisses, RunsTheSame, RestsTheSame}
use Rattle.raw_model.specs.Outcomes.{Outcome, outcome}
use Rattle.raw_model.specs.Outcomes.Outcome.{Done, Deadlock, Trapped, Limit, Stuck}
use Rattle.raw_model.specs.StateTexts.{mark_of, wait_line, registers_line}
use Rattle.raw_report.specs.Lines.{deadlock_head, ends_line, source_line, sink_head, tile_head, switch_line}
use Rattle.raw_report.specs.Report.{outcome_lines, word_lines, port_lines_of, port_lines, tile_lines_of, tile_lines, show_lines, switch_line_of, switch_lines, wire_lines, stall_lines, report_of, missed_by, report}
use Rattle.raw_owed.specs.MissStreams.{lines_of_stalls, AreEqualButTurns, EachMissStreamOnlyDelays}

without_twice : (tiles : List TileProgram) → map without_stream tiles ≡ map without_stream (map without_stream tiles)
without_twice [] = refl
without_twice (tile ∷ tiles) = ap (λ more. without_stream tile ∷ more) (without_twice tiles)

-- a set is equal to one without miss streams but for these
alike_without : (set : ProgramSet) → AreAlikeButMisses set (without_misses set)
alike_without set = λ i. record set { tiles = without_twice set.tiles i }

module _ (set : ProgramSet) (rests : (s : MachineState) → RestsTheSame set (without_misses set) s) where
  mark_same : (s : MachineState) (p : ℕ) → mark_of set s p ≡ mark_of (without_misses set) s p
  mark_same s p = (rests s).same_mark p

  wait_line_same : (s : MachineState) (p : ℕ) → wait_line set s p ≡ wait_line (without_misses set) s p
  wait_line_same s p = (rests s).same_wait_line p

  waits_same : (s : MachineState) → waits_for set s ≡ waits_for (without_misses set) s
  waits_same s = fun_ext (λ p. (rests s).same_waits_for p)

  -- the parts of a report
  outcome_lines_same : (s : MachineState) (how : Outcome) → outcome_lines set s how ≡ outcome_lines (without_misses set) s how
  unfolding outcome_lines
  outcome_lines_same s Done = refl
  outcome_lines_same s (Deadlock p ps) =
      let lines : wait_line set s ≡ wait_line (without_misses set) s = fun_ext (wait_line_same s) in
      ap (λ line. deadlock_head (length ps + 1) ++ flat_map line (p ∷ ps)) lines
  outcome_lines_same s (Trapped p) = refl
  outcome_lines_same s (Limit p) = refl
  outcome_lines_same s (Stuck p) =
      let lines : wait_line set s ≡ wait_line (without_misses set) s = fun_ext (wait_line_same s) in
      let marks : mark_of set s ≡ mark_of (without_misses set) s = fun_ext (mark_same s) in
      let waits = waits_same s in
      let count = proc_count set.topo in
      λ i. codes "outcome stuck\n" ++ flat_map (lines i) (chain_from (waits i) count p)
      ++ ends_line (last_of p (chain_after (waits i) count p)) (marks i (last_of p (chain_after (waits i) count p)))

  port_same : (s : MachineState) (p : ℕ) (place : PortPlace) (here : Option Local)
      → port_lines_of set s p place here ≡ port_lines_of (without_misses set) s p place here
  port_same s p place (Some (Source l)) = ap (λ mark. source_line place mark l.done) (mark_same s p)
  port_same s p place (Some (Sink l)) = ap (λ mark. sink_head place mark l.done ++ word_lines l.got) (mark_same s p)
  port_same s p place _ = refl

  ports_same : (s : MachineState) → port_lines set s ≡ port_lines (without_misses set) s
  unfolding port_lines
  ports_same s =
      ap (λ (text : ℕ × PortPlace → List ℕ). flat_map text (enumerate_from (2 * tile_count set.topo) set.topo.places))
      (fun_ext (λ port. port_same s port.0 port.1 (slice_get s.locals port.0)))

  tile_same : (s : MachineState) (tile : ℕ) (here : Option Local) → tile_lines_of set s tile here ≡ tile_lines_of (without_misses set) s tile here
  tile_same s tile (Some (Tile l)) =
      ap (λ mark. tile_head set.topo tile mark l ++ registers_line l.regs 0 ++ registers_line l.regs 8 ++ registers_line l.regs 16 ++ registers_line l.regs 24)
      (mark_same s tile)
  tile_same s tile _ = refl

  tiles_same : (s : MachineState) → tile_lines set s ≡ tile_lines (without_misses set) s
  unfolding tile_lines
  tiles_same s = ap (λ (text : ℕ → List ℕ). flat_map text (tiles_of set.topo)) (fun_ext (λ tile. tile_same s tile (slice_get s.locals tile)))

  shows_same : (s : MachineState) → show_lines set s ≡ show_lines (without_misses set) s
  unfolding show_lines
  shows_same s = refl

  switch_same : (s : MachineState) (tile : ℕ) (here : Option Local) → switch_line_of set s tile here ≡ switch_line_of (without_misses set) s tile here
  switch_same s tile (Some (Switch l)) = ap (λ mark. switch_line set.topo tile mark l) (mark_same s (tile_count set.topo + tile))
  switch_same s tile _ = refl

  switch_lines_same : (s : MachineState) → switch_lines set s ≡ switch_lines (without_misses set) s
  unfolding switch_lines
  switch_lines_same s =
      ap (λ (text : ℕ → List ℕ). flat_map text (tiles_of set.topo))
      (fun_ext (λ tile. switch_same s tile (slice_get s.locals (tile_count set.topo + tile))))

  wires_same : (s : MachineState) → wire_lines set s ≡ wire_lines (without_misses set) s
  unfolding wire_lines
  wires_same s = refl

-- a report before the stall lines
abbrev front_of : ProgramSet → MachineState → List ℕ
front_of set s =
    outcome_lines set s (outcome set s) ++ port_lines set s ++ tile_lines set s ++ show_lines set s ++ switch_lines set s ++ wire_lines set s

front_same : (set : ProgramSet) → ((s : MachineState) → RestsTheSame set (without_misses set) s) → (s : MachineState)
    → front_of set s ≡ front_of (without_misses set) s
front_same set rests s =
    let head = ap (outcome_lines set s) (rests s).same_outcome ∙ outcome_lines_same set rests s (outcome (without_misses set) s) in
    λ i. head i ++ ports_same set rests s i ++ tiles_same set rests s i ++ shows_same set rests s i ++ switch_lines_same set rests s i ++ wires_same set rests s i

-- the turns that a tile waited
abbrev turns_of : ProgramSet → List ℕ → ℕ → ℕ
turns_of set steps tile = turns (stream_of set tile) (slice_index (missed_by set steps) tile)

report_is : (set : ProgramSet) (steps : List ℕ)
    → report set steps ≡ front_of set (end set steps) ++ lines_of_stalls set.topo (slice_index (missed_by set steps)) (turns_of set steps)
unfolding report report_of stall_lines
report_is set steps = refl

module _ (a b : ProgramSet) (steps : List ℕ) (alike : AreAlikeButMisses a b) (runs : RunsTheSame a b steps)
    (each : (set : ProgramSet) (s : MachineState) → RestsTheSame set (without_misses set) s) where
  topos : a.topo ≡ b.topo
  topos = ap (λ (set : ProgramSet). set.topo) alike

  missed_alike : missed_by a steps ≡ missed_by b steps
  missed_alike =
      let touched : touches_of a (start a) steps ≡ touches_of b (start b) steps = fun_ext runs.same_touches in
      λ i. map (λ tile. misses (touched i tile)) (tiles_of (topos i))

  fronts_alike : front_of a (end a steps) ≡ front_of b (end b steps)
  fronts_alike =
      front_same a (each a) (end a steps) ∙ ap₂ front_of alike runs.same_end ∙ sym (front_same b (each b) (end b steps))

  reports : AreEqualButTurns a.topo (report a steps) (report b steps)
  reports =
      record {
        front = front_of a (end a steps);
        missed = slice_index (missed_by a steps);
        first_turns = turns_of a steps;
        second_turns = turns_of b steps;
        first_text = report_is a steps;
        second_text =
            report_is b steps
            ∙ sym (λ i. fronts_alike i ++ lines_of_stalls (topos i) (slice_index (missed_alike i)) (turns_of b steps));
      }

-- each list does the same in both, by what is so of machines
pub each_only_delays : ((a b : ProgramSet) (steps : List ℕ) → AreAlikeButMisses a b → RunsTheSame a b steps)
    → ((a b : ProgramSet) (s : MachineState) → AreAlikeButMisses a b → RestsTheSame a b s) → EachMissStreamOnlyDelays
each_only_delays runs rests a b steps alike =
    let own = runs a b steps alike in
    record { runs = own; reports = reports a b steps alike own (λ set s. rests set (without_misses set) s (alike_without set)) }
