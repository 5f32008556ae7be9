-- The lines of a processor, by its local state.
use Rattle.std.proofs.Common.{◌≡◌, ℕ, ◌+◌, List, [], ◌++◌, Some, sym, ap, ◌∙◌, append_assoc, append-nil}
use Rattle.std.specs.Prelude.{slice_get}
use Rattle.raw_grid.specs.declared.parts.PortPlace.{PortPlace}
use Rattle.raw_grid.specs.Topology.{tile_count}
use Rattle.raw_model.specs.Program.{ProgramSet}
use Rattle.raw_model.specs.Local.{Tile, Switch, Source, Sink, TileLocal, SwitchLocal, PortLocal}
use Rattle.raw_model.specs.Start.{MachineState}
use Rattle.raw_model.specs.StateTexts.{mark_of, registers_line}
use Rattle.raw_report.specs.Lines.{tile_head, switch_line, source_line, sink_head}
use Rattle.raw_report.specs.Report.{tile_lines_of, switch_line_of, port_lines_of, word_lines}

module _ (set : ProgramSet) (s : MachineState) (p : ℕ) where
  pub tile_is : (l : TileLocal) → slice_get s.locals p ≡ Some (Tile l)
      → tile_lines_of set s p (slice_get s.locals p)
      ≡ tile_head set.topo p (mark_of set s p) l ++ registers_line l.regs 0 ++ registers_line l.regs 8 ++ registers_line l.regs 16 ++ registers_line l.regs 24
  tile_is l is = ap (tile_lines_of set s p) is

  pub source_is : (place : PortPlace) (l : PortLocal) → slice_get s.locals p ≡ Some (Source l)
      → port_lines_of set s p place (slice_get s.locals p) ≡ source_line place (mark_of set s p) l.done
  source_is place l is = ap (port_lines_of set s p place) is

  pub sink_is : (place : PortPlace) (l : PortLocal) → slice_get s.locals p ≡ Some (Sink l)
      → port_lines_of set s p place (slice_get s.locals p) ≡ sink_head place (mark_of set s p) l.done ++ word_lines l.got
  sink_is place l is = ap (port_lines_of set s p place) is

pub switch_is : (set : ProgramSet) (s : MachineState) (t : ℕ) (l : SwitchLocal) → slice_get s.locals (tile_count set.topo + t) ≡ Some (Switch l)
    → switch_line_of set s t (slice_get s.locals (tile_count set.topo + t)) ≡ switch_line set.topo t (mark_of set s (tile_count set.topo + t)) l
switch_is set s t l is = ap (switch_line_of set s t) is

-- five pieces, one after another
pub five : (a b c d e : List ℕ) → a ++ (b ++ (c ++ (d ++ (e ++ [])))) ≡ a ++ b ++ c ++ d ++ e
five a b c d e =
    ap (λ z. a ++ (b ++ (c ++ (d ++ z)))) (append-nil e)
    ∙ sym (append_assoc (a ++ b ++ c) d e ∙ append_assoc (a ++ b) c (d ++ e) ∙ append_assoc a b (c ++ (d ++ e)))
