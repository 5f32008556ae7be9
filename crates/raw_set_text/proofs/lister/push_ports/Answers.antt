use Rattle.std.proofs.Common.{◌∷◌, [], ◌++◌, ◌+◌, ◌<◌, ◌∙◌, length, drop, map, sym, ap, arith}
use Rattle.std.specs.Prelude.{string_bytes}
use Rattle.std.proofs.lemmas.Option.{get_or_from_slice_get}
use Rattle.raw_model.specs.Program.{PortProgram}
use Rattle.raw_text.specs.Lines.{written_lines}
use Rattle.raw_set_text.specs.Listing.{port_line, port_line_of, paired}
use Rattle.raw_set_text.proofs.Listed.Text.{port_line_next, port_lines_done}
use Rattle.raw_set_text.proofs.lister.push_ports.Goals as goal

pub loop-i-preserved : goal.loop-i-preserved
loop-i-preserved c =
    let places = c.args.topo.now.places in
    let ports = c.args.ports.now in
    let i = c.loop-i.i in
    let place = c.place_of.result in
    let port = c.index-ports-i.result in
    let capacity = ap (λ (p : PortProgram). p.capacity) c.port.view_is in
    let in_places : i < length places = omega (arith, c.ports-i-end.ensures) in
    let in_ports : i < length ports = omega (arith, c.requires) in
    ap (λ t. t ++ written_lines (map port_line (paired (drop (i + 1) places) (drop (i + 1) ports)))) (c.in_ok-push_port.ensures ∙ ap (λ capacity. string_bytes c.loop-i.text ++ (port_line_of place.kind place capacity ++ 10 ∷ [])) capacity)
    ∙ port_line_next places ports i place place port port in_places (sym (get_or_from_slice_get places i place place c.place_of.ensures)) in_ports c.index-ports-i.is (string_bytes c.loop-i.text) port_line
    ∙ c.loop-i.invariant

pub returns : goal.returns
returns c =
    sym (port_lines_done port_line c.args.topo.now.places c.args.ports.now c.loop-i.i (string_bytes c.loop-i.text) (omega (arith, c.ports-i-end.ensures))) ∙ c.loop-i.invariant
