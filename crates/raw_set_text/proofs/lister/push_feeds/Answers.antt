use Rattle.std.proofs.Common.{◌≡◌, ◌++◌, ◌+◌, ◌<◌, ◌∙◌, length, drop, sym, ap, arith}
use Rattle.std.specs.Prelude.{string_bytes}
use Rattle.std.specs.List.{flat_map}
use Rattle.std.proofs.lemmas.Option.{get_or_from_slice_get}
use Rattle.raw_model.specs.Program.{PortProgram}
use Rattle.raw_text.specs.Lines.{written_lines}
use Rattle.raw_set_text.specs.Listing.{feed_lines, words_lines, paired}
use Rattle.raw_set_text.proofs.Listed.Text.{port_group_next, port_groups_done}
use Rattle.raw_set_text.proofs.lister.push_feeds.Goals as goal

pub loop-i-preserved : goal.loop-i-preserved
loop-i-preserved c =
    let places = c.args.topo.now.places in
    let ports = c.args.ports.now in
    let i = c.loop-i.i in
    let place = c.place_of.result in
    let port = c.index-ports-i.result in
    let in_places : i < length places = omega (arith, c.ports-i-end.ensures) in
    let in_ports : i < length ports = omega (arith, c.requires) in
    let written : string_bytes c.push_feed.new.text ≡ string_bytes c.loop-i.text ++ written_lines (feed_lines (place, port)) =
    c.in_ok-push_feed.ensures ∙ ap (λ words. string_bytes c.loop-i.text ++ written_lines (words_lines place words)) (c.deref.ensures.value ∙ ap (λ (p : PortProgram). p.words) c.port.view_is) in
    ap (λ t. t ++ written_lines (flat_map feed_lines (paired (drop (i + 1) places) (drop (i + 1) ports)))) written
    ∙ port_group_next places ports i place place port port in_places (sym (get_or_from_slice_get places i place place c.place_of.ensures)) in_ports c.index-ports-i.is (string_bytes c.loop-i.text) feed_lines
    ∙ c.loop-i.invariant

pub returns : goal.returns
returns c =
    sym (port_groups_done feed_lines c.args.topo.now.places c.args.ports.now c.loop-i.i (string_bytes c.loop-i.text) (omega (arith, c.ports-i-end.ensures))) ∙ c.loop-i.invariant
