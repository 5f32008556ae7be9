use Rattle.std.proofs.Common.{◌≡◌, ◌++◌, ◌∙◌, [], map, ap, subst}
use Rattle.std.specs.Prelude.{string_bytes}
use Rattle.std.specs.List.{flat_map, enumerate_from}
use Rattle.raw_text.specs.Lines.{written_lines}
use Rattle.raw_model.specs.Program.{ProgramSet}
use Rattle.raw_set_text.specs.Listing.{first_lines, depth_lines, port_line, feed_lines, memory_lines, show_line, paired, front_lines}
use Rattle.raw_set_text.proofs.Listed.Text.{six_parts}
use Rattle.raw_set_text.proofs.lister.front.Goals as goal

pub returns : goal.returns
returns c =
    let set = c.set.inside in
    let topo = set.topo in
    let places = topo.places in
    let t1 = string_bytes c.push_first.new.text in
    let t2 = string_bytes c.push_depth.new.text in
    let t3 = string_bytes c.push_ports.new.text in
    let t4 = string_bytes c.push_feeds.new.text in
    let t5 = string_bytes c.push_memories.new.text in
    let t6 = string_bytes c.push_shows.new.text in
    let first = first_lines topo set.limit in
    let depth = depth_lines set.depth in
    let ports = map port_line (paired places set.ports.items) in
    let feeds = flat_map feed_lines (paired places set.ports.items) in
    let memories = flat_map (memory_lines topo.cols) (enumerate_from 0 set.tiles.items) in
    let shows = map (show_line topo.cols) set.shows.items in
    let one : t1 ≡ [] ++ written_lines first = c.in_ok-push_first.ensures ∙ ap (λ t. t ++ written_lines first) c.new-text.ensures.bytes in
    let three : t3 ≡ t2 ++ written_lines ports = c.in_ok-push_ports.ensures ∙ ap (λ xs. t2 ++ written_lines (map port_line (paired places xs))) c.deref.ensures.value in
    let four : t4 ≡ t3 ++ written_lines feeds = c.in_ok-push_feeds.ensures ∙ ap (λ xs. t3 ++ written_lines (flat_map feed_lines (paired places xs))) c.deref-2.ensures.value in
    let five : t5 ≡ t4 ++ written_lines memories =
    c.in_ok-push_memories.ensures ∙ ap (λ xs. t4 ++ written_lines (flat_map (memory_lines topo.cols) (enumerate_from 0 xs))) c.deref-3.ensures.value in
    let six : t6 ≡ t5 ++ written_lines shows =
    c.in_ok-push_shows.ensures ∙ ap (λ xs. t5 ++ written_lines (map (show_line topo.cols) xs)) c.deref-4.ensures.value in
    subst (λ (s : ProgramSet). t6 ≡ written_lines (front_lines s)) c.set.view_is
    (six_parts first depth ports feeds memories shows t1 t2 t3 t4 t5 t6 one c.in_ok-push_depth.ensures three four five six)
