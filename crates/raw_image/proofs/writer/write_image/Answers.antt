use Rattle.std.proofs.Common.{◌≡◌, ◌++◌, subst, ap, ◌∙◌}
use Rattle.std.specs.List.{flat_map}
use Rattle.raw_model.specs.Program.{ProgramSet}
use Rattle.raw_image.specs.declared.version.Version.TheVariants as version
use Rattle.raw_image.specs.Image.{head_bytes, ports_bytes, tile_bytes, show_bytes, counted, image, image_in}
use Rattle.raw_image.proofs.Appends.{four}
use Rattle.raw_image.proofs.writer.write_image.Goals as goal

pub returns : goal.returns
unfolding image_in
returns c =
    let s = c.set.inside in
    let o0 = c.new-out.result.items in
    let o1 = c.push_head.new.out.items in
    let o2 = c.push_ports.new.out.items in
    let o3 = c.push_tiles.new.out.items in
    let o4 = c.push_shows.new.out.items in
    let h1 = c.in_ok-push_head.ensures ∙ ap (λ n. o0 ++ head_bytes version.Two n c.rows.result s.depth s.limit) c.cols.ensures.value ∙ ap (λ n. o0 ++ head_bytes version.Two s.topo.cols n s.depth s.limit) c.rows.ensures.value in
    let h2 = c.in_ok-push_ports.ensures ∙ ap (λ ports. o1 ++ ports_bytes s.topo.places ports) c.deref.ensures.value in
    let h3 = c.in_ok-push_tiles.ensures ∙ ap (λ tiles. o2 ++ flat_map (tile_bytes version.Two) tiles) c.deref-2.ensures.value in
    let h4 = c.in_ok-push_shows.ensures ∙ ap (λ shows. o3 ++ counted show_bytes shows) c.deref-3.ensures.value in
    subst (λ (set : ProgramSet). o4 ≡ image set) c.set.view_is
    (four o0 (head_bytes version.Two s.topo.cols s.topo.rows s.depth s.limit) (ports_bytes s.topo.places s.ports.items) (flat_map (tile_bytes version.Two) s.tiles.items) (counted show_bytes s.shows.items) o1 o2 o3 o4
    c.new-out.ensures.items h1 h2 h3 h4)
