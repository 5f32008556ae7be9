use Rattle.std.proofs.Common.{◌≡◌, ◌<◌, ◌++◌, List, get_or, sym, ap, subst, ◌∙◌, arith}
use Rattle.std.specs.List.{filter_map, range_with_len}
use Rattle.std.specs.Option.{option_to_list}
use Rattle.raw_model.specs.declared.program.Show.{Show}
use Rattle.raw_route.specs.Planned.{show_first, show_of}
use Rattle.raw_route.proofs.HaulParts.{tiles_are, count_at}
use Rattle.raw_route.proofs.Plans.{option_more}
use Rattle.raw_route.proofs.planning.shows.Goals as goal

pub loop-tile-preserved : goal.loop-tile-preserved
loop-tile-preserved c = λ n xs are.
    let tile = c.loop-tile.tile in
    let within : tile < n = subst (λ m. tile < m) (tiles_are n c.args.counts.now xs are) c.loop-tile-test.true in
    c.in_ok-push_show.ensures
    ∙ ap (λ (ys : List Show). ys ++ option_to_list (show_first tile (get_or c.args.counts.now tile 0))) (c.loop-tile.invariant n xs are)
    ∙ ap (λ k. filter_map (show_of xs) (range_with_len 0 tile) ++ option_to_list (show_first tile k)) (count_at n c.args.counts.now xs tile 0 are within)
    ∙ sym (option_more (show_of xs) tile)

pub returns : goal.returns
returns c = λ n xs are.
    let same : c.loop-tile.tile ≡ n = let a = c.loop-tile.auto.tile-end in let b = c.loop-tile-test.false in let d = tiles_are n c.args.counts.now xs are in omega arith in
    c.loop-tile.invariant n xs are ∙ ap (λ k. filter_map (show_of xs) (range_with_len 0 k)) same
