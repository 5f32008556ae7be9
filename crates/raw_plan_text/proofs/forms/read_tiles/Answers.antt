use Rattle.std.proofs.Common.{◌≡◌, ◌+◌, [], Some, get_or, drop, sym, ap, ap₂, ◌∙◌, arith}
use Rattle.raw_asm.specs.Tokens.{tokens_of}
use Rattle.raw_plan_text.specs.Forms.{tile_of, tiles_of}
use Rattle.raw_plan_text.proofs.Pairs.{and_then, tiles_next, tiles_odd}
use Rattle.raw_plan_text.proofs.forms.read_tiles.Goals as goal

pub returns-then-place-len : goal.returns-then-place-len
returns-then-place-len c = sym (c.loop-place.invariant.read ∙ tiles_odd (tokens_of c.args.tokens.now) c.loop-place.place c.loop-place.tiles.items (omega arith))

pub loop-place-preserved : goal.loop-place-preserved
loop-place-preserved c =
    let tokens = tokens_of c.args.tokens.now in
    let place = c.loop-place.place in
    let tile : tile_of (get_or tokens place []) (get_or tokens (place + 1) []) ≡ Some c.in-Some.tile =
    ap₂ tile_of (sym c.at.ensures) (sym c.at-in-loop-place.ensures) ∙ sym c.read_tile.ensures ∙ c.in-Some.is in
    record {
      within = omega arith;
      read = c.loop-place.invariant.read ∙ tiles_next tokens place c.loop-place.tiles.items c.in-Some.tile (omega arith) tile
          ∙ ap (λ done. and_then done (tiles_of (drop (place + 2) tokens))) (sym c.in_ok-push-in-Some.ensures.items);
    }
