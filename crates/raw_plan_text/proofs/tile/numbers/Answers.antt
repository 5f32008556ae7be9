use Rattle.std.proofs.Common.{◌≡◌, ◌++◌, ◌∷◌, ◌+◌, [], true, false, map, drop, refl, sym, ap, ◌∙◌, append_assoc, arith}
use Rattle.raw_grid.specs.Topology.{without_ports}
use Rattle.raw_route.specs.Planned.{is_among}
use Rattle.raw_route.specs.Refusals.{has_twice}
use Rattle.raw_plan_text.specs.Faults.{number_in}
use Rattle.raw_plan_text.proofs.Twice.{once_more, twice_there}
use Rattle.raw_plan_text.proofs.Insides.{number_first}
use Rattle.raw_plan_text.proofs.tile.numbers.Goals as goal

pub returns-then-is_among : goal.returns-then-is_among
returns-then-is_among c =
    let f = number_in (without_ports c.args.cols c.args.rows) in
    let tiles = c.args.tiles.now in
    let i = c.loop-tile.tile-index in
    let items = c.loop-tile.numbers.items in
    let x = c.tile_number-number.result in
    let rest = map f (drop (i + 1) tiles) in
    let next : map f (drop i tiles) ≡ x ∷ rest = number_first f tiles i (record { x = 0; y = 0 }) (omega arith) ∙ ap (λ n. n ∷ rest) (sym c.tile_number-number.ensures) in
    let there : is_among items x ≡ true = ap (λ xs. is_among xs x) (sym c.deref.ensures.value) ∙ sym c.is_among.ensures ∙ c.if-is_among.true in
    let twice : has_twice (map f tiles) ≡ true = ap has_twice (c.loop-tile.invariant.whole ∙ ap (λ more. items ++ more) next) ∙ twice_there items x rest there in
    rw twice refl

pub loop-tile-preserved : goal.loop-tile-preserved
loop-tile-preserved c =
    let f = number_in (without_ports c.args.cols c.args.rows) in
    let tiles = c.args.tiles.now in
    let i = c.loop-tile.tile-index in
    let items = c.loop-tile.numbers.items in
    let x = c.tile_number-number.result in
    let rest = map f (drop (i + 1) tiles) in
    let next : map f (drop i tiles) ≡ x ∷ rest = number_first f tiles i (record { x = 0; y = 0 }) (omega arith) ∙ ap (λ n. n ∷ rest) (sym c.tile_number-number.ensures) in
    let other : is_among items x ≡ false = ap (λ xs. is_among xs x) (sym c.deref.ensures.value) ∙ sym c.is_among.ensures ∙ c.if-is_among.false in
    let items_are = c.in_ok-push.ensures.items in
    record {
      whole = c.loop-tile.invariant.whole ∙ ap (λ more. items ++ more) next ∙ sym (append_assoc items (x ∷ []) rest) ∙ ap (λ xs. xs ++ rest) (sym items_are);
      once = ap has_twice items_are ∙ once_more items x c.loop-tile.invariant.once other;
    }
