use Rattle.std.proofs.Common.{refl, sym, ap, subst, ◌∙◌, ◌+◌, ◌*◌, inl, inr, ◌⊎◌, ◌≤◌, Ok}
use Rattle.raw_set_text.proofs.builder.Builder.tile_number.Goals.{then-tile-columns-via-then-tile-columns, then-tile-columns-via-else-tile-columns+then-tile-rows}
use Rattle.raw_set_text.specs.Reading.{IsNumbered}
use Rattle.raw_set_text.proofs.Building.Entries.{tile_numbered, tile_off}
use Rattle.raw_set_text.proofs.builder.Builder.tile_number.Goals as goal

pub returns-then-tile-columns-clause-numbered : goal.returns-then-tile-columns-clause-numbered
returns-then-tile-columns-clause-numbered c entries stands =
    let past : (c.from-columns.result ≤ c.args.tile.x) ⊎ (c.from-rows.result ≤ c.args.tile.y) = elim c.then-tile-columns.branch [
      | then-tile-columns-via-then-tile-columns w ↦ inl w.if-tile-columns.true
      | then-tile-columns-via-else-tile-columns+then-tile-rows w ↦ inr w.if-tile-rows.true
    ] in
    (tile_off c.args.self.now entries c.args.tile c.from-columns.result c.from-rows.result stands (c.from-columns.ensures ∙ c.cols.ensures.value) (c.from-rows.ensures ∙ c.rows.ensures.value) past, refl)

pub returns-clause-numbered : goal.returns-clause-numbered
returns-clause-numbered c entries stands =
    subst (λ t. IsNumbered entries c.args.tile (Ok t)) (sym (c.tile_at.ensures.value ∙ ap (λ n. c.args.tile.y * n + c.args.tile.x) (sym (c.from-columns.ensures ∙ c.cols.ensures.value))))
    (tile_numbered c.args.self.now entries c.args.tile c.from-columns.result c.from-rows.result stands (c.from-columns.ensures ∙ c.cols.ensures.value) (c.from-rows.ensures ∙ c.rows.ensures.value) c.if-tile-columns.false c.if-tile-rows.false)
