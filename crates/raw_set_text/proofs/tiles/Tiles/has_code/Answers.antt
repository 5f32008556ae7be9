use Rattle.std.proofs.Common.{sym, ◌∙◌}
use Rattle.raw_set_text.proofs.Building.TilesFaults.{code_given, no_code}
use Rattle.raw_set_text.proofs.tiles.Tiles.has_code.Goals as goal

pub returns-clause-repeated : goal.returns-clause-repeated
returns-clause-repeated c = λ entries at code stands e. c.is_some.ensures ∙ code_given _ entries at _ _ stands e c.requires c.index.ensures

pub returns-clause-free : goal.returns-clause-free
returns-clause-free c = λ none. no_code c.args.self.now _ _ c.requires c.index.ensures (sym c.is_some.ensures ∙ none)
