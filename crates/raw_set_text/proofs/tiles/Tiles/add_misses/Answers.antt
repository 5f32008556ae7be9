use Rattle.std.proofs.Common.{refl, sym, ◌∙◌, add-zero}
use Rattle.raw_set_text.proofs.Building.TilesFaults.{sum_some}
use Rattle.raw_set_text.proofs.Building.TilesGiven.{misses_stand}
use Rattle.raw_set_text.proofs.tiles.Tiles.add_misses.Goals as goal

pub returns-clause-stands : goal.returns-clause-stands
returns-clause-stands c = λ entries at stands e.
    misses_stand c.args.self.now _ entries at c.args.turns.now c.args.tile _ c.add_misses.new.self stands e c.requires.there c.index_mut.ensures.value refl c.in_ok-add_misses.ensures
    (record {
      cells = sym (add-zero _);
      turns = (sum_some _ _ _ _ (sym c.total_within.ensures ∙ c.in-Some.is)).1;
      instructions = sym (add-zero _);
      routed = sym (add-zero _);
    })
