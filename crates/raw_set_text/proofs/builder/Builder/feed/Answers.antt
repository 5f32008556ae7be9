use Rattle.std.proofs.Common.{refl}
use Rattle.raw_set_text.specs.Entry.{place_of}
use Rattle.raw_set_text.specs.Entry.Entry.{Feed}
use Rattle.raw_grid.specs.declared.parts.PortKind.TheVariants as kind
use Rattle.raw_set_text.proofs.Building.TilesKeep.{tiles_keep}
use Rattle.raw_set_text.proofs.Building.Entries.{plain_next, on_ok_map}
use Rattle.raw_set_text.proofs.builder.Builder.feed.Goals as goal

pub returns : goal.returns
returns c = record {
  fault = λ entries stands. c.feed.ensures.fault entries stands.ports;
  stands = λ entries stands. on_ok_map c.feed.result (c.feed.ensures.stands entries stands.ports)
      (λ ports. plain_next c.args.self.now _ entries (Feed (place_of kind.Source c.args.edge) c.args.words.now) stands ports
      (tiles_keep c.args.self.now.tiles entries (Feed (place_of kind.Source c.args.edge) c.args.words.now) (λ _ _. refl) (λ _ _. refl) (λ _ _ _. refl) (λ _ _. refl) refl refl refl refl stands.tiles)
      (record { limit = refl; depth = refl; show = λ _. refl; count = refl; shown = refl }) (record { limit = refl; depth = refl; shows = refl; shown = refl }));
}
