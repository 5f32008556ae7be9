use Rattle.std.proofs.Common.{refl}
use Rattle.raw_set_text.specs.Entry.Entry.{Data}
use Rattle.raw_set_text.proofs.Building.PortsKeep.{ports_keep}
use Rattle.raw_set_text.proofs.Building.Entries.{plain_next, on_ok_map, off_adds, there_fault}
use Rattle.raw_set_text.proofs.builder.Builder.add_data.Goals as goal

pub returns-in_err-number : goal.returns-in_err-number
returns-in_err-number c =
    off_adds c.args.self.now (Data c.args.tile c.args.address c.args.words.now) c.args.tile c.from_residual.result c.in_err-number.field-0.0 refl refl c.from_residual.ensures.1 (λ entries stands. c.in_err-number.ensures.numbered entries stands)

pub returns : goal.returns
returns c =
    let entry = Data c.args.tile c.args.address c.args.words.now in
    record {
      fault = λ entries stands.
          let at = c.in_ok-number.ensures.numbered entries stands in
          rw (there_fault entries entry refl at.0 refl refl refl) (c.add_data.ensures.fault entries c.args.tile stands.tiles at.1);
      stands = λ entries stands.
          let at = c.in_ok-number.ensures.numbered entries stands in
          on_ok_map c.add_data.result (c.add_data.ensures.stands entries c.args.tile stands.tiles at.1)
          (λ tiles. plain_next c.args.self.now _ entries entry stands (ports_keep c.args.self.now.ports entries entry refl refl (λ _. refl) refl refl refl stands.ports) tiles
          (record { limit = refl; depth = refl; show = λ _. refl; count = refl; shown = refl }) (record { limit = refl; depth = refl; shows = refl; shown = refl }));
    }
