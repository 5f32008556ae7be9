use Rattle.std.proofs.Common.{rules, refl, sym, ◌∙◌, ◌⊎◌, ◌≤◌, ◌<◌}
use Rattle.raw_model.specs.declared.limits.TheConstants.{MAX_DEPTH}
use Rattle.raw_set_text.specs.Entry.Entry.{Depth}
use Rattle.raw_set_text.specs.declared.kind.SetKind.TheVariants.{Repeated, OverLimit}
use Rattle.raw_set_text.proofs.Building.PortsKeep.{ports_keep}
use Rattle.raw_set_text.proofs.Building.TilesLists.{no_value}
use Rattle.raw_set_text.proofs.Building.TilesKeep.{tiles_keep}
use Rattle.raw_set_text.proofs.Building.Entries.{refused_adds, depth_fault, depth_next, within_both, not_within}
use Rattle.raw_set_text.proofs.builder.Builder.set_depth.Goals as goal

pub returns-then-is_some : goal.returns-then-is_some
returns-then-is_some c =
    refused_adds c.args.self.now c.args.self.now (Depth c.args.depth) Repeated
    (λ entries stands. depth_fault c.args.self.now entries c.args.depth stands ∙ rw (sym c.is_some.ensures ∙ c.if-is_some.true))

pub returns-then-not-contains : goal.returns-then-not-contains
returns-then-not-contains c =
    let outside : (c.args.depth < 1) ⊎ (MAX_DEPTH < c.args.depth) = search rules in
    refused_adds c.args.self.now c.args.self.now (Depth c.args.depth) OverLimit
    (λ entries stands. depth_fault c.args.self.now entries c.args.depth stands ∙ rw (sym c.is_some.ensures ∙ c.if-is_some.false, not_within 1 MAX_DEPTH c.args.depth outside))

pub returns : goal.returns
returns c =
    let bounds : (1 ≤ c.args.depth) × (c.args.depth ≤ MAX_DEPTH) = search rules in
    let inside = within_both 1 MAX_DEPTH c.args.depth bounds.0 bounds.1 in
    let none = no_value c.args.self.now.depth (sym c.is_some.ensures ∙ c.if-is_some.false) in
    record {
      fault = λ entries stands. depth_fault c.args.self.now entries c.args.depth stands ∙ rw (sym c.is_some.ensures ∙ c.if-is_some.false, inside);
      stands = λ entries stands.
          depth_next c.args.self.now _ entries c.args.depth stands (ports_keep c.args.self.now.ports entries (Depth c.args.depth) refl refl (λ _. refl) refl refl refl stands.ports)
          (tiles_keep c.args.self.now.tiles entries (Depth c.args.depth) (λ _ _. refl) (λ _ _. refl) (λ _ _ _. refl) (λ _ _. refl) refl refl refl refl stands.tiles)
          none refl refl refl refl;
    }
