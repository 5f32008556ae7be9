-- A claim that is being built, with one line more.
use Rattle.std.proofs.Common.{◌≡◌, ℕ, ◌||◌, List, [], ◌∷◌, ◌++◌, sym, ap, ◌∙◌, subst}
use Rattle.std.specs.Option.{option_to_list}
use Rattle.raw_grid.specs.Topology.{Topology}
use Rattle.raw_flow_text.specs.Forms.{line_statement}
use Rattle.raw_flow_text.specs.Building.{BuilderStands as FlowStands}
use Rattle.raw_claim_text.specs.declared.builder.ClaimBuilder.{ClaimBuilder}
use Rattle.raw_claim_text.specs.Forms.{is_plain_out, plain_line}
use Rattle.raw_claim_text.specs.Placing.{SaidPlaces, place_said, place_in, said_places, said_in}
use Rattle.raw_claim_text.specs.Building.{ClaimStands}
use Rattle.raw_claim_text.proofs.Lines.{said_in_next, said_places_next}

module _ (topo : Topology) (old : ClaimBuilder) (lines : List (List (List ℕ))) (line : List (List ℕ)) (stands : ClaimStands topo old lines) where
  abbrev own : SaidPlaces
  own = record { plain = old.plain; places = old.places.items }

  same : own ≡ said_places topo lines
  same = λ i. record { plain = stands.plain i; places = stands.places i }

  pub stands_with : (new : ClaimBuilder) → FlowStands new.flow (said_in lines ++ option_to_list (line_statement (plain_line line))) → new.plain ≡ (old.plain || is_plain_out line)
      → new.places.items ≡ old.places.items ++ place_in (place_said topo own line) → ClaimStands topo new (lines ++ line ∷ [])
  stands_with new flow plain places = record {
    flow = subst (FlowStands new.flow) (sym (said_in_next lines line)) flow;
    plain = plain ∙ ap (λ (s : SaidPlaces). s.plain || is_plain_out line) same ∙ sym (ap (λ (s : SaidPlaces). s.plain) (said_places_next topo lines line));
    places = places ∙ ap (λ (s : SaidPlaces). s.places ++ place_in (place_said topo s line)) same ∙ sym (ap (λ (s : SaidPlaces). s.places) (said_places_next topo lines line));
  }
