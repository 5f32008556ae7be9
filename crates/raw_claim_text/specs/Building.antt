-- What a claim that is being built stands for: what the lines so far say.
use Rattle.std.specs.Prelude.{◌≡◌, ℕ, List}
use Rattle.raw_grid.specs.Topology.{Topology}
use Rattle.raw_flow_text.specs.Building as flow
use Rattle.raw_claim_text.specs.declared.builder.ClaimBuilder.{ClaimBuilder}
use Rattle.raw_claim_text.specs.declared.reader.ClaimLines.{ClaimLines}
use Rattle.raw_claim_text.specs.Lines.{PlacedFlow}
use Rattle.raw_claim_text.specs.Placing.{SaidPlaces, said_places, said_in}

-- a claim that is being built, for these lines behind the mark
pub record ClaimStands (topo : Topology) (builder : ClaimBuilder) (lines : List (List (List ℕ))) : Type 0 where
  pub flow : flow.BuilderStands builder.flow (said_in lines)
  pub plain : builder.plain ≡ (said_places topo lines).plain
  pub places : builder.places.items ≡ (said_places topo lines).places

-- what lines mean that were read
abbrev pub claim_of : ClaimLines → PlacedFlow
claim_of lines = record { fed = lines.read; places = lines.places.items }
