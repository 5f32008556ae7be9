-- The row of a switch: it takes one value at each input that its instruction uses, and sends one at each output that has
-- a route.
use Rattle.std.specs.Prelude.{◌≡◌, ℕ, ◌+◌, Option, Some, None, List, [], ◌∷◌, length, map, slice_index, slice_index_or}
use Rattle.std.specs.List.{flat_map}
use Rattle.raw_switch_isa.specs.Instruction.{SwitchInstruction}
use Rattle.raw_switch_isa.specs.Ends.{ends}
use Rattle.raw_switch.specs.Given.{IsGivenFor}
use Rattle.raw_fabric_rule.specs.declared.layout.TheConstants.{END_COUNT, SIDES}
use Rattle.raw_fabric_rule.specs.Views.{About, Held, Hold}
use Rattle.raw_fabric_rule.specs.Word.{pack}
use Rattle.raw_fabric_rule.specs.ByKind.{switch_needs, handed_to, outputs_filled}
use Rattle.raw_fabric_rule.specs.Plays.{held, bumped, values_of}
use Rattle.raw_fabric_rule.specs.Conditions.{wanted, blank}
use Rattle.raw_fabric_step.specs.Units.{IsReady}
use Rattle.raw_fabric_step.specs.Causes.{ShowsEnds}
use Rattle.raw_fabric_step.specs.declared.switches.Inputs.{Inputs}

-- a value in the next place of an end, where there is one
abbrev pub held_where : Hold → ℕ → Option ℕ → List Held
held_where u end None = []
held_where u end (Some value) = held end (slice_index u.counts end) value ∷ []

-- what is staged where these values are sent by output
abbrev pub staged_for : Hold → List (Option ℕ) → List Held
staged_for u sent = flat_map (λ output. held_where u (END_COUNT + output) (slice_index_or sent output None)) ends

-- these values by output are staged, where the unit was u and then is z, and the word that had the counts taken has theirs too
pub record HasRouted (u z : Hold) (taken raised : ℕ) (values : List (Option ℕ)) : Type 0 where
  pub unit_is : z ≡ record u { staged = staged_for u values }
  pub raised_is : (counts : List ℕ) → length counts ≡ SIDES → taken ≡ pack counts → raised ≡ pack (bumped (outputs_filled values) counts)

-- the operands of this instruction are fetched for the unit z of p, and are those given by input; the word has their counts
pub record HasInputs (about : About) (p status : ℕ) (ins : SwitchInstruction) (inputs : Inputs) (z : Hold) : Type 0 where
  pub fetched : map blank z.fetched ≡ wanted z.counts [] (switch_needs (Some ins))
  pub handed : inputs.given ≡ handed_to (Some ins) (values_of z)
  pub each : IsGivenFor (Some ins) inputs.given
  pub raised : inputs.status ≡ pack (bumped (switch_needs (Some ins)) z.counts)
  pub staged : z.staged ≡ []
  pub ready : IsReady status z
  pub shown : ShowsEnds about p z
