-- The ends P of a tile or a port: at most two operands are taken there, and at most one value is sent to each network.
use Rattle.std.specs.Prelude.{◌≡◌, ℕ, ◌+◌, ◌^◌, ◌<◌, ◌==◌, Bool, true, false, Option, Some, None, IfSome, List, [], ◌∷◌, ◌++◌, map, if◌then◌else◌}
use Rattle.std.specs.Option.{option_to_list}
use Rattle.raw_tile.specs.declared.step.Via.{Via}
use Rattle.raw_tile.specs.declared.step.Via.TheVariants.{Tile, Network1, Network2}
use Rattle.raw_fabric_rule.specs.declared.layout.TheConstants.{INPUT_P1, INPUT_P2, OUTPUT_P1, OUTPUT_P2, END_COUNT}
use Rattle.raw_model.specs.Program.{ProgramSet}
use Rattle.raw_model.specs.Local.{Local}
use Rattle.raw_fabric_rule.specs.ByEnds.{needs, fills, sent}
use Rattle.raw_fabric_rule.specs.ByKind.{end_if}
use Rattle.raw_fabric_rule.specs.Views.{About, Hold}
use Rattle.raw_fabric_rule.specs.Plays.{values_of}
use Rattle.raw_fabric_rule.specs.Conditions.{wanted, blank}
use Rattle.raw_fabric_step.specs.Units.{fetched_unit, staged_unit}
use Rattle.raw_fabric_step.specs.Causes.{ShowsEnds}

-- a unit with one operand more, where there is an end for it and a value
abbrev pub fetched_where : Hold → Option ℕ → ℕ → Option ℕ → Hold
fetched_where u (Some end) before (Some value) = fetched_unit u end before value
fetched_where u _ _ _ = u

-- a unit with one word more staged for an output, where there is a value for it
abbrev pub staged_where : Hold → ℕ → Option ℕ → Hold
staged_where u end None = u
staged_where u end (Some value) = staged_unit u end value

-- the ends of two operands, in the order in which they are taken
abbrev pub pair_ends : Option ℕ → Option ℕ → List ℕ
pair_ends first second = option_to_list first ++ option_to_list second

-- how many operands come before the second one from the same input
abbrev pub before_second : Option ℕ → Option ℕ → ℕ
before_second (Some first) (Some second) = if first == second then 1 else 0
before_second _ _ = 0

-- the input P of a network, where an operand comes from one
abbrev pub via_end : Via → Option ℕ
via_end Tile = None
via_end Network1 = Some INPUT_P1
via_end Network2 = Some INPUT_P2

-- the outputs P of the networks, where something may be sent there
abbrev pub out_ends : Bool → Bool → List ℕ
out_ends first second = (if first then OUTPUT_P1 ∷ [] else []) ++ (if second then OUTPUT_P2 ∷ [] else [])

-- the input P of a network as a word of ends
abbrev pub input_bit : Via → ℕ
input_bit Tile = 0
input_bit Network1 = 2 ^ INPUT_P1
input_bit Network2 = 2 ^ INPUT_P2

-- these outputs P as a word of ends, where an output has the end index of its input
abbrev pub output_bits : Bool → Bool → ℕ
output_bits false false = 0
output_bits false true = 2 ^ INPUT_P2
output_bits true false = 2 ^ INPUT_P1
output_bits true true = 2 ^ INPUT_P1 + 2 ^ INPUT_P2

-- whether something goes to network 1, and to network 2
abbrev pub is_first : Via → Bool
is_first Network1 = true
is_first _ = false

abbrev pub is_second : Via → Bool
is_second Network2 = true
is_second _ = false

-- these are the inputs of the next row's operands, in the order in which they are taken
pub record TakesPair (set : ProgramSet) (p : ℕ) (l : Local) (first second : Option ℕ) : Type 0 where
  pub needs_are : needs set p l ≡ pair_ends first second
  pub first_in : IfSome first (λ e. e < END_COUNT)
  pub second_in : IfSome second (λ e. e < END_COUNT)

-- with the operands that are fetched for it, the row sends these values to the outputs P
pub record SendsPair (set : ProgramSet) (p : ℕ) (u : Hold) (first second : Option ℕ) : Type 0 where
  pub fills_are : fills set p u.local (values_of u) ≡ end_if OUTPUT_P1 first ++ end_if OUTPUT_P2 second
  pub sent_are : sent set p u.local (values_of u) ≡ option_to_list first ++ option_to_list second

-- the operands at these two inputs are fetched for the unit u of p, which shows what its row asks for, and nothing is staged yet
pub record HasOperands (about : About) (p : ℕ) (first second : Option ℕ) (u : Hold) : Type 0 where
  pub shown : ShowsEnds about p u
  pub fetched : map blank u.fetched ≡ wanted u.counts [] (pair_ends first second)
  pub staged : u.staged ≡ []
