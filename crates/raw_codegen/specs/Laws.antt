-- What parts give, and how a machine goes on with a script; `src/laws.rt` claims it of every set.
use Rattle.std.specs.Prelude.{◌≡◌, ◌≢◌, ℕ, ◌+◌, ◌*◌, ◌<◌, Option, List, [], ◌∷◌, ◌++◌, length, map, slice_get}
use Rattle.std.specs.Option.{option_to_list}
use Rattle.raw_network.specs.Network.{values_on}
use Rattle.raw_tile_isa.specs.Instruction.{Instruction}
use Rattle.raw_switch_isa.specs.Instruction.{SwitchInstruction}
use Rattle.raw_grid.specs.declared.parts.Net.{Net}
use Rattle.raw_grid.specs.declared.parts.PortPlace.{PortPlace}
use Rattle.raw_grid.specs.Topology.{tile_count, switch_number}
use Rattle.raw_model.specs.Program.{ProgramSet, TileProgram}
use Rattle.raw_model.specs.Start.{MachineState, start, first_memory, first_port}
use Rattle.raw_codegen.specs.Parts.{Part, ToTile, ToSwitch, tile_part, switch_part, to_tile, to_switches, Gives, script_programs}
use Rattle.raw_codegen.specs.Limits.{AreShort, IsTooLong, Overflows}
use Rattle.raw_codegen.specs.Steps.{Leads, SameWires, HasCome, IsGone, HasPassed}
use Rattle.raw_codegen.specs.Straight.{Turns, SendsWord, TakesWord, PassesOn}
use Rattle.raw_codegen.specs.Standing.{to_tile_wire, from_tile_wire, IsScript, PartsStand, HasGone, SameBut, PortsAreStopped, HasHalted}

-- what parts give to tiles and switches
pub record PartsGive : Type 0 where
  pub tile_append : (t : ℕ) (xs ys : List Part) → tile_part t (xs ++ ys) ≡ tile_part t xs ++ tile_part t ys
  pub switch_append : (t : ℕ) (xs ys : List Part) → switch_part t (xs ++ ys) ≡ switch_part t xs ++ switch_part t ys
  -- a block gives its instructions to its tile alone,
  pub block : (t : ℕ) (code : List Instruction) → tile_part t (to_tile t code) ≡ code
  pub block_elsewhere : (t u : ℕ) (code : List Instruction) → u ≢ t → tile_part u (to_tile t code) ≡ []
  pub block_switch : (t u : ℕ) (code : List Instruction) → switch_part u (to_tile t code) ≡ []
  -- and so does an instruction for a switch;
  pub one_switch : (t : ℕ) (ins : SwitchInstruction) → switch_part t (ToSwitch t ins ∷ []) ≡ ins ∷ []
  pub one_elsewhere : (t u : ℕ) (ins : SwitchInstruction) → u ≢ t → switch_part u (ToSwitch t ins ∷ []) ≡ []
  -- instructions for all switches give each its own
  pub switches : (given : ℕ → Option SwitchInstruction) (t n : ℕ) → t < n → switch_part t (to_switches n given) ≡ option_to_list (given t)
  pub switches_tile : (given : ℕ → Option SwitchInstruction) (t n : ℕ) → tile_part t (to_switches n given) ≡ []

-- parts are given one after another, and what is too long stays so
pub record GivingLaws : Type 0 where
  pub none : (n : ℕ) (tiles : List TileProgram) → Gives n [] tiles tiles
  pub both : (n : ℕ) (x y : List Part) (a b c : List TileProgram) → Gives n x a b → Gives n y b c → Gives n (x ++ y) a c
  pub more : (n : ℕ) (x y : List Part) (a : List TileProgram) → Overflows n x a → Overflows n (x ++ y) a
  pub later : (n : ℕ) (x y : List Part) (a b : List TileProgram) → Gives n x a b → Overflows n y b → Overflows n (x ++ y) a
  pub longer : (n : ℕ) (parts more : List Part) → IsTooLong n parts → IsTooLong n (parts ++ more)
  -- no script has such programs that is within the limits
  pub too_long : (n : ℕ) (parts : List Part) → IsTooLong n parts → ¬ (AreShort (script_programs n parts))

-- at the start a machine has executed none of the parts, and no wire holds a value
abbrev pub StartsWithNone : Type 0
StartsWithNone = (set : ProgramSet) (all : List Part) → IsScript set all → PartsStand set [] (λ t. first_memory []) (start set)

abbrev pub StartsIdle : Type 0
StartsIdle = (set : ProgramSet) (w : ℕ) → values_on (start set).wires w ≡ []

-- and no port has done anything; ports stand behind tiles and switches
abbrev pub StartsWithPorts : Type 0
StartsWithPorts =
    (set : ProgramSet) (all : List Part) → IsScript set all → (k : ℕ) →
    slice_get (start set).locals (2 * tile_count set.topo + k) ≡ slice_get (map (λ (place : PortPlace). first_port place.kind) set.topo.places) k

-- a tile executes a block of instructions that use no wire
abbrev pub EachBlockRuns : Type 0
EachBlockRuns =
    (set : ProgramSet) (all parts rest : List Part) (t : ℕ) (memories after : ℕ → List ℕ) (s : MachineState) →
    IsScript set all → t < tile_count set.topo → PartsStand set parts memories s →
    (block : List Instruction) → all ≡ parts ++ (to_tile t block ++ rest) →
    Turns block (memories t) (after t) → SameBut t memories after →
    Leads set s (λ r. HasGone set (parts ++ to_tile t block) after s r × SameWires s.wires r.wires)

-- a tile executes such a block, and then an instruction that sends a value to its switch
abbrev pub EachSendRuns : Type 0
EachSendRuns =
    (set : ProgramSet) (all parts rest : List Part) (t : ℕ) (memories : ℕ → List ℕ) (s : MachineState) →
    IsScript set all → t < tile_count set.topo → PartsStand set parts memories s →
    (front : List Instruction) (ins : Instruction) (net : Net) (x : ℕ) →
    all ≡ parts ++ (to_tile t (front ++ ins ∷ []) ++ rest) → SendsWord front ins net x (memories t) →
    length (values_on s.wires (from_tile_wire net t)) < set.depth →
    Leads set s (λ r. HasGone set (parts ++ to_tile t (front ++ ins ∷ [])) memories s r × HasCome (from_tile_wire net t) x s.wires r.wires)

-- a tile executes an instruction that takes a value from its switch
abbrev pub EachTakeRuns : Type 0
EachTakeRuns =
    (set : ProgramSet) (all parts rest : List Part) (t : ℕ) (memories after : ℕ → List ℕ) (s : MachineState) →
    IsScript set all → t < tile_count set.topo → PartsStand set parts memories s →
    (ins : Instruction) (net : Net) (x : ℕ) (xs : List ℕ) → all ≡ parts ++ (ToTile t ins ∷ rest) →
    TakesWord ins net x (memories t) (after t) → SameBut t memories after →
    values_on s.wires (to_tile_wire net t) ≡ x ∷ xs →
    Leads set s (λ r. HasGone set (parts ++ ToTile t ins ∷ []) after s r × IsGone (to_tile_wire net t) x s.wires r.wires)

-- a switch executes an instruction that takes a value and passes it on
abbrev pub EachPassRuns : Type 0
EachPassRuns =
    (set : ProgramSet) (all parts rest : List Part) (t : ℕ) (memories : ℕ → List ℕ) (s : MachineState) →
    IsScript set all → t < tile_count set.topo → PartsStand set parts memories s →
    (ins : SwitchInstruction) (w v x : ℕ) (xs : List ℕ) → all ≡ parts ++ (ToSwitch t ins ∷ rest) →
    PassesOn set.topo (switch_number set.topo t) ins w v → values_on s.wires w ≡ x ∷ xs →
    length (values_on s.wires v) < set.depth → v < length s.wires → v ≢ w →
    Leads set s (λ r. HasGone set (parts ++ ToSwitch t ins ∷ []) memories s r × HasPassed w x v x s.wires r.wires)

-- behind all parts each tile and each switch halts; the machine is then at rest and done, if its ports are stopped
abbrev pub EachHalts : Type 0
EachHalts =
    (set : ProgramSet) (all : List Part) (memories : ℕ → List ℕ) (s : MachineState) →
    IsScript set all → PartsStand set all memories s → PortsAreStopped set s → Leads set s (λ r. HasHalted set memories s r)
