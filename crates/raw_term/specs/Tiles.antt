-- What a tile with terms is left as by a row.
use Rattle.std.specs.Prelude.{◌≡◌, ◌<◌, List, Option, Some, None, IfSome, IsSome, length}
use Rattle.raw_model.specs.declared.limits.TheConstants.{MAX_STEPS, MEMORY_SIZE, MEMORY_WORDS}
use Rattle.raw_model.specs.declared.marks.Mark.TheVariants.{Going}
use Rattle.raw_model.specs.Local.{TileLocal}
use Rattle.raw_tile.specs.declared.fire.TileOut.{TileOut}
use Rattle.raw_tile.specs.Given.{out_of}
use Rattle.raw_flow.specs.declared.node.Node.{Node}
use Rattle.raw_term.specs.declared.action.Action.{Action}
use Rattle.raw_term.specs.declared.action.Action.TheVariants.{Make, Give, Load, Read, Write}
use Rattle.raw_term.specs.TermRows.{TileTerms}

-- the register to which something goes is one
abbrev pub HasRegister : Action → Type 0
HasRegister (Make f first second register) = register < 32
HasRegister (Give register word pc) = register < 32
HasRegister (Load register address) = register < 32
HasRegister (Read register address word) = register < 32
HasRegister _ = Unit {0}

-- what is written in memory stands there
abbrev pub IsInside : Action → Type 0
IsInside (Write address word) = address < MEMORY_SIZE
IsInside _ = Unit {0}

-- the table, the tile and what it answers are those of the row
pub record IsRow (row : TileTerms) (nodes : List Node) (next : TileLocal) (out : TileOut) : Type 0 where
  pub nodes_are : row.nodes ≡ nodes
  pub next_is : row.effect.next ≡ next
  pub out_is : out_of row.effect ≡ out

-- where the row wants a word that is none, nothing is done; else what the row does
abbrev pub IsFired : List Node → TileLocal → Option TileTerms → List Node → TileLocal → Option TileOut → Type 0
IsFired before old None nodes next out = (out ≡ None) × (nodes ≡ before) × (next ≡ old)
IsFired before old (Some row) nodes next out = IfSome out (λ o. IsRow row nodes next o) × IsSome out

-- a tile that has not ended and may take one more step, with a term for each word of its memory
pub record MayStep (tile : TileLocal) : Type 0 where
  pub going : tile.mark ≡ Going
  pub count : tile.count < MAX_STEPS
  pub memory : length tile.memory ≡ MEMORY_WORDS
