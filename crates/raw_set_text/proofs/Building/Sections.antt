-- A section behind other entries: what the builder stands for with it, and what is wrong with it.
use Rattle.std.proofs.Common.{◌≡◌, ◌≤◌, true, false, List, [], length, Some, None, refl, sym, subst, arith}
use Rattle.std.proofs.lemmas.Bool.{le-ltb}
use Rattle.raw_grid.specs.Topology.{tile_count}
use Rattle.raw_tile_isa.specs.Instruction.{Instruction}
use Rattle.raw_switch_isa.specs.Instruction.{SwitchInstruction}
use Rattle.raw_model.specs.declared.limits.TheConstants.{MAX_STEPS, MAX_ALL_CODE, MAX_ALL_SWITCH_CODE, MAX_ALL_SHOWN}
use Rattle.raw_set_text.specs.declared.declaration.Position.{Position}
use Rattle.raw_set_text.specs.declared.builder.Builder.{Builder}
use Rattle.raw_set_text.specs.declared.tiles.Tiles.{Tiles}
use Rattle.raw_set_text.specs.Entry.{Entry}
use Rattle.raw_set_text.specs.Entry.Entry.{Tile, Switch}
use Rattle.raw_set_text.specs.Entries.{columns_of, rows_of}
use Rattle.raw_set_text.specs.Faults.{entry_fault, is_outside, is_repeated, is_over_limit}
use Rattle.raw_set_text.specs.declared.kind.SetKind.TheVariants.{Repeated}
use Rattle.raw_set_text.specs.Answers.{late_fault, with_entry}
use Rattle.raw_set_text.specs.Building.{PortsStand, TilesStand}
use Rattle.raw_set_text.specs.Reading.{BuilderStands}
use Rattle.raw_set_text.proofs.Building.PortsKeep.{ports_keep}
use Rattle.raw_set_text.proofs.Building.Entries.{IsSame, plain_next, there_fault}

module _ (old new : Builder) (entries : List Entry) (at : Position) (stands : BuilderStands old entries) (ports : new.ports ≡ old.ports) (same : IsSame old new) where
  -- the program of a tile is given, and nothing else
  pub code_next : (code : List Instruction) → TilesStand new.tiles (with_entry entries (Tile at code)) → BuilderStands new (with_entry entries (Tile at code))
  code_next code given =
      plain_next old new entries (Tile at code) stands
      (subst (λ there. PortsStand there (with_entry entries (Tile at code))) (sym ports) (ports_keep old.ports entries (Tile at code) refl refl (λ _. refl) refl refl refl stands.ports)) given
      (record { limit = refl; depth = refl; show = λ _. refl; count = refl; shown = refl }) same

  -- the program of a switch is given, and nothing else
  pub switch_next : (code : List SwitchInstruction) → TilesStand new.tiles (with_entry entries (Switch at code)) → BuilderStands new (with_entry entries (Switch at code))
  switch_next code given =
      plain_next old new entries (Switch at code) stands
      (subst (λ there. PortsStand there (with_entry entries (Switch at code))) (sym ports) (ports_keep old.ports entries (Switch at code) refl refl (λ _. refl) refl refl refl stands.ports)) given
      (record { limit = refl; depth = refl; show = λ _. refl; count = refl; shown = refl }) same

-- the same in the form that a write to the tiles leaves; `each`, `some`, `few` and `shown` are `_` at a call
module _ (builder : Builder) (tiles : Tiles) (each : length tiles.parts.items ≡ tile_count builder.ports.topo) (some : 1 ≤ builder.limit) (few : builder.limit ≤ MAX_STEPS) (shown : builder.shown ≤ MAX_ALL_SHOWN) (entries : List Entry) (at : Position) where
  abbrev new : Builder
  new = record builder { tiles = tiles; each_tile = each; some_steps = some; few_steps = few; few_shown = shown }

  pub code_added : (code : List Instruction) → BuilderStands builder entries → TilesStand tiles (with_entry entries (Tile at code)) → BuilderStands new (with_entry entries (Tile at code))
  code_added code stands given =
      code_next builder new entries at stands refl (record { limit = refl; depth = refl; shows = refl; shown = refl }) code given

  pub switch_added : (code : List SwitchInstruction) → BuilderStands builder entries → TilesStand tiles (with_entry entries (Switch at code)) → BuilderStands new (with_entry entries (Switch at code))
  switch_added code stands given =
      switch_next builder new entries at stands refl (record { limit = refl; depth = refl; shows = refl; shown = refl }) code given

module _ (builder : Builder) (entries : List Entry) (at : Position) (stands : BuilderStands builder entries) (there : is_outside (columns_of entries) (rows_of entries) (Some at) ≡ false) where
  -- the faults of the program of a tile of the grid
  pub section_fault_is : (code : List Instruction) → entry_fault entries (Tile at code) ≡ late_fault entries (Tile at code)
  section_fault_is code = there_fault entries (Tile at code) refl there refl refl refl

  -- and of the program of its switch
  pub switch_fault_is : (code : List SwitchInstruction) → entry_fault entries (Switch at code) ≡ late_fault entries (Switch at code)
  switch_fault_is code = there_fault entries (Switch at code) refl there refl refl refl

  -- a program without instructions is within the limits
  pub code_fits : is_over_limit entries (Tile at []) ≡ false
  code_fits = le-ltb MAX_ALL_CODE _ (omega (arith, stands.tiles.instructions, builder.tiles.few_instructions))

  pub switch_fits : is_over_limit entries (Switch at []) ≡ false
  switch_fits = le-ltb MAX_ALL_SWITCH_CODE _ (omega (arith, stands.tiles.routed, builder.tiles.few_routed))

-- what is wrong with the head of a section
pub head_repeated : (entries : List Entry) (entry : Entry) → is_repeated entries entry ≡ true → late_fault entries entry ≡ Some Repeated
head_repeated entries entry again = rw again

pub head_faultless : (entries : List Entry) (entry : Entry) → is_repeated entries entry ≡ false → is_over_limit entries entry ≡ false → late_fault entries entry ≡ None
head_faultless entries entry first fits = rw (first, fits)
