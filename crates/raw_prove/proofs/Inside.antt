-- A tile or a switch goes on only inside its program.
use Rattle.std.proofs.Common.{◌≡◌, ℕ, ◌/◌, ◌<◌, false, List, Option, Some, None, refl, sym, ap, ◌∙◌, subst}
use Rattle.std.specs.Prelude.{nat_le, length, slice_index}
use Rattle.std.specs.Option.{option_map}
use Rattle.std.proofs.lemmas.Bool.{or_parts}
use Rattle.raw_tile_isa.specs.Instruction.{Instruction}
use Rattle.raw_model.specs.declared.marks.Mark.{Mark}
use Rattle.raw_model.specs.declared.marks.Mark.TheVariants.{Going, Trapped}
use Rattle.raw_model.specs.declared.marks.Cause.{Cause}
use Rattle.raw_model.specs.declared.marks.Cause.TheVariants.{Pc}
use Rattle.raw_model.specs.Program.{ProgramSet}
use Rattle.raw_model.specs.Local.{Tile, TileLocal}
use Rattle.raw_model.specs.Machine.{is_ended, is_stopped, tile_code}
use Rattle.raw_model.specs.TileTable.{TileEffect, stops, access_fault, unless_fault, gives_at, following}
use Rattle.raw_model.proofs.TileRows.{going_inside}
use Rattle.raw_tile.specs.declared.fire.TileOut.{TileOut}
use Rattle.raw_flow.specs.declared.node.Node.{Node}
use Rattle.raw_term.specs.declared.action.Action.{Action}
use Rattle.raw_term.specs.declared.action.Action.TheVariants.{Give, Go, Stop, Load, Store}
use Rattle.raw_term.specs.Terms.{word_in}
use Rattle.raw_term.specs.TermRows.{TileTerms, action_of, acted, stored_term, cell_of, term_effect}
use Rattle.raw_term.specs.Tiles.{IsFired}
use Rattle.raw_prove.specs.declared.unit.TileUnit.{TileUnit}
use Rattle.raw_prove.specs.Units.{IsTile}

-- a tile's effect leaves it inside a program of this size
abbrev LeavesInside : ℕ → TileEffect → Type 0
LeavesInside size effect = effect.next.mark ≡ Going → effect.next.pc < size

module _ (nodes : List Node) (size : ℕ) (l : TileLocal) (a b : ℕ) (here : l.pc < size) where
  fault_inside : (fault : Option Cause) (effect : TileEffect) → LeavesInside size effect → LeavesInside size (unless_fault fault l effect)
  fault_inside None effect h = h
  fault_inside (Some cause) effect h = λ e. here

  acted_inside : (action : Action) → LeavesInside size (acted nodes size l a b action).effect
  acted_inside (Give register word pc) = going_inside size pc
  acted_inside (Go pc) = going_inside size pc
  acted_inside (Stop mark) = λ e. here
  acted_inside (Load register address) =
      fault_inside (access_fault address 4) (gives_at size l register (slice_index l.memory (address / 4)) (following l) (Some address)) (going_inside size (following l))
  acted_inside (Store address) = fault_inside (access_fault address 4) (stored_term size l address b) (going_inside size (following l))
  acted_inside _ = going_inside size (following l)

  by_action : (o : Option Action) (t : TileTerms) → option_map (acted nodes size l a b) o ≡ Some t → LeavesInside size t.effect
  by_action None t e = absurd (cc e)
  by_action (Some action) t e = let same : acted nodes size l a b action ≡ t = cc e in subst (λ (k : TileTerms). LeavesInside size k.effect) same (acted_inside action)

  effect_inside : (o : Option Instruction) (t : TileTerms) → term_effect nodes o size l a b ≡ Some t → LeavesInside size t.effect
  effect_inside None t e =
      let same : ◌≡◌ {A = TileTerms} (record { nodes = nodes; effect = stops l (Trapped Pc) }) t = cc e in
      subst (λ (k : TileTerms). LeavesInside size k.effect) same (λ f. here)
  effect_inside (Some ins) t e = by_action (action_of ins.op (following l) ins (word_in nodes a) (word_in nodes b) (cell_of nodes l ins (word_in nodes a))) t e

  by_fired : (o : Option TileTerms) (nodes' : List Node) (new : TileLocal) (out : TileOut) → ((t : TileTerms) → o ≡ Some t → LeavesInside size t.effect) → IsFired nodes l o nodes' new (Some out)
      → new.mark ≡ Going → new.pc < size
  by_fired None nodes' new out each h = absurd (cc h.0)
  by_fired (Some t) nodes' new out each h = subst (λ (k : TileLocal). k.mark ≡ Going → k.pc < size) h.0.next_is (each t refl)

  -- a tile that fired
  pub tile_inside : (o : Option Instruction) (nodes' : List Node) (new : TileLocal) (out : TileOut) → IsFired nodes l (term_effect nodes o size l a b) nodes' new (Some out)
      → new.mark ≡ Going → new.pc < size
  tile_inside o nodes' new out h = by_fired (term_effect nodes o size l a b) nodes' new out (λ t e. effect_inside o t e) h

-- a tile that is not stopped goes on
going_mark : (m : Mark) → is_ended m ≡ false → m ≡ Going
going_mark Going e = refl
going_mark _ e = absurd (cc e)

pub tile_going : (set : ProgramSet) (p : ℕ) (l : TileLocal) → is_stopped set p (Tile l) ≡ false → l.mark ≡ Going
tile_going set p l e = going_mark l.mark (or_parts (is_ended l.mark) (nat_le set.limit l.count) e).0

pub tile_here : (set : ProgramSet) (p : ℕ) (unit : TileUnit) → IsTile set p unit → is_stopped set p (Tile unit.tile) ≡ false → (code : List Instruction) → code ≡ tile_code set p → unit.tile.pc < length code
tile_here set p unit is going code same = subst (λ (c : List Instruction). unit.tile.pc < length c) (sym same) (is.inside (tile_going set p unit.tile going))

-- a tile with another local state
pub tile_then : (set : ProgramSet) (p : ℕ) (unit : TileUnit) (new : TileLocal) (code : List Instruction) → IsTile set p unit → code ≡ tile_code set p → (new.mark ≡ Going → new.pc < length code) → length new.memory ≡ 16384
    → IsTile set p (record unit { tile = new })
tile_then set p unit new code is same inside memory = record {
  place = is.place;
  code = is.code;
  inside = subst (λ (c : List Instruction). new.mark ≡ Going → new.pc < length c) same inside;
  memory = memory;
}

pub tile_same : (set : ProgramSet) (p : ℕ) (unit : TileUnit) (new : TileLocal) → IsTile set p unit → new ≡ unit.tile → IsTile set p (record unit { tile = new })
tile_same set p unit new is same =
    tile_then set p unit new (tile_code set p) is refl (subst (λ (k : TileLocal). k.mark ≡ Going → k.pc < length (tile_code set p)) (sym same) is.inside)
    (ap (λ (k : TileLocal). length k.memory) same ∙ is.memory)
