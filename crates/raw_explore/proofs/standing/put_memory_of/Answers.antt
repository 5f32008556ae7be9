use Rattle.std.proofs.Common.{◌≡◌, List, ℕ, Some, sym, ap, ◌∙◌, subst, ⊎_elim}
use Rattle.std.specs.List.{flat_map, range_with_len}
use Rattle.raw_processor.specs.declared.processor.TileUnit.{TileUnit}
use Rattle.raw_processor.specs.declared.processor.Processor.TheVariants as a
use Rattle.raw_processor.specs.Processor.{local_of}
use Rattle.raw_trace.specs.Standing.{word_entry, memory_entries}
use Rattle.raw_trace.specs.Text.{entry_text}
use Rattle.raw_state_text.proofs.Sections.{same_text}
use Rattle.raw_model.specs.declared.limits.TheConstants.{MEMORY_WORDS}
use Rattle.raw_model.specs.Parts.{memory_of}
use Rattle.raw_explore.specs.Engine.{IsAlike}
use Rattle.raw_trace.proofs.Lists.{flat_flat}
use Rattle.raw_explore.proofs.standing.put_memory_of.Goals as goal

same_memories : (one two given memory : List ℕ) → one ≡ given → two ≡ memory
    → flat_map (λ i. flat_map entry_text (word_entry one two i)) (range_with_len 0 MEMORY_WORDS)
    ≡ flat_map entry_text (flat_map (word_entry given memory) (range_with_len 0 MEMORY_WORDS))
same_memories one two given memory is also =
    ap (λ xs. flat_map (λ i. flat_map entry_text (word_entry xs two i)) (range_with_len 0 MEMORY_WORDS)) is
    ∙ ap (λ xs. flat_map (λ i. flat_map entry_text (word_entry given xs i)) (range_with_len 0 MEMORY_WORDS)) also
    ∙ sym (flat_flat entry_text (word_entry given memory) (range_with_len 0 MEMORY_WORDS))

pub returns-in-Tile-given : goal.returns-in-Tile-given
returns-in-Tile-given g c =
    let given = c.in-Tile-given.given in
    let tile = c.in-Tile.tile in
    same_text _ _ _ _ _
    (same_memories _ _ given.state.memory tile.state.memory
    (ap (λ (u : TileUnit). u.state.memory) c.given.view_is) (ap (λ (u : TileUnit). u.state.memory) c.tile.view_is)
    ∙ sym
    (ap (λ y. flat_map entry_text (memory_entries (memory_of (Some (local_of c.args.given.now))) (Some (local_of y)))) c.in-Tile.is
    ∙ ap (λ x. flat_map entry_text (memory_entries (memory_of (Some (local_of x))) (Some (local_of (a.Tile tile))))) c.in-Tile-given.is))
    c.put_memory.ensures

pub returns-in-Switch-given : goal.returns-in-Switch-given
returns-in-Switch-given g c =
    let alike : IsAlike c.args.given.now (a.Tile c.in-Tile.tile) = subst (λ y. IsAlike c.args.given.now y) c.in-Tile.is c.requires in
    absurd
    (⊎_elim
    (λ is. subst (λ x. IsAlike x (a.Tile c.in-Tile.tile)) is.1 alike)
    (⊎_elim (λ is. subst (λ x. IsAlike x (a.Tile c.in-Tile.tile)) is.1 alike) (λ is. subst (λ x. IsAlike x (a.Tile c.in-Tile.tile)) is.1 alike))
    c.in-Switch-given.is)

pub returns-in-Switch-given-2 : goal.returns-in-Switch-given-2
returns-in-Switch-given-2 g c =
    let alike : IsAlike c.args.given.now (a.Tile c.in-Tile.tile) = subst (λ y. IsAlike c.args.given.now y) c.in-Tile.is c.requires in
    absurd
    (⊎_elim
    (λ is. subst (λ x. IsAlike x (a.Tile c.in-Tile.tile)) is.1 alike)
    (⊎_elim (λ is. subst (λ x. IsAlike x (a.Tile c.in-Tile.tile)) is.1 alike) (λ is. subst (λ x. IsAlike x (a.Tile c.in-Tile.tile)) is.1 alike))
    c.in-Switch-given.is)

pub returns-in-Switch-given-3 : goal.returns-in-Switch-given-3
returns-in-Switch-given-3 g c =
    let alike : IsAlike c.args.given.now (a.Tile c.in-Tile.tile) = subst (λ y. IsAlike c.args.given.now y) c.in-Tile.is c.requires in
    absurd
    (⊎_elim
    (λ is. subst (λ x. IsAlike x (a.Tile c.in-Tile.tile)) is.1 alike)
    (⊎_elim (λ is. subst (λ x. IsAlike x (a.Tile c.in-Tile.tile)) is.1 alike) (λ is. subst (λ x. IsAlike x (a.Tile c.in-Tile.tile)) is.1 alike))
    c.in-Switch-given.is)
