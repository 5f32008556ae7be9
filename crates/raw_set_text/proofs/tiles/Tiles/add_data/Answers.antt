use Rattle.std.proofs.Common.{◌≡◌, ◌+◌, ◌/◌, length, refl, sym, ap, ◌∙◌, add-zero, arith}
use Rattle.std.proofs.lemmas.Bool.{leb-true, or_left, or_right, or_from}
use Rattle.raw_set_text.specs.Entry.Entry.{Data}
use Rattle.raw_set_text.specs.Faults.{cells_in}
use Rattle.raw_set_text.specs.Memory.{word_of}
use Rattle.raw_set_text.proofs.Building.TilesFaults.{repeated, over_limit, faultless, sum_none, sum_some, past_total, past_memory, within_memory, data_given}
use Rattle.raw_set_text.specs.declared.tile_parts.TileParts.{TileParts}
use Rattle.raw_set_text.proofs.Building.TilesLists.{read_same}
use Rattle.raw_set_text.proofs.Building.TilesMemory.{none_given}
use Rattle.raw_set_text.proofs.Building.TilesGiven.{data_stands}
use Rattle.raw_set_text.proofs.tiles.Tiles.add_data.Goals as goal

-- the test of the code is that of the rule
pub returns-then-is_given-clause-fault : goal.returns-then-is_given-clause-fault
returns-then-is_given-clause-fault c = λ entries at stands e.
    let count = length c.args.words.now in
    let first = c.args.address / 4 in
    let given = data_given _ entries at _ c.args.address first count c.index.result.now stands e c.requires.there c.index.ensures (omega (arith, c.requires.aligned)) in
    repeated _ _ (sym given ∙ sym c.is_given.ensures ∙ c.if-is_given.true)

pub returns-then-not-is_inside-clause-fault : goal.returns-then-not-is_inside-clause-fault
returns-then-not-is_inside-clause-fault c = λ entries at stands e.
    let count = length c.args.words.now in
    let first = c.args.address / 4 in
    let given = data_given _ entries at _ c.args.address first count c.index.result.now stands e c.requires.there c.index.ensures (omega (arith, c.requires.aligned)) in
    over_limit _ _
    (sym given ∙ sym c.is_given.ensures ∙ c.if-is_given.false)
    (or_left _ _ (past_memory c.args.address first count (omega (arith, c.requires.aligned)) (sym c.is_inside.ensures ∙ c.if-not-is_inside.true)))

pub returns-in_default-clause-fault : goal.returns-in_default-clause-fault
returns-in_default-clause-fault c = λ entries at stands e.
    let count = length c.args.words.now in
    let first = c.args.address / 4 in
    let given = data_given _ entries at _ c.args.address first count c.index.result.now stands e c.requires.there c.index.ensures (omega (arith, c.requires.aligned)) in
    over_limit _ _
    (sym given ∙ sym c.is_given.ensures ∙ c.if-is_given.false)
    (or_right _ _ (past_total cells_in _ entries (Data at c.args.address c.args.words.now) _ _ stands.cells refl ∙ sum_none _ _ _ (sym c.total_within.ensures ∙ c.in_default.is)))

pub set_words-requires-clause-free : goal.set_words-requires-clause-free
set_words-requires-clause-free c = λ i h.
    let count = length c.args.words.now in
    let first = c.args.address / 4 in
    let same : c.index.result.now.memory ≡ c.index_mut.result.now.memory = ap (λ (parts : TileParts). parts.memory) (read_same _ _ _ _ c.requires.there c.index.ensures c.index_mut.ensures.value) in
    ap (λ memory. word_of memory (first + i)) (sym same)
    ∙ none_given c.index.result.now.memory first count 0 i (sym c.is_given.ensures ∙ c.if-is_given.false) (omega arith) (omega (arith, h))

pub returns-clause-fault : goal.returns-clause-fault
returns-clause-fault c = λ entries at stands e.
    let count = length c.args.words.now in
    let first = c.args.address / 4 in
    let given = data_given _ entries at _ c.args.address first count c.index.result.now stands e c.requires.there c.index.ensures (omega (arith, c.requires.aligned)) in
    faultless _ _
    (sym given ∙ sym c.is_given.ensures ∙ c.if-is_given.false)
    (or_from _ _
    (within_memory c.args.address first count (omega (arith, c.requires.aligned)) (sym c.is_inside.ensures ∙ c.if-not-is_inside.false))
    (past_total cells_in _ entries (Data at c.args.address c.args.words.now) _ _ stands.cells refl ∙ (sum_some _ _ _ _ (sym c.total_within.ensures ∙ c.in-Some.is)).0))

pub returns-clause-stands : goal.returns-clause-stands
returns-clause-stands c = λ entries at stands e.
    data_stands c.args.self.now _ entries at c.args.address (c.args.address / 4) c.args.words.now c.args.tile _ c.set_words.new.self stands e c.requires.there
    (omega (arith, c.requires.aligned))
    (leb-true _ _ (sym c.is_inside.ensures ∙ c.if-not-is_inside.false))
    c.index_mut.ensures.value refl c.in_ok-set_words.ensures
    (record {
      cells = (sum_some _ _ _ _ (sym c.total_within.ensures ∙ c.in-Some.is)).1;
      turns = sym (add-zero _);
      instructions = sym (add-zero _);
      routed = sym (add-zero _);
    })
