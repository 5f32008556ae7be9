use Rattle.std.proofs.Common.{ℕ, ◌<◌, ◌++◌, [], ◌∷◌, refl, sym, ap, ◌∙◌, subst, map, append-nil, append_assoc, arith}
use Rattle.std.specs.List.{AllByRecursion}
use Rattle.std.specs.Map.Iter.{deref_pair}
use Rattle.std.proofs.lemmas.Map.Iter.{rest_more, rest_all}
use Rattle.raw_model.specs.declared.limits.TheConstants.{MEMORY_WORDS}
use Rattle.raw_set_text.proofs.Building.TilesCells.{entry_cell, all_high, cells_are}
use Rattle.raw_set_text.proofs.tile_memory.cells_of.Goals as goal

pub loop-place-init : goal.loop-place-init
loop-place-init c =
    let all = c.into_iter-place-iterator.ensures.into_iter_gives.0 in
    record {
      cells = rw (c.new-cells.ensures.items, all) refl;
      inside = rw all (all_high MEMORY_WORDS c.args.memory.now.entries c.requires);
    }

pub overflow_cast-place : goal.overflow_cast-place
overflow_cast-place c =
    let rest = rest_more deref_pair _ _ _ (c.in-Some.place, c.in-Some.word) c.in-Some.is c.next.ensures.steps in
    let inside = subst (AllByRecursion (λ (e : ℕ × ℕ). e.0 < MEMORY_WORDS)) rest c.loop-place.invariant.inside in
    omega (arith, inside.0)

pub overflow_mul-place : goal.overflow_mul-place
overflow_mul-place c =
    let rest = rest_more deref_pair _ _ _ (c.in-Some.place, c.in-Some.word) c.in-Some.is c.next.ensures.steps in
    let inside = subst (AllByRecursion (λ (e : ℕ × ℕ). e.0 < MEMORY_WORDS)) rest c.loop-place.invariant.inside in
    omega (arith, inside.0)

pub loop-place-preserved : goal.loop-place-preserved
loop-place-preserved c =
    let rest = rest_more deref_pair _ _ _ (c.in-Some.place, c.in-Some.word) c.in-Some.is c.next.ensures.steps in
    let old = c.loop-place.cells.items in
    record {
      cells = ap (λ cells. cells ++ map entry_cell c.next.new.self) c.in_ok-push.ensures.items
          ∙ append_assoc old (entry_cell (c.in-Some.place.now, c.in-Some.word.now) ∷ []) (map entry_cell c.next.new.self)
          ∙ ap (λ es. old ++ map entry_cell es) (sym rest) ∙ c.loop-place.invariant.cells;
      inside = (subst (AllByRecursion (λ (e : ℕ × ℕ). e.0 < MEMORY_WORDS)) rest c.loop-place.invariant.inside).1;
    }

pub returns : goal.returns
returns c =
    let none = rest_all deref_pair _ _ _ c.in-None.is c.next.ensures.steps in
    let cells = c.loop-place.cells.items in
    sym (append-nil cells) ∙ ap (λ es. cells ++ map entry_cell es) (sym none) ∙ c.loop-place.invariant.cells
    ∙ cells_are c.args.memory.now c.into_iter-place-iterator.ensures.into_iter_gives.5 c.requires
