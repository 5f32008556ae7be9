-- The text of what was found, part by part.
use Rattle.std.proofs.Common.{◌≡◌, ℕ, ◌+◌, ◌<◌, List, ◌++◌, length, get_or, drop, Option, None, Some, refl, sym, ap, ap₂, ◌∙◌, subst, arith}
use Rattle.std.specs.Prelude.{codes, decimal, option_map}
use Rattle.std.proofs.lemmas.List.{at_drop_more}
use Rattle.raw_model.specs.Program.{ProgramSet}
use Rattle.raw_depth.specs.Verdicts.{verdict_by, verdict}
use Rattle.raw_depths.specs.declared.found.AtDepth.{AtDepth}
use Rattle.raw_depths.specs.declared.found.ValueDeadlock.{ValueDeadlock}
use Rattle.raw_depths.specs.declared.found.Depths.{Depths}
use Rattle.raw_depths.specs.Text.{depth_line, depth_lines, same_from, same_line, fastest_from, fastest_line, verdict_lines}
use Rattle.raw_outcome.specs.Told.{word_of}
use Rattle.raw_depths.specs.Found.{lines_of, AreDepths}
use Rattle.raw_depths.proofs.Fastest.{fastest_from_is}
use Rattle.raw_depths.proofs.Reports.{same_from_is}

-- the lines of what is left of the depths: that of the next one, and those of the others
pub lines_next : (xs rests : List AtDepth) (i d : ℕ) (x : AtDepth) → xs ≡ rests → i < length xs
    → lines_of d (drop i rests) ≡ depth_line d (word_of (get_or xs i x).outcome) (get_or xs i x).steps (get_or xs i x).cycles
    ++ lines_of (d + 1) (drop (i + 1) rests)
lines_next xs rests i d x same lt =
    subst (λ ys. lines_of d (drop i ys) ≡ depth_line d (word_of (get_or xs i x).outcome) (get_or xs i x).steps (get_or xs i x).cycles
    ++ lines_of (d + 1) (drop (i + 1) ys)) same
    (at_drop_more (lines_of d) xs i x lt)

module _ (set : ProgramSet) (found : Depths) (are : AreDepths set found) where
  pub lines_are : lines_of 1 found.rests.items ≡ depth_lines set
  unfolding depth_lines
  lines_are = are.lines

  pub same_is : same_line found.same_from ≡ same_line (same_from set)
  same_is = ap same_line (same_from_is set found.same_from (are.same (omega arith)))

  pub fastest_is : fastest_line found.fastest_from ≡ fastest_line (fastest_from set)
  fastest_is = ap fastest_line (fastest_from_is set found.fastest_from (are.fastest (omega arith)))

  -- the verdict by what was found
  verdict_is : verdict_by found.done_from (option_map (λ (deadlock : ValueDeadlock). deadlock.depth) found.deadlock) ≡ verdict set
  unfolding verdict
  verdict_is = ap₂ verdict_by are.done are.cycle

  by_found : (from : Option ℕ) (deadlock : Option ValueDeadlock) → found.done_from ≡ from → found.deadlock ≡ deadlock
      → verdict_lines set (verdict_by from (option_map (λ (deadlock : ValueDeadlock). deadlock.depth) deadlock)) ≡ verdict_lines set (verdict set)
  by_found from deadlock first second =
      ap₂ (λ x (y : Option ValueDeadlock). verdict_lines set (verdict_by x (option_map (λ (deadlock : ValueDeadlock). deadlock.depth) y))) (sym first) (sym second)
      ∙ ap (verdict_lines set) verdict_is

  pub done_text : (d : ℕ) → found.done_from ≡ Some d → codes "done from " ++ decimal d ++ codes "\n" ≡ verdict_lines set (verdict set)
  unfolding verdict_lines
  done_text d is = by_found (Some d) found.deadlock is refl

  pub never_text : (deadlock : ValueDeadlock) → found.done_from ≡ None → found.deadlock ≡ Some deadlock
      → verdict_lines set (verdict set) ≡ (codes "never done, deadlock from " ++ decimal deadlock.depth ++ codes "\n") ++ deadlock.waits.items
  unfolding verdict_lines
  never_text deadlock none is =
      sym (by_found None (Some deadlock) none is)
      ∙ ap (λ lines. (codes "never done, deadlock from " ++ decimal deadlock.depth ++ codes "\n") ++ lines) (sym (are.waits deadlock is))

  pub not_done_text : found.done_from ≡ None → found.deadlock ≡ None → codes "not done up to 7\n" ≡ verdict_lines set (verdict set)
  unfolding verdict_lines
  not_done_text none is = by_found None None none is
