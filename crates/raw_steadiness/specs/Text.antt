-- The line that says whether the clock of a set is the same with all words, and if that is not shown why.
use Rattle.std.specs.Prelude.{ℕ, List, ◌++◌, codes, decimal}
use Rattle.raw_steadiness.specs.declared.steadying.Steadiness.{Steadiness}
use Rattle.raw_steadiness.specs.declared.steadying.Steadiness.TheVariants.{Steady, Hangs, TooMany}

-- the line of a set that is steady, and has so many cycles
unfoldable pub steady_line : ℕ → List ℕ
steady_line cycles = codes "steady cycles " ++ decimal cycles ++ codes "\n"

-- the line of a step that wants a word of an input
unfoldable pub unsteady_line : ℕ → ℕ → List ℕ
unsteady_line step p = codes "unsteady at " ++ decimal step ++ codes ": " ++ decimal p ++ codes " hangs on an input\n"

-- the line of a run that needs too many terms
unfoldable pub too_many_line : List ℕ
too_many_line = codes "unsteady: too many terms\n"

-- the line of what is said
abbrev pub steadiness_text : Steadiness → List ℕ
steadiness_text (Steady cycles) = steady_line cycles
steadiness_text (Hangs step p) = unsteady_line step p.0
steadiness_text TooMany = too_many_line
