-- The labels of a text, as the places for which they stand.
use Rattle.std.specs.Prelude.{ℕ, List, take, Option}
use Rattle.raw_text.specs.Text.{text_lines}
use Rattle.raw_lines.specs.declared.placing.TextLabels.{TextLabels}
use Rattle.raw_lines.specs.Placing.{label_places}

-- the lines whose labels they are
abbrev pub lines_in : TextLabels → List (List (List ℕ))
lines_in labels = take labels.to (text_lines labels.text.now)

abbrev pub places_in : TextLabels → ℕ → List ℕ → Option ℕ
places_in labels = label_places labels.topo.now (lines_in labels)
