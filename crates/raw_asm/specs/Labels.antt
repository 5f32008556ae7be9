-- A table of labels, and what it stands for.
use Rattle.std.specs.Prelude.{◌≡◌, ℕ, ◌<◌, List, Option, length, slice_get, slice_index}
use Rattle.std.specs.Option.{option_and_then}
use Rattle.std.specs.List.{position}
use Rattle.raw_asm.specs.NameTable.{value_in}
use Rattle.raw_asm.specs.declared.label_table.Labels.{Labels}
use Rattle.raw_asm.specs.Language.{Language}
use Rattle.raw_asm.specs.Section.{has_label, place_of}

-- the place that a table has for a name
unfoldable pub place_in : Labels → List ℕ → Option ℕ
place_in labels name = option_and_then (λ line. slice_get labels.starts.items line) (value_in labels.lines name)

-- the table has the first line of each label, and the place of each line
pub record StandsFor {I : Type 0} (language : Language I) (labels : Labels) (lines : List (List (List ℕ))) : Type 0 where
  pub first_lines : (name : List ℕ) → value_in labels.lines name ≡ position (has_label name) lines
  pub count : length labels.starts.items ≡ length lines
  pub starts : (k : ℕ) → k < length lines → slice_index labels.starts.items k ≡ place_of language lines k
