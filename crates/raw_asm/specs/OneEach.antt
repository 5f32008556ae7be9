-- Sections whose lines give one instruction each.
use Rattle.std.specs.Prelude.{◌≡◌, ℕ, ◌<◌, ◌≤◌, List, [], ◌∷◌, length, Option, None, Ok, slice_index_or}
use Rattle.raw_asm.specs.Names.{label_of}
use Rattle.raw_asm.specs.Language.{Language}
use Rattle.raw_asm.specs.Section.{IsMeaning}

-- each line is a statement without a label, which gives the instruction of the program at the place of the
-- line, wherever the labels stand
pub record AreOneEach {I : Type 0} (language : Language I) (lines : List (List (List ℕ))) (program : List I) : Type 0 where
  pub count : length lines ≡ length program
  pub few : length program ≤ language.most
  pub no_label : (k : ℕ) → k < length program → label_of (slice_index_or lines k []) ≡ None
  pub size : (k : ℕ) → k < length program → language.size (slice_index_or lines k []) ≡ 1
  pub code : (labels : List ℕ → Option ℕ) (k : ℕ) (ins : I) → k < length program →
      language.code labels k (slice_index_or lines k []) ≡ Ok (slice_index_or program k ins ∷ [])

-- such lines mean the program
abbrev pub OneEachMeans : {I : Type 0} → Language I → Type 0
OneEachMeans {I = I} language = (lines : List (List (List ℕ))) (program : List I) → AreOneEach language lines program → IsMeaning language lines program
