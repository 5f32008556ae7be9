-- The last line of live output, which says how the grid came to rest.
use Rattle.std.specs.Prelude.{ℕ, List, ◌++◌, codes}
use Rattle.raw_model.specs.declared.ending.Ending.{Ending}
use Rattle.raw_model.specs.Texts.{ending_word}

-- the last line of live output
abbrev pub rest_text : Ending → List ℕ
rest_text ending = codes "rest " ++ (ending_word ending ++ codes "\n")
