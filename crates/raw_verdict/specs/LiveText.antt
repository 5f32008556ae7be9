-- What is said of a set that never ends and a stream: for which numbers of rows it is proved, and how many words each sink lacks at most.
use Rattle.std.specs.Prelude.{ℕ, List, ◌++◌, codes, decimal}
use Rattle.std.specs.List.{flat_map}

-- so many words that a sink of the claim lacks, and of all sinks
unfoldable pub lack_text : ℕ → List ℕ
lack_text lack = codes " " ++ decimal lack

abbrev pub lacks_text : List ℕ → List ℕ
lacks_text lacks = flat_map lack_text lacks

-- so many rows at least and at most
unfoldable pub rows_text : ℕ → ℕ → List ℕ
rows_text least most = codes "proved rows " ++ decimal least ++ codes " to " ++ decimal most ++ codes " lack"

-- the line of a set that is proved for them, where this is told of what its sinks lack
unfoldable pub proved_rows_line : ℕ → ℕ → List ℕ → List ℕ
proved_rows_line least most lacks = rows_text least most ++ lacks ++ codes "\n"

-- the line of a set of which no proof was found
unfoldable pub no_cut_line : List ℕ
no_cut_line = codes "unproved: no cut\n"
