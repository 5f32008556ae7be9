-- Which words ask for answers line by line.
use Rattle.std.specs.Prelude.{ℕ, Bool, false, List, [], ◌∷◌, codes, if◌then◌else◌}
use Rattle.std.specs.Str.{bytes_eq}

abbrev pub asks_live : List (List ℕ) → Bool
asks_live [] = false
asks_live (command ∷ []) = false
asks_live (command ∷ option ∷ []) = if bytes_eq command (codes "debug") then bytes_eq option (codes "--live") else false
asks_live (command ∷ option ∷ third ∷ more) = false
