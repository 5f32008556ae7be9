-- Which command the words are.
use Rattle.std.specs.Prelude.{ℕ, List, [], ◌∷◌, codes, Option, Some, None, if◌then◌else◌}
use Rattle.std.specs.Option.{option_map, option_and_then}
use Rattle.std.specs.Str.{bytes_eq}
use Rattle.raw_text.specs.Number.{number_of}
use Rattle.raw_shell.specs.Arguments.{fixed_text, workers_of}
use Rattle.raw_live_run.specs.declared.arguments.Command.{Command}
use Rattle.raw_live_run.specs.declared.arguments.Command.TheVariants.{Fixed, Feed}

-- the command that one word is
abbrev pub alone_of : List ℕ → Option Command
alone_of word = option_map Fixed (fixed_text word)

-- feeding a grid with so many workers
abbrev pub with_workers : Option ℕ → Option Command
with_workers n = option_map (λ workers. Feed (Some workers)) (option_and_then workers_of n)

-- the command that the words are: with none a grid is fed
abbrev pub command_of : List (List ℕ) → Option Command
command_of [] = Some (Feed None)
command_of (word ∷ []) = alone_of word
command_of (option ∷ count ∷ []) = if bytes_eq option (codes "--workers") then with_workers (number_of count) else None
command_of (word ∷ option ∷ count ∷ more) = None
