use Rattle.std.proofs.Common.{◌≡◌, Some, length, map}
use Rattle.std.specs.Prelude.{string_bytes}
use Rattle.raw_command_line.specs.Arguments.{options_of, with_words}
use Rattle.raw_command_line.proofs.arguments.options_of.Given as goal

abbrev pub invariant-options : goal.invariant-options
invariant-options l =
    options_of (map string_bytes l.fn.words) ≡ with_words (Some l.said) (map string_bytes l.rest)

abbrev pub decreases-options : goal.decreases-options
decreases-options l = length l.rest
