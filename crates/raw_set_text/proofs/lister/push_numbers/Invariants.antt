use Rattle.std.proofs.Common.{◌≡◌, ◌++◌, drop, map}
use Rattle.std.specs.Prelude.{string_bytes}
use Rattle.std.specs.Fmt.{decimal}
use Rattle.raw_set_text.specs.Listing.{spaced}
use Rattle.raw_set_text.proofs.lister.push_numbers.Given as goal

abbrev pub invariant-loop-turns : goal.invariant-loop-turns
invariant-loop-turns l = string_bytes l.text ++ spaced (map decimal (drop l.turns-index l.numbers)) ≡ string_bytes l.fn.text ++ spaced (map decimal l.numbers)
