use Rattle.std.proofs.Common.{◌≡◌, true, take}
use Rattle.std.specs.List.{list_all, filter_map}
use Rattle.std.specs.Option.{is_some}
use Rattle.raw_text.specs.Number.{number_of}
use Rattle.raw_asm.specs.Tokens.{tokens_of}
use Rattle.raw_set_text.proofs.forms.numbers.Given as goal

abbrev pub invariant-loop-place : goal.invariant-loop-place
invariant-loop-place l = record {
  numbers : list_all (λ token. is_some (number_of token)) (take l.place (tokens_of l.tokens)) ≡ true;
  read : l.numbers.items ≡ filter_map number_of (take l.place (tokens_of l.tokens));
}
