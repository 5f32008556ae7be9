use Rattle.std.proofs.Common.{◌≡◌, ◌*◌, ◌^◌, ◌<◌, take}
use Rattle.std.specs.Int.Digits.{number_from_digits}
use Rattle.raw_switch_isa.proofs.code.routes_word.Given as goal

-- the codes so far are the digits of the word to base 8
abbrev pub invariant-loop-code : goal.invariant-loop-code
invariant-loop-code l = record {
  digits : l.word ≡ number_from_digits 8 (take l.code-index l.routes);
  small : l.word < 2 ^ (3 * l.code-index);
}
