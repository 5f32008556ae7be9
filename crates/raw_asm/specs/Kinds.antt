-- The words of what can be wrong with a line of a section.
use Rattle.std.specs.Prelude.{ℕ, List, codes}
use Rattle.raw_asm.specs.declared.kind.AsmKind.{AsmKind}
use Rattle.raw_asm.specs.declared.kind.AsmKind.TheVariants.{DoubleLabel, UnknownName, BadOperand, RangeOf, NoLabel, BadWord, BadRoute, TwoSources, TwoRegisters, UndeclaredEdge, TooLong}

abbrev pub asm_text : AsmKind → List ℕ
asm_text DoubleLabel = codes "double-label"
asm_text UnknownName = codes "unknown-name"
asm_text BadOperand = codes "bad-operand"
asm_text RangeOf = codes "range-of"
asm_text NoLabel = codes "no-label"
asm_text BadWord = codes "bad-word"
asm_text BadRoute = codes "bad-route"
asm_text TwoSources = codes "two-sources"
asm_text TwoRegisters = codes "two-registers"
asm_text UndeclaredEdge = codes "undeclared-edge"
asm_text TooLong = codes "too-long"
