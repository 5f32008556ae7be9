-- The words of what can be wrong with a line behind `live`.
use Rattle.std.specs.Prelude.{ℕ, List, codes}
use Rattle.raw_live_text.specs.declared.fault.LineFault.{LineFault}
use Rattle.raw_live_text.specs.declared.fault.LineFault.TheVariants.{NotAscii, LineTooLong, BadLine, UndeclaredEdge, OverLimit}

abbrev pub line_fault_text : LineFault → List ℕ
line_fault_text NotAscii = codes "not-ascii"
line_fault_text LineTooLong = codes "line-too-long"
line_fault_text BadLine = codes "bad-line"
line_fault_text UndeclaredEdge = codes "undeclared-edge"
line_fault_text OverLimit = codes "over-limit"
