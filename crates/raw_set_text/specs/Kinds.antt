-- The words of what can be wrong with a line of the text of a set.
use Rattle.std.specs.Prelude.{ℕ, List, codes}
use Rattle.raw_asm.specs.Kinds.{asm_text}
use Rattle.raw_set_text.specs.declared.kind.SetKind.{SetKind}
use Rattle.raw_set_text.specs.declared.kind.SetKind.TheVariants.{NotAscii, LineTooLong, Missing, BadLine, BadSize, OffGrid, PortOffEdge, DoublePort, UndeclaredEdge, Repeated, OverLimit, Asm}

abbrev pub set_kind_text : SetKind → List ℕ
set_kind_text NotAscii = codes "not-ascii"
set_kind_text LineTooLong = codes "line-too-long"
set_kind_text Missing = codes "missing"
set_kind_text BadLine = codes "bad-line"
set_kind_text BadSize = codes "bad-size"
set_kind_text OffGrid = codes "off-grid"
set_kind_text PortOffEdge = codes "port-off-edge"
set_kind_text DoublePort = codes "double-port"
set_kind_text UndeclaredEdge = codes "undeclared-edge"
set_kind_text Repeated = codes "repeated"
set_kind_text OverLimit = codes "over-limit"
set_kind_text (Asm kind) = asm_text kind
