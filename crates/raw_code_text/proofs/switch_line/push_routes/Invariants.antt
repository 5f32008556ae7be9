use Rattle.std.proofs.Common.{◌≡◌, ◌+◌, ◌*◌, ◌≤◌, ◌++◌, length}
use Rattle.raw_switch_asm.specs.Listing.{routes_text}
use Rattle.raw_switch_asm.proofs.Written.{routes_from}
use Rattle.raw_code_text.proofs.switch_line.push_routes.Given as goal

abbrev pub invariant-loop-output : goal.invariant-loop-output
invariant-loop-output l = record {
  text : l.line ++ routes_from l.ins l.output ≡ l.fn.line ++ routes_text l.ins;
  len : length l.line ≤ length l.fn.line + 9 * l.output;
}
