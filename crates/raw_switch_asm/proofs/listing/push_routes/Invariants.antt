use Rattle.std.proofs.Common.{◌≡◌, ◌++◌}
use Rattle.std.specs.Prelude.{string_bytes}
use Rattle.raw_switch_asm.specs.Listing.{routes_text}
use Rattle.raw_switch_asm.proofs.Written.{routes_from}
use Rattle.raw_switch_asm.proofs.listing.push_routes.Given as goal

abbrev pub invariant-loop-output : goal.invariant-loop-output
invariant-loop-output l = string_bytes l.text ++ routes_from l.ins l.output ≡ string_bytes l.fn.text ++ routes_text l.ins
