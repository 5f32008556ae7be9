use Rattle.std.proofs.Common.{◌≡◌, ◌++◌, drop}
use Rattle.std.specs.Prelude.{string_bytes}
use Rattle.raw_switch_asm.specs.Listing.{listing}
use Rattle.raw_switch_asm.proofs.listing.list_switch.Given as goal

abbrev pub invariant-loop-ins : goal.invariant-loop-ins
invariant-loop-ins l = string_bytes l.text ++ listing (drop l.ins-index l.code) ≡ listing l.code
