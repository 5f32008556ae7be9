use Rattle.std.proofs.Common.{◌≡◌, None, IfSome, All}
use Rattle.raw_asm.specs.Tokens.{tokens_of}
use Rattle.raw_switch_isa.specs.Ends.{IsSource}
use Rattle.raw_switch_asm.specs.Route.{fault_upto}
use Rattle.raw_switch_asm.proofs.Sources.{IsTable}
use Rattle.raw_switch_asm.proofs.routes.sources.Given as goal

abbrev pub invariant-loop-place : goal.invariant-loop-place
invariant-loop-place l = record {
  table : IsTable (tokens_of l.tokens) l.place l.sources;
  sound : All (λ source. IfSome source IsSource) l.sources;
  faultless : fault_upto (tokens_of l.tokens) l.place ≡ None;
}
