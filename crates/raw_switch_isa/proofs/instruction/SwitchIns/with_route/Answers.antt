use Rattle.std.proofs.Common.{sym, subst}
use Rattle.raw_switch_isa.specs.Instruction.{SwitchInstruction}
use Rattle.raw_switch_isa.specs.Made.{IsNewRoute}
use Rattle.raw_switch_isa.proofs.Routed.{routed_rules}
use Rattle.raw_switch_isa.proofs.instruction.SwitchIns.with_route.Goals as goal

pub invariant_of-result : goal.invariant_of-result
invariant_of-result c =
    let is_new = subst (λ (ins : SwitchInstruction). IsNewRoute ins c.args.output c.args.source) (sym c.self.view_is) c.requires in
    routed_rules _ c.args.output c.in-Input.input c.args.source c.self.invariant is_new
