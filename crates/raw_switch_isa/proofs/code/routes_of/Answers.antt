use Rattle.std.proofs.Common.{◌-◌, ◌*◌, ◌/◌, ◌^◌, rules, arith}
use Rattle.std.proofs.lemmas.Nat.{and_mask}
use Rattle.std.proofs.lemmas.List.Edits.{fill_by_more}
use Rattle.raw_switch_isa.specs.Code.{route_at}
use Rattle.raw_switch_isa.proofs.code.routes_of.Goals as goal

pub loop-output-preserved : goal.loop-output-preserved
loop-output-preserved c = record {
  ten = search rules;
  read = rw (and_mask (c.args.word / 2 ^ (33 - 3 * c.loop-output.output)) 3)
      (fill_by_more (route_at c.args.word) c.loop-output.routes c.loop-output.output 0 (omega arith) c.loop-output.invariant.read);
}
