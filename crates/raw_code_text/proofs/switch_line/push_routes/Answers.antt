use Rattle.std.proofs.Common.{◌≡◌, ◌∙◌, ◌++◌, ◌+◌, sym, ap, arith}
use Rattle.raw_switch_isa.specs.Ends.{route_source}
use Rattle.raw_switch_asm.specs.Listing.{routed_text}
use Rattle.raw_switch_asm.proofs.Written.{routes_from, routes_next, routes_done}
use Rattle.raw_code_text.proofs.switch_line.push_routes.Goals as goal

pub loop-output-preserved : goal.loop-output-preserved
loop-output-preserved c =
    let ins = c.args.ins in
    let output = c.loop-output.output in
    let text = c.loop-output.line in
    let written : c.push_routed.new.line ≡ text ++ routed_text output (route_source ins output) = c.push_routed.ensures.text ∙ ap (λ source. text ++ routed_text output source) c.route_source.ensures.source in
    record {
      text = ap (λ t. t ++ routes_from ins (output + 1)) written ∙ routes_next ins output text c.loop-output-test.true ∙ c.loop-output.invariant.text;
      len = omega (arith, c.push_routed.ensures.len, c.loop-output.invariant.len);
    }

pub returns-clause-text : goal.returns-clause-text
returns-clause-text c =
    sym (routes_done c.args.ins c.loop-output.output c.loop-output.line (omega (arith, c.loop-output-test.false, c.loop-output.auto.output-end))) ∙ c.loop-output.invariant.text
