use Rattle.std.proofs.Common.{◌≡◌, ◌∙◌, ◌++◌, ◌+◌, sym, ap, arith}
use Rattle.std.specs.Prelude.{string_bytes}
use Rattle.raw_switch_isa.specs.Ends.{route_source}
use Rattle.raw_switch_asm.specs.Listing.{routed_text}
use Rattle.raw_switch_asm.proofs.Written.{routes_from, routes_next, routes_done}
use Rattle.raw_switch_asm.proofs.listing.push_routes.Goals as goal

pub loop-output-preserved : goal.loop-output-preserved
loop-output-preserved c =
    let ins = c.args.ins in
    let output = c.loop-output.output in
    let text = string_bytes c.loop-output.text in
    let written : string_bytes c.push_routed.new.text ≡ text ++ routed_text output (route_source ins output) = c.in_ok-push_routed.ensures ∙ ap (λ source. text ++ routed_text output source) c.route_source.ensures.source in
    ap (λ t. t ++ routes_from ins (output + 1)) written ∙ routes_next ins output text c.loop-output-test.true ∙ c.loop-output.invariant

pub returns : goal.returns
returns c = sym (routes_done c.args.ins c.loop-output.output (string_bytes c.loop-output.text) (omega arith)) ∙ c.loop-output.invariant
