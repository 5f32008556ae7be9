use Rattle.std.proofs.Common.{◌≡◌, ◌∙◌, ◌<◌, ℕ, length, get_or, map, None, sym, arith}
use Rattle.std.proofs.lemmas.List.{length-map, length-set, get_or-map}
use Rattle.std.proofs.lemmas.List.Edits.{fill_by_more}
use Rattle.std.proofs.lemmas.Grind.{same_number_lists}
use Rattle.raw_switch_asm.specs.Route.{route_code}
use Rattle.raw_switch_asm.proofs.routes.route_codes.Goals as goal

pub loop-output-preserved : goal.loop-output-preserved
loop-output-preserved c =
    let codes = c.loop-output.codes in
    let sources = c.args.sources.now in
    let output = c.loop-output.output in
    let ten = c.loop-output.invariant.ten in
    let long = length-set codes output c.route_code.result in
    record {
      ten = omega arith;
      read = rw c.route_code.ensures.code (fill_by_more (λ k. route_code (get_or sources k None)) codes output 0 (omega arith) c.loop-output.invariant.read);
    }

pub returns-clause-codes : goal.returns-clause-codes
returns-clause-codes c =
    let sources = c.args.sources.now in
    let codes = c.loop-output.codes in
    let ten = c.loop-output.invariant.ten in
    let long = length-map sources route_code in
    let same : (k : ℕ) → k < length codes → get_or codes k 0 ≡ get_or (map route_code sources) k 0 =
    λ k below. c.loop-output.invariant.read k (omega arith) ∙ sym (get_or-map route_code sources k None 0 (omega arith)) in
    same_number_lists codes (map route_code sources) (omega arith) same
