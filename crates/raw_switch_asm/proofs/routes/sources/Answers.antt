use Rattle.std.proofs.Common.{◌≡◌, ◌∙◌, ◌<◌, [], get_or, length, sym, ap, arith}
use Rattle.std.proofs.lemmas.Result.{err_from_is_err_and}
use Rattle.raw_asm.specs.Tokens.{tokens_of}
use Rattle.raw_switch_asm.specs.Route.{route_of}
use Rattle.raw_switch_asm.proofs.Sources.{next_by, fails_by, faultless_next, first_fails, table_done}
use Rattle.raw_switch_asm.proofs.routes.sources.Goals as goal

pub loop-place-preserved : goal.loop-place-preserved
loop-place-preserved c =
    let tokens = tokens_of c.args.tokens.now in
    let k = c.loop-place.place in
    let within : k < length tokens = omega arith in
    let route : route_of (get_or tokens k []) ≡ c.read_route.result = ap route_of (sym c.at.ensures) ∙ sym c.read_route.ensures.route in
    let next = next_by tokens k c.loop-place.sources within c.loop-place.invariant.table c.read_route.result route c.read_route.ensures.within c.in_ok-sources.sources (sym c.in_ok-sources.ensures.table) in
    record {
      table = next.0;
      sound = c.in_ok-sources.ensures.sound;
      faultless = faultless_next tokens k c.loop-place.invariant.faultless next.1;
    }

pub returns-in_err-sources-clause-table : goal.returns-in_err-sources-clause-table
returns-in_err-sources-clause-table c =
    let tokens = tokens_of c.args.tokens.now in
    let k = c.loop-place.place in
    let within : k < length tokens = omega arith in
    let route : route_of (get_or tokens k []) ≡ c.read_route.result = ap route_of (sym c.at.ensures) ∙ sym c.read_route.ensures.route in
    let kind = c.in_err-sources.field-0.0 in
    let fault = fails_by tokens k c.loop-place.sources within c.loop-place.invariant.table c.read_route.result route c.read_route.ensures.within kind (sym c.in_err-sources.ensures.table) in
    let p = err_from_is_err_and c.from_residual.result c.from_residual.ensures.1 in
    rw (p.1, p.2) (first_fails tokens k kind within c.loop-place.invariant.faultless fault)

pub returns-clause-table : goal.returns-clause-table
returns-clause-table c =
    let tokens = tokens_of c.args.tokens.now in
    table_done tokens c.loop-place.place c.loop-place.sources (omega arith) c.loop-place.invariant.table c.loop-place.invariant.faultless
