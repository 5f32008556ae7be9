use Rattle.std.proofs.Common.{◌<◌, IfSome, map}
use Rattle.std.proofs.lemmas.List.Elements.{recursion_from_All, All-from_recursion}
use Rattle.raw_switch_isa.specs.Ends.{IsSource}
use Rattle.raw_switch_asm.specs.Route.{route_code}
use Rattle.raw_switch_asm.proofs.Sources.{register_field, codes_small}
use Rattle.raw_switch_asm.proofs.statement.with_sources.Goals as goal

pub invariant_of-result : goal.invariant_of-result
invariant_of-result c =
    let sources = c.args.sources in
    let sound = recursion_from_All (λ source. IfSome source IsSource) sources c.requires in
    record {
      rd = c.ins.invariant.rd;
      src = c.ins.invariant.src;
      target = c.ins.invariant.target;
      rsel = rw (c.sent_register-rsel.ensures, c.route_codes.ensures.codes) (register_field sources sound);
      ten = c.route_codes.ensures.ten;
      codes = rw c.route_codes.ensures.codes (All-from_recursion (λ code. code < 7) (map route_code sources) (codes_small sources));
    }
