use Rattle.std.proofs.Common.{List, Err, ap, sym, subst}
use Rattle.raw_codegen.specs.Parts.{Part}
use Rattle.raw_codegen.specs.Limits.{Overflows}
use Rattle.raw_route.specs.Hauls.{Haulage}
use Rattle.raw_route.proofs.HaulParts.{send_parts}
use Rattle.raw_route.proofs.giving.give_send.Goals as goal

pub returns-in_err-give_tile-clause-too_many : goal.returns-in_err-give_tile-clause-too_many
returns-in_err-give_tile-clause-too_many c = λ n e.
    let k = rw e at c.from_residual-in_err-give_tile.ensures in
    let full = c.in_err-give_tile.ensures.too_many n (ap (λ r. Err r) (sym k.1)) in
    subst (λ (ps : List Part). Overflows n ps c.args.programs.now)
    (send_parts c.haul.inside.from c.args.haul.now.from c.args.haul.now.net c.haul.inside.net c.args.word c.register_of-register.result c.registers-send.result
    (ap (λ (h : Haulage). h.from) c.haul.view_is) (ap (λ (h : Haulage). h.net) c.haul.view_is) c.registers-send.ensures c.register_of-register.ensures.value)
    (c.law_giving.ensures.later n _ _ _ _ (c.in_ok-give_load.ensures.gives n) full)
