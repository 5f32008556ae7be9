use Rattle.std.proofs.Common.{◌<◌, rules, sym, ap, subst}
use Rattle.raw_fabric_rule.proofs.Looks.{looks_at}
use Rattle.raw_fabric_rule.proofs.table.look.Goals as goal

pub load-requires : goal.load-requires
load-requires c = (
  search rules,
  subst (λ i. i < c.args.words.now.table_id.words) (sym c.status_at-at.ensures) c.requires.within,
  looks_at _ _ _ _ _ _ c.status_at-at.ensures,
)

pub returns-clause-seat : goal.returns-clause-seat
returns-clause-seat c =
    let e = c.load.ensures in
    let me = (e.2 c.args.q c.status_at-at.ensures).0 in
    record { same = record { table = e.0; number = e.1; slots = ap (λ m. m.1) me }; view_is = ap (λ m. m.0) me }

pub returns-clause-tells : goal.returns-clause-tells
returns-clause-tells c = (c.load.ensures.2 c.args.q c.status_at-at.ensures).1
