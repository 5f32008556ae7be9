use Rattle.std.proofs.Common.{◌<◌, rules, sym, ap, subst}
use Rattle.raw_fabric_rule.proofs.Fire.{fires_at, commit_is_step}
use Rattle.raw_fabric_rule.proofs.table.commit.Goals as goal

pub store-requires : goal.store-requires
store-requires c = (
  search rules,
  subst (λ i. i < c.args.words.now.table_id.words) (sym c.status_at-at.ensures) c.requires.within,
  fires_at _ _ _ _ _ _ _ c.status_at-at.ensures c.requires.may,
)

pub returns-clause-seat : goal.returns-clause-seat
returns-clause-seat c =
    let e = c.store.ensures in
    let me = (e.2 c.args.p c.status_at-at.ensures).0 in
    record { same = record { table = e.0; number = e.1; slots = ap (λ m. m.1) me }; view_is = ap (λ m. m.0) me }

pub returns-clause-committed : goal.returns-clause-committed
returns-clause-committed c =
    let then = c.store.ensures.2 c.args.p c.status_at-at.ensures in
    record { stood = then.2; step = commit_is_step _ _ _ _ c.requires.may; words = then.1 }
