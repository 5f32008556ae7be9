use Rattle.std.proofs.Common.{◌<◌, rules, sym, ap, ◌∙◌, subst}
use Rattle.raw_fabric_rule.specs.Word.{data_at}
use Rattle.raw_fabric_rule.specs.Plays.{staged}
use Rattle.raw_fabric_rule.proofs.Data.{stages}
use Rattle.raw_fabric_rule.proofs.table.stage.Goals as goal

pub store-requires : goal.store-requires
store-requires c =
    let at = c.data_at-at.ensures in
    let r = c.requires in (
      search rules,
      subst (λ i. i < c.args.words.now.table_id.words) (sym at) r.within,
      stages _ _ _ _ _ _ _ _ (at ∙ ap (λ n. data_at n c.args.wire c.args.k) r.processors) r.may,
    )

pub returns : goal.returns
returns c =
    let e = c.store.ensures in
    let v = c.args.seat.now.me.0 in
    let me = e.2 in
    record { seat = record { same = record { table = e.0; number = e.1; slots = ap (λ m. m.1) me }; view_is = ap (λ m. m.0) me ∙ ap (λ i. staged i c.args.value v) c.data_at-at.ensures } }
