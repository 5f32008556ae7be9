use Rattle.std.proofs.Common.{◌<◌, rules, sym, ap, ◌∙◌, subst}
use Rattle.raw_fabric_rule.specs.Word.{data_at}
use Rattle.raw_fabric_rule.specs.Plays.{fetched}
use Rattle.raw_fabric_rule.proofs.Data.{fetches}
use Rattle.raw_fabric_rule.proofs.table.fetch.Goals as goal

pub load-requires : goal.load-requires
load-requires c =
    let at = c.data_at-at.ensures in
    let r = c.requires in (
      search rules,
      subst (λ i. i < c.args.words.now.table_id.words) (sym at) r.within,
      fetches _ _ _ _ _ _ _ (at ∙ ap (λ n. data_at n c.args.wire c.args.k) r.processors) r.may,
    )

pub returns-clause-seat : goal.returns-clause-seat
returns-clause-seat c =
    let e = c.load.ensures in
    let v = c.args.seat.now.me.0 in
    let me = e.2.0 in
    record { same = record { table = e.0; number = e.1; slots = ap (λ m. m.1) me }; view_is = ap (λ m. m.0) me ∙ ap (λ i. fetched i c.load.result v) c.data_at-at.ensures }
