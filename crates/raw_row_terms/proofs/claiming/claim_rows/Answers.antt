use Rattle.std.proofs.Common.{ap, ◌∙◌}
use Rattle.std.specs.List.{filter_map, flat_map}
use Rattle.raw_stream.specs.Streams.{due_of}
use Rattle.raw_row_terms.specs.RowClaims.{all_terms}
use Rattle.raw_row_terms.proofs.Rows.{due_in_order}
use Rattle.raw_row_terms.proofs.claiming.claim_rows.Goals as goal

pub returns-clause-due : goal.returns-clause-due
returns-clause-due c =
    c.in_ok-due.ensures
    ∙ ap (λ outs. flat_map (λ q. filter_map (due_of q) outs) c.args.order.now) (c.deref.ensures.value ∙ c.in_ok-outs.ensures.outs)
    ∙ due_in_order c.args.stream.now (all_terms c.args.stream.now c.args.table.now).values c.args.order.now
