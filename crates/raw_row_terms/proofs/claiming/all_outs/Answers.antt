use Rattle.std.proofs.Common.{rules, ◌≡◌, ◌<◌, ◌^◌, ◌-◌, List, [], map, Some, Err, sym, subst}
use Rattle.std.specs.Prelude.{slice_get}
use Rattle.std.specs.List.{All, range_with_len}
use Rattle.raw_flow.specs.declared.node.Node.{Node}
use Rattle.raw_flow.specs.declared.node.Node.TheVariants.{Const}
use Rattle.raw_flow.specs.Flows.{AreNodes}
use Rattle.raw_stream.specs.Streams.{Stream, plain, first_words}
use Rattle.raw_stream.proofs.Unrolled.{are_plain}
use Rattle.raw_term.specs.declared.refusal.TermRefusal.TheVariants.{TooMany}
use Rattle.raw_term.specs.Terms.{Overflows}
use Rattle.raw_term.specs.Claims.{ClaimTerms}
use Rattle.raw_row_terms.specs.RowTerms.{placed}
use Rattle.raw_row_terms.specs.RowClaims.{row_numbers, first_terms}
use Rattle.raw_row_terms.specs.WordRuns.{runs_from, number_in}
use Rattle.raw_row_terms.proofs.Firsts.{const_node, first_are_words}
use Rattle.raw_row_terms.proofs.Words.{numbers_small}
use Rattle.raw_row_terms.proofs.Rows.{rows_over}
use Rattle.raw_row_terms.proofs.claiming.all_outs.Goals as goal

pub place-requires : goal.place-requires
place-requires c = λ v node e.
    let s : Stream = c.args.stream.now in
    let is : c.deref-3.result.now ≡ map (λ word. Const word) (first_words s) = search rules in
    const_node (first_words s) (first_are_words s c.requires.rows.named) v v node (subst (λ (ns : List Node). slice_get ns v ≡ Some node) is e)

pub returns-in_err-carried-clause-too_many : goal.returns-in_err-carried-clause-too_many
returns-in_err-carried-clause-too_many c = λ e.
    let s : Stream = c.args.stream.now in
    let is : c.deref-3.result.now ≡ map (λ word. Const word) (first_words s) = search rules in
    let err : c.place.result ≡ Err TooMany = search (rules, e, c.from_residual-in_err-carried.ensures, c.in_err-carried.is, c.branch-carried.ensures) in
    let over : Overflows (first_terms s c.args.table.now).nodes = subst (λ (ns : List Node). Overflows (placed c.args.table.now [] ns).nodes) is (c.place.ensures.too_many err) in
    let first : ClaimTerms = first_terms s c.args.table.now in
    rows_over s first.nodes first.numbers (map (row_numbers s) (range_with_len 0 (s.count - 0))) over

pub outs_from-requires-clause-nodes : goal.outs_from-requires-clause-nodes
outs_from-requires-clause-nodes c =
    let s : Stream = c.args.stream.now in
    let is : c.deref-5.result.now ≡ map plain s.nodes = search rules in
    subst AreNodes (sym is) (are_plain s c.requires.rows.named)

pub outs_from-requires-clause-few : goal.outs_from-requires-clause-few
outs_from-requires-clause-few c = λ r lt.
    let s : Stream = c.args.stream.now in
    let is : c.deref-4.result.now ≡ runs_from s 0 s.nodes = search rules in
    subst (All (λ run. number_in r run < 2 ^ 32)) (sym is) (numbers_small s c.requires.rows.named c.requires.few r lt)
