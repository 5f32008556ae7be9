use Rattle.std.proofs.Common.{◌≡◌, Some, sym, ap, ◌∙◌, arith}
use Rattle.std.specs.Prelude.{◌==◌}
use Rattle.std.specs.List.{list_any}
use Rattle.raw_switch_isa.specs.Table.{uses, is_src}
use Rattle.raw_switch_isa.specs.Code.{bits_where}
use Rattle.raw_switch_isa.proofs.Words.{limits, IsRead, is_read, is_kept, same_read, same_routes, no_seven}
use Rattle.raw_switch_isa.proofs.code.fields_of.Goals as goal

pub returns-then-src-gt13 : goal.returns-then-src-gt13
returns-then-src-gt13 c = λ ins code same.
    let read = is_read ins c.args.word code in
    let used = c.uses_src.ensures ∙ ap (uses is_src) (sym same) in
    let src : c.bits_where-src.result ≡ ins.src = c.bits_where-src.ensures.value ∙ ap (λ used. bits_where used c.args.word 54 16) used ∙ sym read.src in
    let below = (limits ins code.rules).src in
    absurd (omega arith)

pub returns-then-contains : goal.returns-then-contains
returns-then-contains c = λ ins code same.
    let here = c.routes_of-routes.ensures in
    let read = is_read ins c.args.word code in
    let routes = same_routes c.args.word c.routes_of-routes.result ins.routes here.ten here.codes read.ten read.routes in
    let none = no_seven ins.routes code.rules.codes in
    let found = ap (λ codes. list_any (λ code. code == 7) codes) routes in
    cc (c.contains.ensures.value, c.if-contains.true)

-- what the function reads stands in the word
stands : (c : goal.After-bits_where-3) → IsRead c.args.word (record {
  op = c.args.op;
  rd = c.bits_where.result;
  src = c.bits_where-src.result;
  target = c.bits_where-2.result;
  rsel = c.bits_where-3.result;
  routes = c.routes_of-routes.result;
})
stands c = record {
  rd = c.bits_where.ensures.value ∙ ap (λ used. bits_where used c.args.word 58 4) c.uses_rd.ensures;
  src = c.bits_where-src.ensures.value ∙ ap (λ used. bits_where used c.args.word 54 16) c.uses_src.ensures;
  target = c.bits_where-2.ensures.value ∙ ap (λ used. bits_where used c.args.word 38 65536) c.uses_target.ensures;
  rsel = c.bits_where-3.ensures.value ∙ ap (λ used. bits_where used c.args.word 36 4) c.contains-2.ensures.value;
  ten = c.routes_of-routes.ensures.ten;
  routes = c.routes_of-routes.ensures.codes;
}

pub invariant_of-result : goal.invariant_of-result
invariant_of-result c = is_kept c.args.word _ (stands c) (omega arith) (sym c.contains.ensures.value ∙ c.if-contains.false)

pub returns : goal.returns
returns c = λ ins code same. ap Some (same_read c.args.word _ ins (sym same) (stands c) (is_read ins c.args.word code))
