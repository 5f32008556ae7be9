use Rattle.std.proofs.Common.{Err, ap, sym}
use Rattle.raw_flow.specs.Compiled.{tiles_in}
use Rattle.raw_flow.specs.Places.{with_value}
use Rattle.raw_flow.proofs.Parts.{apply_given, front_full, next_full, block_full}
use Rattle.raw_flow.proofs.giving.give_apply.Goals as goal

pub returns-in_err-move_value-clause-too_many : goal.returns-in_err-move_value-clause-too_many
returns-in_err-move_value-clause-too_many c = λ held are e.
    let k = rw e at c.from_residual.ensures in
    front_full c.law_giving.ensures c.args.flow.now c.args.ports.now held c.args.v c.args.op c.args.a c.args.b c.home-t.result c.home-t.ensures.value c.args.programs.now
    (c.in_err-move_value.ensures.too_many held are (ap (λ r. Err r) (sym k.1)))

pub returns-in_err-move_value-2-clause-too_many : goal.returns-in_err-move_value-2-clause-too_many
returns-in_err-move_value-2-clause-too_many c = λ held are e.
    let k = rw e at c.from_residual-in_err-move_value-2.ensures in
    let t = c.home-t.result in
    let x = c.in_ok-move_value.ensures.moved held are in
    next_full c.law_giving.ensures c.args.flow.now c.args.ports.now held c.args.v c.args.op c.args.a c.args.b t c.home-t.ensures.value c.args.programs.now c.move_value.new.programs x.gives
    (c.in_err-move_value-2.ensures.too_many (with_value held c.args.a t) x.marked (ap (λ r. Err r) (sym k.1)))

pub returns-in_err-give_operation-clause-too_many : goal.returns-in_err-give_operation-clause-too_many
returns-in_err-give_operation-clause-too_many c = λ held are e.
    let k = rw e at c.from_residual-in_err-give_operation.ensures in
    let t = c.home-t.result in
    let x = c.in_ok-move_value.ensures.moved held are in
    let y = c.in_ok-move_value-2.ensures.moved (with_value held c.args.a t) x.marked in
    block_full c.law_giving.ensures c.args.flow.now c.args.ports.now held c.args.v c.args.op c.args.a c.args.b t c.home-t.ensures.value c.args.programs.now c.move_value.new.programs c.move_value-2.new.programs x.gives y.gives
    (c.in_err-give_operation.ensures.too_many (tiles_in c.args.flow.now) (ap (λ r. Err r) (sym k.1)))

pub returns-clause-given : goal.returns-clause-given
returns-clause-given c = λ held are.
    let t = c.home-t.result in
    let x = c.in_ok-move_value.ensures.moved held are in
    let y = c.in_ok-move_value-2.ensures.moved (with_value held c.args.a t) x.marked in
    apply_given c.law_giving.ensures c.args.flow.now c.args.ports.now held c.args.v c.args.op c.args.a c.args.b t c.home-t.ensures.value
    c.args.programs.now c.move_value.new.programs c.move_value-2.new.programs c.give_operation.new.programs c.move_value.new.places c.move_value-2.new.places c.put.new.self x y
    (c.in_ok-give_operation.ensures.gives (tiles_in c.args.flow.now)) (c.put.ensures c.args.flow.now (with_value (with_value held c.args.a t) c.args.b t) y.marked)
