use Rattle.std.proofs.Common.{◌+◌, ◌≤◌, ◌++◌, length, ap, ◌∙◌, arith, Result, Ok, Err}
use Rattle.std.specs.Result.{IsOk, OnOk}
use Rattle.raw_serial.proofs.Items.{change_item}
use Rattle.raw_serial.proofs.wires.Wires.refill.Goals as goal

-- what is so of a result that is a value
if_ok : {T E P : Type 0} (r : Result T E) → IsOk r → OnOk r P → P
if_ok (Ok x) is on = on
if_ok (Err e) is on = absurd (cc is)

pub returns : goal.returns
returns c =
    let all = ap length c.deref.ensures.0 in
    let none = ap length c.clear.ensures in
    let room : length c.deref.result.now ≤ 8 = c.deref.ensures.1 in
    let fits : length c.clear.new.self.items + length c.deref.result.now ≤ 8 = omega (arith, all, none, room) in
    change_item (λ q. q.items) (λ xs. c.args.values.now.items) c.self.inside.queues.items c.args.w c.index_mut-queue.result.now c.try_extend_from_slice-appended.new.self c.args.self.now
    c.self.view_is c.requires c.index_mut-queue.ensures.value
    (if_ok c.try_extend_from_slice-appended.result (c.try_extend_from_slice-appended.ensures.variant.1 fits) c.try_extend_from_slice-appended.ensures.ok
    ∙ ap (λ xs. xs ++ c.deref.result.now) c.clear.ensures ∙ c.deref.ensures.0)
