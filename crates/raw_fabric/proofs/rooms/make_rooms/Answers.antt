use Rattle.std.proofs.Common.{◌≡◌, ◌-◌, length, sym, subst, arith}
use Rattle.raw_fabric.proofs.Pushed.{at_push}
use Rattle.raw_fabric.specs.Opened.{about_before}
use Rattle.raw_fabric.specs.Rooms.{IsRoom, AreRooms}
use Rattle.raw_fabric.proofs.rooms.make_rooms.Goals as goal

pub loop-i-preserved : goal.loop-i-preserved
loop-i-preserved c =
    let a = about_before c.args.machine.now c.args.workers in
    let inv = c.loop-i.invariant in
    let e = c.push_reserved.ensures in
    let ok = c.loop-i.rooms.ok in
    let many = inv.many in
    let long : length c.loop-i.rooms.items ≡ c.loop-i.i = omega arith in
    record {
      many = omega arith;
      room = (let cap = e.capacity in let old = inv.room in omega arith);
      rooms = subst (AreRooms a c.args.log_steps) (sym e.items)
          (at_push (λ i room. IsRoom a c.args.log_steps (c.args.workers - 1 - i) room) c.loop-i.rooms.items c.in_ok-room.room inv.rooms (subst (λ i. IsRoom a c.args.log_steps (c.args.workers - 1 - i) c.in_ok-room.room) (sym long) (subst (λ m. IsRoom a c.args.log_steps (m - 1 - c.loop-i.i) c.in_ok-room.room) c.count-n.ensures.value c.in_ok-room.ensures)));
    }
