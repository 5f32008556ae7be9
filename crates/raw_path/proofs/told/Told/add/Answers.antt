use Rattle.std.proofs.Common.{arith}
use Rattle.raw_path.proofs.Telling.{read_at, turns_at_most, one_of_value, one_of_room}
use Rattle.raw_path.proofs.told.Told.add.Goals as goal

pub overflow_add-index_mut : goal.overflow_add-index_mut
overflow_add-index_mut c =
    let old = c.args.self.now in
    let p = c.args.stretch.p in
    let read = read_at old.turns.items p c.index_mut.result.now c.requires.there c.index_mut.ensures.value in
    omega (arith, read, c.requires.told.turns p, turns_at_most p old.stretches.items, c.requires.few)

pub overflow_add-self : goal.overflow_add-self
overflow_add-self c = omega (arith, c.one_value.ensures, one_of_value c.args.stretch.wait, c.requires.waits)

pub overflow_add-self-2 : goal.overflow_add-self-2
overflow_add-self-2 c = omega (arith, c.one_room.ensures, one_of_room c.args.stretch.wait, c.requires.waits)
