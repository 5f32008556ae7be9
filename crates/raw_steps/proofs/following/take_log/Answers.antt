use Rattle.std.proofs.Common.{◌≡◌, ◌≤◌, [], length, sym, ap, subst, ◌∙◌, arith}
use Rattle.std.specs.Prelude.{slice_set, slice_index_or}
use Rattle.std.proofs.lemmas.List.{length-map, map-set}
use Rattle.raw_grid.specs.Topology.{proc_count}
use Rattle.raw_grid.specs.declared.parts.ProcId.{ProcId}
use Rattle.raw_steps.specs.Taking.{numbers}
use Rattle.raw_steps.specs.Weaving.{HaveLawfulJoining}
use Rattle.raw_steps.specs.Left.{entries_of, count_in, IsWovenOn}
use Rattle.raw_steps.proofs.Fronts.{no_list, log_below, log_at, log_there, fewer, joining_then, on_then, room_then, idle_then}
use Rattle.raw_steps.proofs.following.take_log.Goals as goal

pub take_from-requires-clause-there : goal.take_from-requires-clause-there
take_from-requires-clause-there c =
    log_there c.args.left.now c.args.w c.requires.there c.args.m.now.set c.args.m.now.state c.requires.can.joining (proc_count c.args.m.now.set.topo)
    (c.procs-procs.ensures.locals ∙ c.procs-procs.ensures.value)

pub take_from-requires-clause-room : goal.take_from-requires-clause-room
take_from-requires-clause-room c =
    let left = c.args.left.now in
    let w = c.args.w in
    let list = (slice_index_or left w no_list).now in
    omega
    (arith, fewer (entries_of left) w [] (log_below left w c.requires.there), ap length (log_at left w c.requires.there), length-map list (λ (p : ProcId). p.0), c.requires.can.room)

pub returns-clause-can : goal.returns-clause-can
returns-clause-can c =
    let left = c.args.left.now in
    let w = c.args.w in
    let old = c.args.m.now in
    let new = c.take_from.new.m in
    let below = log_below left w c.requires.there in
    let at = log_at left w c.requires.there in
    let cut : entries_of (slice_set left w c.take_from.result) ≡ slice_set (entries_of left) w (numbers c.take_from.result.now) =
    map-set (λ list. numbers list.now) left w c.take_from.result in
    let same = room_then old new (entries_of left) w _ (numbers c.take_from.result.now) _ _ below at c.take_from.ensures.front in
    record {
      joining = subst (HaveLawfulJoining new.set new.state) (sym cut)
          (joining_then old new (entries_of left) w _ (numbers c.take_from.result.now) _ _ below at c.take_from.ensures.front
          (λ s logs w p rest steps. c.law_weaving.ensures.taken old.set s logs w p rest steps c.set-set.ensures.valid) c.requires.can.joining);
      room = omega
          (arith, same, ap count_in cut, length-map c.args.woven.now.items (λ (p : ProcId). p.0), length-map c.take_from.new.woven.items (λ (p : ProcId). p.0), c.args.woven.now.ok.0, c.take_from.new.woven.ok.0, c.requires.can.room, c.take_from.ensures.capacity);
    }

pub returns-clause-on : goal.returns-clause-on
returns-clause-on c =
    let left = c.args.left.now in
    let w = c.args.w in
    let old = c.args.m.now in
    let cut : entries_of (slice_set left w c.take_from.result) ≡ slice_set (entries_of left) w (numbers c.take_from.result.now) =
    map-set (λ list. numbers list.now) left w c.take_from.result in
    subst (λ later. IsWovenOn old c.take_from.new.m (entries_of left) later (numbers c.args.woven.now.items) (numbers c.take_from.new.woven.items)) (sym cut)
    (on_then old c.take_from.new.m (entries_of left) w _ (numbers c.take_from.result.now) _ _ (log_below left w c.requires.there) (log_at left w c.requires.there)
    c.take_from.ensures.front (λ s logs w p rest steps. c.law_weaving.ensures.taken old.set s logs w p rest steps c.set-set.ensures.valid) c.requires.can.joining)

pub returns-clause-idle : goal.returns-clause-idle
returns-clause-idle c = λ short.
    let left = c.args.left.now in
    let w = c.args.w in
    let before = c.args.woven.now in
    let after = c.take_from.new.woven in
    let no_longer : length (numbers after.items) ≤ length (numbers before.items) =
    omega (arith, short, length-map before.items (λ (p : ProcId). p.0), length-map after.items (λ (p : ProcId). p.0), before.ok.0, after.ok.0) in
    idle_then c.args.m.now c.take_from.new.m (entries_of left) w _ (numbers c.take_from.result.now) _ _ (log_below left w c.requires.there)
    (log_at left w c.requires.there) c.take_from.ensures.front c.take_from.ensures.idle no_longer
