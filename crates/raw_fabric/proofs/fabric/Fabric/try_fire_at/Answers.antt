use Rattle.std.proofs.Common.{◌≡◌, ◌<◌, true, false, [], ◌∷◌, ◌++◌, length, refl, sym, ap, ◌∙◌, subst, arith}
use Rattle.std.proofs.lemmas.List.{length-map, map-append}
use Rattle.raw_grid.specs.declared.parts.ProcId.{ProcId}
use Rattle.raw_grid.specs.Topology.{proc_count}
use Rattle.raw_model.specs.Program.{ProgramSet}
use Rattle.raw_model.specs.Start.{IsFit}
use Rattle.raw_processor.specs.Processor.{local_of}
use Rattle.raw_fabric_rule.specs.ByEnds.{procs}
use Rattle.raw_fabric_step.specs.Units.{first_log}
use Rattle.raw_steps.specs.Taking.{numbers}
use Rattle.raw_fabric.specs.Answers.{CanStep}
use Rattle.raw_fabric.specs.Opened.{about_of}
use Rattle.raw_fabric.specs.declared.answer.FabricTurn.TheVariants.{Stopped, LogFull}
use Rattle.raw_fabric.proofs.Owed.{owing_after}
use Rattle.raw_fabric.proofs.Firing.{turn_leaves, turn_log, fired_log}
use Rattle.raw_fabric.proofs.Called.{here, here_at, unit_at, stands_at, stop_at, no_turn, turn_left, pass_left}
use Rattle.raw_fabric.proofs.fabric.Fabric.try_fire_at.Goals as goal
use Rattle.raw_fabric.proofs.fabric.Fabric.try_fire_at.Goals.{After-turn_unit-turn}

pub is_stopped-requires : goal.is_stopped-requires
is_stopped-requires c =
    let r = c.requires.stands in
    let x = c.index.result.now in
    subst (λ (s : ProgramSet). IsFit s c.args.post.now.p (local_of x)) r.fabric.set_is (unit_at c.args.self.now c.args.pass.now c.args.post.now r c.requires.post x c.index.ensures).fits

pub returns-then-is_stopped-clause-turn : goal.returns-then-is_stopped-clause-turn
returns-then-is_stopped-clause-turn c =
    no_turn c.args.self.now c.args.pass.now c.args.post.now c.requires.stands c.requires.post Stopped (λ x there.
    (stop_at c.args.self.now c.args.pass.now c.args.post.now c.requires.stands c.requires.post c.index.result.now x true c.index.ensures there (sym c.is_stopped.ensures ∙ c.if-is_stopped.true), refl, refl))

pub returns-then-len-pass-clause-turn : goal.returns-then-len-pass-clause-turn
returns-then-len-pass-clause-turn c =
    let r = c.requires.stands in
    let pass = c.args.pass.now in
    let ok = pass.log.steps.ok in
    let len = c.len.ensures in
    let eq = c.if-len-pass.true in
    let long = ap length r.pass.log_is ∙ length-map pass.log.steps.items (λ (q : ProcId). q.0) in
    let full : length (first_log pass.seat.me.0.parts) ≡ pass.room = omega arith in
    no_turn c.args.self.now pass c.args.post.now r c.requires.post LogFull (λ x there.
    (stop_at c.args.self.now pass c.args.post.now r c.requires.post c.index.result.now x false c.index.ensures there (sym c.is_stopped.ensures ∙ c.if-is_stopped.false), full, refl, refl))

pub turn_unit-turn-requires-clause-stands : goal.turn_unit-turn-requires-clause-stands
turn_unit-turn-requires-clause-stands c =
    let r = c.requires.stands in
    let f = c.args.self.now in
    let pass = c.args.pass.now in
    let post = c.args.post.now in
    let is = c.requires.post in
    let x = c.index_mut-2.result.now in
    let read = c.index_mut-2.ensures.value in
    record {
      stands = stands_at f pass post r is c.index_mut.result.now c.index_mut.ensures.value;
      unit = unit_at f pass post r is x read;
      going = stop_at f pass post r is c.index.result.now x false c.index.ensures (here f pass post r is x read) (sym c.is_stopped.ensures ∙ c.if-is_stopped.false);
    }

pub returns-then-has_fired-clause-pass : goal.returns-then-has_fired-clause-pass
returns-then-has_fired-clause-pass c =
    let r = c.requires.stands in
    let a = about_of c.args.self.now in
    let pass = c.args.pass.now in
    let post = c.args.post.now in
    let x = c.index_mut-2.result.now in
    let turn = c.turn_unit-turn.result in
    let y = c.turn_unit-turn.new.processor in
    let v = pass.seat.me.0 in
    let w = c.turn_unit-turn.new.seat.me.0 in
    let e = c.turn_unit-turn.ensures in
    let steps = pass.log.steps in
    let ok = steps.ok in
    let len = c.len.ensures in
    let room = c.if-len-pass.false in
    let short = r.pass.log_short in
    let old_room = r.pass.log_room in
    let push = c.push_reserved.ensures in
    let cap = push.capacity in
    let new_len = push.len in
    pass_left c.args.self.now pass post r c.requires.post _ x y refl c.turn_unit-turn.new.status e.left.same refl refl refl (turn_leaves a post.p post.index turn v w x y e.turn) e.unit e.left.ready
    (fired_log a post.p post.index turn v w x y e.turn (sym c.has_fired.ensures ∙ c.if-has_fired.true) ∙ ap (λ l. l ++ post.p ∷ []) r.pass.log_is
    ∙ sym (map-append (λ (q : ProcId). q.0) steps.items (record { 0 = post.p } ∷ [])) ∙ ap numbers (sym push.items))
    (omega arith) (omega arith)

pub returns-else-has_fired-clause-pass : goal.returns-else-has_fired-clause-pass
returns-else-has_fired-clause-pass c =
    let r = c.requires.stands in
    let a = about_of c.args.self.now in
    let pass = c.args.pass.now in
    let post = c.args.post.now in
    let x = c.index_mut-2.result.now in
    let turn = c.turn_unit-turn.result in
    let y = c.turn_unit-turn.new.processor in
    let v = pass.seat.me.0 in
    let w = c.turn_unit-turn.new.seat.me.0 in
    let e = c.turn_unit-turn.ensures in
    pass_left c.args.self.now pass post r c.requires.post _ x y refl c.turn_unit-turn.new.status e.left.same refl refl refl (turn_leaves a post.p post.index turn v w x y e.turn) e.unit e.left.ready
    (turn_log a post.p post.index turn v w x y e.turn (sym c.has_fired.ensures ∙ c.if-has_fired.false) ∙ r.pass.log_is) r.pass.log_room r.pass.log_short

-- it may step
can : (c : After-turn_unit-turn) → CanStep (about_of c.args.self.now) c.args.post.now.p c.args.pass.now.room c.args.pass.now.seat.me.0 c.index_mut-2.result.now
can c =
    let r = c.requires.stands in
    let f = c.args.self.now in
    let pass = c.args.pass.now in
    let post = c.args.post.now in
    let x = c.index_mut-2.result.now in
    let ok = pass.log.steps.ok in
    let len = c.len.ensures in
    let room = c.if-len-pass.false in
    let short = r.pass.log_short in
    let long = ap length r.pass.log_is ∙ length-map pass.log.steps.items (λ (q : ProcId). q.0) in
    record {
      going = stop_at f pass post r c.requires.post c.index.result.now x false c.index.ensures (here f pass post r c.requires.post x c.index_mut-2.ensures.value) (sym c.is_stopped.ensures ∙ c.if-is_stopped.false);
      short = omega arith;
    }

pub returns-then-has_fired-clause-turn : goal.returns-then-has_fired-clause-turn
returns-then-has_fired-clause-turn c =
    turn_left c.args.self.now c.args.pass.now c.args.post.now c.requires.stands c.requires.post _ c.index_mut-2.result.now c.turn_unit-turn.new.processor refl c.turn_unit-turn.result c.index_mut-2.ensures.value refl
    (can (goal.at.returns-then-has_fired-clause-turn c).After-turn_unit-turn) c.turn_unit-turn.ensures.turn

pub returns-else-has_fired-clause-turn : goal.returns-else-has_fired-clause-turn
returns-else-has_fired-clause-turn c =
    turn_left c.args.self.now c.args.pass.now c.args.post.now c.requires.stands c.requires.post _ c.index_mut-2.result.now c.turn_unit-turn.new.processor refl c.turn_unit-turn.result c.index_mut-2.ensures.value refl
    (can (goal.at.returns-else-has_fired-clause-turn c).After-turn_unit-turn) c.turn_unit-turn.ensures.turn

pub returns-then-has_fired-clause-owing : goal.returns-then-has_fired-clause-owing
returns-then-has_fired-clause-owing c =
    owing_after (about_of c.args.self.now) c.args.post.now.p c.args.post.now.index c.turn_unit-turn.result _ _ c.index_mut-2.result.now c.turn_unit-turn.new.processor c.turn_unit-turn.ensures.turn c.args.pass.now.processors.items
    (here_at c.args.self.now c.args.pass.now c.args.post.now c.requires.stands c.requires.post c.index_mut-2.result.now c.index_mut-2.ensures.value)

pub returns-else-has_fired-clause-owing : goal.returns-else-has_fired-clause-owing
returns-else-has_fired-clause-owing c =
    owing_after (about_of c.args.self.now) c.args.post.now.p c.args.post.now.index c.turn_unit-turn.result _ _ c.index_mut-2.result.now c.turn_unit-turn.new.processor c.turn_unit-turn.ensures.turn c.args.pass.now.processors.items
    (here_at c.args.self.now c.args.pass.now c.args.post.now c.requires.stands c.requires.post c.index_mut-2.result.now c.index_mut-2.ensures.value)

pub kind_of-kind-requires : goal.kind_of-kind-requires
unfolding procs
kind_of-kind-requires c =
    subst (λ n. c.args.post.now.p < n) (sym (ap (λ (x : ProgramSet). proc_count x.topo) (c.set.view_is ∙ sym c.requires.stands.fabric.set_is))) c.requires.stands.holds.there
