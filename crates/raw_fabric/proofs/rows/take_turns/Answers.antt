use Rattle.std.proofs.Common.{◌≡◌, true, false, refl, sym, ap, ◌∙◌, subst, arith}
use Rattle.raw_model.specs.Program.{ProgramSet}
use Rattle.raw_model.specs.Machine.{is_stopped}
use Rattle.raw_model.specs.Start.{IsFit}
use Rattle.raw_processor.specs.Processor.{local_of}
use Rattle.raw_fabric.specs.declared.answer.FabricTurn.TheVariants.{Stopped, LogFull}
use Rattle.raw_fabric.specs.Answers.{has_fired}
use Rattle.raw_fabric.proofs.InRow.{HasGone, gone_none, gone_stands, gone_still, gone_left, gone_others, gone_more, gone_log, gone_turns, unfired}
use Rattle.raw_fabric.proofs.rows.take_turns.Goals as goal

pub loop-turn-init : goal.loop-turn-init
loop-turn-init g c = gone_none c.args.words.now.key c.args.words.now.table_id c.args.post.now c.args.room c.args.seat.now c.args.processor.now c.args.log.now c.args.status.now c.requires.stands c.requires.log

pub is_stopped-requires : goal.is_stopped-requires
is_stopped-requires g c = subst (λ (s : ProgramSet). IsFit s c.args.post.now.p (local_of c.loop-turn.processor)) (sym c.requires.set) c.loop-turn.invariant.unit.fits

pub turn_unit-requires-clause-stands : goal.turn_unit-requires-clause-stands
turn_unit-requires-clause-stands g c =
    gone_stands c.args.words.now.key c.args.words.now.table_id c.args.post.now c.args.room c.args.seat.now c.args.processor.now c.args.log.now c.args.status.now c.loop-turn._turn c.requires.stands
    c.loop-turn.status c.loop-turn.seat c.loop-turn.processor c.loop-turn.log c.loop-turn.invariant
    (ap (λ (s : ProgramSet). is_stopped s c.args.post.now.p (local_of c.loop-turn.processor)) (sym c.requires.set) ∙ sym c.is_stopped.ensures ∙ c.if-is_stopped.false)

pub loop-turn-preserved : goal.loop-turn-preserved
loop-turn-preserved g c =
    let gone = c.loop-turn.invariant in
    let steps = c.loop-turn.log.steps in
    let ok = steps.ok in
    let len = c.len.ensures in
    let push = c.push_reserved.ensures in
    let cap = push.capacity in
    let room = gone.log_is.log_room in
    let short = gone.log_is.log_short in
    let not_full = c.if-len-room.false in
    let new_len = push.len in
    gone_more c.args.words.now.key c.args.words.now.table_id c.args.post.now c.args.room c.args.seat.now c.args.processor.now c.args.log.now c.args.status.now c.loop-turn._turn c.requires.stands
    c.loop-turn.status c.loop-turn.seat c.loop-turn.processor c.loop-turn.log gone
    c.turn_unit.result c.turn_unit.new.status c.turn_unit.new.seat c.turn_unit.new.processor c.turn_unit.ensures.left c.turn_unit.ensures.unit c.turn_unit.ensures.turn
    (ap has_fired c.in-Fired.is) _ refl push.items (omega arith) (omega arith) (omega arith)

pub returns-then-is_stopped : goal.returns-then-is_stopped
returns-then-is_stopped g c =
    let gone = c.loop-turn.invariant in
    record {
      left = gone.left;
      unit = gone.unit;
      others = gone.others;
      log = gone.log_is;
      worker = gone.worker;
      turns = gone_still c.args.words.now.key c.args.words.now.table_id c.args.post.now c.args.room c.args.seat.now c.args.processor.now c.args.log.now c.args.status.now c.loop-turn._turn c.requires.stands
          c.loop-turn.status c.loop-turn.seat c.loop-turn.processor c.loop-turn.log gone Stopped refl;
    }

pub returns-then-len-room : goal.returns-then-len-room
returns-then-len-room g c =
    let gone = c.loop-turn.invariant in
    record {
      left = gone.left;
      unit = gone.unit;
      others = gone.others;
      log = gone.log_is;
      worker = gone.worker;
      turns = gone_still c.args.words.now.key c.args.words.now.table_id c.args.post.now c.args.room c.args.seat.now c.args.processor.now c.args.log.now c.args.status.now c.loop-turn._turn c.requires.stands
          c.loop-turn.status c.loop-turn.seat c.loop-turn.processor c.loop-turn.log gone LogFull refl;
    }

pub returns-in_default : goal.returns-in_default
returns-in_default g c =
    let a = c.args.words.now.key in
    let id = c.args.words.now.table_id in
    let post = c.args.post.now in
    let s = c.args.seat.now in
    let x = c.args.processor.now in
    let log = c.args.log.now in
    let done = c.loop-turn._turn in
    let gone = c.loop-turn.invariant in
    let turn = c.turn_unit.result in
    let e = c.turn_unit.ensures in
    let t = c.loop-turn.seat in
    let y = c.loop-turn.processor in
    let more = c.loop-turn.log in
    let then = c.turn_unit.new.status in
    let u = c.turn_unit.new.seat in
    let z = c.turn_unit.new.processor in
    let none = unfired turn c.in_default.not-Fired in
    record {
      left = gone_left a id post c.args.room s x log c.args.status.now done c.requires.stands c.loop-turn.status t y more gone turn then u z e.left e.unit e.turn;
      unit = e.unit;
      others = gone_others a id post c.args.room s x log c.args.status.now done c.requires.stands c.loop-turn.status t y more gone turn then u z e.left e.unit e.turn;
      log = gone_log a id post c.args.room s x log c.args.status.now done c.requires.stands c.loop-turn.status t y more gone turn then u z e.left e.unit e.turn none;
      worker = gone.worker;
      turns = gone_turns a id post c.args.room s x log c.args.status.now done c.requires.stands c.loop-turn.status t y more gone turn then u z e.left e.unit e.turn none;
    }

pub returns : goal.returns
returns g c =
    let gone = c.loop-turn.invariant in
    let some = c.requires.some in
    record {
      left = gone.left;
      unit = gone.unit;
      others = gone.others;
      log = gone.log_is;
      worker = gone.worker;
      turns = record { many = let m = gone.many in omega arith; none = λ same. let m = gone.many in absurd (omega (arith, m, same, some)) };
    }
