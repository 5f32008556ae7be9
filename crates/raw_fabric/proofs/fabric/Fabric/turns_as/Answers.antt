use Rattle.std.proofs.Common.{refl}
use Rattle.raw_fabric.proofs.Owed.{owing_then}
use Rattle.raw_fabric.proofs.Called.{here_at, unit_at, stands_at, pass_left}
use Rattle.raw_fabric.proofs.fabric.Fabric.turns_as.Goals as goal

pub take_turns-turn-requires-clause-stands : goal.take_turns-turn-requires-clause-stands
take_turns-turn-requires-clause-stands g c κs within =
    let r = c.requires.stands in
    let f = c.args.self.now in
    let pass = c.args.pass.now in
    let post = c.args.post.now in
    record {
      stands = stands_at f pass post r c.requires.post c.index.result.now c.index.ensures;
      unit = unit_at f pass post r c.requires.post c.index_mut.result.now c.index_mut.ensures.value;
    }

pub take_turns-turn-requires-clause-log : goal.take_turns-turn-requires-clause-log
take_turns-turn-requires-clause-log g c κs within =
    let is = c.requires.stands.pass in
    record { log_is = is.log_is; log_room = is.log_room; log_short = is.log_short }

pub returns-clause-pass : goal.returns-clause-pass
returns-clause-pass g c =
    let e = c.take_turns-turn.ensures in
    pass_left c.args.self.now c.args.pass.now c.args.post.now c.requires.stands c.requires.post _ c.index_mut.result.now c.take_turns-turn.new.processor refl c.take_turns-turn.new.status e.left.same e.worker refl refl
    e.others e.unit e.left.ready e.log.log_is e.log.log_room e.log.log_short

pub returns-clause-turns : goal.returns-clause-turns
returns-clause-turns g c =
    let pass = c.args.pass.now in
    let x = c.index_mut.result.now in
    let turns = c.take_turns-turn.ensures.turns in
    let here = here_at c.args.self.now pass c.args.post.now c.requires.stands c.requires.post x c.index_mut.ensures.value in
    record {
      many = turns.many;
      none = λ same. owing_then c.take_turns-turn.result pass.processors.items c.args.post.now.index x c.take_turns-turn.new.processor here (turns.none same);
    }
