use Rattle.std.proofs.Common.{◌≡◌, List, [], false, None, length, sym, ap, refl, subst, ◌∙◌, arith}
use Rattle.std.proofs.lemmas.Bool.{leb-false}
use Rattle.raw_network.specs.Network.{Sent, appended}
use Rattle.raw_model.specs.Local.{Source}
use Rattle.raw_model.specs.Machine.{is_stopped, port_program, words_of, row}
use Rattle.raw_serial.specs.Needs.{IsTaken, sent_by_source, unmet_of}
use Rattle.raw_serial.proofs.Stepping.{turn_fired, turn_left, fired_needs, put_there, put_room, met_by}
use Rattle.raw_serial.proofs.Ports.{source_sent}
use Rattle.raw_serial.proofs.Events.{told_is}
use Rattle.raw_serial.proofs.turns.turn_source.Given.{Over}
use Rattle.raw_serial.proofs.turns.turn_source.Goals as goal
use Rattle.raw_serial.proofs.turns.turn_source.Goals.{In-Fired, After-fire_source-word}

-- what the next step has, since the turn fires, and what it sends
fired : (g : Over) (c : In-Fired g) → (is_stopped c.args.set.now c.args.p.0 (Source c.args.state.now.local) ≡ false) × (unmet_of c.args.set.now c.args.p.0 (Source c.args.state.now.local) c.args.wires.now ≡ None)
fired g c = fired_needs c.args.set.now c.args.p.0 (Source c.args.state.now.local) c.args.wires.now (sym c.in-Fired.is ∙ c.ask_source.ensures)

took : (g : Over) (c : In-Fired g) → IsTaken c.args.set.now c.args.p.0 (Source c.args.state.now.local) c.args.wires.now c.args.wires.now []
took g c =
    record { met = (fired g c).1; room = (met_by c.args.set.now c.args.p.0 (Source c.args.state.now.local) c.args.wires.now (fired g c).1).1; values = refl; rest = refl }

sent : (g : Over) (c : After-fire_source-word g) → sent_by_source c.args.ends.now c.fire_source-word.result ≡ (row c.args.set.now c.args.p.0 (Source c.args.state.now.local) []).sent
sent g c =
    source_sent c.args.set.now c.args.p.0 c.args.ends.now _ c.words_of.result.now c.args.state.now.local c.fire_source-word.result c.requires.ends.ends_are c.words_of.ensures c.fire_source-word.ensures.word

pub fire_source-word-requires : goal.fire_source-word-requires
fire_source-word-requires g c =
    let going = (fired g (goal.at.fire_source-word-requires g c).In-Fired).0 in
    let below = leb-false (length (words_of (port_program c.args.set.now c.args.p.0))) c.args.state.now.local.done going in
    omega (arith, below, ap length c.words_of.ensures)

pub put_out-requires-clause-there : goal.put_out-requires-clause-there
put_out-requires-clause-there g c =
    put_there c.args.set.now c.args.p.0 (Source c.args.state.now.local) [] (length c.args.wires.now) _ (sent g (goal.at.put_out-requires-clause-there g c).After-fire_source-word) c.requires.ends.each

pub put_out-requires-clause-room : goal.put_out-requires-clause-room
put_out-requires-clause-room g c =
    put_room c.args.set.now c.args.p.0 (Source c.args.state.now.local) [] c.args.wires.now c.args.wires.now _
    (sent g (goal.at.put_out-requires-clause-room g c).After-fire_source-word) c.requires.ends.valid.small_depth (took g (goal.at.put_out-requires-clause-room g c).In-Fired)

pub returns-in-Fired-clause-turn : goal.returns-in-Fired-clause-turn
returns-in-Fired-clause-turn g c =
    let at = (goal.at.returns-in-Fired-clause-turn g c).In-Fired in
    record {
      whole = turn_fired c.args.set.now c.args.p.0 (Source c.args.state.now.local) c.args.wires.now false (Source c.fire_source-word.new.port.local) c.args.wires.now c.put_out.new.self []
          (fired g at).0 refl (took g at) (ap Source c.fire_source-word.ensures.next)
          (c.put_out.ensures ∙ ap (λ (ms : List Sent). appended ms c.args.wires.now) (sent g (goal.at.returns-in-Fired-clause-turn g c).After-fire_source-word));
      room = c.fire_source-word.ensures.room;
    }

pub returns-in_default-clause-turn : goal.returns-in_default-clause-turn
returns-in_default-clause-turn g c = record {
  whole = turn_left c.args.set.now c.args.p.0 (Source c.args.state.now.local) c.args.wires.now c.ask_source.result c.ask_source.ensures c.in_default.not-Fired;
  room = refl;
}

pub returns-in-Fired-clause-told : goal.returns-in-Fired-clause-told
returns-in-Fired-clause-told g c = λ fired.
    let at = goal.at.returns-in-Fired-clause-told g c in
    subst (g.T.Tells.has c.tell.new.self)
    (told_is c.args.set.now c.args.p.0 (Source c.args.state.now.local) c.args.wires.now c.args.wires.now [] _ _ _ _ _ (took g at.In-Fired) refl (sent g at.After-fire_source-word) refl refl)
    c.tell.ensures

pub returns-in_default-clause-told : goal.returns-in_default-clause-told
returns-in_default-clause-told g c = λ fired. absurd (c.in_default.not-Fired fired)
