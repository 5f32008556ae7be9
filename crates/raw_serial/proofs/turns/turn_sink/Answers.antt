use Rattle.std.proofs.Common.{◌≡◌, ◌+◌, [], ◌∷◌, ◌++◌, None, false, sym, ap, refl, subst, ◌∙◌, arith}
use Rattle.std.specs.Prelude.{slice_index_or}
use Rattle.std.specs.Option.{option_to_list}
use Rattle.std.proofs.lemmas.Bool.{leb-false}
use Rattle.raw_model.specs.Local.{Sink}
use Rattle.raw_model.specs.Machine.{is_stopped, port_program, capacity_of}
use Rattle.raw_tile.specs.Given.{values_of}
use Rattle.raw_serial.specs.Needs.{AreNeedsOf, unmet_of}
use Rattle.raw_serial.proofs.Stepping.{turn_fired, turn_left, fired_needs, counts_taken, is_taken}
use Rattle.raw_serial.proofs.Ports.{capacity_few, sink_wires, nothing_sent}
use Rattle.raw_serial.proofs.Events.{told_is}
use Rattle.raw_serial.proofs.turns.turn_sink.Given.{Over}
use Rattle.raw_serial.proofs.turns.turn_sink.Goals as goal
use Rattle.raw_serial.proofs.turns.turn_sink.Goals.{In-Fired}

-- what the next step has, since the turn fires
fired : (g : Over) (c : In-Fired g) → (is_stopped c.args.set.now c.args.p.0 (Sink c.args.state.now.local) ≡ false) × (unmet_of c.args.set.now c.args.p.0 (Sink c.args.state.now.local) c.args.wires.now ≡ None)
fired g c = fired_needs c.args.set.now c.args.p.0 (Sink c.args.state.now.local) c.args.wires.now (sym c.in-Fired.is ∙ c.ask_sink.ensures)

needs : (g : Over) (c : In-Fired g) → AreNeedsOf c.args.set.now c.args.p.0 (Sink c.args.state.now.local) c.args.ends.now (option_to_list (slice_index_or c.args.ends.now.inputs 4 None) ++ option_to_list (slice_index_or c.args.ends.now.inputs 9 None)) []
needs g c = record { ends = c.requires.ends.ends_are; takes = sink_wires c.args.set.now c.args.p.0 c.args.ends.now c.requires.ends.ends_are; sends = refl }

pub take_pair-given-requires : goal.take_pair-given-requires
take_pair-given-requires g c =
    let at = (goal.at.take_pair-given-requires g c).In-Fired in
    counts_taken c.args.set.now c.args.p.0 (Sink c.args.state.now.local) c.args.wires.now c.args.ends.now _ [] (needs g at) (fired g at).1

pub fire_sink-requires-clause-room : goal.fire_sink-requires-clause-room
fire_sink-requires-clause-room g c =
    let going = (fired g (goal.at.fire_sink-requires-clause-room g c).In-Fired).0 in
    let below = leb-false (capacity_of (port_program c.args.set.now c.args.p.0)) c.args.state.now.local.done going in
    omega (arith, below, c.requires.room, c.requires.fits)

pub fire_sink-requires-clause-count : goal.fire_sink-requires-clause-count
fire_sink-requires-clause-count g c =
    let going = (fired g (goal.at.fire_sink-requires-clause-count g c).In-Fired).0 in
    let below = leb-false (capacity_of (port_program c.args.set.now c.args.p.0)) c.args.state.now.local.done going in
    omega (arith, below, capacity_few c.args.set.now c.args.p.0 c.requires.ends.valid)

pub returns-in-Fired-clause-turn : goal.returns-in-Fired-clause-turn
returns-in-Fired-clause-turn g c =
    let l = Sink c.args.state.now.local in
    let at = (goal.at.returns-in-Fired-clause-turn g c).In-Fired in
    record {
      whole = turn_fired c.args.set.now c.args.p.0 l c.args.wires.now false (Sink c.fire_sink.new.port.local) c.take_pair-given.new.self c.take_pair-given.new.self (values_of c.take_pair-given.result)
          (fired g at).0 refl
          (is_taken c.args.set.now c.args.p.0 l c.args.wires.now c.args.ends.now _ [] _ _ (needs g at) (fired g at).1 c.take_pair-given.ensures.values c.take_pair-given.ensures.rest)
          (ap Sink c.fire_sink.ensures.next ∙ ap (λ n. Sink (record { done = c.args.state.now.local.done + 1; got = c.args.state.now.local.got ++ n ∷ [] })) c.front.ensures) refl;
      room = c.fire_sink.ensures.room;
    }

pub returns-in_default-clause-turn : goal.returns-in_default-clause-turn
returns-in_default-clause-turn g c = record {
  whole = turn_left c.args.set.now c.args.p.0 (Sink c.args.state.now.local) c.args.wires.now c.ask_sink.result c.ask_sink.ensures c.in_default.not-Fired;
  room = refl;
}

pub returns-in-Fired-clause-told : goal.returns-in-Fired-clause-told
returns-in-Fired-clause-told g c = λ is.
    let l = Sink c.args.state.now.local in
    let at = (goal.at.returns-in-Fired-clause-told g c).In-Fired in
    let needs = needs g at in
    let took = is_taken c.args.set.now c.args.p.0 l c.args.wires.now c.args.ends.now _ [] _ _ needs (fired g at).1 c.take_pair-given.ensures.values c.take_pair-given.ensures.rest in
    subst (g.T.Tells.has c.tell.new.self)
    (told_is c.args.set.now c.args.p.0 l c.args.wires.now c.take_pair-given.new.self (values_of c.take_pair-given.result) _ _ _ _ _ took needs.takes (nothing_sent c.args.ends.now) refl refl)
    c.tell.ensures

pub returns-in_default-clause-told : goal.returns-in_default-clause-told
returns-in_default-clause-told g c = λ fired. absurd (c.in_default.not-Fired fired)
