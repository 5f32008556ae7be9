use Rattle.std.proofs.Common.{◌≡◌, ◌+◌, ◌++◌, List, Some, length, sym, ap, refl, subst, ◌∙◌, arith}
use Rattle.std.specs.Prelude.{nat_lt}
use Rattle.std.proofs.lemmas.Bool.{leb-false, or_parts}
use Rattle.raw_network.specs.Network.{Sent, appended}
use Rattle.raw_network.proofs.Wires.{length-taken}
use Rattle.raw_model.specs.Local.{Tile}
use Rattle.raw_model.specs.Machine.{takes, tile_takes, tile_sends, tile_effect, is_ended, row}
use Rattle.raw_model.specs.Cache.{StandsFor, misses, stream_of}
use Rattle.raw_tile.specs.declared.fire.TileOut.{TileOut}
use Rattle.raw_tile.specs.Given.{takes_first, takes_second, values_of}
use Rattle.raw_processor.specs.Given.{taken_by, sent_by, sent_out}
use Rattle.raw_serial.specs.Needs.{AreNeedsOf}
use Rattle.raw_serial.proofs.Stepping.{turn_unmet, turn_fired, put_there, put_room}
use Rattle.raw_serial.proofs.Unmet.{tile_needs}
use Rattle.raw_serial.proofs.Tiling.{touched_by, has_networks, out_is}
use Rattle.raw_serial.proofs.Events.{told_is, miss_is}
use Rattle.raw_serial.proofs.turns.fire_tile.Given.{Over}
use Rattle.raw_serial.proofs.turns.fire_tile.Goals as goal
use Rattle.raw_serial.proofs.turns.fire_tile.Goals.{After-step_wires-needs, After-tile_fire-out}

-- what the next step needs, and what it sends
needs : (g : Over) (c : After-step_wires-needs g)
    → AreNeedsOf c.args.set.now c.args.p.0 (Tile c.args.tile.now.state) c.args.ends.now (taken_by c.step_wires-needs.result) (sent_by c.step_wires-needs.result)
needs g c =
    tile_needs c.args.set.now c.args.p.0 c.args.tile.now.state c.args.ends.now c.deref-code.result.now _ _ c.requires.stands.on.ends_are (c.deref-code.ensures.value ∙ c.requires.stands.code)
    (c.step_wires-needs.ensures.takes c.args.set.now.topo c.args.p.0 c.requires.stands.on.ends_are ∙ ap (tile_takes c.args.set.now.topo c.args.p.0) (sym c.tile_step-step.ensures))
    (c.step_wires-needs.ensures.sends c.args.set.now.topo c.args.p.0 c.requires.stands.on.ends_are ∙ ap (tile_sends c.args.set.now.topo c.args.p.0) (sym c.tile_step-step.ensures))

sent : (g : Over) (c : After-tile_fire-out g) → sent_out c.args.ends.now c.tile_fire-out.result ≡ (row c.args.set.now c.args.p.0 (Tile c.args.tile.now.state) (values_of c.in-Ok.given)).sent
sent g c =
    out_is c.args.set.now c.args.p.0 c.args.tile.now.state c.args.ends.now c.deref-code.result.now (values_of c.in-Ok.given) c.tile_fire-out.result c.requires.stands.on.ends_are
    (c.deref-code.ensures.value ∙ c.requires.stands.code) c.tile_fire-out.ensures.out

pub take_operands-requires-clause-needs : goal.take_operands-requires-clause-needs
take_operands-requires-clause-needs g c = record { p = c.args.p.0; l = Tile c.args.tile.now.state; needs = needs g (goal.at.take_operands-requires-clause-needs g c).After-step_wires-needs }

pub tile_fire-out-requires-clause-count : goal.tile_fire-out-requires-clause-count
tile_fire-out-requires-clause-count g c =
    let below = leb-false c.args.set.now.limit c.args.tile.now.state.count (or_parts (is_ended c.args.tile.now.state.mark) _ c.requires.going).1 in
    let few = c.requires.stands.on.valid.few_steps in
    omega (arith, below, few)

pub tile_fire-out-requires-clause-given : goal.tile_fire-out-requires-clause-given
tile_fire-out-requires-clause-given g c =
    let networks = has_networks c.args.set.now.topo c.args.p.0 c.args.ends.now c.requires.stands.on.valid.topology c.requires.stands.there c.requires.stands.on.ends_are in
    record {
      first = c.in-Ok.ensures.first ∙ c.step_wires-needs.ensures.first networks ∙ ap takes_first (sym c.tile_step-step.ensures);
      second = c.in-Ok.ensures.second ∙ c.step_wires-needs.ensures.second networks ∙ ap takes_second (sym c.tile_step-step.ensures);
    }

pub touch-requires-clause-few : goal.touch-requires-clause-few
touch-requires-clause-few g c =
    let below = leb-false c.args.set.now.limit c.args.tile.now.state.count (or_parts (is_ended c.args.tile.now.state.mark) _ c.requires.going).1 in
    let few = c.requires.stands.on.valid.few_steps in
    omega (arith, below, few, c.requires.stands.few)

pub put_out-requires-clause-there : goal.put_out-requires-clause-there
put_out-requires-clause-there g c =
    let l = Tile c.args.tile.now.state in
    let took = c.in-Ok.ensures.met c.args.p.0 l (needs g (goal.at.put_out-requires-clause-there g c).After-step_wires-needs) in
    put_there c.args.set.now c.args.p.0 l (values_of c.in-Ok.given) (length c.take_operands.new.wires) _ (sent g (goal.at.put_out-requires-clause-there g c).After-tile_fire-out)
    (ap length took.rest ∙ length-taken (takes c.args.set.now c.args.p.0 l) c.args.wires.now ∙ c.requires.stands.on.each)

pub put_out-requires-clause-room : goal.put_out-requires-clause-room
put_out-requires-clause-room g c =
    let l = Tile c.args.tile.now.state in
    let took = c.in-Ok.ensures.met c.args.p.0 l (needs g (goal.at.put_out-requires-clause-room g c).After-step_wires-needs) in
    put_room c.args.set.now c.args.p.0 l (values_of c.in-Ok.given) c.args.wires.now c.take_operands.new.wires _ (sent g (goal.at.put_out-requires-clause-room g c).After-tile_fire-out)
    c.requires.stands.on.valid.small_depth took

pub returns-in-Err-clause-turn : goal.returns-in-Err-clause-turn
returns-in-Err-clause-turn g c =
    let l = Tile c.args.tile.now.state in
    let kept = c.in-Err.ensures.unmet c.args.p.0 l (needs g (goal.at.returns-in-Err-clause-turn g c).After-step_wires-needs) in
    record {
      whole = record {
        answer = turn_unmet c.args.set.now c.args.p.0 l c.args.wires.now (nat_lt 0 c.args.tile.now.owed) (Some c.in-Err.wire.0) c.requires.going (ap (nat_lt 0) c.requires.free) kept.unmet;
        local = refl;
        wires = kept.rest;
      };
      cost = refl;
    }

pub returns-in-Ok-clause-turn : goal.returns-in-Ok-clause-turn
returns-in-Ok-clause-turn g c =
    let took = c.in-Ok.ensures.met c.args.p.0 (Tile c.args.tile.now.state) (needs g (goal.at.returns-in-Ok-clause-turn g c).After-step_wires-needs) in
    let own = c.deref-code.ensures.value ∙ c.requires.stands.code in
    let touched = touched_by c.args.set.now c.args.p.0 c.args.tile.now c.args.wires.now c.take_operands.new.wires (values_of c.in-Ok.given) c.tile_fire-out.result.touched took
    (ap (λ (o : TileOut). o.touched) c.tile_fire-out.ensures.out ∙ ap (λ code. (tile_effect code c.args.tile.now.state (values_of c.in-Ok.given)).touched) own) in
    record {
      whole = turn_fired c.args.set.now c.args.p.0 (Tile c.args.tile.now.state) c.args.wires.now (nat_lt 0 c.args.tile.now.owed) (Tile c.touch.new.tile.state) c.take_operands.new.wires c.put_out.new.self (values_of c.in-Ok.given)
          c.requires.going (ap (nat_lt 0) c.requires.free) took
          (ap Tile (c.touch.ensures.state ∙ c.tile_fire-out.ensures.next ∙ ap (λ code. (tile_effect code c.args.tile.now.state (values_of c.in-Ok.given)).next) own))
          (c.put_out.ensures ∙ ap (λ (ms : List Sent). appended ms c.take_operands.new.wires) (sent g (goal.at.returns-in-Ok-clause-turn g c).After-tile_fire-out));
      cost = record {
        stands = λ earlier stands. subst (λ more. StandsFor c.touch.new.tile.cache (earlier ++ more)) touched (c.touch.ensures.stands earlier stands);
        missed = λ earlier stands. ap (λ more. misses (earlier ++ more) + c.args.tile.now.misses) (sym touched) ∙ c.touch.ensures.missed earlier stands;
        owed = c.touch.ensures.owed;
        few = c.touch.ensures.few;
        code = c.touch.ensures.code;
      };
    }

pub returns-in-Ok-clause-told : goal.returns-in-Ok-clause-told
returns-in-Ok-clause-told g c = λ fired.
    let at = goal.at.returns-in-Ok-clause-told g c in
    let set = c.args.set.now in
    let l = Tile c.args.tile.now.state in
    let values = values_of c.in-Ok.given in
    let needs = needs g at.After-step_wires-needs in
    let own = c.deref-code.ensures.value ∙ c.requires.stands.code in
    subst (g.T.Tells.has c.tell.new.self)
    (told_is set c.args.p.0 l c.args.wires.now c.take_operands.new.wires values _ _ _ _ _ (c.in-Ok.ensures.met c.args.p.0 l needs) needs.takes (sent g at.After-tile_fire-out)
    (ap (λ (o : TileOut). o.touched) c.tile_fire-out.ensures.out ∙ ap (λ code. (tile_effect code c.args.tile.now.state values).touched) own)
    (c.missed_since.ensures ∙ miss_is (stream_of set c.args.p.0) c.args.tile.now.misses c.touch.new.tile.misses c.touch.new.tile.owed c.touch.ensures.owed))
    c.tell.ensures
