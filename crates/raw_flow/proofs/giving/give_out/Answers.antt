use Rattle.std.proofs.Common.{◌≡◌, [], ◌∷◌, Err, refl, ap, ◌∙◌, sym}
use Rattle.std.proofs.lemmas.Result.{on_ok_weaker}
use Rattle.raw_grid.specs.declared.parts.PortPlace.{PortPlace}
use Rattle.raw_codegen.specs.Parts.{ToSwitch, Gives}
use Rattle.raw_codegen.specs.Rows.{register_of, load_ins, to_side}
use Rattle.raw_flow.specs.Ports.{sink_of}
use Rattle.raw_flow.specs.Compiled.{tiles_in, sink_tile, send_value}
use Rattle.raw_flow.proofs.Parts.{out_given, way_full, send_full, pass_full}
use Rattle.raw_flow.proofs.giving.give_out.Goals as goal

pub returns-in_err-move_value-clause-too_many : goal.returns-in_err-move_value-clause-too_many
returns-in_err-move_value-clause-too_many c = λ held are e.
    let k = rw e at c.from_residual.ensures in
    let flow = c.args.flow.now in
    let ports = c.args.ports.now in
    let place = sink_of ports c.args.i in
    let t = c.sink_tile-t.result in
    let at : t ≡ sink_tile flow ports c.args.i = c.sink_tile-t.ensures.value in
    way_full c.law_giving.ensures flow ports held place c.args.v t (send_value place.net c.args.v) (to_side place.net place.side) at refl refl c.args.programs.now
    (c.in_err-move_value.ensures.too_many held are (ap (λ r. Err r) (sym k.1)))

pub returns-in_err-give_tile-clause-too_many : goal.returns-in_err-give_tile-clause-too_many
returns-in_err-give_tile-clause-too_many c = λ held are e.
    let k = rw e at c.from_residual-in_err-give_tile.ensures in
    let flow = c.args.flow.now in
    let ports = c.args.ports.now in
    let place = sink_of ports c.args.i in
    let t = c.sink_tile-t.result in
    let at : t ≡ sink_tile flow ports c.args.i = c.sink_tile-t.ensures.value in
    let lw_is : c.load_ins.result ≡ send_value place.net c.args.v =
    c.load_ins.ensures ∙ ap (λ r. load_ins r c.args.v) c.register_of.ensures ∙ ap (λ (p : PortPlace). load_ins (register_of p.net) c.args.v) c.sink_of-place.ensures in
    send_full c.law_giving.ensures flow ports held place c.args.v t c.load_ins.result (to_side place.net place.side) at lw_is refl c.args.programs.now c.move_value.new.programs
    (c.in_ok-move_value.ensures.moved held are).gives (c.in_err-give_tile.ensures.too_many (tiles_in flow) (ap (λ r. Err r) (sym k.1)))

pub returns-clause-given : goal.returns-clause-given
returns-clause-given c = λ held are.
    let flow = c.args.flow.now in
    let ports = c.args.ports.now in
    let place = sink_of ports c.args.i in
    let t = c.sink_tile-t.result in
    let at : t ≡ sink_tile flow ports c.args.i = c.sink_tile-t.ensures.value in
    let lw_is : c.load_ins.result ≡ send_value place.net c.args.v =
    c.load_ins.ensures ∙ ap (λ r. load_ins r c.args.v) c.register_of.ensures ∙ ap (λ (p : PortPlace). load_ins (register_of p.net) c.args.v) c.sink_of-place.ensures in
    let sw_is : c.to_side.result ≡ to_side place.net place.side = c.to_side.ensures ∙ ap (λ (p : PortPlace). to_side p.net p.side) c.sink_of-place.ensures in
    on_ok_weaker c.give_switch.result
    (λ (h : Gives (tiles_in flow) (ToSwitch t c.to_side.result ∷ []) c.give_tile.new.self c.give_switch.new.self).
    out_given c.law_giving.ensures flow ports held place c.args.v t c.load_ins.result c.to_side.result at lw_is sw_is c.args.programs.now c.move_value.new.programs c.give_tile.new.self c.give_switch.new.self c.move_value.new.places
    (c.in_ok-move_value.ensures.moved held are) (c.in_ok-give_tile.ensures.gives (tiles_in flow)) h)
    (c.give_switch.ensures.gives (tiles_in flow))

pub returns-clause-too_many : goal.returns-clause-too_many
returns-clause-too_many c = λ held are e.
    let flow = c.args.flow.now in
    let ports = c.args.ports.now in
    let place = sink_of ports c.args.i in
    let t = c.sink_tile-t.result in
    let at : t ≡ sink_tile flow ports c.args.i = c.sink_tile-t.ensures.value in
    let lw_is : c.load_ins.result ≡ send_value place.net c.args.v =
    c.load_ins.ensures ∙ ap (λ r. load_ins r c.args.v) c.register_of.ensures ∙ ap (λ (p : PortPlace). load_ins (register_of p.net) c.args.v) c.sink_of-place.ensures in
    let sw_is : c.to_side.result ≡ to_side place.net place.side = c.to_side.ensures ∙ ap (λ (p : PortPlace). to_side p.net p.side) c.sink_of-place.ensures in
    pass_full c.law_giving.ensures flow ports held place c.args.v t c.load_ins.result c.to_side.result at lw_is sw_is c.args.programs.now c.move_value.new.programs c.give_tile.new.self
    (c.in_ok-move_value.ensures.moved held are).gives (c.in_ok-give_tile.ensures.gives (tiles_in flow)) (c.give_switch.ensures.too_many (tiles_in flow) e)
