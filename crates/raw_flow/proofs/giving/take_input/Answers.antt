use Rattle.std.proofs.Common.{◌≡◌, [], Err, refl, ap, ◌∙◌, sym}
use Rattle.raw_grid.specs.declared.parts.PortPlace.{PortPlace}
use Rattle.raw_codegen.specs.Rows.{register_of, store_ins, from_side}
use Rattle.raw_flow.specs.Ports.{source_of}
use Rattle.raw_flow.specs.Compiled.{tiles_in, source_tile, take_value}
use Rattle.raw_flow.proofs.Parts.{taken_given, switch_full, store_full}
use Rattle.raw_flow.proofs.giving.take_input.Goals as goal

pub returns-in_err-give_switch-clause-too_many : goal.returns-in_err-give_switch-clause-too_many
returns-in_err-give_switch-clause-too_many c = λ e.
    let k = rw e at c.from_residual.ensures in
    let flow = c.args.flow.now in
    let ports = c.args.ports.now in
    let place = source_of ports c.args.k in
    let t = c.source_tile-t.result in
    let at : t ≡ source_tile flow ports c.args.k = c.source_tile-t.ensures.value in
    let sw_is : c.from_side.result ≡ from_side place.net place.side = c.from_side.ensures ∙ ap (λ (p : PortPlace). from_side p.net p.side) c.source_of-place.ensures in
    switch_full c.law_giving.ensures flow [] place c.args.v t c.from_side.result (take_value place.net c.args.v) at sw_is refl c.args.programs.now
    (c.in_err-give_switch.ensures.too_many (tiles_in flow) (ap (λ r. Err r) (sym k.1)))

pub returns-in_err-give_tile-clause-too_many : goal.returns-in_err-give_tile-clause-too_many
returns-in_err-give_tile-clause-too_many c = λ e.
    let k = rw e at c.from_residual-in_err-give_tile.ensures in
    let flow = c.args.flow.now in
    let ports = c.args.ports.now in
    let place = source_of ports c.args.k in
    let t = c.source_tile-t.result in
    let at : t ≡ source_tile flow ports c.args.k = c.source_tile-t.ensures.value in
    let sw_is : c.from_side.result ≡ from_side place.net place.side = c.from_side.ensures ∙ ap (λ (p : PortPlace). from_side p.net p.side) c.source_of-place.ensures in
    let st_is : c.store_ins.result ≡ take_value place.net c.args.v =
    c.store_ins.ensures ∙ ap (λ r. store_ins r c.args.v) c.register_of.ensures ∙ ap (λ (p : PortPlace). store_ins (register_of p.net) c.args.v) c.source_of-place.ensures in
    store_full c.law_giving.ensures flow [] place c.args.v t c.from_side.result c.store_ins.result at sw_is st_is c.args.programs.now c.give_switch.new.self
    (c.in_ok-give_switch.ensures.gives (tiles_in flow)) (c.in_err-give_tile.ensures.too_many (tiles_in flow) (ap (λ r. Err r) (sym k.1)))

pub returns-clause-given : goal.returns-clause-given
returns-clause-given c = λ held are.
    let flow = c.args.flow.now in
    let ports = c.args.ports.now in
    let place = source_of ports c.args.k in
    let t = c.source_tile-t.result in
    let at : t ≡ source_tile flow ports c.args.k = c.source_tile-t.ensures.value in
    let sw_is : c.from_side.result ≡ from_side place.net place.side = c.from_side.ensures ∙ ap (λ (p : PortPlace). from_side p.net p.side) c.source_of-place.ensures in
    let st_is : c.store_ins.result ≡ take_value place.net c.args.v =
    c.store_ins.ensures ∙ ap (λ r. store_ins r c.args.v) c.register_of.ensures ∙ ap (λ (p : PortPlace). store_ins (register_of p.net) c.args.v) c.source_of-place.ensures in
    taken_given c.law_giving.ensures flow held place c.args.v t c.from_side.result c.store_ins.result at sw_is st_is c.args.programs.now c.give_switch.new.self c.give_tile.new.self c.put.new.self
    (c.in_ok-give_switch.ensures.gives (tiles_in flow)) (c.in_ok-give_tile.ensures.gives (tiles_in flow)) (c.put.ensures flow held are)
