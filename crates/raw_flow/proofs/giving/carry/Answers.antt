use Rattle.std.proofs.Common.{◌≡◌, [], ◌∷◌, Err, refl, ap, ◌∙◌, sym, subst}
use Rattle.std.specs.Prelude.{OnOk}
use Rattle.std.proofs.lemmas.Result.{on_ok_weaker}
use Rattle.raw_grid.specs.declared.parts.Net.TheVariants.{One}
use Rattle.raw_codegen.specs.Limits.{Overflows}
use Rattle.raw_codegen.specs.Parts.{ToTile, Gives}
use Rattle.raw_flow.specs.Flows.{Dataflow}
use Rattle.raw_flow.specs.Compiled.{tiles_in, home, carried, take_value}
use Rattle.raw_flow.proofs.Parts.{carried_given, first_full, tree_full, last_full}
use Rattle.raw_flow.proofs.giving.carry.Goals as goal

pub returns-in_err-give_tile-clause-too_many : goal.returns-in_err-give_tile-clause-too_many
returns-in_err-give_tile-clause-too_many c = λ e.
    let k = rw e at c.from_residual-in_err-give_tile.ensures in
    let flow = c.args.flow.now in
    let ports = c.args.ports.now in
    first_full c.law_giving.ensures flow ports c.args.v c.args.t c.home-from.result _ c.load_ins.result (take_value One c.args.v) c.home-from.ensures.value c.in_ok-haul.ensures c.load_ins.ensures refl c.args.programs.now
    (c.in_err-give_tile.ensures.too_many (tiles_in flow) (ap (λ r. Err r) (sym k.1)))

pub returns-in_err-give_tree-clause-too_many : goal.returns-in_err-give_tree-clause-too_many
returns-in_err-give_tree-clause-too_many c = λ e.
    let k = rw e at c.from_residual-in_err-give_tree.ensures in
    let ports = c.args.ports.now in
    let inside : Dataflow = record { cols = c.flow.inside.cols; rows = c.flow.inside.rows; nodes = c.flow.inside.nodes.items; outs = c.flow.inside.outs.items } in
    let at : c.home-from.result ≡ home inside ports c.args.v = c.home-from.ensures.value ∙ ap (λ (f : Dataflow). home f ports c.args.v) (sym c.flow.view_is) in
    subst (λ (f : Dataflow). Overflows (tiles_in f) (carried f ports c.args.v c.args.t) c.args.programs.now) c.flow.view_is
    (tree_full c.law_giving.ensures inside ports c.args.v c.args.t c.home-from.result _ c.load_ins.result (take_value One c.args.v) at c.in_ok-haul.ensures c.load_ins.ensures refl c.args.programs.now c.give_tile.new.self
    (c.in_ok-give_tile.ensures.gives (tiles_in inside)) (c.in_err-give_tree.ensures.too_many (ap (λ r. Err r) (sym k.1))))

pub returns-clause-gives : goal.returns-clause-gives
returns-clause-gives c =
    let ports = c.args.ports.now in
    let inside : Dataflow = record { cols = c.flow.inside.cols; rows = c.flow.inside.rows; nodes = c.flow.inside.nodes.items; outs = c.flow.inside.outs.items } in
    let at : c.home-from.result ≡ home inside ports c.args.v = c.home-from.ensures.value ∙ ap (λ (f : Dataflow). home f ports c.args.v) (sym c.flow.view_is) in
    subst (λ (f : Dataflow). OnOk c.give_tile-2.result (Gives (tiles_in f) (carried f ports c.args.v c.args.t) c.args.programs.now c.give_tile-2.new.self)) c.flow.view_is
    (on_ok_weaker c.give_tile-2.result
    (λ (h : Gives (tiles_in inside) (ToTile c.args.t c.store_ins.result ∷ []) c.give_tree.new.programs c.give_tile-2.new.self).
    carried_given c.law_giving.ensures inside ports c.args.v c.args.t c.home-from.result _ c.load_ins.result c.store_ins.result at c.in_ok-haul.ensures c.load_ins.ensures c.store_ins.ensures
    c.args.programs.now c.give_tile.new.self c.give_tree.new.programs c.give_tile-2.new.self
    (c.in_ok-give_tile.ensures.gives (tiles_in inside)) c.in_ok-give_tree.ensures.gives h)
    (c.give_tile-2.ensures.gives (tiles_in inside)))

pub returns-clause-too_many : goal.returns-clause-too_many
returns-clause-too_many c = λ e.
    let ports = c.args.ports.now in
    let inside : Dataflow = record { cols = c.flow.inside.cols; rows = c.flow.inside.rows; nodes = c.flow.inside.nodes.items; outs = c.flow.inside.outs.items } in
    let at : c.home-from.result ≡ home inside ports c.args.v = c.home-from.ensures.value ∙ ap (λ (f : Dataflow). home f ports c.args.v) (sym c.flow.view_is) in
    subst (λ (f : Dataflow). Overflows (tiles_in f) (carried f ports c.args.v c.args.t) c.args.programs.now) c.flow.view_is
    (last_full c.law_giving.ensures inside ports c.args.v c.args.t c.home-from.result _ c.load_ins.result c.store_ins.result at c.in_ok-haul.ensures c.load_ins.ensures c.store_ins.ensures
    c.args.programs.now c.give_tile.new.self c.give_tree.new.programs
    (c.in_ok-give_tile.ensures.gives (tiles_in inside)) c.in_ok-give_tree.ensures.gives (c.give_tile-2.ensures.too_many (tiles_in inside) e))
