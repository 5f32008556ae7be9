use Rattle.std.proofs.Common.{◌≡◌, ◌<◌, ◌≤◌, length, sym, subst, get_or, arith}
use Rattle.raw_model.specs.Program.{TileProgram}
use Rattle.raw_codegen.proofs.Giving.{switch_given, switch_outside}
use Rattle.raw_codegen.proofs.programs.push_switch.Goals as goal

pub returns-in_ok-push-clause-gives : goal.returns-in_ok-push-clause-gives
returns-in_ok-push-clause-gives c = λ n.
    let within : c.args.tile < length c.args.tiles.now.items = let a = c.if-tile-len.true in let b = c.len.ensures in let d = c.args.tiles.now.ok.0 in omega arith in
    switch_given n c.args.tile c.args.ins c.args.tiles.now.items _ c.push.new.self.items within
    (subst (λ (z : TileProgram). z ≡ get_or c.args.tiles.now.items c.args.tile z) (sym c.behind-tiles.view_is) c.index_mut.ensures.value) c.in_ok-push.ensures.items

pub returns-else-tile-len-clause-gives : goal.returns-else-tile-len-clause-gives
returns-else-tile-len-clause-gives c = λ n.
    let outside : length c.args.tiles.now.items ≤ c.args.tile = let a = c.if-tile-len.false in let b = c.len.ensures in let d = c.args.tiles.now.ok.0 in omega arith in
    switch_outside n c.args.tile c.args.ins c.args.tiles.now.items outside
