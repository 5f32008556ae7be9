use Rattle.std.proofs.Common.{◌≡◌, ◌<◌, Bool, false, cond, [], sym, subst, arith}
use Rattle.raw_grid.specs.declared.limits.TheConstants.{MAX_TILES}
use Rattle.raw_codegen.specs.Parts.{Gives}
use Rattle.raw_flow.specs.Places.{has}
use Rattle.raw_flow.specs.Compiled.{tiles_in, carried}
use Rattle.raw_flow.proofs.giving.move_value.Goals as goal

pub returns-in_ok-carry-clause-moved : goal.returns-in_ok-carry-clause-moved
returns-in_ok-carry-clause-moved c = λ held are.
    let flow = c.args.flow.now in
    let few : c.args.t < MAX_TILES = let a = c.requires.tile in let b = c.requires.stands.few_tiles in omega arith in
    let not_there : has held c.args.v c.args.t ≡ false = sym (c.if-not-has.ensures flow held are c.requires.stands.value few) in
    record {
      gives = subst (λ (there : Bool). Gives (tiles_in flow) (cond there [] (carried flow c.args.ports.now c.args.v c.args.t)) c.args.programs.now c.carry.new.programs) (sym not_there) c.in_ok-carry.ensures.gives;
      marked = c.put.ensures flow held are;
    }
