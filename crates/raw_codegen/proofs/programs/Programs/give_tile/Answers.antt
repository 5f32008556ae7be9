use Rattle.std.proofs.Common.{◌≡◌, ◌+◌, ◌<◌, ◌≤◌, length, get_or, ap, subst, ◌∙◌, arith}
use Rattle.std.specs.Prelude.{List}
use Rattle.raw_tile_isa.specs.declared.limits.TheConstants.{MAX_TILE_CODE}
use Rattle.raw_model.specs.Program.{TileProgram}
use Rattle.raw_codegen.proofs.Giving.{full_tile}
use Rattle.raw_codegen.proofs.programs.Programs.give_tile.Goals as goal

pub returns-then-len-ge-MAX_TILE_CODE-clause-too_many : goal.returns-then-len-ge-MAX_TILE_CODE-clause-too_many
returns-then-len-ge-MAX_TILE_CODE-clause-too_many c = λ n e.
    let size = ap (λ (z : TileProgram). length z.code) c.behind-self.view_is in
    let within : c.args.tile < length c.args.self.now = let a = c.if-tile-len.true in let b = c.len.ensures in let d = c.self.inside.tiles.ok.0 in let f = ap length c.self.view_is in omega arith in
    full_tile n c.args.tile c.args.ins c.args.self.now c.index.result.now within
    (subst (λ (tiles : List TileProgram). c.index.result.now ≡ get_or tiles c.args.tile c.index.result.now) c.self.view_is c.index.ensures)
    (subst (λ k. MAX_TILE_CODE ≤ k + 1) (c.len-then-tile-len.ensures ∙ c.behind-self.inside.code.ok.0 ∙ size) c.if-len-ge-MAX_TILE_CODE.true)
