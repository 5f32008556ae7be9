use Rattle.std.proofs.Common.{refl, ap, ◌∙◌}
use Rattle.std.specs.Prelude.{length}
use Rattle.raw_model.specs.Program.{TileProgram}
use Rattle.raw_codegen.proofs.Shortness.{counted, all_counted}
use Rattle.raw_codegen.proofs.programs.are_short.Goals as goal

pub loop-tile-preserved : goal.loop-tile-preserved
loop-tile-preserved c = record {
  code = c.if-code-gt-MAX_ALL_CODE.false;
  switch = c.if-switch-gt-MAX_ALL_SWITCH_CODE.false;
  left = counted c.args.tiles.now c.loop-tile.tile-index c.tile-item.result c.loop-tile.code c.loop-tile.switch c.len.result c.len-in-loop-tile.result c.loop-tile-test.true c.tile-item.is
      (c.if-not-is_short.ensures.0 refl)
      (c.len.ensures ∙ c.tile.inside.code.ok.0 ∙ ap (λ (x : TileProgram). length x.code) c.tile.view_is)
      (c.len-in-loop-tile.ensures ∙ c.tile.inside.switch.ok.0 ∙ ap (λ (x : TileProgram). length x.switch) c.tile.view_is)
      c.loop-tile.invariant.left;
}

pub returns : goal.returns
returns c = (
  λ h. all_counted c.args.tiles.now c.loop-tile.tile-index c.loop-tile.code c.loop-tile.switch c.loop-tile-test.false c.loop-tile.invariant.code c.loop-tile.invariant.switch c.loop-tile.invariant.left,
  λ h. refl,
)
