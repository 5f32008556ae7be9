use Rattle.std.proofs.Common.{◌↔◌, ◌≤◌, drop}
use Rattle.raw_model.specs.declared.limits.TheConstants.{MAX_ALL_CODE, MAX_ALL_SWITCH_CODE}
use Rattle.raw_codegen.specs.Limits.{AreShort}
use Rattle.raw_codegen.proofs.Shortness.{AreShortBehind}
use Rattle.raw_codegen.proofs.programs.are_short.Given as goal

-- all are short where those that are left are, behind what has been counted
abbrev pub invariant-loop-tile : goal.invariant-loop-tile
invariant-loop-tile l = record {
  code : l.code ≤ MAX_ALL_CODE;
  switch : l.switch ≤ MAX_ALL_SWITCH_CODE;
  left : AreShortBehind l.code l.switch (drop l.tile-index l.tiles) ↔ AreShort l.tiles;
}
