use Rattle.std.proofs.Common.{◌≡◌, length, map, take}
use Rattle.raw_rows.specs.Kernels.{renumbered}
use Rattle.raw_prove.specs.Units.{local_of}
use Rattle.raw_cut.specs.Cuts.{local_at}
use Rattle.raw_cut.specs.Kept.{AreUnitsWith}
use Rattle.raw_cut.proofs.beginning.units_at.Given as goal

abbrev pub invariant-loop-p : goal.invariant-loop-p
invariant-loop-p l = record {
  locals : map local_of l.units.items ≡ map (renumbered l.numbers) (map local_at (take l.p l.cuts));
  kept : AreUnitsWith l.set 1 l.units.items;
  many : length l.units.items ≡ l.p;
}
