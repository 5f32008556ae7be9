-- What the cuts and proofs of the code stand for.
use Rattle.std.specs.Prelude.{map}
use Rattle.raw_model.specs.Local.{Local, Tile, Switch, Source, Sink}
use Rattle.raw_rows.specs.Kernels.{Cut as KernelCut, LiveProof as KernelProof}
use Rattle.raw_cut.specs.declared.cut.Cut.{Cut}
use Rattle.raw_cut.specs.declared.cut.CutLocal.{CutLocal}
use Rattle.raw_cut.specs.declared.cut.CutLocal.TheVariants as a
use Rattle.raw_cut.specs.declared.proof.LiveProof.{LiveProof}

-- the local state of a processor
abbrev pub local_at : CutLocal → Local
local_at (a.Tile l) = Tile l
local_at (a.Switch l) = Switch l
local_at (a.Source l) = Source l
local_at (a.Sink l) = Sink l

abbrev pub cut_of : Cut → KernelCut
cut_of cut = record {
  window = cut.window;
  at = record { nodes = cut.nodes.items; state = record { locals = map local_at cut.locals.items; wires = map (λ wire. wire.items) cut.wires.items } };
}

abbrev pub proof_of : LiveProof → KernelProof
proof_of w = record {
  cut = cut_of w.cut;
  opening = w.opening.items;
  first_rows = w.first_rows;
  first_limit = w.first_limit;
  kernel = w.kernel.items;
  rows = w.rows;
  limit = w.limit;
  endings = map (λ steps. steps.items) w.endings.items;
  last_limit = w.last_limit;
  lacks = w.lacks.items;
}
