use Rattle.std.proofs.Common.{◌≡◌}
use Rattle.raw_grid.specs.Topology.{proc_count}
use Rattle.raw_state_text.proofs.Sections.{Numbered}
use Rattle.raw_lost.specs.Lost.{lost_by}
use Rattle.raw_lost.specs.Text.{lost_line}
use Rattle.raw_lost.proofs.writing.put_lost.Given as goal

abbrev pub invariant-all : goal.invariant-all
invariant-all g l =
    (l.p-end ≡ proc_count l.fn.m.set.topo)
    × Numbered (g.K.Sink.sight l.fn.out) (g.K.Sink.sight l.out) (λ p. lost_line p (lost_by l.fn.m.set l.fn.ran.cycles p)) (proc_count l.fn.m.set.topo) l.p
