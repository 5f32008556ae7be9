use Rattle.std.proofs.Common.{List, map, ap, ◌∙◌}
use Rattle.raw_prove.specs.declared.unit.Unit.{Unit}
use Rattle.raw_prove.specs.Units.{local_of}
use Rattle.raw_cut.specs.Parts.{uncounted}
use Rattle.raw_cut.proofs.standing.cut_at.Goals as goal

pub returns : goal.returns
returns c = λ i. record {
  window = c.args.window;
  at = record {
    nodes = c.in_ok-nodes.ensures i;
    state = record { locals = (c.in_ok-locals.ensures ∙ ap (λ (units : List Unit). map uncounted (map local_of units)) c.deref.ensures.value) i; wires = c.in_ok-wires.ensures i };
  };
}
