use Rattle.std.proofs.Common.{◌*◌}
use Rattle.std.proofs.lemmas.List.Elements.{recursion_from_All}
use Rattle.raw_route.specs.Planned.{IsSending, plan_parts, planned}
use Rattle.raw_route.proofs.PlannedSets.{PartsLaws, planned_is_set}
use Rattle.raw_route.proofs.laws.law_planned.Goals as goal

pub returns : goal.returns
unfolding planned plan_parts
returns c = λ cols rows xs size oks short.
    let laws : PartsLaws = record {
      give = c.law_parts.ensures;
      append = c.law_lawful_parts.ensures.append;
      block = c.law_lawful_parts.ensures.block;
      programs = c.law_lawful_parts.ensures.programs;
      wires = c.law_lawful_parts.ensures.wires;
      cells = c.law_lawful_parts.ensures.cells;
      misses = c.law_lawful_parts.ensures.misses;
      li = c.law_lawful_parts.ensures.li;
      send = c.law_lawful_parts.ensures.send;
      store = c.law_lawful_parts.ensures.store;
    } in
    planned_is_set laws cols rows size xs (recursion_from_All (IsSending (cols * rows)) xs oks) short
