use Rattle.raw_route.proofs.Given.{TreeLaws}
use Rattle.raw_route.proofs.TreeRuns.{tree_runs}
use Rattle.raw_route.proofs.laws.law_tree_runs.Goals as goal

pub returns : goal.returns
returns c = λ set all parts rest memories haul x s script is old e alone.
    let laws : TreeLaws = record {
      end_fits = c.law_fits.ensures.end_fits;
      parts = c.law_parts.ensures;
      switch_is = c.law_scripts.ensures.switch_code;
      few_switch = c.law_scripts.ensures.few_switch;
    } in
    tree_runs laws set all script parts rest memories haul x s is old e alone
