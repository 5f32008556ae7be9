use Rattle.raw_walks.proofs.Walking.{law_arrives, law_passes, law_leaves, law_entered, law_begins, law_tree_walks}
use Rattle.raw_walks.proofs.laws.law_walks.Goals as goal

pub returns : goal.returns
returns c = record {
  arrives = law_arrives;
  passes = law_passes;
  leaves = law_leaves;
  entered = law_entered;
  begins = law_begins;
  tree = law_tree_walks;
}
