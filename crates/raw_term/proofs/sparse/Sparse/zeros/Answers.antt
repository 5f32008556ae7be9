use Rattle.raw_term.proofs.sparse.Sparse.zeros.Goals as goal
use Rattle.raw_term.proofs.ByPlaces.{no_words}

pub returns : goal.returns
returns c = no_words c.args.len c.new.result c.new.ensures.empty
