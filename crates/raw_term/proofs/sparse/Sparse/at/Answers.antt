use Rattle.std.proofs.Common.{rules, Some, None, sym, ap, ◌∙◌}
use Rattle.std.specs.Prelude.{slice_index}
use Rattle.raw_term.proofs.sparse.Sparse.at.Goals as goal
use Rattle.raw_term.proofs.ByPlaces.{word_there}

pub returns-in-Some : goal.returns-in-Some
returns-in-Some c =
    let self = c.self.inside in
    sym (word_there self.len c.args.place self.words (Some c.in-Some.word.now) c.self.invariant (search rules)) ∙ ap (λ xs. slice_index xs c.args.place) c.self.view_is

pub returns-in-None : goal.returns-in-None
returns-in-None c =
    let self = c.self.inside in
    sym (word_there self.len c.args.place self.words None c.self.invariant (search rules)) ∙ ap (λ xs. slice_index xs c.args.place) c.self.view_is
