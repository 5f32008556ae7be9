use Rattle.std.proofs.Common.{slice_set, sym, ap, ◌∙◌, arith}
use Rattle.raw_term.proofs.sparse.Sparse.set.Goals as goal
use Rattle.raw_term.proofs.ByPlaces.{word_put, word_past}

pub returns-in_ok-insert : goal.returns-in_ok-insert
returns-in_ok-insert c =
    let self = c.self.inside in
    word_put self.len c.args.place c.args.word self.words c.insert.new.self c.in_ok-insert.ensures.updates ∙ ap (λ xs. slice_set xs c.args.place c.args.word) c.self.view_is

pub returns-else-place-self : goal.returns-else-place-self
returns-else-place-self c =
    let self = c.self.inside in
    sym c.self.view_is ∙ sym (word_past self.len c.args.place c.args.word self.words (omega arith)) ∙ ap (λ xs. slice_set xs c.args.place c.args.word) c.self.view_is
