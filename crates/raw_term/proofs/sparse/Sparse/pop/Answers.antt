use Rattle.std.proofs.Common.{◌+◌, length, take, Some, None, sym, ap, ◌∙◌, subst, arith}
use Rattle.std.specs.Prelude.{slice_index}
use Rattle.std.proofs.lemmas.Grind.{common_steps}
use Rattle.raw_term.specs.Sparse.{AreZeros}
use Rattle.raw_term.proofs.sparse.Sparse.pop.Goals as goal
use Rattle.raw_term.proofs.ByPlaces.{is_some_at, word_there, words_long, behind, before, none_left}

pub returns-in-Some-clause-within : goal.returns-in-Some-clause-within
returns-in-Some-clause-within c =
    let self = c.self.inside in
    let e = words_long self.len self.words in
    let same = ap length c.self.view_is in
    let h = c.self.invariant c.in-Some.place (is_some_at c.in-Some.ensures.value) in
    omega (arith, e, h, same)

pub returns-in-Some-clause-word : goal.returns-in-Some-clause-word
returns-in-Some-clause-word c =
    let self = c.self.inside in
    sym (word_there self.len c.in-Some.place self.words (Some c.in-Some.word) c.self.invariant c.in-Some.ensures.value) ∙ ap (λ xs. slice_index xs c.in-Some.place) c.self.view_is

pub returns-in-Some-clause-last : goal.returns-in-Some-clause-last
returns-in-Some-clause-last c =
    let self = c.self.inside in
    subst (AreZeros (c.in-Some.place + 1)) c.self.view_is (behind self.len c.in-Some.place self.words c.self.invariant c.in-Some.ensures.greatest)

pub returns-in-Some-clause-rest : goal.returns-in-Some-clause-rest
returns-in-Some-clause-rest c =
    let self = c.self.inside in
    before self.len c.in-Some.place self.words c.pop_last.new.self (c.self.invariant c.in-Some.place (is_some_at c.in-Some.ensures.value)) c.in-Some.ensures.updates
    ∙ ap (take c.in-Some.place) c.self.view_is

pub returns-in-None-clause-none : goal.returns-in-None-clause-none
returns-in-None-clause-none c =
    let self = c.self.inside in
    subst (AreZeros 0) c.self.view_is (λ i l. word_there self.len i self.words None c.self.invariant (none_left self.words i (grind (arith, common_steps, c.in-None.ensures.variant))))
