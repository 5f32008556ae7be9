use Rattle.std.proofs.Common.{rules, ◌<◌, set, subst, OnOk}
use Rattle.raw_model.specs.Program.{ProgramSet}
use Rattle.raw_model.specs.MoreWords.{IsSourceOf, AreAlikeButMoreWords}
use Rattle.raw_model.specs.contracts.program.Set.{the_view}
use Rattle.raw_model.specs.declared.limits.TheConstants.{MAX_ALL_WORDS}
use Rattle.raw_model.proofs.OneMore.{is_set, alike}
use Rattle.raw_model.proofs.program.Set.add_word.Goals as goal
use Rattle.raw_model.specs.Bounds.{all_words}

-- src/adding.rt:26:5
pub invariant_of-self : goal.invariant_of-self
invariant_of-self c =
    let programs : ProgramSet = the_view c.self.inside in
    let source : IsSourceOf programs c.args.port = search rules in
    let few : all_words programs < MAX_ALL_WORDS = search rules in
    is_set c.add.result programs c.args.port c.args.word c.index_mut.result.now c.add.new.self c.self.invariant source few c.ranges.word.fits c.index_mut.ensures.value c.add.ensures.added c.add.ensures.unchanged

-- src/adding.rt:26:5
pub returns-clause-more : goal.returns-clause-more
returns-clause-more c =
    let programs : ProgramSet = the_view c.self.inside in
    let source : IsSourceOf programs c.args.port = search rules in
    subst (λ before. OnOk c.add.result (AreAlikeButMoreWords before (record programs { ports = set programs.ports c.args.port c.add.new.self }))) c.self.view_is
    (alike c.add.result programs c.args.port c.args.word c.index_mut.result.now c.add.new.self c.self.invariant source c.index_mut.ensures.value c.add.ensures.added)
