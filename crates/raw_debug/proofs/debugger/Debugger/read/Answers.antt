use Rattle.std.proofs.Common.{ap, ◌∙◌, subst}
use Rattle.raw_lines.specs.LabelsOf.{places_in}
use Rattle.raw_debug.specs.Commands.{meaning_of}
use Rattle.raw_debug.specs.Live.{Session}
use Rattle.raw_debug.specs.Debugging.{IsPossibleReading}
use Rattle.raw_debug.proofs.TokenCounts.{reading_possible}
use Rattle.raw_debug.proofs.debugger.Debugger.read.Goals as goal

pub returns-clause-meaning : goal.returns-clause-meaning
returns-clause-meaning g c =
    let labels = places_in c.args.labels.now in
    let tokens = g.L.Tokens.tokens c.args.line.now in
    c.reading_of.ensures
    ∙ ap (λ set. meaning_of labels set c.self.inside.current.0 tokens) (c.set-set.ensures.value ∙ c.machine.ensures.set)
    ∙ ap (λ (s : Session). meaning_of labels s.set s.spot.current.0 tokens) c.self.view_is

pub returns-clause-possible : goal.returns-clause-possible
returns-clause-possible g c =
    let labels = places_in c.args.labels.now in
    let tokens = g.L.Tokens.tokens c.args.line.now in
    let own = c.machine.result.now.set in
    let p = c.self.inside.current.0 in
    let read = c.reading_of.ensures ∙ ap (λ set. meaning_of labels set p tokens) c.set-set.ensures.value in
    subst (λ (s : Session). IsPossibleReading s.set s.spot.current.0 c.reading_of.result) c.self.view_is
    (subst (λ set. IsPossibleReading set p c.reading_of.result) c.machine.ensures.set
    (reading_possible own c.set-set.ensures.valid.topology p labels tokens c.reading_of.result read))
