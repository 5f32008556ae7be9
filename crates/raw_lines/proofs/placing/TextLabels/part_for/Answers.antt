use Rattle.std.proofs.Common.{◌≡◌, ◌≤◌, List, length, Some, find, sym, ap, ◌∙◌, arith, length-take-le}
use Rattle.std.specs.Option.{option_map}
use Rattle.raw_text.specs.Text.{text_lines}
use Rattle.raw_lines.specs.declared.section.ProgramSection.{ProgramSection}
use Rattle.raw_lines.specs.Sections.{is_for, part_in, part_for}
use Rattle.raw_lines.specs.LabelsOf.{lines_in}
use Rattle.raw_lines.specs.Reading.{seen}
use Rattle.raw_lines.proofs.Inside.{IsInside, found_inside, part_is}
use Rattle.raw_lines.proofs.placing.TextLabels.part_for.Goals as goal
use Rattle.raw_lines.proofs.placing.TextLabels.part_for.Goals.{In-Some}

-- the section that is found stands inside the lines
inside : (c : In-Some) → IsInside (length (lines_in c.args.self.now)) c.in-Some.section
inside c =
    let test = is_for c.args.kind c.args.self.now.topo.now.cols c.args.tile in
    found_inside (lines_in c.args.self.now) test c.in-Some.section (sym (ap (find test) (c.deref.ensures.value ∙ c.args.self.now.all)) ∙ sym c.in-Some.ensures)

pub new-requires-clause-order : goal.new-requires-clause-order
new-requires-clause-order c = (inside (goal.at.new-requires-clause-order c).In-Some).order

pub new-requires-clause-within : goal.new-requires-clause-within
new-requires-clause-within c =
    let self = c.args.self.now in
    omega (arith, (inside (goal.at.new-requires-clause-within c).In-Some).within, length-take-le self.to (text_lines self.text.now) self.within, self.within)

pub returns-in-Some : goal.returns-in-Some
returns-in-Some c =
    let self = c.args.self.now in
    let lines = lines_in self in
    let section = c.in-Some.section in
    let there = inside (goal.at.returns-in-Some c).In-Some in
    let within : section.to ≤ self.to = omega (arith, there.within, length-take-le self.to (text_lines self.text.now) self.within) in
    let same = c.new.ensures.lines ∙ part_is (text_lines self.text.now) self.to section.from section.to there.order within in
    let pair : seen c.new.result ≡ part_in lines section = λ i. (c.new.ensures.from i, same i) in
    ap Some pair ∙ ap (option_map (part_in lines)) c.in-Some.ensures
    ∙ ap (λ (sections : List ProgramSection). part_for lines sections c.args.kind self.topo.now c.args.tile) c.deref.ensures.value
