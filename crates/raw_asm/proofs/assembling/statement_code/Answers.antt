use Rattle.std.proofs.Common.{sym}
use Rattle.raw_asm.specs.Tokens.{section_lines}
use Rattle.raw_asm.proofs.LabelPlaces.{place_is}
use Rattle.raw_asm.proofs.assembling.statement_code.Goals as goal

pub returns-clause-code : goal.returns-clause-code
returns-clause-code g c =
    let language = g.S.Statements.language c.args.statements.now in
    let lines = section_lines c.args.section.now in
    rw (sym (place_is language c.args.labels.now lines c.requires.labels), sym c.line.ensures, sym c.statement.ensures) c.code.ensures.code
