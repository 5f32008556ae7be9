use Rattle.std.proofs.Common.{refl, sym, ◌∙◌, []}
use Rattle.raw_set_text.specs.Entry.Entry.{Tile}
use Rattle.raw_set_text.proofs.Building.Entries.{off_answers}
use Rattle.raw_set_text.proofs.Building.Sections.{section_fault_is, code_fits, head_repeated, head_faultless}
use Rattle.raw_set_text.proofs.builder.Builder.tile_head.Goals as goal

pub returns-in_err-number-clause-fault : goal.returns-in_err-number-clause-fault
returns-in_err-number-clause-fault c entries stands =
    off_answers entries (Tile c.args.tile []) c.args.tile c.from_residual.result c.in_err-number.field-0.0 refl refl c.from_residual.ensures.1 (c.in_err-number.ensures.numbered entries stands)

pub returns-then-has_code-clause-fault : goal.returns-then-has_code-clause-fault
returns-then-has_code-clause-fault c entries stands =
    let at = c.in_ok-number.ensures.numbered entries stands in
    section_fault_is c.args.self.now entries c.args.tile stands at.0 []
    ∙ head_repeated entries (Tile c.args.tile []) (sym (c.has_code.ensures.repeated entries c.args.tile [] stands.tiles at.1) ∙ c.if-has_code.true)

pub returns-clause-fault : goal.returns-clause-fault
returns-clause-fault c entries stands =
    let at = c.in_ok-number.ensures.numbered entries stands in
    section_fault_is c.args.self.now entries c.args.tile stands at.0 []
    ∙ head_faultless entries (Tile c.args.tile []) (sym (c.has_code.ensures.repeated entries c.args.tile [] stands.tiles at.1) ∙ c.if-has_code.false) (code_fits c.args.self.now entries c.args.tile stands at.0)
