use Rattle.std.proofs.Common.{◌≡◌, [], Some, None, refl, sym, ap, ◌∙◌}
use Rattle.raw_asm.specs.Tokens.{tokens_of}
use Rattle.raw_plan_text.specs.Forms.{grid_entry, line_entry}
use Rattle.raw_plan_text.specs.Forms.Entry.{Grid}
use Rattle.raw_plan_text.specs.Faults.{form_fault}
use Rattle.raw_plan_text.proofs.Steps.{missing_line, first_line, grid_line, bad_size, first_grid, stands_first}
use Rattle.raw_plan_text.proofs.reader.read_grid.Goals as goal

pub returns-then-not-is_grid-clause-fault : goal.returns-then-not-is_grid-clause-fault
returns-then-not-is_grid-clause-fault c = rw c.refusal.ensures (refl, missing_line (tokens_of c.args.line.now) c.requires (sym (c.if-not-is_grid.ensures {u = tt})))

pub returns-in_default-clause-fault : goal.returns-in_default-clause-fault
returns-in_default-clause-fault c =
    let tokens = tokens_of c.args.line.now in
    let grid = sym (c.if-not-is_grid.ensures {u = tt}) in
    let entry : line_entry tokens ≡ None = grid_line tokens grid ∙ ap grid_entry (sym c.behind.ensures) ∙ c.in_default.ensures {u = tt} in
    rw c.refusal-in_default.ensures (refl, first_line tokens c.requires grid ∙ ap (form_fault []) entry)

pub returns-then-not-is_size-clause-fault : goal.returns-then-not-is_size-clause-fault
returns-then-not-is_size-clause-fault c =
    let tokens = tokens_of c.args.line.now in
    let grid = sym (c.if-not-is_grid.ensures {u = tt}) in
    let entry : line_entry tokens ≡ Some (Grid c.in-Some.columns c.in-Some.rows) = grid_line tokens grid ∙ ap grid_entry (sym c.behind.ensures) ∙ c.in-Some.ensures {u = tt} in
    rw c.refusal-then-not-is_size.ensures (refl, first_line tokens c.requires grid ∙ ap (form_fault []) entry ∙ bad_size [] c.in-Some.columns c.in-Some.rows (sym c.if-not-is_size.ensures.value))

pub returns-clause-fault : goal.returns-clause-fault
returns-clause-fault c =
    let tokens = tokens_of c.args.line.now in
    let grid = sym (c.if-not-is_grid.ensures {u = tt}) in
    let entry : line_entry tokens ≡ Some (Grid c.in-Some.columns c.in-Some.rows) = grid_line tokens grid ∙ ap grid_entry (sym c.behind.ensures) ∙ c.in-Some.ensures {u = tt} in
    first_line tokens c.requires grid ∙ ap (form_fault []) entry ∙ first_grid c.in-Some.columns c.in-Some.rows (sym c.if-not-is_size.ensures.value)

pub returns-clause-stands : goal.returns-clause-stands
returns-clause-stands c =
    let tokens = tokens_of c.args.line.now in
    let grid = sym (c.if-not-is_grid.ensures {u = tt}) in
    let entry : line_entry tokens ≡ Some (Grid c.in-Some.columns c.in-Some.rows) = grid_line tokens grid ∙ ap grid_entry (sym c.behind.ensures) ∙ c.in-Some.ensures {u = tt} in
    stands_first _ c.in-Some.columns c.in-Some.rows (line_entry tokens) entry
    (rw (c.new.ensures.items, c.new-2.ensures.items) refl)
