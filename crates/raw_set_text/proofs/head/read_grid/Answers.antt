use Rattle.std.proofs.Common.{◌≡◌, false, [], sym, ◌∙◌, ap, refl, bytes_eq, codes, get_or, drop, Some, None}
use Rattle.raw_asm.specs.Tokens.{tokens_of}
use Rattle.raw_set_text.specs.declared.word.Word.TheVariants as word
use Rattle.raw_set_text.specs.Entry.Entry.{Grid}
use Rattle.raw_set_text.specs.Forms.{grid_entry}
use Rattle.raw_set_text.proofs.Reading.Heads.{other_word, grid_is, grid_line_fault, grid_form_fault, grid_entry_kept, grid_stands_kept}
use Rattle.raw_set_text.proofs.head.read_grid.Goals as goal

pub returns-then-not-begins_with-clause-fault : goal.returns-then-not-begins_with-clause-fault
returns-then-not-begins_with-clause-fault c =
    let other : bytes_eq (get_or (tokens_of c.args.line.now) 0 []) (codes "grid") ≡ false = cc (c.begins_with.ensures, c.if-not-begins_with.true) in
    other_word [] word.Grid (tokens_of c.args.line.now) refl c.requires other

pub returns-in_default-clause-fault : goal.returns-in_default-clause-fault
returns-in_default-clause-fault c =
    let form : grid_entry (drop 1 (tokens_of c.args.line.now)) ≡ None = ap grid_entry (sym c.behind.ensures) ∙ c.in_default.ensures {u = tt} in
    grid_form_fault (tokens_of c.args.line.now) c.requires (sym (c.if-not-begins_with.ensures {u = tt})) form

pub returns-clause-fault : goal.returns-clause-fault
returns-clause-fault c =
    let form : grid_entry (drop 1 (tokens_of c.args.line.now)) ≡ Some (Grid c.in-Some.columns c.in-Some.rows) = ap grid_entry (sym c.behind.ensures) ∙ c.in-Some.ensures {u = tt} in
    rw (grid_line_fault (tokens_of c.args.line.now) c.in-Some.columns c.in-Some.rows c.requires (sym (c.if-not-begins_with.ensures {u = tt})) form) c.new.ensures.fault

pub returns-clause-entry : goal.returns-clause-entry
returns-clause-entry c =
    let form : grid_entry (drop 1 (tokens_of c.args.line.now)) ≡ Some (Grid c.in-Some.columns c.in-Some.rows) = ap grid_entry (sym c.behind.ensures) ∙ c.in-Some.ensures {u = tt} in
    grid_entry_kept c.new.result c.in-Some.columns c.in-Some.rows _ (grid_is (tokens_of c.args.line.now) (sym (c.if-not-begins_with.ensures {u = tt})) ∙ form) c.new.ensures.stands

pub returns-clause-stands : goal.returns-clause-stands
returns-clause-stands c = grid_stands_kept c.new.result c.in-Some.columns c.in-Some.rows c.new.ensures.stands
