use Rattle.std.proofs.Common.{◌≡◌, false, [], ◌∷◌, sym, ◌∙◌, ap, refl, bytes_eq, codes, get_or, drop, Some, None}
use Rattle.raw_asm.specs.Tokens.{tokens_of}
use Rattle.raw_set_text.specs.declared.word.Word.TheVariants as word
use Rattle.raw_set_text.specs.Entry.Entry.{Grid, Limit}
use Rattle.raw_set_text.specs.Forms.{limit_entry}
use Rattle.raw_set_text.proofs.Reading.Heads.{other_word, limit_is, limit_line_fault, limit_form_fault}
use Rattle.raw_set_text.proofs.head.read_limit.Goals as goal

pub returns-then-not-begins_with-clause-fault : goal.returns-then-not-begins_with-clause-fault
returns-then-not-begins_with-clause-fault c columns rows =
    let other : bytes_eq (get_or (tokens_of c.args.line.now) 0 []) (codes "limit") ≡ false = cc (c.begins_with.ensures, c.if-not-begins_with.true) in
    other_word (Grid columns rows ∷ []) word.Limit (tokens_of c.args.line.now) refl c.requires other

pub returns-in_default-clause-fault : goal.returns-in_default-clause-fault
returns-in_default-clause-fault c columns rows =
    let form : limit_entry (drop 1 (tokens_of c.args.line.now)) ≡ None = ap limit_entry (sym c.behind.ensures) ∙ c.in_default.ensures {u = tt} in
    limit_form_fault columns rows (tokens_of c.args.line.now) c.requires (sym (c.if-not-begins_with.ensures {u = tt})) form

pub returns-then-is_limit-clause-fault : goal.returns-then-is_limit-clause-fault
returns-then-is_limit-clause-fault c columns rows =
    let form : limit_entry (drop 1 (tokens_of c.args.line.now)) ≡ Some (Limit c.in-Some.limit) = ap limit_entry (sym c.behind.ensures) ∙ c.in-Some.ensures {u = tt} in
    limit_line_fault columns rows (tokens_of c.args.line.now) c.in-Some.limit c.requires (sym (c.if-not-begins_with.ensures {u = tt})) form ∙ rw (sym c.is_limit.ensures.value, c.if-is_limit.true) refl

pub returns-then-is_limit-clause-entry : goal.returns-then-is_limit-clause-entry
returns-then-is_limit-clause-entry c =
    let form : limit_entry (drop 1 (tokens_of c.args.line.now)) ≡ Some (Limit c.in-Some.limit) = ap limit_entry (sym c.behind.ensures) ∙ c.in-Some.ensures {u = tt} in
    limit_is (tokens_of c.args.line.now) (sym (c.if-not-begins_with.ensures {u = tt})) ∙ form

pub returns-else-is_limit-clause-fault : goal.returns-else-is_limit-clause-fault
returns-else-is_limit-clause-fault c columns rows =
    let form : limit_entry (drop 1 (tokens_of c.args.line.now)) ≡ Some (Limit c.in-Some.limit) = ap limit_entry (sym c.behind.ensures) ∙ c.in-Some.ensures {u = tt} in
    limit_line_fault columns rows (tokens_of c.args.line.now) c.in-Some.limit c.requires (sym (c.if-not-begins_with.ensures {u = tt})) form ∙ rw (sym c.is_limit.ensures.value, c.if-is_limit.false) refl
