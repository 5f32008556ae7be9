use Rattle.std.proofs.Common.{◌≡◌, ℕ, ◌+◌, ◌-◌, [], Some, None, codes, take, drop, refl, sym, ◌∙◌, subst, arith, inr}
use Rattle.std.proofs.lemmas.List.Quantifiers.{position-Some}
use Rattle.raw_text.specs.Text.{text_lines, is_word}
use Rattle.raw_answer.proofs.Texts.{lines_fault}
use Rattle.raw_set_text.specs.declared.kind.SetKind.TheVariants.{NotAscii, LineTooLong}
use Rattle.raw_set_text.specs.Meaning.{IsMeaning}
use Rattle.raw_set_text.specs.Texts.{token_lines}
use Rattle.raw_lines.specs.Placing.{label_places}
use Rattle.raw_debug.specs.Commands.{bad_command}
use Rattle.raw_claim_text.specs.Marked.{mark_in}
use Rattle.raw_inputs.specs.declared.flaw.LineKind.TheVariants.{Set, BadCommand}
use Rattle.raw_inputs.specs.Inputs.{NoCommand, MarkedFault}
use Rattle.raw_inputs.proofs.marked.script_in.Goals as goal

pub returns-in-Ok-None-clause-says : goal.returns-in-Ok-None-clause-says
returns-in-Ok-None-clause-says c =
    let lines = token_lines c.args.input.items in
    let mark : ℕ = c.in-Some.mark in
    let set = c.in-Ok-read_set.set in
    let lines_are : text_lines c.in-Ok.text ≡ lines = c.in-Ok.ensures.lines in
    let marked : mark_in (codes "script") lines ≡ Some mark = subst (λ l. mark_in (codes "script") l ≡ Some mark) lines_are (sym c.find_word.ensures ∙ c.in-Some.is) in
    record {
      said = record {
        plain = c.in-Ok.ensures.faultless;
        place = mark;
        mark = marked;
        meaning = subst (λ l. IsMeaning (take mark l) set) lines_are c.in-Ok-read_set.ensures.meaning;
        commands = subst (λ l. bad_command (label_places set.topo (take mark l)) set (drop (mark + 1) l) ≡ None) lines_are (rw c.in-Ok-None.field-0-is at c.in-Ok-None.ensures);
      };
      from = refl;
      lines = lines_are;
      within = let below = (position-Some (is_word (codes "script")) lines mark [] marked).0 in omega (arith, below);
    }

pub returns-in-Ok-Some-clause-cause : goal.returns-in-Ok-Some-clause-cause
returns-in-Ok-Some-clause-cause c =
    let lines = token_lines c.args.input.items in
    let mark : ℕ = c.in-Some.mark in
    let set = c.in-Ok-read_set.set in
    let line : ℕ = c.in-Ok-Some.line in
    let lines_are : text_lines c.in-Ok.text ≡ lines = c.in-Ok.ensures.lines in
    let bad = rw c.in-Ok-Some.field-0-is at c.in-Ok-Some.ensures in
    lines_fault (Set NotAscii) (Set LineTooLong) (MarkedFault (codes "script") NoCommand) c.args.input.items c.in-Ok.ensures.faultless _ BadCommand
    (inr (record {
      place = mark;
      mark = subst (λ l. mark_in (codes "script") l ≡ Some mark) lines_are (sym c.find_word.ensures ∙ c.in-Some.is);
      set = set;
      set_is = subst (λ l. IsMeaning (take mark l) set) lines_are c.in-Ok-read_set.ensures.meaning;
      wrong = record {
        at = line - (mark + 1);
        bad = subst (λ l. bad_command (label_places set.topo (take mark l)) set (drop (mark + 1) l) ≡ Some (line - (mark + 1))) lines_are bad.2;
        line_is = let from = bad.0 in omega (arith, from);
        kind_is = refl;
      };
    }))
