use Rattle.std.proofs.Common.{◌≡◌, ◌<◌, [], length, get_or, Some, Err, sym, ap, subst, ◌∙◌, arith}
use Rattle.raw_asm.specs.Tokens.{tokens_of, section_lines}
use Rattle.raw_set_text.specs.Entry.{entry_of, said_by}
use Rattle.raw_set_text.specs.Forms.{line_entry}
use Rattle.raw_set_text.specs.Answers.{ReadsAs}
use Rattle.raw_set_text.proofs.Lawful.Forms.{line_formed}
use Rattle.raw_set_text.proofs.Reading.Lines.{passes_blank, refused_form, refused_entry, plain_entry, passes_entry, formed_aligned}
use Rattle.raw_set_text.proofs.reader.read_entry.Goals as goal

pub returns-then-len-eq0 : goal.returns-then-len-eq0
returns-then-len-eq0 c =
    let lines = section_lines c.args.lines.now in
    let none : length (get_or lines c.args.place []) ≡ 0 = ap length (sym c.line-line.ensures) ∙ (omega arith) in
    (omega arith, passes_blank lines c.args.place c.args.builder.now c.requires.stands c.requires.here none)

pub returns-in-Err : goal.returns-in-Err
returns-in-Err c =
    let lines = section_lines c.args.lines.now in
    let some : 0 < length (get_or lines c.args.place []) = subst (λ line. 0 < length line) c.line-line.ensures (omega arith) in
    let reads = subst (λ line. ReadsAs (Err c.in-Err.refusal) (line_entry line)) c.line-line.ensures c.in-Err.ensures in
    rw c.located.ensures (refused_form lines c.args.place c.args.builder.now c.requires.stands c.requires.here c.in-Err.refusal some reads)

pub add-requires : goal.add-requires
add-requires c =
    let said = c.in-Ok.ensures ∙ ap (λ line. Some (said_by line)) c.in-Plain.is in
    formed_aligned c.requires.stands.entries (entry_of c.in-Plain.declaration) (line_formed c.requires.stands.entries (tokens_of c.line-line.result) (entry_of c.in-Plain.declaration) said)

pub returns-in-Ok-add : goal.returns-in-Ok-add
returns-in-Ok-add c =
    let lines = section_lines c.args.lines.now in
    let at = c.requires.stands in
    let some : 0 < length (get_or lines c.args.place []) = subst (λ line. 0 < length line) c.line-line.ensures (omega arith) in
    let is : line_entry (get_or lines c.args.place []) ≡ Some (entry_of c.in-Plain.declaration) = ap line_entry (sym c.line-line.ensures) ∙ c.in-Ok.ensures ∙ ap (λ line. Some (said_by line)) c.in-Plain.is in (
      omega arith,
      passes_entry lines c.args.place c.args.builder.now at c.requires.here c.add.new.self (entry_of c.in-Plain.declaration) some is (plain_entry c.in-Plain.declaration)
          (c.in-Ok-add.ensures.fault at.entries at.stands) (c.in-Ok-add.ensures.stands at.entries at.stands),
    )

pub returns-in-Plain : goal.returns-in-Plain
returns-in-Plain c =
    let lines = section_lines c.args.lines.now in
    let at = c.requires.stands in
    let some : 0 < length (get_or lines c.args.place []) = subst (λ line. 0 < length line) c.line-line.ensures (omega arith) in
    let is : line_entry (get_or lines c.args.place []) ≡ Some (entry_of c.in-Plain.declaration) = ap line_entry (sym c.line-line.ensures) ∙ c.in-Ok.ensures ∙ ap (λ line. Some (said_by line)) c.in-Plain.is in
    rw c.located-in-Err-add.ensures (refused_entry lines c.args.place c.args.builder.now at c.requires.here c.in-Err-add.refusal (entry_of c.in-Plain.declaration) some is (c.in-Err-add.ensures.fault at.entries at.stands))
