use Rattle.std.proofs.Common.{[], ◌≡◌, true, false, get_or, refl, sym, ap, ◌∙◌, append-nil, arith}
use Rattle.std.specs.Option.{option_map}
use Rattle.raw_asm.specs.Tokens.{tokens_of}
use Rattle.raw_stream_text.specs.Statement.{said_by}
use Rattle.raw_stream_text.specs.Faults.{due_word, is_missing}
use Rattle.raw_stream_text.proofs.Next.{blank_says}
use Rattle.raw_stream_text.proofs.Standing.{line_blank, line_missing, line_bad, line_answers, line_stands}
use Rattle.raw_stream_text.proofs.builder.Builder.add_line.Goals as goal

pub returns-then-len-eq0-clause-fault : goal.returns-then-len-eq0-clause-fault
returns-then-len-eq0-clause-fault c = λ all said rest is split stands.
    line_blank (option_map (λ topo. topo.now) c.args.claimed) c.args.self.now all said (tokens_of c.args.line.now) (omega arith)

pub returns-then-len-eq0-clause-stands : goal.returns-then-len-eq0-clause-stands
returns-then-len-eq0-clause-stands c = λ all said rest is split stands.
    let none = blank_says (tokens_of c.args.line.now) (omega arith) in
    rw (none, append-nil) stands

pub returns-then-is_missing-clause-fault : goal.returns-then-is_missing-clause-fault
returns-then-is_missing-clause-fault c = λ all said rest is split stands.
    let due : is_missing (due_word c.args.self.now.size c.args.self.now.count) (get_or (tokens_of c.args.line.now) 0 []) ≡ true = ap (is_missing (due_word c.args.self.now.size c.args.self.now.count)) (sym c.at.ensures) ∙ sym c.is_missing.ensures ∙ c.if-is_missing.true in
    rw c.at-then-is_missing.ensures (refl, line_missing (option_map (λ topo. topo.now) c.args.claimed) c.args.self.now all said (tokens_of c.args.line.now) stands (omega arith) due)

pub returns-in-Ok-Some-clause-fault : goal.returns-in-Ok-Some-clause-fault
returns-in-Ok-Some-clause-fault c = λ all said rest is split stands.
    let due : is_missing (due_word c.args.self.now.size c.args.self.now.count) (get_or (tokens_of c.args.line.now) 0 []) ≡ false = ap (is_missing (due_word c.args.self.now.size c.args.self.now.count)) (sym c.at.ensures) ∙ sym c.is_missing.ensures ∙ c.if-is_missing.false in
    let says = rw c.in-Ok-Some.field-0-is at c.in-Ok-Some.ensures in
    line_answers (option_map (λ topo. topo.now) c.args.claimed) c.args.self.now all said (tokens_of c.args.line.now) c.add.new.self c.args.number c.add.result (said_by c.in-Ok-Some.said) rest (sym says) (c.add.ensures all is) split stands (omega arith) due

pub returns-in-Ok-Some-clause-stands : goal.returns-in-Ok-Some-clause-stands
returns-in-Ok-Some-clause-stands c = λ all said rest is split stands.
    let says = rw c.in-Ok-Some.field-0-is at c.in-Ok-Some.ensures in
    line_stands (option_map (λ topo. topo.now) c.args.claimed) c.args.self.now all said (tokens_of c.args.line.now) c.add.new.self c.args.number c.add.result (said_by c.in-Ok-Some.said) rest (sym says) (c.add.ensures all is) split stands

pub returns-in-Ok-None-clause-fault : goal.returns-in-Ok-None-clause-fault
returns-in-Ok-None-clause-fault c = λ all said rest is split stands.
    let due : is_missing (due_word c.args.self.now.size c.args.self.now.count) (get_or (tokens_of c.args.line.now) 0 []) ≡ false = ap (is_missing (due_word c.args.self.now.size c.args.self.now.count)) (sym c.at.ensures) ∙ sym c.is_missing.ensures ∙ c.if-is_missing.false in
    let says = rw c.in-Ok-None.field-0-is at c.in-Ok-None.ensures in
    rw c.at-in-Ok-None.ensures (refl, line_bad (option_map (λ topo. topo.now) c.args.claimed) c.args.self.now all said (tokens_of c.args.line.now) stands (omega arith) due (sym says))
