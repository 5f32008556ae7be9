use Rattle.std.proofs.Common.{[], get_or, sym, subst, ◌∙◌, arith}
use Rattle.raw_text.specs.Text.{text_lines}
use Rattle.raw_asm.specs.Tokens.{section_lines}
use Rattle.raw_switch_asm.specs.Language.{switch_language}
use Rattle.raw_set_text.specs.Entry.Entry.{Switch}
use Rattle.raw_set_text.specs.Answers.{Names, with_entry}
use Rattle.raw_set_text.proofs.Lawful.Entries.{inside_parts}
use Rattle.raw_set_text.proofs.Building.Entries.{columns_stand, rows_stand}
use Rattle.raw_set_text.proofs.Reading.Lines.{refused_entry}
use Rattle.raw_set_text.proofs.Building.Sections.{switch_added, switch_fault_is}
use Rattle.raw_set_text.proofs.Reading.Sections.{told, switch_opens, refused_section, open_section, passed_section, refused_end}
use Rattle.raw_set_text.proofs.reader.read_switch.Goals as goal

pub returns-in-Err : goal.returns-in-Err
returns-in-Err c =
    let lines = section_lines c.args.lines.now in
    let at = c.requires.stands in
    let some = told (get_or lines c.args.head []) (Switch c.args.tile []) c.requires.entry in
    rw c.located.ensures (refused_entry lines c.args.head c.args.builder.now at c.requires.here c.in-Err.refusal (Switch c.args.tile []) some c.requires.entry (c.in-Err.ensures.fault at.entries at.stands))

pub returns-in-Err-assemble_switch : goal.returns-in-Err-assemble_switch
returns-in-Err-assemble_switch c =
    let lines = section_lines c.args.lines.now in
    let at = c.requires.stands in
    let opens = switch_opens lines c.args.head c.args.builder.now c.args.tile at c.requires.here c.requires.entry (c.in-Ok.ensures.fault at.entries at.stands) c.wired-ends.result c.wired-ends.ensures in
    rw c.assembled.ensures (refused_section (switch_language c.wired-ends.result) lines c.args.head at.entries (Switch c.args.tile []) (Switch c.args.tile) opens (text_lines c.args.text.now) c.requires.lines c.end_of-end.result c.end_of-end.ensures c.in-Err-assemble_switch.refusal c.in-Err-assemble_switch.ensures.cause)

pub returns-then-end-len : goal.returns-then-end-len
returns-then-end-len c =
    let lines = section_lines c.args.lines.now in
    let at = c.requires.stands in
    let opens = switch_opens lines c.args.head c.args.builder.now c.args.tile at c.requires.here c.requires.entry (c.in-Ok.ensures.fault at.entries at.stands) c.wired-ends.result c.wired-ends.ensures in
    rw c.missing.ensures (open_section (switch_language c.wired-ends.result) lines c.args.head at.entries (Switch c.args.tile []) (Switch c.args.tile) opens (text_lines c.args.text.now) c.requires.lines c.end_of-end.result c.end_of-end.ensures c.in-Ok-assemble_switch.code.items c.in-Ok-assemble_switch.ensures.meaning (omega arith))

pub returns-in-Ok-add_switch : goal.returns-in-Ok-add_switch
returns-in-Ok-add_switch c =
    let lines = section_lines c.args.lines.now in
    let at = c.requires.stands in
    let opens = switch_opens lines c.args.head c.args.builder.now c.args.tile at c.requires.here c.requires.entry (c.in-Ok.ensures.fault at.entries at.stands) c.wired-ends.result c.wired-ends.ensures in
    let code = c.in-Ok-assemble_switch.code.items in
    let numbered = c.in-Ok.ensures.numbered at.entries at.stands in (
      omega arith,
      record {
        entries = with_entry at.entries (Switch c.args.tile code);
        read = passed_section (switch_language c.wired-ends.result) lines c.args.head at.entries (Switch c.args.tile []) (Switch c.args.tile) opens (text_lines c.args.text.now) c.requires.lines c.end_of-end.result c.end_of-end.ensures c.in-Ok-assemble_switch.code.items c.in-Ok-assemble_switch.ensures.meaning (λ e. omega arith)
            (switch_fault_is c.args.builder.now at.entries c.args.tile at.stands numbered.0 code ∙ c.in-Ok-add_switch.ensures.fault at.entries c.args.tile at.stands.tiles numbered.1);
        stands = switch_added c.args.builder.now c.add_switch.new.self _ _ _ _ at.entries c.args.tile code at.stands (c.in-Ok-add_switch.ensures.stands at.entries c.args.tile at.stands.tiles numbered.1);
      },
    )

pub returns-in-Err-add_switch : goal.returns-in-Err-add_switch
returns-in-Err-add_switch c =
    let lines = section_lines c.args.lines.now in
    let at = c.requires.stands in
    let opens = switch_opens lines c.args.head c.args.builder.now c.args.tile at c.requires.here c.requires.entry (c.in-Ok.ensures.fault at.entries at.stands) c.wired-ends.result c.wired-ends.ensures in
    let numbered = c.in-Ok.ensures.numbered at.entries at.stands in
    let names = subst (Names c.in-Err-add_switch.refusal) (sym (switch_fault_is c.args.builder.now at.entries c.args.tile at.stands numbered.0 c.in-Ok-assemble_switch.code.items)) (c.in-Err-add_switch.ensures.fault at.entries c.args.tile at.stands.tiles numbered.1) in
    rw c.located-in-Err-add_switch.ensures (refused_end (switch_language c.wired-ends.result) lines c.args.head at.entries (Switch c.args.tile []) (Switch c.args.tile) opens (text_lines c.args.text.now) c.requires.lines c.end_of-end.result c.end_of-end.ensures c.in-Ok-assemble_switch.code.items c.in-Ok-assemble_switch.ensures.meaning (λ e. omega arith) c.in-Err-add_switch.refusal names)

pub wired-ends-requires-clause-column : goal.wired-ends-requires-clause-column
wired-ends-requires-clause-column c =
    let at = c.requires.stands in
    let on = inside_parts _ _ c.args.tile (c.in-Ok.ensures.numbered at.entries at.stands).0 in
    rw (columns_stand c.args.builder.now at.entries at.stands) on.column

pub wired-ends-requires-clause-row : goal.wired-ends-requires-clause-row
wired-ends-requires-clause-row c =
    let at = c.requires.stands in
    let on = inside_parts _ _ c.args.tile (c.in-Ok.ensures.numbered at.entries at.stands).0 in
    rw (rows_stand c.args.builder.now at.entries at.stands) on.row
