use Rattle.std.proofs.Common.{[], get_or, sym, subst, ◌∙◌, arith}
use Rattle.raw_text.specs.Text.{text_lines}
use Rattle.raw_asm.specs.Tokens.{section_lines}
use Rattle.raw_tile_asm.specs.Language.{tile_language}
use Rattle.raw_set_text.specs.Entry.Entry.{Tile}
use Rattle.raw_set_text.specs.Answers.{Names, with_entry}
use Rattle.raw_set_text.proofs.Reading.Lines.{refused_entry}
use Rattle.raw_set_text.proofs.Building.Sections.{code_added, section_fault_is}
use Rattle.raw_set_text.proofs.Reading.Sections.{told, tile_opens, refused_section, open_section, passed_section, refused_end}
use Rattle.raw_set_text.proofs.reader.read_tile.Goals as goal

pub returns-in-Err : goal.returns-in-Err
returns-in-Err c =
    let lines = section_lines c.args.lines.now in
    let at = c.requires.stands in
    let some = told (get_or lines c.args.head []) (Tile c.args.tile []) c.requires.entry in
    rw c.located.ensures (refused_entry lines c.args.head c.args.builder.now at c.requires.here c.in-Err.refusal (Tile c.args.tile []) some c.requires.entry (c.in-Err.ensures.fault at.entries at.stands))

pub returns-in-Err-assemble_tile : goal.returns-in-Err-assemble_tile
returns-in-Err-assemble_tile c =
    let lines = section_lines c.args.lines.now in
    let at = c.requires.stands in
    let opens = tile_opens lines c.args.head c.args.builder.now c.args.tile at c.requires.here c.requires.entry (c.in-Ok.ensures.fault at.entries at.stands) in
    rw c.assembled.ensures (refused_section tile_language lines c.args.head at.entries (Tile c.args.tile []) (Tile c.args.tile) opens (text_lines c.args.text.now) c.requires.lines c.end_of-end.result c.end_of-end.ensures c.in-Err-assemble_tile.refusal c.in-Err-assemble_tile.ensures.cause)

pub returns-then-end-len : goal.returns-then-end-len
returns-then-end-len c =
    let lines = section_lines c.args.lines.now in
    let at = c.requires.stands in
    let opens = tile_opens lines c.args.head c.args.builder.now c.args.tile at c.requires.here c.requires.entry (c.in-Ok.ensures.fault at.entries at.stands) in
    rw c.missing.ensures (open_section tile_language lines c.args.head at.entries (Tile c.args.tile []) (Tile c.args.tile) opens (text_lines c.args.text.now) c.requires.lines c.end_of-end.result c.end_of-end.ensures c.in-Ok-assemble_tile.code.items c.in-Ok-assemble_tile.ensures.meaning (omega arith))

pub returns-in-Ok-add_code : goal.returns-in-Ok-add_code
returns-in-Ok-add_code c =
    let lines = section_lines c.args.lines.now in
    let at = c.requires.stands in
    let opens = tile_opens lines c.args.head c.args.builder.now c.args.tile at c.requires.here c.requires.entry (c.in-Ok.ensures.fault at.entries at.stands) in
    let code = c.in-Ok-assemble_tile.code.items in
    let numbered = c.in-Ok.ensures.numbered at.entries at.stands in (
      omega arith,
      record {
        entries = with_entry at.entries (Tile c.args.tile code);
        read = passed_section tile_language lines c.args.head at.entries (Tile c.args.tile []) (Tile c.args.tile) opens (text_lines c.args.text.now) c.requires.lines c.end_of-end.result c.end_of-end.ensures c.in-Ok-assemble_tile.code.items c.in-Ok-assemble_tile.ensures.meaning (λ e. omega arith)
            (section_fault_is c.args.builder.now at.entries c.args.tile at.stands numbered.0 code ∙ c.in-Ok-add_code.ensures.fault at.entries c.args.tile at.stands.tiles numbered.1);
        stands = code_added c.args.builder.now c.add_code.new.self _ _ _ _ at.entries c.args.tile code at.stands (c.in-Ok-add_code.ensures.stands at.entries c.args.tile at.stands.tiles numbered.1);
      },
    )

pub returns-in-Err-add_code : goal.returns-in-Err-add_code
returns-in-Err-add_code c =
    let lines = section_lines c.args.lines.now in
    let at = c.requires.stands in
    let opens = tile_opens lines c.args.head c.args.builder.now c.args.tile at c.requires.here c.requires.entry (c.in-Ok.ensures.fault at.entries at.stands) in
    let numbered = c.in-Ok.ensures.numbered at.entries at.stands in
    let names = subst (Names c.in-Err-add_code.refusal) (sym (section_fault_is c.args.builder.now at.entries c.args.tile at.stands numbered.0 c.in-Ok-assemble_tile.code.items)) (c.in-Err-add_code.ensures.fault at.entries c.args.tile at.stands.tiles numbered.1) in
    rw c.located-in-Err-add_code.ensures (refused_end tile_language lines c.args.head at.entries (Tile c.args.tile []) (Tile c.args.tile) opens (text_lines c.args.text.now) c.requires.lines c.end_of-end.result c.end_of-end.ensures c.in-Ok-assemble_tile.code.items c.in-Ok-assemble_tile.ensures.meaning (λ e. omega arith) c.in-Err-add_code.refusal names)
