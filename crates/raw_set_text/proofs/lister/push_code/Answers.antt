use Rattle.std.proofs.Common.{◌≡◌, ◌++◌, ◌∷◌, [], ◌<◌, ◌∙◌, length, sym, ap, arith}
use Rattle.std.specs.Prelude.{codes}
use Rattle.std.proofs.lemmas.Bool.Decides.{nat_tests}
use Rattle.raw_text.specs.Lines.{written_lines}
use Rattle.raw_tile_asm.specs.Listing.{listed_lines, listing}
use Rattle.raw_set_text.specs.declared.word.Word.TheVariants.{Tile}
use Rattle.raw_set_text.specs.Listing.{line_of, position_texts}
use Rattle.raw_set_text.proofs.Listed.Text.{section_written, no_section, listed_count}
use Rattle.raw_set_text.proofs.lister.push_code.Goals as goal

pub returns-then-is_empty : goal.returns-then-is_empty
returns-then-is_empty c =
    let count = listed_count 0 c.args.code.now in
    let empty : length c.args.code.now ≡ 0 = (let test = c.is_empty.ensures in let yes = c.if-is_empty.true in grind (arith, nat_tests)) in
    sym (no_section Tile c.args.topo.now.cols c.args.tile (listed_lines 0 c.args.code.now) c.args.text.now.items (omega arith))

pub returns : goal.returns
unfolding listing
returns c =
    let count = listed_count 0 c.args.code.now in
    let some : 0 < length c.args.code.now = (let test = c.is_empty.ensures in let non = c.if-is_empty.false in grind (arith, nat_tests)) in
    let head = line_of Tile (position_texts c.args.topo.now.cols c.args.tile) ++ 10 ∷ [] in
    let last = codes "end" ++ 10 ∷ [] in
    let headed : c.deref.result.now ≡ head = c.deref.ensures ∙ c.in_ok-head.ensures in
    let lines : c.deref-2.result.now ≡ written_lines (listed_lines 0 c.args.code.now) = c.deref-2.ensures.value ∙ c.in_ok-lines.ensures in
    c.in_ok-push_section.ensures
    ∙ ap (λ h. c.args.text.now.items ++ (h ++ (c.deref-2.result.now ++ last))) headed
    ∙ ap (λ l. c.args.text.now.items ++ (head ++ (l ++ last))) lines
    ∙ ap (λ s. c.args.text.now.items ++ s) (sym (section_written Tile c.args.topo.now.cols c.args.tile (listed_lines 0 c.args.code.now) (omega arith)))
