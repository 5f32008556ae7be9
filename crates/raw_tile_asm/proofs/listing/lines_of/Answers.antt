use Rattle.std.proofs.Common.{◌≡◌, ◌∙◌, ◌++◌, ◌+◌, drop, sym, ap, [], ◌∷◌, append-nil, refl}
use Rattle.std.specs.Prelude.{string_bytes}
use Rattle.raw_text.specs.Lines.{written_lines}
use Rattle.raw_tile_asm.specs.Listing.{listing, listed_lines, line_text}
use Rattle.raw_tile_asm.proofs.Appending.{listing_next, listing_done}
use Rattle.raw_tile_asm.proofs.listing.lines_of.Goals as goal

pub loop-place-init : goal.loop-place-init
unfolding listing
loop-place-init c = rw c.new-text.ensures.bytes refl

pub loop-place-preserved : goal.loop-place-preserved
loop-place-preserved c =
    let code = c.args.code.now in
    let k = c.loop-place.place in
    let written : string_bytes c.push_str.new.self ≡ (string_bytes c.loop-place.text ++ line_text c.index-code-place.result k) ++ 10 ∷ [] = c.in_ok-push_str.ensures.bytes ∙ ap (λ t. t ++ 10 ∷ []) c.in_ok-push_line.ensures in
    ap (λ t. t ++ written_lines (listed_lines (k + 1) (drop (k + 1) code))) written ∙ listing_next code k (string_bytes c.loop-place.text) c.index-code-place.result c.loop-place-test.true c.index-code-place.is ∙ c.loop-place.invariant

pub returns : goal.returns
returns c =
    let code = c.args.code.now in
    let text = string_bytes c.loop-place.text in
    sym (append-nil text) ∙ ap (λ r. text ++ r) (sym (listing_done c.loop-place.place code c.loop-place.place c.loop-place-test.false)) ∙ c.loop-place.invariant
