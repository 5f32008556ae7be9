use Rattle.std.proofs.Common.{◌≡◌, ◌∙◌, ◌++◌, ◌+◌, ◌<◌, length, get_or, drop, ap, refl, subst}
use Rattle.std.specs.Prelude.{string_bytes}
use Rattle.raw_tile_isa.specs.Table.{row_of}
use Rattle.raw_tile_isa.specs.declared.table.Operand.TheVariants.{Rd}
use Rattle.raw_asm.specs.Listing.{separator}
use Rattle.raw_tile_asm.specs.Listing.{operand_text}
use Rattle.raw_tile_asm.proofs.Appending.{rest_text, rest_next}
use Rattle.raw_tile_asm.proofs.listing.push_line.Goals as goal

pub loop-k-preserved : goal.loop-k-preserved
loop-k-preserved c =
    let i = c.args.ins in
    let place = c.args.place in
    let given = c.operands-form-items.result.now in
    let forms = (row_of i.op).operands in
    let same : given ≡ forms = c.operands-form-items.ensures ∙ ap (λ j. (row_of j.op).operands) c.ins.view_is in
    let k = c.loop-k.k in
    let old = string_bytes c.loop-k.text in
    let separated : string_bytes c.push_str-in-loop-k.new.self ≡ old ++ separator k = c.in_ok-push_str-2.ensures.bytes ∙ ap (λ s. old ++ s) c.separator.ensures in
    let written : string_bytes c.push_operand.new.text ≡ (old ++ separator k) ++ operand_text i place (get_or forms k Rd) =
    c.in_ok-push_operand.ensures ∙ ap (λ s. s ++ operand_text i place (get_or given k Rd)) separated ∙ ap (λ fs. (old ++ separator k) ++ operand_text i place (get_or fs k Rd)) same in
    ap (λ t. t ++ rest_text i place (k + 1) (drop (k + 1) forms)) written
    ∙ rest_next i place k forms (get_or forms k Rd) Rd old (subst (λ fs. k < length fs) same c.loop-k-test.true) refl
    ∙ c.loop-k.invariant
