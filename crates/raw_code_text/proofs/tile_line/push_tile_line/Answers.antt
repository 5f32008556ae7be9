use Rattle.std.proofs.Common.{◌≡◌, ◌∙◌, ◌++◌, ◌+◌, ◌<◌, length, get_or, drop, ap, refl, subst, arith}
use Rattle.raw_tile_isa.specs.Table.{row_of}
use Rattle.raw_tile_isa.specs.declared.table.Operand.TheVariants.{Rd}
use Rattle.raw_asm.specs.Listing.{separator}
use Rattle.raw_tile_asm.specs.Listing.{operand_text}
use Rattle.raw_tile_asm.proofs.Appending.{rest_text, rest_next}
use Rattle.raw_code_text.proofs.Lengths.{separator_short}
use Rattle.raw_code_text.proofs.tile_line.push_tile_line.Goals as goal

pub loop-k-preserved : goal.loop-k-preserved
loop-k-preserved c =
    let i = c.args.ins in
    let place = c.args.place in
    let given = c.operands-form-items.result.now in
    let forms = (row_of i.op).operands in
    let same : given ≡ forms = c.operands-form-items.ensures ∙ ap (λ j. (row_of j.op).operands) c.ins.view_is in
    let k = c.loop-k.k in
    let old = c.loop-k.line in
    let between : c.as_bytes-in-loop-k.result.now ≡ separator k = c.as_bytes-in-loop-k.ensures.value ∙ c.separator.ensures in
    let separated : c.push_text-in-loop-k.new.self ≡ old ++ separator k = c.push_text-in-loop-k.ensures.text ∙ ap (λ s. old ++ s) between in
    let written : c.push_operand.new.line ≡ (old ++ separator k) ++ operand_text i place (get_or forms k Rd) =
    c.push_operand.ensures.text ∙ ap (λ s. s ++ operand_text i place (get_or given k Rd)) separated ∙ ap (λ fs. (old ++ separator k) ++ operand_text i place (get_or fs k Rd)) same in
    let short = ap length between in
    record {
      text = ap (λ t. t ++ rest_text i place (k + 1) (drop (k + 1) forms)) written
          ∙ rest_next i place k forms (get_or forms k Rd) Rd old (subst (λ fs. k < length fs) same c.loop-k-test.true) refl
          ∙ c.loop-k.invariant.text;
      len = omega (arith, c.push_operand.ensures.len, c.push_text-in-loop-k.ensures.len, short, separator_short k, c.loop-k.invariant.len);
    }
