use Rattle.std.proofs.Common.{◌≡◌, ◌∙◌, sym}
use Rattle.raw_asm.proofs.FirstNames.{named_next}
use Rattle.raw_asm.proofs.name_table.Names.new.Goals as goal

pub loop-value-preserved : goal.loop-value-preserved
loop-value-preserved g c = λ other.
    let table = c.values-value-items.ensures in
    let name : c.as_bytes.result.now ≡ g.T.NameTable.name_of c.value-item.result = c.as_bytes.ensures.value ∙ c.name.ensures in
    c.in_ok-add_first.ensures other
    ∙ rw (c.loop-value.invariant other, name)
    (sym (named_next g.T.NameTable.name_of g.T.NameTable.values c.loop-value.value-index c.value-item.result other (rw (sym table) c.loop-value-test.true) (rw (sym table) c.value-item.is)))
