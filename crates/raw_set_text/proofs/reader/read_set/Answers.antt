use Rattle.std.proofs.Common.{◌≡◌, ◌-◌, [], ◌∷◌, length, take, ap, subst, ◌∙◌, arith}
use Rattle.raw_text.specs.Text.{text_lines}
use Rattle.raw_asm.specs.Tokens.{section_lines}
use Rattle.raw_set_text.specs.Entry.Entry.{Grid, Limit}
use Rattle.raw_set_text.specs.Entries.{set_of}
use Rattle.raw_set_text.specs.Meaning.{IsMeaning}
use Rattle.raw_set_text.specs.Reading.{IsRead}
use Rattle.raw_set_text.proofs.Reading.Lines.{meaning_read, whole_read}
use Rattle.raw_set_text.proofs.reader.read_set.Goals as goal

pub loop-place-init : goal.loop-place-init
loop-place-init c =
    let ports = c.in_ok-ports.ports in
    let whole : c.args.to - 0 ≡ c.args.to = omega arith in
    record {
      same = c.new-lines.ensures.lines ∙ ap (λ n. take n (text_lines c.args.text.now)) whole;
      stands = record {
        entries = Grid ports.topo.cols ports.topo.rows ∷ Limit c.in_ok-limit.limit ∷ [];
        read = c.in_ok-limit.ensures.read ports.topo.cols ports.topo.rows c.in_ok-ports.ensures.read;
        stands = c.in_ok-builder.ensures ports.topo.cols ports.topo.rows c.in_ok-ports.ensures.stands;
      };
    }

pub finish-requires : goal.finish-requires
finish-requires c =
    let lines = section_lines c.new-lines.result in
    let at = c.loop-place.invariant.stands in
    let last : c.loop-place.place ≡ length lines = (let within = at.read.within in omega (arith, within)) in
    let read = subst (λ n. IsRead lines n at.entries) last at.read in
    (at.entries, at.stands, c.law_lawful.ensures lines (set_of at.entries) (meaning_read lines at.entries read at.stands.begun))

pub returns-clause-meaning : goal.returns-clause-meaning
returns-clause-meaning c =
    let lines = section_lines c.new-lines.result in
    let at = c.loop-place.invariant.stands in
    let last : c.loop-place.place ≡ length lines = (let within = at.read.within in omega (arith, within)) in
    let read = subst (λ n. IsRead lines n at.entries) last at.read in
    whole_read c.finish.result (take c.args.to (text_lines c.args.text.now)) (set_of at.entries) (c.finish.ensures.set at.entries at.stands)
    (subst (λ front. IsMeaning front (set_of at.entries)) c.loop-place.invariant.same (meaning_read lines at.entries read at.stands.begun))
