use Rattle.std.proofs.Common.{◌≡◌, ◌<◌, length, not, Some, refl, sym, ap, ◌∙◌, subst, arith}
use Rattle.std.specs.Prelude.{◌==◌, slice_get}
use Rattle.std.proofs.lemmas.Option.{slice_get_read}
use Rattle.raw_model.specs.Program.{ProgramSet, PortProgram}
use Rattle.raw_model.specs.Machine.{words_of}
use Rattle.raw_stream.specs.Streams.{Stream}
use Rattle.raw_row_terms.specs.RowClaims.{has_words, takes_in_all, misfed}
use Rattle.raw_prove.proofs.RowComparing.{find_here, find_later, other_count, same_count}
use Rattle.raw_prove.proofs.rows.misfed.Goals as goal

pub returns-then-words-taken_of : goal.returns-then-words-taken_of
returns-then-words-taken_of c =
    let set : ProgramSet = c.args.set.now in
    let s : Stream = c.args.stream.now in
    let port = c.loop-port.port in
    let lt : port < length set.ports = omega (arith, c.loop-port-test.true, c.len-port-end.ensures, c.loop-port.auto.port-end, ap (λ (g : ProgramSet). length g.ports) c.set.view_is) in
    let below : port < length c.set.inside.ports.items = omega (arith, c.loop-port-test.true, c.len-port-end.ensures, c.loop-port.auto.port-end) in
    let here : slice_get set.ports port ≡ Some c.index.result.now =
    subst (λ (g : ProgramSet). slice_get g.ports port ≡ Some c.index.result.now) c.set.view_is
    (slice_get_read c.set.inside.ports.items (length c.set.inside.ports.items) port c.index.result.now refl below c.index.ensures) in
    let many : has_words set port ≡ c.len-words.result = ap (λ o. length (words_of o)) here ∙ omega (arith, c.len-words.ensures, ap (λ (p : PortProgram). length p.words) c.behind-set.view_is) in
    find_here (λ q. not (has_words set q == takes_in_all s q)) port (length set.ports) (misfed set s) lt c.loop-port.invariant
    (other_count (has_words set port) (takes_in_all s port) (λ e. c.if-words-taken_of.true (sym many ∙ e ∙ sym c.taken_of.ensures.value)))

pub loop-port-preserved : goal.loop-port-preserved
loop-port-preserved c =
    let set : ProgramSet = c.args.set.now in
    let s : Stream = c.args.stream.now in
    let port = c.loop-port.port in
    let lt : port < length set.ports = omega (arith, c.loop-port-test.true, c.len-port-end.ensures, c.loop-port.auto.port-end, ap (λ (g : ProgramSet). length g.ports) c.set.view_is) in
    let below : port < length c.set.inside.ports.items = omega (arith, c.loop-port-test.true, c.len-port-end.ensures, c.loop-port.auto.port-end) in
    let here : slice_get set.ports port ≡ Some c.index.result.now =
    subst (λ (g : ProgramSet). slice_get g.ports port ≡ Some c.index.result.now) c.set.view_is
    (slice_get_read c.set.inside.ports.items (length c.set.inside.ports.items) port c.index.result.now refl below c.index.ensures) in
    let many : has_words set port ≡ c.len-words.result = ap (λ o. length (words_of o)) here ∙ omega (arith, c.len-words.ensures, ap (λ (p : PortProgram). length p.words) c.behind-set.view_is) in
    find_later (λ q. not (has_words set q == takes_in_all s q)) port (length set.ports) (misfed set s) lt c.loop-port.invariant
    (same_count (has_words set port) (takes_in_all s port) (many ∙ c.if-words-taken_of.false ∙ c.taken_of.ensures.value))
