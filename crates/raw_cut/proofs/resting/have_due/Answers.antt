use Rattle.std.proofs.Common.{◌≡◌, ℕ, ◌-◌, ◌*◌, ◌<◌, ◌≤◌, ◌++◌, List, length, map, Some, refl, subst, arith}
use Rattle.std.specs.Prelude.{slice_get, slice_index}
use Rattle.std.proofs.lemmas.Option.{slice_get_read, slice_get_within}
use Rattle.std.proofs.lemmas.List.{length-map}
use Rattle.raw_model.specs.Local.{Sink, PortLocal}
use Rattle.raw_serial.proofs.Fields.{at_field}
use Rattle.raw_stream.specs.Streams.{due_to}
use Rattle.raw_prove.specs.declared.unit.Unit.{Unit}
use Rattle.raw_prove.specs.Units.{local_of}
use Rattle.raw_cut.proofs.Lists.{sinks_more}
use Rattle.raw_cut.proofs.resting.have_due.Goals as goal

pub loop-p-preserved : goal.loop-p-preserved
loop-p-preserved c =
    let p : ℕ = c.loop-p.p in
    let us : List Unit = c.args.units.now in
    let x : Unit = c.index-units-p.result in
    let one : slice_get us p ≡ Some x = slice_get_read us (length us) p x refl c.loop-p-test.true c.index-units-p.is in
    let here : (l : PortLocal) → local_of x ≡ Sink l → (last : List ℕ) × (due_to c.args.stream.now (p - 2 * c.args.tiles) (map (λ row. row.items) c.args.values.now) ≡ l.got ++ last) × (length last ≤ slice_index c.args.lacks.now (p - 2 * c.args.tiles)) =
    subst (λ (q : ℕ). (l : PortLocal) → local_of x ≡ Sink l → (last : List ℕ) × (due_to c.args.stream.now q (map (λ row. row.items) c.args.values.now) ≡ l.got ++ last) × (length last ≤ slice_index c.args.lacks.now q)) c.port_of-port.ensures
    (subst (λ (lack : ℕ). (l : PortLocal) → local_of x ≡ Sink l → (last : List ℕ) × (due_to c.args.stream.now c.port_of-port.result (map (λ row. row.items) c.args.values.now) ≡ l.got ++ last) × (length last ≤ lack)) c.number_at-lack.ensures
    (c.in_ok-has_due.ensures c.if-not-branch.false)) in
    sinks_more (λ (q : ℕ) (l : PortLocal). (last : List ℕ) × (due_to c.args.stream.now (q - 2 * c.args.tiles) (map (λ row. row.items) c.args.values.now) ≡ l.got ++ last) × (length last ≤ slice_index c.args.lacks.now (q - 2 * c.args.tiles))) (map local_of us) p (local_of x) (at_field local_of us p x one) here c.loop-p.invariant

pub returns : goal.returns
returns c = λ _ q l e.
    let us : List Unit = c.args.units.now in
    let below : q < length (map local_of us) = slice_get_within (map local_of us) q (Sink l) e in
    c.loop-p.invariant q l (omega (arith, below, length-map us local_of, c.loop-p-test.false)) e
