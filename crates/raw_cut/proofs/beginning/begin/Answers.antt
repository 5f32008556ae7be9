use Rattle.std.proofs.Common.{◌≡◌, ℕ, List, length, map, sym, ap, ◌∙◌, subst}
use Rattle.std.proofs.lemmas.List.{length-map}
use Rattle.raw_grid.specs.Topology.{proc_count}
use Rattle.raw_grid.specs.Wires.{wires_of}
use Rattle.raw_model.specs.Program.{ProgramSet, IsSet}
use Rattle.raw_model.specs.Local.{Local}
use Rattle.raw_serial.specs.Fresh.{AreAllEnds}
use Rattle.raw_stream.specs.Streams.{valued}
use Rattle.raw_rows.specs.Kernels.{renumbered}
use Rattle.raw_prove.specs.Units.{local_of}
use Rattle.raw_cut.specs.declared.cut.CutLocal.{CutLocal}
use Rattle.raw_cut.specs.Cuts.{local_at}
use Rattle.raw_cut.proofs.Copies.{some_so}
use Rattle.raw_cut.proofs.beginning.begin.Goals as goal

pub returns-clause-state : goal.returns-clause-state
returns-clause-state c =
    let ns : List ℕ = c.args.numbers.now in
    let ls : List Local = map local_at c.args.cut.now.locals.items in
    let locals : map local_of c.in-Some.units.items ≡ map (renumbered ns) ls =
    some_so _ c.in_ok-units.field-0 c.in-Some.units c.in-Some.is c.in_ok-units.ensures.locals ∙ ap (λ (xs : List CutLocal). map (renumbered ns) (map local_at xs)) c.deref-locals.ensures.value in
    let wires : c.in-Some-2.wires ≡ map (valued ns) (map (λ wire. wire.items) c.args.cut.now.wires.items) =
    some_so _ c.in_ok-wires.field-0 c.in-Some-2.wires c.in-Some-2.is c.in_ok-wires.ensures
    ∙ ap (map (λ wire. wire.items)) c.deref.ensures.value
    ∙ c.in_ok-values.ensures
    ∙ ap (λ xs. map (valued ns) (map (λ wire. wire.items) xs)) c.deref-cuts.ensures.value in
    λ i. record { nodes = c.args.table; state = record { locals = locals i; wires = wires i } }

pub returns-clause-kept : goal.returns-clause-kept
returns-clause-kept c =
    let ns : List ℕ = c.args.numbers.now in
    let locals = some_so _ c.in_ok-units.field-0 c.in-Some.units c.in-Some.is c.in_ok-units.ensures.locals in
    let procs : c.procs-procs.result ≡ proc_count c.args.set.now.topo = c.procs-procs.ensures.value ∙ ap (λ (g : ProgramSet). proc_count g.topo) c.set.view_is in
    let count : c.wires-count.result ≡ length (wires_of c.args.set.now.topo) = c.wires-count.ensures.value ∙ ap (λ (g : ProgramSet). length (wires_of g.topo)) c.set.view_is in
    let ends : AreAllEnds c.args.set.now.topo c.in_ok-ends.ends.items = subst (λ (g : ProgramSet). AreAllEnds g.topo c.in_ok-ends.ends.items) c.set.view_is c.in_ok-ends.ensures in
    record {
      valid = subst IsSet c.set.view_is c.set.invariant;
      each = sym (length-map c.in-Some.units.items local_of) ∙ ap length locals ∙ length-map (map local_at c.deref-locals.result.now) (renumbered ns) ∙ length-map c.deref-locals.result.now local_at ∙ c.if-locals-procs.false ∙ procs;
      units = some_so _ c.in_ok-units.field-0 c.in-Some.units c.in-Some.is c.in_ok-units.ensures.kept;
      each_end = ends.each_end;
      ends = ends.ends_are;
      wires = ap length (some_so _ c.in_ok-wires.field-0 c.in-Some-2.wires c.in-Some-2.is c.in_ok-wires.ensures)
          ∙ length-map c.deref.result.now (λ wire. wire.items) ∙ ap length c.deref.ensures.value ∙ sym (length-map c.in_ok-values.values.items (λ wire. wire.items)) ∙ ap length c.in_ok-values.ensures
          ∙ length-map (map (λ wire. wire.items) c.deref-cuts.result.now) (valued ns) ∙ length-map c.deref-cuts.result.now (λ wire. wire.items) ∙ c.if-cuts-count.false ∙ count;
    }
