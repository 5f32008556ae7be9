use Rattle.std.proofs.Common.{◌≡◌, ℕ, ◌<◌, ◌≤◌, List, [], ◌∷◌, length, take, Some, refl, sym, ◌∙◌, subst, ⊎_elim, arith}
use Rattle.std.specs.Prelude.{slice_get}
use Rattle.std.specs.List.{All}
use Rattle.std.proofs.lemmas.Bool.{cases_lt}
use Rattle.std.proofs.lemmas.List.{take_all}
use Rattle.std.proofs.lemmas.List.Elements.{All-nil, All-cons, All-append}
use Rattle.std.proofs.lemmas.Option.{same_Some, slice_get_read, slice_get_within}
use Rattle.raw_grid.specs.declared.parts.PortPlace.{PortPlace}
use Rattle.raw_model.specs.Program.{PortProgram, IsPortProgram, IsOfKind}
use Rattle.raw_cut.proofs.Copies.{take_some}
use Rattle.raw_cut.proofs.fitting.are_of_kinds.Goals as goal

pub loop-i-preserved : goal.loop-i-preserved
loop-i-preserved c =
    let i : ℕ = c.loop-i.i in
    let ports : List PortProgram = c.args.ports.now in
    let port : PortProgram = c.index-ports-i.result in
    let below : i < length ports = omega (arith, c.loop-i-test.true, c.requires, c.ports-i-end.ensures) in
    let here : slice_get ports i ≡ Some port = slice_get_read ports (length ports) i port refl below c.index-ports-i.is in
    let one : IsPortProgram port = c.is_of_kind.ensures.program c.if-not-is_of_kind.false in
    record {
      programs = subst (All IsPortProgram) (sym (take_some ports i port here))
          (All-append IsPortProgram (take i ports) (port ∷ []) c.loop-i.invariant.programs (All-cons IsPortProgram port [] one (All-nil IsPortProgram)));
      kinds = λ q place other less e f.
          ⊎_elim (λ (earlier : q < i). c.loop-i.invariant.kinds q place other earlier e f)
          (λ (past : i ≤ q).
          let is : q ≡ i = omega (arith, less, past) in
          let places : c.place_of.result ≡ place = same_Some c.place_of.result place (sym c.place_of.ensures ∙ subst (λ (k : ℕ). slice_get c.args.topo.now.places k ≡ Some place) is e) in
          let found : port ≡ other = same_Some port other (sym here ∙ subst (λ (k : ℕ). slice_get ports k ≡ Some other) is f) in
          subst (λ (x : PortProgram). IsOfKind place.kind x) found (subst (λ (x : PortPlace). IsOfKind x.kind port) places (c.is_of_kind.ensures.kind c.if-not-is_of_kind.false)))
          (cases_lt q i);
    }

pub returns-clause-programs : goal.returns-clause-programs
returns-clause-programs c = λ _.
    let ports : List PortProgram = c.args.ports.now in
    let all : length ports ≤ c.loop-i.i = omega (arith, c.loop-i-test.false, c.requires, c.ports-i-end.ensures) in
    subst (All IsPortProgram) (take_all c.loop-i.i ports all) c.loop-i.invariant.programs

pub returns-clause-kinds : goal.returns-clause-kinds
returns-clause-kinds c = λ _ q place port e f.
    let below : q < length c.args.ports.now = slice_get_within c.args.ports.now q port f in
    c.loop-i.invariant.kinds q place port (omega (arith, below, c.loop-i-test.false, c.requires, c.ports-i-end.ensures)) e f
