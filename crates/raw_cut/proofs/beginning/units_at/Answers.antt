use Rattle.std.proofs.Common.{◌≡◌, ℕ, ◌+◌, List, [], ◌∷◌, ◌++◌, length, map, take, Some, refl, sym, ap, ap₂, ◌∙◌, subst}
use Rattle.std.specs.Prelude.{slice_get}
use Rattle.std.proofs.lemmas.List.{map-append, length_push}
use Rattle.std.proofs.lemmas.Option.{slice_get_read}
use Rattle.raw_model.specs.Local.{Local}
use Rattle.raw_serial.proofs.Fields.{each_more}
use Rattle.raw_rows.specs.Kernels.{renumbered}
use Rattle.raw_prove.specs.declared.unit.Unit.{Unit}
use Rattle.raw_prove.specs.Units.{local_of}
use Rattle.raw_cut.specs.declared.cut.CutLocal.{CutLocal}
use Rattle.raw_cut.specs.Cuts.{local_at}
use Rattle.raw_cut.specs.Kept.{IsUnitWith, AreUnitsWith}
use Rattle.raw_cut.proofs.Copies.{some_so, take_some}
use Rattle.raw_cut.proofs.beginning.units_at.Goals as goal

pub loop-p-preserved : goal.loop-p-preserved
loop-p-preserved c =
    let p : ℕ = c.loop-p.p in
    let cuts : List CutLocal = c.args.cuts.now in
    let ns : List ℕ = c.args.numbers.now in
    let cut : CutLocal = c.index-cuts-p.result in
    let unit : Unit = c.in-Some.unit in
    let units : List Unit = c.loop-p.units.items in
    let here : slice_get cuts p ≡ Some cut = slice_get_read cuts (length cuts) p cut refl c.loop-p-test.true c.index-cuts-p.is in
    let local : local_of unit ≡ renumbered ns (local_at cut) = some_so _ c.in_ok-unit.field-0 unit c.in-Some.is c.in_ok-unit.ensures.local in
    let front : map (renumbered ns) (map local_at (take (p + 1) cuts)) ≡ map (renumbered ns) (map local_at (take p cuts)) ++ renumbered ns (local_at cut) ∷ [] =
    ap (λ (xs : List CutLocal). map (renumbered ns) (map local_at xs)) (take_some cuts p cut here)
    ∙ ap (map (renumbered ns)) (map-append local_at (take p cuts) (cut ∷ []))
    ∙ map-append (renumbered ns) (map local_at (take p cuts)) (local_at cut ∷ []) in
    let many : length units ≡ p = c.loop-p.invariant.many in
    record {
      locals = ap (map local_of) c.in_ok-push-in-Some.ensures.items ∙ map-append local_of units (unit ∷ [])
          ∙ ap₂ (λ (xs : List Local) (x : Local). xs ++ x ∷ []) c.loop-p.invariant.locals local ∙ sym front;
      kept = subst (AreUnitsWith c.args.set.now 1) (sym c.in_ok-push-in-Some.ensures.items)
          (each_more (IsUnitWith c.args.set.now 1) units unit c.loop-p.invariant.kept
          (subst (λ (k : ℕ). IsUnitWith c.args.set.now 1 k unit) (sym many) (some_so _ c.in_ok-unit.field-0 unit c.in-Some.is c.in_ok-unit.ensures.kept)));
      many = ap length c.in_ok-push-in-Some.ensures.items ∙ length_push units unit ∙ ap (λ (n : ℕ). n + 1) many;
    }
