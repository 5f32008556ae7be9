use Rattle.std.proofs.Common.{◌≡◌, ℕ, List, [], ◌∷◌, ◌++◌, length, refl, sym, ap, subst, ◌∙◌, arith}
use Rattle.std.proofs.lemmas.List.{length-append}
use Rattle.raw_whole.specs.declared.turns.Turns.{Turns}
use Rattle.raw_whole.specs.Kept.{AreNoTurns}
use Rattle.raw_whole.proofs.Lists.{push_all}
use Rattle.raw_whole.proofs.turns.no_turns.Goals as goal

-- one more of which nothing is kept
none_too : (n : ℕ) (all : List Turns) (kept : Turns) → AreNoTurns n all → kept.pieces.items ≡ [] → AreNoTurns (length (all ++ kept ∷ [])) (all ++ kept ∷ [])
none_too n all kept are none = record {
  each = refl;
  none = λ i x here. push_all (λ (t : Turns). t.pieces.items ≡ []) all kept are.none none i x here;
}

pub procs-init : goal.procs-init
procs-init c = (
  subst (λ xs. AreNoTurns (length xs) xs) (sym c.new-all.ensures.items) (record { each = refl; none = λ i x here. absurd (cc here) }),
  omega (arith, ap length c.new-all.ensures.items),
)

pub procs-preserved : goal.procs-preserved
procs-preserved c =
    let all = c.procs.all.items in
    let kept : Turns = record { pieces = c.new.result } in
    let is = c.in_ok-push.ensures.items in
    let many = ap length is ∙ length-append all (kept ∷ []) in (
      subst (λ xs. AreNoTurns (length xs) xs) (sym is) (none_too (length all) all kept c.procs.invariant.0 c.new.ensures.items),
      omega (arith, many, c.procs-test.true, c.len.ensures),
    )

pub returns : goal.returns
returns c =
    let most = c.procs.invariant.1 in
    let same : length c.procs.all.items ≡ c.args.procs = omega (arith, most, c.procs-test.false, c.len.ensures) in
    subst (λ n. AreNoTurns n c.procs.all.items) same c.procs.invariant.0
