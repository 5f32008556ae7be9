use Rattle.std.proofs.Common.{◌≡◌, ℕ, List, [], ◌∷◌, ◌++◌, length, refl, sym, ap, subst, ◌∙◌, arith}
use Rattle.std.proofs.lemmas.List.{length-append}
use Rattle.raw_whole.specs.declared.sends.Sends.{Sends}
use Rattle.raw_whole.specs.Kept.{AreNoSends}
use Rattle.raw_whole.proofs.Lists.{push_all}
use Rattle.raw_whole.proofs.sends.no_sends.Goals as goal

-- one more of which nothing is kept
none_too : (n : ℕ) (all : List Sends) (kept : Sends) → AreNoSends n all → kept.pieces.items ≡ [] → kept.last ≡ 0 → kept.passed ≡ 0 → AreNoSends (length (all ++ kept ∷ [])) (all ++ kept ∷ [])
none_too n all kept are none last passed = record {
  each = refl;
  none = λ i x here. push_all (λ (t : Sends). t.pieces.items ≡ []) all kept are.none none i x here;
  last = λ i x here. push_all (λ (t : Sends). t.last ≡ 0) all kept are.last last i x here;
  passed = λ i x here. push_all (λ (t : Sends). t.passed ≡ 0) all kept are.passed passed i x here;
}

pub wires-init : goal.wires-init
wires-init c = (
  subst (λ xs. AreNoSends (length xs) xs) (sym c.new-all.ensures.items) (record { each = refl; none = λ i x here. absurd (cc here); last = λ i x here. absurd (cc here); passed = λ i x here. absurd (cc here) }),
  omega (arith, ap length c.new-all.ensures.items),
)

pub wires-preserved : goal.wires-preserved
wires-preserved c =
    let all = c.wires.all.items in
    let kept : Sends = record { pieces = c.new.result; last = 0; passed = 0 } in
    let is = c.in_ok-push.ensures.items in
    let many = ap length is ∙ length-append all (kept ∷ []) in (
      subst (λ xs. AreNoSends (length xs) xs) (sym is) (none_too (length all) all kept c.wires.invariant.0 c.new.ensures.items refl refl),
      omega (arith, many, c.wires-test.true, c.len.ensures),
    )

pub returns : goal.returns
returns c =
    let most = c.wires.invariant.1 in
    let same : length c.wires.all.items ≡ c.args.wires = omega (arith, most, c.wires-test.false, c.len.ensures) in
    subst (λ n. AreNoSends n c.wires.all.items) same c.wires.invariant.0
