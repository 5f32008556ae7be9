use Rattle.std.proofs.Common.{arith, ◌≡◌, ℕ, ◌<◌, true, false, sym, ap, ◌∙◌, subst, ⊎_elim}
use Rattle.std.proofs.lemmas.Bool.{cases_eq}
use Rattle.raw_grid.specs.Topology.{proc_count}
use Rattle.raw_clock.specs.Clock.{goes}
use Rattle.raw_path.specs.Path.{goes_in}
use Rattle.raw_path.specs.Known.{IsReached}
use Rattle.raw_path.proofs.Reaching.{seen_at}
use Rattle.raw_path.proofs.Ending.{later, last_is, turn_seen, end_seen}
use Rattle.raw_path.proofs.walking.last_end.Goals as goal

pub procs-preserved : goal.procs-preserved
procs-preserved c =
    λ k q next less.
    let set = c.args.set.now in
    let p = c.procs.p in
    let none : (r : ℕ) → r < p → goes_in set k r ≡ false = λ r low. c.procs.invariant k r next low in
    let there : p < proc_count set.topo = later set k p (c.requires.cycles.before k (omega (arith, next))) none in
    let off : goes_in set k p ≡ false =
    ap goes (sym (turn_seen set c.args.hops.now c.args.cycles c.args.seen.now k p c.requires.known next there)) ∙ sym c.goes.ensures ∙ c.procs-test.true in
    ⊎_elim
    (λ (same : p ≡ q). subst (λ r. goes_in set k r ≡ false) same off)
    (λ (ne : p ≡ q → ⊥). c.procs.invariant k q next (omega (arith, less, ne)))
    (cases_eq p q)

pub returns : goal.returns
returns c =
    λ k next.
    let set = c.args.set.now in
    let p = c.procs.p in
    let none : (r : ℕ) → r < p → goes_in set k r ≡ false = λ r low. c.procs.invariant k r next low in
    let there : p < proc_count set.topo = later set k p (c.requires.cycles.before k (omega (arith, next))) none in
    let on : goes_in set k p ≡ true =
    ap goes (sym (turn_seen set c.args.hops.now c.args.cycles c.args.seen.now k p c.requires.known next there)) ∙ sym c.goes.ensures ∙ c.procs-test.false in
    subst (λ q. IsReached set c.args.hops.now k q (seen_at c.args.seen.now p).end) (sym (last_is set k p there on none))
    (end_seen set c.args.hops.now c.args.cycles c.args.seen.now k p c.requires.known next there on)
