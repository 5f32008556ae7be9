use Rattle.std.proofs.Common.{arith, ◌≡◌, suc, ◌<◌, ◌≤◌, ◌+◌, ◌++◌, Some, MatchBool, refl, sym, ap, ◌∙◌, subst, ⊎_elim}
use Rattle.std.specs.Prelude.{slice_get}
use Rattle.std.proofs.lemmas.Bool.{cases_eq}
use Rattle.std.proofs.lemmas.Option.{same_Some}
use Rattle.raw_grid.specs.Topology.{tile_count, proc_count}
use Rattle.raw_serial.specs.Running.{turn_of}
use Rattle.raw_clock.specs.Clock.{goes}
use Rattle.raw_clock.specs.Engine.{HasTaken, SomeGoes, NoneGoes}
use Rattle.raw_clock.specs.Account.{IsAccount}
use Rattle.raw_clock.specs.Values.{HaveSent}
use Rattle.raw_clock.proofs.Asking.{more_goes}
use Rattle.raw_clock.proofs.Telling.{took_set, took_each, took_owed, took_one, begun, all_begun}
use Rattle.raw_clock.proofs.Turned.{IsTurned}
use Rattle.raw_clock.proofs.cycle.take_all.Goals.{then-p-tiles, else-p-tiles}
use Rattle.raw_clock.proofs.cycle.take_all.Goals as goal

pub procs-preserved : goal.procs-preserved
procs-preserved c =
    let m0 = c.args.machine.now in
    let g = m0.set in
    let valid = c.set.ensures.valid in
    let m = c.procs.machine in
    let n = c.if-p-tiles.machine in
    let p = c.procs.p in
    let b = c.if-p-tiles.goes_on in
    let turns = c.procs.account.turns.items in
    let before = c.procs.passed in
    let after = c.if-p-tiles.passed in
    let was = c.procs.invariant in
    let below : p < proc_count g.topo = omega (arith, c.procs-test.true, was.0) in
    let did : IsTurned m0 m c.args.cycles p turns before b n c.if-p-tiles.account after =
    elim c.if-p-tiles.branch [
      | then-p-tiles w ↦ let took = w.take_tile-goes_on.ensures in
          let tile : p < tile_count g.topo = omega (arith, w.if-p-tiles.true, was.6) in
          let same = was.7 p (omega arith) tile in
          subst (λ b. IsTurned m0 m c.args.cycles p turns before b n c.if-p-tiles.account after) (sym w.goes_on-is)
          (subst (λ n. IsTurned m0 m c.args.cycles p turns before w.take_tile-goes_on.result n c.if-p-tiles.account after) (sym w.machine-is)
          (subst (λ a. IsTurned m0 m c.args.cycles p turns before w.take_tile-goes_on.result w.take_tile-goes_on.new.machine a after) (sym w.account-is)
          (subst (λ after. IsTurned m0 m c.args.cycles p turns before w.take_tile-goes_on.result w.take_tile-goes_on.new.machine w.take_tile-goes_on.new.account after) (sym w.passed-is)
          (record {
            goes_on = took.goes ∙ ap goes same;
            took = took.took;
            later =
                λ q later second.
                took.tiles q (subst (λ h. q < tile_count h.topo) (sym was.1) second) (λ e. absurd (omega (arith, e, later)));
            account = subst (λ h. IsAccount h c.args.cycles w.take_tile-goes_on.new.account) was.1 took.account;
            turn = took.turn ∙ ap Some same;
            others = took.others;
            few = took.few;
          }))))
      | else-p-tiles w ↦ let took = w.take_other-goes_on.ensures in
          let past : tile_count g.topo ≤ p = omega (arith, w.if-p-tiles.false, was.6) in
          let known : slice_get turns p ≡ Some (turn_of m0 p) = was.10 p (omega arith) ∙ c.requires.turns p past below in
          let same = same_Some w.turn.result (turn_of m0 p) (sym w.turn.ensures ∙ known) in
          subst (λ b. IsTurned m0 m c.args.cycles p turns before b n c.if-p-tiles.account after) (sym w.goes_on-is)
          (subst (λ n. IsTurned m0 m c.args.cycles p turns before w.take_other-goes_on.result n c.if-p-tiles.account after) (sym w.machine-is)
          (subst (λ a. IsTurned m0 m c.args.cycles p turns before w.take_other-goes_on.result w.take_other-goes_on.new.machine a after) (sym w.account-is)
          (subst (λ after. IsTurned m0 m c.args.cycles p turns before w.take_other-goes_on.result w.take_other-goes_on.new.machine c.procs.account after) (sym w.passed-is)
          (record {
            goes_on = took.goes ∙ ap goes same;
            took = took.took;
            later = λ q later second. absurd (omega (arith, later, second, past));
            account = was.8;
            turn = known;
            others = λ q ne. refl;
            few = took.few;
          }))))
    ] in
    let next : suc p ≡ p + 1 = omega arith in (
      was.0,
      took_set b m n p before after did.took ∙ was.1,
      λ q later.
          took_owed b m n p q before after (λ e. absurd (omega (arith, e, later))) did.took
          ∙ was.2 q (omega (arith, later)),
      λ ts has sent.
          let so_far = was.3 ts has sent in
          subst (λ k. HasTaken g n (ts ++ begun g valid ts k) × HaveSent g (ts ++ begun g valid ts k) after) next
          (took_one g valid m0 m n ts p before after has (λ past. c.requires.tiles p past below) below
          so_far.0 so_far.1 (was.2 p (omega arith)) b did.goes_on did.took),
      took_each b m n p before after did.took ∙ was.4,
      λ w. omega (arith, did.few w, was.5 w),
      was.6,
      λ q later tile. did.later q (omega (arith, later)) tile ∙ was.7 q (omega (arith, later)) tile,
      did.account,
      λ q lower.
          ⊎_elim
          (λ (here : p ≡ q). subst (λ r. slice_get c.if-p-tiles.account.turns.items r ≡ Some (turn_of m0 r)) here did.turn)
          (λ (ne : p ≡ q → ⊥). did.others q (λ e. ne (sym e)) ∙ was.9 q (omega (arith, lower, ne)))
          (cases_eq p q),
      λ q later. did.others q (λ e. absurd (omega (arith, e, later))) ∙ was.10 q (omega (arith, later)),
      subst (λ x. MatchBool x (SomeGoes m0 (p + 1)) (NoneGoes m0 (p + 1))) (sym c.either-some.ensures)
          (more_goes m0 p c.procs.some b was.11 did.goes_on),
    )

pub returns-clause-cycle : goal.returns-clause-cycle
returns-clause-cycle c =
    λ ts has was.
    let g = c.args.machine.now.set in
    let last : c.procs.p ≡ proc_count g.topo = omega (arith, c.procs-test.false, c.procs.invariant.0, c.procs.auto.p-end) in
    subst (λ xs. HasTaken g c.procs.machine (ts ++ xs) × HaveSent g (ts ++ xs) c.procs.passed) (all_begun g c.set.ensures.valid ts c.procs.p last)
    (c.procs.invariant.3 ts has was)
