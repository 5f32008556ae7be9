use Rattle.std.proofs.Common.{arith, ◌≡◌, suc, ◌<◌, sym, ap, ◌∙◌, subst, ⊎_elim}
use Rattle.std.specs.Prelude.{slice_get, slice_set}
use Rattle.std.proofs.lemmas.Bool.{cases_eq}
use Rattle.std.proofs.lemmas.List.{length-set}
use Rattle.std.proofs.lemmas.Option.{slice_get_within, get_or_from_slice_get}
use Rattle.raw_grid.specs.Topology.{proc_count}
use Rattle.raw_serial.specs.declared.turn.Turn.TheVariants.{Fired}
use Rattle.raw_clock.specs.Clock.{clock, turn_in}
use Rattle.raw_path.specs.Known.{IsKnown}
use Rattle.raw_path.proofs.Kept.{known_kept, all_known_kept, kept_on}
use Rattle.raw_whole.proofs.Lists.{put_same, put_other}
use Rattle.raw_path.proofs.seen.look.Goals as goal

pub bounds-turns-p : goal.bounds-turns-p
bounds-turns-p c =
    let set = c.args.machine.now.set in
    let below : c.procs.p < proc_count set.topo = omega (arith, c.procs-test.true, c.procs.invariant.0) in
    slice_get_within c.args.turns.now c.procs.p (turn_in set (clock set c.args.cycles) c.procs.p) (c.requires.turns c.procs.p below)

pub see-requires-clause-known : goal.see-requires-clause-known
see-requires-clause-known c =
    all_known_kept c.args.machine.now.set c.args.hops.now.items c.procs.hops.items c.procs.invariant.2 c.args.cycles c.args.seen.now c.requires.known

pub see-requires-clause-turn : goal.see-requires-clause-turn
see-requires-clause-turn c =
    let set = c.args.machine.now.set in
    let below : c.procs.p < proc_count set.topo = omega (arith, c.procs-test.true, c.procs.invariant.0) in
    get_or_from_slice_get c.args.turns.now c.procs.p (turn_in set (clock set c.args.cycles) c.procs.p) Fired (c.requires.turns c.procs.p below)

pub procs-preserved : goal.procs-preserved
procs-preserved c =
    let set = c.args.machine.now.set in
    let p = c.procs.p in
    let x = c.in_ok-next.field-0 in
    let hops = c.see.new.hops.items in (
      c.procs.invariant.0,
      length-set c.procs.next p x ∙ c.procs.invariant.1,
      kept_on c.args.hops.now.items c.procs.hops.items hops c.procs.invariant.2 c.in_ok-next.ensures.kept,
      c.in_ok-next.ensures.hops,
      λ q s less here.
          ⊎_elim
          (λ (same : p ≡ q).
          let is : x ≡ s = put_same c.procs.next p x s (ap (λ r. slice_get (slice_set c.procs.next p x) r) same ∙ here) in
          subst (λ r. IsKnown set hops (suc c.args.cycles) r s) same (subst (λ y. IsKnown set hops (suc c.args.cycles) p y) is c.in_ok-next.ensures.known))
          (λ (ne : p ≡ q → ⊥).
          known_kept set c.procs.hops.items hops c.in_ok-next.ensures.kept (suc c.args.cycles) q s
          (c.procs.invariant.4 q s (omega (arith, less, ne)) (sym (put_other c.procs.next p q x (λ e. ne (sym e))) ∙ here)))
          (cases_eq p q),
    )

pub returns-clause-known : goal.returns-clause-known
returns-clause-known c =
    record {
      many = c.procs.invariant.1;
      each = λ p s here.
          let there = slice_get_within c.procs.next p s here in
          c.procs.invariant.4 p s (omega (arith, there, c.procs.invariant.0, c.procs.invariant.1, c.procs-test.false)) here;
    }
