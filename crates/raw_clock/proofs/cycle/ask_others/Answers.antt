use Rattle.std.proofs.Common.{arith, ◌≡◌, Some, sym, ◌∙◌, subst, ⊎_elim}
use Rattle.std.specs.Prelude.{slice_get, slice_index}
use Rattle.std.proofs.lemmas.Bool.{cases_eq}
use Rattle.raw_grid.specs.Topology.{tile_count}
use Rattle.raw_serial.specs.Running.{turn_of}
use Rattle.raw_clock.proofs.Asking.{more_tiles}
use Rattle.raw_clock.proofs.cycle.ask_others.Goals as goal

pub procs-preserved : goal.procs-preserved
procs-preserved c =
    let m = c.args.machine.now in
    let p = c.procs.p in
    let did = c.ask_other.ensures in
    let turns = c.ask_other.new.account.turns.items in
    let before = c.procs.invariant in (
      before.0,
      omega (arith, before.1),
      did.account,
      λ q low below.
          ⊎_elim
          (λ (here : p ≡ q). subst (λ r. slice_get turns r ≡ Some (turn_of m r)) here did.turn)
          (λ (ne : p ≡ q → ⊥). did.others q (λ e. ne (sym e)) ∙ before.3 q low (omega (arith, below, ne)))
          (cases_eq p q),
      λ q tile. did.others q (λ e. absurd (omega (arith, e, tile, before.1))) ∙ before.4 q tile,
      λ q later. did.others q (λ e. absurd (omega (arith, e, later))) ∙ before.5 q (omega (arith, later)),
      more_tiles m (tile_count m.set.topo) p (λ q. slice_index m.owed q) before.6 did.tiles,
    )

pub ask_other-requires-clause-account : goal.ask_other-requires-clause-account
ask_other-requires-clause-account c = record { few = c.requires.account.few; account = c.procs.invariant.2 }
