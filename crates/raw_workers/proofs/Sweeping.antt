-- What several turns in a row came to.
use Rattle.std.proofs.Common.{◌≡◌, ◌≤◌, refl, arith}
use Rattle.std.specs.Prelude.{vec_len}
use Rattle.raw_fabric.specs.declared.pass.Pass.{Pass}
use Rattle.raw_fabric.specs.declared.answer.FabricTurn.{FabricTurn}
use Rattle.raw_fabric.specs.declared.answer.FabricTurn.TheVariants.{Fired, Stalled, Stopped, LogFull, Waits}
use Rattle.raw_fabric.specs.Owing.{owing}
use Rattle.raw_fabric.specs.InRow.{AreTurns}
use Rattle.raw_workers.specs.declared.swept.Swept.TheVariants.{Stalled as stalls, Idle}
use Rattle.raw_workers.specs.Swept.{HasSwept}

-- no step, but a stall turn
pub swept_stalled : (old new : Pass) → AreTurns Stalled old.log new.log (owing old) (owing new) → vec_len new.log.steps ≤ vec_len old.log.steps → HasSwept stalls old new
swept_stalled old new turns few =
    let many = turns.many in
    let same : vec_len new.log.steps ≡ vec_len old.log.steps = omega (arith, many, few) in
    let less = turns.none same in
    (same, omega (arith, less))

-- neither
pub swept_idle : (turn : FabricTurn) → (turn ≡ Stalled → ⊥) → (old new : Pass) → AreTurns turn old.log new.log (owing old) (owing new) → vec_len new.log.steps ≤ vec_len old.log.steps → HasSwept Idle old new
swept_idle Fired not old new turns few = let many = turns.many in absurd (turns.none (omega (arith, many, few)))
swept_idle Stalled not old new turns few = absurd (not refl)
swept_idle Stopped not old new turns few =
    let many = turns.many in
    let same : vec_len new.log.steps ≡ vec_len old.log.steps = omega (arith, many, few) in
    let owed = turns.none same in
    (same, omega (arith, owed))
swept_idle LogFull not old new turns few =
    let many = turns.many in
    let same : vec_len new.log.steps ≡ vec_len old.log.steps = omega (arith, many, few) in
    let owed = turns.none same in
    (same, omega (arith, owed))
swept_idle (Waits wire seen) not old new turns few =
    let many = turns.many in
    let same : vec_len new.log.steps ≡ vec_len old.log.steps = omega (arith, many, few) in
    let owed = turns.none same in
    (same, omega (arith, owed))
