-- Several turns of a processor, one after another.
use Rattle.std.proofs.Common.{◌≡◌, ℕ, suc, ◌<◌, List, [], ◌∷◌, length, set, refl, sym, subst, arith}
use Rattle.std.specs.Prelude.{nat_lt, slice_index}
use Rattle.raw_network.proofs.Wires.{slice_get-set_same}
use Rattle.raw_grid.specs.Topology.{proc_count}
use Rattle.raw_model.specs.Program.{ProgramSet}
use Rattle.raw_processor.specs.declared.processor.Processor.{Processor}
use Rattle.raw_serial.specs.declared.turn.Turn.{Turn}
use Rattle.raw_serial.specs.declared.turn.Turn.TheVariants.{Fired, Stalled}
use Rattle.raw_serial.specs.Costs.{IsProcessorTurn}
use Rattle.raw_serial.specs.Running.{Running, IsStep, IsTurnOf}
use Rattle.raw_serial.specs.Parts.{running_of, AreParts}
use Rattle.raw_serial.specs.Leading.{HasTaken, IsRunFor, IsOfSome, RunsOn}
use Rattle.raw_serial.proofs.Fields.{set_same}
use Rattle.raw_serial.proofs.Taking.{none_taken, stall_taken, step_taken}
use Rattle.raw_serial.proofs.Leading.{run_past, run_step, run_more, set_set, past_none, on_is}
use Rattle.raw_serial.proofs.Seating.{turned, parts_then}

-- so many steps of `most` are left after a turn
abbrev pub Leaves : Turn → ℕ → ℕ → Type 0
Leaves Fired most left = suc left ≡ most
Leaves turn most left = left ≡ most

pub unfired_leaves : (turn : Turn) (most : ℕ) → (turn ≡ Fired → ⊥) → Leaves turn most most
unfired_leaves Fired most not_fired = absurd (not_fired refl)
unfired_leaves _ most not_fired = refl

-- a step of a turn is taken
pub fired_taken : (m n : Running) (p : ℕ) → p < length m.state.locals → IsTurnOf m n p Fired → HasTaken m n (p ∷ [])
fired_taken m n p within is =
    let same = past_none m p Fired is.answer (λ e. absurd (cc e)) in
    step_taken m n p (on_is m.set m.state p within (nat_lt 0 (slice_index m.owed p)) is.answer)
    (subst (λ (k : Running). IsStep k n p) (sym same) is.after)

-- a machine runs on by a turn
turn_runs : (m n : Running) (p most left : ℕ) → p < length m.state.locals → (turn : Turn) → IsTurnOf m n p turn → Leaves turn most left
    → IsRunFor m n most left
turn_runs m n p most left within Fired is one = run_step m n p most left one (fired_taken m n p within is)
turn_runs m n p most left within Stalled is same =
    subst (IsRunFor m n most) (sym same) (run_past m n most (stall_taken m n p is.after))
turn_runs m n p most left within _ is same =
    subst (IsRunFor m n most) (sym same) (run_past m n most (subst (λ (k : Running). HasTaken m k []) (sym is.after) (none_taken m)))

module _ (g : ProgramSet) (p : ℕ) where
  -- no turn at all
  pub runs_none : (x : Processor) (wires : List (List ℕ)) (most : ℕ) → RunsOn g p x x wires wires most most
  runs_none x wires most ends processors parts here =
      let same = sym (set_same processors p x here) in (
        subst (λ ps. AreParts g ends ps wires) same parts,
        subst (λ ps. IsRunFor (running_of g processors wires) (running_of g ps wires) most most) same (run_past _ _ most (none_taken (running_of g processors wires))),
      )

  -- the processor is of some machine then, too
  pub now_of : (x y : Processor) (wires between : List (List ℕ)) (most left : ℕ) → IsOfSome g p x wires → RunsOn g p x y wires between most left
      → IsOfSome g p y between
  now_of x y wires between most left of runs =
      record {
        ends = of.ends;
        processors = set of.processors p y;
        parts = (runs of.ends of.processors of.parts of.here).0;
        here = slice_get-set_same of.processors p y x of.here;
      }

  -- a turn more
  pub runs_more : (x y z : Processor) (wires between later : List (List ℕ)) (most left rest : ℕ) (turn : Turn) → p < proc_count g.topo
      → RunsOn g p x y wires between most left → IsProcessorTurn g p turn y z between later → Leaves turn left rest
      → RunsOn g p x z wires later most rest
  runs_more x y z wires between later most left rest turn within runs is leaves ends processors parts here =
      let before = runs ends processors parts here in
      let there = slice_get-set_same processors p y x here in
      let same = set_set processors p y z in
      let many = before.0.fits.processors in
      let next = turn_runs _ _ p left rest (omega (arith, within, many)) turn (turned g ends (set processors p y) between later before.0 p y z there turn is) leaves in (
        subst (λ ps. AreParts g ends ps later) same (parts_then g ends (set processors p y) between later before.0 p y z there turn is),
        run_more (running_of g processors wires) (running_of g (set processors p y) between) (running_of g (set processors p z) later) most left rest before.1
            (subst (λ ps. IsRunFor (running_of g (set processors p y) between) (running_of g ps later) left rest) same next),
      )
