-- A machine that is at rest, processor by processor.
use Rattle.std.proofs.Common.{◌≡◌, ℕ, ◌+◌, ◌<◌, ◌≤◌, false, map, Option, sym, ap, subst, ⊎_elim, arith}
use Rattle.std.proofs.lemmas.Bool.{cases_lt}
use Rattle.std.proofs.lemmas.List.{length-map}
use Rattle.raw_network.specs.Network.{is_ready}
use Rattle.raw_grid.specs.Topology.{proc_count}
use Rattle.raw_model.specs.Program.{ProgramSet}
use Rattle.raw_model.specs.Local.{Local}
use Rattle.raw_model.specs.Machine.{machine_of}
use Rattle.raw_model.specs.Rest.{enabled, IsQuiet}
use Rattle.raw_term.specs.TermMachine.{TermState}
use Rattle.raw_prove.specs.declared.machine.Machine.{Machine}
use Rattle.raw_prove.specs.Units.{local_of, state_of}
use Rattle.raw_cut.specs.Kept.{IsKept, StaysIdle}
use Rattle.raw_cut.proofs.Lists.{get_past}

-- one processor more that waits
pub quiet_next : (g : ProgramSet) (first old new : Machine) (p : ℕ) → state_of old ≡ state_of first → ((q : ℕ) → q < p → enabled g (state_of first).state q ≡ false) → StaysIdle g p old new
    → (q : ℕ) → q < p + 1 → enabled g (state_of first).state q ≡ false
quiet_next g first old new p same none idle q below =
    ⊎_elim (λ (earlier : q < p). none q earlier)
    (λ (past : p ≤ q).
    let is : q ≡ p = omega (arith, below, past) in
    subst (λ (k : ℕ). enabled g (state_of first).state k ≡ false) (sym is) (subst (λ (t : TermState). enabled g t.state p ≡ false) same idle.waits))
    (cases_lt q p)

-- all of them
pub quiet_all : (g : ProgramSet) (m : Machine) (count : ℕ) → IsKept g m → proc_count g.topo ≤ count → ((q : ℕ) → q < count → enabled g (state_of m).state q ≡ false) → IsQuiet g (state_of m).state
quiet_all g m count kept all none q =
    ⊎_elim (λ (below : q < count). none q below)
    (λ (past : count ≤ q).
    ap (λ (o : Option Local). is_ready (machine_of g) q o m.wires)
    (get_past (map local_of m.units.items) q (omega (arith, past, all, kept.each, length-map m.units.items local_of))))
    (cases_lt q count)
