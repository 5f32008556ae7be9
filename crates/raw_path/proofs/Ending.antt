-- The least processor that goes on in the last cycle, and how long the path is.
use Rattle.std.proofs.Common.{◌≡◌, ℕ, zero, suc, ◌+◌, ◌<◌, ◌≤◌, Bool, true, false, List, ◌∷◌, length, Option, Some, None, sym, ap, ◌∙◌, subst, ⊎_elim, arith}
use Rattle.std.specs.Prelude.{unwrap_or}
use Rattle.std.proofs.lemmas.Bool.{false≢true, cases_lt, cases_eq, cases_Bool}
use Rattle.raw_grid.specs.Topology.{proc_count}
use Rattle.raw_grid.specs.Wires.{producer_of, consumer_of}
use Rattle.raw_model.specs.Program.{ProgramSet, IsSet}
use Rattle.raw_model.specs.Rest.{IsQuiet}
use Rattle.raw_serial.specs.Running.{Running}
use Rattle.raw_depth.proofs.Finding.{find_is}
use Rattle.raw_pace.specs.Path.{far_end}
use Rattle.raw_clock.specs.Clock.{machine_at, clock, turn_in, is_stalled, GoesOn, HasCycles, program_steps}
use Rattle.raw_clock.proofs.Clocking.{law_clock_at, law_rests}
use Rattle.raw_path.specs.declared.hops.Hop.{Hop}
use Rattle.raw_path.specs.declared.seen.Seen.{Seen}
use Rattle.raw_path.specs.declared.running.Path.{Path}
use Rattle.raw_path.specs.Path.{wire_in, goes_in, before, one_stall, waited_for, stretch_of, by_wait, stretches, stalls_to, last_of, path_of, stalls_of}
use Rattle.raw_path.specs.Known.{IsReached, IsKnown, AreKnown, IsTold, IsPath}
use Rattle.raw_path.proofs.Reaching.{seen_at, known_at}

module _ (set : ProgramSet) where
  -- the first that goes on is the last of the path
  pub last_is : (k p : ℕ) → p < proc_count set.topo → goes_in set k p ≡ true → ((q : ℕ) → q < p → goes_in set k q ≡ false) → last_of set k ≡ p
  last_is k p there on none =
      ap (λ o. unwrap_or o 0)
      (find_is (λ q. goes_in set k q) 0 (proc_count set.topo) p (record {
        from = omega arith;
        below = omega (arith, there);
        passes = on;
        before = λ q low high. none q high;
      }))

  -- where none before it goes on, the one that goes on comes later
  pub later : (k p : ℕ) → GoesOn set (clock set k) → ((q : ℕ) → q < p → goes_in set k q ≡ false) → p < proc_count set.topo
  later k p on none =
      let there = on.there in
      ⊎_elim
      (λ (early : on.p < p). absurd (false≢true (sym (none on.p early) ∙ on.does)))
      (λ (late : p ≤ on.p). omega (arith, late, there))
      (cases_lt on.p p)

  pub record IsLast (k p : ℕ) : Type 0 where
    pub there : p < proc_count set.topo
    pub goes : goes_in set k p ≡ true

  -- where one goes on, the last of the path does
  pub last_goes : (k : ℕ) → GoesOn set (clock set k) → IsLast k (last_of set k)
  last_goes k on = from (least 0 (proc_count set.topo) (λ q below. absurd (omega (arith, below))) (omega arith))
    where
      -- the first that goes on, from q on
      least : (q n : ℕ) → ((r : ℕ) → r < q → goes_in set k r ≡ false) → q + n ≡ proc_count set.topo
          → (p : ℕ) × (p < proc_count set.topo) × (goes_in set k p ≡ true) × ((r : ℕ) → r < p → goes_in set k r ≡ false)
      least q zero none all = absurd (let there = later k q on none in omega (arith, there, all))
      least q (suc n) none all =
          ⊎_elim
          (λ (goes : goes_in set k q ≡ true). (q, omega (arith, all), goes, none))
          (λ (off : goes_in set k q ≡ false).
          least (suc q) n
          (λ r below.
          ⊎_elim
          (λ (here : r ≡ q). ap (goes_in set k) here ∙ off)
          (λ (ne : r ≡ q → ⊥). none r (omega (arith, below, ne)))
          (cases_eq r q))
          (omega (arith, all)))
          (cases_Bool (goes_in set k q))

      from : (p : ℕ) × (p < proc_count set.topo) × (goes_in set k p ≡ true) × ((r : ℕ) → r < p → goes_in set k r ≡ false) → IsLast k (last_of set k)
      from found =
          let same = last_is k found.0 found.1 found.2 found.3 in
          record { there = subst (λ p. p < proc_count set.topo) (sym same) found.1; goes = subst (λ p. goes_in set k p ≡ true) (sym same) found.2 }

  one_at_most : (b : Bool) → one_stall b ≤ 1
  one_at_most true = omega arith
  one_at_most false = omega arith

  few_stalls : (k p : ℕ) → stalls_to set k p ≤ suc k
  few_stalls zero p = one_at_most (is_stalled (turn_in set (clock set 0) p))
  few_stalls (suc k) p = omega (arith, few_stalls k (before set k p), one_at_most (is_stalled (turn_in set (clock set (suc k)) p)))

  pub stalls_few : (n : ℕ) → stalls_of set n ≤ n
  stalls_few zero = omega arith
  stalls_few (suc k) = few_stalls k (last_of set k)

  few_stretches : (to k p : ℕ) → length (stretches set to k p) ≤ suc k
  few_stretches to zero p = omega arith
  few_stretches to (suc k) p = by_wire (wire_in set k p) (few_stretches to k p) (λ q. few_stretches k k q)
    where
      by_wire : (o : Option ℕ) → length (stretches set to k p) ≤ suc k → ((q : ℕ) → length (stretches set k k q) ≤ suc k)
          → length (by_wait o (stretches set to k p) (λ w. stretch_of set (suc k) to p (waited_for set.topo p w) ∷ stretches set k k (far_end (producer_of set.topo) (consumer_of set.topo) p w)))
          ≤ suc (suc k)
      by_wire None own other = omega (arith, own)
      by_wire (Some w) own other = let more = other (far_end (producer_of set.topo) (consumer_of set.topo) p w) in omega (arith, more)

  pub stretches_few : (n : ℕ) → length (path_of set n) ≤ n
  stretches_few zero = omega arith
  stretches_few (suc k) = few_stretches k k (last_of set k)

-- what was seen of a processor in the last cycle
pub turn_seen : (set : ProgramSet) (hops : List Hop) (n : ℕ) (seen : List Seen) (k p : ℕ) → AreKnown set hops n seen → suc k ≡ n → p < proc_count set.topo
    → (seen_at seen p).turn ≡ turn_in set (clock set k) p
turn_seen set hops n seen k p are next below =
    let known : IsKnown set hops (suc k) p (seen_at seen p) = subst (λ m. IsKnown set hops m p (seen_at seen p)) (sym next) (known_at set hops n seen p are below) in
    known.0

pub end_seen : (set : ProgramSet) (hops : List Hop) (n : ℕ) (seen : List Seen) (k p : ℕ) → AreKnown set hops n seen → suc k ≡ n → p < proc_count set.topo
    → goes_in set k p ≡ true → IsReached set hops k p (seen_at seen p).end
end_seen set hops n seen k p are next below on =
    let known : IsKnown set hops (suc k) p (seen_at seen p) = subst (λ m. IsKnown set hops m p (seen_at seen p)) (sym next) (known_at set hops n seen p are below) in
    known.2 on

-- a machine at rest, and the path of its set
pub path_by : (g : ProgramSet) (m : Running) (path : Path) → m.set ≡ g → HasCycles g path.cycles → path.steps ≡ program_steps g path.cycles
    → IsTold (proc_count g.topo) (stalls_of g path.cycles) (path_of g path.cycles) path.told → m.state ≡ machine_at (clock g path.cycles) → IsPath m path
path_by g m path same cycles steps told state =
    record {
      cycles = subst (λ h. HasCycles h path.cycles) (sym same) cycles;
      steps = subst (λ h. path.steps ≡ program_steps h path.cycles) (sym same) steps;
      told = subst (λ (h : ProgramSet). IsTold (proc_count h.topo) (stalls_of h path.cycles) (path_of h path.cycles) path.told) (sym same) told;
      state = subst (λ h. m.state ≡ machine_at (clock h path.cycles)) (sym same) state;
    }

pub path_rests : (m : Running) (path : Path) → IsSet m.set → IsPath m path → IsQuiet m.set m.state
path_rests m path valid is =
    subst (λ s. IsQuiet m.set s) ((law_clock_at m.set valid path.cycles).there ∙ sym is.state) (law_rests m.set valid path.cycles is.cycles).quiet
