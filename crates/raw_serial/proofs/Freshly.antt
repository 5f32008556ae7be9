-- The parts of a machine that has done nothing yet.
use Rattle.std.proofs.Common.{◌≡◌, ℕ, zero, suc, ◌<◌, List, [], length, map, Some, refl, sym, ap, subst, ◌∙◌, arith}
use Rattle.std.specs.Prelude.{slice_get, slice_index, slice_index_or, replicate}
use Rattle.raw_grid.specs.Topology.{tile_count, proc_count}
use Rattle.raw_grid.specs.Wires.{wires_of}
use Rattle.raw_model.specs.Program.{ProgramSet, IsSet}
use Rattle.raw_model.specs.Start.{start, Fits}
use Rattle.raw_model.specs.Cache.{StandsFor, misses}
use Rattle.raw_model.proofs.Starting.{start_fits}
use Rattle.raw_processor.specs.declared.end_wires.EndWires.{EndWires}
use Rattle.raw_processor.specs.declared.processor.Processor.{Processor}
use Rattle.raw_processor.specs.declared.processor.Processor.TheVariants as a
use Rattle.raw_processor.specs.Processor.{local_of, cache_of, misses_of, owed_of, HasFewMisses}
use Rattle.raw_serial.specs.Fresh.{IsFresh, AreFirst, AreAllEnds}
use Rattle.raw_serial.specs.Parts.{state_of, running_of, AreParts}
use Rattle.raw_serial.specs.Running.{Running, IsRunBy}
use Rattle.raw_serial.proofs.Fields.{some_at, field_at, map_is, map_const}
use Rattle.raw_serial.proofs.Owing.{owes_first}

-- one that never missed did not miss more often than it stepped
few_first : (x : Processor) → misses_of x ≡ 0 → HasFewMisses x
few_first (a.Tile tile) none = omega arith
few_first x none = tt

module _ (g : ProgramSet) (valid : IsSet g) (ends : List EndWires) (processors : List Processor) (wires : List (List ℕ))
    (all_ends : AreAllEnds g.topo ends) (first : AreFirst g processors) (wires_are : wires ≡ replicate (length (wires_of g.topo)) []) where
  locals_are : map local_of processors ≡ (start g).locals
  locals_are =
      map_is local_of processors (start g).locals (first.each ∙ sym (start_fits g valid).processors) (λ p x here. (first.first p x here).local)

  queues_are : wires ≡ (start g).wires
  unfolding start
  queues_are = wires_are

  state_first : state_of processors wires ≡ start g
  state_first = λ i. record { locals = locals_are i; wires = queues_are i }

  -- a tile is among the processors
  tile_at : (t : ℕ) → t < tile_count g.topo → (x : Processor) × (slice_get processors t ≡ Some x)
  tile_at t within = let many = first.each in some_at processors t (omega arith)

  caches_first : (t : ℕ) → t < tile_count g.topo → StandsFor (slice_index_or (map cache_of processors) t []) []
  caches_first t within =
      let tile = tile_at t within in
      subst (λ cache. StandsFor cache []) (sym (field_at cache_of processors t tile.0 [] tile.1)) ((first.first t tile.0 tile.1).cache within)

  missed_first : map misses_of processors ≡ replicate (proc_count g.topo) 0
  missed_first = map_const misses_of 0 processors (λ p x here. (first.first p x here).misses) ∙ ap (λ n. replicate n 0) first.each

  owed_first : map owed_of processors ≡ replicate (proc_count g.topo) 0
  owed_first = map_const owed_of 0 processors (λ p x here. (first.first p x here).owed) ∙ ap (λ n. replicate n 0) first.each

  miss_first : (t : ℕ) → t < tile_count g.topo → slice_index (map misses_of processors) t ≡ misses []
  unfolding misses
  miss_first t within =
      let tile = tile_at t within in
      field_at misses_of processors t tile.0 0 tile.1 ∙ (first.first t tile.0 tile.1).misses

  none_owed : (t : ℕ) → t < tile_count g.topo → slice_index (map owed_of processors) t ≡ 0
  none_owed t within =
      let tile = tile_at t within in
      field_at owed_of processors t tile.0 0 tile.1 ∙ (first.first t tile.0 tile.1).owed

  -- they are the parts of a machine, which is fresh
  pub made : AreParts g ends processors wires × IsFresh g (running_of g processors wires)
  made = (
    record {
      valid = valid;
      each_end = all_ends.each_end;
      each = first.each;
      ends_are = all_ends.ends_are;
      kept = λ p x here. (first.first p x here).kept;
      few = λ p x here. few_first x (first.first p x here).misses;
      fits = subst (Fits g) (sym state_first) (start_fits g valid);
      reached = ∣ ([], record { lawful = tt; there = sym state_first; stands = caches_first; missed = miss_first; owed = λ t within. owes_first g t (slice_index (map owed_of processors) t) (none_owed t within) }) ∣₁;
    },
    record { set = refl; state = state_first; caches = caches_first; missed = missed_first; owed = owed_first },
  )

zero_at : (n i : ℕ) → slice_index (replicate n 0) i ≡ 0
zero_at zero i = refl
zero_at (suc n) zero = refl
zero_at (suc n) (suc i) = zero_at n i

-- a fresh machine is run by no steps
pub fresh_run : (g : ProgramSet) (m : Running) → IsFresh g m → IsRunBy m []
unfolding misses
fresh_run g m fresh =
    record {
      lawful = tt;
      there = ap start fresh.set ∙ sym fresh.state;
      stands = λ t within. fresh.caches t (subst (λ (h : ProgramSet). t < tile_count h.topo) fresh.set within);
      missed = λ t within. ap (λ l. slice_index l t) fresh.missed ∙ zero_at (proc_count g.topo) t;
      owed = λ t within. owes_first m.set t (slice_index m.owed t) (ap (λ l. slice_index l t) fresh.owed ∙ zero_at (proc_count g.topo) t);
    }
