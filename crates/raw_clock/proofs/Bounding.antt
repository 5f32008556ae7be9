-- The clock of a set is over before so many cycles that a number of 64 bits could not count them.
use Rattle.std.proofs.Common.{◌≡◌, ℕ, suc, ◌+◌, ◌-◌, ◌*◌, ◌<◌, ◌≤◌, ◌^◌, List, [], ◌∷◌, length, map, Option, Some, None, refl, ap, ◌∙◌, subst, ⊎_elim, arith}
use Rattle.std.specs.Prelude.{slice_get, slice_index_or, sum}
use Rattle.std.proofs.lemmas.List.{length-map, get_or_past, get_or-map}
use Rattle.std.proofs.lemmas.List.Sums.{sum_by-le, sum_by_more_le}
use Rattle.std.proofs.lemmas.List.Elements.{All-get_or}
use Rattle.std.proofs.lemmas.Option.{slice_get_within, get_or_from_slice_get, slice_get_cases}
use Rattle.raw_network.specs.Laws.{total, total_from}
use Rattle.raw_network.proofs.Bounds.{law_no_longer}
use Rattle.raw_grid.specs.Topology.{tile_count, proc_count}
use Rattle.raw_model.specs.Program.{ProgramSet, TileProgram, PortProgram, IsTileProgram, IsSet}
use Rattle.raw_model.specs.Local.{Local, Source, Sink}
use Rattle.raw_model.specs.Machine.{port_program, words_of, capacity_of}
use Rattle.raw_model.specs.Cache.{stream_of}
use Rattle.raw_model.specs.Bounds.{steps_left}
use Rattle.raw_lockstep.specs.Stalls.{Paying}
use Rattle.raw_clock.specs.Clock.{clocked, first_clock, clock_turns, clock, GoesOn}
use Rattle.raw_clock.proofs.Clocking.{clock_bounded, clock_length, turns_lawful, long_by}

module _ (g : ProgramSet) (valid : IsSet g) where
  words_few : (i : ℕ) (port : Option PortProgram) → slice_get g.ports i ≡ port → length (words_of port) ≤ 262144
  words_few i None e = omega arith
  words_few i (Some port) e =
      let words = λ (port : PortProgram). length port.words in
      omega (arith, sum_by_more_le words g.ports i port (slice_get_within g.ports i port e), ap words (get_or_from_slice_get g.ports i port port e), valid.totals.words)

  capacity_few : (i : ℕ) (port : Option PortProgram) → slice_get g.ports i ≡ port → capacity_of port ≤ 4000000
  capacity_few i None e = omega arith
  capacity_few i (Some port) e =
      let capacity = λ (port : PortProgram). port.capacity in
      omega (arith, sum_by_more_le capacity g.ports i port (slice_get_within g.ports i port e), ap capacity (get_or_from_slice_get g.ports i port port e), valid.totals.capacities)

  left_few : (p : ℕ) (l : Local) → steps_left g p l ≤ 10000000
  left_few p (Source l) = omega (arith, words_few (p - 2 * tile_count g.topo) (port_program g p) refl)
  left_few p (Sink l) = omega (arith, capacity_few (p - 2 * tile_count g.topo) (port_program g p) refl)
  left_few p _ = omega (arith, valid.few_steps)

  stream_few : (p : ℕ) → sum (stream_of g p) ≤ 66846720
  stream_few p =
      ⊎_elim
      (λ (here : (tile : TileProgram) × (p < length g.tiles) × (slice_get g.tiles p ≡ Some tile) × (slice_index_or g.tiles p tile ≡ tile)).
      let misses = λ (given : TileProgram). given.misses in
      let count = λ (given : TileProgram). length given.misses in
      let is : stream_of g p ≡ here.0.misses = get_or-map misses g.tiles p here.0 [] here.1 ∙ ap misses here.3 in
      let lawful : IsTileProgram here.0 = subst (λ t. IsTileProgram t) here.3 (All-get_or IsTileProgram g.tiles p here.0 here.1 valid.tile_programs) in
      let each : sum here.0.misses ≤ length here.0.misses * 255 =
      sum_by-le (λ x. x) 255 here.0.misses (λ k d within. omega (arith, lawful.misses k d within)) in
      omega (arith, each, ap sum is, sum_by_more_le count g.tiles p here.0 here.1, ap count here.3, valid.totals.misses))
      (λ past.
      let none : stream_of g p ≡ [] =
      get_or_past (map (λ (given : TileProgram). given.misses) g.tiles) p [] (omega (arith, past.0, length-map g.tiles (λ (given : TileProgram). given.misses))) in
      omega (arith, ap sum none))
      (slice_get_cases g.tiles p).1

  total_few : (b : ℕ) (xs : List (Paying Local))
      → total_from (λ p (x : Paying Local). steps_left g p x.local + (sum (stream_of g p) - x.paid)) b xs ≤ length xs * 76846720
  total_few b [] = omega arith
  total_few b (x ∷ xs) = omega (arith, total_few (suc b) xs, left_few b x.local, stream_few b)

  all_few : total (λ p (x : Paying Local). steps_left g p x.local + (sum (stream_of g p) - x.paid)) (first_clock g)
      ≤ length (first_clock g).locals * 76846720
  unfolding total
  all_few = total_few 0 (first_clock g).locals

  -- as many cycles as go on are few
  pub few_cycles : proc_count g.topo ≤ 256 → (k : ℕ) → ((i : ℕ) → i < k → GoesOn g (clock g i)) → k ≤ 2 ^ 40
  few_cycles procs k goes =
      let bound =
      law_no_longer (clocked g) (λ p x. Unit {0}) (λ p (x : Paying Local). steps_left g p x.local + (sum (stream_of g p) - x.paid)) (clock_bounded g valid)
      (first_clock g) (clock_turns g k) (λ p x here. tt) (turns_lawful g valid k) in
      omega (arith, bound, all_few, clock_length g valid [], procs, long_by g valid k goes)
