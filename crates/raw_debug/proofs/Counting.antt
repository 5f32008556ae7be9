-- How many steps of a processor a list has, by the processor's local state.
use Rattle.std.proofs.Common.{◌≡◌, ℕ, ◌+◌, ◌<◌, List, [], ◌∷◌, ◌++◌, length, map, Option, Some, None, refl, sym, ap, ◌∙◌, subst, ⊎_elim, arith}
use Rattle.std.specs.Prelude.{slice_get, IsSomeAnd}
use Rattle.std.specs.List.{All}
use Rattle.std.proofs.lemmas.Bool.{cases_eq}
use Rattle.std.proofs.lemmas.List.Elements.{All-append, All-map}
use Rattle.std.proofs.lemmas.Option.{slice_get-get_or}
use Rattle.raw_network.specs.Network.{count_of, row_at, step_from}
use Rattle.raw_network.proofs.Wires.{count_here, count_there, slice_get-set_same}
use Rattle.raw_network.proofs.Kth.{local_other}
use Rattle.raw_grid.specs.declared.parts.PortKind.{PortKind}
use Rattle.raw_grid.specs.declared.parts.PortKind.TheVariants as kind
use Rattle.raw_grid.specs.declared.parts.PortPlace.{PortPlace}
use Rattle.raw_grid.specs.Topology.{proc_count}
use Rattle.raw_model.specs.Program.{ProgramSet, TileProgram, IsSet}
use Rattle.raw_model.specs.Local.{Local, Tile, Switch, Source, Sink, steps_of}
use Rattle.raw_model.specs.TileTable.{next_instruction}
use Rattle.raw_model.specs.SwitchTable.{next_instruction as next_switch_instruction}
use Rattle.raw_model.specs.Machine.{tile_code, switch_code, first_operand, second_operand, given_to, row, machine_of}
use Rattle.raw_model.specs.Start.{MachineState, start, first_tile, first_switch, first_port}
use Rattle.raw_model.specs.Rest.{step, end, end_from}
use Rattle.raw_model.proofs.Words.{All-each, all_at}
use Rattle.raw_model.proofs.Finite.{tile_counts, switch_counts}
use Rattle.raw_model.proofs.Starting.{start_fits}

module _ (set : ProgramSet) where
  -- each row is one step
  row_counts : (p : ℕ) (l : Local) (values : List ℕ) → steps_of (row set p l values).next ≡ steps_of l + 1
  row_counts p (Tile l) values =
      tile_counts (next_instruction (tile_code set p) l) (length (tile_code set p)) l
      (first_operand (next_instruction (tile_code set p) l) l.regs values)
      (second_operand (next_instruction (tile_code set p) l) l.regs values)
  row_counts p (Switch l) values =
      switch_counts (next_switch_instruction (switch_code set p) l) (length (switch_code set p)) l
      (given_to set.topo p (next_switch_instruction (switch_code set p) l) values)
  row_counts p (Source l) values = refl
  row_counts p (Sink l) values = refl

  -- the local state after a step of the processor's own
  own_step : (s : MachineState) (p : ℕ) (l : Local) → slice_get s.locals p ≡ Some l
      → (m : Local) × (slice_get (step set s p).locals p ≡ Some m) × (steps_of m ≡ steps_of l + 1)
  unfolding machine_of
  own_step s p l is =
      let next = (row_at (machine_of set) p l s.wires).next in (
        next,
        ap (λ o. slice_get (step_from (machine_of set) s p o).locals p) is ∙ slice_get-set_same s.locals p next l is,
        row_counts p l _,
      )

  -- a processor has taken so many steps more as stand in the list
  counted : (s : MachineState) (steps : List ℕ) (p : ℕ) (l : Local) → slice_get s.locals p ≡ Some l
      → (m : Local) × (slice_get (end_from set s steps).locals p ≡ Some m) × (steps_of m ≡ steps_of l + count_of p steps)
  counted s [] p l is = (l, is, omega arith)
  counted s (q ∷ steps) p l is =
      ⊎_elim
      (λ (e : q ≡ p).
      let (next, there, one) = own_step s p l is in
      let (m, at, more) = counted (step set s p) steps p next there in
      let here = count_here p steps in
      subst (λ r. (m : Local) × (slice_get (end_from set (step set s r) steps).locals p ≡ Some m) × (steps_of m ≡ steps_of l + count_of p (r ∷ steps))) (sym e)
      (m, at, omega (arith, one, more, here)))
      (λ (ne : q ≡ p → ⊥).
      let (m, at, more) = counted (step set s q) steps p l (local_other (machine_of set) s q p (λ e. ne (sym e)) ∙ is) in
      let there = count_there p q steps ne in
      (m, at, omega (arith, more, there)))
      (cases_eq q p)

  first_port_counts : (k : PortKind) → steps_of (first_port k) ≡ 0
  first_port_counts kind.Source = refl
  first_port_counts kind.Sink = refl

  -- at the start no processor has taken a step
  start_counts : All (λ l. steps_of l ≡ 0) (start set).locals
  unfolding start
  start_counts =
      let P : Local → Type 0 = λ l. steps_of l ≡ 0 in
      let tiles = map (λ (tile : TileProgram). Tile (first_tile tile)) set.tiles in
      let switches = map (λ (tile : TileProgram). Switch (first_switch tile.switch)) set.tiles in
      let ports = map (λ (place : PortPlace). first_port place.kind) set.topo.places in
      All-append P tiles (switches ++ ports)
      (All-map P (λ (tile : TileProgram). Tile (first_tile tile)) set.tiles (All-each (λ tile. steps_of (Tile (first_tile tile)) ≡ 0) (λ tile. refl) set.tiles))
      (All-append P switches ports
      (All-map P (λ (tile : TileProgram). Switch (first_switch tile.switch)) set.tiles (All-each (λ tile. steps_of (Switch (first_switch tile.switch)) ≡ 0) (λ tile. refl) set.tiles))
      (All-map P (λ (place : PortPlace). first_port place.kind) set.topo.places
      (All-each (λ place. steps_of (first_port place.kind) ≡ 0) (λ place. first_port_counts place.kind) set.topo.places)))

  same_count : (n : ℕ) (o : Option Local) (m : Local) → IsSomeAnd o (λ l. n ≡ steps_of l) → o ≡ Some m → n ≡ steps_of m
  same_count n None m is e = absurd (cc e)
  same_count n (Some l) m is e = is ∙ cc e

  -- the count of a processor after a list of steps from the start is that of its steps in the list
  pub count_is : IsSet set → (steps : List ℕ) (s : MachineState) (p n : ℕ) → end set steps ≡ s → p < proc_count set.topo
      → IsSomeAnd (slice_get s.locals p) (λ l. n ≡ steps_of l) → n ≡ count_of p steps
  count_is valid steps s p n there within is =
      let fits = start_fits set valid in
      let d : Local = Source (record { done = 0; got = [] }) in
      let at = slice_get-get_or (start set).locals p d (omega (arith, within, fits.processors)) in
      let (m, after, more) = counted (start set) steps p _ at in
      let none = all_at (λ l. steps_of l ≡ 0) (start set).locals p _ start_counts at in
      let same = same_count n (slice_get s.locals p) m is (ap (λ (t : MachineState). slice_get t.locals p) (sym there) ∙ after) in
      omega (arith, same, more, none)
