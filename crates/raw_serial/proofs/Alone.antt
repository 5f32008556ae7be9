-- Steps of one processor in a row that touch no wire.
use Rattle.std.proofs.Common.{◌≡◌, ℕ, zero, suc, ◌+◌, ◌<◌, ◌≤◌, Bool, true, cond, List, [], ◌∷◌, ◌++◌, set, Some, refl, sym, ap, ap₂, ◌∙◌, subst, ⊎_elim, arith}
use Rattle.std.specs.Prelude.{replicate, slice_get}
use Rattle.std.specs.List.{flat_map}
use Rattle.std.specs.Option.{option_to_list}
use Rattle.std.proofs.lemmas.Bool.{and_parts, cases_lt}
use Rattle.std.proofs.lemmas.Grind.{flat_map-append}
use Rattle.std.proofs.lemmas.Option.{same_Some}
use Rattle.raw_network.proofs.Steps.{end_of-push}
use Rattle.raw_network.proofs.Wires.{slice_get-set_same}
use Rattle.raw_tile_isa.specs.Instruction.{Instruction, uses, is_rs, reads_rt, destination_register}
use Rattle.raw_grid.specs.Topology.{Topology, tile_count}
use Rattle.raw_model.specs.Program.{ProgramSet}
use Rattle.raw_model.specs.Local.{Tile}
use Rattle.raw_model.specs.Machine.{source_wire, tile_takes, tile_sends, machine_of}
use Rattle.raw_model.specs.Start.{MachineState}
use Rattle.raw_model.specs.Rest.{step, end_from}
use Rattle.raw_tile.specs.declared.step.Via.{Via}
use Rattle.raw_tile.specs.declared.step.Via.TheVariants as via
use Rattle.raw_tile.specs.Step.{via_where, via_of, is_tile, is_within}
use Rattle.raw_processor.specs.declared.end_wires.EndWires.{EndWires}
use Rattle.raw_processor.specs.declared.processor.Processor.{Processor}
use Rattle.raw_processor.specs.declared.processor.Processor.TheVariants as a
use Rattle.raw_processor.specs.declared.processor.TileUnit.{TileUnit}
use Rattle.raw_processor.specs.Ends.{AreEndsOf}
use Rattle.raw_processor.specs.Given.{wire_via}
use Rattle.raw_processor.specs.Processor.{local_of}
use Rattle.raw_processor.proofs.Vias.{source_where, destination_of}
use Rattle.raw_serial.specs.declared.turn.Turn.TheVariants.{Fired}
use Rattle.raw_serial.specs.Costs.{IsTileTurn}
use Rattle.raw_serial.specs.Running.{Running}
use Rattle.raw_serial.specs.Parts.{running_of, AreParts}
use Rattle.raw_serial.specs.Leading.{HasTaken, IsOfSome}
use Rattle.raw_serial.specs.Within.{register_in, NamesNone, IsWithin, state_behind, HasRunWithin, RunsWithin}
use Rattle.raw_serial.proofs.Fields.{set_same, at_field}
use Rattle.raw_serial.proofs.Taking.{none_taken, then_taken}
use Rattle.raw_serial.proofs.Leading.{set_set}
use Rattle.raw_serial.proofs.Several.{fired_taken}
use Rattle.raw_serial.proofs.Seating.{turned, parts_then}

-- one step more
pub one_more : (p n : ℕ) → replicate n p ++ p ∷ [] ≡ replicate (suc n) p
one_more p zero = refl
one_more p (suc n) = ap (λ ps. p ∷ ps) (one_more p n)

pub behind_more : (m : Running) (p n : ℕ) → state_behind m p (suc n) ≡ step m.set (state_behind m p n) p
behind_more m p n = ap (end_from m.set m.state) (sym (one_more p n)) ∙ end_of-push (machine_of m.set) m.state (replicate n p) p

-- an instruction that names no network takes nothing from a wire, and sends nothing
via_is : (v : Via) → is_tile v ≡ true → v ≡ via.Tile
via_is via.Tile e = refl
via_is v e = absurd (cc e)

module _ (topo : Topology) (p : ℕ) (e : EndWires) (are : AreEndsOf topo p e) where
  none_at : (used : Bool) (r : ℕ) → is_tile (via_where used r) ≡ true → flat_map (source_wire topo p) (cond used (r ∷ []) []) ≡ []
  none_at used r is = sym (source_where topo p e used r are) ∙ ap (λ v. option_to_list (wire_via e.inputs v)) (via_is (via_where used r) is)

  pub takes_none : (ins : Instruction) → is_within ins ≡ true → tile_takes topo p (Some ins) ≡ []
  takes_none ins is =
      let parts = and_parts (is_tile (via_where (uses is_rs ins.op) ins.rs)) _ is in
      let others = and_parts (is_tile (via_where (reads_rt ins.op) ins.rt)) _ parts.1 in
      flat_map-append (source_wire topo p) (cond (uses is_rs ins.op) (ins.rs ∷ []) []) (cond (reads_rt ins.op) (ins.rt ∷ []) [])
      ∙ ap₂ (λ xs ys. xs ++ ys) (none_at (uses is_rs ins.op) ins.rs parts.0) (none_at (reads_rt ins.op) ins.rt others.0)

  pub sends_none : (ins : Instruction) → is_within ins ≡ true → tile_sends topo p (Some ins) ≡ []
  sends_none ins is =
      let parts = and_parts (is_tile (via_where (uses is_rs ins.op) ins.rs)) _ is in
      let others = and_parts (is_tile (via_where (reads_rt ins.op) ins.rt)) _ parts.1 in
      sym (destination_of topo p e (destination_register ins) are)
      ∙ ap (λ v. option_to_list (wire_via e.outputs v)) (via_is (via_of (destination_register ins)) others.1)

-- what is so below a number and at it
up_to_it : (P : ℕ → Type 0) (n : ℕ) → ((k : ℕ) → k < n → P k) → P n → (k : ℕ) → k < n + 1 → P k
up_to_it P n below at k less =
    ⊎_elim (λ (h : k < n). below k h) (λ (h : n ≤ k). let e : n ≡ k = omega (arith, h, less) in subst P e at) (cases_lt k n)

-- a machine that has taken none of them, and one step more
pub none_within : (m : Running) (p register : ℕ) → HasRunWithin m m p register 0
none_within m p register = record { taken = none_taken m; within = λ n less. absurd (omega (arith, less)); held = λ n less. absurd (omega (arith, less)) }

further : (old mid new : Running) (p register n : ℕ) → HasRunWithin old mid p register n → HasTaken mid new (p ∷ []) → IsWithin old.set mid.state p
    → register_in register (slice_get mid.state.locals p) ≡ register_in register (slice_get old.state.locals p) → HasRunWithin old new p register (n + 1)
further old mid new p register n before one none same =
    let there : state_behind old p n ≡ mid.state = before.taken.led.there in
    let next : suc n ≡ n + 1 = omega arith in
    record {
      taken = subst (HasTaken old new) (one_more p n ∙ ap (λ k. replicate k p) next) (then_taken old mid new (replicate n p) (p ∷ []) before.taken one);
      within = up_to_it (λ k. IsWithin old.set (state_behind old p k) p) n before.within (subst (λ s. IsWithin old.set s p) (sym there) none);
      held = up_to_it (λ k. register_in register (slice_get (state_behind old p k).locals p) ≡ register_in register (slice_get old.state.locals p)) n before.held
          (ap (λ (s : MachineState). register_in register (slice_get s.locals p)) there ∙ same);
    }

module _ (g : ProgramSet) (p register : ℕ) where
  -- none at all
  pub runs_nowhere : (x : Processor) (wires : List (List ℕ)) → RunsWithin g p x x wires wires register 0
  runs_nowhere x wires ends processors parts here =
      let same = sym (set_same processors p x here) in (
        subst (λ ps. AreParts g ends ps wires) same parts,
        subst (λ ps. HasRunWithin (running_of g processors wires) (running_of g ps wires) p register 0) same (none_within (running_of g processors wires) p register),
      )

  -- the processor is of some machine then, too
  pub within_of : (x y : Processor) (wires between : List (List ℕ)) (n : ℕ) → IsOfSome g p x wires → RunsWithin g p x y wires between register n
      → IsOfSome g p y between
  within_of x y wires between n of runs =
      record {
        ends = of.ends;
        processors = set of.processors p y;
        parts = (runs of.ends of.processors of.parts of.here).0;
        here = slice_get-set_same of.processors p y x of.here;
      }

  -- a step more of a tile
  pub runs_further : (x y z : TileUnit) (wires between later : List (List ℕ)) (n : ℕ) → p < tile_count g.topo
      → RunsWithin g p (a.Tile x) (a.Tile y) wires between register n → IsTileTurn g p Fired y z between later → NamesNone g p (Tile y.state)
      → register_in register (Some (Tile y.state)) ≡ register_in register (Some (Tile x.state)) → RunsWithin g p (a.Tile x) (a.Tile z) wires later register (n + 1)
  runs_further x y z wires between later n below runs turn none held ends processors parts here =
      let before = runs ends processors parts here in
      let there = slice_get-set_same processors p (a.Tile y) (a.Tile x) here in
      let same = set_set processors p (a.Tile y) (a.Tile z) in
      let many = before.0.fits.processors in
      let old = running_of g processors wires in
      let mid = running_of g (set processors p (a.Tile y)) between in
      let new = running_of g (set (set processors p (a.Tile y)) p (a.Tile z)) later in
      let one = fired_taken mid new p (omega (arith, below, many))
      (turned g ends (set processors p (a.Tile y)) between later before.0 p (a.Tile y) (a.Tile z) there Fired turn) in
      let first : slice_get old.state.locals p ≡ Some (Tile x.state) = at_field local_of processors p (a.Tile x) here in
      let now : slice_get mid.state.locals p ≡ Some (Tile y.state) = at_field local_of (set processors p (a.Tile y)) p (a.Tile y) there in
      let own : IsWithin g mid.state p = λ l is. subst (NamesNone g p) (same_Some (Tile y.state) l (sym now ∙ is)) none in (
        subst (λ ps. AreParts g ends ps later) same (parts_then g ends (set processors p (a.Tile y)) between later before.0 p (a.Tile y) (a.Tile z) there Fired turn),
        subst (λ ps. HasRunWithin old (running_of g ps later) p register (n + 1)) same
            (further old mid new p register n before.1 one own (ap (register_in register) now ∙ held ∙ ap (register_in register) (sym first))),
      )
