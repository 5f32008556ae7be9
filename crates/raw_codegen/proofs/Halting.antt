-- Behind all parts each tile and each switch halts.
use Rattle.std.proofs.Common.{◌≡◌, ℕ, zero, suc, ◌+◌, ◌<◌, ◌≤◌, ◌⊎◌, List, [], ◌∷◌, ◌++◌, length, Some, refl, sym, ap, ◌∙◌, subst, inl, inr, arith, length-append}
use Rattle.std.specs.Prelude.{slice_get}
use Rattle.std.proofs.lemmas.Bool.{cases_eq, lt-leb}
use Rattle.raw_switch_isa.specs.declared.limits.TheConstants.{MAX_SWITCH_CODE}
use Rattle.raw_tile_isa.specs.declared.limits.TheConstants.{MAX_TILE_CODE}
use Rattle.raw_tile_isa.specs.Made as tile
use Rattle.raw_switch_isa.specs.Made as switch
use Rattle.raw_switch_isa.specs.Ends.{ends}
use Rattle.raw_grid.specs.Topology.{Topology, tile_count, switch_number}
use Rattle.raw_grid.specs.Wires.{output_wire}
use Rattle.raw_model.specs.declared.marks.Mark.TheVariants.{Halted}
use Rattle.raw_model.specs.Program.{ProgramSet}
use Rattle.raw_model.specs.Local.{Tile, Switch, TileLocal, SwitchLocal}
use Rattle.raw_model.specs.TileTable.{TileEffect}
use Rattle.raw_model.specs.SwitchTable.{effect_of}
use Rattle.raw_model.specs.Machine.{tile_code, switch_code, tile_takes, tile_sends, switch_takes, switch_sends, given_to, switch_network_row, sent_to}
use Rattle.raw_model.specs.Start.{MachineState}
use Rattle.raw_model.proofs.Counts.{sent_none}
use Rattle.raw_codegen.specs.Parts.{Part, tile_part, switch_part}
use Rattle.raw_codegen.specs.Standing.{IsScript, PartsStand, SamePorts}
use Rattle.raw_codegen.specs.Steps.{Leads, IsNext, Changed, SameWires}
use Rattle.raw_codegen.specs.Straight.{at_tile, at_switch, core_with}
use Rattle.raw_codegen.proofs.Moves.{stay, then, more, plain_step}
use Rattle.raw_codegen.proofs.Scripts.{codes, few, switch_codes, few_switch}
use Rattle.raw_codegen.proofs.Straight.{effect_is, at_place, same_twice}

halt_takes : (topo : Topology) (p : ℕ) → switch_takes topo p (Some switch.halt) ≡ []
unfolding ends
halt_takes topo p = refl

halt_sends : (topo : Topology) (p : ℕ) → switch_sends topo p (Some switch.halt) ≡ []
unfolding ends
halt_sends topo p = refl

halt_sent : (topo : Topology) (p size : ℕ) (l : SwitchLocal) → (switch_network_row topo p (effect_of (Some switch.halt) size l (given_to topo p (Some switch.halt) []))).sent ≡ []
unfolding ends
halt_sent topo p size l =
    rw (
      sent_none (output_wire topo p 0),
      sent_none (output_wire topo p 1),
      sent_none (output_wire topo p 2),
      sent_none (output_wire topo p 3),
      sent_none (output_wire topo p 4),
      sent_none (output_wire topo p 5),
      sent_none (output_wire topo p 6),
      sent_none (output_wire topo p 7),
      sent_none (output_wire topo p 8),
      sent_none (output_wire topo p 9),
    ) refl

-- from the state `first` on, the first a tiles and the first b switches have halted, and the others stand before their 'halt'
pub record Halting (set : ProgramSet) (all : List Part) (memories : ℕ → List ℕ) (first : MachineState) (a b : ℕ) (s : MachineState) : Type 0 where
  pub tiles_done : (t : ℕ) → t < a → t < tile_count set.topo → (l : TileLocal) × (slice_get s.locals t ≡ Some (Tile l)) × (l.mark ≡ Halted) × (l.memory ≡ memories t)
  pub tiles_left : (t : ℕ) → a ≤ t → t < tile_count set.topo → (regs : List ℕ) × (slice_get s.locals t ≡ Some (Tile (at_tile (length (tile_part t all)) (core_with regs (memories t)))))
  pub switches_done : (t : ℕ) → t < b → t < tile_count set.topo → (l : SwitchLocal) × (slice_get s.locals (switch_number set.topo t) ≡ Some (Switch l)) × (l.mark ≡ Halted)
  pub switches_left : (t : ℕ) → b ≤ t → t < tile_count set.topo → (regs : List ℕ) × (slice_get s.locals (switch_number set.topo t) ≡ Some (Switch (at_switch (length (switch_part t all)) regs)))
  pub ports : SamePorts set first s
  pub wires : SameWires first.wires s.wires

pub first_halting : (set : ProgramSet) (all : List Part) (memories : ℕ → List ℕ) (s : MachineState) → PartsStand set all memories s → Halting set all memories s 0 0 s
first_halting set all memories s old = record {
  tiles_done = λ t h k. absurd (omega arith);
  tiles_left = λ t h k. old.tiles t k;
  switches_done = λ t h k. absurd (omega arith);
  switches_left = λ t h k. old.switches t k;
  ports = record { at = λ p h. refl };
  wires = record { on = λ w. refl };
}

module _ (set : ProgramSet) (all : List Part) (script : IsScript set all) (memories : ℕ → List ℕ) (first : MachineState) where
  -- one tile halts
  halt_tile : (a b : ℕ) (s : MachineState) → a < tile_count set.topo → Halting set all memories first a b s → Leads set s (Halting set all memories first (a + 1) b)
  halt_tile a b s within old =
      let here = old.tiles_left a (omega arith) within in
      let k : ℕ = length (tile_part a all) in
      let l : TileLocal = at_tile k (core_with here.0 (memories a)) in
      let next : slice_get (tile_code set a) k ≡ Some tile.halt = ap (λ xs. slice_get xs k) (codes set all script a within) ∙ at_place (tile_part a all) tile.halt [] in
      let size : length (tile_code set a) ≡ k + 1 = ap length (codes set all script a within) ∙ length-append (tile_part a all) (tile.halt ∷ []) in
      let short : length (tile_code set a) ≤ MAX_TILE_CODE = few set all script a within in
      let limit : MAX_TILE_CODE < set.limit = script.limit in
      let e = effect_is (tile_code set a) l [] tile.halt next in
      let next_is : IsNext set s a (Tile l) (Tile halted) [] [] [] [] = record {
        here = here.1;
        going = lt-leb set.limit k (omega arith);
        takes_from = ap (tile_takes set.topo a) next;
        sends_to = ap (tile_sends set.topo a) next;
        leaves = ap (λ (f : TileEffect). Tile f.next) e;
        sent =
            ap (λ (f : TileEffect). sent_to (output_wire set.topo a 4) f.sent1 ++ sent_to (output_wire set.topo a 9) f.sent2) e
            ∙ rw (sent_none (output_wire set.topo a 4), sent_none (output_wire set.topo a 9)) refl;
      } in
      more set s (λ r. Changed s r a (Tile halted) × SameWires s.wires r.wires) (Halting set all memories first (a + 1) b)
      (plain_step set s a (Tile l) (Tile halted) next_is)
      (λ r h. record {
        tiles_done = λ t x y. done r h.0 t x y (cases_eq t a);
        tiles_left = λ t x y. ((old.tiles_left t (omega arith) y).0, h.0.others t (λ e. omega arith) ∙ (old.tiles_left t (omega arith) y).1);
        switches_done = λ t x y. let d = old.switches_done t x y in (d.0, h.0.others (switch_number set.topo t) (λ e. omega arith) ∙ d.1, d.2);
        switches_left = λ t x y. let d = old.switches_left t x y in (d.0, h.0.others (switch_number set.topo t) (λ e. omega arith) ∙ d.1);
        ports = record { at = λ p x. h.0.others p (λ e. omega arith) ∙ old.ports.at p x };
        wires = same_twice first.wires s.wires r.wires old.wires h.1;
      })
    where
      halted : TileLocal
      halted = record (at_tile (length (tile_part a all)) (core_with (old.tiles_left a (omega arith) within).0 (memories a))) { count = length (tile_part a all) + 1; mark = Halted }

      done : (r : MachineState) → Changed s r a (Tile halted) → (t : ℕ) → t < a + 1 → t < tile_count set.topo → (t ≡ a) ⊎ (t ≡ a → ⊥)
          → (l : TileLocal) × (slice_get r.locals t ≡ Some (Tile l)) × (l.mark ≡ Halted) × (l.memory ≡ memories t)
      done r c t x y (inl e) = (halted, ap (slice_get r.locals) e ∙ c.here, refl, ap memories (sym e))
      done r c t x y (inr ne) = let d = old.tiles_done t (omega arith) y in (d.0, c.others t ne ∙ d.1, d.2, d.3)

  -- one switch halts
  halt_switch : (a b : ℕ) (s : MachineState) → b < tile_count set.topo → Halting set all memories first a b s → Leads set s (Halting set all memories first a (b + 1))
  halt_switch a b s within old =
      let here = old.switches_left b (omega arith) within in
      let p : ℕ = switch_number set.topo b in
      let k : ℕ = length (switch_part b all) in
      let l : SwitchLocal = at_switch k here.0 in
      let next : slice_get (switch_code set p) k ≡ Some switch.halt = ap (λ xs. slice_get xs k) (switch_codes set all script b within) ∙ at_place (switch_part b all) switch.halt [] in
      let size : length (switch_code set p) ≡ k + 1 = ap length (switch_codes set all script b within) ∙ length-append (switch_part b all) (switch.halt ∷ []) in
      let short : length (switch_code set p) ≤ MAX_SWITCH_CODE = few_switch set all script b within in
      let limit : MAX_TILE_CODE < set.limit = script.limit in
      let next_is : IsNext set s p (Switch l) (Switch halted) [] [] [] [] = record {
        here = here.1;
        going = lt-leb set.limit k (omega arith);
        takes_from = ap (switch_takes set.topo p) next ∙ halt_takes set.topo p;
        sends_to = ap (switch_sends set.topo p) next ∙ halt_sends set.topo p;
        leaves = ap (λ o. Switch (effect_of o (length (switch_code set p)) l (given_to set.topo p o [])).next) next;
        sent =
            ap (λ o. (switch_network_row set.topo p (effect_of o (length (switch_code set p)) l (given_to set.topo p o []))).sent) next
            ∙ halt_sent set.topo p (length (switch_code set p)) l;
      } in
      more set s (λ r. Changed s r p (Switch halted) × SameWires s.wires r.wires) (Halting set all memories first a (b + 1))
      (plain_step set s p (Switch l) (Switch halted) next_is)
      (λ r h. record {
        tiles_done = λ t x y. let d = old.tiles_done t x y in (d.0, h.0.others t (λ e. omega arith) ∙ d.1, d.2, d.3);
        tiles_left = λ t x y. let d = old.tiles_left t x y in (d.0, h.0.others t (λ e. omega arith) ∙ d.1);
        switches_done = λ t x y. done r h.0 t x y (cases_eq t b);
        switches_left = λ t x y. ((old.switches_left t (omega arith) y).0, h.0.others (switch_number set.topo t) (λ e. omega arith) ∙ (old.switches_left t (omega arith) y).1);
        ports = record { at = λ p x. h.0.others p (λ e. omega arith) ∙ old.ports.at p x };
        wires = same_twice first.wires s.wires r.wires old.wires h.1;
      })
    where
      halted : SwitchLocal
      halted = record (at_switch (length (switch_part b all)) (old.switches_left b (omega arith) within).0) { count = length (switch_part b all) + 1; mark = Halted }

      done : (r : MachineState) → Changed s r (switch_number set.topo b) (Switch halted) → (t : ℕ) → t < b + 1 → t < tile_count set.topo → (t ≡ b) ⊎ (t ≡ b → ⊥)
          → (l : SwitchLocal) × (slice_get r.locals (switch_number set.topo t) ≡ Some (Switch l)) × (l.mark ≡ Halted)
      done r c t x y (inl e) = (halted, ap (λ u. slice_get r.locals (switch_number set.topo u)) e ∙ c.here, refl)
      done r c t x y (inr ne) = let d = old.switches_done t (omega arith) y in (d.0, c.others (switch_number set.topo t) (λ e. ne (omega arith)) ∙ d.1, d.2)

  halt_tiles : (m a b : ℕ) (s : MachineState) → a + m ≡ tile_count set.topo → Halting set all memories first a b s → Leads set s (Halting set all memories first (tile_count set.topo) b)
  halt_tiles zero a b s e old =
      let same : a ≡ tile_count set.topo = omega arith in
      stay set s (Halting set all memories first (tile_count set.topo) b) (subst (λ c. Halting set all memories first c b s) same old)
  halt_tiles (suc m) a b s e old =
      then set s (Halting set all memories first (a + 1) b) (Halting set all memories first (tile_count set.topo) b)
      (halt_tile a b s (omega arith) old) (λ r h. halt_tiles m (a + 1) b r (omega arith) h)

  halt_switches : (m a b : ℕ) (s : MachineState) → b + m ≡ tile_count set.topo → Halting set all memories first a b s → Leads set s (Halting set all memories first a (tile_count set.topo))
  halt_switches zero a b s e old =
      let same : b ≡ tile_count set.topo = omega arith in
      stay set s (Halting set all memories first a (tile_count set.topo)) (subst (λ c. Halting set all memories first a c s) same old)
  halt_switches (suc m) a b s e old =
      then set s (Halting set all memories first a (b + 1)) (Halting set all memories first a (tile_count set.topo))
      (halt_switch a b s (omega arith) old) (λ r h. halt_switches m a (b + 1) r (omega arith) h)

  pub halt_all : PartsStand set all memories first → Leads set first (Halting set all memories first (tile_count set.topo) (tile_count set.topo))
  halt_all old =
      let n : ℕ = tile_count set.topo in
      then set first (Halting set all memories first n 0) (Halting set all memories first n n)
      (halt_tiles n 0 0 first (omega arith) (first_halting set all memories first old)) (λ r h. halt_switches n n 0 r (omega arith) h)
