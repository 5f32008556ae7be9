-- A script goes on by the parts of one tile, or by that of one switch.
use Rattle.std.proofs.Common.{◌≡◌, ℕ, suc, ◌+◌, ◌%◌, ◌^◌, ◌<◌, ◌≤◌, cond, List, [], ◌∷◌, ◌++◌, length, Some, refl, sym, ap, ◌∙◌, subst, ⊎_elim, arith, append_assoc, length-append}
use Rattle.std.specs.Prelude.{slice_get}
use Rattle.std.proofs.lemmas.Bool.{cases_eq, lt-leb, lt-ltb}
use Rattle.std.proofs.lemmas.List.{append-nil}
use Rattle.std.proofs.Math.Nat.{mod-eq_of_lt}
use Rattle.raw_switch_isa.specs.declared.limits.TheConstants.{MAX_SWITCH_CODE}
use Rattle.raw_tile_isa.specs.declared.limits.TheConstants.{MAX_TILE_CODE}
use Rattle.raw_network.specs.Network.{values_on}
use Rattle.raw_tile_isa.specs.Instruction.{Instruction}
use Rattle.raw_tile_isa.specs.Made as tile
use Rattle.raw_switch_isa.specs.Instruction.{SwitchInstruction}
use Rattle.raw_switch_isa.specs.Made as switch
use Rattle.raw_grid.specs.declared.parts.Net.{Net}
use Rattle.raw_grid.specs.Ends.{tile_end}
use Rattle.raw_grid.specs.Topology.{tile_count, switch_number}
use Rattle.raw_model.specs.declared.marks.Mark.{Mark}
use Rattle.raw_model.specs.declared.marks.Mark.TheVariants.{Going, Trapped}
use Rattle.raw_model.specs.declared.marks.Cause.TheVariants.{Pc}
use Rattle.raw_model.specs.Program.{ProgramSet}
use Rattle.raw_model.specs.Local.{Tile, Switch, SwitchLocal}
use Rattle.raw_model.specs.TileTable.{mark_at}
use Rattle.raw_model.specs.SwitchTable.{effect_of}
use Rattle.raw_model.specs.Machine.{tile_code, switch_code, switch_takes, switch_sends, given_to, switch_network_row}
use Rattle.raw_model.specs.Start.{MachineState, Fits, FitsTile, memory_size}
use Rattle.raw_codegen.specs.Parts.{Part, ToTile, ToSwitch, tile_part, switch_part, to_tile}
use Rattle.raw_codegen.specs.Standing.{to_tile_wire, from_tile_wire, IsScript, PartsStand, HasGone, SameBut}
use Rattle.raw_codegen.specs.Steps.{Leads, IsNext, one_value, Changed, SameWires, HasCome, IsGone, HasPassed}
use Rattle.raw_codegen.specs.Straight.{Core, IsCore, at_tile, at_switch, core_with, Turns, SendsWord, TakesWord, PassesOn}
use Rattle.raw_codegen.proofs.Given.{Laws, to_joins, from_joins}
use Rattle.raw_codegen.proofs.Moves.{then, more, with_fits, pass_step}
use Rattle.raw_codegen.proofs.Parts.{tile_part-append, switch_part-append, block_here, block_there, block_switch, switch_here, switch_there}
use Rattle.raw_codegen.proofs.Scripts.{few, few_switch, fetch, fetch_switch, some_behind}
use Rattle.raw_codegen.proofs.Straight.{run_block, send_step_of, take_step_of, at_place, changed_twice, come_same}

-- a tile's core is within its ranges
pub core_is : (set : ProgramSet) (s : MachineState) (t k : ℕ) (c : Core) → Fits set s → slice_get s.locals t ≡ Some (Tile (at_tile k c)) → IsCore c
unfolding memory_size
core_is set s t k c fits here =
    let f : FitsTile set.limit _ (at_tile k c) = (fits.locals t (Tile (at_tile k c)) here).1 in
    record { registers = f.registers; register_0 = f.register_0; memory = f.memory }

module _ (set : ProgramSet) (parts : List Part) (memories : ℕ → List ℕ) (s r : MachineState) (old : PartsStand set parts memories s) (fits : Fits set r) where
  -- a tile has executed a block
  pub gone_tile : (after : ℕ → List ℕ) (t : ℕ) (block : List Instruction) (regs : List ℕ) → t < tile_count set.topo
      → Changed s r t (Tile (at_tile (length (tile_part t parts) + length block) (core_with regs (after t)))) → SameBut t memories after
      → HasGone set (parts ++ to_tile t block) after s r
  gone_tile after t block regs within changed same = record {
    stands = record {
      tiles = λ u h. ⊎_elim
          (λ (e : u ≡ t). subst (λ u. (regs : List ℕ) × (slice_get r.locals u ≡ Some (Tile (at_tile (length (tile_part u (parts ++ to_tile t block))) (core_with regs (after u)))))) (sym e) here)
          (λ (ne : u ≡ t → ⊥). there u h ne) (cases_eq u t);
      switches = λ u h. (
        (old.switches u h).0,
        changed.others (switch_number set.topo u) (λ e. omega arith) ∙ (old.switches u h).1
            ∙ ap (λ k. Some (Switch (at_switch k (old.switches u h).0))) (ap length (sym (switch_part-append u parts (to_tile t block) ∙ rw (block_switch t u block) (append-nil (switch_part u parts))))),
      );
      fits = fits;
    };
    ports = record { at = λ p h. changed.others p (λ e. omega arith) };
  }
    where
      longer : length (tile_part t (parts ++ to_tile t block)) ≡ length (tile_part t parts) + length block
      longer =
          ap length (tile_part-append t parts (to_tile t block))
          ∙ length-append (tile_part t parts) (tile_part t (to_tile t block))
          ∙ ap (λ xs. length (tile_part t parts) + length xs) (block_here t block)

      here : (regs : List ℕ) × (slice_get r.locals t ≡ Some (Tile (at_tile (length (tile_part t (parts ++ to_tile t block))) (core_with regs (after t)))))
      here = (regs, changed.here ∙ ap (λ k. Some (Tile (at_tile k (core_with regs (after t))))) (sym longer))

      there : (u : ℕ) → u < tile_count set.topo → (u ≡ t → ⊥)
          → (regs : List ℕ) × (slice_get r.locals u ≡ Some (Tile (at_tile (length (tile_part u (parts ++ to_tile t block))) (core_with regs (after u)))))
      there u h ne = (
        (old.tiles u h).0,
        changed.others u ne ∙ (old.tiles u h).1
            ∙ ap (λ k. Some (Tile (at_tile k (core_with (old.tiles u h).0 (memories u)))))
            (ap length (sym (tile_part-append u parts (to_tile t block) ∙ rw (block_there t u block ne) (append-nil (tile_part u parts)))))
            ∙ ap (λ m. Some (Tile (at_tile (length (tile_part u (parts ++ to_tile t block))) (core_with (old.tiles u h).0 m)))) (sym (same.at u ne)),
      )

  -- a switch has executed an instruction
  pub gone_switch : (t : ℕ) (ins : SwitchInstruction) (regs : List ℕ) → t < tile_count set.topo
      → Changed s r (switch_number set.topo t) (Switch (at_switch (length (switch_part t parts) + 1) regs))
      → HasGone set (parts ++ ToSwitch t ins ∷ []) memories s r
  gone_switch t ins regs within changed = record {
    stands = record {
      tiles = λ u h. (
        (old.tiles u h).0,
        changed.others u (λ e. omega arith) ∙ (old.tiles u h).1
            ∙ ap (λ k. Some (Tile (at_tile k (core_with (old.tiles u h).0 (memories u))))) (ap length (sym (tile_part-append u parts (ToSwitch t ins ∷ []) ∙ append-nil (tile_part u parts)))),
      );
      switches = λ u h. ⊎_elim
          (λ (e : u ≡ t). subst (λ u. (regs : List ℕ) × (slice_get r.locals (switch_number set.topo u) ≡ Some (Switch (at_switch (length (switch_part u (parts ++ ToSwitch t ins ∷ []))) regs)))) (sym e) here)
          (λ (ne : u ≡ t → ⊥). there u h ne) (cases_eq u t);
      fits = fits;
    };
    ports = record { at = λ p h. changed.others p (λ e. omega arith) };
  }
    where
      longer : length (switch_part t (parts ++ ToSwitch t ins ∷ [])) ≡ length (switch_part t parts) + 1
      longer =
          ap length (switch_part-append t parts (ToSwitch t ins ∷ []))
          ∙ length-append (switch_part t parts) (switch_part t (ToSwitch t ins ∷ []))
          ∙ ap (λ xs. length (switch_part t parts) + length xs) (switch_here t ins)

      here : (regs : List ℕ) × (slice_get r.locals (switch_number set.topo t) ≡ Some (Switch (at_switch (length (switch_part t (parts ++ ToSwitch t ins ∷ []))) regs)))
      here = (regs, changed.here ∙ ap (λ k. Some (Switch (at_switch k regs))) (sym longer))

      there : (u : ℕ) → u < tile_count set.topo → (u ≡ t → ⊥)
          → (regs : List ℕ) × (slice_get r.locals (switch_number set.topo u) ≡ Some (Switch (at_switch (length (switch_part u (parts ++ ToSwitch t ins ∷ []))) regs)))
      there u h ne = (
        (old.switches u h).0,
        changed.others (switch_number set.topo u) (λ e. ne (omega arith)) ∙ (old.switches u h).1
            ∙ ap (λ k. Some (Switch (at_switch k (old.switches u h).0)))
            (ap length (sym (switch_part-append u parts (ToSwitch t ins ∷ []) ∙ rw (switch_there t u ins ne) (append-nil (switch_part u parts))))),
      )

same_memory : (t : ℕ) (memories : ℕ → List ℕ) → SameBut t memories memories
same_memory t memories = record { at = λ u ne. refl }

module _ (laws : Laws) (set : ProgramSet) (all parts rest : List Part) (t : ℕ) (memories after : ℕ → List ℕ) (s : MachineState)
    (script : IsScript set all) (within : t < tile_count set.topo) (old : PartsStand set parts memories s) where
  abbrev regs : List ℕ
  regs = (old.tiles t within).0

  abbrev core : Core
  core = core_with regs (memories t)

  core_fits : IsCore core
  core_fits = core_is set s t (length (tile_part t parts)) core old.fits (old.tiles t within).1

  -- the program of the tile around the block
  around : (block : List Instruction) → all ≡ parts ++ (to_tile t block ++ rest) → tile_code set t ≡ tile_part t parts ++ (block ++ (tile_part t rest ++ tile.halt ∷ []))
  around block e =
      fetch set all script t parts (to_tile t block) rest within e
      ∙ ap (λ xs. tile_part t parts ++ (xs ++ (tile_part t rest ++ tile.halt ∷ []))) (block_here t block)

  -- the limits that hold by the script
  few_here : length (tile_code set t) ≤ MAX_TILE_CODE
  few_here = few set all script t within

  pub block_chunk : (block : List Instruction) → all ≡ parts ++ (to_tile t block ++ rest) → Turns block (memories t) (after t) → SameBut t memories after
      → Leads set s (λ r. HasGone set (parts ++ to_tile t block) after s r × SameWires s.wires r.wires)
  block_chunk block e turns same =
      let run = turns.runs regs core_fits in
      let P : MachineState → Type 0 = λ r. Changed s r t (Tile (at_tile (length (tile_part t parts) + length block) (core_with run.0 (after t)))) × SameWires s.wires r.wires in
      more set s (λ r. P r × Fits set r) (λ r. HasGone set (parts ++ to_tile t block) after s r × SameWires s.wires r.wires)
      (with_fits set laws s P script.valid old.fits
      (run_block set t few_here script.limit block (tile_part t parts) (tile_part t rest ++ tile.halt ∷ []) core (core_with run.0 (after t)) (around block e) (some_behind (tile_part t rest) tile.halt) run.1 s (old.tiles t within).1))
      (λ r h. (gone_tile set parts memories s r old h.1 after t block run.0 within h.0.0 same, h.0.1))

  pub send_chunk : (front : List Instruction) (ins : Instruction) (net : Net) (x : ℕ) → all ≡ parts ++ (to_tile t (front ++ ins ∷ []) ++ rest) → SendsWord front ins net x (memories t)
      → length (values_on s.wires (from_tile_wire net t)) < set.depth
      → Leads set s (λ r. HasGone set (parts ++ to_tile t (front ++ ins ∷ [])) memories s r × HasCome (from_tile_wire net t) x s.wires r.wires)
  send_chunk front ins net x e sends room =
      let run = sends.runs regs core_fits in
      let w : ℕ = from_tile_wire net t in
      let b : Core = core_with run.0 (memories t) in
      let joins = from_joins laws set.topo t script.valid.topology within net in
      let last : List Instruction = tile_part t rest ++ tile.halt ∷ [] in
      let code : tile_code set t ≡ tile_part t parts ++ (front ++ (ins ∷ last)) =
      around (front ++ ins ∷ []) e ∙ ap (λ xs. tile_part t parts ++ xs) (append_assoc front (ins ∷ []) last) in
      let k : ℕ = length (tile_part t parts) + length front in
      let behind : length (tile_part t parts ++ front) ≡ k = length-append (tile_part t parts) front in
      let next : slice_get (tile_code set t) k ≡ Some ins =
      ap (λ xs. slice_get xs k) (code ∙ sym (append_assoc (tile_part t parts) front (ins ∷ last)))
      ∙ subst (λ n. slice_get ((tile_part t parts ++ front) ++ ins ∷ last) n ≡ Some ins) behind (at_place (tile_part t parts ++ front) ins last) in
      let size : length (tile_code set t) ≡ k + suc (length last) =
      ap length (code ∙ sym (append_assoc (tile_part t parts) front (ins ∷ last))) ∙ length-append (tile_part t parts ++ front) (ins ∷ last) ∙ ap (λ n. n + suc (length last)) behind in
      let inside : k + 1 < length (tile_code set t) = omega (arith, some_behind (tile_part t rest) tile.halt) in
      let long : length (front ++ ins ∷ []) ≡ length front + 1 = length-append front (ins ∷ []) in
      let total : k + 1 ≡ length (tile_part t parts) + length (front ++ ins ∷ []) = omega arith in
      let here : w < length s.wires = subst (λ n. w < n) (sym old.fits.wires) (laws.output_exists set.topo t (tile_end net) w joins.0) in
      let P : MachineState → Type 0 = λ r. Changed s r t (Tile (at_tile k b)) × SameWires s.wires r.wires in
      let Q : MachineState → Type 0 = λ r. Changed s r t (Tile (at_tile (k + 1) b)) × HasCome w x s.wires r.wires in
      more set s (λ r. Q r × Fits set r) (λ r. HasGone set (parts ++ to_tile t (front ++ ins ∷ [])) memories s r × HasCome w x s.wires r.wires)
      (with_fits set laws s Q script.valid old.fits
      (then set s (λ r. P r × Fits set r) Q
      (with_fits set laws s P script.valid old.fits
      (run_block set t few_here script.limit front (tile_part t parts) (ins ∷ last) core b code (omega arith) run.1 s (old.tiles t within).1))
      (λ r h.
      more set r (λ q. Changed r q t (Tile (at_tile (k + 1) b)) × HasCome w x r.wires q.wires) Q
      (send_step_of set t few_here script.limit r k b h.0.0.here ins next inside b net w x joins.0 sends.sender run.2
      (subst (λ vs. length vs < set.depth) (sym (h.0.1.on w)) room) (subst (λ n. w < n) (old.fits.wires ∙ sym h.1.wires) here))
      (λ q g. (changed_twice s r q t (Tile (at_tile k b)) (Tile (at_tile (k + 1) b)) h.0.0 g.0, come_same w x s.wires r.wires q.wires h.0.1 g.1)))))
      (λ r h. (
        gone_tile set parts memories s r old h.1 memories t (front ++ ins ∷ []) run.0 within (subst (λ n. Changed s r t (Tile (at_tile n b))) total h.0.0) (same_memory t memories),
        h.0.1,
      ))

  pub take_chunk : (ins : Instruction) (net : Net) (x : ℕ) (xs : List ℕ) → all ≡ parts ++ (ToTile t ins ∷ rest) → TakesWord ins net x (memories t) (after t) → SameBut t memories after
      → values_on s.wires (to_tile_wire net t) ≡ x ∷ xs
      → Leads set s (λ r. HasGone set (parts ++ ToTile t ins ∷ []) after s r × IsGone (to_tile_wire net t) x s.wires r.wires)
  take_chunk ins net x xs e takes same front =
      let did = takes.does regs core_fits in
      let w : ℕ = to_tile_wire net t in
      let b : Core = core_with did.0 (after t) in
      let joins = to_joins laws set.topo t script.valid.topology within net in
      let k : ℕ = length (tile_part t parts) in
      let last : List Instruction = tile_part t rest ++ tile.halt ∷ [] in
      let code : tile_code set t ≡ tile_part t parts ++ (ins ∷ last) = around (ins ∷ []) e in
      let next : slice_get (tile_code set t) k ≡ Some ins = ap (λ xs. slice_get xs k) code ∙ at_place (tile_part t parts) ins last in
      let size : length (tile_code set t) ≡ k + suc (length last) = ap length code ∙ length-append (tile_part t parts) (ins ∷ last) in
      let inside : k + 1 < length (tile_code set t) = omega (arith, some_behind (tile_part t rest) tile.halt) in
      let P : MachineState → Type 0 = λ r. Changed s r t (Tile (at_tile (k + 1) b)) × IsGone w x s.wires r.wires in
      more set s (λ r. P r × Fits set r) (λ r. HasGone set (parts ++ ToTile t ins ∷ []) after s r × IsGone w x s.wires r.wires)
      (with_fits set laws s P script.valid old.fits
      (take_step_of set t few_here script.limit s k core (old.tiles t within).1 ins next inside b net w x xs joins.1 takes.taker did.1 front))
      (λ r h. (gone_tile set parts memories s r old h.1 after t (ins ∷ []) did.0 within h.0.0 same, h.0.1))

  abbrev at_mark : ℕ → ℕ → Mark → List ℕ → SwitchLocal
  at_mark pc count mark regs = record { regs = regs; pc = pc; count = count; mark = mark }

  goes_on : (size k : ℕ) (regs : List ℕ) → k + 1 < size → size ≤ MAX_TILE_CODE
      → at_mark ((k + 1) % 2 ^ 32) (k + 1) (mark_at size ((k + 1) % 2 ^ 32)) regs ≡ at_mark (k + 1) (k + 1) Going regs
  goes_on size k regs h few =
      let small : k + 1 < 2 ^ 32 = omega arith in
      ap (λ pc. at_mark pc (k + 1) (mark_at size pc) regs) (mod-eq_of_lt small)
      ∙ ap (λ b. at_mark (k + 1) (k + 1) (cond b Going (Trapped Pc)) regs) (lt-ltb (k + 1) size h)

  pub pass_chunk : (ins : SwitchInstruction) (w v x : ℕ) (xs : List ℕ) → all ≡ parts ++ (ToSwitch t ins ∷ rest) → PassesOn set.topo (switch_number set.topo t) ins w v
      → values_on s.wires w ≡ x ∷ xs → length (values_on s.wires v) < set.depth → v < length s.wires → (v ≡ w → ⊥)
      → Leads set s (λ r. HasGone set (parts ++ ToSwitch t ins ∷ []) memories s r × HasPassed w x v x s.wires r.wires)
  pass_chunk ins w v x xs e passes front room there apart =
      let p : ℕ = switch_number set.topo t in
      let k : ℕ = length (switch_part t parts) in
      let left : List ℕ = (old.switches t within).0 in
      let last : List SwitchInstruction = switch_part t rest ++ switch.halt ∷ [] in
      let code : switch_code set p ≡ switch_part t parts ++ (ins ∷ last) =
      fetch_switch set all script t parts (ToSwitch t ins ∷ []) rest within e ∙ ap (λ xs. switch_part t parts ++ (xs ++ last)) (switch_here t ins) in
      let next : slice_get (switch_code set p) k ≡ Some ins = ap (λ xs. slice_get xs k) code ∙ at_place (switch_part t parts) ins last in
      let size : length (switch_code set p) ≡ k + suc (length last) = ap length code ∙ length-append (switch_part t parts) (ins ∷ last) in
      let inside : k + 1 < length (switch_code set p) = omega (arith, some_behind (switch_part t rest) switch.halt) in
      let short : length (switch_code set p) ≤ MAX_SWITCH_CODE = few_switch set all script t within in
      let limit : MAX_TILE_CODE < set.limit = script.limit in
      let next_is : IsNext set s p (Switch (at_switch k left)) (Switch (at_switch (k + 1) left)) (w ∷ []) (v ∷ []) (x ∷ []) (one_value v x) = record {
        here = (old.switches t within).1;
        going = lt-leb set.limit k (omega arith);
        takes_from = ap (switch_takes set.topo p) next ∙ passes.takes;
        sends_to = ap (switch_sends set.topo p) next ∙ passes.sends;
        leaves =
            ap (λ o. Switch (effect_of o (length (switch_code set p)) (at_switch k left) (given_to set.topo p o (x ∷ []))).next) next
            ∙ ap (λ l. Switch l) (passes.next (length (switch_code set p)) (at_switch k left) x ∙ goes_on (length (switch_code set p)) k left inside (omega arith));
        sent =
            ap (λ o. (switch_network_row set.topo p (effect_of o (length (switch_code set p)) (at_switch k left) (given_to set.topo p o (x ∷ [])))).sent) next
            ∙ passes.sent (length (switch_code set p)) (at_switch k left) x;
      } in
      let P : MachineState → Type 0 = λ r. Changed s r p (Switch (at_switch (k + 1) left)) × HasPassed w x v x s.wires r.wires in
      more set s (λ r. P r × Fits set r) (λ r. HasGone set (parts ++ ToSwitch t ins ∷ []) memories s r × HasPassed w x v x s.wires r.wires)
      (with_fits set laws s P script.valid old.fits (pass_step set s p (Switch (at_switch k left)) (Switch (at_switch (k + 1) left)) w x xs v x next_is front room there apart))
      (λ r h. (gone_switch set parts memories s r old h.1 t ins left within h.0.0, h.0.1))
