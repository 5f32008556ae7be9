-- What is told of a step, put together.
use Rattle.std.proofs.Common.{◌≡◌, ℕ, Bool, cond, List, [], ◌++◌, length, map, Option, Some, None, sym, ap, ◌∙◌}
use Rattle.std.specs.Prelude.{◌<◌, ◌^◌, IfSome, slice_get}
use Rattle.std.proofs.lemmas.List.{append_assoc}
use Rattle.raw_network.specs.Network.{Sent, fronts, step, event_of, event_from}
use Rattle.raw_network.proofs.Kth.{after_is}
use Rattle.raw_tile_isa.specs.Instruction.{Instruction}
use Rattle.raw_model.specs.Program.{ProgramSet}
use Rattle.raw_model.specs.Local.{Local, TileLocal, Tile}
use Rattle.raw_model.specs.Machine.{machine_of, takes, tile_code, first_operand, second_operand}
use Rattle.raw_model.specs.TileTable.{next_instruction, effect_of}
use Rattle.raw_model.specs.Start.{MachineState}
use Rattle.raw_model.specs.Parts.{memory_of}
use Rattle.raw_tile.proofs.Touched.{touched_inside}
use Rattle.raw_trace.specs.declared.entry.Entry.{Entry}
use Rattle.raw_trace.specs.declared.entry.Entry.TheVariants as entry
use Rattle.raw_trace.specs.Parts.{regs_of, is_faulted}
use Rattle.raw_trace.specs.Firing.{sent_entry, register_entries, access_entries, miss_entries, written_register, stores_next, entries_from, step_entries}

-- what the row of an instruction touches lies in the memory
next_inside : (o : Option Instruction) (size : ℕ) (l : TileLocal) (a b : ℕ) → IfSome (effect_of o size l a b).touched (λ address. address < 2 ^ 16)
next_inside None size l a b = tt
next_inside (Some ins) size l a b = touched_inside ins.op size l ins a b

-- what a step touches lies in the memory
pub touched_there : (g : ProgramSet) (wires : List (List ℕ)) (p : ℕ) (o : Option Local)
    → IfSome (event_from (machine_of g) wires p o).touched (λ address. address < 2 ^ 16)
unfolding machine_of
touched_there g wires p (Some (Tile l)) =
    let ins = next_instruction (tile_code g p) l in
    let values = fronts (takes g p (Tile l)) wires in
    next_inside ins (length (tile_code g p)) l (first_operand ins l.regs values) (second_operand ins l.regs values)
touched_there g wires p _ = tt

joined : (a b c d e : List Entry) → ((((([] ++ a) ++ b) ++ c) ++ d) ++ e) ≡ a ++ (b ++ (c ++ (d ++ e)))
joined a b c d e = append_assoc ((a ++ b) ++ c) d e ∙ append_assoc (a ++ b) c (d ++ e) ∙ append_assoc a b (c ++ (d ++ e))

module _ (g : ProgramSet) (s : MachineState) (p : ℕ) (l : Local) (here : slice_get s.locals p ≡ Some l) (next : Local) (now : MachineState)
    (is : now ≡ step (machine_of g) s p) (there : slice_get now.locals p ≡ Some next) where
  -- the local state behind the step is that of the event
  pub after_step : Some next ≡ (event_of (machine_of g) s p).after
  after_step = sym (after_is (machine_of g) s p l here ∙ ap (λ (t : MachineState). slice_get t.locals p) (sym is) ∙ there)

  pub fired_told : (taken : List ℕ) (sent : List Sent) (register touched miss cost : Option ℕ) (store : Bool)
      → taken ≡ (event_of (machine_of g) s p).from → sent ≡ (event_of (machine_of g) s p).sent → register ≡ written_register g p l
      → store ≡ stores_next g p l → touched ≡ (event_of (machine_of g) s p).touched → miss ≡ cost
      → ((((([] ++ map entry.Taken taken) ++ map sent_entry sent)
      ++ register_entries (regs_of (Some next)) (cond (is_faulted (Some next)) None register))
      ++ access_entries store (memory_of (Some next)) touched)
      ++ miss_entries miss)
      ≡ step_entries g s p cost
  fired_told taken sent register touched miss cost store taken_is sent_is register_is store_is touched_is miss_is =
      joined (map entry.Taken taken) (map sent_entry sent) (register_entries (regs_of (Some next)) (cond (is_faulted (Some next)) None register))
      (access_entries store (memory_of (Some next)) touched) (miss_entries miss)
      ∙ (λ i.
      map entry.Taken (taken_is i)
      ++ (map sent_entry (sent_is i)
      ++ (register_entries (regs_of (after_step i)) (cond (is_faulted (after_step i)) None (register_is i))
      ++ (access_entries (store_is i) (memory_of (after_step i)) (touched_is i) ++ miss_entries (miss_is i)))))
      ∙ ap (λ o. entries_from g p o (event_of (machine_of g) s p) cost) (sym here)
