-- Lists of steps of a machine end: each step leaves its processor fewer to take.
use Rattle.std.proofs.Common.{◌≡◌, ℕ, suc, ◌+◌, ◌-◌, ◌*◌, ◌<◌, ◌≤◌, Bool, false, ◌||◌, leb, List, [], ◌∷◌, ◌++◌, length, map, Option, Some, None, refl, sym, ap, ◌∙◌, arith, add-zero}
use Rattle.std.specs.Prelude.{slice_get, sum_by}
use Rattle.std.proofs.lemmas.Bool.{leb-false, or_parts}
use Rattle.std.proofs.lemmas.List.Sums.{sum_by-cons}
use Rattle.raw_network.specs.Wired.{IsBounded}
use Rattle.raw_network.specs.Laws.{total_from, total}
use Rattle.raw_network.proofs.Bounds.{law_no_longer}
use Rattle.raw_network.proofs.Rests.{law_some_rest}
use Rattle.raw_tile_isa.specs.Instruction.{Instruction}
use Rattle.raw_switch_isa.specs.declared.table.SwitchOp.{SwitchOp}
use Rattle.raw_switch_isa.specs.declared.table.SwitchOp.TheVariants.{Nop}
use Rattle.raw_switch_isa.specs.Instruction.{SwitchInstruction}
use Rattle.raw_grid.specs.declared.parts.PortKind.{PortKind}
use Rattle.raw_grid.specs.declared.parts.PortKind.TheVariants as kind
use Rattle.raw_grid.specs.declared.parts.PortPlace.{PortPlace}
use Rattle.raw_grid.specs.Topology.{tile_count}
use Rattle.raw_model.specs.Program.{ProgramSet, TileProgram, PortProgram, IsSet}
use Rattle.raw_model.specs.Local.{Local, Tile, Switch, Source, Sink, TileLocal, SwitchLocal}
use Rattle.raw_model.specs.TileTable.{next_instruction, effect_of}
use Rattle.raw_model.specs.SwitchTable.{control}
use Rattle.raw_model.specs.SwitchTable.{next_instruction as next_switch_instruction, effect_of as switch_effect_of}
use Rattle.raw_model.specs.Machine.{tile_code, switch_code, first_operand, second_operand, given_to, port_program, words_of, capacity_of, is_ended, is_stopped, row, machine_of}
use Rattle.raw_model.specs.Start.{MachineState, start, first_tile, first_switch, first_port}
use Rattle.raw_model.specs.Rest.{IsLawful, IsLawfulFrom, end_from, IsRun}
use Rattle.raw_model.specs.Laws.{ComesToRest}
use Rattle.raw_model.specs.Bounds.{steps_left, all_left, most_steps}
use Rattle.raw_model.proofs.Rows.{row_is}

-- each row raises the count
pub tile_counts : (o : Option Instruction) (size : ℕ) (l : TileLocal) (a b : ℕ) → (effect_of o size l a b).next.count ≡ l.count + 1
tile_counts None size l a b = refl
tile_counts (Some ins) size l a b = (row_is ins.op size l ins a b).count

control_counts : (op : SwitchOp) (size : ℕ) (l : SwitchLocal) (ins : SwitchInstruction) (value : ℕ)
    → (control op size l ins value).count ≡ l.count + 1
control_counts Nop size l ins value = refl
control_counts _ size l ins value = refl

-- and each row of a switch
pub switch_counts : (o : Option SwitchInstruction) (size : ℕ) (l : SwitchLocal) (given : List (Option ℕ))
    → (switch_effect_of o size l given).next.count ≡ l.count + 1
switch_counts None size l given = refl
switch_counts (Some ins) size l given = control_counts ins.op size l ins _

fewer : (limit n m : ℕ) (b : Bool) → (b || leb limit n) ≡ false → m ≡ n + 1 → limit - m < limit - n
fewer limit n m b h e = let below = leb-false limit n (or_parts b (leb limit n) h).1 in omega arith

module _ (set : ProgramSet) where
  -- a row of a processor that is not stopped leaves it fewer steps
  less : (p : ℕ) (l : Local) (values : List ℕ) → is_stopped set p l ≡ false
      → steps_left set p (row set p l values).next < steps_left set p l
  less p (Tile l) values going =
      fewer set.limit l.count _ (is_ended l.mark) going
      (tile_counts (next_instruction (tile_code set p) l) (length (tile_code set p)) l
      (first_operand (next_instruction (tile_code set p) l) l.regs values)
      (second_operand (next_instruction (tile_code set p) l) l.regs values))
  less p (Switch l) values going =
      fewer set.limit l.count _ (is_ended l.mark) going
      (switch_counts (next_switch_instruction (switch_code set p) l) (length (switch_code set p)) l
      (given_to set.topo p (next_switch_instruction (switch_code set p) l) values))
  less p (Source l) values going = let below = leb-false (length (words_of (port_program set p))) l.done going in omega arith
  less p (Sink l) values going = let below = leb-false (capacity_of (port_program set p)) l.done going in omega arith

  -- the machine is bounded, whatever its local states
  pub bounded : IsBounded (machine_of set) (λ p l. Unit {0}) (steps_left set)
  unfolding machine_of
  bounded = record { kept = λ p l values fits going. tt; less = λ p l values fits going. less p l values going }

  -- each step leaves one step fewer
  pub no_longer : (s : MachineState) (h : List ℕ) → IsLawfulFrom set s h
      → length h + all_left set (end_from set s h) ≤ all_left set s
  no_longer s h lawful =
      law_no_longer (machine_of set) (λ p l. Unit {0}) (steps_left set) bounded s h (λ p l here. tt) lawful

  -- from each state some list comes to rest
  pub some_rest : (s : MachineState) → (h : List ℕ) × ComesToRest set s h
  some_rest s =
      let (h, rest) = law_some_rest (machine_of set) (λ p l. Unit {0}) (steps_left set) bounded s (λ p l here. tt) in
      (h, record { lawful = rest.lawful; quiet = rest.quiet })

  pub some_run : (h : List ℕ) × IsRun set h
  some_run = let (h, rest) = some_rest (start set) in (h, record { lawful = rest.lawful; quiet = rest.quiet })

-- what is left over processors that each have as much left
total_map : {X : Type 0} (left : ℕ → Local → ℕ) (f : X → Local) (n : ℕ) (each : (p : ℕ) (x : X) → left p (f x) ≡ n)
    (b : ℕ) (xs : List X) (rest : List Local)
    → total_from left b (map f xs ++ rest) ≡ length xs * n + total_from left (b + length xs) rest
total_map left f n each b [] rest = let e = ap (λ k. total_from left k rest) (add-zero b) in omega arith
total_map left f n each b (x ∷ xs) rest =
    let e = each b x in
    let more = total_map left f n each (suc b) xs rest in
    let same : total_from left (suc b + length xs) rest ≡ total_from left (b + suc (length xs)) rest =
    ap (λ k. total_from left k rest) (omega arith) in
    omega arith

-- what the ports have left before they do anything is no more than their words and their capacities
module _ (set : ProgramSet) where
  port_left : (p : ℕ) (port : PortProgram) (k : PortKind) → port_program set p ≡ Some port
      → steps_left set p (first_port k) ≤ length port.words + port.capacity
  port_left p port kind.Source e =
      let a = ap (λ o. length (words_of o)) e in omega arith
  port_left p port kind.Sink e =
      let a = ap capacity_of e in omega arith

  ports_left : (places : List PortPlace) (ports : List PortProgram) → length ports ≡ length places → (b : ℕ)
      → ((i : ℕ) → port_program set (b + i) ≡ slice_get ports i)
      → total_from (steps_left set) b (map (λ (place : PortPlace). first_port place.kind) places)
      ≤ sum_by (λ (port : PortProgram). length port.words) ports + sum_by (λ (port : PortProgram). port.capacity) ports
  ports_left [] ports e b at = omega arith
  ports_left (place ∷ places) [] e b at = cc
  ports_left (place ∷ places) (port ∷ ports) e b at =
      let a = sum_by-cons (λ (port : PortProgram). length port.words) port ports in
      let c = sum_by-cons (λ (port : PortProgram). port.capacity) port ports in
      let here = port_left b port place.kind (ap (port_program set) (sym (add-zero b)) ∙ at 0) in
      let rest = ports_left places ports (omega arith) (suc b)
      (λ i. ap (port_program set) (let same : suc b + i ≡ b + suc i = omega arith in same) ∙ at (suc i)) in
      omega arith

  -- what is left at the start is no more than the most steps
  pub start_left : IsSet set → all_left set (start set) ≤ most_steps set
  unfolding start total most_steps
  start_left valid =
      let ports = map (λ (place : PortPlace). first_port place.kind) set.topo.places in
      let switches = map (λ (tile : TileProgram). Switch (first_switch tile.switch)) set.tiles in
      let a = total_map (steps_left set) (λ (tile : TileProgram). Tile (first_tile tile)) set.limit (λ p tile. no_steps) 0 set.tiles (switches ++ ports) in
      let b = total_map (steps_left set) (λ (tile : TileProgram). Switch (first_switch tile.switch)) set.limit (λ p tile. no_steps) (0 + length set.tiles) set.tiles ports in
      let c = ports_left set.topo.places set.ports valid.each_port (0 + length set.tiles + length set.tiles) ports_at in
      let d = ap (λ n. n * set.limit) valid.each_tile in
      omega arith
    where
      no_steps : set.limit - 0 ≡ set.limit
      no_steps = omega arith

      ports_at : (i : ℕ) → port_program set (0 + length set.tiles + length set.tiles + i) ≡ slice_get set.ports i
      ports_at i = ap (slice_get set.ports) (let same : 0 + length set.tiles + length set.tiles + i - 2 * tile_count set.topo ≡ i = let e = valid.each_tile in omega arith in same)

  -- a lawful list from the start is no longer than the most steps
  pub lawful_short : IsSet set → (h : List ℕ) → IsLawful set h → length h ≤ most_steps set
  lawful_short valid h lawful = let a = no_longer set (start set) h lawful in let b = start_left valid in omega arith
