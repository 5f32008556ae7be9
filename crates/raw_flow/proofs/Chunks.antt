-- A machine goes on with the parts of a flow: a value is made at a tile, sent, carried, passed on and stored.
use Rattle.std.proofs.Common.{◌≡◌, ℕ, ◌+◌, ◌*◌, ◌^◌, ◌<◌, ◌⊎◌, zero, suc, true, List, [], ◌∷◌, ◌++◌, length, AllPairs, Contains, Option, inl, inr, refl, sym, ap, ◌∙◌, subst, arith}
use Rattle.std.specs.Prelude.{slice_get, slice_index}
use Rattle.std.proofs.lemmas.Bool.{cases_eq}
use Rattle.std.proofs.lemmas.List.{get_or-set_same, get_or-set_other, length-set}
use Rattle.std.proofs.lemmas.List.Elements.{All-nil, All-cons}
use Rattle.raw_flow.specs.declared.limits.TheConstants.{MAX_NODES}
use Rattle.raw_model.specs.declared.limits.TheConstants.{MEMORY_SIZE}
use Rattle.raw_network.specs.Network.{values_on}
use Rattle.raw_tile_isa.specs.Instruction.{Instruction}
use Rattle.raw_tile_isa.specs.Load.{load}
use Rattle.raw_switch_isa.specs.Instruction.{SwitchInstruction}
use Rattle.raw_grid.specs.declared.parts.Net.{Net}
use Rattle.raw_grid.specs.declared.parts.Net.TheVariants.{One}
use Rattle.raw_grid.specs.Topology.{tile_count, switch_number}
use Rattle.raw_grid.specs.Wires.{wires_of}
use Rattle.raw_model.specs.Program.{ProgramSet}
use Rattle.raw_model.specs.Local.{Local, TileLocal}
use Rattle.raw_model.specs.TileTable.{word_at, gives}
use Rattle.raw_model.specs.Start.{MachineState}
use Rattle.raw_codegen.specs.Parts.{Part, ToSwitch, to_tile, to_switches}
use Rattle.raw_codegen.specs.Steps.{Leads, SameWires, HasCome, IsGone, HasPassed, IsAlone}
use Rattle.raw_codegen.specs.Straight.{Core, IsCore, core_with, at_tile, row_of_ins, nothing, only, Does, IsPlain, Turns, SendsWord, TakesWord, PassesOn}
use Rattle.raw_codegen.specs.Standing.{to_tile_wire, from_tile_wire, IsScript, PartsStand, HasGone}
use Rattle.raw_codegen.specs.Rows.{IsKeeping, store_ins, written, with_word}
use Rattle.raw_codegen.proofs.Moves.{more}
use Rattle.raw_route.specs.Hauls.{Haulage, IsHaul}
use Rattle.raw_route.specs.Tree.{tree_ins}
use Rattle.raw_route.specs.Carrying.{IsAtTargets}
use Rattle.raw_route.proofs.Hauling.{size_is, keeping}
use Rattle.raw_flow.specs.declared.node.FlowOp.{FlowOp}
use Rattle.raw_flow.specs.declared.node.FlowOp.TheVariants.{Add}
use Rattle.raw_flow.specs.Flows.{applied}
use Rattle.raw_flow.specs.Places.{Holding, has, with_value}
use Rattle.raw_flow.specs.Compiled.{op_ins, send_value, take_value, one_haul, const_code, apply_code}
use Rattle.raw_flow.proofs.Given.{Laws}
use Rattle.raw_flow.proofs.Knowing.{AllKnow, with_memory, memory_here, memory_there, all_know}

-- all tiles and switches stand behind these parts, each tile has the values that it is said to have, and these are the local states of the ports
pub record Has (set : ProgramSet) (vals : List ℕ) (parts : List Part) (held : List Holding) (states : ℕ → Option Local) (s : MachineState) : Type 0 where
  pub memories : ℕ → List ℕ
  pub stands : PartsStand set parts memories s
  pub know : AllKnow vals held memories
  pub ports : (q : ℕ) → slice_get s.locals (2 * tile_count set.topo + q) ≡ states q

-- and no wire holds a value
pub record Rests (set : ProgramSet) (vals : List ℕ) (parts : List Part) (held : List Holding) (states : ℕ → Option Local) (s : MachineState) : Type 0 where
  pub has : Has set vals parts held states s
  pub idle : (w : ℕ) → values_on s.wires w ≡ []

-- or one wire holds one
pub record Sends (set : ProgramSet) (vals : List ℕ) (parts : List Part) (held : List Holding) (states : ℕ → Option Local) (w x : ℕ) (s : MachineState) : Type 0 where
  pub has : Has set vals parts held states s
  pub alone : IsAlone w x s.wires

-- the wires after a step, where at most one wire holds one value
idle_same : (s r : MachineState) → SameWires s.wires r.wires → ((w : ℕ) → values_on s.wires w ≡ []) → (w : ℕ) → values_on r.wires w ≡ []
idle_same s r same idle w = same.on w ∙ idle w

pub alone_come : (s r : MachineState) (w x : ℕ) → HasCome w x s.wires r.wires → ((u : ℕ) → values_on s.wires u ≡ []) → IsAlone w x r.wires
alone_come s r w x come idle = record { here = come.here ∙ ap (λ vs. vs ++ x ∷ []) (idle w); elsewhere = λ u ne. come.elsewhere u ne ∙ idle u }

pub idle_gone : (s r : MachineState) (w x : ℕ) → IsGone w x s.wires r.wires → IsAlone w x s.wires → (u : ℕ) → values_on r.wires u ≡ []
idle_gone s r w x gone alone u = by (cases_eq u w)
  where
    here : values_on r.wires w ≡ []
    here = let both : x ∷ [] ≡ x ∷ values_on r.wires w = sym alone.here ∙ gone.here in cc both

    by : (u ≡ w) ⊎ (u ≡ w → ⊥) → values_on r.wires u ≡ []
    by (inl e) = subst (λ k. values_on r.wires k ≡ []) (sym e) here
    by (inr ne) = gone.elsewhere u ne ∙ alone.elsewhere u ne

alone_passed : (s r : MachineState) (w v x : ℕ) → HasPassed w x v x s.wires r.wires → IsAlone w x s.wires → (v ≡ w → ⊥) → IsAlone v x r.wires
alone_passed s r w v x passed alone apart = record {
  here = passed.come ∙ ap (λ vs. vs ++ x ∷ []) (alone.elsewhere v apart);
  elsewhere = λ u ne. by u ne (cases_eq u w);
}
  where
    gone : values_on r.wires w ≡ []
    gone = let both : x ∷ [] ≡ x ∷ values_on r.wires w = sym alone.here ∙ passed.gone in cc both

    by : (u : ℕ) → (u ≡ v → ⊥) → (u ≡ w) ⊎ (u ≡ w → ⊥) → values_on r.wires u ≡ []
    by u ne (inl e) = subst (λ k. values_on r.wires k ≡ []) (sym e) gone
    by u ne (inr away) = passed.elsewhere u away ne ∙ alone.elsewhere u away

keeps_6 : IsKeeping 6
keeps_6 = record { below = omega arith; keeps = refl }

keeps_7 : IsKeeping 7
keeps_7 = record { below = omega arith; keeps = refl }

-- a core whose register is written is within its ranges still
written_core : (a : Core) (r x : ℕ) → IsCore a → 0 < r → IsCore (written a r x)
written_core a r x core some = record {
  registers = length-set a.regs r x ∙ core.registers;
  register_0 = get_or-set_other a.regs r 0 x 0 (λ e. omega arith) ∙ core.register_0;
  memory = core.memory;
}

-- 'NAME $7, $5, $6' gives to register 7 what the operation makes of registers 5 and 6, and uses no wire
op_gives : (op : FlowOp) (size : ℕ) (l : TileLocal) → row_of_ins (op_ins op) size l [] ≡ gives size l 7 (applied op (slice_index l.regs 5) (slice_index l.regs 6))
op_gives Add size l = refl
op_gives _ size l = refl

op_plain : (op : FlowOp) → IsPlain (op_ins op)
op_plain Add = record { takes = λ topo p. refl; sends = λ topo p. refl }
op_plain _ = record { takes = λ topo p. refl; sends = λ topo p. refl }

module _ (laws : Laws) where
  -- a constant
  const_turns : (v word : ℕ) (memory : List ℕ) → v < MAX_NODES → word < 2 ^ 32 → Turns (const_code v word) memory (with_word memory v word)
  const_turns v word memory few small = record {
    runs = λ regs core.
        let a : Core = core_with regs memory in
        let m : Core = written a 7 word in
        let b : Core = core_with m.regs (with_word memory v word) in
        let seven : slice_index m.regs 7 ≡ word = get_or-set_same regs 7 word 0 (omega (arith, core.registers)) in (
          m.regs,
          laws.rows.append (load 7 word) (store_ins 7 v ∷ []) a m b (laws.rows.li 7 word a keeps_7 core small)
              (b, laws.rows.store_plain 7 v keeps_7, laws.rows.store 7 v word m keeps_7 (written_core a 7 word core (omega arith)) few seven, refl),
        );
  }

  -- an operation, where the memory has both words
  apply_turns : (v : ℕ) (op : FlowOp) (a b x y : ℕ) (memory : List ℕ) → v < MAX_NODES → a < MAX_NODES → b < MAX_NODES → word_at memory (4 * a) ≡ x → word_at memory (4 * b) ≡ y
      → Turns (apply_code v op a b) memory (with_word memory v (applied op x y))
  apply_turns v op a b x y memory few fa fb ea eb = record {
    runs = λ regs core.
        let c0 : Core = core_with regs memory in
        let xa : ℕ = word_at memory (4 * a) in
        let xb : ℕ = word_at memory (4 * b) in
        let c1 : Core = written c0 5 xa in
        let i1 : IsCore c1 = written_core c0 5 xa core (omega arith) in
        let c2 : Core = written c1 6 xb in
        let i2 : IsCore c2 = written_core c1 6 xb i1 (omega arith) in
        let five : slice_index c2.regs 5 ≡ x =
        get_or-set_other c1.regs 6 5 xb 0 (λ e. omega arith) ∙ get_or-set_same regs 5 xa 0 (omega (arith, core.registers)) ∙ ea in
        let six : slice_index c2.regs 6 ≡ y = get_or-set_same c1.regs 6 xb 0 (omega (arith, i1.registers)) ∙ eb in
        let value : ℕ = applied op x y in
        let c3 : Core = written c2 7 value in
        let i3 : IsCore c3 = written_core c2 7 value i2 (omega arith) in
        let seven : slice_index c3.regs 7 ≡ value = get_or-set_same c2.regs 7 value 0 (omega (arith, i2.registers)) in
        let c4 : Core = core_with c3.regs (with_word memory v value) in
        let does : Does (op_ins op) [] c2 c3 nothing =
        laws.rows.register (op_ins op) c2 7 value keeps_7
        (λ size k. op_gives op size (at_tile k c2) ∙ ap (λ z. gives size (at_tile k c2) 7 (applied op z (slice_index c2.regs 6))) five ∙ ap (λ z. gives size (at_tile k c2) 7 (applied op x z)) six) in (
          c3.regs,
          (
            c1,
            laws.rows.load_plain 5 a keeping,
            laws.rows.load 5 a c0 keeping core fa,
            (
              c2,
              laws.rows.load_plain 6 b keeps_6,
              laws.rows.load 6 b c1 keeps_6 i1 fb,
              (c3, op_plain op, does, (c4, laws.rows.store_plain 7 v keeps_7, laws.rows.store 7 v value c3 keeps_7 i3 few seven, refl)),
            ),
          ),
        );
  }

  -- 'lw $24' and 'sw $24', or '$25'
  sends_value : (net : Net) (v x : ℕ) (memory : List ℕ) → v < MAX_NODES → word_at memory (4 * v) ≡ x → SendsWord [] (send_value net v) net x memory
  sends_value net v x memory few e = record {
    sender = laws.rows.load_sender net v;
    runs = λ regs core. (
      regs,
      refl,
      subst (λ y. Does (send_value net v) [] (core_with regs memory) (core_with regs memory) (only net y)) e (laws.rows.load_send net v (core_with regs memory) core few),
    );
  }

  takes_value : (net : Net) (v x : ℕ) (memory : List ℕ) → v < MAX_NODES → TakesWord (take_value net v) net x memory (with_word memory v x)
  takes_value net v x memory few = record { taker = laws.rows.store_taker net v; does = λ regs core. (regs, laws.rows.store_take net v x (core_with regs memory) core few) }

-- a list of one has its entry alone
pairs_of_one : (R : ℕ → ℕ → Type 0) (t : ℕ) → AllPairs R (t ∷ [])
pairs_of_one R t i j d h k = absurd (omega arith)

pub one_haul_is : (n h t : ℕ) → h < n → t < n → IsHaul n (one_haul h t)
one_haul_is n h t from to = record {
  origin = from;
  some = omega arith;
  inside = All-cons (λ tile. tile < n) t [] to (All-nil (λ tile. tile < n));
  distinct = pairs_of_one (λ a b. a ≡ b → ⊥) t;
}

only_one : (t u : ℕ) → Contains (t ∷ []) u → t ≡ u
only_one t u (zero, h, e) = e
only_one t u (suc k, h, e) = absurd (omega arith)

module _ (laws : Laws) (set : ProgramSet) (all : List Part) (script : IsScript set all) (vals : List ℕ) where
  module _ (parts : List Part) (held : List Holding) (states : ℕ → Option Local) (s : MachineState) where
    -- a tile's memory
    memory_long : (old : Has set vals parts held states s) (t : ℕ) → t < tile_count set.topo → length (old.memories t) ≡ MEMORY_SIZE
    memory_long old t within =
        let tile = old.stands.tiles t within in
        (old.stands.fits.locals t _ tile.1).1.memory ∙ size_is

    -- what is so after parts without a step of a port
    has_gone : (more : List Part) (held' : List Holding) (memories : ℕ → List ℕ) (r : MachineState) → Has set vals parts held states s → HasGone set (parts ++ more) memories s r
        → AllKnow vals held' memories → Has set vals (parts ++ more) held' states r
    has_gone more held' memories r old gone know = record {
      memories = memories;
      stands = gone.stands;
      know = know;
      ports = λ q. gone.ports.at (2 * tile_count set.topo + q) (omega arith) ∙ old.ports q;
    }

    -- a tile makes a value
    pub make_chunk : (t v x : ℕ) (block : List Instruction) (rest : List Part) → t < tile_count set.topo → v < MAX_NODES → x ≡ slice_index vals v → x < 2 ^ 32
        → all ≡ parts ++ (to_tile t block ++ rest) → (old : Rests set vals parts held states s) → Turns block (old.has.memories t) (with_word (old.has.memories t) v x)
        → Leads set s (Rests set vals (parts ++ to_tile t block) (with_value held v t) states)
    make_chunk t v x block rest within few is small e old turns =
        let m : ℕ → List ℕ = old.has.memories in
        let m' : ℕ → List ℕ = with_memory t v x m in
        more set s (λ r. HasGone set (parts ++ to_tile t block) m' s r × SameWires s.wires r.wires) (Rests set vals (parts ++ to_tile t block) (with_value held v t) states)
        (laws.scripts.block set all parts rest t m m' s script within old.has.stands block e
        (subst (λ k. Turns block (m t) k) (sym (memory_here t v x m)) turns) (memory_there t v x m))
        (λ r h. record {
          has = has_gone (to_tile t block) (with_value held v t) m' r old.has h.0 (all_know laws.stored vals held v t x m (memory_long old.has t within) few is small old.has.know);
          idle = idle_same s r h.1 old.idle;
        })

    -- a constant
    pub const_chunk : (t v word : ℕ) (rest : List Part) → t < tile_count set.topo → v < MAX_NODES → word < 2 ^ 32 → word ≡ slice_index vals v
        → all ≡ parts ++ (to_tile t (const_code v word) ++ rest) → Rests set vals parts held states s
        → Leads set s (Rests set vals (parts ++ to_tile t (const_code v word)) (with_value held v t) states)
    const_chunk t v word rest within few small is e old =
        make_chunk t v word (const_code v word) rest within few is small e old (const_turns laws v word (old.has.memories t) few small)

    -- an operation, where the tile has both values
    pub apply_chunk : (t v a b : ℕ) (op : FlowOp) (rest : List Part) → t < tile_count set.topo → v < MAX_NODES → has held a t ≡ true → has held b t ≡ true
        → applied op (slice_index vals a) (slice_index vals b) ≡ slice_index vals v → applied op (slice_index vals a) (slice_index vals b) < 2 ^ 32
        → all ≡ parts ++ (to_tile t (apply_code v op a b) ++ rest) → Rests set vals parts held states s
        → Leads set s (Rests set vals (parts ++ to_tile t (apply_code v op a b)) (with_value held v t) states)
    apply_chunk t v a b op rest within few ha hb is small e old =
        let ka = (old.has.know t).word a ha in
        let kb = (old.has.know t).word b hb in
        make_chunk t v (applied op (slice_index vals a) (slice_index vals b)) (apply_code v op a b) rest within few is small e old
        (apply_turns laws v op a b (slice_index vals a) (slice_index vals b) (old.has.memories t) few ka.0 kb.0 ka.1 kb.1)

    -- a tile sends a value that it has
    pub send_chunk : (net : Net) (t v : ℕ) (rest : List Part) → t < tile_count set.topo → has held v t ≡ true
        → all ≡ parts ++ (to_tile t (send_value net v ∷ []) ++ rest) → Rests set vals parts held states s
        → Leads set s (Sends set vals (parts ++ to_tile t (send_value net v ∷ [])) held states (from_tile_wire net t) (slice_index vals v))
    send_chunk net t v rest within hv e old =
        let k = (old.has.know t).word v hv in
        let x : ℕ = slice_index vals v in
        let w : ℕ = from_tile_wire net t in
        let some = script.valid.some_depth in
        more set s (λ r. HasGone set (parts ++ to_tile t (send_value net v ∷ [])) old.has.memories s r × HasCome w x s.wires r.wires)
        (Sends set vals (parts ++ to_tile t (send_value net v ∷ [])) held states w x)
        (laws.scripts.send set all parts rest t old.has.memories s script within old.has.stands [] (send_value net v) net x e
        (sends_value laws net v x (old.has.memories t) k.0 k.1) (rw (old.idle w) (omega arith)))
        (λ r h. record { has = has_gone (to_tile t (send_value net v ∷ [])) held old.has.memories r old.has h.0 old.has.know; alone = alone_come s r w x h.1 old.idle })

    -- a tile takes a value and stores it
    pub take_chunk : (net : Net) (t v : ℕ) (rest : List Part) → t < tile_count set.topo → v < MAX_NODES → slice_index vals v < 2 ^ 32
        → all ≡ parts ++ (to_tile t (take_value net v ∷ []) ++ rest) → Sends set vals parts held states (to_tile_wire net t) (slice_index vals v) s
        → Leads set s (Rests set vals (parts ++ to_tile t (take_value net v ∷ [])) (with_value held v t) states)
    take_chunk net t v rest within few small e old =
        let x : ℕ = slice_index vals v in
        let w : ℕ = to_tile_wire net t in
        let m : ℕ → List ℕ = old.has.memories in
        let m' : ℕ → List ℕ = with_memory t v x m in
        more set s (λ r. HasGone set (parts ++ to_tile t (take_value net v ∷ [])) m' s r × IsGone w x s.wires r.wires)
        (Rests set vals (parts ++ to_tile t (take_value net v ∷ [])) (with_value held v t) states)
        (laws.scripts.take set all parts rest t m m' s script within old.has.stands (take_value net v) net x [] e
        (subst (λ k. TakesWord (take_value net v) net x (m t) k) (sym (memory_here t v x m)) (takes_value laws net v x (m t) few)) (memory_there t v x m) old.alone.here)
        (λ r h. record {
          has = has_gone (to_tile t (take_value net v ∷ [])) (with_value held v t) m' r old.has h.0 (all_know laws.stored vals held v t x m (memory_long old.has t within) few refl small old.has.know);
          idle = idle_gone s r w x h.1 old.alone;
        })

    -- the tree from one tile to another carries a value
    pub tree_chunk : (h t x : ℕ) (rest : List Part) → h < tile_count set.topo → t < tile_count set.topo
        → all ≡ parts ++ (to_switches (tile_count set.topo) (tree_ins set.topo.cols (one_haul h t)) ++ rest) → Sends set vals parts held states (from_tile_wire One h) x s
        → Leads set s (Sends set vals (parts ++ to_switches (tile_count set.topo) (tree_ins set.topo.cols (one_haul h t))) held states (to_tile_wire One t) x)
    tree_chunk h t x rest from to e old =
        let haul : Haulage = one_haul h t in
        let tree : List Part = to_switches (tile_count set.topo) (tree_ins set.topo.cols haul) in
        more set s (λ r. HasGone set (parts ++ tree) old.has.memories s r × IsAtTargets haul x r.wires) (Sends set vals (parts ++ tree) held states (to_tile_wire One t) x)
        (laws.scripts.tree set all parts rest old.has.memories haul x s script (one_haul_is (tile_count set.topo) h t from to) old.has.stands e old.alone)
        (λ r g. record {
          has = has_gone tree held old.has.memories r old.has g.0 old.has.know;
          alone = record {
            here = g.1.there t (0, omega arith, refl);
            elsewhere = λ u ne. g.1.nowhere u (λ tile is same. ne (same ∙ ap (to_tile_wire One) (sym (only_one t tile is))));
          };
        })

    -- a switch passes a value from one wire to another
    pub pass_chunk : (t : ℕ) (ins : SwitchInstruction) (w v x : ℕ) (rest : List Part) → t < tile_count set.topo → PassesOn set.topo (switch_number set.topo t) ins w v
        → v < length (wires_of set.topo) → (v ≡ w → ⊥) → all ≡ parts ++ (ToSwitch t ins ∷ rest) → Sends set vals parts held states w x s
        → Leads set s (Sends set vals (parts ++ ToSwitch t ins ∷ []) held states v x)
    pass_chunk t ins w v x rest within passes exists apart e old =
        let some = script.valid.some_depth in
        let free : length (values_on s.wires v) < set.depth = rw (old.alone.elsewhere v apart) (omega arith) in
        more set s (λ r. HasGone set (parts ++ ToSwitch t ins ∷ []) old.has.memories s r × HasPassed w x v x s.wires r.wires) (Sends set vals (parts ++ ToSwitch t ins ∷ []) held states v x)
        (laws.scripts.pass set all parts rest t old.has.memories s script within old.has.stands ins w v x [] e passes old.alone.here free
        (subst (λ n. v < n) (sym old.has.stands.fits.wires) exists) apart)
        (λ r h. record { has = has_gone (ToSwitch t ins ∷ []) held old.has.memories r old.has h.0 old.has.know; alone = alone_passed s r w v x h.1 old.alone apart })
