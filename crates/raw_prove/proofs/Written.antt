-- What a row with terms sends goes to the register that its instruction writes.
use Rattle.std.proofs.Common.{◌≡◌, ℕ, ◌/◌, ◌≤◌, eqb, List, ◌++◌, length, Option, Some, None, ◌⊎◌, inl, inr, refl, ap, ap₂, subst, ⊎_elim, arith}
use Rattle.std.specs.Option.{IfSome, option_map, option_to_list}
use Rattle.std.specs.List.{flat_map}
use Rattle.std.specs.Prelude.{slice_index}
use Rattle.std.proofs.lemmas.Bool.{eqb-true}
use Rattle.raw_network.specs.Network.{Sent, count_of}
use Rattle.raw_network.specs.Runs.{sent_on}
use Rattle.raw_tile_isa.specs.declared.table.TileOp.{TileOp}
use Rattle.raw_tile_isa.specs.declared.table.TileOp.TheVariants.{Jr, Jalr, Clz, Popc, Halt, Bltz, Bgez, Beq, Bne, Blez, Bgtz, Lb, Lh, Lw, Lbu, Lhu, Sb, Sh, Sw, J}
use Rattle.raw_tile_isa.specs.Table.{row_of}
use Rattle.raw_tile_isa.specs.Instruction.{Instruction, register_at, destination_register}
use Rattle.raw_grid.specs.Topology.{Topology}
use Rattle.raw_grid.specs.Wires.{output_wire}
use Rattle.raw_model.specs.declared.marks.Cause.{Cause}
use Rattle.raw_model.specs.declared.marks.Mark.TheVariants as mark
use Rattle.raw_model.specs.Local.{TileLocal}
use Rattle.raw_model.specs.TileTable.{TileEffect, address_of, access_fault, unless_fault, gives_at, following}
use Rattle.raw_model.specs.Machine.{sent_to, destination_wire}
use Rattle.raw_model.proofs.Counts.{sent-more, sent_none}
use Rattle.raw_model.proofs.Once.{by_register}
use Rattle.raw_model.proofs.Rows.{SendsNothing, SendsBy}
use Rattle.raw_flow.specs.declared.node.Node.{Node}
use Rattle.raw_term.specs.declared.action.Action.{Action}
use Rattle.raw_term.specs.declared.action.Action.TheVariants.{Make, Give, Go, Stop, Load, Store, Read, Write}
use Rattle.raw_term.specs.TermRows.{TileTerms, with_one, with_two, part_action, part_bytes, unless_trap, on_part, action_of, acted, loads_term, stored_term, stores_term, cell_of, term_effect}
use Rattle.raw_term.specs.Terms.{word_in}

-- something goes only to this register, if there is one
abbrev WritesTo : Option ℕ → Action → Type 0
WritesTo destination (Make f first second register) = destination ≡ Some register
WritesTo destination (Give register word pc) = destination ≡ Some register
WritesTo destination (Load register address) = destination ≡ Some register
WritesTo destination (Read register address word) = destination ≡ Some register
WritesTo destination _ = Unit {0}

module _ (P : Action → Type 0) where
  by_one : (a : Option ℕ) (f : ℕ → Action) → ((x : ℕ) → P (f x)) → IfSome (with_one a f) P
  by_one None f h = tt
  by_one (Some x) f h = h x

  by_two : (a b : Option ℕ) (f : ℕ → ℕ → Action) → ((x y : ℕ) → P (f x y)) → IfSome (with_two a b f) P
  by_two None b f h = tt
  by_two (Some x) b f h = by_one b (f x) (h x)

  by_trap : ((cause : Cause) → P (Stop (mark.Trapped cause))) → (fault : Option Cause) (o : Option Action) → IfSome o P → IfSome (unless_trap fault o) P
  by_trap stop None o h = h
  by_trap stop (Some cause) o h = stop cause

  by_part : ((cause : Cause) → P (Stop (mark.Trapped cause))) → (op : TileOp) (ins : Instruction) (a b cell : Option ℕ)
      → ((address : ℕ) → IfSome (part_action op ins address b cell) P) → IfSome (on_part op ins a b cell) P
  by_part stop op ins None b cell h = tt
  by_part stop op ins (Some x) b cell h = by_trap stop (access_fault (address_of ins x) (part_bytes op)) (part_action op ins (address_of ins x) b cell) (h (address_of ins x))

module _ (next : ℕ) (ins : Instruction) (a b cell : Option ℕ) where
  abbrev To : TileOp → Action → Type 0
  To op = WritesTo (register_at (row_of op).destination ins)

  writes : (op : TileOp) → IfSome (action_of op next ins a b cell) (To op)
  writes Jr = by_one (To Jr) a (λ x. Go x) (λ x. tt)
  writes Jalr = by_one (To Jalr) a (λ x. Give ins.rd next x) (λ x. refl)
  writes Clz = by_one (To Clz) a _ (λ x. refl)
  writes Popc = by_one (To Popc) a _ (λ x. refl)
  writes Halt = tt
  writes Bltz = by_one (To Bltz) a _ (λ x. tt)
  writes Bgez = by_one (To Bgez) a _ (λ x. tt)
  writes Beq = by_two (To Beq) a b _ (λ x y. tt)
  writes Bne = by_two (To Bne) a b _ (λ x y. tt)
  writes Blez = by_one (To Blez) a _ (λ x. tt)
  writes Bgtz = by_one (To Bgtz) a _ (λ x. tt)
  writes Lb = by_part (To Lb) (λ cause. tt) Lb ins a b cell (λ address. by_one (To Lb) cell _ (λ w. refl))
  writes Lh = by_part (To Lh) (λ cause. tt) Lh ins a b cell (λ address. by_one (To Lh) cell _ (λ w. refl))
  writes Lw = by_one (To Lw) a _ (λ x. refl)
  writes Lbu = by_part (To Lbu) (λ cause. tt) Lbu ins a b cell (λ address. by_one (To Lbu) cell _ (λ w. refl))
  writes Lhu = by_part (To Lhu) (λ cause. tt) Lhu ins a b cell (λ address. by_one (To Lhu) cell _ (λ w. refl))
  writes Sb = by_part (To Sb) (λ cause. tt) Sb ins a b cell (λ address. by_two (To Sb) cell b _ (λ w y. tt))
  writes Sh = by_part (To Sh) (λ cause. tt) Sh ins a b cell (λ address. by_two (To Sh) cell b _ (λ w y. tt))
  writes Sw = by_one (To Sw) a _ (λ x. tt)
  writes J = tt
  writes _ = refl

-- what an action sends
abbrev pub SendsSo : Option ℕ → TileEffect → Type 0
SendsSo destination effect = SendsNothing effect ⊎ SendsBy destination effect

nothing_sent : (destination : Option ℕ) (effect : TileEffect) → effect.sent1 ≡ None → effect.sent2 ≡ None → SendsSo destination effect
nothing_sent destination effect e f = inl (record { sent1 = e; sent2 = f })

module _ (nodes : List Node) (size : ℕ) (l : TileLocal) (a b : ℕ) (destination : Option ℕ) where
  loads_sent : (register address : ℕ) → destination ≡ Some register → SendsSo destination (loads_term size l register address)
  loads_sent register address e = by (access_fault address 4) where
    by : (fault : Option Cause) → SendsSo destination (unless_fault fault l (gives_at size l register (slice_index l.memory (address / 4)) (following l) (Some address)))
    by None = inr (record { register = register; value = slice_index l.memory (address / 4); named = e; sent1 = refl; sent2 = refl })
    by (Some cause) = nothing_sent destination _ refl refl

  stores_sent : (address c : ℕ) → SendsSo destination (stores_term size l address c)
  stores_sent address c = by (access_fault address 4) where
    by : (fault : Option Cause) → SendsSo destination (unless_fault fault l (stored_term size l address c))
    by None = nothing_sent destination _ refl refl
    by (Some cause) = nothing_sent destination _ refl refl

  acted_sent : (action : Action) → WritesTo destination action → SendsSo destination (acted nodes size l a b action).effect
  acted_sent (Make f first second register) e = inr (record { register = register; value = _; named = e; sent1 = refl; sent2 = refl })
  acted_sent (Give register word pc) e = inr (record { register = register; value = _; named = e; sent1 = refl; sent2 = refl })
  acted_sent (Go pc) e = nothing_sent destination _ refl refl
  acted_sent (Stop mark) e = nothing_sent destination _ refl refl
  acted_sent (Load register address) e = loads_sent register address e
  acted_sent (Store address) e = stores_sent address b
  acted_sent (Read register address word) e = inr (record { register = register; value = _; named = e; sent1 = refl; sent2 = refl })
  acted_sent (Write address word) e = nothing_sent destination _ refl refl

  effect_sent : (o : Option Action) → IfSome o (WritesTo destination) → (t : TileTerms) → option_map (acted nodes size l a b) o ≡ Some t → SendsSo destination t.effect
  effect_sent None h t e = cc e
  effect_sent (Some action) h t e = let same : acted nodes size l a b action ≡ t = cc e in subst (λ (k : TileTerms). SendsSo destination k.effect) same (acted_sent action h)

-- what a row sends
pub row_sent : (nodes : List Node) (ins : Instruction) (size : ℕ) (l : TileLocal) (a b : ℕ) (t : TileTerms)
    → term_effect nodes (Some ins) size l a b ≡ Some t → SendsSo (destination_register ins) t.effect
row_sent nodes ins size l a b t e =
    effect_sent nodes size l a b (destination_register ins)
    (action_of ins.op (following l) ins (word_in nodes a) (word_in nodes b) (cell_of nodes l ins (word_in nodes a)))
    (writes (following l) ins (word_in nodes a) (word_in nodes b) (cell_of nodes l ins (word_in nodes a)) ins.op) t e

-- it is no more than the instruction names
module _ (topo : Topology) (p w : ℕ) (effect : TileEffect) (destination : Option ℕ) where
  abbrev out : Option ℕ → Option ℕ → List Sent
  out first second = sent_to (output_wire topo p 4) first ++ sent_to (output_wire topo p 9) second

  abbrev named : Option ℕ → ℕ
  named o = count_of w (flat_map (destination_wire topo p) (option_to_list o))

  pub sent_short : SendsSo destination effect → length (sent_on w (out effect.sent1 effect.sent2)) ≤ named destination
  sent_short is = ⊎_elim nothing one is where
    nothing : SendsNothing effect → length (sent_on w (out effect.sent1 effect.sent2)) ≤ named destination
    nothing none =
        let a = ap₂ (λ x y. length (sent_on w (out x y))) none.sent1 none.sent2 in
        let b = sent-more w (sent_to (output_wire topo p 4) None) (sent_to (output_wire topo p 9) None) in
        let c = ap (λ ms. length (sent_on w ms)) (sent_none (output_wire topo p 4)) in
        let d = ap (λ ms. length (sent_on w ms)) (sent_none (output_wire topo p 9)) in
        omega arith

    one : SendsBy destination effect → length (sent_on w (out effect.sent1 effect.sent2)) ≤ named destination
    one by =
        let a = ap₂ (λ x y. length (sent_on w (out x y))) by.sent1 by.sent2 in
        let b = by_register topo p w (eqb by.register 24) (eqb by.register 25)
        (λ e f. let x = eqb-true by.register 24 e in let y = eqb-true by.register 25 f in absurd (omega arith))
        (output_wire topo p 4) (output_wire topo p 9) by.value in
        let c = ap named by.named in
        omega arith
