-- Blocks of instructions that use no wire, and instructions that send or take one value.
use Rattle.std.proofs.Common.{◌≡◌, ℕ, suc, ◌+◌, ◌<◌, ◌≤◌, false, leb, List, [], ◌∷◌, ◌++◌, length, Option, Some, refl, sym, ap, ◌∙◌, subst, arith, append_assoc, length-append}
use Rattle.std.specs.Prelude.{slice_get}
use Rattle.std.specs.Option.{option_to_list}
use Rattle.std.proofs.lemmas.Bool.{lt-leb}
use Rattle.raw_tile_isa.specs.declared.limits.TheConstants.{MAX_TILE_CODE}
use Rattle.raw_network.specs.Network.{Sent, values_on}
use Rattle.raw_tile_isa.specs.Instruction.{Instruction}
use Rattle.raw_grid.specs.declared.parts.Net.{Net}
use Rattle.raw_grid.specs.declared.parts.Net.TheVariants.{One, Two}
use Rattle.raw_grid.specs.Ends.{tile_end}
use Rattle.raw_grid.specs.Wires.{input_wire, output_wire}
use Rattle.raw_model.specs.Program.{ProgramSet}
use Rattle.raw_model.specs.Local.{Local, Tile, TileLocal}
use Rattle.raw_model.specs.TileTable.{TileEffect, effect_of}
use Rattle.raw_model.specs.Machine.{tile_code, tile_takes, tile_sends, sent_to, first_operand, second_operand, tile_effect}
use Rattle.raw_model.specs.Start.{MachineState}
use Rattle.raw_model.proofs.Counts.{sent_none}
use Rattle.raw_codegen.specs.Steps.{Leads, IsNext, one_value, Changed, SameWires, HasCome, IsGone}
use Rattle.raw_codegen.specs.Straight.{Core, at_tile, row_of_ins, nothing, only, GoesTo, Does, IsPlain, IsSender, IsTaker, Runs}
use Rattle.raw_codegen.proofs.Moves.{stay, then, more, plain_step, send_step, take_step}

pub runs_append : (xs ys : List Instruction) (a m b : Core) → Runs xs a m → Runs ys m b → Runs (xs ++ ys) a b
runs_append [] ys a m b h g = subst (λ c. Runs ys c b) (sym h) g
runs_append (ins ∷ xs) ys a m b h g = (h.0, h.1, h.2, runs_append xs ys h.0 m b h.3 g)

-- one instruction
pub runs_one : (ins : Instruction) (a b : Core) → IsPlain ins → Does ins [] a b nothing → Runs (ins ∷ []) a b
runs_one ins a b p d = (b, p, d, refl)

-- the effect of the instruction that is next
pub effect_is : (code : List Instruction) (l : TileLocal) (values : List ℕ) (ins : Instruction) → slice_get code l.pc ≡ Some ins
    → tile_effect code l values ≡ row_of_ins ins (length code) l values
effect_is code l values ins e =
    ap (λ o. effect_of o (length code) l (first_operand o l.regs values) (second_operand o l.regs values)) e

-- states that follow one another
pub changed_twice : (s r q : MachineState) (p : ℕ) (l m : Local) → Changed s r p l → Changed r q p m → Changed s q p m
changed_twice s r q p l m a b = record { here = b.here; others = λ u ne. b.others u ne ∙ a.others u ne }

pub same_twice : (xs ys zs : List (List ℕ)) → SameWires xs ys → SameWires ys zs → SameWires xs zs
same_twice xs ys zs a b = record { on = λ w. b.on w ∙ a.on w }

pub come_same : (w x : ℕ) (xs ys zs : List (List ℕ)) → SameWires xs ys → HasCome w x ys zs → HasCome w x xs zs
come_same w x xs ys zs a b = record {
  here = b.here ∙ ap (λ vs. vs ++ x ∷ []) (a.on w);
  elsewhere = λ u ne. b.elsewhere u ne ∙ a.on u;
}

pub at_place : {X : Type 0} (before : List X) (x : X) (rest : List X) → slice_get (before ++ x ∷ rest) (length before) ≡ Some x
at_place [] x rest = refl
at_place (y ∷ before) x rest = at_place before x rest

-- what a value sent makes of the two outputs of a tile
abbrev all_sent : ProgramSet → ℕ → (Net → Option ℕ) → List Sent
all_sent set t sent = sent_to (output_wire set.topo t 4) (sent One) ++ sent_to (output_wire set.topo t 9) (sent Two)

nothing_sent : (set : ProgramSet) (t : ℕ) → all_sent set t nothing ≡ []
nothing_sent set t = rw (sent_none (output_wire set.topo t 4), sent_none (output_wire set.topo t 9)) refl

one_sent : (set : ProgramSet) (t : ℕ) (net : Net) (w x : ℕ) → output_wire set.topo t (tile_end net) ≡ Some w → all_sent set t (only net x) ≡ one_value w x
one_sent set t One w x e = rw (e, sent_none (output_wire set.topo t 9)) refl
one_sent set t Two w x e = rw (e, sent_none (output_wire set.topo t 4)) refl

module _ (set : ProgramSet) (t : ℕ) (few : length (tile_code set t) ≤ MAX_TILE_CODE) (limit : MAX_TILE_CODE < set.limit) where
  not_stopped : (k : ℕ) → k < length (tile_code set t) → leb set.limit k ≡ false
  not_stopped k h = lt-leb set.limit k (omega arith)

  module _ (s : MachineState) (k : ℕ) (a : Core) (here : slice_get s.locals t ≡ Some (Tile (at_tile k a))) (ins : Instruction)
      (next : slice_get (tile_code set t) k ≡ Some ins) (inside : k + 1 < length (tile_code set t)) (b : Core) where
    -- the row of the instruction is next
    is_next : (from to values : List ℕ) (sent : Net → Option ℕ) (ms : List Sent) → tile_takes set.topo t (Some ins) ≡ from → tile_sends set.topo t (Some ins) ≡ to
        → Does ins values a b sent → all_sent set t sent ≡ ms → IsNext set s t (Tile (at_tile k a)) (Tile (at_tile (k + 1) b)) from to values ms
    is_next from to values sent ms takes sends does ms_are =
        let g : GoesTo k b sent (row_of_ins ins (length (tile_code set t)) (at_tile k a) values) = does.row (length (tile_code set t)) k inside few in
        let e : tile_effect (tile_code set t) (at_tile k a) values ≡ row_of_ins ins (length (tile_code set t)) (at_tile k a) values = effect_is (tile_code set t) (at_tile k a) values ins next in
        record {
          here = here;
          going = not_stopped k (omega arith);
          takes_from = ap (tile_takes set.topo t) next ∙ takes;
          sends_to = ap (tile_sends set.topo t) next ∙ sends;
          leaves = ap (λ (f : TileEffect). Tile f.next) e ∙ ap Tile g.next;
          sent =
              ap (λ (f : TileEffect). sent_to (output_wire set.topo t 4) f.sent1 ++ sent_to (output_wire set.topo t 9) f.sent2) e
              ∙ ap (λ o. sent_to (output_wire set.topo t 4) o ++ sent_to (output_wire set.topo t 9) (row_of_ins ins (length (tile_code set t)) (at_tile k a) values).sent2) g.sent1
              ∙ ap (λ o. sent_to (output_wire set.topo t 4) (sent One) ++ sent_to (output_wire set.topo t 9) o) g.sent2
              ∙ ms_are;
        }

    -- an instruction without wires
    plain_ins : IsPlain ins → Does ins [] a b nothing → Leads set s (λ r. Changed s r t (Tile (at_tile (k + 1) b)) × SameWires s.wires r.wires)
    plain_ins plain does =
        plain_step set s t (Tile (at_tile k a)) (Tile (at_tile (k + 1) b))
        (is_next [] [] [] nothing [] (plain.takes set.topo t) (plain.sends set.topo t) does (nothing_sent set t))

    -- an instruction that sends a value
    pub send_step_of : (net : Net) (w x : ℕ) → output_wire set.topo t (tile_end net) ≡ Some w → IsSender net ins → Does ins [] a b (only net x)
        → length (values_on s.wires w) < set.depth → w < length s.wires → Leads set s (λ r. Changed s r t (Tile (at_tile (k + 1) b)) × HasCome w x s.wires r.wires)
    send_step_of net w x out sender does room within =
        send_step set s t (Tile (at_tile k a)) (Tile (at_tile (k + 1) b)) w x
        (is_next [] (w ∷ []) [] (only net x) (one_value w x) (sender.takes set.topo t) (sender.sends set.topo t ∙ ap (λ o. option_to_list o) out) does (one_sent set t net w x out))
        room within

    -- an instruction that takes a value
    pub take_step_of : (net : Net) (w x : ℕ) (xs : List ℕ) → input_wire set.topo t (tile_end net) ≡ Some w → IsTaker net ins → Does ins (x ∷ []) a b nothing
        → values_on s.wires w ≡ x ∷ xs → Leads set s (λ r. Changed s r t (Tile (at_tile (k + 1) b)) × IsGone w x s.wires r.wires)
    take_step_of net w x xs into taker does front =
        take_step set s t (Tile (at_tile k a)) (Tile (at_tile (k + 1) b)) w x xs
        (is_next (w ∷ []) [] (x ∷ []) nothing [] (taker.takes set.topo t ∙ ap (λ o. option_to_list o) into) (taker.sends set.topo t) does (nothing_sent set t))
        front

  -- a block of instructions without wires, which stands in the program behind `before`
  pub run_block : (block before after : List Instruction) (a b : Core) → tile_code set t ≡ before ++ (block ++ after) → 1 ≤ length after → Runs block a b
      → (s : MachineState) → slice_get s.locals t ≡ Some (Tile (at_tile (length before) a))
      → Leads set s (λ r. Changed s r t (Tile (at_tile (length before + length block) b)) × SameWires s.wires r.wires)
  run_block [] before after a b code some runs s here =
      stay set s (λ r. Changed s r t (Tile (at_tile (length before + 0) b)) × SameWires s.wires r.wires) (
        record {
          here =
              let none : length before ≡ length before + 0 = omega arith in
              here ∙ ap (λ k. Some (Tile (at_tile k a))) none ∙ ap (λ c. Some (Tile (at_tile (length before + 0) c))) runs;
          others = λ q ne. refl;
        },
        record { on = λ w. refl },
      )
  run_block (ins ∷ block) before after a b code some runs s here =
      let P : MachineState → Type 0 = λ r. Changed s r t (Tile (at_tile (length before + 1) runs.0)) × SameWires s.wires r.wires in
      let Q : MachineState → Type 0 = λ r. Changed s r t (Tile (at_tile (length before + suc (length block)) b)) × SameWires s.wires r.wires in
      let size : length (tile_code set t) ≡ length before + length (ins ∷ block ++ after) = ap length code ∙ length-append before (ins ∷ block ++ after) in
      let longer : length (before ++ ins ∷ []) ≡ length before + 1 = length-append before (ins ∷ []) in
      let total : length (before ++ ins ∷ []) + length block ≡ length before + suc (length block) = omega arith in
      then set s P Q
      (plain_ins s (length before) a here ins (ap (λ xs. slice_get xs (length before)) code ∙ at_place before ins (block ++ after)) (omega (arith, length-append block after)) runs.0 runs.1 runs.2)
      (λ r h.
      more set r (λ q. Changed r q t (Tile (at_tile (length (before ++ ins ∷ []) + length block) b)) × SameWires r.wires q.wires) Q
      (run_block block (before ++ ins ∷ []) after runs.0 b (code ∙ sym (append_assoc before (ins ∷ []) (block ++ after))) some runs.3 r
      (h.0.here ∙ ap (λ k. Some (Tile (at_tile k runs.0))) (sym longer)))
      (λ q g. (
        changed_twice s r q t (Tile (at_tile (length before + 1) runs.0)) (Tile (at_tile (length before + suc (length block)) b)) h.0 (subst (λ k. Changed r q t (Tile (at_tile k b))) total g.0),
        same_twice s.wires r.wires q.wires h.1 g.1,
      )))
