-- The values for a switch's inputs.
use Rattle.std.proofs.Common.{◌≡◌, ℕ, zero, suc, ◌<◌, Bool, true, false, ◌&&◌, cond, Option, Some, None, is_some, List, [], ◌∷◌, drop, length, refl, sym, ap, ◌∙◌, arith}
use Rattle.std.specs.Prelude.{slice_get, slice_index_or}
use Rattle.std.specs.List.{list_all, filter, AllByRecursion}
use Rattle.std.specs.Option.{option_to_list}
use Rattle.std.proofs.lemmas.Bool.{and_parts}
use Rattle.std.proofs.lemmas.Option.{same_Some}
use Rattle.raw_grid.specs.Topology.{Topology}
use Rattle.raw_grid.specs.Wires.{input_wire}
use Rattle.raw_switch_isa.specs.Instruction.{SwitchInstruction}
use Rattle.raw_switch_isa.specs.declared.instruction.SwitchSource.{SwitchSource}
use Rattle.raw_switch_isa.specs.Ends.{ends, has_end, is_used_input, is_filled, route_source}
use Rattle.raw_model.specs.Program.{has_wires}
use Rattle.raw_model.specs.SwitchTable.{source_value, routed}
use Rattle.raw_model.specs.Machine.{given_first, given_at, given_to, taken_at, filled_at, switch_takes, switch_sends}
use Rattle.raw_model.proofs.Given.{each_kept, end_at, full_by, is_full, some_first}
use Rattle.raw_switch.specs.Given.{IsGivenFor, takes_from}
use Rattle.raw_processor.specs.declared.end_wires.EndWires.{EndWires}
use Rattle.raw_processor.specs.Ends.{AreEndsOf}
use Rattle.raw_processor.specs.Given.{all_have_wires, wire_in, wires_in, sends_to, handed}
use Rattle.raw_processor.proofs.EndLists.{flat_alike, no_wire}

ends_below : AllByRecursion (λ end. end < 10) ends
unfolding ends
ends_below = (omega arith, (omega arith, (omega arith, (omega arith, (omega arith, (omega arith, (omega arith, (omega arith, (omega arith, (omega arith, tt))))))))))

-- the wire that a word has is the one that the instruction takes from
pub taken_alike : (topo : Topology) (p : ℕ) (e : EndWires) (ins : SwitchInstruction) (word : ℕ) → AreEndsOf topo p e
    → ((end : ℕ) → has_end word end ≡ is_used_input ins end)
    → (end : ℕ) → end < 10 → wire_in word e.inputs end ≡ taken_at topo p ins end
taken_alike topo p e ins word are bits end h =
    ap (λ test. cond test (option_to_list (slice_index_or e.inputs end None)) []) (bits end)
    ∙ ap (λ wire. cond (is_used_input ins end) (option_to_list wire) []) (are.inputs end h)

-- the values handed out are those given by input
handed_alike : (topo : Topology) (p : ℕ) (wires : List (Option ℕ)) (ins : SwitchInstruction) (word : ℕ)
    → ((end : ℕ) → end < 10 → wire_in word wires end ≡ taken_at topo p ins end)
    → (es : List ℕ) → AllByRecursion (λ end. end < 10) es → (values : List ℕ) → handed word wires es values ≡ given_at topo p ins es values
handed_alike topo p wires ins word alike [] below values = refl
handed_alike topo p wires ins word alike (end ∷ es) below values =
    ap (λ ws. given_first ws values ∷ handed word wires es (drop (length ws) values)) (alike end below.0)
    ∙ ap (λ us. given_first (taken_at topo p ins end) values ∷ us)
    (handed_alike topo p wires ins word alike es below.1 (drop (length (taken_at topo p ins end)) values))

pub given_is : (topo : Topology) (p : ℕ) (e : EndWires) (ins : SwitchInstruction) (word : ℕ) (values : List ℕ) → AreEndsOf topo p e
    → ((end : ℕ) → has_end word end ≡ is_used_input ins end)
    → handed word e.inputs ends values ≡ given_at topo p ins ends values
given_is topo p e ins word values are bits =
    handed_alike topo p e.inputs ins word (taken_alike topo p e ins word are bits) ends ends_below values

some_handed : (word : ℕ) (wires : List (Option ℕ)) (es values : List ℕ) (k end : ℕ) → slice_get es k ≡ Some end
    → is_some (slice_index_or (handed word wires es values) k None) ≡ is_full (wire_in word wires end)
some_handed word wires [] values k end e = absurd (cc)
some_handed word wires (x ∷ es) values zero end e =
    some_first (wire_in word wires x) values ∙ ap (λ i. is_full (wire_in word wires i)) (same_Some x end e)
some_handed word wires (x ∷ es) values (suc k) end e = some_handed word wires es (drop (length (wire_in word wires x)) values) k end e

-- a value is given for each input that the instruction takes from
pub is_given : (topo : Topology) (p : ℕ) (e : EndWires) (ins : SwitchInstruction) (word : ℕ) (values : List ℕ) → AreEndsOf topo p e
    → has_wires topo p ins ≡ true → ((end : ℕ) → has_end word end ≡ is_used_input ins end)
    → IsGivenFor (Some ins) (handed word e.inputs ends values)
is_given topo p e ins word values are wired bits = record {
  each = λ end h.
      some_handed word e.inputs ends values end end (end_at end h)
      ∙ ap is_full (taken_alike topo p e ins word are bits end h)
      ∙ full_by (is_used_input ins end) (input_wire topo p end)
      (each_kept (λ i. is_some (input_wire topo p i)) (is_used_input ins) ends end end (and_parts _ _ wired).0 (end_at end h));
}

-- two tests that are alike at each end
alike_by : (test other : ℕ → Bool) (b : Bool) (x : ℕ) (es : List ℕ) → test x ≡ other x → list_all test es ≡ list_all other es
    → list_all test (cond b (x ∷ es) es) ≡ list_all other (cond b (x ∷ es) es)
alike_by test other true x es e rest = ap (λ q. q && list_all test es) e ∙ ap (λ r. other x && r) rest
alike_by test other false x es e rest = rest

all_alike : (test other has : ℕ → Bool) → ((end : ℕ) → end < 10 → test end ≡ other end) → (es : List ℕ) → AllByRecursion (λ end. end < 10) es
    → list_all test (filter has es) ≡ list_all other (filter has es)
all_alike test other has alike [] below = refl
all_alike test other has alike (x ∷ es) below =
    alike_by test other (has x) x (filter has es) (alike x below.0) (all_alike test other has alike es below.1)

-- the ends of a word have wires as those that an instruction names have
pub wires_alike : (word : ℕ) (wires : List (Option ℕ)) (wire : ℕ → Option ℕ) (named : List ℕ)
    → ((end : ℕ) → end < 10 → slice_index_or wires end None ≡ wire end) → filter (has_end word) ends ≡ named
    → all_have_wires word wires ends ≡ list_all (λ end. is_some (wire end)) named
wires_alike word wires wire named are listed =
    all_alike (λ end. is_some (slice_index_or wires end None)) (λ end. is_some (wire end)) (has_end word)
    (λ end h. ap is_some (are end h)) ends ends_below
    ∙ ap (λ es. list_all (λ end. is_some (wire end)) es) listed

-- a word without ends names no wires
none_named : (word : ℕ) (wires : List (Option ℕ)) → ((end : ℕ) → has_end word end ≡ false) → wires_in word wires ≡ []
unfolding ends
none_named word wires off = flat_alike (wire_in word wires) (λ end. []) (λ end below. no_wire word wires end (off end))

-- the wires that words name are those that the next instruction takes from and sends to
pub takes_named : (topo : Topology) (p : ℕ) (e : EndWires) (next : Option SwitchInstruction) (word : ℕ) → AreEndsOf topo p e
    → ((end : ℕ) → has_end word end ≡ takes_from next end) → wires_in word e.inputs ≡ switch_takes topo p next
takes_named topo p e None word are bits = none_named word e.inputs bits
takes_named topo p e (Some ins) word are bits =
    flat_alike (wire_in word e.inputs) (taken_at topo p ins) (taken_alike topo p e ins word are bits)

pub sends_named : (topo : Topology) (p : ℕ) (e : EndWires) (next : Option SwitchInstruction) (word : ℕ) → AreEndsOf topo p e
    → ((end : ℕ) → has_end word end ≡ sends_to next end) → wires_in word e.outputs ≡ switch_sends topo p next
sends_named topo p e None word are bits = none_named word e.outputs bits
sends_named topo p e (Some ins) word are bits =
    flat_alike (wire_in word e.outputs) (filled_at topo p ins)
    (λ end h.
    ap (λ test. cond test (option_to_list (slice_index_or e.outputs end None)) []) (bits end)
    ∙ ap (λ wire. cond (is_filled ins end) (option_to_list wire) []) (are.outputs end h))

-- the values handed out are those given to the next instruction, and there is one for each input that it takes from
pub given_next : (topo : Topology) (p : ℕ) (e : EndWires) (next : Option SwitchInstruction) (word : ℕ) (values : List ℕ) → AreEndsOf topo p e
    → is_some next ≡ true → ((end : ℕ) → has_end word end ≡ takes_from next end) → handed word e.inputs ends values ≡ given_to topo p next values
given_next topo p e None word values are there bits = cc there
given_next topo p e (Some ins) word values are there bits = given_is topo p e ins word values are bits

pub given_for : (topo : Topology) (p : ℕ) (e : EndWires) (next : Option SwitchInstruction) (word : ℕ) (values : List ℕ) → AreEndsOf topo p e
    → ((ins : SwitchInstruction) → next ≡ Some ins → has_wires topo p ins ≡ true)
    → ((end : ℕ) → has_end word end ≡ takes_from next end) → IsGivenFor next (handed word e.inputs ends values)
unfolding is_full
given_for topo p e None word values are wired bits = record {
  each = λ end h. some_handed word e.inputs ends values end end (end_at end h) ∙ ap is_full (no_wire word e.inputs end (bits end));
}
given_for topo p e (Some ins) word values are wired bits = is_given topo p e ins word values are (wired ins refl) bits

-- an output that the next instruction sends nothing to has no value
unrouted_by : (o : Option SwitchSource) (regs : List ℕ) (given : List (Option ℕ)) → is_some o ≡ false → source_value regs given o ≡ None
unrouted_by None regs given off = refl
unrouted_by (Some source) regs given off = cc off

pub unrouted_at : (ins : SwitchInstruction) (regs : List ℕ) (given : List (Option ℕ)) (end : ℕ) → is_filled ins end ≡ false
    → slice_index_or (routed ins regs given) end None ≡ None
unfolding ends
unrouted_at ins regs given (suc (suc (suc (suc (suc (suc (suc (suc (suc (suc end)))))))))) off = refl
unrouted_at ins regs given _ off = unrouted_by _ regs given off

-- each output has the value of its route
pub routed_end : (ins : SwitchInstruction) (regs : List ℕ) (given : List (Option ℕ)) (end : ℕ) → end < 10
    → slice_index_or (routed ins regs given) end None ≡ source_value regs given (route_source ins end)
unfolding ends
routed_end ins regs given (suc (suc (suc (suc (suc (suc (suc (suc (suc (suc k)))))))))) h = absurd (omega arith)
routed_end ins regs given _ h = refl

-- both tests hold, or the first fails
pub second_is : (a b q r : Bool) → q ≡ true → q ≡ a → r ≡ b → r ≡ (a && b)
second_is a b q r on is_a is_b = is_b ∙ ap (λ t. t && b) (sym on ∙ is_a)

pub first_is : (a b q : Bool) → q ≡ false → q ≡ a → q ≡ (a && b)
first_is a b q off is_a = off ∙ ap (λ t. t && b) (sym off ∙ is_a)
