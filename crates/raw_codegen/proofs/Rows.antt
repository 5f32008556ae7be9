-- What the instructions of scripts do to a tile that goes on straight.
use Rattle.std.proofs.Common.{◌≡◌, ℕ, ◌+◌, ◌-◌, ◌*◌, ◌%◌, ◌^◌, ◌<◌, ◌≤◌, false, cond, eqb, List, [], ◌∷◌, set, Option, Some, None, refl, sym, ap, ◌∙◌, subst, arith}
use Rattle.std.specs.Prelude.{slice_index}
use Rattle.std.specs.Int.{w32, to_be_bytes}
use Rattle.std.specs.Option.{option_to_list}
use Rattle.std.proofs.lemmas.Bool.{lt-ltb, le-leb, eq-eqb, or_parts}
use Rattle.std.proofs.lemmas.List.{append-nil}
use Rattle.std.proofs.Math.Nat.{mod-eq_of_lt}
use Rattle.raw_model.specs.declared.limits.TheConstants.{MEMORY_SIZE}
use Rattle.raw_codegen.specs.declared.limits.TheConstants.{WORDS_IN_REACH}
use Rattle.raw_tile_isa.specs.declared.limits.TheConstants.{MAX_TILE_CODE}
use Rattle.raw_tile_isa.specs.Instruction.{is_network}
use Rattle.raw_tile_isa.specs.Words.{word_add, sign_extended}
use Rattle.raw_grid.specs.declared.parts.Net.{Net}
use Rattle.raw_grid.specs.declared.parts.Net.TheVariants.{One, Two}
use Rattle.raw_grid.specs.Topology.{Topology}
use Rattle.raw_grid.specs.Wires.{input_wire, output_wire}
use Rattle.raw_model.specs.declared.marks.Mark.{Mark}
use Rattle.raw_model.specs.declared.marks.Mark.TheVariants.{Going, Trapped}
use Rattle.raw_model.specs.declared.marks.Cause.TheVariants.{Pc}
use Rattle.raw_model.specs.Local.{TileLocal}
use Rattle.raw_model.specs.TileTable.{TileEffect, mark_at, following, gives, gives_at, access_fault, unless_fault, word_at, loads, stores}
use Rattle.raw_codegen.specs.Straight.{Core, IsCore, at_tile, nothing, only, GoesTo, Does, IsPlain, IsSender, IsTaker}
use Rattle.raw_codegen.specs.Rows.{register_of, IsKeeping, send_ins, load_ins, store_ins, written, with_word}

abbrev at_mark : ℕ → ℕ → Mark → List ℕ → List ℕ → TileLocal
at_mark pc count mark regs memory = record { regs = regs; pc = pc; count = count; mark = mark; memory = memory }

goes_on : (size k : ℕ) (regs memory : List ℕ) → k + 1 < size → size ≤ MAX_TILE_CODE
    → at_mark ((k + 1) % 2 ^ 32) (k + 1) (mark_at size ((k + 1) % 2 ^ 32)) regs memory ≡ at_mark (k + 1) (k + 1) Going regs memory
goes_on size k regs memory h few =
    let small : k + 1 < 2 ^ 32 = omega arith in
    ap (λ pc. at_mark pc (k + 1) (mark_at size pc) regs memory) (mod-eq_of_lt small)
    ∙ ap (λ b. at_mark (k + 1) (k + 1) (cond b Going (Trapped Pc)) regs memory) (lt-ltb (k + 1) size h)

-- of a register that keeps what is written to it: it is not 0, and of no network
pub not_zero : (r : ℕ) → IsKeeping r → eqb r 0 ≡ false
not_zero r is = (or_parts (eqb r 0) (is_network r) is.keeps).0

pub not_network : (r : ℕ) → IsKeeping r → is_network r ≡ false
not_network r is = (or_parts (eqb r 0) (is_network r) is.keeps).1

not_one : (r : ℕ) → IsKeeping r → eqb r 24 ≡ false
not_one r is = (or_parts (eqb r 24) (eqb r 25) (not_network r is)).0

not_two : (r : ℕ) → IsKeeping r → eqb r 25 ≡ false
not_two r is = (or_parts (eqb r 24) (eqb r 25) (not_network r is)).1

-- a value for such a register
pub gives_to : (size k : ℕ) (a : Core) (r value : ℕ) (touched : Option ℕ) → IsKeeping r → k + 1 < size → size ≤ MAX_TILE_CODE
    → GoesTo k (written a r value) nothing (gives_at size (at_tile k a) r value ((k + 1) % 2 ^ 32) touched)
gives_to size k a r value touched is h few = record {
  next =
      ap (λ b. at_mark ((k + 1) % 2 ^ 32) (k + 1) (mark_at size ((k + 1) % 2 ^ 32)) (cond b a.regs (set a.regs r value)) a.memory) is.keeps
      ∙ goes_on size k (set a.regs r value) a.memory h few;
  sent1 = ap (λ b. cond b (Some value) None) (not_one r is);
  sent2 = ap (λ b. cond b (Some value) None) (not_two r is);
}

-- a value for a network
pub gives_network : (net : Net) (size k : ℕ) (a : Core) (value : ℕ) (touched : Option ℕ) → k + 1 < size → size ≤ MAX_TILE_CODE
    → GoesTo k a (only net value) (gives_at size (at_tile k a) (register_of net) value ((k + 1) % 2 ^ 32) touched)
gives_network One size k a value touched h few = record { next = goes_on size k a.regs a.memory h few; sent1 = refl; sent2 = refl }
gives_network Two size k a value touched h few = record { next = goes_on size k a.regs a.memory h few; sent1 = refl; sent2 = refl }

pub goes_same : (k : ℕ) (b : Core) (sent : Net → Option ℕ) (x y : TileEffect) → x ≡ y → GoesTo k b sent y → GoesTo k b sent x
goes_same k b sent x y e g = subst (GoesTo k b sent) (sym e) g

-- the address of a word
address_is : (v : ℕ) → v < WORDS_IN_REACH → word_add 0 (sign_extended (4 * v)) ≡ 4 * v
address_is v h =
    let below : 4 * v < 32768 = omega arith in
    let small : 0 + 4 * v < 2 ^ 32 = omega arith in
    let none : 0 + 4 * v ≡ 4 * v = omega arith in
    ap (λ b. word_add 0 (cond b (4 * v) (4 * v + (2 ^ 32 - 2 ^ 16)))) (lt-ltb (4 * v) 32768 below) ∙ mod-eq_of_lt small ∙ none

no_fault : (v : ℕ) → v < WORDS_IN_REACH → access_fault (4 * v) 4 ≡ None
no_fault v h =
    let aligned : 4 * v % 4 ≡ 0 = omega arith in
    let inside : 4 * v + 4 ≤ MEMORY_SIZE = omega arith in
    rw (eq-eqb (4 * v % 4) 0 aligned) (rw (le-leb (4 * v + 4) MEMORY_SIZE inside) refl)

-- a load of a word is not refused, and neither is a store
loads_is : (size : ℕ) (l : TileLocal) (r v a : ℕ) → a ≡ 0 → v < WORDS_IN_REACH
    → loads size l r (word_add a (sign_extended (4 * v))) 4 (word_at l.memory (word_add a (sign_extended (4 * v))))
    ≡ gives_at size l r (word_at l.memory (4 * v)) (following l) (Some (4 * v))
loads_is size l r v a e h =
    let address : word_add a (sign_extended (4 * v)) ≡ 4 * v = ap (λ x. word_add x (sign_extended (4 * v))) e ∙ address_is v h in
    ap (λ x. loads size l r x 4 (word_at l.memory x)) address
    ∙ ap (λ fault. unless_fault fault l (gives_at size l r (word_at l.memory (4 * v)) (following l) (Some (4 * v)))) (no_fault v h)

abbrev stores_to : ℕ → TileLocal → ℕ → ℕ → TileEffect
stores_to size l v x = record {
  next = record l { memory = with_word l.memory v x; pc = following l; count = l.count + 1; mark = mark_at size (following l) };
  sent1 = None;
  sent2 = None;
  touched = Some (4 * v);
}

stores_is : (size : ℕ) (l : TileLocal) (v a x : ℕ) → a ≡ 0 → v < WORDS_IN_REACH
    → stores size l (word_add a (sign_extended (4 * v))) (to_be_bytes w32 x) ≡ stores_to size l v x
stores_is size l v a x e h =
    let address : word_add a (sign_extended (4 * v)) ≡ 4 * v = ap (λ y. word_add y (sign_extended (4 * v))) e ∙ address_is v h in
    ap (λ y. stores size l y (to_be_bytes w32 x)) address
    ∙ ap (λ fault. unless_fault fault l (stores_to size l v x)) (no_fault v h)

stored_goes : (size k v x : ℕ) (a : Core) → k + 1 < size → size ≤ MAX_TILE_CODE
    → GoesTo k (record { regs = a.regs; memory = with_word a.memory v x }) nothing (stores_to size (at_tile k a) v x)
stored_goes size k v x a h few = record { next = goes_on size k a.regs (with_word a.memory v x) h few; sent1 = refl; sent2 = refl }

-- 'lw $r, 4v($0)'
pub load_does : (r v : ℕ) (a : Core) → IsKeeping r → IsCore a → v < WORDS_IN_REACH → Does (load_ins r v) [] a (written a r (word_at a.memory (4 * v))) nothing
load_does r v a keeps core h = record {
  row = λ size k l few.
      goes_same k (written a r (word_at a.memory (4 * v))) nothing _ _ (loads_is size (at_tile k a) r v (slice_index a.regs 0) core.register_0 h)
      (gives_to size k a r (word_at a.memory (4 * v)) (Some (4 * v)) keeps l few);
}

-- 'lw $24, 4v($0)' sends the word
pub load_sends : (net : Net) (v : ℕ) (a : Core) → IsCore a → v < WORDS_IN_REACH → Does (load_ins (register_of net) v) [] a a (only net (word_at a.memory (4 * v)))
load_sends net v a core h = record {
  row = λ size k l few.
      goes_same k a (only net (word_at a.memory (4 * v))) _ _ (loads_is size (at_tile k a) (register_of net) v (slice_index a.regs 0) core.register_0 h)
      (gives_network net size k a (word_at a.memory (4 * v)) (Some (4 * v)) l few);
}

-- 'sw $r, 4v($0)' with the word x in the register
pub store_does : (r v x : ℕ) (a : Core) → IsKeeping r → IsCore a → v < WORDS_IN_REACH → slice_index a.regs r ≡ x
    → Does (store_ins r v) [] a (record { regs = a.regs; memory = with_word a.memory v x }) nothing
store_does r v x a keeps core h e = record {
  row = λ size k l few.
      goes_same k (record { regs = a.regs; memory = with_word a.memory v x }) nothing _ _
      (ap (λ b. stores size (at_tile k a) (word_add (slice_index a.regs 0) (sign_extended (4 * v))) (to_be_bytes w32 (cond b 0 (slice_index a.regs r)))) (not_network r keeps)
      ∙ ap (λ y. stores size (at_tile k a) (word_add (slice_index a.regs 0) (sign_extended (4 * v))) (to_be_bytes w32 y)) e
      ∙ stores_is size (at_tile k a) v (slice_index a.regs 0) x core.register_0 h)
      (stored_goes size k v x a l few);
}

-- 'sw $24, 4v($0)' stores the word that comes
pub store_takes : (net : Net) (v x : ℕ) (a : Core) → IsCore a → v < WORDS_IN_REACH
    → Does (store_ins (register_of net) v) (x ∷ []) a (record { regs = a.regs; memory = with_word a.memory v x }) nothing
store_takes One v x a core h = record {
  row = λ size k l few.
      goes_same k (record { regs = a.regs; memory = with_word a.memory v x }) nothing _ _ (stores_is size (at_tile k a) v (slice_index a.regs 0) x core.register_0 h)
      (stored_goes size k v x a l few);
}
store_takes Two v x a core h = record {
  row = λ size k l few.
      goes_same k (record { regs = a.regs; memory = with_word a.memory v x }) nothing _ _ (stores_is size (at_tile k a) v (slice_index a.regs 0) x core.register_0 h)
      (stored_goes size k v x a l few);
}

-- 'addu $24, $r, $0' sends the word in the register
pub send_does : (net : Net) (r x : ℕ) (a : Core) → IsKeeping r → IsCore a → x < 2 ^ 32 → slice_index a.regs r ≡ x → Does (send_ins net r) [] a a (only net x)
send_does net r x a keeps core small e = record {
  row = λ size k l few.
      let none : x + 0 ≡ x = omega arith in
      goes_same k a (only net x) _ _
      (ap (λ b. gives size (at_tile k a) (register_of net) (word_add (cond b 0 (slice_index a.regs r)) (slice_index a.regs 0))) (not_network r keeps)
      ∙ ap (λ y. gives size (at_tile k a) (register_of net) (word_add y (slice_index a.regs 0))) e
      ∙ ap (λ y. gives size (at_tile k a) (register_of net) (word_add x y)) core.register_0
      ∙ ap (λ y. gives size (at_tile k a) (register_of net) (y % 2 ^ 32)) none
      ∙ ap (λ y. gives size (at_tile k a) (register_of net) y) (mod-eq_of_lt small))
      (gives_network net size k a x None l few);
}

pub no_source : (topo : Topology) (p r : ℕ) → IsKeeping r
    → cond (eqb r 24) (option_to_list (input_wire topo p 4)) (cond (eqb r 25) (option_to_list (input_wire topo p 9)) []) ≡ []
no_source topo p r is = rw (not_one r is) (rw (not_two r is) refl)

pub no_destination : (topo : Topology) (p r : ℕ) → IsKeeping r
    → cond (eqb r 24) (option_to_list (output_wire topo p 4)) (cond (eqb r 25) (option_to_list (output_wire topo p 9)) []) ≡ []
no_destination topo p r is = rw (not_one r is) (rw (not_two r is) refl)

pub load_plain : (r v : ℕ) → IsKeeping r → IsPlain (load_ins r v)
load_plain r v is = record { takes = λ topo p. refl; sends = λ topo p. rw (no_destination topo p r is) refl }

pub store_plain : (r v : ℕ) → IsKeeping r → IsPlain (store_ins r v)
store_plain r v is = record { takes = λ topo p. rw (no_source topo p r is) refl; sends = λ topo p. refl }

pub load_sender : (net : Net) (v : ℕ) → IsSender net (load_ins (register_of net) v)
load_sender One v = record { takes = λ topo p. refl; sends = λ topo p. append-nil (option_to_list (output_wire topo p 4)) }
load_sender Two v = record { takes = λ topo p. refl; sends = λ topo p. append-nil (option_to_list (output_wire topo p 9)) }

pub store_taker : (net : Net) (v : ℕ) → IsTaker net (store_ins (register_of net) v)
store_taker One v = record { takes = λ topo p. append-nil (option_to_list (input_wire topo p 4)); sends = λ topo p. refl }
store_taker Two v = record { takes = λ topo p. append-nil (option_to_list (input_wire topo p 9)); sends = λ topo p. refl }

pub send_sender : (net : Net) (r : ℕ) → IsKeeping r → IsSender net (send_ins net r)
send_sender One r is = record { takes = λ topo p. rw (no_source topo p r is) refl; sends = λ topo p. append-nil (option_to_list (output_wire topo p 4)) }
send_sender Two r is = record { takes = λ topo p. rw (no_source topo p r is) refl; sends = λ topo p. append-nil (option_to_list (output_wire topo p 9)) }
