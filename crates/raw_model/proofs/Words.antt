-- Lists of words and bytes, and what is read from them.
use Rattle.std.proofs.Common.{◌≡◌, ◌≢◌, ℕ, ◌+◌, ◌^◌, ◌<◌, true, false, cond, eqb, ◌||◌, List, [], ◌∷◌, length, get_or, set, Option, Some, None, refl, sym, ap, ◌∙◌, subst, ⊎_elim, arith, length-set}
use Rattle.std.specs.Prelude.{slice_get, slice_index}
use Rattle.std.specs.Int.{w16, w32, to_be_bytes, from_be_bytes}
use Rattle.std.specs.List.{All}
use Rattle.std.proofs.lemmas.Bool.{false≢true, cases_lt, cases_Bool, eq-eqb, or_parts}
use Rattle.std.proofs.lemmas.List.{get_or_past, get_or-set_other}
use Rattle.std.proofs.lemmas.List.Elements.{All-nil, All-cons, All-head, All-tail, All-get_or, All-set, All-from_recursion}
use Rattle.std.proofs.lemmas.Option.{get_or_from_slice_get, slice_get_within}
use Rattle.raw_tile_isa.specs.Instruction.{is_network}
use Rattle.raw_model.specs.TileTable.{with_register, stored, half_at, word_at}

-- what holds of each element of a type holds of each element of a list
pub All-each : {X : Type 0} (P : X → Type 0) → ((x : X) → P x) → (xs : List X) → All P xs
All-each P each [] = All-nil P
All-each P each (x ∷ xs) = All-cons P x xs (each x) (All-each P each xs)

-- what holds of each element holds of the one at a place
pub all_at : {X : Type 0} (P : X → Type 0) (xs : List X) (i : ℕ) (x : X) → All P xs → slice_get xs i ≡ Some x → P x
all_at P xs i x all here = subst P (get_or_from_slice_get xs i x x here) (all i x (slice_get_within xs i x here))

-- what holds of each element and of the default holds of what is read at any place
pub read_at : {X : Type 0} (P : X → Type 0) (xs : List X) (i : ℕ) (d : X) → P d → All P xs → P (get_or xs i d)
read_at P xs i d at_default all =
    ⊎_elim
    (λ within. All-get_or P xs i d within all)
    (λ past. subst P (sym (get_or_past xs i d past)) at_default)
    (cases_lt i (length xs))

-- a word read at any place is a word, and so of bytes
pub word_in : (words : List ℕ) (i : ℕ) → All (λ word. word < 2 ^ 32) words → slice_index words i < 2 ^ 32
word_in words i all = read_at (λ word. word < 2 ^ 32) words i 0 (omega arith) all

pub byte_in : (bytes : List ℕ) (i : ℕ) → All (λ byte. byte < 256) bytes → slice_index bytes i < 256
byte_in bytes i all = read_at (λ byte. byte < 256) bytes i 0 (omega arith) all

-- a word, where there is one
abbrev pub IsWordIf : Option ℕ → Type 0
IsWordIf None = Unit {0}
IsWordIf (Some word) = word < 2 ^ 32

two_bytes : (a b : ℕ) → a < 256 → b < 256 → from_be_bytes w16 (a ∷ b ∷ []) < 2 ^ 16
two_bytes a b ha hb = omega arith

four_bytes : (a b c d : ℕ) → a < 256 → b < 256 → c < 256 → d < 256 → from_be_bytes w32 (a ∷ b ∷ c ∷ d ∷ []) < 2 ^ 32
four_bytes a b c d ha hb hc hd = omega arith

module _ (memory : List ℕ) (bytes : All (λ byte. byte < 256) memory) where
  -- half words and words in a memory
  pub half_below : (address : ℕ) → half_at memory address < 2 ^ 16
  half_below address =
      two_bytes (slice_index memory address) (slice_index memory (address + 1)) (byte_in memory address bytes) (byte_in memory (address + 1) bytes)

  pub word_below : (address : ℕ) → word_at memory address < 2 ^ 32
  word_below address =
      four_bytes (slice_index memory address) (slice_index memory (address + 1)) (slice_index memory (address + 2)) (slice_index memory (address + 3))
      (byte_in memory address bytes) (byte_in memory (address + 1) bytes) (byte_in memory (address + 2) bytes) (byte_in memory (address + 3) bytes)

-- the bytes of half words and words
pub bytes_of_half : (n : ℕ) → All (λ byte. byte < 256) (to_be_bytes w16 n)
bytes_of_half n = All-from_recursion (λ byte. byte < 256) (to_be_bytes w16 n) (omega arith, (omega arith, tt))

pub bytes_of_word : (n : ℕ) → All (λ byte. byte < 256) (to_be_bytes w32 n)
bytes_of_word n =
    All-from_recursion (λ byte. byte < 256) (to_be_bytes w32 n) (omega arith, (omega arith, (omega arith, (omega arith, tt))))

-- a memory keeps its size, and its bytes stay bytes
pub length-stored : (memory : List ℕ) (address : ℕ) (bytes : List ℕ) → length (stored memory address bytes) ≡ length memory
length-stored memory address [] = refl
length-stored memory address (byte ∷ bytes) =
    length-stored (set memory address byte) (address + 1) bytes ∙ length-set memory address byte

pub bytes_stored : (memory : List ℕ) (address : ℕ) (bytes : List ℕ) → All (λ byte. byte < 256) memory
    → All (λ byte. byte < 256) bytes → All (λ byte. byte < 256) (stored memory address bytes)
bytes_stored memory address [] old new = old
bytes_stored memory address (byte ∷ bytes) old new =
    bytes_stored (set memory address byte) (address + 1) bytes
    (All-set (λ byte. byte < 256) memory address byte (All-head (λ byte. byte < 256) byte bytes new) old)
    (All-tail (λ byte. byte < 256) byte bytes new)

-- the registers of a tile are words, and those that store nothing are 0
pub record AreRegisters (regs : List ℕ) : Type 0 where
  pub many : length regs ≡ 32
  pub words : All (λ word. word < 2 ^ 32) regs
  pub register_0 : slice_index regs 0 ≡ 0
  pub register_24 : slice_index regs 24 ≡ 0
  pub register_25 : slice_index regs 25 ≡ 0

other_than : (n m : ℕ) → eqb n m ≡ false → m ≢ n
other_than n m e same = false≢true (sym e ∙ eq-eqb n m (sym same))

-- and stay so after a write of a word
pub registers_written : (regs : List ℕ) (register value : ℕ) → AreRegisters regs → value < 2 ^ 32
    → AreRegisters (with_register regs register value)
registers_written regs register value are word =
    ⊎_elim
    (λ (e : (eqb register 0 || is_network register) ≡ true). subst AreRegisters (sym (ap (λ b. cond b regs (set regs register value)) e)) are)
    (λ (e : (eqb register 0 || is_network register) ≡ false). subst AreRegisters (sym (ap (λ b. cond b regs (set regs register value)) e)) (changed e))
    (cases_Bool (eqb register 0 || is_network register))
  where
    changed : (eqb register 0 || is_network register) ≡ false → AreRegisters (set regs register value)
    changed e =
        let parts = or_parts (eqb register 0) (is_network register) e in
        let networks = or_parts (eqb register 24) (eqb register 25) parts.1 in
        record {
          many = length-set regs register value ∙ are.many;
          words = All-set (λ word. word < 2 ^ 32) regs register value word are.words;
          register_0 = get_or-set_other regs register 0 value 0 (other_than register 0 parts.0) ∙ are.register_0;
          register_24 = get_or-set_other regs register 24 value 0 (other_than register 24 networks.0) ∙ are.register_24;
          register_25 = get_or-set_other regs register 25 value 0 (other_than register 25 networks.1) ∙ are.register_25;
        }
