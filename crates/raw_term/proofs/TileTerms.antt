-- Rows of tiles on terms do on their values what the rows of the machine do.
use Rattle.std.proofs.Common.{◌≡◌, ℕ, ◌+◌, ◌*◌, ◌/◌, ◌%◌, ◌^◌, ◌<◌, ◌≤◌, Bool, true, false, ◌||◌, cond, List, [], ◌∷◌, length, get_or, set, Option, Some, None, refl, sym, ap, ◌∙◌, subst, inl, inr, ⊎_elim, ◌⊎◌, arith}
use Rattle.std.specs.Prelude.{slice_index, ◌==◌, not, nat_le}
use Rattle.std.specs.Int.{w16, w32, to_be_bytes, from_be_bytes}
use Rattle.std.specs.List.{All}
use Rattle.std.proofs.lemmas.List.Elements.{All-nil, All-cons}
use Rattle.std.proofs.lemmas.Nat.{from_be_bytes-to_be_bytes_4}
use Rattle.std.proofs.lemmas.Bool.{cases_eq, cases_lt, eqb-true, leb-true}
use Rattle.std.proofs.lemmas.List.{length-set, get_or-set_same, get_or-set_other}
use Rattle.std.proofs.lemmas.Bool.Decides.{nat_tests}
use Rattle.raw_tile_isa.specs.declared.table.TileOp.{TileOp}
use Rattle.raw_tile_isa.specs.declared.table.TileOp.TheVariants.{Sll, Srl, Sra, Sllv, Srlv, Srav, Jr, Jalr, Addu, Subu, And, Or, Xor, Nor, Slt, Sltu, Mul, Mulhi, Mulhu, Clz, Popc, Halt, Bltz, Bgez, Beq, Bne, Blez, Bgtz, Addiu, Slti, Sltiu, Andi, Ori, Xori, Lui, Lb, Lh, Lw, Lbu, Lhu, Sb, Sh, Sw, J, Jal}
use Rattle.raw_tile_isa.specs.declared.networks.TheConstants.{LINK}
use Rattle.raw_tile_isa.specs.Instruction.{Instruction, IsField, is_network}
use Rattle.raw_tile_isa.specs.Words.{word_add, word_leading_zeros, word_ones, sign_extended, sign_extended_byte, EachGivesWords}
use Rattle.raw_model.specs.declared.marks.Mark.{Mark}
use Rattle.raw_model.specs.declared.marks.Mark.TheVariants as mark
use Rattle.raw_model.specs.declared.marks.Cause.{Cause}
use Rattle.raw_model.specs.declared.marks.Cause.TheVariants.{Misaligned, PastMemory}
use Rattle.raw_model.specs.Local.{TileLocal}
use Rattle.raw_model.specs.TileTable.{TileEffect, mark_at, gives_at, gives, goes, stops, following, is_below_zero, is_above_zero, address_of, access_fault, unless_fault, loads, stores, stored, half_at, word_at, row_effect}
use Rattle.raw_model.proofs.Words.{length-stored, bytes_stored, bytes_of_half, bytes_of_word, byte_in as byte_below, half_below, word_below}
use Rattle.raw_flow.specs.declared.node.FlowOp.{FlowOp}
use Rattle.raw_flow.specs.declared.node.FlowOp.TheVariants as op
use Rattle.raw_flow.specs.declared.node.Node.{Node}
use Rattle.raw_flow.specs.declared.node.Node.TheVariants.{Const}
use Rattle.raw_flow.specs.Flows.{applied}
use Rattle.raw_term.specs.Terms.{word_of, Numbered, with_node, made}
use Rattle.raw_term.specs.declared.action.Operand.{Operand}
use Rattle.raw_term.specs.declared.action.Operand.TheVariants.{Rs, Rt, Immediate}
use Rattle.raw_term.specs.declared.action.Action.{Action}
use Rattle.raw_term.specs.declared.action.Action.TheVariants.{Make, Give, Go, Stop, Load, Store, Read, Write}
use Rattle.raw_term.specs.TermRows.{with_one, with_two, byte_in, half_in, word_with, part_action, part_bytes, unless_trap, on_part, action_of, TileTerms, term_at, put, made_second, stored_term, stores_term, put_cell, acted}
use Rattle.raw_term.proofs.Terms.{Holds, AreTerms, IsMade, some_is, none_some, word_holds, made_keeps, term_values}
use Rattle.raw_term.proofs.Forms.{word_made, made_is}
use Rattle.raw_term.proofs.Image.{Pairs, pairs_up}
use Rattle.raw_term.proofs.SwitchImage.{Maybe, pairs_set}
use Rattle.raw_term.proofs.Parts.{byte_read, half_read, word_written, word_kept}

-- a tile whose registers and memory hold numbers of terms
abbrev pub coded : TileLocal → List ℕ → List ℕ → TileLocal
coded m regs memory = record m { regs = regs; memory = memory }

-- they stand for those of a tile: registers one by one, and each word of the memory
pub record AlikeCore (values regs memory : List ℕ) (m : TileLocal) : Type 0 where
  pub each : Pairs (Holds values) regs m.regs
  pub many : length memory ≡ 16384
  pub size : length m.memory ≡ 65536
  pub bytes : All (λ byte. byte < 256) m.memory
  pub words : (i : ℕ) → i < 16384 → Holds values (slice_index memory i) (word_at m.memory (4 * i))

pub record AlikeTile (values : List ℕ) (l m : TileLocal) : Type 0 where
  pub rest : l ≡ coded m l.regs l.memory
  pub core : AlikeCore values l.regs l.memory m

pub record AlikeEffect (values : List ℕ) (e f : TileEffect) : Type 0 where
  pub next : AlikeTile values e.next f.next
  pub sent1 : Maybe (Holds values) e.sent1 f.sent1
  pub sent2 : Maybe (Holds values) e.sent2 f.sent2
  pub touched : e.touched ≡ f.touched

-- a row with terms that does what a row of the machine does
pub record TileMade (inputs : List ℕ) (nodes : List Node) (t : TileTerms) (e : TileEffect) : Type 0 where
  pub terms : AreTerms inputs t.nodes
  pub keeps : (c y : ℕ) → Holds (term_values inputs nodes) c y → Holds (term_values inputs t.nodes) c y
  pub effect : AlikeEffect (term_values inputs t.nodes) t.effect e

-- the value of an operand, and that a word of an instruction is one
abbrev pub operand_value : Operand → ℕ → ℕ → ℕ
operand_value Rs x y = x
operand_value Rt x y = y
operand_value (Immediate word) x y = word

abbrev pub IsSmall : Operand → Type 0
IsSmall (Immediate word) = word < 2 ^ 32
IsSmall _ = Unit {0}

-- bytes are stored in one memory word, which becomes this word
abbrev pub written : ℕ → TileLocal → ℕ → List ℕ → TileEffect
written size m address part =
    record {
      next = record m { memory = stored m.memory address part; pc = following m; count = m.count + 1; mark = mark_at size (following m) };
      sent1 = None;
      sent2 = None;
      touched = Some address;
    }

pub record IsWritten (size : ℕ) (m : TileLocal) (e : TileEffect) (address word : ℕ) : Type 0 where
  pub part : List ℕ
  pub effect : e ≡ written size m address part
  pub is : word ≡ word_with (word_at m.memory (4 * (address / 4))) address part
  pub bytes : All (λ byte. byte < 256) part
  pub inside : address % 4 + length part ≤ 4
  pub within : address < 65536

-- what an effect on words has to be for what is done
abbrev pub IsEffectOf : ℕ → TileLocal → ℕ → ℕ → TileEffect → Action → Type 0
IsEffectOf size m x y e (Make f first second register) = (e ≡ gives size m register (applied f (operand_value first x y) (operand_value second x y))) × IsSmall first × IsSmall second
IsEffectOf size m x y e (Give register word pc) = (e ≡ gives_at size m register word pc None) × (word < 2 ^ 32)
IsEffectOf size m x y e (Go pc) = e ≡ goes size m pc
IsEffectOf size m x y e (Stop mark) = e ≡ stops m mark
IsEffectOf size m x y e (Load register address) = e ≡ loads size m register address 4 (word_at m.memory address)
IsEffectOf size m x y e (Store address) = e ≡ stores size m address (to_be_bytes w32 y)
IsEffectOf size m x y e (Read register address word) = (e ≡ gives_at size m register word (following m) (Some address)) × (word < 2 ^ 32)
IsEffectOf size m x y e (Write address word) = IsWritten size m e address word

-- a word that is known is the value
abbrev pub Known : Option ℕ → ℕ → Type 0
Known None x = Unit {0}
Known (Some w) x = w ≡ x

extends_byte : (byte : ℕ) → byte < 256 → sign_extended_byte byte < 2 ^ 32
extends_byte byte h = grind (arith, nat_tests, h)

extends_half : (half : ℕ) → half < 2 ^ 16 → sign_extended half < 2 ^ 32
extends_half half h = grind (arith, nat_tests, h)

one_byte : (y : ℕ) → All (λ byte. byte < 256) (y % 2 ^ 8 ∷ [])
one_byte y = All-cons (λ byte. byte < 256) (y % 2 ^ 8) [] (omega arith) (All-nil (λ byte. byte < 256))

-- a lawful access
fault_none : (address n : ℕ) → access_fault address n ≡ None → (address % n ≡ 0) × (address + n ≤ 65536)
fault_none address n e = by (address % n == 0) (nat_le (address + n) 65536) refl refl e where
  by : (b c : Bool) → (address % n == 0) ≡ b → nat_le (address + n) 65536 ≡ c → cond b (cond {A = Option Cause} c None (Some PastMemory)) (Some Misaligned) ≡ None → (address % n ≡ 0) × (address + n ≤ 65536)
  by true true is fits g = (eqb-true (address % n) 0 is, leb-true (address + n) 65536 fits)
  by true false is fits g = none_some PastMemory (sym g)
  by false c is fits g = none_some Misaligned (sym g)

-- the word of the memory word at an address, where it is known
abbrev pub KnownCell : TileLocal → ℕ → Option ℕ → Type 0
KnownCell m address None = Unit {0}
KnownCell m address (Some w) = address < 65536 → w ≡ word_at m.memory (4 * (address / 4))

module _ (each : EachGivesWords) (size : ℕ) (m : TileLocal) (ins : Instruction) (x y : ℕ) (sx : x < 2 ^ 32) (imm : ins.imm < 2 ^ 16) (sh : ins.sh < 32) (bytes : All (λ byte. byte < 256) m.memory) (d : Action) where
  here : (e : TileEffect) (f : Action) → Some f ≡ Some d → IsEffectOf size m x y e f → IsEffectOf size m x y e d
  here e f g h = subst (λ k. IsEffectOf size m x y e k) (some_is f d g) h

  one : (e : TileEffect) (a : Option ℕ) (f : ℕ → Action) → Known a x → with_one a f ≡ Some d → IsEffectOf size m x y e (f x) → IsEffectOf size m x y e d
  one e None f k g h = none_some d g
  one e (Some w) f k g h = here e (f w) g (subst (λ v. IsEffectOf size m x y e (f v)) (sym k) h)

  two : (e : TileEffect) (a b : Option ℕ) (f : ℕ → ℕ → Action) → Known a x → Known b y → with_two a b f ≡ Some d → IsEffectOf size m x y e (f x y) → IsEffectOf size m x y e d
  two e None b f k j g h = none_some d g
  two e (Some w) None f k j g h = none_some d g
  two e (Some w) (Some v) f k j g h = here e (f w v) g (subst (λ u. IsEffectOf size m x y e (f u v)) (sym k) (subst (λ u. IsEffectOf size m x y e (f x u)) (sym j) h))

  extended : sign_extended ins.imm < 2 ^ 32
  extended = grind (arith, nat_tests, imm)

  next_small : following m < 2 ^ 32
  next_small = omega arith

  -- parts of memory words
  abbrev A : ℕ
  A = address_of ins x

  abbrev W : ℕ
  W = word_at m.memory (4 * (A / 4))

  part_fault : (o : Option Cause) (action : Option Action) (e : TileEffect) → unless_trap o action ≡ Some d → (o ≡ None → action ≡ Some d → IsEffectOf size m x y e d)
      → IsEffectOf size m x y (unless_fault o m e) d
  part_fault None action e g h = h refl g
  part_fault (Some cause) action e g h = here (stops m (mark.Trapped cause)) (Stop (mark.Trapped cause)) g refl

  part_row : (o : TileOp) (e : TileEffect) (a b c : Option ℕ) → Known a x → on_part o ins a b c ≡ Some d → (access_fault A (part_bytes o) ≡ None → part_action o ins A b c ≡ Some d → IsEffectOf size m x y e d)
      → IsEffectOf size m x y (unless_fault (access_fault A (part_bytes o)) m e) d
  part_row o e None b c k g h = none_some d g
  part_row o e (Some w) b c k g h =
      part_fault (access_fault A (part_bytes o)) (part_action o ins A b c) e (subst (λ v. on_part o ins (Some v) b c ≡ Some d) k g) h

  read_is : (c : Option ℕ) (f : ℕ → ℕ) (v : ℕ) → KnownCell m A c → A < 65536 → with_one c (λ w. Read ins.rt A (f w)) ≡ Some d → f W ≡ v → v < 2 ^ 32
      → IsEffectOf size m x y (gives_at size m ins.rt v (following m) (Some A)) d
  read_is None f v k inside g is small = none_some d g
  read_is (Some w) f v k inside g is small =
      here (gives_at size m ins.rt v (following m) (Some A)) (Read ins.rt A (f w)) g
      (subst (λ u. (gives_at size m ins.rt v (following m) (Some A) ≡ gives_at size m ins.rt u (following m) (Some A)) × (u < 2 ^ 32)) (sym (ap f (k inside) ∙ is)) (refl, small))

  write_is : (c b : Option ℕ) (f : ℕ → List ℕ) → KnownCell m A c → Known b y → A < 65536 → A % 4 + length (f y) ≤ 4 → All (λ byte. byte < 256) (f y)
      → with_two c b (λ w v. Write A (word_with w A (f v))) ≡ Some d → IsEffectOf size m x y (written size m A (f y)) d
  write_is None b f k j within inside all g = none_some d g
  write_is (Some w) None f k j within inside all g = none_some d g
  write_is (Some w) (Some v) f k j within inside all g =
      here (written size m A (f y)) (Write A (word_with w A (f v))) g
      (record { part = f y; effect = refl; is = ap (λ u. word_with u A (f v)) (k within) ∙ ap (λ u. word_with W A (f u)) j; bytes = all; inside = inside; within = within })

  whole : 4 * (A / 4) + A % 4 ≡ A
  whole = omega arith

  byte_here : byte_in W A ≡ slice_index m.memory A
  byte_here = byte_read m.memory (4 * (A / 4)) bytes (A % 4) (omega arith) ∙ ap (λ i. slice_index m.memory i) whole

  half_here : A % 2 ≡ 0 → half_in W A ≡ half_at m.memory A
  half_here even = half_read m.memory (4 * (A / 4)) bytes (A % 4) (omega (arith, even)) ∙ ap (λ i. half_at m.memory i) whole

  small_byte : slice_index m.memory A < 256
  small_byte = byte_below m.memory A bytes

  small_half : half_at m.memory A < 2 ^ 16
  small_half = half_below m.memory bytes A

  extended_byte : sign_extended_byte (slice_index m.memory A) < 2 ^ 32
  extended_byte = extends_byte (slice_index m.memory A) small_byte

  extended_half : sign_extended (half_at m.memory A) < 2 ^ 32
  extended_half = extends_half (half_at m.memory A) small_half

  byte_inside : access_fault A 1 ≡ None → A < 65536
  byte_inside e = omega (arith, (fault_none A 1 e).1)

  half_inside : access_fault A 2 ≡ None → A < 65536
  half_inside e = omega (arith, (fault_none A 2 e).1)

  abbrev Row : TileOp → TileEffect
  Row o = row_effect o size m ins x y

  pub row_is : (o : TileOp) (a b c : Option ℕ) → Known a x → Known b y → KnownCell m A c → action_of o (following m) ins a b c ≡ Some d → IsEffectOf size m x y (Row o) d
  row_is Sll a b c ka kb kc g = here (Row Sll) (Make op.ShiftLeft Rt (Immediate ins.sh) ins.rd) g (refl, tt, omega arith)
  row_is Srl a b c ka kb kc g = here (Row Srl) (Make op.ShiftRight Rt (Immediate ins.sh) ins.rd) g (refl, tt, omega arith)
  row_is Sra a b c ka kb kc g = here (Row Sra) (Make op.ShiftRightSigned Rt (Immediate ins.sh) ins.rd) g (refl, tt, omega arith)
  row_is Sllv a b c ka kb kc g = here (Row Sllv) (Make op.ShiftLeft Rt Rs ins.rd) g (refl, tt, tt)
  row_is Srlv a b c ka kb kc g = here (Row Srlv) (Make op.ShiftRight Rt Rs ins.rd) g (refl, tt, tt)
  row_is Srav a b c ka kb kc g = here (Row Srav) (Make op.ShiftRightSigned Rt Rs ins.rd) g (refl, tt, tt)
  row_is Jr a b c ka kb kc g = one (Row Jr) a (λ v. Go v) ka g refl
  row_is Jalr a b c ka kb kc g = one (Row Jalr) a (λ v. Give ins.rd (following m) v) ka g (refl, next_small)
  row_is Addu a b c ka kb kc g = here (Row Addu) (Make op.Add Rs Rt ins.rd) g (refl, tt, tt)
  row_is Subu a b c ka kb kc g = here (Row Subu) (Make op.Sub Rs Rt ins.rd) g (refl, tt, tt)
  row_is And a b c ka kb kc g = here (Row And) (Make op.And Rs Rt ins.rd) g (refl, tt, tt)
  row_is Or a b c ka kb kc g = here (Row Or) (Make op.Or Rs Rt ins.rd) g (refl, tt, tt)
  row_is Xor a b c ka kb kc g = here (Row Xor) (Make op.Xor Rs Rt ins.rd) g (refl, tt, tt)
  row_is Nor a b c ka kb kc g = here (Row Nor) (Make op.Nor Rs Rt ins.rd) g (refl, tt, tt)
  row_is Slt a b c ka kb kc g = here (Row Slt) (Make op.Less Rs Rt ins.rd) g (refl, tt, tt)
  row_is Sltu a b c ka kb kc g = here (Row Sltu) (Make op.LessUnsigned Rs Rt ins.rd) g (refl, tt, tt)
  row_is Mul a b c ka kb kc g = here (Row Mul) (Make op.Mul Rs Rt ins.rd) g (refl, tt, tt)
  row_is Mulhi a b c ka kb kc g = here (Row Mulhi) (Make op.MulHigh Rs Rt ins.rd) g (refl, tt, tt)
  row_is Mulhu a b c ka kb kc g = here (Row Mulhu) (Make op.MulHighUnsigned Rs Rt ins.rd) g (refl, tt, tt)
  row_is Clz a b c ka kb kc g = one (Row Clz) a (λ v. Give ins.rd (word_leading_zeros v) (following m)) ka g (refl, (each x x sx sx).leading_zeros)
  row_is Popc a b c ka kb kc g = one (Row Popc) a (λ v. Give ins.rd (word_ones v) (following m)) ka g (refl, (each x x sx sx).ones)
  row_is Halt a b c ka kb kc g = here (Row Halt) (Stop mark.Halted) g refl
  row_is Bltz a b c ka kb kc g = one (Row Bltz) a (λ v. Go (cond (is_below_zero v) (word_add (following m) (sign_extended ins.imm)) (following m))) ka g refl
  row_is Bgez a b c ka kb kc g = one (Row Bgez) a (λ v. Go (cond (not (is_below_zero v)) (word_add (following m) (sign_extended ins.imm)) (following m))) ka g refl
  row_is Beq a b c ka kb kc g = two (Row Beq) a b (λ v w. Go (cond (v == w) (word_add (following m) (sign_extended ins.imm)) (following m))) ka kb g refl
  row_is Bne a b c ka kb kc g = two (Row Bne) a b (λ v w. Go (cond (not (v == w)) (word_add (following m) (sign_extended ins.imm)) (following m))) ka kb g refl
  row_is Blez a b c ka kb kc g = one (Row Blez) a (λ v. Go (cond (not (is_above_zero v)) (word_add (following m) (sign_extended ins.imm)) (following m))) ka g refl
  row_is Bgtz a b c ka kb kc g = one (Row Bgtz) a (λ v. Go (cond (is_above_zero v) (word_add (following m) (sign_extended ins.imm)) (following m))) ka g refl
  row_is Addiu a b c ka kb kc g = here (Row Addiu) (Make op.Add Rs (Immediate (sign_extended ins.imm)) ins.rt) g (refl, tt, extended)
  row_is Slti a b c ka kb kc g = here (Row Slti) (Make op.Less Rs (Immediate (sign_extended ins.imm)) ins.rt) g (refl, tt, extended)
  row_is Sltiu a b c ka kb kc g = here (Row Sltiu) (Make op.LessUnsigned Rs (Immediate (sign_extended ins.imm)) ins.rt) g (refl, tt, extended)
  row_is Andi a b c ka kb kc g = here (Row Andi) (Make op.And Rs (Immediate ins.imm) ins.rt) g (refl, tt, omega arith)
  row_is Ori a b c ka kb kc g = here (Row Ori) (Make op.Or Rs (Immediate ins.imm) ins.rt) g (refl, tt, omega arith)
  row_is Xori a b c ka kb kc g = here (Row Xori) (Make op.Xor Rs (Immediate ins.imm) ins.rt) g (refl, tt, omega arith)
  row_is Lui a b c ka kb kc g = here (Row Lui) (Give ins.rt (ins.imm * 2 ^ 16) (following m)) g (refl, omega arith)
  row_is Lb a b c ka kb kc g =
      part_row Lb (gives_at size m ins.rt (sign_extended_byte (slice_index m.memory A)) (following m) (Some A)) a b c ka g
      (λ e h. read_is c (λ w. sign_extended_byte (byte_in w A)) (sign_extended_byte (slice_index m.memory A)) kc (byte_inside e) h (ap (λ v. sign_extended_byte v) byte_here) extended_byte)
  row_is Lh a b c ka kb kc g =
      part_row Lh (gives_at size m ins.rt (sign_extended (half_at m.memory A)) (following m) (Some A)) a b c ka g
      (λ e h. read_is c (λ w. sign_extended (half_in w A)) (sign_extended (half_at m.memory A)) kc (half_inside e) h (ap (λ v. sign_extended v) (half_here (fault_none A 2 e).0)) extended_half)
  row_is Lw a b c ka kb kc g = one (Row Lw) a (λ v. Load ins.rt (address_of ins v)) ka g refl
  row_is Lbu a b c ka kb kc g =
      part_row Lbu (gives_at size m ins.rt (slice_index m.memory A) (following m) (Some A)) a b c ka g
      (λ e h. read_is c (λ w. byte_in w A) (slice_index m.memory A) kc (byte_inside e) h byte_here (omega (arith, small_byte)))
  row_is Lhu a b c ka kb kc g =
      part_row Lhu (gives_at size m ins.rt (half_at m.memory A) (following m) (Some A)) a b c ka g
      (λ e h. read_is c (λ w. half_in w A) (half_at m.memory A) kc (half_inside e) h (half_here (fault_none A 2 e).0) (omega (arith, small_half)))
  row_is Sb a b c ka kb kc g =
      part_row Sb (written size m A (y % 2 ^ 8 ∷ [])) a b c ka g
      (λ e h. write_is c b (λ v. v % 2 ^ 8 ∷ []) kc kb (byte_inside e) (omega arith) (one_byte y) h)
  row_is Sh a b c ka kb kc g =
      part_row Sh (written size m A (to_be_bytes w16 (y % 2 ^ 16))) a b c ka g
      (λ e h. let even = (fault_none A 2 e).0 in write_is c b (λ v. to_be_bytes w16 (v % 2 ^ 16)) kc kb (half_inside e) (omega (arith, even)) (bytes_of_half (y % 2 ^ 16)) h)
  row_is Sw a b c ka kb kc g = one (Row Sw) a (λ v. Store (address_of ins v)) ka g refl
  row_is J a b c ka kb kc g = here (Row J) (Go ins.target) g refl
  row_is Jal a b c ka kb kc g = here (Row Jal) (Give LINK (following m) ins.target) g (refl, next_small)

-- words of instructions are words
pub field_below : (b : Bool) (limit v : ℕ) → 0 < limit → IsField b limit v → v < limit
field_below true limit v some h = h
field_below false limit v some h = subst (λ n. n < limit) (sym h) some

pub either_pairs : (H : ℕ → ℕ → Type 0) (b : Bool) (xs ys us vs : List ℕ) → Pairs H xs ys → Pairs H us vs → Pairs H (cond b xs us) (cond b ys vs)
either_pairs H true xs ys us vs h g = h
either_pairs H false xs ys us vs h g = g

either_maybe : (H : ℕ → ℕ → Type 0) (b : Bool) (x y : ℕ) → H x y → Maybe H (cond b (Some x) None) (cond b (Some y) None)
either_maybe H true x y h = h
either_maybe H false x y h = tt

pub either_holds : (H : ℕ → ℕ → Type 0) (b : Bool) (x y u v : ℕ) → H x y → H u v → H (cond b x u) (cond b y v)
either_holds H true x y u v h g = h
either_holds H false x y u v h g = g

pub core_up : (values more regs memory : List ℕ) (m : TileLocal) → ((c y : ℕ) → Holds values c y → Holds more c y) → AlikeCore values regs memory m → AlikeCore more regs memory m
core_up values more regs memory m up h =
    record { each = pairs_up (Holds values) (Holds more) up regs m.regs h.each; many = h.many; size = h.size; bytes = h.bytes; words = λ i l. up (slice_index memory i) (word_at m.memory (4 * i)) (h.words i l) }

pub tile_up : (values more : List ℕ) → ((c y : ℕ) → Holds values c y → Holds more c y) → (l m : TileLocal) → AlikeTile values l m → AlikeTile more l m
tile_up values more up l m h = record { rest = h.rest; core = core_up values more l.regs l.memory m up h.core }

module _ (values : List ℕ) (none : Holds values 0 0) (size : ℕ) (m : TileLocal) (rs cs : List ℕ) (core : AlikeCore values rs cs m) where
  gives_alike : (register c x pc : ℕ) (t : Option ℕ) → Holds values c x → AlikeEffect values (gives_at size (coded m rs cs) register c pc t) (gives_at size m register x pc t)
  gives_alike register c x pc t h = record {
    next = record {
      rest = refl;
      core = record {
        each = either_pairs (Holds values) ((register == 0) || is_network register) rs m.regs (set rs register c) (set m.regs register x) core.each (pairs_set (Holds values) none rs m.regs core.each register c x h);
        many = core.many;
        size = core.size;
        bytes = core.bytes;
        words = core.words;
      };
    };
    sent1 = either_maybe (Holds values) (register == 24) c x h;
    sent2 = either_maybe (Holds values) (register == 25) c x h;
    touched = refl;
  }

  goes_alike : (pc : ℕ) → AlikeEffect values (goes size (coded m rs cs) pc) (goes size m pc)
  goes_alike pc = record { next = record { rest = refl; core = record { each = core.each; many = core.many; size = core.size; bytes = core.bytes; words = core.words } }; sent1 = tt; sent2 = tt; touched = refl }

  pub stops_alike : (mk : Mark) → AlikeEffect values (stops (coded m rs cs) mk) (stops m mk)
  stops_alike mk = record { next = record { rest = refl; core = record { each = core.each; many = core.many; size = core.size; bytes = core.bytes; words = core.words } }; sent1 = tt; sent2 = tt; touched = refl }

  fault_alike : (o : Option Cause) (e f : TileEffect) → (o ≡ None → AlikeEffect values e f) → AlikeEffect values (unless_fault o (coded m rs cs) e) (unless_fault o m f)
  fault_alike None e f h = h refl
  fault_alike (Some cause) e f h = stops_alike (mark.Trapped cause)

  loads_alike : (register address : ℕ) → AlikeEffect values (loads size (coded m rs cs) register address 4 (slice_index cs (address / 4))) (loads size m register address 4 (word_at m.memory address))
  loads_alike register address =
      fault_alike (access_fault address 4) (gives_at size (coded m rs cs) register (slice_index cs (address / 4)) (following m) (Some address)) (gives_at size m register (word_at m.memory address) (following m) (Some address))
      (λ e. gives_alike register (slice_index cs (address / 4)) (word_at m.memory address) (following m) (Some address) (word_here e))
    where
      word_here : access_fault address 4 ≡ None → Holds values (slice_index cs (address / 4)) (word_at m.memory address)
      word_here e =
          let fine = fault_none address 4 e in
          let same : 4 * (address / 4) ≡ address = omega (arith, fine.0) in
          subst (λ a. Holds values (slice_index cs (address / 4)) (word_at m.memory a)) same (core.words (address / 4) (omega (arith, fine.0, fine.1)))

  -- bytes that are stored in one memory word
  module _ (address c : ℕ) (part : List ℕ) (inside : address % 4 + length part ≤ 4) (within : address < 65536) (all : All (λ byte. byte < 256) part)
      (h : Holds values c (word_with (word_at m.memory (4 * (address / 4))) address part)) where
    abbrev after : List ℕ
    after = stored m.memory address part

    put_here : (j : ℕ) → j ≡ address / 4 → get_or (set cs (address / 4) c) j 0 ≡ c
    put_here j f = ap (λ k. get_or (set cs (address / 4) c) k 0) f ∙ get_or-set_same cs (address / 4) c 0 (omega (arith, core.many, within))

    apart : (j : ℕ) → (j ≡ address / 4 → ⊥) → (4 * j + 4 ≤ address) ⊎ (address + length part ≤ 4 * j)
    apart j f = ⊎_elim (λ (b : j < address / 4). inl (omega (arith, b))) (λ (b : address / 4 ≤ j). let more : address / 4 + 1 ≤ j = omega (arith, f, b) in inr (omega (arith, inside, more))) (cases_lt j (address / 4))

    word_here : word_with (word_at m.memory (4 * (address / 4))) address part ≡ word_at after (4 * (address / 4))
    word_here =
        let whole : 4 * (address / 4) + address % 4 ≡ address = omega arith in
        sym (word_written m.memory (4 * (address / 4)) (address % 4) part (omega (arith, within, core.size)) core.bytes inside)
        ∙ ap (λ a. word_at (stored m.memory a part) (4 * (address / 4))) whole

    same_place : (i : ℕ) → i ≡ address / 4 → Holds values (slice_index (set cs (address / 4) c) i) (word_at after (4 * i))
    same_place i e =
        subst (λ k. Holds values k (word_at after (4 * i))) (sym (put_here i e))
        (subst (λ k. Holds values c k) (word_here ∙ ap (λ j. word_at after (4 * j)) (sym e)) h)

    other_place : (i : ℕ) → i < 16384 → (i ≡ address / 4 → ⊥) → Holds values (slice_index (set cs (address / 4) c) i) (word_at after (4 * i))
    other_place i l ne =
        subst (λ k. Holds values k (word_at after (4 * i))) (sym (get_or-set_other cs (address / 4) i c 0 ne))
        (subst (λ k. Holds values (slice_index cs i) k) (sym (word_kept m.memory address part (4 * i) (apart i ne))) (core.words i l))

    written_core : AlikeCore values rs (set cs (address / 4) c) (record m { memory = after })
    written_core = record {
      each = core.each;
      many = length-set cs (address / 4) c ∙ core.many;
      size = length-stored m.memory address part ∙ core.size;
      bytes = bytes_stored m.memory address part core.bytes all;
      words = λ i l. ⊎_elim (same_place i) (other_place i l) (cases_eq i (address / 4));
    }

    written_alike : AlikeEffect values (stored_term size (coded m rs cs) address c) (written size m address part)
    written_alike =
        let core' = written_core in
        record { next = record { rest = refl; core = record { each = core'.each; many = core'.many; size = core'.size; bytes = core'.bytes; words = core'.words } }; sent1 = tt; sent2 = tt; touched = refl }

  -- a whole word that is stored
  module _ (address c x : ℕ) (aligned : address % 4 ≡ 0) (inside : address + 4 ≤ 65536) (h : Holds values c x) (word : x < 2 ^ 32) where
    whole_word : word_with (word_at m.memory (4 * (address / 4))) address (to_be_bytes w32 x) ≡ x
    whole_word =
        ap (λ r. from_be_bytes w32 (stored (to_be_bytes w32 (word_at m.memory (4 * (address / 4)))) r (to_be_bytes w32 x))) aligned ∙ from_be_bytes-to_be_bytes_4 x word

    pub stored_alike : AlikeCore values rs (set cs (address / 4) c) (record m { memory = stored m.memory address (to_be_bytes w32 x) })
    stored_alike =
        written_core address c (to_be_bytes w32 x) (omega (arith, aligned)) (omega (arith, inside)) (bytes_of_word x) (subst (λ k. Holds values c k) (sym whole_word) h)

  stores_alike : (address c x : ℕ) → Holds values c x → x < 2 ^ 32 → AlikeEffect values (stores_term size (coded m rs cs) address c) (stores size m address (to_be_bytes w32 x))
  stores_alike address c x h word =
      fault_alike (access_fault address 4) (stored_term size (coded m rs cs) address c) (written size m address (to_be_bytes w32 x))
      (λ e. let fine = fault_none address 4 e in let core' = stored_alike address c x fine.0 fine.1 h word in
      record { next = record { rest = refl; core = record { each = core'.each; many = core'.many; size = core'.size; bytes = core'.bytes; words = core'.words } }; sent1 = tt; sent2 = tt; touched = refl })

pub none_holds : (inputs : List ℕ) (nodes : List Node) → AreTerms inputs nodes → Holds (term_values inputs nodes) 0 0
none_holds inputs nodes are = word_holds inputs nodes 0 0 (ap word_of are.none)

operand_made_of : (inputs : List ℕ) (nodes : List Node) → AreTerms inputs nodes → (f : Operand) (a b x y : ℕ) → Holds (term_values inputs nodes) a x → Holds (term_values inputs nodes) b y → IsSmall f
    → IsMade inputs nodes (term_at nodes f a b) (operand_value f x y)
operand_made_of inputs nodes are Rs a b x y ha hb h = made_keeps inputs nodes are a x ha
operand_made_of inputs nodes are Rt a b x y ha hb h = made_keeps inputs nodes are b y hb
operand_made_of inputs nodes are (Immediate word) a b x y ha hb h = word_made inputs nodes are word h

module _ (each : EachGivesWords) (inputs : List ℕ) (nodes : List Node) (are : AreTerms inputs nodes) (size : ℕ) (m : TileLocal) (rs cs : List ℕ)
    (core : AlikeCore (term_values inputs nodes) rs cs m) (a b x y : ℕ) (ha : Holds (term_values inputs nodes) a x) (hb : Holds (term_values inputs nodes) b y) where
  put_made : (register pc v : ℕ) (t : Option ℕ) (r : Numbered) → IsMade inputs nodes r v → TileMade inputs nodes (put size (coded m rs cs) register pc t r) (gives_at size m register v pc t)
  put_made register pc v t r is = record {
    terms = is.terms;
    keeps = is.keeps;
    effect = gives_alike (term_values inputs r.nodes) (none_holds inputs r.nodes is.terms) size m rs cs (core_up (term_values inputs nodes) (term_values inputs r.nodes) rs cs m is.keeps core) register r.number v pc t is.value;
  }

  still_made : (e f : TileEffect) → AlikeEffect (term_values inputs nodes) e f → TileMade inputs nodes (record { nodes = nodes; effect = e }) f
  still_made e f h = record { terms = are; keeps = λ c v g. g; effect = h }

module _ (each : EachGivesWords) (inputs : List ℕ) where
  second_made : (nodes : List Node) (f : FlowOp) (second : Operand) (a b x y v : ℕ) (r : Numbered) → IsMade inputs nodes r v → IsSmall second
      → Holds (term_values inputs nodes) a x → Holds (term_values inputs nodes) b y → IsMade inputs nodes (made_second f second a b r) (applied f v (operand_value second x y))
  second_made nodes f second a b x y v r is small ha hb =
      let q : Numbered = term_at r.nodes second a b in
      let two : IsMade inputs r.nodes q (operand_value second x y) = operand_made_of inputs r.nodes is.terms second a b x y (is.keeps a x ha) (is.keeps b y hb) small in
      let three : IsMade inputs q.nodes (made q.nodes f r.number q.number) (applied f v (operand_value second x y)) =
      made_is inputs q.nodes two.terms each f r.number q.number v (operand_value second x y) (two.keeps r.number v is.value) two.value in
      record { terms = three.terms; keeps = λ c u h. three.keeps c u (two.keeps c u (is.keeps c u h)); value = three.value }

  pub acted_made : (nodes : List Node) → AreTerms inputs nodes → (size : ℕ) (m : TileLocal) (rs cs : List ℕ) → AlikeCore (term_values inputs nodes) rs cs m
      → (a b x y : ℕ) → Holds (term_values inputs nodes) a x → Holds (term_values inputs nodes) b y → (e : TileEffect) (d : Action) → IsEffectOf size m x y e d
      → TileMade inputs nodes (acted nodes size (coded m rs cs) a b d) e
  acted_made nodes are size m rs cs core a b x y ha hb e (Make f first second register) is =
      subst (λ k. TileMade inputs nodes (acted nodes size (coded m rs cs) a b (Make f first second register)) k) (sym is.0)
      (put_made each inputs nodes are size m rs cs core a b x y ha hb register (following m) (applied f (operand_value first x y) (operand_value second x y)) None (made_second f second a b (term_at nodes first a b))
      (second_made nodes f second a b x y (operand_value first x y) (term_at nodes first a b) (operand_made_of inputs nodes are first a b x y ha hb is.1) is.2 ha hb))
  acted_made nodes are size m rs cs core a b x y ha hb e (Give register word pc) is =
      subst (λ k. TileMade inputs nodes (acted nodes size (coded m rs cs) a b (Give register word pc)) k) (sym is.0)
      (put_made each inputs nodes are size m rs cs core a b x y ha hb register pc word None (with_node nodes (Const word)) (word_made inputs nodes are word is.1))
  acted_made nodes are size m rs cs core a b x y ha hb e (Go pc) is =
      subst (λ k. TileMade inputs nodes (acted nodes size (coded m rs cs) a b (Go pc)) k) (sym is)
      (still_made each inputs nodes are size m rs cs core a b x y ha hb (goes size (coded m rs cs) pc) (goes size m pc) (goes_alike (term_values inputs nodes) (none_holds inputs nodes are) size m rs cs core pc))
  acted_made nodes are size m rs cs core a b x y ha hb e (Stop mk) is =
      subst (λ k. TileMade inputs nodes (acted nodes size (coded m rs cs) a b (Stop mk)) k) (sym is)
      (still_made each inputs nodes are size m rs cs core a b x y ha hb (stops (coded m rs cs) mk) (stops m mk) (stops_alike (term_values inputs nodes) (none_holds inputs nodes are) size m rs cs core mk))
  acted_made nodes are size m rs cs core a b x y ha hb e (Load register address) is =
      subst (λ k. TileMade inputs nodes (acted nodes size (coded m rs cs) a b (Load register address)) k) (sym is)
      (still_made each inputs nodes are size m rs cs core a b x y ha hb (loads size (coded m rs cs) register address 4 (slice_index cs (address / 4))) (loads size m register address 4 (word_at m.memory address))
      (loads_alike (term_values inputs nodes) (none_holds inputs nodes are) size m rs cs core register address))
  acted_made nodes are size m rs cs core a b x y ha hb e (Store address) is =
      subst (λ k. TileMade inputs nodes (acted nodes size (coded m rs cs) a b (Store address)) k) (sym is)
      (still_made each inputs nodes are size m rs cs core a b x y ha hb (stores_term size (coded m rs cs) address b) (stores size m address (to_be_bytes w32 y))
      (stores_alike (term_values inputs nodes) (none_holds inputs nodes are) size m rs cs core address b y hb (are.words b y hb)))
  acted_made nodes are size m rs cs core a b x y ha hb e (Read register address word) is =
      subst (λ k. TileMade inputs nodes (acted nodes size (coded m rs cs) a b (Read register address word)) k) (sym is.0)
      (put_made each inputs nodes are size m rs cs core a b x y ha hb register (following m) word (Some address) (with_node nodes (Const word)) (word_made inputs nodes are word is.1))
  acted_made nodes are size m rs cs core a b x y ha hb e (Write address word) is =
      subst (λ k. TileMade inputs nodes (acted nodes size (coded m rs cs) a b (Write address word)) k) (sym is.effect) (cell_made is.part (word_small is.part is.is is.bytes is.inside is.within) is.is is.bytes is.inside is.within)
    where
      word_small : (part : List ℕ) → word ≡ word_with (word_at m.memory (4 * (address / 4))) address part → All (λ byte. byte < 256) part → address % 4 + length part ≤ 4 → address < 65536 → word < 2 ^ 32
      word_small part is all inside within =
          subst (λ w. w < 2 ^ 32)
          (word_written m.memory (4 * (address / 4)) (address % 4) part (omega (arith, within, core.size)) core.bytes inside ∙ sym is)
          (word_below (stored m.memory (4 * (address / 4) + address % 4) part) (bytes_stored m.memory (4 * (address / 4) + address % 4) part core.bytes all) (4 * (address / 4)))

      cell_made : (part : List ℕ) → word < 2 ^ 32 → word ≡ word_with (word_at m.memory (4 * (address / 4))) address part → All (λ byte. byte < 256) part → address % 4 + length part ≤ 4 → address < 65536
          → TileMade inputs nodes (put_cell size (coded m rs cs) address (with_node nodes (Const word))) (written size m address part)
      cell_made part small is all inside within =
          let r : Numbered = with_node nodes (Const word) in
          let made : IsMade inputs nodes r word = word_made inputs nodes are word small in
          let W : List ℕ = term_values inputs r.nodes in
          record {
            terms = made.terms;
            keeps = made.keeps;
            effect = written_alike W (none_holds inputs r.nodes made.terms) size m rs cs (core_up (term_values inputs nodes) W rs cs m made.keeps core) address r.number part inside within all
                (subst (λ v. Holds W r.number v) is made.value);
          }
