-- The switch instruction that a word shows is the one that the word encodes.
use Rattle.std.proofs.Common.{◌≡◌, ℕ, ◌/◌, ◌^◌, ◌<◌, true, false, ◌&&◌, cond, eqb, ltb, Option, Some, None, refl, sym, ap, subst, ◌∙◌}
use Rattle.std.specs.Prelude.{IfSome}
use Rattle.std.specs.List.{All, list_all}
use Rattle.std.specs.Option.{option_and_then}
use Rattle.std.proofs.lemmas.Bool.{and_parts, and_from, eqb-true, eq-eqb, ltb-true, lt-ltb}
use Rattle.std.proofs.lemmas.Option.{cond_some}
use Rattle.std.proofs.lemmas.List.Sums.{AllPass-from_list_all, list_all-from_AllPass}
use Rattle.raw_switch_isa.specs.declared.table.SwitchOp.{SwitchOp}
use Rattle.raw_switch_isa.specs.Table.{op_with}
use Rattle.raw_switch_isa.specs.Instruction.{SwitchInstruction}
use Rattle.raw_switch_isa.specs.Code.{code_of, SwitchCode, route_at}
use Rattle.raw_switch_isa.specs.Ends.{ends}
use Rattle.raw_switch_isa.proofs.Words.{op_shown, IsRead, is_read, same_read, is_kept, no_seven, limits}
use Rattle.raw_image.specs.Switch.{fields_of, is_coded, decode_of}
use Rattle.raw_grid.specs.Topology.{Topology}
use Rattle.raw_model.specs.Program.{has_wires}
use Rattle.raw_image.specs.Reading.{wired_of}
use Rattle.raw_switch_isa.proofs.Passing.{mapped_ends}

-- the fields that a word shows are read from it
shown : (op : SwitchOp) (word : ℕ) → IsRead word (fields_of op word)
unfolding ends
shown op word = record {
  rd = refl;
  src = refl;
  target = refl;
  rsel = refl;
  ten = refl;
  routes = λ output below. mapped_ends (route_at word) output 0 below;
}

coded : (ins : SwitchInstruction) (word : ℕ) → SwitchCode ins word → is_coded ins word ≡ true
coded ins word code =
    let src = (limits ins code.rules).src in
    and_from (ltb ins.src 14 && list_all (λ c. ltb c 7) ins.routes) (eqb (code_of ins) word)
    (and_from (ltb ins.src 14) (list_all (λ c. ltb c 7) ins.routes) (lt-ltb _ _ src) (list_all-from_AllPass (λ c. ltb c 7) ins.routes (λ k d l. lt-ltb _ _ (code.rules.codes k d l))))
    (eq-eqb _ _ code.code)

-- the instruction of an operation that a word shows
abbrev coded_as : ℕ → SwitchOp → Option SwitchInstruction
coded_as word op = cond (is_coded (fields_of op word) word) (Some (fields_of op word)) None

-- what a word encodes is what it shows
pub code_decodes : (ins : SwitchInstruction) (word : ℕ) → SwitchCode ins word → decode_of word ≡ Some ins
unfolding decode_of
code_decodes ins word code =
    let same : fields_of ins.op word ≡ ins = same_read word (fields_of ins.op word) ins refl (shown ins.op word) (is_read ins word code) in
    ap (option_and_then (coded_as word)) (op_shown ins word code)
    ∙ ap (λ i. cond (is_coded i word) (Some i) None) same
    ∙ ap (λ b. cond b (Some ins) None) (coded ins word code)

pub then_some : {A B : Type 0} (f : A → Option B) (o : Option A) (y : B) → option_and_then f o ≡ Some y → (x : A) × (o ≡ Some x) × (f x ≡ Some y)
then_some f (Some x) y e = (x, refl, e)
then_some f None y e = absurd cc

-- what a word shows is what it encodes
pub decoded_code : (word : ℕ) (ins : SwitchInstruction) → decode_of word ≡ Some ins → SwitchCode ins word
unfolding decode_of
decoded_code word ins e =
    let a = then_some (coded_as word) (op_with (word / 2 ^ 60)) ins e in
    let b = cond_some (is_coded (fields_of a.0 word) word) (fields_of a.0 word) ins a.2 in
    let made = fields_of a.0 word in
    let parts = and_parts (ltb made.src 14 && list_all (λ c. ltb c 7) made.routes) (eqb (code_of made) word) b.0 in
    let inner = and_parts (ltb made.src 14) (list_all (λ c. ltb c 7) made.routes) parts.0 in
    let codes : All (λ code. code < 7) made.routes = λ k d l. ltb-true _ _ (AllPass-from_list_all (λ c. ltb c 7) made.routes inner.1 k d l) in
    let code : SwitchCode made word = record {
      rules = is_kept word made (shown a.0 word) (ltb-true _ _ inner.0) (no_seven made.routes codes);
      code = eqb-true _ _ parts.1;
    } in
    subst (λ (i : SwitchInstruction). SwitchCode i word) b.1 code

-- what is decoded exactly where a word encodes it
pub decode_is : (word : ℕ) (result : Option SwitchInstruction) → IfSome result (λ ins. SwitchCode ins word) → ((ins : SwitchInstruction) → SwitchCode ins word → result ≡ Some ins) → result ≡ decode_of word
decode_is word (Some ins) found only = sym (code_decodes ins word found)
decode_is word None found only = by_decode (decode_of word) refl
  where
    by_decode : (o : Option SwitchInstruction) → decode_of word ≡ o → None ≡ decode_of word
    by_decode None e = sym e
    by_decode (Some ins) e = absurd (cc (only ins (decoded_code word ins e)))

-- the instruction of a word whose ends have wires
pub wired_none : (topo : Topology) (p word : ℕ) → decode_of word ≡ None → wired_of topo p word ≡ None
wired_none topo p word e = rw e refl

pub wired_some : (topo : Topology) (p word : ℕ) (ins : SwitchInstruction) → decode_of word ≡ Some ins → has_wires topo p ins ≡ true → wired_of topo p word ≡ Some ins
wired_some topo p word ins e h = rw (e, h) refl

pub wired_bad : (topo : Topology) (p word : ℕ) (ins : SwitchInstruction) → decode_of word ≡ Some ins → has_wires topo p ins ≡ false → wired_of topo p word ≡ None
wired_bad topo p word ins e h = rw (e, h) refl
