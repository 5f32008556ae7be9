-- An instruction with a route more keeps the rules.
use Rattle.std.proofs.Common.{◌≡◌, ℕ, zero, suc, ◌+◌, ◌%◌, ◌<◌, Bool, false, ◌||◌, eqb, List, [], ◌∷◌, length, get_or, None, sym, ◌∙◌, ap, subst, arith, set, length-set, inl, inr}
use Rattle.std.specs.List.{list_any}
use Rattle.std.proofs.lemmas.Bool.{cases_eq}
use Rattle.std.proofs.lemmas.Bool.Decides.{nat_tests}
use Rattle.std.proofs.lemmas.List.Elements.{All-set}
use Rattle.raw_switch_isa.specs.declared.instruction.SwitchSource.{SwitchSource}
use Rattle.raw_switch_isa.specs.Instruction.{SwitchInstruction, IsSwitchIns, IsField, sends_register}
use Rattle.raw_switch_isa.specs.Ends.{coded_source}
use Rattle.raw_switch_isa.specs.Made.{IsNewRoute}

-- an element that fails the test, in place of one that fails it
any_set : (p : ℕ → Bool) (xs : List ℕ) (i y : ℕ) → i < length xs → p (get_or xs i 0) ≡ false → p y ≡ false → list_any p (set xs i y) ≡ list_any p xs
any_set p [] i y l old new = absurd (omega arith)
any_set p (x ∷ xs) zero y l old new = ap (λ b. b || list_any p xs) (new ∙ sym old)
any_set p (x ∷ xs) (suc i) y l old new = ap (λ b. p x || b) (any_set p xs i y (omega arith) old new)

-- an output that sends nothing has code 0
free_code : (rsel output code : ℕ) → coded_source rsel output code ≡ None → eqb code 6 ≡ false
free_code rsel output code free =
    elim (cases_eq code 0) [
      | inl is ↦ grind (arith, nat_tests)
      | inr not ↦ absurd (grind (arith, nat_tests))
    ]

pub routed_rules : (ins : SwitchInstruction) (output input : ℕ) (source : SwitchSource) → IsSwitchIns ins → IsNewRoute ins output source → IsSwitchIns (record ins { routes = set ins.routes output (input % 5 + 1) })
routed_rules ins output input source rules new =
    let is_output = new.is_output in
    let ten = rules.ten in
    let old : eqb (get_or ins.routes output 0) 6 ≡ false = free_code ins.rsel output (get_or ins.routes output 0) new.free in
    let other : eqb (input % 5 + 1) 6 ≡ false = grind (arith, nat_tests) in
    let same : sends_register (set ins.routes output (input % 5 + 1)) ≡ sends_register ins.routes = any_set (λ code. eqb code 6) ins.routes output (input % 5 + 1) (omega arith) old other in
    record {
      rd = rules.rd;
      src = rules.src;
      target = rules.target;
      rsel = subst (λ (b : Bool). IsField b 4 ins.rsel) (sym same) rules.rsel;
      ten = length-set ins.routes output (input % 5 + 1) ∙ ten;
      codes = All-set (λ code. code < 7) ins.routes output (input % 5 + 1) (omega arith) rules.codes;
    }
