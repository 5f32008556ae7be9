-- Bytes have one answer, where their lines have one.
use Rattle.std.proofs.Common.{◌≡◌, ◌⊎◌, ◌∙◌, ℕ, ◌+◌, Bool, true, false, List, [], ◌∷◌, map, Option, Some, None, refl, sym, subst, inl, inr, ⊎_elim}
use Rattle.std.specs.Prelude.{if◌then◌else◌}
use Rattle.std.specs.Option.{option_or}
use Rattle.raw_text.specs.declared.lines.TextRefusal.{TextRefusal}
use Rattle.raw_text.specs.declared.lines.TextRefusal.TheVariants.{NotAscii, LineTooLong, Memory}
use Rattle.raw_text.specs.Lines.{lines_of, tokens_of, first_fault, line_fault}
use Rattle.raw_answer.specs.OneAnswer.{HasOneAnswer}
use Rattle.raw_answer.specs.Texts.{TextMeans, IsTextFault, FaultBehind, TextFault}

-- want of memory is no fault of a line
pick : (p q : Bool) (n : ℕ) → (if p then (if q then None else Some (LineTooLong n)) else Some (NotAscii n)) ≡ Some Memory → ⊥
pick true true n e = absurd (cc e)
pick true false n e = absurd (cc e)
pick false q n e = absurd (cc e)

behind : (fault rest : Option TextRefusal) → (fault ≡ Some Memory → ⊥) → (rest ≡ Some Memory → ⊥) → option_or fault rest ≡ Some Memory → ⊥
behind None rest here after e = after e
behind (Some refusal) rest here after e = here e

pub no_memory : (number : ℕ) (lines : List (List ℕ)) → first_fault number lines ≡ Some Memory → ⊥
no_memory number [] e = absurd (cc e)
no_memory number (line ∷ lines) e = behind (line_fault number line) (first_fault (number + 1) lines) (pick _ _ number) (no_memory (number + 1) lines) e

module _ {K : Type 0} (ascii long : K) (Fault : List (List (List ℕ)) → ℕ → K → Type 0) (bytes : List ℕ) where
  abbrev lines : List (List (List ℕ))
  lines = map tokens_of (lines_of bytes)

  -- what is refused as a text has the fault that it is refused for
  pub text_fault : (refusal : TextRefusal) → first_fault 1 (lines_of bytes) ≡ Some refusal → (line : ℕ) (kind : K) → IsTextFault ascii long refusal line kind → TextFault ascii long Fault bytes line kind
  text_fault refusal is line kind fault = subst (λ first. FaultBehind ascii long Fault first lines line kind) (sym is) fault

  -- a fault of the lines is one of the bytes, where these are a text
  pub lines_fault : first_fault 1 (lines_of bytes) ≡ None → (line : ℕ) (kind : K) → Fault lines line kind → TextFault ascii long Fault bytes line kind
  lines_fault plain line kind fault = subst (λ first. FaultBehind ascii long Fault first lines line kind) (sym plain) fault

  one_fault : ((i j : ℕ) (a b : K) → Fault lines i a → Fault lines j b → (i ≡ j) × (a ≡ b)) → (first : Option TextRefusal) (i j : ℕ) (a b : K)
      → FaultBehind ascii long Fault first lines i a → FaultBehind ascii long Fault first lines j b → (i ≡ j) × (a ≡ b)
  one_fault same None i j a b one other = same i j a b one other
  one_fault same (Some (NotAscii line)) i j a b one other = (one.0 ∙ sym other.0, one.1 ∙ sym other.1)
  one_fault same (Some (LineTooLong line)) i j a b one other = (one.0 ∙ sym other.0, one.1 ∙ sym other.1)
  one_fault same (Some Memory) i j a b one other = absurd one

  module _ {T : Type 0} (Means : List (List (List ℕ)) → T → Type 0) (IsValid : T → Type 0) (answer : HasOneAnswer (Means lines) (Fault lines) IsValid) where
    some_answer : (first : Option TextRefusal) → first_fault 1 (lines_of bytes) ≡ first
        → ((x : T) × TextMeans Means bytes x) ⊎ ((line : ℕ) × (kind : K) × TextFault ascii long Fault bytes line kind)
    some_answer None plain =
        ⊎_elim
        (λ (means : (x : T) × Means lines x). inl (means.0, record { plain = plain; meaning = means.1 }))
        (λ (fault : (line : ℕ) × (kind : K) × Fault lines line kind). inr (fault.0, fault.1, lines_fault plain fault.0 fault.1 fault.2))
        answer.some
    some_answer (Some (NotAscii line)) is = inr (line, ascii, text_fault (NotAscii line) is line ascii (refl, refl))
    some_answer (Some (LineTooLong line)) is = inr (line, long, text_fault (LineTooLong line) is line long (refl, refl))
    some_answer (Some Memory) is = absurd (no_memory 1 (lines_of bytes) is)

    pub one_text : HasOneAnswer (TextMeans Means bytes) (TextFault ascii long Fault bytes) IsValid
    one_text = record {
      some = some_answer (first_fault 1 (lines_of bytes)) refl;
      valid = λ x means. answer.valid x means.meaning;
      one_meaning = λ a b one other. answer.one_meaning a b one.meaning other.meaning;
      one_fault = one_fault answer.one_fault (first_fault 1 (lines_of bytes));
      not_both = λ x line kind means fault. answer.not_both x line kind means.meaning (subst (λ first. FaultBehind ascii long Fault first lines line kind) means.plain fault);
    }
