-- What the bytes of a text mean, and their least fault, where lines of tokens mean things and have faults.
use Rattle.std.specs.Prelude.{◌≡◌, ℕ, List, map, Option, Some, None}
use Rattle.raw_text.specs.declared.lines.TextRefusal.{TextRefusal}
use Rattle.raw_text.specs.declared.lines.TextRefusal.TheVariants.{NotAscii, LineTooLong, Memory}
use Rattle.raw_text.specs.Lines.{lines_of, tokens_of, first_fault}

-- the bytes mean this: no line is faulty as a line of text, and the lines with their tokens mean it
pub record TextMeans {T : Type 0} (Means : List (List (List ℕ)) → T → Type 0) (bytes : List ℕ) (x : T) : Type 0 where
  pub plain : first_fault 1 (lines_of bytes) ≡ None
  pub meaning : Means (map tokens_of (lines_of bytes)) x

-- the fault of a text that is refused as a text, at its line: one of two kinds
abbrev pub IsTextFault : {K : Type 0} → K → K → TextRefusal → ℕ → K → Type 0
IsTextFault ascii long (NotAscii first) line kind = (line ≡ first) × (kind ≡ ascii)
IsTextFault ascii long (LineTooLong first) line kind = (line ≡ first) × (kind ≡ long)
IsTextFault ascii long Memory line kind = ⊥

-- the fault at this line, where the text has this first fault as a text: that one comes before all others
abbrev pub FaultBehind : {K : Type 0} → K → K → (List (List (List ℕ)) → ℕ → K → Type 0) → Option TextRefusal → List (List (List ℕ)) → ℕ → K → Type 0
FaultBehind ascii long Fault (Some refusal) lines line kind = IsTextFault ascii long refusal line kind
FaultBehind ascii long Fault None lines line kind = Fault lines line kind

-- the least fault of the bytes is this one, at this line, which is counted from 1
abbrev pub TextFault : {K : Type 0} → K → K → (List (List (List ℕ)) → ℕ → K → Type 0) → List ℕ → ℕ → K → Type 0
TextFault ascii long Fault bytes line kind = FaultBehind ascii long Fault (first_fault 1 (lines_of bytes)) (map tokens_of (lines_of bytes)) line kind
