-- That what is read has exactly one answer: what it means, or its one fault.
use Rattle.std.specs.Prelude.{◌≡◌, ◌⊎◌, ℕ}

-- it means exactly one thing, which is valid, or has exactly one fault, of one kind and at one line, and not both
pub record HasOneAnswer {T K : Type 0} (Means : T → Type 0) (Fault : ℕ → K → Type 0) (IsValid : T → Type 0) : Type 0 where
  pub some : ((x : T) × Means x) ⊎ ((line : ℕ) × (kind : K) × Fault line kind)
  pub valid : (x : T) → Means x → IsValid x
  pub one_meaning : (a b : T) → Means a → Means b → a ≡ b
  pub one_fault : (i j : ℕ) (a b : K) → Fault i a → Fault j b → (i ≡ j) × (a ≡ b)
  pub not_both : (x : T) (line : ℕ) (kind : K) → Means x → Fault line kind → ⊥
