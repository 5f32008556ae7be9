-- What is made of what is read, where that fits.
use Rattle.std.specs.Prelude.{◌≡◌, ℕ}

-- something is meant that fits, and this is made of it
pub record Makes {T U : Type 0} (Means Fits : T → Type 0) (made : T → U) (made_is : U) : Type 0 where
  pub meant : T
  pub meaning : Means meant
  pub fits : Fits meant
  pub is : made_is ≡ made meant

-- what is meant does not fit, which is told at this line, and this is its kind
pub record MeansTooMuch {T K : Type 0} (Means Fits : T → Type 0) (last : ℕ) (why : K) (line : ℕ) (kind : K) : Type 0 where
  pub meant : T
  pub meaning : Means meant
  pub long : ¬ (Fits meant)
  pub line_is : line ≡ last
  pub kind_is : kind ≡ why
