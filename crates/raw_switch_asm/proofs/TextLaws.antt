-- What is used of the laws of texts.
use Rattle.std.proofs.Common.{◌≡◌, ℕ, ◌^◌, ◌<◌, ◌≤◌, Bool, true, List, [], ◌∷◌, ◌++◌, length, get_or, Some, None}
use Rattle.std.specs.List.{list_all, AllByRecursion}
use Rattle.std.specs.Fmt.{decimal}
use Rattle.raw_text.specs.Lines.{is_blank, lines_of, tokens_of, first_fault, IsPlain, IsLine, IsToken, written_lines}
use Rattle.raw_text.specs.Number.{number_of}

pub record TextLaws : Type 0 where
  pub many : (lines : List (List ℕ)) → AllByRecursion IsPlain lines → lines_of (written_lines lines) ≡ lines
  pub faultless : (number : ℕ) (lines : List (List ℕ)) → AllByRecursion IsLine lines → first_fault number lines ≡ None
  pub each_plain : (lines : List (List ℕ)) → AllByRecursion IsLine lines → AllByRecursion IsPlain lines
  pub first : (token rest : List ℕ) (blank : ℕ) → IsToken token → is_blank blank ≡ true → tokens_of (token ++ blank ∷ rest) ≡ token ∷ tokens_of rest
  pub behind : (blank : ℕ) (rest : List ℕ) → is_blank blank ≡ true → tokens_of (blank ∷ rest) ≡ tokens_of rest
  pub last : (token : List ℕ) → IsToken token → tokens_of token ≡ token ∷ []
  pub number : (n : ℕ) → n < 2 ^ 32 → number_of (decimal n) ≡ Some n
  pub token : (n : ℕ) → n < 2 ^ 64 → IsToken (decimal n)
  pub passes : (test : ℕ → Bool) (n : ℕ) → n < 2 ^ 64 → ((b : ℕ) → 48 ≤ b → b ≤ 57 → test b ≡ true) → list_all test (decimal n) ≡ true
  pub low : (n : ℕ) → n < 2 ^ 64 → 48 ≤ get_or (decimal n) 0 0
  pub high : (n : ℕ) → n < 2 ^ 64 → get_or (decimal n) 0 0 ≤ 57
  pub short : (n : ℕ) → n < 2 ^ 32 → length (decimal n) ≤ 10
