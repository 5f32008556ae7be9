-- The runs of a line, one after another.
use Rattle.std.proofs.Common.{◌≡◌, ℕ, zero, suc, ◌+◌, ◌-◌, ◌<◌, ◌≤◌, Bool, true, false, cond, List, [], ◌∷◌, ◌++◌, length, take, drop, get_or, Some, None, refl, sym, ap, ◌∙◌, subst, arith, length-take, drop-drop}
use Rattle.std.specs.Prelude.{nat_lt, slice_get, if◌then◌else◌}
use Rattle.std.specs.List.{position_or_len}
use Rattle.std.proofs.lemmas.List.{drop_all}
use Rattle.std.proofs.lemmas.Option.{slice_get-get_or, get_or_from_slice_get}
use Rattle.raw_text.specs.Lines.{runs_of, is_blank}
use Rattle.raw_text.proofs.Runs.{runs_step}

pub one_most : (b : Bool) → (if b then 1 else 0) ≤ 1
one_most true = omega arith
one_most false = omega arith

-- behind the bytes there is none
pub no_runs : (bytes : List ℕ) (at : ℕ) → length bytes ≤ at → runs_of (drop at bytes) ≡ []
unfolding runs_of
no_runs bytes at le = rw (drop_all at bytes le) refl

long : (b : Bool) (run : List ℕ) (runs : List (List ℕ)) → length (cond b (run ∷ []) [] ++ runs) ≡ (if b then 1 else 0) + length runs
long true run runs = omega arith
long false run runs = omega arith

got : (b : Bool) (run : List ℕ) (runs : List (List ℕ)) (left : ℕ) → (b ≡ true → left ≡ 0 → ⊥)
    → slice_get runs (if b then left - 1 else left) ≡ slice_get (cond b (run ∷ []) [] ++ runs) left
got true run runs zero other = absurd (other refl refl)
got true run runs (suc k) other = let one : suc k - 1 ≡ k = omega arith in ap (slice_get runs) one
got false run runs left other = refl

-- so many bytes stand before the first blank
module _ (bytes : List ℕ) (at n : ℕ) (is : n ≡ position_or_len is_blank (drop at bytes)) (within : n ≤ length (drop at bytes)) where
  next_runs : runs_of (drop at bytes) ≡ cond (nat_lt 0 n) (take n (drop at bytes) ∷ []) [] ++ runs_of (drop (at + n + 1) bytes)
  next_runs =
      let rest = drop at bytes in
      let run = take n rest in
      let size : length run ≡ n = omega (arith, within, length-take n rest) in
      let behind : drop (n + 1) rest ≡ drop (at + n + 1) bytes = drop-drop (n + 1) at bytes ∙ (let e : at + (n + 1) ≡ at + n + 1 = omega arith in ap (λ k. drop k bytes) e) in
      subst (λ k. runs_of rest ≡ cond (nat_lt 0 (length (take k rest))) (take k rest ∷ []) [] ++ runs_of (drop (k + 1) rest)) (sym is) (runs_step rest)
      ∙ ap (λ k. cond (nat_lt 0 k) (run ∷ []) [] ++ runs_of (drop (n + 1) rest)) size
      ∙ ap (λ xs. cond (nat_lt 0 n) (run ∷ []) [] ++ runs_of xs) behind

  pub count_more : (count total : ℕ) → count + length (runs_of (drop at bytes)) ≡ total
      → count + (if nat_lt 0 n then 1 else 0) + length (runs_of (drop (at + n + 1) bytes)) ≡ total
  count_more count total so_far =
      let parts = ap length next_runs ∙ long (nat_lt 0 n) (take n (drop at bytes)) (runs_of (drop (at + n + 1) bytes)) in
      omega (arith, so_far, parts)

  pub get_more : (left place : ℕ) (runs : List (List ℕ)) → (nat_lt 0 n ≡ true → left ≡ 0 → ⊥) → slice_get (runs_of (drop at bytes)) left ≡ slice_get runs place
      → slice_get (runs_of (drop (at + n + 1) bytes)) (if nat_lt 0 n then left - 1 else left) ≡ slice_get runs place
  get_more left place runs other so_far =
      got (nat_lt 0 n) (take n (drop at bytes)) (runs_of (drop (at + n + 1) bytes)) left other ∙ ap (λ xs. slice_get xs left) (sym next_runs) ∙ so_far

  pub run_here : (place : ℕ) (runs : List (List ℕ)) → nat_lt 0 n ≡ true → slice_get (runs_of (drop at bytes)) 0 ≡ slice_get runs place
      → take n (drop at bytes) ≡ get_or runs place []
  run_here place runs some so_far =
      let run = take n (drop at bytes) in
      let first : slice_get (runs_of (drop at bytes)) 0 ≡ Some run =
      ap (λ xs. slice_get xs 0) next_runs ∙ ap (λ b. slice_get (cond b (run ∷ []) [] ++ runs_of (drop (at + n + 1) bytes)) 0) some in
      sym (get_or_from_slice_get runs place run [] (sym so_far ∙ first))

-- where none is left, none is there
pub none_there : (bytes : List ℕ) (at left place : ℕ) (runs : List (List ℕ)) → length bytes ≤ at
    → slice_get (runs_of (drop at bytes)) left ≡ slice_get runs place → place < length runs → ⊥
none_there bytes at left place runs end so_far there =
    let none : slice_get runs place ≡ None = sym so_far ∙ ap (λ xs. slice_get xs left) (no_runs bytes at end) in
    let some = slice_get-get_or runs place [] there in
    absurd (cc (sym none ∙ some))
