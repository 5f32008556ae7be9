-- The words of a memory are found again, address by address.
use Rattle.std.proofs.Common.{◌≡◌, ◌≢◌, ℕ, zero, suc, ◌+◌, ◌-◌, ◌*◌, ◌/◌, ◌%◌, ◌<◌, ◌≤◌, Bool, true, false, List, [], ◌∷◌, length, map, Option, refl, sym, ◌∙◌, subst, ⊎_elim, arith}
use Rattle.std.specs.Prelude.{◌==◌, nat_le, nat_lt, slice_get}
use Rattle.std.specs.Option.{option_map}
use Rattle.std.specs.List.{flat_map, filter_map, range_with_len, AllByRecursion}
use Rattle.std.proofs.lemmas.Bool.{cases_lt}
use Rattle.std.proofs.lemmas.Bool.Decides.{nat_tests}
use Rattle.raw_model.specs.declared.limits.TheConstants.{MEMORY_WORDS}
use Rattle.raw_model.specs.declared.program.DataWord.{DataWord}
use Rattle.raw_set_text.proofs.Listed.Lists.{AllLater}
use Rattle.raw_set_text.proofs.Listed.Tiles.{hit}

-- an address of a word, and one of another word
hit_here : (address : ℕ) (cell : DataWord) → address ≡ cell.address → hit address cell ≡ cell.word ∷ []
hit_here address cell e =
    let low : nat_le cell.address address ≡ true = grind (arith, nat_tests) in
    let high : nat_lt address (cell.address + 4 * 1) ≡ true = grind (arith, nat_tests) in
    let place : (address - cell.address) / 4 ≡ 0 = omega arith in
    rw (low, high, place) refl

hit_other : (address : ℕ) (cell : DataWord) (low high : Bool) → nat_le cell.address address ≡ low → nat_lt address (cell.address + 4 * 1) ≡ high
    → address % 4 ≡ 0 → cell.address % 4 ≡ 0 → address ≢ cell.address → hit address cell ≡ []
hit_other address cell false high l h a b other = rw l refl
hit_other address cell true false l h a b other = rw (l, h) refl
hit_other address cell true true l h a b other =
    let least : cell.address ≤ address = grind (arith, nat_tests) in
    let most : address < cell.address + 4 = grind (arith, nat_tests) in
    absurd (other (omega arith))

misses_it : (i : ℕ) (cell : DataWord) → cell.address % 4 ≡ 0 → 4 * i ≢ cell.address → hit (4 * i) cell ≡ []
misses_it i cell aligned other = hit_other (4 * i) cell (nat_le cell.address (4 * i)) (nat_lt (4 * i) (cell.address + 4 * 1)) refl refl (omega arith) aligned other

-- words by rising address
abbrev pub AreRising : List DataWord → Type 0
AreRising cells = AllLater (λ (a b : DataWord). a.address < b.address) cells

-- words at the addresses from one up to another
pub record IsFrom (from to : ℕ) (cell : DataWord) : Type 0 where
  pub aligned : cell.address % 4 ≡ 0
  pub low : 4 * from ≤ cell.address
  pub high : cell.address < 4 * to

no_hit : (i from to : ℕ) (cells : List DataWord) → AllByRecursion (IsFrom from to) cells → i < from → flat_map (hit (4 * i)) cells ≡ []
no_hit i from to [] all lt = refl
no_hit i from to (cell ∷ cells) all lt =
    let low = all.0.low in
    rw (misses_it i cell all.0.aligned (λ e. absurd (omega arith)), no_hit i from to cells all.1 lt) refl

-- the addresses of later words
from_later : (cell : DataWord) (from to : ℕ) (cells : List DataWord) → cell.address ≡ 4 * from → AllByRecursion (λ (other : DataWord). cell.address < other.address) cells
    → AllByRecursion (IsFrom from to) cells → AllByRecursion (IsFrom (from + 1) to) cells
from_later cell from to [] e later all = tt
from_later cell from to (other ∷ cells) e later all =
    let above = later.0 in
    let aligned = all.0.aligned in
    (record { aligned = aligned; low = omega arith; high = all.0.high }, from_later cell from to cells e later.1 all.1)

from_next : (from to : ℕ) (cells : List DataWord) → AllByRecursion (λ (other : DataWord). 4 * from < other.address) cells → AllByRecursion (IsFrom from to) cells → AllByRecursion (IsFrom (from + 1) to) cells
from_next from to [] later all = tt
from_next from to (other ∷ cells) later all =
    let above = later.0 in
    let aligned = all.0.aligned in
    (record { aligned = aligned; low = omega arith; high = all.0.high }, from_next from to cells later.1 all.1)

above_all : (cell : DataWord) (address : ℕ) (cells : List DataWord) → address < cell.address → AllByRecursion (λ (other : DataWord). cell.address < other.address) cells → AllByRecursion (λ (other : DataWord). address < other.address) cells
above_all cell address [] lt all = tt
above_all cell address (other ∷ cells) lt all = let above = all.0 in (omega arith, above_all cell address cells lt all.1)

-- the word at an address, where one of these words stands there
abbrev pub cell_by : (ℕ → List ℕ) → ℕ → Option DataWord
cell_by given address = option_map (λ word. record { address = address; word = word }) (slice_get (given address) 0)

pub cells_back : (given : ℕ → List ℕ) (cells : List DataWord) (from n : ℕ) → ((i : ℕ) → from ≤ i → given (4 * i) ≡ flat_map (hit (4 * i)) cells) → AreRising cells → AllByRecursion (IsFrom from (from + n)) cells
    → filter_map (cell_by given) (map (λ i. 4 * i) (range_with_len from n)) ≡ cells
cells_back given [] from zero same rising all = refl
cells_back given (cell ∷ cells) from zero same rising all = let low = all.0.low in let high = all.0.high in absurd (omega arith)
cells_back given [] from (suc n) same rising all =
    rw (same from (omega arith)) (cells_back given [] (from + 1) n (λ i le. same i (omega arith)) tt tt)
cells_back given (cell ∷ cells) from (suc n) same rising all =
    let to : from + suc n ≡ from + 1 + n = omega arith in
    let within : AllByRecursion (IsFrom from (from + 1 + n)) (cell ∷ cells) = subst (λ m. AllByRecursion (IsFrom from m) (cell ∷ cells)) to all in
    let low = all.0.low in
    ⊎_elim
    (λ (above : 4 * from < cell.address).
    let later = from_next from (from + 1 + n) (cell ∷ cells) (above, above_all cell (4 * from) cells above rising.0) within in
    let none = no_hit from (from + 1) (from + 1 + n) (cell ∷ cells) later (omega arith) in
    rw (same from (omega arith), none) (cells_back given (cell ∷ cells) (from + 1) n (λ i le. same i (omega arith)) rising later))
    (λ (at : cell.address ≤ 4 * from).
    let here : 4 * from ≡ cell.address = omega arith in
    let later = from_later cell from (from + 1 + n) cells (sym here) rising.0 within.1 in
    let rest = cells_back given cells (from + 1) n
    (λ i le. same i (omega arith) ∙ rw (misses_it i cell all.0.aligned (λ e. absurd (omega arith))) refl) rising.1 later in
    rw (same from (omega arith), hit_here (4 * from) cell here) (rw (rest, here) refl))
    (cases_lt (4 * from) cell.address)

none_above : (address : ℕ) (cells : List DataWord) → address % 4 ≡ 0 → AllByRecursion (IsFrom 0 (0 + MEMORY_WORDS)) cells → AllByRecursion (λ (other : DataWord). address < other.address) cells → flat_map (hit address) cells ≡ []
none_above address [] aligned all above = refl
none_above address (cell ∷ cells) aligned all above =
    let lt = above.0 in
    let none = hit_other address cell (nat_le cell.address address) (nat_lt address (cell.address + 4 * 1)) refl refl aligned all.0.aligned (λ e. absurd (omega arith)) in
    rw (none, none_above address cells aligned all.1 above.1) refl

-- at most one word stands at an address
pub hits_few : (address : ℕ) (cells : List DataWord) → address % 4 ≡ 0 → AllByRecursion (IsFrom 0 (0 + MEMORY_WORDS)) cells → AreRising cells → length (flat_map (hit address) cells) ≤ 1
hits_few address [] aligned all rising = omega arith
hits_few address (cell ∷ cells) aligned all rising = by_place (cell.address == address) refl (hits_few address cells aligned all.1 rising.1)
  where
    by_place : (test : Bool) → (cell.address == address) ≡ test → length (flat_map (hit address) cells) ≤ 1 → length (flat_map (hit address) (cell ∷ cells)) ≤ 1
    by_place true e rest =
        let same : address ≡ cell.address = grind (arith, nat_tests) in
        let later = subst (λ a. AllByRecursion (λ (other : DataWord). a < other.address) cells) (sym same) rising.0 in
        rw (hit_here address cell same, none_above address cells aligned all.1 later) (omega arith)
    by_place false e rest =
        let none = hit_other address cell (nat_le cell.address address) (nat_lt address (cell.address + 4 * 1)) refl refl aligned all.0.aligned (λ same. absurd (grind (arith, nat_tests))) in
        rw none rest
