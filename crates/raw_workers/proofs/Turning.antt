-- A turn over all processors, one processor further.
use Rattle.std.proofs.Common.{◌≡◌, ℕ, ◌+◌, ◌<◌, ◌≤◌, Bool, true, false, not, List, [], ◌∷◌, ◌++◌, length, sym, ap, subst, ⊎_elim, arith, append-nil}
use Rattle.std.proofs.lemmas.Bool.{cases_lt}
use Rattle.std.proofs.lemmas.List.{length-append}
use Rattle.std.specs.Prelude.{◌==◌, if◌then◌else◌, All}
use Rattle.std.proofs.lemmas.List.Elements.{All-push}
use Rattle.raw_model.specs.Program.{ProgramSet}
use Rattle.raw_model.specs.Start.{MachineState}
use Rattle.raw_model.specs.Rest.{enabled, IsLawfulFrom, end_from}
use Rattle.raw_model.specs.Bounds.{all_left}
use Rattle.raw_serial.specs.Running.{Running}
use Rattle.raw_serial.specs.Leading.{HasTaken}
use Rattle.raw_workers.specs.Rounds.{HasAdvanced}

-- where no step was taken so far, none of the first p processors is enabled
abbrev pub AreIdle : Running → List ℕ → ℕ → Type 0
AreIdle m steps p = steps ≡ [] → (q : ℕ) → q < p → enabled m.set m.state q ≡ false

some : (xs : List ℕ) (p : ℕ) → xs ++ p ∷ [] ≡ [] → ⊥
some [] p e = cc e
some (x ∷ xs) p e = cc e

pub turn_more : (first old new : Running) (steps : List ℕ) (p : ℕ) (fired : Bool) → HasTaken first old steps → HasTaken old new (if fired then p ∷ [] else [])
    → ((k l m : Running) (front rest : List ℕ) → HasTaken k l front → HasTaken l m rest → HasTaken k m (front ++ rest))
    → HasTaken first new (if fired then steps ++ p ∷ [] else steps)
turn_more first old new steps p true before next both = both first old new steps (p ∷ []) before next
turn_more first old new steps p false before next both = subst (HasTaken first new) (append-nil steps) (both first old new steps [] before next)

pub idle_more : (old new : Running) (steps : List ℕ) (p : ℕ) (fired : Bool) → HasTaken old new (if fired then p ∷ [] else []) → fired ≡ enabled old.set old.state p
    → AreIdle old steps p → AreIdle new (if fired then steps ++ p ∷ [] else steps) (p + 1)
idle_more old new steps p true next on idle = λ e. absurd (some steps p e)
idle_more old new steps p false next on idle = λ e q below.
    let still : enabled old.set old.state q ≡ false =
    ⊎_elim (λ (h : q < p). idle e q h)
    (λ (h : p ≤ q). let is : p ≡ q = omega (arith, below, h) in subst (λ k. enabled old.set old.state k ≡ false) is (sym on))
    (cases_lt q p) in
    subst (λ set. enabled set new.state q ≡ false) (sym next.set)
    (subst (λ state. enabled old.set state q ≡ false) next.led.there still)

pub length_more : (steps : List ℕ) (p : ℕ) (fired : Bool) → length steps ≤ p → length (if fired then steps ++ p ∷ [] else steps) ≤ p + 1
length_more steps p true few = omega (arith, length-append steps (p ∷ []))
length_more steps p false few = omega arith

pub there_more : (n : ℕ) (steps : List ℕ) (p : ℕ) (fired : Bool) → p < n → All (λ q. q < n) steps → All (λ q. q < n) (if fired then steps ++ p ∷ [] else steps)
there_more n steps p true below all = All-push (λ q. q < n) steps p all below
there_more n steps p false below all = all

-- a turn that is not empty
pub some_left : (steps : List ℕ) (empty : Bool) → empty ≡ (length steps == 0) → not empty ≡ true → 0 < length steps
some_left [] true is e = absurd (cc e)
some_left [] false is e = absurd (cc is)
some_left (p ∷ ps) empty is e = omega arith

-- a turn with a step leaves fewer steps, whatever steps came before it
pub less_left : (first second third : Running) (front turn : List ℕ) → HasTaken first second front → HasTaken second third turn → 0 < length turn
    → ((set : ProgramSet) (s : MachineState) (h : List ℕ) → IsLawfulFrom set s h → length h + all_left set (end_from set s h) ≤ all_left set s)
    → all_left first.set third.state < all_left first.set first.state
less_left first second third front turn before next some bound =
    let set = first.set in
    let lawful : IsLawfulFrom set second.state turn = subst (λ g. IsLawfulFrom g second.state turn) before.set next.led.lawful in
    let there : end_from set second.state turn ≡ third.state = subst (λ g. end_from g second.state turn ≡ third.state) before.set next.led.there in
    let a = bound set first.state front before.led.lawful in
    let b = bound set second.state turn lawful in
    let c = ap (all_left set) before.led.there in
    let d = ap (all_left set) there in
    omega arith

-- a machine that has taken some steps ran on
pub ran_on : (old new : Running) (steps : List ℕ) (fired : Bool) → HasTaken old new steps → (fired ≡ true → 0 < length steps)
    → ((set : ProgramSet) (s : MachineState) (h : List ℕ) → IsLawfulFrom set s h → length h + all_left set (end_from set s h) ≤ all_left set s)
    → HasAdvanced old new fired
ran_on old new steps fired taken some bound =
    record {
      set = taken.set;
      ran = ∣ (steps, taken) ∣₁;
      less = λ e.
          let set = old.set in
          let a = bound set old.state steps taken.led.lawful in
          let b = ap (all_left set) taken.led.there in
          let c = some e in
          omega arith;
    }

-- so did one that has taken some steps and then a turn
pub advanced : (first second third : Running) (front turn : List ℕ) (fired : Bool) → HasTaken first second front → HasTaken second third turn → (fired ≡ true → 0 < length turn)
    → ((k l m : Running) (front rest : List ℕ) → HasTaken k l front → HasTaken l m rest → HasTaken k m (front ++ rest))
    → ((set : ProgramSet) (s : MachineState) (h : List ℕ) → IsLawfulFrom set s h → length h + all_left set (end_from set s h) ≤ all_left set s)
    → HasAdvanced first third fired
advanced first second third front turn fired before next some both bound =
    ran_on first third (front ++ turn) fired (both first second third front turn before next)
    (λ e. let more = some e in omega (arith, more, length-append front turn)) bound
