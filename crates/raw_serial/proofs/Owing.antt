-- Stall turns that tiles owe, after lists of steps.
use Rattle.std.proofs.Common.{◌≡◌, ℕ, ◌⊎◌, inl, inr, zero, suc, ◌+◌, ◌-◌, ◌<◌, ◌≤◌, List, [], ◌∷◌, ◌++◌, set, refl, sym, ap, subst, ◌∙◌, ⊎_elim, arith, append-nil}
use Rattle.std.specs.Prelude.{slice_index}
use Rattle.std.proofs.lemmas.Bool.{cases_eq}
use Rattle.raw_network.specs.Network.{count_of}
use Rattle.raw_network.proofs.Wires.{count_here, count_there}
use Rattle.raw_model.specs.Program.{ProgramSet}
use Rattle.raw_model.specs.Cache.{stream_of}
use Rattle.raw_processor.specs.Touching.{owed_after}
use Rattle.raw_serial.specs.Running.{Running, TakesNone, TakesLastBehind, misses_in, OwesLast, IsRunBy}

-- one list behind another, split where an element stands: in the first or in the second
pub split_at : (xs ys front rest : List ℕ) (p : ℕ) → xs ++ ys ≡ front ++ p ∷ rest
    → ((between : List ℕ) × (xs ≡ front ++ p ∷ between) × (rest ≡ between ++ ys)) ⊎ ((more : List ℕ) × (front ≡ xs ++ more) × (ys ≡ more ++ p ∷ rest))
split_at [] ys front rest p e = inr (front, refl, e)
split_at (x ∷ xs) ys [] rest p e =
    let first : x ≡ p = cc e in
    let behind : xs ++ ys ≡ rest = cc e in
    inl (xs, ap (λ z. z ∷ xs) first, sym behind)
split_at (x ∷ xs) ys (f ∷ front) rest p e =
    let first : x ≡ f = cc e in
    let behind : xs ++ ys ≡ front ++ p ∷ rest = cc e in
    ⊎_elim
    (λ (l : (between : List ℕ) × (xs ≡ front ++ p ∷ between) × (rest ≡ between ++ ys)).
    inl (l.0, (λ i. first i ∷ l.1 i), l.2))
    (λ (r : (more : List ℕ) × (front ≡ xs ++ more) × (ys ≡ more ++ p ∷ rest)).
    inr (r.0, (λ i. sym first i ∷ r.1 i), r.2))
    (split_at xs ys front rest p behind)

-- how often a number stands in one list behind another
pub count_append : (p : ℕ) (xs ys : List ℕ) → count_of p (xs ++ ys) ≡ count_of p xs + count_of p ys
count_append p [] ys = omega arith
count_append p (x ∷ xs) ys =
    let rest = count_append p xs ys in
    ⊎_elim
    (λ (same : x ≡ p).
    subst (λ z. count_of p (z ∷ (xs ++ ys)) ≡ count_of p (z ∷ xs) + count_of p ys) (sym same) (omega (arith, count_here p (xs ++ ys), count_here p xs, rest)))
    (λ (other : x ≡ p → ⊥). omega (arith, count_there p x (xs ++ ys) other, count_there p x xs other, rest))
    (cases_eq x p)

-- a processor does not take its last step behind a front of no steps, nor of steps of which it takes none
pub takes_some : (p : ℕ) (steps front : List ℕ) → TakesLastBehind p steps front → 0 < count_of p steps
takes_some p steps front last =
    let parts = ap (count_of p) last.parts in
    omega (arith, parts, count_append p front (p ∷ last.rest), count_here p last.rest)

-- the last step of a processor in a list that one more step of its own ends
pub last_own : (p : ℕ) (steps front : List ℕ) → TakesLastBehind p (steps ++ p ∷ []) front → front ≡ steps
last_own p steps front last =
    ⊎_elim
    (λ (l : (between : List ℕ) × (steps ≡ front ++ p ∷ between) × (last.rest ≡ between ++ p ∷ [])).
    absurd (omega (arith, ap (count_of p) l.2, count_append p l.0 (p ∷ []), count_here p [], last.none_later)))
    (λ (r : (more : List ℕ) × (front ≡ steps ++ more) × (p ∷ [] ≡ more ++ p ∷ last.rest)). r.1 ∙ ap (λ xs. steps ++ xs) (alone r.0 last.rest r.2) ∙ append-nil steps)
    (split_at steps (p ∷ []) front last.rest p last.parts)
  where
    none : (more rest : List ℕ) → [] ≡ more ++ p ∷ rest → ⊥
    none [] rest e = cc e
    none (x ∷ more) rest e = cc e

    alone : (more rest : List ℕ) → p ∷ [] ≡ more ++ p ∷ rest → more ≡ []
    alone [] rest e = refl
    alone (x ∷ more) rest e = let behind : [] ≡ more ++ p ∷ rest = cc e in absurd (none more rest behind)

-- and in one of which another list, without steps of the processor, is the end
pub last_earlier : (p : ℕ) (steps more front : List ℕ) → TakesNone p more → TakesLastBehind p (steps ++ more) front → TakesLastBehind p steps front
last_earlier p steps more front none last =
    ⊎_elim
    (λ (l : (between : List ℕ) × (steps ≡ front ++ p ∷ between) × (last.rest ≡ between ++ more)).
    record {
      rest = l.0;
      parts = l.1;
      none_later = omega (arith, ap (count_of p) l.2, count_append p l.0 more, last.none_later);
    })
    (λ (r : (behind : List ℕ) × (front ≡ steps ++ behind) × (more ≡ behind ++ p ∷ last.rest)).
    absurd (omega (arith, none, ap (count_of p) r.2, count_append p r.0 (p ∷ last.rest), count_here p last.rest)))
    (split_at steps more front last.rest p last.parts)

-- where the processor takes a step in the second list, its last step stands there
pub last_later : (p : ℕ) (steps more front : List ℕ) → 0 < count_of p more → TakesLastBehind p (steps ++ more) front
    → (later : List ℕ) × (front ≡ steps ++ later) × TakesLastBehind p more later
last_later p steps more front some last =
    ⊎_elim
    (λ (l : (between : List ℕ) × (steps ≡ front ++ p ∷ between) × (last.rest ≡ between ++ more)).
    absurd (omega (arith, some, ap (count_of p) l.2, count_append p l.0 more, last.none_later)))
    (λ (r : (later : List ℕ) × (front ≡ steps ++ later) × (more ≡ later ++ p ∷ last.rest)).
    (r.0, r.1, record { rest = last.rest; parts = r.2; none_later = last.none_later }))
    (split_at steps more front last.rest p last.parts)

-- of no steps nothing is owed
pub owes_first : (set : ProgramSet) (t owed : ℕ) → owed ≡ 0 → OwesLast set [] t owed
owes_first set t owed is =
    record { none = λ e. is; last = λ front last. absurd (let some = takes_some t [] front last in omega (arith, some)) }

-- less is owed
pub owes_less : (set : ProgramSet) (steps : List ℕ) (t owed less : ℕ) → less ≤ owed → OwesLast set steps t owed → OwesLast set steps t less
owes_less set steps t owed less few is =
    record {
      none = λ e. let all = is.none e in omega (arith, few, all);
      last = λ front last. let most = is.last front last in omega (arith, few, most);
    }

-- a step of its own costs what its miss costs
pub owes_own : (set : ProgramSet) (steps : List ℕ) (t owed : ℕ) → owed ≡ owed_after (stream_of set t) (misses_in set steps t) (misses_in set (steps ++ t ∷ []) t)
    → OwesLast set (steps ++ t ∷ []) t owed
owes_own set steps t owed is =
    record {
      none = λ (e : TakesNone t (steps ++ t ∷ [])). absurd (omega (arith, e, count_append t steps (t ∷ []), count_here t []));
      last = λ front last.
          subst (λ xs. owed ≤ owed_after (stream_of set t) (misses_in set xs t) (misses_in set (steps ++ t ∷ []) t)) (sym (last_own t steps front last)) (omega (arith, is));
    }

-- steps of others cost it nothing
pub owes_on : (set : ProgramSet) (steps more : List ℕ) (t owed less : ℕ) → TakesNone t more → misses_in set (steps ++ more) t ≡ misses_in set steps t → less ≤ owed
    → OwesLast set steps t owed → OwesLast set (steps ++ more) t less
owes_on set steps more t owed less others same few is =
    record {
      none = λ (e : TakesNone t (steps ++ more)).
          let none : TakesNone t steps = omega (arith, e, count_append t steps more) in
          let all = is.none none in omega (arith, few, all);
      last = λ front last.
          subst (λ n. less ≤ owed_after (stream_of set t) (misses_in set front t) n) (sym same)
          (let most = is.last front (last_earlier t steps more front others last) in omega (arith, few, most));
    }

-- where one number becomes no greater, none does
pub put_less : (xs : List ℕ) (i n : ℕ) → n ≤ slice_index xs i → (j : ℕ) → slice_index (set xs i n) j ≤ slice_index xs j
put_less [] i n few j = omega arith
put_less (x ∷ xs) zero n few zero = few
put_less (x ∷ xs) zero n few (suc j) = omega arith
put_less (x ∷ xs) (suc i) n few zero = omega arith
put_less (x ∷ xs) (suc i) n few (suc j) = put_less xs i n few j

pub one_less : (owed : List ℕ) (p q : ℕ) → slice_index (set owed p (slice_index owed p - 1)) q ≤ slice_index owed q
one_less owed p q = put_less owed p (slice_index owed p - 1) (omega arith) q

-- a machine that owes no more is run by the same steps
pub owing_less : (m : Running) (owed : List ℕ) (steps : List ℕ) → ((p : ℕ) → slice_index owed p ≤ slice_index m.owed p) → IsRunBy m steps → IsRunBy (record m { owed = owed }) steps
owing_less m owed steps few run =
    record {
      lawful = run.lawful;
      there = run.there;
      stands = run.stands;
      missed = run.missed;
      owed = λ t within. owes_less m.set steps t (slice_index m.owed t) (slice_index owed t) (few t) (run.owed t within);
    }
