-- A stop is at the same step of its processor in every order.
use Rattle.std.proofs.Common.{◌≡◌, ℕ, zero, suc, ◌+◌, ◌-◌, ◌<◌, ◌≤◌, Bool, true, false, List, [], ◌∷◌, ◌++◌, length, take, drop, Option, Some, None, refl, sym, ap, ap₂, ◌∙◌, subst, ⊎_elim, arith, cond, not, append-nil}
use Rattle.std.specs.Prelude.{slice_get, ◌&&◌, ◌==◌}
use Rattle.std.specs.List.{find, list_any, range_with_len}
use Rattle.std.specs.Option.{option_map}
use Rattle.std.proofs.Math.Seq.{take-append_seam}
use Rattle.std.proofs.lemmas.Bool.{cases_eq, cases_lt, eqb-true, and_parts, and_from, eq-eqb, leb-true, true≢false}
use Rattle.std.proofs.lemmas.List.{take-append-drop}
use Rattle.raw_network.specs.Network.{count_of, event_of}
use Rattle.raw_network.specs.Runs.{events_of, sent_on}
use Rattle.raw_network.proofs.Wires.{count_here, count_there}
use Rattle.raw_network.proofs.Erased.{events_here, length-events_of}
use Rattle.raw_network.proofs.Steps.{end_of-push, events_of-append}
use Rattle.raw_network.proofs.Kth.{kth_at}
use Rattle.raw_model.specs.Program.{ProgramSet}
use Rattle.raw_model.specs.Machine.{machine_of}
use Rattle.raw_model.specs.Start.{MachineState, start}
use Rattle.raw_model.specs.Rest.{step, end, passed_on, IsLawful, kth_local}
use Rattle.raw_model.specs.Serial.{serial}
use Rattle.raw_model.specs.Laws.{events_at}
use Rattle.raw_model.proofs.Counts.{count-append}
use Rattle.raw_debug.specs.declared.command.Aim.{Aim}
use Rattle.raw_debug.specs.declared.command.Aim.TheVariants.{Pc, Sends, SendsAny, Stores, StoresAny, Sets, SetsAny}
use Rattle.raw_debug.specs.Walking.{up_to, state_after, count_at, moment_of}
use Rattle.raw_serial.specs.Within.{register_in}
use Rattle.raw_debug.specs.Stops.{has_pc, has_word, word_in, has_value, does, is_of, is_stop, stop_after, latest, last_up_to, stopped_after, sent_in, did, IsNext, IsLatest}
use Rattle.raw_debug.proofs.UpTo.{up_to_begins, up_to_count}

behind : (a j : ℕ) → (a ≡ j → ⊥) → a ≤ j → a + 1 ≤ j
behind a j ne le = ⊎_elim (λ (l : a < j). omega (arith, l)) (λ (g : j ≤ a). absurd (ne (omega (arith, g, le)))) (cases_lt a j)

-- where a search in a range ended
pub record IsFound (test : ℕ → Bool) (a n k : ℕ) : Type 0 where
  pub low : a ≤ k
  pub high : k < a + n
  pub here : test k ≡ true
  pub none : (j : ℕ) → a ≤ j → j < k → test j ≡ false

-- one further on
found_later : (test : ℕ → Bool) (a n k : ℕ) → test a ≡ false → IsFound test (a + 1) n k → IsFound test a (suc n) k
found_later test a n k off found = record {
  low = omega (arith, found.low);
  high = omega (arith, found.high);
  here = found.here;
  none = λ j low high.
      ⊎_elim
      (λ (e : a ≡ j). subst (λ i. test i ≡ false) e off)
      (λ (ne : a ≡ j → ⊥). found.none j (behind a j ne low) high)
      (cases_eq a j);
}

pub found_at : (test : ℕ → Bool) (a n k : ℕ) → find test (range_with_len a n) ≡ Some k → IsFound test a n k
found_at test a zero k e = absurd (cc e)
found_at test a (suc n) k e = by_test (test a) refl (λ f. found_at test (a + 1) n k f) e
  where
    by_test : (b : Bool) → test a ≡ b → (find test (range_with_len (a + 1) n) ≡ Some k → IsFound test (a + 1) n k)
        → cond b (Some a) (find test (range_with_len (a + 1) n)) ≡ Some k → IsFound test a (suc n) k
    by_test true on rest f =
        let is : a ≡ k = cc f in
        subst (λ i. IsFound test a (suc n) i) is (record { low = omega arith; high = omega arith; here = on; none = λ j low high. absurd (omega (arith, low, high)) })
    by_test false off rest f = found_later test a n k off (rest f)

pub none_found : (test : ℕ → Bool) (a n : ℕ) → find test (range_with_len a n) ≡ None → (j : ℕ) → a ≤ j → j < a + n → test j ≡ false
none_found test a zero e j low high = absurd (omega (arith, low, high))
none_found test a (suc n) e j low high = by_test (test a) refl (λ f more. none_found test (a + 1) n f j more (omega (arith, high))) e
  where
    by_test : (b : Bool) → test a ≡ b → (find test (range_with_len (a + 1) n) ≡ None → a + 1 ≤ j → test j ≡ false)
        → cond b (Some a) (find test (range_with_len (a + 1) n)) ≡ None → test j ≡ false
    by_test true on rest f = absurd (cc f)
    by_test false off rest f =
        ⊎_elim
        (λ (e : a ≡ j). subst (λ i. test i ≡ false) e off)
        (λ (ne : a ≡ j → ⊥). rest f (behind a j ne low))
        (cases_eq a j)

same_next : (o : Option ℕ) (n : ℕ) → option_map suc o ≡ Some n → (k : ℕ) × (o ≡ Some k) × (suc k ≡ n)
same_next None n e = absurd (cc e)
same_next (Some k) n e = (k, refl, cc e)

no_next : (o : Option ℕ) → option_map suc o ≡ None → o ≡ None
no_next None e = refl
no_next (Some k) e = absurd (cc e)

-- where a script stops
pub stopped_at : (set : ProgramSet) (moment p : ℕ) (aim : Aim) (n : ℕ) → stop_after set moment p aim ≡ Some n
    → (k : ℕ) × IsFound (is_stop set p aim) moment (length (serial set) - moment) k × (suc k ≡ n)
unfolding stop_after
stopped_at set moment p aim n e =
    let (k, found, is) = same_next (find (is_stop set p aim) (range_with_len moment (length (serial set) - moment))) n e in
    (k, found_at (is_stop set p aim) moment (length (serial set) - moment) k found, is)

pub first_stop : (set : ProgramSet) (moment p : ℕ) (aim : Aim) (n : ℕ) → stop_after set moment p aim ≡ Some n
    → IsNext (λ k. is_stop set p aim (k - 1) ≡ true) moment n
first_stop set moment p aim n e =
    let (k, found, is) = stopped_at set moment p aim n e in
    let before : k ≡ n - 1 = omega (arith, is) in
    record {
      above = omega (arith, found.low, is);
      so = subst (λ i. is_stop set p aim i ≡ true) before found.here;
      first = λ j low high here. true≢false (sym here ∙ found.none (j - 1) (omega (arith, low)) (omega (arith, high, is, low)));
    }

pub no_stop : (set : ProgramSet) (moment p : ℕ) (aim : Aim) → stop_after set moment p aim ≡ None
    → (k : ℕ) → moment < k → k ≤ length (serial set) → is_stop set p aim (k - 1) ≡ false
unfolding stop_after
no_stop set moment p aim e k low high =
    none_found (is_stop set p aim) moment (length (serial set) - moment) (no_next _ e) (k - 1) (omega (arith, low)) (omega (arith, low, high))

-- the latest number for which the one before it passes a test
latest_at : (test : ℕ → Bool) (m n : ℕ) → latest test m ≡ Some n → IsLatest (λ k. test (k - 1) ≡ true) m n
latest_at test zero n e = absurd (cc e)
latest_at test (suc m) n e = by_test (test m) refl (latest_at test m n) e
  where
    by_test : (b : Bool) → test m ≡ b → (latest test m ≡ Some n → IsLatest (λ k. test (k - 1) ≡ true) m n)
        → cond b (Some (suc m)) (latest test m) ≡ Some n → IsLatest (λ k. test (k - 1) ≡ true) (suc m) n
    by_test true on rest f =
        let is : suc m ≡ n = cc f in
        let before : m ≡ n - 1 = omega (arith, is) in
        record {
          some = omega (arith, is);
          within = omega (arith, is);
          so = subst (λ i. test i ≡ true) before on;
          last = λ j low high here. absurd (omega (arith, low, high, is));
        }
    by_test false off rest f =
        let found = rest f in
        record {
          some = found.some;
          within = omega (arith, found.within);
          so = found.so;
          last = λ j low high here.
              ⊎_elim
              (λ (before : j < suc m). found.last j low (omega (arith, before)) here)
              (λ (at : suc m ≤ j). let e : m ≡ j - 1 = omega (arith, at, high) in true≢false (sym here ∙ subst (λ i. test i ≡ false) e off))
              (cases_lt j (suc m));
        }

no_latest : (test : ℕ → Bool) (m : ℕ) → latest test m ≡ None → (k : ℕ) → 0 < k → k ≤ m → test (k - 1) ≡ false
no_latest test zero e k some le = absurd (omega (arith, some, le))
no_latest test (suc m) e k some le = by_test (test m) refl (no_latest test m) e
  where
    by_test : (b : Bool) → test m ≡ b → (latest test m ≡ None → (j : ℕ) → 0 < j → j ≤ m → test (j - 1) ≡ false)
        → cond b (Some (suc m)) (latest test m) ≡ None → test (k - 1) ≡ false
    by_test true on rest f = absurd (cc f)
    by_test false off rest f =
        ⊎_elim
        (λ (before : k < suc m). rest f k some (omega (arith, before)))
        (λ (at : suc m ≤ k). let e : m ≡ k - 1 = omega (arith, at, le) in subst (λ i. test i ≡ false) e off)
        (cases_lt k (suc m))

pub found_latest : (set : ProgramSet) (moment p : ℕ) (aim : Aim) (n : ℕ) → last_up_to set moment p aim ≡ Some n
    → IsLatest (λ k. is_stop set p aim (k - 1) ≡ true) moment n
unfolding last_up_to
found_latest set moment p aim n e = latest_at (is_stop set p aim) moment n e

pub none_latest : (set : ProgramSet) (moment p : ℕ) (aim : Aim) → last_up_to set moment p aim ≡ None
    → (k : ℕ) → 0 < k → k ≤ moment → is_stop set p aim (k - 1) ≡ false
unfolding last_up_to
none_latest set moment p aim e = no_latest (is_stop set p aim) moment e

-- the j-th entry p of a list
record IsEntry (p j : ℕ) (xs : List ℕ) (i : ℕ) : Type 0 where
  here : slice_get xs i ≡ Some p
  up : count_of p (take (suc i) xs) ≡ j
  before : suc (count_of p (take i xs)) ≡ j

entry : (p j : ℕ) (xs : List ℕ) → 0 < j → j ≤ count_of p xs → (i : ℕ) × IsEntry p j xs i
entry p zero xs some le = absurd (omega (arith, some))
entry p (suc j) [] some le = absurd (omega (arith, le))
entry p (suc zero) (x ∷ xs) some le =
    ⊎_elim
    (λ (e : x ≡ p). subst (λ y. (i : ℕ) × IsEntry p 1 (y ∷ xs) i) (sym e) (0, record { here = refl; up = count_here p []; before = refl }))
    (λ (ne : x ≡ p → ⊥).
    let (i, is) = entry p 1 xs some (let a = count_there p x xs ne in omega (arith, le, a)) in
    (suc i, record { here = is.here; up = count_there p x (take (suc i) xs) ne ∙ is.up; before = ap suc (count_there p x (take i xs) ne) ∙ is.before }))
    (cases_eq x p)
entry p (suc (suc j)) (x ∷ xs) some le =
    ⊎_elim
    (λ (e : x ≡ p).
    let (i, is) = entry p (suc j) xs (omega arith) (let a = subst (λ y. count_of p (y ∷ xs) ≡ suc (count_of p xs)) (sym e) (count_here p xs) in omega (arith, le, a)) in
    subst (λ y. (i : ℕ) × IsEntry p (suc (suc j)) (y ∷ xs) i) (sym e)
    (suc i, record { here = is.here; up = count_here p (take (suc i) xs) ∙ ap suc is.up; before = ap suc (count_here p (take i xs) ∙ is.before) }))
    (λ (ne : x ≡ p → ⊥).
    let (i, is) = entry p (suc (suc j)) xs some (let a = count_there p x xs ne in omega (arith, le, a)) in
    (suc i, record { here = is.here; up = count_there p x (take (suc i) xs) ne ∙ is.up; before = ap suc (count_there p x (take i xs) ne) ∙ is.before }))
    (cases_eq x p)

-- a longer front has as many entries p or more
rises : (p : ℕ) (xs : List ℕ) (a b : ℕ) → a ≤ b → count_of p (take a xs) ≤ count_of p (take b xs)
rises p [] a b le = by_end a b
  where
    by_end : (a b : ℕ) → count_of p (take a []) ≤ count_of p (take b [])
    by_end zero b = omega arith
    by_end (suc a) b = omega arith
rises p (x ∷ xs) zero b le = omega arith
rises p (x ∷ xs) (suc a) zero le = absurd (omega (arith, le))
rises p (x ∷ xs) (suc a) (suc b) le =
    let more = rises p xs a b (omega (arith, le)) in
    ⊎_elim
    (λ (e : x ≡ p).
    subst (λ y. count_of p (y ∷ take a xs) ≤ count_of p (y ∷ take b xs)) (sym e)
    (let c = count_here p (take a xs) in let d = count_here p (take b xs) in omega (arith, more, c, d)))
    (λ (ne : x ≡ p → ⊥). let c = count_there p x (take a xs) ne in let d = count_there p x (take b xs) ne in omega (arith, more, c, d))
    (cases_eq x p)

-- a front with the entry behind it
take_next : (xs : List ℕ) (i q : ℕ) → slice_get xs i ≡ Some q → take (suc i) xs ≡ take i xs ++ q ∷ []
take_next [] i q e = absurd (cc e)
take_next (x ∷ xs) zero q e = let is : x ≡ q = cc e in ap (λ y. y ∷ []) is
take_next (x ∷ xs) (suc i) q e = ap (λ ys. x ∷ ys) (take_next xs i q e)

is_entry : (p : ℕ) (o : Option ℕ) → is_of p o ≡ true → o ≡ Some p
is_entry p None e = absurd (cc e)
is_entry p (Some q) e = ap Some (eqb-true q p e)

entry_is : (p : ℕ) (o : Option ℕ) → o ≡ Some p → is_of p o ≡ true
entry_is p o e = subst (λ x. is_of p x ≡ true) (sym e) (eq-eqb p p refl)

-- a list is its front, the entry behind it, and the rest
whole_next : (xs : List ℕ) (i q : ℕ) → slice_get xs i ≡ Some q → take i xs ++ q ∷ drop (suc i) xs ≡ xs
whole_next [] i q e = absurd (cc e)
whole_next (x ∷ xs) zero q e = let is : x ≡ q = cc e in ap (λ y. y ∷ xs) (sym is)
whole_next (x ∷ xs) (suc i) q e = ap (λ ys. x ∷ ys) (whole_next xs i q e)

at_seam : {A : Type 0} (xs : List A) (y : A) (ys : List A) → slice_get (xs ++ y ∷ ys) (length xs) ≡ Some y
at_seam [] y ys = refl
at_seam (x ∷ xs) y ys = at_seam xs y ys

module _ (set : ProgramSet) (lawful_serial : IsLawful set (serial set)) (steps : List ℕ)
    (same : (p k : ℕ) → k ≤ count_of p (serial set) → k ≤ count_of p steps → kth_local set (start set) steps p k ≡ kth_local set (start set) (serial set) p k)
    (same_event : (p i : ℕ) → i < count_of p (serial set) → i < count_of p steps
    → slice_get (events_at set (start set) steps p) i ≡ slice_get (events_at set (start set) (serial set) p) i) where
  -- the local state at a moment is that right after so many steps of its processor
  local_at : (p i : ℕ) → kth_local set (start set) (serial set) p (count_of p (take i (serial set))) ≡ slice_get (state_after set i).locals p
  unfolding state_after
  local_at p i =
      let front = take i (serial set) in
      let rest = drop i (serial set) in
      let whole : front ++ rest ≡ serial set = take-append-drop i (serial set) in
      ap (λ xs. kth_local set (start set) xs p (count_of p front)) (sym whole)
      ∙ kth_at (machine_of set) (start set) front rest p (subst (IsLawful set) (sym whole) lawful_serial)

  next_state : (p i : ℕ) → slice_get (serial set) i ≡ Some p → state_after set (suc i) ≡ step set (state_after set i) p
  unfolding state_after
  next_state p i here = ap (end set) (take_next (serial set) i p here) ∙ end_of-push (machine_of set) (start set) (take i (serial set)) p

  some_steps : (p i : ℕ) → count_of p (take i (serial set)) ≤ count_of p (serial set)
  some_steps p i =
      let whole = ap (count_of p) (take-append-drop i (serial set)) in
      let parts = count-append p (take i (serial set)) (drop i (serial set)) in
      omega (arith, whole, parts)

  -- right before and right behind the j-th step of p, in either order
  module _ (p j i : ℕ) (is : IsEntry p j (serial set) i) (le : j ≤ count_of p steps) where
    right_behind : kth_local set (start set) steps p j ≡ slice_get (step set (state_after set i) p).locals p
    right_behind =
        same p j (subst (λ k. k ≤ count_of p (serial set)) is.up (some_steps p (suc i))) le
        ∙ ap (kth_local set (start set) (serial set) p) (sym is.up)
        ∙ local_at p (suc i)
        ∙ ap (λ (s : MachineState). slice_get s.locals p) (next_state p i is.here)

    ahead : kth_local set (start set) steps p (j - 1) ≡ slice_get (state_after set i).locals p
    ahead =
        let one : j - 1 ≡ count_of p (take i (serial set)) = omega (arith, is.before) in
        same p (j - 1) (subst (λ k. k ≤ count_of p (serial set)) (sym one) (some_steps p i)) (omega (arith, le))
        ∙ ap (kth_local set (start set) (serial set) p) one
        ∙ local_at p i

  -- what the step of p at a moment does, which is its step with this number
  event_at : (p i : ℕ) → slice_get (serial set) i ≡ Some p
      → slice_get (events_at set (start set) (serial set) p) (count_of p (take i (serial set))) ≡ Some (event_of (machine_of set) (state_after set i) p)
  unfolding state_after
  event_at p i here =
      let net = machine_of set in
      let front = take i (serial set) in
      let rest = drop (suc i) (serial set) in
      ap (λ xs. slice_get (events_at set (start set) xs p) (count_of p front)) (sym (whole_next (serial set) i p here))
      ∙ ap (λ es. slice_get es (count_of p front))
      (events_of-append net (start set) front (p ∷ rest) p
      ∙ ap (λ es. events_at set (start set) front p ++ es) (events_here net (end set front) p rest))
      ∙ ap (slice_get (events_at set (start set) front p ++ event_of net (end set front) p ∷ events_of net (step set (end set front) p) rest p))
      (sym (length-events_of net (start set) front p))
      ∙ at_seam (events_at set (start set) front p) (event_of net (end set front) p) (events_of net (step set (end set front) p) rest p)

  -- what it sends is the same in either order
  sent_is : (p w j i : ℕ) → IsEntry p j (serial set) i → j ≤ count_of p steps
      → sent_in (slice_get (events_at set (start set) steps p) (j - 1)) w ≡ passed_on set (state_after set i) (p ∷ []) w
  sent_is p w j i is le =
      let one : j - 1 ≡ count_of p (take i (serial set)) = omega (arith, is.before) in
      let most : j ≤ count_of p (serial set) = subst (λ k. k ≤ count_of p (serial set)) is.up (some_steps p (suc i)) in
      ap (λ e. sent_in e w)
      (same_event p (j - 1) (omega (arith, is.before, most)) (omega (arith, is.before, le))
      ∙ ap (slice_get (events_at set (start set) (serial set) p)) one ∙ event_at p i is.here)
      ∙ sym (append-nil (sent_on w (event_of (machine_of set) (state_after set i) p).sent))

  -- a step does what is aimed at in either order
  did_is : (p : ℕ) (aim : Aim) (j i : ℕ) → IsEntry p j (serial set) i → j ≤ count_of p steps → did set steps p aim j ≡ does set (state_after set i) p aim
  did_is p (Pc pc) j i is le = ap (has_pc pc) (right_behind p j i is le)
  did_is p (Sends wire value) j i is le = ap (list_any (λ v. v == value)) (sent_is p wire.0 j i is le)
  did_is p (SendsAny wire) j i is le = ap (list_any (λ v. true)) (sent_is p wire.0 j i is le)
  did_is p (Stores address word) j i is le =
      ap₂ (λ before behind. has_word address word behind && not (has_word address word before)) (ahead p j i is le) (right_behind p j i is le)
  did_is p (StoresAny address) j i is le =
      ap₂ (λ before behind. not (word_in address behind == word_in address before)) (ahead p j i is le) (right_behind p j i is le)
  did_is p (Sets register value) j i is le =
      ap₂ (λ before behind. has_value register value behind && not (has_value register value before)) (ahead p j i is le) (right_behind p j i is le)
  did_is p (SetsAny register) j i is le =
      ap₂ (λ before behind. not (register_in register behind == register_in register before)) (ahead p j i is le) (right_behind p j i is le)

  -- a stop is at the first step of the processor that does what is aimed at, in either order
  pub next_stop : (moment p : ℕ) (aim : Aim) (n : ℕ) → stop_after set moment p aim ≡ Some n → count_at set p n ≤ count_of p steps
      → IsNext (λ k. did set steps p aim k ≡ true) (count_at set p moment) (count_at set p n)
  next_stop moment p aim n e most =
      let (k, found, is) = stopped_at set moment p aim n e in
      let both = and_parts (is_of p (slice_get (serial set) k)) (does set (state_after set k) p aim) found.here in
      let here = is_entry p (slice_get (serial set) k) both.0 in
      let count = ap (count_of p) (take_next (serial set) k p here) ∙ count-append p (take k (serial set)) (p ∷ []) in
      let one = count_here p [] in
      let there : IsEntry p (count_at set p n) (serial set) k = record {
        here = here;
        up = ap (λ m. count_of p (take m (serial set))) is;
        before = let up = ap (λ m. count_of p (take m (serial set))) is in omega (arith, count, one, up);
      } in
      let low = rises p (serial set) moment k found.low in
      record {
        above = omega (arith, low, there.before);
        so = did_is p aim (count_at set p n) k there most ∙ both.1;
        first = λ j above below so.
            let (i, at) = entry p j (serial set) (omega (arith, above)) (let less = some_steps p n in omega (arith, below, less)) in
            let le : j ≤ count_of p steps = omega (arith, below, most) in
            let later : moment ≤ i = ⊎_elim
            (λ (l : i < moment). absurd (let r = rises p (serial set) (suc i) moment (omega (arith, l)) in let up = at.up in omega (arith, r, up, above)))
            (λ (g : moment ≤ i). g) (cases_lt i moment) in
            let earlier : i < k = ⊎_elim
            (λ (l : i < k). l)
            (λ (g : k ≤ i). absurd (let r = rises p (serial set) (suc k) (suc i) (omega (arith, g)) in let up = at.up in let end = there.up in omega (arith, r, up, end, below)))
            (cases_lt i k) in
            let does_it : does set (state_after set i) p aim ≡ true = sym (did_is p aim j i at le) ∙ so in
            let stop : is_stop set p aim i ≡ true = and_from _ _ (entry_is p (slice_get (serial set) i) at.here) does_it in
            true≢false (sym stop ∙ found.none i later earlier);
      }

  -- the latest is at the latest step of the processor that does what is aimed at, in either order
  pub last_stop : (moment p : ℕ) (aim : Aim) (n : ℕ) → last_up_to set moment p aim ≡ Some n → count_at set p moment ≤ count_of p steps
      → IsLatest (λ k. did set steps p aim k ≡ true) (count_at set p moment) (count_at set p n)
  last_stop moment p aim n e most =
      let found = found_latest set moment p aim n e in
      let k : ℕ = n - 1 in
      let is : suc k ≡ n = omega (arith, found.some) in
      let both = and_parts (is_of p (slice_get (serial set) k)) (does set (state_after set k) p aim) found.so in
      let here = is_entry p (slice_get (serial set) k) both.0 in
      let count = ap (count_of p) (take_next (serial set) k p here) ∙ count-append p (take k (serial set)) (p ∷ []) in
      let one = count_here p [] in
      let there : IsEntry p (count_at set p n) (serial set) k = record {
        here = here;
        up = ap (λ m. count_of p (take m (serial set))) is;
        before = let up = ap (λ m. count_of p (take m (serial set))) is in omega (arith, count, one, up);
      } in
      let high = rises p (serial set) n moment found.within in
      record {
        some = omega (arith, there.before);
        within = high;
        so = did_is p aim (count_at set p n) k there (omega (arith, high, most)) ∙ both.1;
        last = λ j above below so.
            let (i, at) = entry p j (serial set) (omega (arith, above)) (let less = some_steps p moment in omega (arith, below, less)) in
            let le : j ≤ count_of p steps = omega (arith, below, most) in
            let later : n < suc i = ⊎_elim
            (λ (l : n < suc i). l)
            (λ (g : suc i ≤ n). absurd (let r = rises p (serial set) (suc i) n g in let up = at.up in omega (arith, r, up, above)))
            (cases_lt n (suc i)) in
            let earlier : suc i ≤ moment = ⊎_elim
            (λ (l : moment < suc i). absurd (let r = rises p (serial set) moment i (omega (arith, l)) in let before = at.before in omega (arith, r, before, below)))
            (λ (g : suc i ≤ moment). g) (cases_lt moment (suc i)) in
            let does_it : does set (state_after set i) p aim ≡ true = sym (did_is p aim j i at le) ∙ so in
            let stop : is_stop set p aim i ≡ true = and_from _ _ (entry_is p (slice_get (serial set) i) at.here) does_it in
            let e : i ≡ suc i - 1 = omega arith in
            found.last (suc i) later earlier (subst (λ m. is_stop set p aim m ≡ true) e stop);
      }

nat_le_cases : (b : Bool) (x n : ℕ) → cond b (Some x) None ≡ Some n → (b ≡ true) × (x ≡ n)
nat_le_cases true x n e = (refl, cc e)
nat_le_cases false x n e = absurd (cc e)

-- right after the k-th step of p there are k
pub steps_there : (set : ProgramSet) (p k n : ℕ) → moment_of set p k ≡ Some n → count_at set p n ≡ k
unfolding moment_of
steps_there set p k n e =
    let (some, is) = nat_le_cases _ _ n e in
    let (rest, whole) = up_to_begins p k (serial set) in
    let front = up_to p k (serial set) in
    ap (λ m. count_of p (take m (serial set))) (sym is)
    ∙ ap (λ xs. count_of p (take (length front) xs)) whole
    ∙ ap (count_of p) (take-append_seam front rest)
    ∙ up_to_count p k (serial set) (leb-true k (count_of p (serial set)) some)

-- right after the last step of p there are all
pub all_steps : (set : ProgramSet) (moment p n : ℕ) → stopped_after set moment p ≡ Some n → count_at set p n ≡ count_of p (serial set)
unfolding stopped_after
all_steps set moment p n e = by_test (count_at set p moment == count_of p (serial set)) e
  where
    by_test : (b : Bool) → cond b None (moment_of set p (count_of p (serial set))) ≡ Some n → count_at set p n ≡ count_of p (serial set)
    by_test true f = absurd (cc f)
    by_test false f = steps_there set p (count_of p (serial set)) n f
