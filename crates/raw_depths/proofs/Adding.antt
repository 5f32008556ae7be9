-- What is found at one depth more.
use Rattle.std.proofs.Common.{◌≡◌, ◌≢◌, ℕ, zero, suc, ◌+◌, ◌<◌, ◌≤◌, Bool, true, false, cond, List, [], ◌∷◌, ◌++◌, length, Option, Some, None, refl, sym, ap, ap₂, ◌∙◌, subst, inl, inr, ◌⊎◌, ⊎_elim, arith, append-nil, append_assoc}
use Rattle.std.specs.Prelude.{MatchOption, option_map, if◌then◌else◌}
use Rattle.std.specs.List.{find, flat_map, range_with_len}
use Rattle.std.specs.Global.{Vec}
use Rattle.std.specs.Option.{ForSome, option_or}
use Rattle.std.proofs.lemmas.Bool.{cases_eq, cases_Bool, false≢true}
use Rattle.std.proofs.lemmas.Option.{same_Some}
use Rattle.std.proofs.lemmas.List.{length-append}
use Rattle.std.proofs.lemmas.List.Folds.{find-append}
use Rattle.std.proofs.lemmas.Grind.{flat_map-append}
use Rattle.raw_model.specs.Program.{ProgramSet}
use Rattle.raw_model.specs.StateTexts.{outcome_word}
use Rattle.raw_depth.specs.Depth.{at_depth}
use Rattle.raw_depth.specs.Verdicts.{rest_at, outcome_at, is_done, waits_for_values}
use Rattle.raw_depths.specs.declared.found.AtDepth.{AtDepth}
use Rattle.raw_depths.specs.declared.found.ValueDeadlock.{ValueDeadlock}
use Rattle.raw_depths.specs.declared.found.Depths.{Depths}
use Rattle.raw_depths.specs.declared.running.Rested.{Rested}
use Rattle.raw_depths.specs.Text.{program_steps, depth_line, cycles_at, line_at, report_at, cycle_lines}
use Rattle.raw_outcome.specs.Told.{word_of}
use Rattle.raw_depths.specs.Found.{is_done_answer, IsRestedOf, deadlock_of, lines_of, IsSameTo, IsFastestTo, IsFoundTo}
use Rattle.raw_depths.proofs.Reports.{same_first, same_more, other_more}

range_more : (a n j : ℕ) → a + n ≡ j → range_with_len a (suc n) ≡ range_with_len a n ++ j ∷ []
range_more a zero j is = ap (λ x. x ∷ []) (let e : a ≡ j = omega arith in e)
range_more a (suc n) j is = ap (λ xs. a ∷ xs) (range_more (a + 1) n j (omega arith))

lines_more : (d : ℕ) (rests : List AtDepth) (rest : AtDepth) (e : ℕ) → d + length rests ≡ e
    → lines_of d (rests ++ rest ∷ []) ≡ lines_of d rests ++ depth_line e (word_of rest.outcome) rest.steps rest.cycles
lines_more d [] rest e is =
    append-nil (depth_line d (word_of rest.outcome) rest.steps rest.cycles)
    ∙ ap (λ x. depth_line x (word_of rest.outcome) rest.steps rest.cycles) (let f : d ≡ e = omega arith in f)
lines_more d (r ∷ rs) rest e is =
    ap (λ xs. depth_line d (word_of r.outcome) r.steps r.cycles ++ xs) (lines_more (d + 1) rs rest e (omega arith))
    ∙ sym
    (append_assoc (depth_line d (word_of r.outcome) r.steps r.cycles) (lines_of (d + 1) rs)
    (depth_line e (word_of rest.outcome) rest.steps rest.cycles))

find_more : (f : ℕ → Bool) (n d : ℕ) → 1 + n ≡ d → find f (range_with_len 1 (suc n)) ≡ option_or (find f (range_with_len 1 n)) (cond (f d) (Some d) None)
find_more f n d is = ap (find f) (range_more 1 n d is) ∙ find-append f (range_with_len 1 n) (d ∷ [])

module _ (set : ProgramSet) (n d : ℕ) (is : 1 + n ≡ d) (old new : Depths) (was : IsFoundTo set n old) (r : Rested) (rested : IsRestedOf (at_depth set d) r) where
  next : suc n ≡ d
  next = omega arith

  lines' : new.rests.items ≡ old.rests.items ++ r.rest ∷ [] → lines_of 1 new.rests.items ≡ flat_map (line_at set) (range_with_len 1 (suc n))
  lines' e =
      ap (lines_of 1) e
      ∙ lines_more 1 old.rests.items r.rest d (let many = was.many in omega arith)
      ∙ ap₂ (λ x y. x ++ y) was.lines
      (ap₂ (λ word steps. depth_line d word steps r.rest.cycles) rested.word rested.steps
      ∙ ap (depth_line d (outcome_word (outcome_at set d)) (program_steps (rest_at set d))) rested.cycles
      ∙ sym (append-nil (line_at set d)))
      ∙ sym (flat_map-append (line_at set) (range_with_len 1 n) (d ∷ []))
      ∙ sym (ap (flat_map (line_at set)) (range_more 1 n d is))

  done' : new.done_from ≡ option_or old.done_from (if is_done_answer r.rest.outcome then Some d else None)
      → new.done_from ≡ find (λ d. is_done (outcome_at set d)) (range_with_len 1 (suc n))
  done' e =
      e ∙ ap₂ option_or was.done (ap (λ b. cond b (Some d) None) rested.done) ∙ sym (find_more (λ d. is_done (outcome_at set d)) n d is)

  -- the deadlock of these waits
  here : (waits : Option (Vec ℕ)) → MatchOption waits (waits_for_values (at_depth set d) (rest_at set d) ≡ false)
      (λ lines. (waits_for_values (at_depth set d) (rest_at set d) ≡ true) × (lines.items ≡ cycle_lines (at_depth set d) (rest_at set d)))
      → option_map (λ (deadlock : ValueDeadlock). deadlock.depth) (deadlock_of d waits) ≡ cond (waits_for_values (at_depth set d) (rest_at set d)) (Some d) None
  here None off = sym (ap (λ b. cond b (Some d) None) off)
  here (Some lines) on = sym (ap (λ b. cond b (Some d) None) on.0)

  here_lines : (waits : Option (Vec ℕ)) → MatchOption waits (waits_for_values (at_depth set d) (rest_at set d) ≡ false)
      (λ lines. (waits_for_values (at_depth set d) (rest_at set d) ≡ true) × (lines.items ≡ cycle_lines (at_depth set d) (rest_at set d)))
      → ForSome (deadlock_of d waits) (λ deadlock. deadlock.waits.items ≡ cycle_lines (at_depth set deadlock.depth) (rest_at set deadlock.depth))
  here_lines None off deadlock e = absurd (cc e)
  here_lines (Some lines) on deadlock e =
      let first : ValueDeadlock = record { depth = d; waits = lines } in
      subst (λ (x : ValueDeadlock). x.waits.items ≡ cycle_lines (at_depth set x.depth) (rest_at set x.depth)) (same_Some first deadlock e) on.1

  or_depth : (a b : Option ValueDeadlock)
      → option_map (λ (deadlock : ValueDeadlock). deadlock.depth) (option_or a b) ≡ option_or (option_map (λ (deadlock : ValueDeadlock). deadlock.depth) a) (option_map (λ (deadlock : ValueDeadlock). deadlock.depth) b)
  or_depth None b = refl
  or_depth (Some x) b = refl

  or_lines : (a b : Option ValueDeadlock)
      → ForSome a (λ deadlock. deadlock.waits.items ≡ cycle_lines (at_depth set deadlock.depth) (rest_at set deadlock.depth))
      → ForSome b (λ deadlock. deadlock.waits.items ≡ cycle_lines (at_depth set deadlock.depth) (rest_at set deadlock.depth))
      → ForSome (option_or a b) (λ deadlock. deadlock.waits.items ≡ cycle_lines (at_depth set deadlock.depth) (rest_at set deadlock.depth))
  or_lines None b x y = y
  or_lines (Some deadlock) b x y = x

  cycle' : new.deadlock ≡ option_or old.deadlock (deadlock_of d r.waits)
      → option_map (λ (deadlock : ValueDeadlock). deadlock.depth) new.deadlock ≡ find (λ d. waits_for_values (at_depth set d) (rest_at set d)) (range_with_len 1 (suc n))
  cycle' e =
      ap (option_map (λ (deadlock : ValueDeadlock). deadlock.depth)) e
      ∙ or_depth old.deadlock (deadlock_of d r.waits)
      ∙ ap₂ option_or was.cycle (here r.waits rested.waits)
      ∙ sym (find_more (λ d. waits_for_values (at_depth set d) (rest_at set d)) n d is)

  waits' : new.deadlock ≡ option_or old.deadlock (deadlock_of d r.waits)
      → ForSome new.deadlock (λ deadlock. deadlock.waits.items ≡ cycle_lines (at_depth set deadlock.depth) (rest_at set deadlock.depth))
  waits' e =
      subst (λ o. ForSome o (λ deadlock. deadlock.waits.items ≡ cycle_lines (at_depth set deadlock.depth) (rest_at set deadlock.depth))) (sym e)
      (or_lines old.deadlock (deadlock_of d r.waits) was.waits (here_lines r.waits rested.waits))

  -- what the test of the reports says
  pub record IsTested (same : Bool) : Type 0 where
    pub first : d ≡ 1 → same ≡ true
    pub alike : 1 < d → same ≡ true → report_at set d ≡ report_at set n
    pub differ : 1 < d → same ≡ false → report_at set d ≢ report_at set n

  pub tested_is : (same : Bool) (last : List ℕ) → (1 < d → last ≡ report_at set n) → (d ≡ 1 → same ≡ true)
      → (1 < d → same ≡ true → r.report.items ≡ last) → (1 < d → same ≡ false → r.report.items ≢ last) → IsTested same
  tested_is same last before first alike differ =
      record {
        first = first;
        alike = λ less on. sym rested.report ∙ alike less on ∙ before less;
        differ = λ less off is. differ less off (rested.report ∙ is ∙ sym (before less));
      }

  same' : (same : Bool) → IsTested same → (1 ≤ n → IsSameTo set n old.same_from) → (n ≡ 0 → old.same_from ≡ 1)
      → new.same_from ≡ (if same then old.same_from else d) → IsSameTo set (suc n) new.same_from
  same' same tested before first e = ⊎_elim nothing some (cases_zero n)
    where
      cases_zero : (k : ℕ) → (k ≡ 0) ⊎ (1 ≤ k)
      cases_zero zero = inl refl
      cases_zero (suc k) = inr (omega arith)

      nothing : n ≡ 0 → IsSameTo set (suc n) new.same_from
      nothing z =
          let from : new.same_from ≡ 1 = e ∙ ap (λ b. cond b old.same_from d) (tested.first (omega arith)) ∙ first z in
          let one : 1 ≡ suc n = omega arith in
          subst (λ f. IsSameTo set (suc n) f) (sym from) (subst (λ k. IsSameTo set k 1) one (same_first set))

      some : 1 ≤ n → IsSameTo set (suc n) new.same_from
      some more = ⊎_elim alike differ (cases_Bool same)
        where
          alike : same ≡ true → IsSameTo set (suc n) new.same_from
          alike on =
              let from : new.same_from ≡ old.same_from = e ∙ ap (λ b. cond b old.same_from d) on in
              subst (λ f. IsSameTo set (suc n) f) (sym from)
              (same_more set n (suc n) old.same_from (omega arith) (before more) (ap (report_at set) next ∙ tested.alike (omega arith) on))

          differ : same ≡ false → IsSameTo set (suc n) new.same_from
          differ off =
              let from : new.same_from ≡ suc n = e ∙ ap (λ b. cond b old.same_from d) off ∙ sym next in
              subst (λ f. IsSameTo set (suc n) f) (sym from)
              (other_more set n (suc n) (omega arith) more (λ same. tested.differ (omega arith) off (sym (ap (report_at set) next) ∙ same)))

  -- what the test of the cycles says
  pub record IsTimed (faster : Bool) : Type 0 where
    pub first : d ≡ 1 → faster ≡ true
    pub yes : 1 < d → faster ≡ true → r.rest.cycles < old.fewest
    pub no : 1 < d → faster ≡ false → old.fewest ≤ r.rest.cycles

  fastest' : (faster : Bool) → IsTimed faster
      → new.fastest_from ≡ (if faster then d else old.fastest_from) → new.fewest ≡ (if faster then r.rest.cycles else old.fewest)
      → IsFastestTo set (suc n) new.fastest_from × (new.fewest ≡ cycles_at set new.fastest_from)
  fastest' faster timed from fewest = ⊎_elim now before (cases_Bool faster)
    where
      now : faster ≡ true → IsFastestTo set (suc n) new.fastest_from × (new.fewest ≡ cycles_at set new.fastest_from)
      now on =
          let is_d : new.fastest_from ≡ d = from ∙ ap (λ b. cond b d old.fastest_from) on in
          let fewer : (k : ℕ) → 1 ≤ k → k < d → cycles_at set d < cycles_at set k =
          λ k some less.
          let was_fastest = was.fastest (omega arith) in
          let was_fewest = was.fewest (omega arith) in
          let below = timed.yes (omega arith) on in
          let all = was_fastest.least k some (omega arith) in
          let mine = rested.cycles in
          omega arith in
          subst (λ f. IsFastestTo set (suc n) f × (new.fewest ≡ cycles_at set f)) (sym is_d) (
            record {
              some = omega arith;
              few = omega arith;
              least = λ k some few.
                  ⊎_elim
                  (λ (same : k ≡ d). subst (λ j. cycles_at set d ≤ cycles_at set j) (sym same) (omega arith))
                  (λ (ne : k ≡ d → ⊥). let less = fewer k some (omega arith) in omega (arith, less))
                  (cases_eq k d);
              before = fewer;
            },
            fewest ∙ ap (λ b. cond b r.rest.cycles old.fewest) on ∙ rested.cycles,
          )

      before : faster ≡ false → IsFastestTo set (suc n) new.fastest_from × (new.fewest ≡ cycles_at set new.fastest_from)
      before off =
          let is_old : new.fastest_from ≡ old.fastest_from = from ∙ ap (λ b. cond b d old.fastest_from) off in
          let later : 1 < d = ⊎_elim (λ (one : d ≡ 1). absurd (false≢true (sym off ∙ timed.first one))) (λ (ne : d ≡ 1 → ⊥). omega arith) (cases_eq d 1) in
          let was_fastest = was.fastest (omega (arith, later)) in
          let was_fewest = was.fewest (omega (arith, later)) in
          let above = timed.no later off in
          let mine = rested.cycles in
          subst (λ f. IsFastestTo set (suc n) f × (new.fewest ≡ cycles_at set f)) (sym is_old) (
            record {
              some = was_fastest.some;
              few = let few = was_fastest.few in omega arith;
              least = λ k some few.
                  ⊎_elim
                  (λ (same : k ≡ d). subst (λ j. cycles_at set old.fastest_from ≤ cycles_at set j) (sym same) (omega arith))
                  (λ (ne : k ≡ d → ⊥). was_fastest.least k some (omega arith))
                  (cases_eq k d);
              before = was_fastest.before;
            },
            fewest ∙ ap (λ b. cond b r.rest.cycles old.fewest) off ∙ was_fewest,
          )

  pub found_more : (same faster : Bool) → IsTested same → IsTimed faster → (n ≡ 0 → old.same_from ≡ 1)
      → new.rests.items ≡ old.rests.items ++ r.rest ∷ []
      → new.same_from ≡ (if same then old.same_from else d)
      → new.fastest_from ≡ (if faster then d else old.fastest_from) → new.fewest ≡ (if faster then r.rest.cycles else old.fewest)
      → new.done_from ≡ option_or old.done_from (if is_done_answer r.rest.outcome then Some d else None)
      → new.deadlock ≡ option_or old.deadlock (deadlock_of d r.waits)
      → IsFoundTo set (suc n) new
  found_more same faster tested timed first rests from fastest fewest done deadlock =
      record {
        many = ap length rests ∙ length-append old.rests.items (r.rest ∷ []) ∙ (let many = was.many in omega arith);
        lines = lines' rests;
        same = λ some. same' same tested was.same first from;
        fastest = λ some. (fastest' faster timed fastest fewest).0;
        fewest = λ some. (fastest' faster timed fastest fewest).1;
        done = done' done;
        cycle = cycle' deadlock;
        waits = waits' deadlock;
      }
