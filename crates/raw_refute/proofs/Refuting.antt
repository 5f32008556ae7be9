-- What a run that is judged says of a claim: a fault refutes it, and where there is none all is done.
use Rattle.std.proofs.Common.{◌≡◌, ℕ, ◌+◌, Bool, true, false, cond, Option, Some, None, List, [], ◌∷◌, length, refl, sym, ap, ap₂, ◌∙◌, subst, arith}
use Rattle.std.specs.Prelude.{◌==◌}
use Rattle.std.proofs.lemmas.Bool.{eqb-true, eq-eqb}
use Rattle.std.proofs.lemmas.Option.{none-some}
use Rattle.raw_model.specs.Program.{ProgramSet, IsSet}
use Rattle.raw_model.specs.Start.{MachineState}
use Rattle.raw_model.specs.Rest.{IsRun, end}
use Rattle.raw_model.specs.Waits.{waits_for}
use Rattle.raw_model.specs.Outcomes.{Outcome, Done, Deadlock, Trapped, Limit, Stuck, outcome}
use Rattle.raw_model.specs.Fed.{fed}
use Rattle.raw_outcome.specs.declared.ends.Outcome.{Outcome as Answer}
use Rattle.raw_outcome.specs.declared.ends.Outcome.TheVariants as answer
use Rattle.raw_outcome.specs.Told.{told}
use Rattle.raw_flow.specs.Flows.{Dataflow, outs_of}
use Rattle.raw_term.specs.declared.place.Place.{Place}
use Rattle.raw_term.specs.Seen.{miscount, seen}
use Rattle.raw_term.specs.Claims.{AreWords, IsRightAt}
use Rattle.raw_term.specs.Refuted.{IsRefutedBy}
use Rattle.raw_prove.specs.Runs.{IsOutcomeOf}
use Rattle.raw_refute.specs.declared.fault.Fault.{Fault}
use Rattle.raw_refute.specs.declared.fault.Fault.TheVariants.{Words, Out}
use Rattle.raw_refute.specs.Judged.{first_other, of_done, of_counts, judged, IsFaultOf, IsJudged}

-- lists of words that do not differ
pub none_other : (k : ℕ) (words : List ℕ) → first_other k words words ≡ None
none_other k [] = refl
none_other k (x ∷ words) = ap (λ b. cond b (first_other (k + 1) words words) (Some (Out k x x))) (eq-eqb x x refl) ∙ none_other (k + 1) words

same_or_other : (b : Bool) (k x y : ℕ) (xs ys : List ℕ) → (x == y) ≡ b → (None ≡ first_other (k + 1) xs ys → xs ≡ ys) → None ≡ cond b (first_other (k + 1) xs ys) (Some (Out k x y)) → x ∷ xs ≡ y ∷ ys
same_or_other true k x y xs ys e more h = ap₂ (λ (z : ℕ) (zs : List ℕ). z ∷ zs) (eqb-true x y e) (more h)
same_or_other false k x y xs ys e more h = absurd (none-some (Out k x y) h)

none_differs : (k : ℕ) (xs ys : List ℕ) → length xs ≡ length ys → None ≡ first_other k xs ys → xs ≡ ys
none_differs k [] [] l h = refl
none_differs k [] (y ∷ ys) l h = absurd (omega (arith, l))
none_differs k (x ∷ xs) [] l h = absurd (omega (arith, l))
none_differs k (x ∷ xs) (y ∷ ys) l h = same_or_other (x == y) k x y xs ys refl (none_differs (k + 1) xs ys (omega (arith, l))) h

same_when_done : (b : Bool) (got outs : List ℕ) → (length got == length outs) ≡ b → None ≡ cond b (first_other 0 got outs) (Some (Words (length got) (length outs))) → got ≡ outs
same_when_done true got outs e h = none_differs 0 got outs (eqb-true (length got) (length outs) e) h
same_when_done false got outs e h = absurd (none-some (Words (length got) (length outs)) h)

-- a rest without a fault
record IsSame (how : Answer) (got outs : List ℕ) : Type 0 where
  pub done : how ≡ answer.Done
  pub same : got ≡ outs

none_counted : (counts : Option (ℕ × ℕ)) (got outs : List ℕ) → None ≡ of_counts counts got outs → got ≡ outs
unfolding of_done
none_counted None got outs h = same_when_done (length got == length outs) got outs refl h
none_counted (Some counts) got outs h = absurd (none-some _ h)

none_judged : (how : Answer) (counts : Option (ℕ × ℕ)) (got outs : List ℕ) → None ≡ judged how counts got outs → IsSame how got outs
none_judged answer.Done counts got outs h = record { done = refl; same = none_counted counts got outs h }
none_judged (answer.Deadlock least many) counts got outs h = absurd (none-some _ h)
none_judged (answer.Trapped p) counts got outs h = absurd (none-some _ h)
none_judged (answer.Limit p) counts got outs h = absurd (none-some _ h)
none_judged (answer.Stuck p) counts got outs h = absurd (none-some _ h)

same_judged : (got : List ℕ) → judged answer.Done None got got ≡ None
unfolding of_done
same_judged got = ap (λ b. cond b (first_other 0 got got) (Some (Words (length got) (length got)))) (eq-eqb (length got) (length got) refl) ∙ none_other 0 got

-- only `Done` is told of what is done
abbrev IsDone : Outcome → Type 0
IsDone Done = Unit {0}
IsDone _ = ⊥

pub told_done : (next : ℕ → Option ℕ) (how : Answer) → told next how ≡ Done → how ≡ answer.Done
told_done next answer.Done e = refl
told_done next (answer.Deadlock least many) e = absurd (subst IsDone (sym e) tt)
told_done next (answer.Trapped p) e = absurd (subst IsDone (sym e) tt)
told_done next (answer.Limit p) e = absurd (subst IsDone (sym e) tt)
told_done next (answer.Stuck p) e = absurd (subst IsDone (sym e) tt)

-- a rest with a fault is not right
wrong_at : (set : ProgramSet) (flow : Dataflow) (places : List Place) (words : List ℕ) (s : MachineState) (fault : Fault) → IsFaultOf (fed set words) flow places words s (Some fault) → ¬ (IsRightAt set flow places words s)
wrong_at set flow places words s fault f right =
    let done : f.how ≡ answer.Done = told_done (waits_for (fed set words) s) f.how (f.tells ∙ right.done) in
    let is : Some fault ≡ judged answer.Done None (outs_of flow words) (outs_of flow words) =
    f.is
    ∙ ap (λ (how : Answer). judged how (miscount places s.locals) (seen places s) (outs_of flow words)) done
    ∙ ap₂ (λ (counts : Option (ℕ × ℕ)) (got : List ℕ). judged answer.Done counts got (outs_of flow words)) right.counts right.values in
    none-some fault (sym (is ∙ same_judged (outs_of flow words)))

pub refuted_so : (set : ProgramSet) (flow : Dataflow) (places : List Place) (words : List ℕ) (fault : Fault) → AreWords set words → IsSet (fed set words) → IsJudged (fed set words) flow places words (Some fault)
    → IsRefutedBy set flow places words
refuted_so set flow places words fault are valid judged = record {
  are = are;
  valid = valid;
  some = judged.some;
  wrong = λ steps run. wrong_at set flow places words (end (fed set words) steps) fault (judged.each steps run);
}

-- where there is none each run ends done
pub done_so : (set : ProgramSet) (flow : Dataflow) (places : List Place) (words : List ℕ) → IsJudged set flow places words None → IsOutcomeOf set answer.Done
done_so set flow places words judged = λ steps run.
    let f : IsFaultOf set flow places words (end set steps) None = judged.each steps run in
    let how : IsSame f.how (seen places (end set steps)) (outs_of flow words) = none_judged f.how (miscount places (end set steps).locals) (seen places (end set steps)) (outs_of flow words) f.is in
    ap (told (waits_for set (end set steps))) (sym how.done) ∙ f.tells
