-- What the program promises of a call, from the relation that the call meets.
use Rattle.std.proofs.Common.{◌≡◌, ◌⊎◌, inl, inr, ℕ, ◌+◌, ◌≤◌, List, Some, ap, subst, arith}
use Rattle.raw_io.specs.Sights.{SourceSight}
use Rattle.raw_shell.specs.Seen.{Untouched, limit}
use Rattle.raw_live_run.specs.Call.{Call}
use Rattle.raw_live_run.specs.Serving.{FedOn, Feeds, Serves, Ended}
use Rattle.raw_live_run.specs.Reaching.{Reached}
use Rattle.raw_live_run.specs.Promises.{GivesUp, Came, FedAs, IsFed, Headline, TextOf, TextWritten}
use Rattle.raw_live_run.proofs.Reaches.{LawsOfLines, reached_by}
use Rattle.raw_live_run.proofs.Told.{LawsOfGots, LawsOfDue, rest_stands, text_of}

module _ (lines : LawsOfLines) (call : Call) (ended : Ended call) where
  module _ (input : List ℕ) (told : call.seen.source.old.left ≡ Some input) where
    fed_as : Feeds call.seen.source call.seen.out ended.answer → FedAs call
    fed_as (inl ends) = record { answer = ended.answer; status_is = ended.status_is; few = omega (arith, ends.stops.counted, ends.stops.bounded); came = inl ends }
    fed_as (inr m) = record { answer = ended.answer; status_is = ended.status_is; few = few_by m.fed; came = inr (by_fed m.fed) }
      where
        few_by : FedOn (record { old = m.between; new = call.seen.source.new }) call.seen.out m.begun ended.answer → call.seen.source.new.given ≤ call.seen.source.old.given + limit + 1
        few_by (inl on) = let reads = on.lives.reads in omega (arith, reads.counted, reads.bounded, m.begins.counted, m.begins.few, m.begins.given)
        few_by (inr wants) = omega (arith, ap (λ (s : SourceSight). s.given) wants.unread, m.begins.counted, m.begins.few)

        by_fed : FedOn (record { old = m.between; new = call.seen.source.new }) call.seen.out m.begun ended.answer → GivesUp call.seen.out ended.answer ⊎ Reached call.seen.source call.seen.out ended.answer
        by_fed (inl on) = inr (reached_by lines call.seen.source m.between call.seen.out m.begun m.begins ended.answer input told on)
        by_fed (inr wants) = inl (record { answer_is = wants.answer_is; untouched = wants.untouched })

  pub is_fed : IsFed call
  is_fed = λ workers input is told. fed_as input told (subst (λ w. Serves w call.seen.source call.seen.out ended.answer) is ended.serves)

module _ (lines : LawsOfLines) (texts : LawsOfGots) (due : LawsOfDue) (call : Call) (ended : Ended call) where
  pub headline_of : Headline call
  headline_of = λ workers is ending input before told held. rest_stands texts due call input before told held ending (is_fed lines call ended workers input is told)

  pub text_written : TextWritten call
  text_written = λ workers is input before told held. by_fed input before told held (is_fed lines call ended workers input is told)
    where
      by_fed : (input before : List ℕ) → call.seen.source.old.left ≡ Some input → call.seen.out.old.bytes ≡ Some before → FedAs call → Untouched call.seen.out ⊎ TextOf before call
      by_fed input before told held fed = by_came fed.came
        where
          by_came : Came call.seen.source call.seen.out fed.answer → Untouched call.seen.out ⊎ TextOf before call
          by_came (inl ends) = inl ends.untouched
          by_came (inr (inl gives)) = inl gives.untouched
          by_came (inr (inr r)) = inr (text_of texts due call input before told held fed.answer fed.status_is r)
