-- The lines of a flow have one answer, since those of a plain flow and those of a stream have.
use Rattle.std.proofs.Common.{◌⊎◌, ℕ, ◌+◌, ◌<◌, Bool, true, false, List, length, None, refl, inl, inr, ⊎_elim, arith}
use Rattle.std.proofs.lemmas.Bool.{cases_lt}
use Rattle.raw_answer.specs.OneAnswer.{HasOneAnswer}
use Rattle.raw_answer.proofs.Made.{made_answer, seen_answer}
use Rattle.raw_set_text.specs.declared.kind.SetKind.TheVariants.{OverLimit}
use Rattle.raw_flow.specs.declared.limits.TheConstants.{MAX_NODES}
use Rattle.raw_flow_text.specs.Meaning as flow
use Rattle.raw_stream.specs.Unrolled.{unrolled}
use Rattle.raw_stream_text.specs.Streams.{FedStream}
use Rattle.raw_stream_text.specs.Meaning as stream
use Rattle.raw_unroll.specs.Compiled.{EachStreamIsPlaced}
use Rattle.raw_either_flow.specs.Placed.{IsPlacedFlow, plain_flow, stream_flow}
use Rattle.raw_either_flow.specs.Texts.{Fits, MeansOf, FaultOf}
use Rattle.raw_either_flow.proofs.Valid.{plain_valid, stream_valid}

fits_or_not : (fed : FedStream) → Fits fed ⊎ (Fits fed → ⊥)
fits_or_not fed =
    ⊎_elim (λ (many : MAX_NODES < length (unrolled fed.stream).nodes). inr (λ (few : Fits fed). omega (arith, many, few))) (λ (few : Fits fed). inl few)
    (cases_lt MAX_NODES (length (unrolled fed.stream).nodes))

pub one_of : EachStreamIsPlaced → (rows : Bool) (lines : List (List (List ℕ))) → flow.IsOneFlow None 0 lines → stream.IsOneStream None 0 lines → HasOneAnswer (MeansOf rows lines) (FaultOf rows lines) IsPlacedFlow
one_of law false lines plain one =
    seen_answer plain plain_flow (MeansOf false lines) IsPlacedFlow (λ fed means. (fed, means, refl)) (λ placed means. means) plain_valid
one_of law true lines plain one = made_answer one Fits fits_or_not stream_flow (length lines + 1) OverLimit IsPlacedFlow (stream_valid law)
