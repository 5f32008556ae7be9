-- The wires of a closed table, read back.
use Rattle.std.proofs.Common.{◌≡◌, ℕ, suc, ◌+◌, ◌*◌, ◌%◌, ◌<◌, List, [], ◌∷◌, ◌++◌, map, length, get_or, set, sym, ap, ◌∙◌, arith, get_or-set_same, get_or-set_other}
use mathlib.Core.Logic.{dite}
use native.Mathlib.Decide.{ℕ_discrete}
use Rattle.std.proofs.lemmas.List.{map-set, length-map}
use Rattle.arrayvec.specs.ArrayVec.{ArrayVec}
use Rattle.raw_model.specs.Program.{ProgramSet}
use Rattle.raw_fabric_rule.specs.ByEnds.{procs}
use Rattle.raw_fabric_rule.specs.Word.{data_word, flight}
use Rattle.raw_fabric_rule.proofs.Lists.{flight_more}

-- one value more
pub value_more : (g : ProgramSet) (words : List ℕ) (w t i : ℕ) (items : List ℕ) (base x : ℕ) → items ≡ flight (data_word g words w) t i → base ≡ 16 * (procs g + w) → x ≡ get_or words (base + (t + i) % 8) 0
    → items ++ x ∷ [] ≡ flight (data_word g words w) t (i + 1)
unfolding data_word
value_more g words w t i items base x is b e =
    let k = (t + i) % 8 in
    (λ j. is j ++ (e ∙ ap (λ z. get_or words (z + k) 0) b) j ∷ [])
    ∙ sym (flight_more (data_word g words w) t i)
    ∙ ap (flight (data_word g words w) t) (let z : suc i ≡ i + 1 = omega arith in z)

-- one wire more
pub wire_more : (f : ℕ → List ℕ) (queues : List (ArrayVec ℕ)) (w : ℕ) (q : ArrayVec ℕ) → w < length queues → q.items ≡ f w → ((v : ℕ) → v < w → get_or (map (λ (queue : ArrayVec ℕ). queue.items) queues) v [] ≡ f v)
    → (v : ℕ) → v < w + 1 → get_or (map (λ (queue : ArrayVec ℕ). queue.items) (set queues w q)) v [] ≡ f v
wire_more f queues w q lt is all v h =
    let items : ArrayVec ℕ → List ℕ = λ queue. queue.items in
    let long = length-map queues items in
    ap (λ (l : List (List ℕ)). get_or l v []) (map-set items queues w q)
    ∙ dite (ℕ_discrete v w)
    (λ same. ap (λ z. get_or (set (map items queues) w q.items) z []) same ∙ get_or-set_same (map items queues) w q.items [] (omega arith) ∙ is ∙ ap f (sym same))
    (λ other. get_or-set_other (map items queues) w v q.items [] other ∙ all v (omega arith))
