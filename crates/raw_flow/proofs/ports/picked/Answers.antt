use Rattle.std.proofs.Common.{◌≡◌, ◌≤◌, ◌<◌, ℕ, ◌+◌, cond, eqb, List, [], ◌∷◌, ◌++◌, length, drop, Some, ap, ◌∙◌, sym, append_assoc}
use Rattle.std.specs.Prelude.{slice_get, slice_index}
use Rattle.std.proofs.lemmas.List.{append-nil}
use Rattle.std.proofs.lemmas.Option.{slice_get-get_or}
use Rattle.raw_flow.specs.Ports.{picked}
use Rattle.raw_flow.proofs.Picked.{picked_none, picked_step, drop_past}
use Rattle.raw_flow.proofs.ports.picked.Goals as goal

pub loop-place-preserved : goal.loop-place-preserved
loop-place-preserved c =
    let q = c.args.port in
    let ports = c.args.ports.now in
    let words = c.args.words.now in
    let i = c.loop-place.place in
    let own = c.loop-place.own.items in
    let x = slice_index words i in
    let within : i < length words = c.loop-place-test.true in
    let at : slice_get words i ≡ Some x = slice_get-get_or words i 0 within in
    let rest : List ℕ = picked q (drop (i + 1) ports) (drop (i + 1) words) in
    ap (λ (o : List ℕ). o ++ rest) c.in_ok-push_own.ensures
    ∙ append_assoc own (cond (eqb c.port_at.result q) (x ∷ []) []) rest
    ∙ ap (λ a. own ++ (cond (eqb a q) (x ∷ []) [] ++ rest)) c.port_at.ensures
    ∙ ap (λ (ys : List ℕ). own ++ ys) (sym (picked_step q ports words i x at))
    ∙ c.loop-place.invariant

pub returns : goal.returns
returns c =
    let q = c.args.port in
    let ports = c.args.ports.now in
    let words = c.args.words.now in
    let i = c.loop-place.place in
    let own = c.loop-place.own.items in
    let past : length words ≤ i = c.loop-place-test.false in
    sym (append-nil own)
    ∙ ap (λ (ys : List ℕ). own ++ ys) (sym (ap (picked q (drop i ports)) (drop_past words i past) ∙ picked_none q (drop i ports)))
    ∙ c.loop-place.invariant
