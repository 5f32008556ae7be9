-- Runs that note terms, step by step.
use Rattle.std.proofs.Common.{◌≡◌, ℕ, true, cond, List, ◌∷◌, Some, None, sym, ap, ◌∙◌, length, drop, get_or, ◌<◌, ◌+◌}
use Rattle.std.proofs.lemmas.List.{drop_more}
use Rattle.std.specs.Option.{option_and_then}
use Rattle.raw_model.specs.Program.{ProgramSet}
use Rattle.raw_model.specs.Rest.{enabled}
use Rattle.raw_rows.specs.Noted.{NotedState, noting_step, along_noting}

-- the first of the steps
noting_first : (g : ProgramSet) (n k : NotedState) (p : ℕ) (ps : List ℕ) → enabled g n.at.state p ≡ true → noting_step g n p ≡ Some k → along_noting g n (p ∷ ps) ≡ along_noting g k ps
noting_first g n k p ps may does =
    ap (λ b. cond b (option_and_then (λ (t : NotedState). along_noting g t ps) (noting_step g n p)) None) may
    ∙ ap (λ o. option_and_then (λ (t : NotedState). along_noting g t ps) o) does

-- the step at a place
pub noting_next : (g : ProgramSet) (n k : NotedState) (steps : List ℕ) (i p d : ℕ) → i < length steps → p ≡ get_or steps i d → enabled g n.at.state p ≡ true → noting_step g n p ≡ Some k
    → along_noting g n (drop i steps) ≡ along_noting g k (drop (i + 1) steps)
noting_next g n k steps i p d below is may does =
    ap (along_noting g n) (drop_more steps i d below ∙ ap (λ q. q ∷ drop (i + 1) steps) (sym is)) ∙ noting_first g n k p (drop (i + 1) steps) may does
