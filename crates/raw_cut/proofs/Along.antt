-- A run along a list, step by step.
use Rattle.std.proofs.Common.{◌≡◌, ℕ, true, cond, List, ◌∷◌, Some, None, sym, ap, ◌∙◌, length, drop, get_or, ◌<◌, ◌+◌}
use Rattle.std.proofs.lemmas.List.{drop_more}
use Rattle.std.specs.Option.{option_and_then}
use Rattle.raw_model.specs.Program.{ProgramSet}
use Rattle.raw_model.specs.Rest.{enabled}
use Rattle.raw_term.specs.TermMachine.{TermState, term_step}
use Rattle.raw_rows.specs.Kernels.{along}

-- the first of the steps
pub along_first : (g : ProgramSet) (s t : TermState) (p : ℕ) (ps : List ℕ) → enabled g s.state p ≡ true → term_step g s p ≡ Some t → along g s (p ∷ ps) ≡ along g t ps
along_first g s t p ps may does =
    ap (λ b. cond b (option_and_then (λ (k : TermState). along g k ps) (term_step g s p)) None) may
    ∙ ap (λ o. option_and_then (λ (k : TermState). along g k ps) o) does

-- the step at a place
pub along_next : (g : ProgramSet) (s t : TermState) (steps : List ℕ) (i p d : ℕ) → i < length steps → p ≡ get_or steps i d → enabled g s.state p ≡ true → term_step g s p ≡ Some t
    → along g s (drop i steps) ≡ along g t (drop (i + 1) steps)
along_next g s t steps i p d below is may does =
    ap (along g s) (drop_more steps i d below ∙ ap (λ q. q ∷ drop (i + 1) steps) (sym is)) ∙ along_first g s t p (drop (i + 1) steps) may does
