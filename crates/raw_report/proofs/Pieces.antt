-- A history as it is written, line by line.
use Rattle.std.proofs.Common.{◌≡◌, ℕ, ◌<◌, List, ◌++◌, length, map, take, get_or, ap, ◌∙◌}
use Rattle.std.specs.Prelude.{codes, decimal}
use Rattle.std.specs.List.{flat_map}
use Rattle.std.proofs.lemmas.List.Folds.{flat_map-map}
use Rattle.std.proofs.Math.Seq.{take-append_seam}
use Rattle.raw_grid.specs.declared.parts.ProcId.{ProcId}
use Rattle.raw_io.proofs.Chains.{take-append_both, flat_map_begins}
use Rattle.raw_report.specs.History.{history_text}

-- the line of a step
abbrev pub line_of_step : ProcId → List ℕ
line_of_step p = decimal p.0 ++ codes "\n"

pub history_text_of : (steps : List ProcId) → history_text (map (λ p. p.0) steps) ≡ codes "history\n" ++ flat_map line_of_step steps
unfolding history_text
history_text_of steps = ap (λ text. codes "history\n" ++ text) (flat_map-map (λ p. decimal p ++ codes "\n") (λ p. p.0) steps)

-- it begins with its first line
pub begins_so : (steps : List ProcId) → take (length (codes "history\n")) (history_text (map (λ p. p.0) steps)) ≡ codes "history\n"
begins_so steps =
    ap (take (length (codes "history\n"))) (history_text_of steps) ∙ take-append_seam (codes "history\n") (flat_map line_of_step steps)

-- it begins with the lines before a step and its line
pub begins : (steps : List ProcId) (i : ℕ) (d : ProcId) → i < length steps
    → take (length ((codes "history\n" ++ flat_map line_of_step (take i steps)) ++ line_of_step (get_or steps i d))) (history_text (map (λ p. p.0) steps))
    ≡ (codes "history\n" ++ flat_map line_of_step (take i steps)) ++ line_of_step (get_or steps i d)
begins steps i d lt =
    let lines = flat_map line_of_step (take i steps) ++ line_of_step (get_or steps i d) in
    ap (take (length (codes "history\n" ++ lines))) (history_text_of steps)
    ∙ take-append_both (codes "history\n") lines (flat_map line_of_step steps)
    ∙ ap (λ text. codes "history\n" ++ text) (flat_map_begins line_of_step steps i d lt)
