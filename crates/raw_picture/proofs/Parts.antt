-- The texts of groups, piece by piece.
use Rattle.std.proofs.Common.{◌≡◌, ℕ, List, ◌++◌, sym, ap, ◌∙◌, append_assoc}
use Rattle.std.specs.Prelude.{codes}
use Rattle.raw_picture.specs.Forms.{title}

-- a title of two texts with a mark between them, and what follows it
pub title_parts : (a mark b rest : List ℕ) → codes "<title>" ++ (a ++ (mark ++ (b ++ (codes "</title>\n" ++ rest)))) ≡ title (a ++ mark ++ b) ++ rest
unfolding title
title_parts a mark b rest =
    let end = codes "</title>\n" in
    let open_ = codes "<title>" in
    let inner : a ++ (mark ++ (b ++ (end ++ rest))) ≡ (a ++ mark ++ b) ++ (end ++ rest) =
    sym (append_assoc (a ++ mark) b (end ++ rest) ∙ append_assoc a mark (b ++ (end ++ rest))) in
    ap (λ z. open_ ++ z) inner
    ∙ sym (append_assoc (open_ ++ (a ++ mark ++ b)) end rest ∙ append_assoc open_ (a ++ mark ++ b) (end ++ rest))
