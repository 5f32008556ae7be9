-- The lines of a path, as they are written one after another.
use Rattle.std.proofs.Common.{◌≡◌, ℕ, ◌+◌, ◌-◌, ◌<◌, cond, List, [], ◌∷◌, ◌++◌, length, take, get_or, refl, sym, ap, ◌∙◌, append_assoc}
use Rattle.std.specs.Prelude.{reverse}
use Rattle.std.specs.List.{flat_map}
use Rattle.std.proofs.lemmas.Bool.{ne_eqb}
use Rattle.std.proofs.lemmas.List.{take_more, reverse-append}
use Rattle.std.proofs.lemmas.List.Concat.{flat_map-cons}
use Rattle.raw_path.specs.declared.stretch.Stretch.{Stretch}
use Rattle.raw_path.specs.Path.{values_in, room_in}
use Rattle.raw_path.specs.Text.{path_line, from_line, on_lines, from_lines, path_lines}

-- of the first ones the last one is written next
pub next_stretch : (ss : List Stretch) (i : ℕ) (s : Stretch) → i < length ss → s ≡ get_or ss i s → from_lines (take (i + 1) ss) ≡ from_line s ++ from_lines (take i ss)
unfolding from_lines
next_stretch ss i s below is =
    ap (λ xs. flat_map from_line (reverse xs)) (take_more ss i s below)
    ∙ ap (flat_map from_line) (reverse-append (take i ss) (get_or ss i s ∷ []))
    ∙ ap (λ x. flat_map from_line (x ∷ reverse (take i ss))) (sym is)
    ∙ flat_map-cons from_line s (reverse (take i ss))

pub no_stretch : (ss : List Stretch) → from_lines (take 0 ss) ≡ []
unfolding from_lines
no_stretch ss = refl

-- of no cycles there is no line, and else these
pub no_lines : (procs n stalled : ℕ) (ss : List Stretch) → n ≡ 0 → [] ≡ path_lines procs n stalled ss
unfolding path_lines
no_lines procs n stalled ss none = ap (λ k. path_lines procs k stalled ss) (sym none)

pub some_lines : (procs n stalled : ℕ) (ss : List Stretch) → (n ≡ 0 → ⊥)
    → path_lines procs n stalled ss
    ≡ path_line (n - stalled) stalled (n - length ss) (values_in ss) (room_in ss) ++ (on_lines procs ss ++ from_lines ss)
unfolding path_lines
some_lines procs n stalled ss some =
    let line = path_line (n - stalled) stalled (n - length ss) (values_in ss) (room_in ss) in
    ap (λ b. cond b [] (line ++ on_lines procs ss ++ from_lines ss)) (ne_eqb n 0 some) ∙ append_assoc line (on_lines procs ss) (from_lines ss)

-- the first of them, from the numbers that are told
pub line_is : (n stalled long values room : ℕ) (ss : List Stretch) (line : List ℕ) → line ≡ path_line (n - stalled) stalled (n - long) values room → long ≡ length ss
    → values ≡ values_in ss → room ≡ room_in ss → line ≡ path_line (n - stalled) stalled (n - length ss) (values_in ss) (room_in ss)
line_is n stalled long values room ss line is many by_value by_room =
    is
    ∙ ap (λ k. path_line (n - stalled) stalled (n - k) values room) many
    ∙ ap (λ k. path_line (n - stalled) stalled (n - length ss) k room) by_value
    ∙ ap (λ k. path_line (n - stalled) stalled (n - length ss) (values_in ss) k) by_room
