-- The text of a set, line after line.
use Rattle.std.proofs.Common.{◌≡◌, ⊎_elim, subst, length-append, ℕ, zero, suc, min, ◌/◌, ◌+◌, ◌-◌, ◌*◌, ◌<◌, ◌≤◌, List, [], ◌∷◌, ◌++◌, length, get_or, take, drop, map, refl, sym, ap, ◌∙◌, append_assoc, append-nil, arith}
use Rattle.std.specs.Prelude.{codes}
use Rattle.std.specs.List.{flat_map, enumerate_from, range_with_len}
use Rattle.std.proofs.lemmas.List.{drop_more, drop_all, drop-drop, take_all}
use Rattle.std.proofs.lemmas.Bool.{cases_lt}
use Rattle.std.proofs.Math.Seq.{take-append_seam, drop-append_seam}
use Rattle.std.proofs.Math.Nat.{add-mul}
use Rattle.raw_text.proofs.WrittenLines.{written_append}
use Rattle.raw_text.specs.Lines.{written_lines}
use Rattle.raw_set_text.proofs.Listed.Lists.{none_left}
use Rattle.raw_set_text.specs.Listing.{paired, pieces, line_of, position_texts, section_lines}
use Rattle.raw_set_text.specs.declared.word.Word.{Word}
use Rattle.raw_tile_isa.specs.Instruction.{Instruction}
use Rattle.raw_tile_asm.specs.Listing.{listed_lines}

pub written_none : written_lines [] ≡ []
unfolding written_lines
written_none = refl

pub written_one : (line : List ℕ) → written_lines (line ∷ []) ≡ line ++ 10 ∷ []
unfolding written_lines
written_one line = append-nil (line ++ 10 ∷ [])

-- what is left of a list before one of its elements
pub here : {X : Type 0} (xs : List X) (k : ℕ) (x d : X) → k < length xs → x ≡ get_or xs k d → drop k xs ≡ x ∷ drop (k + 1) xs
here xs k x d lt is = drop_more xs k d lt ∙ ap (λ y. y ∷ drop (k + 1) xs) (sym is)

-- the line of the first of some
pub line_first : {X : Type 0} (f : X → List ℕ) (x : X) (more : List X) (text : List ℕ)
    → (text ++ (f x ++ 10 ∷ [])) ++ written_lines (map f more) ≡ text ++ written_lines (map f (x ∷ more))
unfolding written_lines
line_first f x more text = append_assoc text (f x ++ 10 ∷ []) (written_lines (map f more))

-- one line on
pub line_next : {X : Type 0} (f : X → List ℕ) (xs : List X) (k : ℕ) (x d : X) (text : List ℕ) → k < length xs → x ≡ get_or xs k d
    → (text ++ (f x ++ 10 ∷ [])) ++ written_lines (map f (drop (k + 1) xs)) ≡ text ++ written_lines (map f (drop k xs))
line_next f xs k x d text lt is = line_first f x (drop (k + 1) xs) text ∙ ap (λ rest. text ++ written_lines (map f rest)) (sym (here xs k x d lt is))

pub lines_done : {X : Type 0} (f : X → List ℕ) (xs : List X) (k : ℕ) (text : List ℕ) → length xs ≤ k → text ++ written_lines (map f (drop k xs)) ≡ text
lines_done f xs k text le = ap (λ rest. text ++ written_lines (map f rest)) (drop_all k xs le) ∙ ap (λ rest. text ++ rest) written_none ∙ append-nil text

-- the lines of the first of some
pub group_first : {X : Type 0} (f : X → List (List ℕ)) (x : X) (more : List X) (text : List ℕ)
    → (text ++ written_lines (f x)) ++ written_lines (flat_map f more) ≡ text ++ written_lines (flat_map f (x ∷ more))
group_first f x more text =
    append_assoc text (written_lines (f x)) (written_lines (flat_map f more)) ∙ ap (λ rest. text ++ rest) (sym (written_append (f x) (flat_map f more)))

-- the lines of one tile on
pub tile_next : {X : Type 0} (f : ℕ × X → List (List ℕ)) (xs : List X) (k : ℕ) (x d : X) (text : List ℕ) → k < length xs → x ≡ get_or xs k d
    → (text ++ written_lines (f (k, x))) ++ written_lines (flat_map f (enumerate_from (k + 1) (drop (k + 1) xs))) ≡ text ++ written_lines (flat_map f (enumerate_from k (drop k xs)))
tile_next f xs k x d text lt is =
    group_first f (k, x) (enumerate_from (k + 1) (drop (k + 1) xs)) text ∙ ap (λ rest. text ++ written_lines (flat_map f (enumerate_from k rest))) (sym (here xs k x d lt is))

pub tiles_done : {X : Type 0} (f : ℕ × X → List (List ℕ)) (xs : List X) (k : ℕ) (text : List ℕ) → length xs ≤ k
    → text ++ written_lines (flat_map f (enumerate_from k (drop k xs))) ≡ text
tiles_done f xs k text le =
    ap (λ rest. text ++ written_lines (flat_map f (enumerate_from k rest))) (drop_all k xs le) ∙ ap (λ rest. text ++ rest) written_none ∙ append-nil text

-- the lines of one port on
module _ {X Y : Type 0} (xs : List X) (ys : List Y) (k : ℕ) (x dx : X) (y dy : Y) (in_xs : k < length xs) (x_is : x ≡ get_or xs k dx) (in_ys : k < length ys) (y_is : y ≡ get_or ys k dy) (text : List ℕ) where
  left_here : paired (drop k xs) (drop k ys) ≡ (x, y) ∷ paired (drop (k + 1) xs) (drop (k + 1) ys)
  left_here = rw (here xs k x dx in_xs x_is, here ys k y dy in_ys y_is) refl

  pub port_line_next : (f : X × Y → List ℕ) → (text ++ (f (x, y) ++ 10 ∷ [])) ++ written_lines (map f (paired (drop (k + 1) xs) (drop (k + 1) ys)))
      ≡ text ++ written_lines (map f (paired (drop k xs) (drop k ys)))
  port_line_next f = line_first f (x, y) (paired (drop (k + 1) xs) (drop (k + 1) ys)) text ∙ ap (λ rest. text ++ written_lines (map f rest)) (sym left_here)

  pub port_group_next : (f : X × Y → List (List ℕ)) → (text ++ written_lines (f (x, y))) ++ written_lines (flat_map f (paired (drop (k + 1) xs) (drop (k + 1) ys)))
      ≡ text ++ written_lines (flat_map f (paired (drop k xs) (drop k ys)))
  port_group_next f = group_first f (x, y) (paired (drop (k + 1) xs) (drop (k + 1) ys)) text ∙ ap (λ rest. text ++ written_lines (flat_map f rest)) (sym left_here)

none_paired : {X Y : Type 0} (xs : List X) (ys : List Y) (k : ℕ) → length xs ≤ k → paired (drop k xs) (drop k ys) ≡ []
none_paired xs ys k le = ap (λ rest. paired rest (drop k ys)) (drop_all k xs le)

pub port_lines_done : {X Y : Type 0} (f : X × Y → List ℕ) (xs : List X) (ys : List Y) (k : ℕ) (text : List ℕ) → length xs ≤ k
    → text ++ written_lines (map f (paired (drop k xs) (drop k ys))) ≡ text
port_lines_done f xs ys k text le = ap (λ rest. text ++ written_lines (map f rest)) (none_paired xs ys k le) ∙ ap (λ rest. text ++ rest) written_none ∙ append-nil text

pub port_groups_done : {X Y : Type 0} (f : X × Y → List (List ℕ)) (xs : List X) (ys : List Y) (k : ℕ) (text : List ℕ) → length xs ≤ k
    → text ++ written_lines (flat_map f (paired (drop k xs) (drop k ys))) ≡ text
port_groups_done f xs ys k text le = ap (λ rest. text ++ written_lines (flat_map f rest)) (none_paired xs ys k le) ∙ ap (λ rest. text ++ rest) written_none ∙ append-nil text

-- the pieces of a list, cut off one after the other
-- the first piece, and what stands behind it
pub IsCut : {X : Type 0} → ℕ → List X → List X → List X → Type 0
IsCut size xs x more = (x ≡ take size xs) × (more ≡ drop size xs)

cut_full : {X : Type 0} (size : ℕ) (x more : List X) → length x ≡ size → IsCut size (x ++ more) x more
unfolding IsCut
cut_full size x more e = rw (sym e) (sym (take-append_seam x more), sym (drop-append_seam x more))

cut_last : {X : Type 0} (size : ℕ) (x more : List X) → length (x ++ more) ≤ size → length x ≡ length (x ++ more) → IsCut size (x ++ more) x more
unfolding IsCut
cut_last size x more le e =
    let none : more ≡ [] = none_left more (omega (arith, length-append x more)) in
    rw (none, append-nil x) (sym (take_all size x (omega (arith, length-append x more))), sym (drop_all size x (omega (arith, length-append x more))))

pub cut_is : {X : Type 0} (size : ℕ) (xs x more : List X) → xs ≡ x ++ more → length x ≡ min size (length xs) → IsCut size xs x more
cut_is size xs x more is long =
    let e : length x ≡ min size (length (x ++ more)) = long ∙ ap (λ l. min size (length l)) is in
    subst (λ l. IsCut size l x more) (sym is)
    (⊎_elim (λ (less : size < length (x ++ more)). cut_full size x more (omega arith)) (λ (all : length (x ++ more) ≤ size). cut_last size x more all (omega arith)) (cases_lt size (length (x ++ more))))

shifted : {X : Type 0} (size : ℕ) (xs : List X) (from count : ℕ)
    → map (λ n. take size (drop (n * size) xs)) (range_with_len (from + 1) count) ≡ map (λ n. take size (drop (n * size) (drop size xs))) (range_with_len from count)
shifted size xs from zero = refl
shifted size xs from (suc count) =
    let e : drop (from * size) (drop size xs) ≡ drop ((from + 1) * size) xs = drop-drop (from * size) size xs ∙ ap (λ n. drop n xs) (let m = add-mul from 1 size in omega arith) in
    rw (e, shifted size xs (from + 1) count) refl

-- how many pieces of so many elements a list has
abbrev pub piece_count : {X : Type 0} → ℕ → List X → ℕ
piece_count size xs = (length xs + size - 1) / size

pub pieces_next : {X : Type 0} (size : ℕ) (xs x more : List X) → xs ≡ x ++ more → length x ≡ min size (length xs) → piece_count size xs ≡ suc (piece_count size more)
    → pieces size xs ≡ x ∷ pieces size more
unfolding IsCut
pieces_next {X} size xs x more is long count =
    let cut = cut_is size xs x more is long in
    let rest = shifted size xs 0 (piece_count size more) in
    let start : 0 * size ≡ 0 = omega arith in
    ap (λ n. map (λ n. take size (drop (n * size) xs)) (range_with_len 0 n)) count
    ∙ ap (λ n. take size (drop n xs) ∷ map (λ n. take size (drop (n * size) xs)) (range_with_len 1 (piece_count size more))) start
    ∙ ap (λ l. take size xs ∷ l) rest
    ∙ rw (sym cut.0, sym cut.1) refl

-- one piece on
pub piece_next : {X : Type 0} (f : List X → List ℕ) (size : ℕ) (xs x more : List X) (text : List ℕ)
    → xs ≡ x ++ more → length x ≡ min size (length xs) → piece_count size xs ≡ suc (piece_count size more)
    → (text ++ (f x ++ 10 ∷ [])) ++ written_lines (map f (pieces size more)) ≡ text ++ written_lines (map f (pieces size xs))
piece_next f size xs x more text is long count =
    line_first f x (pieces size more) text ∙ ap (λ rest. text ++ written_lines (map f rest)) (sym (pieces_next size xs x more is long count))

-- no piece is left
pub pieces_done : {X : Type 0} (f : List X → List ℕ) (size : ℕ) (xs : List X) (text : List ℕ) → length xs ≡ 0 → piece_count size xs ≡ 0
    → text ++ written_lines (map f (pieces size xs)) ≡ text
pieces_done f size xs text none count =
    ap (λ n. text ++ written_lines (map f (map (λ n. take size (drop (n * size) xs)) (range_with_len 0 n)))) count ∙ ap (λ rest. text ++ rest) written_none ∙ append-nil text

-- a section's lines are written
pub section_written : (word : Word) (columns t : ℕ) (lines : List (List ℕ)) → 0 < length lines
    → written_lines (section_lines word columns t lines) ≡ (line_of word (position_texts columns t) ++ 10 ∷ []) ++ (written_lines lines ++ (codes "end" ++ 10 ∷ []))
section_written word columns t [] some = absurd (omega arith)
section_written word columns t (line ∷ lines) some =
    written_append (line_of word (position_texts columns t) ∷ []) ((line ∷ lines) ++ codes "end" ∷ [])
    ∙ ap (λ head. head ++ written_lines ((line ∷ lines) ++ codes "end" ∷ [])) (written_one (line_of word (position_texts columns t)))
    ∙ ap (λ rest. (line_of word (position_texts columns t) ++ 10 ∷ []) ++ rest) (written_append (line ∷ lines) (codes "end" ∷ []))
    ∙ ap (λ last. (line_of word (position_texts columns t) ++ 10 ∷ []) ++ (written_lines (line ∷ lines) ++ last)) (written_one (codes "end"))

pub no_section : (word : Word) (columns t : ℕ) (lines : List (List ℕ)) (text : List ℕ) → length lines ≡ 0 → text ++ written_lines (section_lines word columns t lines) ≡ text
no_section word columns t [] text none = ap (λ rest. text ++ rest) written_none ∙ append-nil text
no_section word columns t (line ∷ lines) text none = absurd (omega arith)

-- lines that are appended after each other
pub two_parts : (a b : List (List ℕ)) (start one two : List ℕ) → one ≡ start ++ written_lines a → two ≡ one ++ written_lines b → two ≡ start ++ written_lines (a ++ b)
two_parts a b start one two first second =
    second ∙ ap (λ t. t ++ written_lines b) first ∙ append_assoc start (written_lines a) (written_lines b) ∙ ap (λ rest. start ++ rest) (sym (written_append a b))

pub listed_count : (place : ℕ) (code : List Instruction) → length (listed_lines place code) ≡ length code
listed_count place [] = refl
listed_count place (i ∷ code) = ap suc (listed_count (place + 1) code)

pub six_parts : (a b c d e f : List (List ℕ)) (one two three four five six : List ℕ)
    → one ≡ [] ++ written_lines a → two ≡ one ++ written_lines b → three ≡ two ++ written_lines c → four ≡ three ++ written_lines d → five ≡ four ++ written_lines e → six ≡ five ++ written_lines f
    → six ≡ written_lines (a ++ (b ++ (c ++ (d ++ (e ++ f)))))
six_parts a b c d e f one two three four five six h1 h2 h3 h4 h5 h6 =
    let ef = two_parts e f four five six h5 h6 in
    let df = two_parts d (e ++ f) three four six h4 ef in
    let cf = two_parts c (d ++ (e ++ f)) two three six h3 df in
    let bf = two_parts b (c ++ (d ++ (e ++ f))) one two six h2 cf in
    two_parts a (b ++ (c ++ (d ++ (e ++ f)))) [] one six h1 bf
