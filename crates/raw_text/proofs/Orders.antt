-- Tokens and lines stand in order while they are cut one after the other.
use Rattle.std.proofs.Common.{◌≡◌, ℕ, suc, ◌+◌, ◌-◌, ◌<◌, ◌≤◌, List, [], ◌∷◌, ◌++◌, length, drop, map, get_or, refl, sym, ap, ◌∙◌, ⊎_elim, append_assoc, arith}
use Rattle.std.specs.List.{All}
use Rattle.std.proofs.lemmas.Bool.{cases_lt}
use Rattle.std.proofs.lemmas.List.{length_push, length-append, length-drop, get_or_push, get_or_append_left, drop-append-le, take-append-le, take_rest}
use Rattle.std.specs.Prelude.{slice_range}
use Rattle.std.proofs.lemmas.List.Elements.{All-push}
use Rattle.raw_text.specs.declared.lines.Line.{Line}
use Rattle.raw_text.specs.Tokens.{token_at, line_tokens, BeginsToken, IsPart, AreLinesInOrder}
use Rattle.raw_text.specs.Cutting.{AreCut, AddsTokens}
use Rattle.raw_text.proofs.Runs.{length-range}

-- the lines that have so many tokens
pub record AreLinesCut (count : ℕ) (lines : List Line) : Type 0 where
  pub parts : All (IsPart count) lines
  pub order : AreLinesInOrder lines

-- one more element, to which all before it stand in the relation
push_in_order : {X : Type 0} (R : X → X → Type 0) (old : List X) (x : X)
    → ((i j : ℕ) (d : X) → i < j → j < length old → R (get_or old i d) (get_or old j d)) → All (λ y. R y x) old
    → (i j : ℕ) (d : X) → i < j → j < length (old ++ x ∷ []) → R (get_or (old ++ x ∷ []) i d) (get_or (old ++ x ∷ []) j d)
push_in_order R old x order before = λ i j d less lt.
    let short : j < length old + 1 = omega (arith, length_push old x) in
    let left : i < length old = omega arith in
    ⊎_elim {C = R (get_or (old ++ x ∷ []) i d) (get_or (old ++ x ∷ []) j d)}
    (λ (inside : j < length old). rw (get_or_append_left old (x ∷ []) d i left, get_or_append_left old (x ∷ []) d j inside) (order i j d less inside))
    (λ (last : length old ≤ j). let e : length old ≡ j = omega arith in rw (get_or_append_left old (x ∷ []) d i left, get_or_push old x d j e) (before i d left))
    (cases_lt j (length old))

pub cut_pushed : (bytes : List ℕ) (at stop : ℕ) (old new : List ℕ) → at < stop → stop ≤ length bytes → token_at bytes at ≡ slice_range bytes at stop → new ≡ old ++ at ∷ []
    → AreCut bytes at old → AreCut bytes (stop + 1) new
cut_pushed bytes at stop old new some within token is_new cut =
    let long : length (token_at bytes at) ≡ stop - at = ap length token ∙ length-range bytes at stop within in
    rw is_new (record {
      few = omega (arith, length_push old at, cut.few);
      tokens = All-push (BeginsToken bytes) old at cut.tokens (record { within = omega arith; some = omega (arith, long) });
      order = push_in_order (λ a b. a + length (token_at bytes a) < b) old at cut.order cut.last;
      last = All-push (λ s. s + length (token_at bytes s) < stop + 1) old at (λ k d lt. omega (arith, cut.last k d lt)) (omega (arith, long));
    })

pub cut_kept : (bytes : List ℕ) (at later : ℕ) (old new : List ℕ) → at ≤ later → new ≡ old → AreCut bytes at old → AreCut bytes later new
cut_kept bytes at later old new le is_new cut =
    rw is_new (record { few = omega (arith, cut.few); tokens = cut.tokens; order = cut.order; last = λ k d lt. omega (arith, cut.last k d lt) })

pub lines_cut_pushed : (count more : ℕ) (old new : List Line) (line : Line) → count ≤ more → new ≡ old ++ line ∷ [] → line.first ≡ count → line.end ≡ more
    → AreLinesCut count old → AreLinesCut more new
lines_cut_pushed count more old new line le is_new first end cut =
    rw is_new (record {
      parts = All-push (IsPart more) old line (λ k d lt. let p = cut.parts k d lt in record { order = p.order; within = omega (arith, p.within) }) (record { order = omega arith; within = omega arith });
      order = push_in_order (λ a b. a.end ≤ b.first) old line cut.order (λ k d lt. omega (arith, first, (cut.parts k d lt).within));
    })

-- places to which others are appended
pub kept_length : (old new : List ℕ) → new ≡ old ++ drop (length old) new → length old ≤ length new
kept_length old new kept = omega (arith, ap length kept, length-append old (drop (length old) new))

pub kept_pushed : (old new next : List ℕ) (start : ℕ) → new ≡ old ++ drop (length old) new → next ≡ new ++ start ∷ [] → next ≡ old ++ drop (length old) next
kept_pushed old new next start kept is_next =
    is_next ∙ ap (λ xs. xs ++ start ∷ []) kept ∙ append_assoc old (drop (length old) new) (start ∷ [])
    ∙ ap (λ xs. old ++ xs) (sym (drop-append-le (length old) new (start ∷ []) (kept_length old new kept)) ∙ ap (drop (length old)) (sym is_next))

-- the tokens of the lines before are as they were
range_kept : (old more : List ℕ) (a b : ℕ) → a ≤ b → b ≤ length old → slice_range (old ++ more) a b ≡ slice_range old a b
range_kept old more a b order within =
    rw (drop-append-le a old more (omega arith)) (take-append-le (b - a) (drop a old) more (omega (arith, length-drop a old)))

pub lines_kept : (bytes old more : List ℕ) (lines : List Line) → All (IsPart (length old)) lines → map (line_tokens bytes (old ++ more)) lines ≡ map (line_tokens bytes old) lines
lines_kept bytes old more [] parts = refl
lines_kept bytes old more (line ∷ lines) parts =
    let part = parts 0 line (omega arith) in
    rw (range_kept old more line.first line.end part.order part.within, lines_kept bytes old more lines (λ k d lt. parts (suc k) d (omega (arith, lt)))) refl

-- those of a line whose tokens were appended
pub line_added : (bytes old new : List ℕ) (line : Line) (tokens : List (List ℕ)) → AddsTokens bytes old new tokens → line.first ≡ length old → line.end ≡ length new → line_tokens bytes new line ≡ tokens
line_added bytes old new line tokens adds first end = rw (first, end, take_rest new (length old)) adds.added
