-- The whole lines of bytes, and what stands behind them, one byte more.
use Rattle.std.proofs.Common.{◌≡◌, ℕ, ◌<◌, ◌==◌, if◌then◌else◌, Bool, true, false, List, [], ◌∷◌, ◌++◌, length, not, refl, sym, ap, subst, ◌∙◌, append_assoc, append-nil, arith, ⊎_elim}
use Rattle.std.specs.List.{slice_split, onto_first, list_all}
use Rattle.std.proofs.lemmas.Bool.{cases_Bool}
use Rattle.std.proofs.lemmas.Bool.Decides.{nat_tests}
use Rattle.std.proofs.lemmas.List.Splits.{slice_split-cons_yes, slice_split-cons_no, length-slice_split, slice_split_none}
use Rattle.raw_text.specs.Lines.{is_newline, lines_of, without_empty_last}
use Rattle.raw_text.proofs.WrittenLines.{all_fail}
use Rattle.raw_live_text.specs.Feeding.{but_last, last_of, whole_lines, last_piece}

some_piece : (p : ℕ → Bool) (xs : List ℕ) → 0 < length (slice_split p xs)
some_piece p xs = omega (arith, length-slice_split p xs)

onto_front : (x : ℕ) (parts more : List (List ℕ)) → 0 < length parts → onto_first x (parts ++ more) ≡ onto_first x parts ++ more
onto_front x [] more some = absurd (omega arith)
onto_front x (part ∷ parts) more some = refl

onto_last : (x y : ℕ) (parts : List (List ℕ)) → 0 < length parts
    → onto_first x (but_last parts ++ (last_of parts ++ y ∷ []) ∷ []) ≡ but_last (onto_first x parts) ++ (last_of (onto_first x parts) ++ y ∷ []) ∷ []
onto_last x y [] some = absurd (omega arith)
onto_last x y (part ∷ []) some = refl
onto_last x y (part ∷ next ∷ more) some = refl

under_last : (part : List ℕ) (y : ℕ) (parts : List (List ℕ)) → 0 < length parts
    → part ∷ (but_last parts ++ (last_of parts ++ y ∷ []) ∷ []) ≡ but_last (part ∷ parts) ++ (last_of (part ∷ parts) ++ y ∷ []) ∷ []
under_last part y [] some = absurd (omega arith)
under_last part y (next ∷ more) some = refl

pub but_last_push : (parts : List (List ℕ)) (part : List ℕ) → but_last (parts ++ part ∷ []) ≡ parts
but_last_push (a ∷ b ∷ parts) part = ap (λ l. a ∷ l) (but_last_push (b ∷ parts) part)
but_last_push _ part = refl

pub last_push : (parts : List (List ℕ)) (part : List ℕ) → last_of (parts ++ part ∷ []) ≡ part
last_push (a ∷ b ∷ parts) part = last_push (b ∷ parts) part
last_push _ part = refl

put_together : (parts : List (List ℕ)) → 0 < length parts → parts ≡ but_last parts ++ last_of parts ∷ []
put_together [] some = absurd (omega arith)
put_together (a ∷ []) some = refl
put_together (a ∷ b ∷ parts) some = ap (λ l. a ∷ l) (put_together (b ∷ parts) (omega arith))

-- a byte that ends a piece
split_end : (p : ℕ → Bool) (xs : List ℕ) (y : ℕ) → p y ≡ true → slice_split p (xs ++ y ∷ []) ≡ slice_split p xs ++ [] ∷ []
split_end p [] y e = slice_split-cons_yes p y [] e
split_end p (x ∷ xs) y e =
    ⊎_elim
    (λ here. slice_split-cons_yes p x (xs ++ y ∷ []) here ∙ ap (λ l. [] ∷ l) (split_end p xs y e) ∙ ap (λ l. l ++ [] ∷ []) (sym (slice_split-cons_yes p x xs here)))
    (λ not_here. slice_split-cons_no p x (xs ++ y ∷ []) not_here ∙ ap (onto_first x) (split_end p xs y e) ∙ onto_front x (slice_split p xs) ([] ∷ []) (some_piece p xs) ∙ ap (λ l. l ++ [] ∷ []) (sym (slice_split-cons_no p x xs not_here)))
    (cases_Bool (p x))

-- a byte in a piece
split_in : (p : ℕ → Bool) (xs : List ℕ) (y : ℕ) → p y ≡ false → slice_split p (xs ++ y ∷ []) ≡ but_last (slice_split p xs) ++ (last_of (slice_split p xs) ++ y ∷ []) ∷ []
split_in p [] y e = slice_split-cons_no p y [] e
split_in p (x ∷ xs) y e =
    let parts = slice_split p xs in
    let pushed = λ (l : List (List ℕ)). but_last l ++ (last_of l ++ y ∷ []) ∷ [] in
    ⊎_elim
    (λ here. slice_split-cons_yes p x (xs ++ y ∷ []) here ∙ ap (λ l. [] ∷ l) (split_in p xs y e) ∙ under_last [] y parts (some_piece p xs) ∙ ap pushed (sym (slice_split-cons_yes p x xs here)))
    (λ not_here. slice_split-cons_no p x (xs ++ y ∷ []) not_here ∙ ap (onto_first x) (split_in p xs y e) ∙ onto_last x y parts (some_piece p xs) ∙ ap pushed (sym (slice_split-cons_no p x xs not_here)))
    (cases_Bool (p x))

module _ (bytes : List ℕ) where
  pub whole_end : (next : ℕ) → next ≡ 10 → whole_lines (bytes ++ next ∷ []) ≡ whole_lines bytes ++ last_piece bytes ∷ []
  unfolding whole_lines last_piece
  whole_end next e =
      let here : is_newline next ≡ true = grind (arith, nat_tests) in
      ap but_last (split_end is_newline bytes next here) ∙ but_last_push (slice_split is_newline bytes) [] ∙ put_together (slice_split is_newline bytes) (some_piece is_newline bytes)

  pub last_end : (next : ℕ) → next ≡ 10 → last_piece (bytes ++ next ∷ []) ≡ []
  unfolding last_piece
  last_end next e =
      let here : is_newline next ≡ true = grind (arith, nat_tests) in
      ap last_of (split_end is_newline bytes next here) ∙ last_push (slice_split is_newline bytes) []

  pub whole_in : (next : ℕ) → (next ≡ 10 → ⊥) → whole_lines (bytes ++ next ∷ []) ≡ whole_lines bytes
  unfolding whole_lines
  whole_in next e =
      let inside : is_newline next ≡ false = grind (arith, nat_tests) in
      ap but_last (split_in is_newline bytes next inside) ∙ but_last_push (but_last (slice_split is_newline bytes)) _

  pub last_in : (next : ℕ) → (next ≡ 10 → ⊥) → last_piece (bytes ++ next ∷ []) ≡ last_piece bytes ++ next ∷ []
  unfolding last_piece
  last_in next e =
      let inside : is_newline next ≡ false = grind (arith, nat_tests) in
      ap last_of (split_in is_newline bytes next inside) ∙ last_push (but_last (slice_split is_newline bytes)) _

  pub whole_next : (next : ℕ) → (more : List (List ℕ)) × (whole_lines (bytes ++ next ∷ []) ≡ whole_lines bytes ++ more)
  whole_next next =
      ⊎_elim {C = (more : List (List ℕ)) × (whole_lines (bytes ++ next ∷ []) ≡ whole_lines bytes ++ more)}
      (λ (ends : (next == 10) ≡ true). let e : next ≡ 10 = grind (arith, nat_tests) in (last_piece bytes ∷ [], whole_end next e))
      (λ (goes : (next == 10) ≡ false). let e : next ≡ 10 → ⊥ = grind (arith, nat_tests) in ([], whole_in next e ∙ sym (append-nil (whole_lines bytes))))
      (cases_Bool (next == 10))

-- whole lines stay
pub whole_grows : (front back : List ℕ) → (more : List (List ℕ)) × (whole_lines (front ++ back) ≡ whole_lines front ++ more)
whole_grows front [] = ([], ap whole_lines (append-nil front) ∙ sym (append-nil (whole_lines front)))
whole_grows front (next ∷ back) =
    let one = whole_next front next in
    let rest = whole_grows (front ++ next ∷ []) back in
    (one.0 ++ rest.0, ap whole_lines (sym (append_assoc front (next ∷ []) back)) ∙ rest.1 ∙ ap (λ l. l ++ rest.0) one.1 ∙ append_assoc (whole_lines front) one.0 rest.0)

abbrev pub last_line : List ℕ → List (List ℕ)
last_line piece = if length piece == 0 then [] else piece ∷ []

kept : (parts : List (List ℕ)) → 0 < length parts → without_empty_last parts ≡ but_last parts ++ last_line (last_of parts)
kept [] some = absurd (omega arith)
kept (a ∷ []) some = refl
kept (a ∷ b ∷ parts) some = ap (λ l. a ∷ l) (kept (b ∷ parts) (omega arith))

-- all lines: the whole ones, and what stands behind them, if anything does
pub all_lines : (bytes : List ℕ) → lines_of bytes ≡ whole_lines bytes ++ last_line (last_piece bytes)
unfolding lines_of whole_lines last_piece
all_lines bytes = kept (slice_split is_newline bytes) (some_piece is_newline bytes)

pub lines_without : (bytes : List ℕ) → length (last_piece bytes) ≡ 0 → lines_of bytes ≡ whole_lines bytes
lines_without bytes none =
    let e : (length (last_piece bytes) == 0) ≡ true = grind (arith, nat_tests) in
    all_lines bytes ∙ ap (λ b. whole_lines bytes ++ (if b then [] else last_piece bytes ∷ [])) e ∙ append-nil (whole_lines bytes)

pub lines_with : (bytes : List ℕ) → 0 < length (last_piece bytes) → lines_of bytes ≡ whole_lines bytes ++ last_piece bytes ∷ []
lines_with bytes some =
    let e : (length (last_piece bytes) == 0) ≡ false = grind (arith, nat_tests) in
    all_lines bytes ∙ ap (λ b. whole_lines bytes ++ (if b then [] else last_piece bytes ∷ [])) e

pub lines_more : (bytes : List ℕ) → (more : List (List ℕ)) × (lines_of bytes ≡ whole_lines bytes ++ more)
lines_more bytes = (last_line (last_piece bytes), all_lines bytes)

none_whole : whole_lines [] ≡ []
unfolding whole_lines
none_whole = refl

none_last : last_piece [] ≡ []
unfolding last_piece
none_last = refl

-- the lines of bytes are those that they have behind a newline too
pub record Behind (front back : List ℕ) : Type 0 where
  pub whole : whole_lines (front ++ back) ≡ whole_lines front ++ whole_lines back
  pub last : last_piece (front ++ back) ≡ last_piece back

pub empty_is : (xs : List ℕ) → length xs ≡ 0 → xs ≡ []
empty_is [] none = refl
empty_is (x ∷ xs) none = absurd (omega arith)

module _ (front : List ℕ) (closed : length (last_piece front) ≡ 0) where
  behind_none : Behind front []
  behind_none = record {
    whole = ap whole_lines (append-nil front) ∙ sym (append-nil (whole_lines front)) ∙ ap (λ l. whole_lines front ++ l) (sym none_whole);
    last = ap last_piece (append-nil front) ∙ empty_is (last_piece front) closed ∙ sym none_last;
  }

  behind_next : (back : List ℕ) (next : ℕ) → Behind front back → Behind front (back ++ next ∷ [])
  behind_next back next b =
      let over = sym (append_assoc front back (next ∷ [])) in
      ⊎_elim {C = Behind front (back ++ next ∷ [])}
      (λ (ends : (next == 10) ≡ true). let e : next ≡ 10 = grind (arith, nat_tests) in record {
        whole = ap whole_lines over ∙ whole_end (front ++ back) next e ∙ ap (λ l. l ++ last_piece (front ++ back) ∷ []) b.whole ∙ ap (λ l. (whole_lines front ++ whole_lines back) ++ l ∷ []) b.last
            ∙ append_assoc (whole_lines front) (whole_lines back) (last_piece back ∷ []) ∙ ap (λ l. whole_lines front ++ l) (sym (whole_end back next e));
        last = ap last_piece over ∙ last_end (front ++ back) next e ∙ sym (last_end back next e);
      })
      (λ (goes : (next == 10) ≡ false). let e : next ≡ 10 → ⊥ = grind (arith, nat_tests) in record {
        whole = ap whole_lines over ∙ whole_in (front ++ back) next e ∙ b.whole ∙ ap (λ l. whole_lines front ++ l) (sym (whole_in back next e));
        last = ap last_piece over ∙ last_in (front ++ back) next e ∙ ap (λ l. l ++ next ∷ []) b.last ∙ sym (last_in back next e);
      })
      (cases_Bool (next == 10))

  behind_more : (back more : List ℕ) → Behind front back → Behind front (back ++ more)
  behind_more back [] b = subst (Behind front) (sym (append-nil back)) b
  behind_more back (next ∷ more) b = subst (Behind front) (append_assoc back (next ∷ []) more) (behind_more (back ++ next ∷ []) more (behind_next back next b))

  pub behind : (back : List ℕ) → Behind front back
  behind back = behind_more [] back behind_none

  pub lines_behind : (back : List ℕ) → lines_of (front ++ back) ≡ whole_lines front ++ lines_of back
  lines_behind back =
      let b = behind back in
      all_lines (front ++ back) ∙ ap (λ l. l ++ last_line (last_piece (front ++ back))) b.whole ∙ ap (λ l. (whole_lines front ++ whole_lines back) ++ last_line l) b.last
      ∙ append_assoc (whole_lines front) (whole_lines back) (last_line (last_piece back)) ∙ ap (λ l. whole_lines front ++ l) (sym (all_lines back))

-- a line that no newline ends, and the same with one
module _ (line : List ℕ) (free : list_all (λ b. not (is_newline b)) line ≡ true) where
  free_whole : whole_lines line ≡ []
  unfolding whole_lines
  free_whole = ap but_last (slice_split_none is_newline line (all_fail is_newline line free))

  free_last : last_piece line ≡ line
  unfolding last_piece
  free_last = ap last_of (slice_split_none is_newline line (all_fail is_newline line free))

  whole_ended : whole_lines (line ++ 10 ∷ []) ≡ line ∷ []
  whole_ended = whole_end line 10 refl ∙ ap (λ l. l ++ last_piece line ∷ []) free_whole ∙ ap (λ l. l ∷ []) free_last

  module _ (front : List ℕ) (closed : length (last_piece front) ≡ 0) where
    pub line_behind : whole_lines (front ++ (line ++ 10 ∷ [])) ≡ whole_lines front ++ line ∷ []
    line_behind = (behind front closed (line ++ 10 ∷ [])).whole ∙ ap (λ l. whole_lines front ++ l) whole_ended

    pub closed_behind : length (last_piece (front ++ (line ++ 10 ∷ []))) ≡ 0
    closed_behind = ap length ((behind front closed (line ++ 10 ∷ [])).last ∙ last_end line 10 refl)

    over : (rest : List ℕ) → front ++ (line ++ 10 ∷ rest) ≡ (front ++ (line ++ 10 ∷ [])) ++ rest
    over rest = ap (λ l. front ++ l) (sym (append_assoc line (10 ∷ []) rest)) ∙ sym (append_assoc front (line ++ 10 ∷ []) rest)

    pub whole_with : (rest : List ℕ) → whole_lines (front ++ (line ++ 10 ∷ rest)) ≡ whole_lines front ++ line ∷ whole_lines rest
    whole_with rest =
        ap whole_lines (over rest) ∙ (behind (front ++ (line ++ 10 ∷ [])) closed_behind rest).whole ∙ ap (λ l. l ++ whole_lines rest) line_behind ∙ append_assoc (whole_lines front) (line ∷ []) (whole_lines rest)

    pub lines_with_line : (rest : List ℕ) → lines_of (front ++ (line ++ 10 ∷ rest)) ≡ whole_lines front ++ line ∷ lines_of rest
    lines_with_line rest =
        ap lines_of (over rest) ∙ lines_behind (front ++ (line ++ 10 ∷ [])) closed_behind rest ∙ ap (λ l. l ++ lines_of rest) line_behind ∙ append_assoc (whole_lines front) (line ∷ []) (lines_of rest)

    -- no newline stands behind the line
    pub whole_open : whole_lines (front ++ line) ≡ whole_lines front
    whole_open = (behind front closed line).whole ∙ ap (λ l. whole_lines front ++ l) free_whole ∙ append-nil (whole_lines front)

    pub lines_open : 0 < length line → lines_of (front ++ line) ≡ whole_lines front ++ line ∷ []
    lines_open some = lines_behind front closed line ∙ ap (λ l. whole_lines front ++ l) (lines_with line (omega (arith, ap length free_last, some)) ∙ ap (λ l. l ++ last_piece line ∷ []) free_whole ∙ ap (λ l. l ∷ []) free_last)
