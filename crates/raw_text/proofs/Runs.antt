-- Parts of a list, and the words of a part.
use Rattle.std.proofs.Common.{◌≡◌, ℕ, ◌+◌, ◌-◌, ◌<◌, ◌≤◌, Bool, true, false, not, ◌&&◌, cond, List, [], ◌∷◌, ◌++◌, length, take, drop, get_or, map, refl, sym, ap, ◌∙◌, append_assoc, add_assoc, arith, length-take, length-drop}
use Rattle.std.specs.Prelude.{slice_range, nat_lt}
use Rattle.std.specs.List.{position_or_len, slice_split, filter, before_first, after_first, list_all, All}
use Rattle.std.proofs.lemmas.Bool.{cases_lt, cases_Bool, lt-ltb, le-ltb}
use Rattle.std.proofs.lemmas.Bool.Decides.{nat_tests}
use Rattle.std.proofs.Common.{⊎_elim}
use Rattle.std.proofs.lemmas.List.{drop-drop, drop-take, drop-append-le, take-take, drop_all, take_all, get_or-drop, get_or-take, append-nil, map_push}
use Rattle.std.proofs.lemmas.List.Sums.{prefix_len-le-length, fails_before_first, passes_at_first, position_or_len_is}
use Rattle.std.proofs.lemmas.List.Folds.{list_all_at}
use Rattle.std.proofs.lemmas.List.Splits.{slice_split_first, slice_split_none}
use Rattle.raw_text.specs.Lines.{runs_of, is_blank, is_hash, is_newline, is_plain, is_solid, IsPlain}
use Rattle.raw_text.specs.Tokens.{token_at}
use Rattle.raw_text.specs.Cutting.{IsCode, IsPlainLine}

-- what each element passes, one of them passes
all_at : (p : ℕ → Bool) (xs : List ℕ) (i d : ℕ) → i < length xs → list_all p xs ≡ true → p (get_or xs i d) ≡ true
all_at p xs i d lt all = ⊎_elim {C = p (get_or xs i d) ≡ true} (λ yes. yes) (λ no. absurd (grind (arith, list_all_at p xs i d lt no, all))) (cases_Bool (p (get_or xs i d)))

and_true : (b : Bool) → (b && true) ≡ b
and_true true = refl
and_true false = refl

and_false : (b : Bool) → (b && false) ≡ false
and_false true = refl
and_false false = refl

solid_here : (b : ℕ) → is_plain b ≡ true → is_hash b ≡ false → is_solid b ≡ not (is_blank b)
solid_here b plain hash = rw (plain, hash) (and_true (not (is_blank b)))

hash_ends : (b : ℕ) → is_hash b ≡ true → is_solid b ≡ false
hash_ends b hash = rw hash (and_false (is_plain b && not (is_blank b)))

newline_ends : (b : ℕ) → is_newline b ≡ true → is_solid b ≡ false
newline_ends b newline = grind (arith, nat_tests)

-- a part without its first k elements
pub drop-range : (xs : List ℕ) (a b k : ℕ) → drop k (slice_range xs a b) ≡ slice_range xs (a + k) b
drop-range xs a b k =
    ⊎_elim
    (λ (short : k < b - a). let e : b - a ≡ k + (b - (a + k)) = omega arith in rw (e, drop-take k (b - (a + k)) (drop a xs), drop-drop k a xs) refl)
    (λ (long : b - a ≤ k). let e : b - (a + k) ≡ 0 = omega arith in rw e (drop_all k (take (b - a) (drop a xs)) (omega (arith, length-take (b - a) (drop a xs)))))
    (cases_lt k (b - a))

-- a front of a part
pub take-range : (xs : List ℕ) (a b k : ℕ) → a + k ≤ b → take k (slice_range xs a b) ≡ slice_range xs a (a + k)
take-range xs a b k h = let le : k ≤ b - a = omega arith in let e : a + k - a ≡ k = omega arith in rw (take-take k (b - a) (drop a xs), e) refl

pub length-range : (xs : List ℕ) (a b : ℕ) → b ≤ length xs → length (slice_range xs a b) ≡ b - a
length-range xs a b h = omega (arith, length-take (b - a) (drop a xs), length-drop a xs)

-- where no element passes the test, its first place is the length
pub none_before : {X : Type 0} (p : X → Bool) (xs : List X) → length xs ≤ position_or_len p xs → All (λ x. p x ≡ false) xs
none_before p xs h = λ k d lt. fails_before_first p xs k d (omega arith)

-- the parts that a test cuts: the first, and those of the rest
pub split_step : (p : ℕ → Bool) (xs : List ℕ) (f : List (List ℕ) → List (List ℕ)) → f ([] ∷ []) ≡ []
    → ((a : List ℕ) (more : List (List ℕ)) → f (a ∷ more) ≡ f (a ∷ []) ++ f more)
    → f (slice_split p xs) ≡ f (before_first p xs ∷ []) ++ f (slice_split p (after_first p xs))
split_step p xs f none more =
    ⊎_elim
    (λ (some : position_or_len p xs < length xs). rw (slice_split_first p xs 0 some) (more (before_first p xs) (slice_split p (after_first p xs))))
    (λ (past : length xs ≤ position_or_len p xs).
    let whole : before_first p xs ≡ xs = take_all (position_or_len p xs) xs past in
    let rest : after_first p xs ≡ [] = drop_all (position_or_len p xs + 1) xs (omega arith) in
    rw (whole, rest, slice_split_none p xs (none_before p xs past), none) (sym (append-nil (f (xs ∷ [])))))
    (cases_lt (position_or_len p xs) (length xs))

kept_or_not : (b : Bool) (a : List ℕ) (more : List (List ℕ)) → cond b (a ∷ more) more ≡ cond b (a ∷ []) [] ++ more
kept_or_not true a more = refl
kept_or_not false a more = refl

-- the words: a first one, unless it is empty, and those after the blank
pub runs_step : (xs : List ℕ) → runs_of xs ≡ cond (nat_lt 0 (length (before_first is_blank xs))) (before_first is_blank xs ∷ []) [] ++ runs_of (after_first is_blank xs)
unfolding runs_of
runs_step xs = split_step is_blank xs (filter (λ word. nat_lt 0 (length word))) refl (λ a more. kept_or_not (nat_lt 0 (length a)) a (filter (λ word. nat_lt 0 (length word)) more))

same_test : (at n : ℕ) → nat_lt 0 n ≡ nat_lt at (at + n)
same_test at n = grind (arith, nat_tests)

-- the same of a part of the bytes, after the words before it
pub runs_more : (bytes : List ℕ) (at end n : ℕ) (front all : List (List ℕ)) → at < end → end ≤ length bytes
    → n ≡ position_or_len is_blank (slice_range bytes at end) → front ++ runs_of (slice_range bytes at end) ≡ all
    → (front ++ cond (nat_lt at (at + n)) (slice_range bytes at (at + n) ∷ []) []) ++ runs_of (slice_range bytes (at + n + 1) end) ≡ all
runs_more bytes at end n front all lt within is_n so_far =
    let part = slice_range bytes at end in
    let long : length part ≡ end - at = length-range bytes at end within in
    let short : n ≤ length part = rw is_n (prefix_len-le-length (λ b. not (is_blank b)) part) in
    let first : before_first is_blank part ≡ slice_range bytes at (at + n) = rw (← is_n) (take-range bytes at end n (omega arith)) in
    let len : length (slice_range bytes at (at + n)) ≡ n = length-range bytes at (at + n) (omega arith) ∙ (omega arith) in
    let rest : after_first is_blank part ≡ slice_range bytes (at + n + 1) end = rw (← is_n, drop-range bytes at end (n + 1), ← add_assoc at n 1) refl in
    let step : runs_of part ≡ cond (nat_lt at (at + n)) (slice_range bytes at (at + n) ∷ []) [] ++ runs_of (slice_range bytes (at + n + 1) end) =
    runs_step part ∙ rw (first, rest, len, same_test at n) refl in
    append_assoc front _ _ ∙ ap (λ w. front ++ w) (sym step) ∙ so_far

-- at the end of the part there is no word
pub runs_end : (bytes : List ℕ) (at end : ℕ) (front all : List (List ℕ)) → end ≤ at → front ++ runs_of (slice_range bytes at end) ≡ all → front ≡ all
unfolding runs_of
runs_end bytes at end front all le so_far =
    let none : slice_range bytes at end ≡ [] = (let e : end - at ≡ 0 = omega arith in rw e refl) in
    let empty : runs_of (slice_range bytes at end) ≡ [] = rw none refl in
    sym (append-nil front) ∙ ap (λ w. front ++ w) (sym empty) ∙ so_far

-- the tokens after a word, where there is one
abbrev pub run_at : List ℕ → ℕ → ℕ → List (List ℕ)
run_at bytes at stop = cond (nat_lt at stop) (slice_range bytes at stop ∷ []) []

pub run_pushed : (bytes : List ℕ) (at stop base : ℕ) (old new : List ℕ) → at < stop → base ≤ length old → token_at bytes at ≡ slice_range bytes at stop → new ≡ old ++ at ∷ []
    → map (token_at bytes) (drop base new) ≡ map (token_at bytes) (drop base old) ++ run_at bytes at stop
run_pushed bytes at stop base old new lt le token e =
    ap (λ xs. map (token_at bytes) (drop base xs)) e ∙ ap (map (token_at bytes)) (drop-append-le base old (at ∷ []) le) ∙ map_push (token_at bytes) (drop base old) at
    ∙ rw (token, lt-ltb at stop lt) refl

pub run_absent : (bytes : List ℕ) (at stop base : ℕ) (old new : List ℕ) → stop ≤ at → new ≡ old
    → map (token_at bytes) (drop base new) ≡ map (token_at bytes) (drop base old) ++ run_at bytes at stop
run_absent bytes at stop base old new le e = rw (e, le-ltb at stop le) (sym (append-nil (map (token_at bytes) (drop base old))))

-- a run of a line's code is the token that begins there
pub run_is_token : (bytes : List ℕ) (start at end n : ℕ) → IsCode bytes start end → start ≤ at → at < end → end ≤ length bytes
    → n ≡ position_or_len is_blank (slice_range bytes at end) → token_at bytes at ≡ slice_range bytes at (at + n)
run_is_token bytes start at end n code from lt within is_n =
    let part = slice_range bytes at end in
    let rest = drop at bytes in
    let long : length part ≡ end - at = length-range bytes at end within in
    let left : length rest ≡ length bytes - at = length-drop at bytes in
    let short : n ≤ length part = rw is_n (prefix_len-le-length (λ b. not (is_blank b)) part) in
    let same : (k : ℕ) → k < end - at → get_or part k 0 ≡ get_or bytes (at + k) 0 = λ k h. get_or-take (end - at) rest k 0 h ∙ get_or-drop at bytes k 0 in
    let before : (k : ℕ) → k < n → not (is_solid (get_or rest k 0)) ≡ false =
    λ k h. let blank : is_blank (get_or part k 0) ≡ false = fails_before_first is_blank part k 0 (omega (arith, h, is_n)) in
    rw (get_or-drop at bytes k 0, code.free (at + k) 0 (omega arith) (omega arith), ← same k (omega arith), blank) refl in
    let here : n < length rest → not (is_solid (get_or rest n 0)) ≡ true =
    λ h. ⊎_elim {C = not (is_solid (get_or rest n 0)) ≡ true}
    (λ (inside : at + n < end).
    let place : get_or part (position_or_len is_blank part) 0 ≡ get_or bytes (at + n) 0 = rw (← is_n) (same n (omega arith)) in
    let blank : is_blank (get_or part (position_or_len is_blank part) 0) ≡ true = passes_at_first is_blank part 0 (omega (arith, is_n)) in
    rw (get_or-drop at bytes n 0, code.free (at + n) 0 (omega arith) inside, ← place, blank) refl)
    (λ (past : end ≤ at + n). let e : at + n ≡ end = omega arith in rw (get_or-drop at bytes n 0, e, code.ended 0 (omega (arith, h))) refl)
    (cases_lt (at + n) end) in
    let place : position_or_len (λ b. not (is_solid b)) rest ≡ n = position_or_len_is (λ b. not (is_solid b)) rest n 0 (omega arith) before here in
    let w : at + n - at ≡ n = omega arith in
    rw (place, w) refl

-- the code of a plain line, which goes up to its first '#'
pub code_of_line : (bytes : List ℕ) (start end n : ℕ) → start ≤ end → end ≤ length bytes → IsPlainLine bytes start end → n ≡ position_or_len is_hash (slice_range bytes start end) → IsCode bytes start (start + n)
code_of_line bytes start end n order within line is_n =
    let part = slice_range bytes start end in
    let long : length part ≡ end - start = length-range bytes start end within in
    let short : n ≤ length part = rw is_n (prefix_len-le-length (λ b. not (is_hash b)) part) in
    let same : (k d : ℕ) → start ≤ k → k < end → get_or part (k - start) d ≡ get_or bytes k d =
    λ k d low high. let e : start + (k - start) ≡ k = omega arith in get_or-take (end - start) (drop start bytes) (k - start) d (omega arith) ∙ get_or-drop start bytes (k - start) d ∙ ap (λ i. get_or bytes i d) e in
    record {
      free = λ k d low high.
          let plain : is_plain (get_or bytes k d) ≡ true = rw (← same k d low (omega arith)) (all_at is_plain part (k - start) d (omega arith) line.plain) in
          let hash : is_hash (get_or bytes k d) ≡ false = rw (← same k d low (omega arith)) (fails_before_first is_hash part (k - start) d (omega (arith, is_n))) in
          solid_here (get_or bytes k d) plain hash;
      ended = λ d lt. ⊎_elim {C = is_solid (get_or bytes (start + n) d) ≡ false}
          (λ (inside : start + n < end).
          let e : start + n - start ≡ n = omega arith in
          let hash : is_hash (get_or part n d) ≡ true = rw is_n (passes_at_first is_hash part d (omega (arith, is_n))) in
          hash_ends (get_or bytes (start + n) d) (rw (← same (start + n) d (omega arith) inside, e) hash))
          (λ (past : end ≤ start + n). let e : start + n ≡ end = omega arith in rw e (newline_ends (get_or bytes end d) (line.ended d (omega (arith, e, lt)))))
          (cases_lt (start + n) end);
    }

-- the bytes up to the first newline, where they are plain
pub plain_line : (bytes : List ℕ) (at n : ℕ) → at < length bytes → n ≡ position_or_len is_newline (slice_range bytes at (length bytes)) → IsPlain (slice_range bytes at (at + n)) → IsPlainLine bytes at (at + n)
plain_line bytes at n lt is_n plain =
    let rest = slice_range bytes at (length bytes) in
    record {
      plain = plain;
      ended = λ d h.
          let long : length rest ≡ length bytes - at = length-range bytes at (length bytes) (omega arith) in
          let same : get_or rest n d ≡ get_or bytes (at + n) d = get_or-take (length bytes - at) (drop at bytes) n d (omega arith) ∙ get_or-drop at bytes n d in
          let newline : is_newline (get_or rest n d) ≡ true = rw is_n (passes_at_first is_newline rest d (omega (arith, is_n))) in
          rw (← same) newline;
    }
