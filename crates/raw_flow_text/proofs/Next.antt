-- What statements give with one more.
use Rattle.std.proofs.Common.{◌≡◌, ℕ, suc, ◌+◌, ◌<◌, Bool, cond, List, [], ◌∷◌, ◌++◌, length, get_or, take, Option, Some, None, refl, sym, ap, ◌∙◌, arith, append_assoc, append-nil}
use Rattle.std.specs.Option.{option_or, option_to_list}
use Rattle.std.specs.List.{filter_map, cons_option, position}
use Rattle.std.specs.Str.{bytes_eq}
use Rattle.std.proofs.lemmas.List.{length_push, take_more}
use Rattle.std.proofs.lemmas.List.Elements.{filter_map-append}
use Rattle.std.proofs.Math.Seq.{take-length, take-append_seam, get_or-append_seam}
use Rattle.raw_asm.proofs.FirstPlaces.{position_next}
use Rattle.raw_flow_text.specs.Statement.{Statement}
use Rattle.raw_flow_text.specs.Statement.Statement.{Grid, Input, Const, Apply, Out}
use Rattle.raw_flow_text.specs.Forms.{line_statement}
use Rattle.raw_flow_text.specs.Flows.{name_of, names_in, number_in, given_by, node_of, nodes_in}
use Rattle.raw_flow_text.specs.Meaning.{said_before}

cons_is : {X : Type 0} (o : Option X) (xs : List X) → cons_option o xs ≡ option_to_list o ++ xs
cons_is None xs = refl
cons_is (Some x) xs = refl

pub filter_next : {A X : Type 0} (h : A → Option X) (said : List A) (statement : A) → filter_map h (said ++ statement ∷ []) ≡ filter_map h said ++ option_to_list (h statement)
filter_next h said statement =
    filter_map-append h said (statement ∷ [])
    ∙ ap (λ back. filter_map h said ++ back) (cons_is (h statement) [] ∙ append-nil (option_to_list (h statement)))

pub given_next : {X : Type 0} (gives : List (List ℕ) → Statement → Option X) (names : List (List ℕ)) (said : List Statement) (statement : Statement)
    → given_by gives names (said ++ statement ∷ []) ≡ given_by gives names said ++ option_to_list (gives (names ++ names_in said) statement)
given_next gives names [] statement =
    append-nil (option_to_list (gives names statement)) ∙ ap (λ before. option_to_list (gives before statement)) (sym (append-nil names))
given_next gives names (first ∷ said) statement =
    let own = option_to_list (gives names first) in
    let more = names ++ option_to_list (name_of first) in
    let same : more ++ names_in said ≡ names ++ names_in (first ∷ said) =
    append_assoc names (option_to_list (name_of first)) (names_in said) ∙ ap (λ back. names ++ back) (sym (cons_is (name_of first) (names_in said))) in
    ap (λ back. own ++ back) (given_next gives more said statement)
    ∙ sym (append_assoc own (given_by gives more said) (option_to_list (gives (more ++ names_in said) statement)))
    ∙ ap (λ before. (own ++ given_by gives more said) ++ option_to_list (gives before statement)) same

-- where an element stands that passes, with one more
pub position_push : {X : Type 0} (test : X → Bool) (xs : List X) (x : X) → position test (xs ++ x ∷ []) ≡ option_or (position test xs) (cond (test x) (Some (length xs)) None)
position_push test xs x =
    let more = xs ++ x ∷ [] in
    let whole : take (length xs + 1) more ≡ more = ap (λ n. take n more) (sym (length_push xs x)) ∙ take-length more in
    let front : take (length xs) more ≡ xs = take-append_seam xs (x ∷ []) in
    let last : get_or more (length xs) x ≡ x = get_or-append_seam xs x [] x in
    let next = position_next test more (length xs) x (omega (arith, length_push xs x)) in
    ap (position test) (sym whole) ∙ next ∙ rw (front, last) refl

-- where names stand with one more
pub number_next : (names : List (List ℕ)) (name other : List ℕ) → number_in (names ++ name ∷ []) other ≡ option_or (number_in names other) (cond (bytes_eq name other) (Some (length names)) None)
number_next names name other = position_push (λ (x : List ℕ). bytes_eq x other) names name

-- each name has a node
count_from : (before : List (List ℕ)) (said : List Statement) → length (given_by node_of before said) ≡ length (names_in said)
count_from before [] = refl
count_from before (Grid columns rows ∷ said) = count_from (before ++ []) said
count_from before (Input name word ∷ said) = ap suc (count_from (before ++ name ∷ []) said)
count_from before (Const name word ∷ said) = ap suc (count_from (before ++ name ∷ []) said)
count_from before (Apply name op a b ∷ said) = ap suc (count_from (before ++ name ∷ []) said)
count_from before (Out name ∷ said) = count_from (before ++ []) said

pub count : (said : List Statement) → length (nodes_in said) ≡ length (names_in said)
count said = count_from [] said

-- what the first lines say, with one more
pub said_next : (lines : List (List (List ℕ))) (k : ℕ) → k < length lines → said_before lines (k + 1) ≡ said_before lines k ++ option_to_list (line_statement (get_or lines k []))
said_next lines k lt =
    ap (filter_map line_statement) (take_more lines k [] lt) ∙ filter_next line_statement (take k lines) (get_or lines k [])
