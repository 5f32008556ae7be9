-- The lines of a text: those before one, that line, and those behind it.
use Rattle.std.proofs.Common.{◌≡◌, ℕ, zero, suc, ◌+◌, ◌<◌, ◌≤◌, List, [], ◌∷◌, ◌++◌, length, get_or, take, drop, Option, Some, None, refl, sym, ap, ◌∙◌, subst, arith}
use Rattle.std.specs.Option.{option_to_list}
use Rattle.std.specs.List.{filter_map, cons_option}
use Rattle.std.proofs.lemmas.List.{take_more}
use Rattle.raw_flow_text.specs.Forms.{line_statement as flow_line_statement}
use Rattle.raw_flow_text.proofs.Next.{filter_next}
use Rattle.raw_stream_text.specs.Statement.{Statement}
use Rattle.raw_stream_text.specs.Forms.{line_statement}
use Rattle.raw_stream_text.specs.Meaning.{said_before, said_in}

-- a line without tokens says nothing
pub no_tokens : line_statement [] ≡ None
unfolding line_statement flow_line_statement
no_tokens = refl

pub blank_says : (line : List (List ℕ)) → length line ≡ 0 → line_statement line ≡ None
blank_says [] none = no_tokens
blank_says (token ∷ tokens) none = absurd (omega (arith, none))

cons_is : {X : Type 0} (o : Option X) (xs : List X) → cons_option o xs ≡ option_to_list o ++ xs
cons_is None xs = refl
cons_is (Some x) xs = refl

-- what the first lines say, with one more
pub said_next : (lines : List (List (List ℕ))) (k : ℕ) → k < length lines → said_before lines (k + 1) ≡ said_before lines k ++ option_to_list (line_statement (get_or lines k []))
said_next lines k lt =
    ap (filter_map line_statement) (take_more lines k [] lt) ∙ filter_next line_statement (take k lines) (get_or lines k [])

-- what all lines say, by a line
split_more : (o : Option Statement) (whole front rest : List Statement) → whole ≡ front ++ rest → cons_option o whole ≡ cons_option o front ++ rest
split_more None whole front rest e = e
split_more (Some statement) whole front rest e = ap (λ xs. statement ∷ xs) e

pub said_split : (lines : List (List (List ℕ))) (k : ℕ) → k < length lines
    → said_in lines ≡ said_before lines k ++ (option_to_list (line_statement (get_or lines k [])) ++ filter_map line_statement (drop (suc k) lines))
said_split [] k lt = absurd (omega (arith, lt))
said_split (line ∷ lines) zero lt = cons_is (line_statement line) (filter_map line_statement lines)
said_split (line ∷ lines) (suc k) lt =
    split_more (line_statement line) (said_in lines) (said_before lines k) (option_to_list (line_statement (get_or lines k [])) ++ filter_map line_statement (drop (suc k) lines))
    (said_split lines k (omega (arith, lt)))

pub said_split_at : (lines : List (List (List ℕ))) (k : ℕ) (line : List (List ℕ)) → k < length lines → line ≡ get_or lines k []
    → said_in lines ≡ said_before lines k ++ (option_to_list (line_statement line) ++ filter_map line_statement (drop (suc k) lines))
said_split_at lines k line lt is =
    subst (λ l. said_in lines ≡ said_before lines k ++ (option_to_list (line_statement l) ++ filter_map line_statement (drop (suc k) lines))) (sym is) (said_split lines k lt)

-- no more statements than lines
few_more : {X : Type 0} (o : Option X) (xs : List X) (n : ℕ) → length xs ≤ n → length (cons_option o xs) ≤ suc n
few_more None xs n few = omega (arith, few)
few_more (Some x) xs n few = omega (arith, few)

pub few_said : {A X : Type 0} (f : A → Option X) (xs : List A) → length (filter_map f xs) ≤ length xs
few_said f [] = omega arith
few_said f (x ∷ xs) = few_more (f x) (filter_map f xs) (length xs) (few_said f xs)
