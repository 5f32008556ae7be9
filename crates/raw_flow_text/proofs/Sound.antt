-- What lines without a fault say keeps all that flows keep.
use Rattle.std.proofs.Common.{◌≡◌, ℕ, zero, suc, ◌+◌, ◌^◌, ◌<◌, ◌≤◌, Bool, true, false, not, ◌&&◌, ◌||◌, cond, eqb, leb, ltb, List, [], ◌∷◌, ◌++◌, length, get_or, drop, Option, Some, None, refl, sym, ap, ◌∙◌, subst, arith, append-nil, add-one, ⊎_elim, unwrap_or}
use Rattle.std.specs.Prelude.{slice_get, IfSome, if◌then◌else◌}
use Rattle.std.specs.Option.{option_to_list, is_some, is_none}
use Rattle.std.specs.List.{All, filter_map}
use Rattle.std.specs.Str.{bytes_eq}
use Rattle.std.proofs.lemmas.Bool.{and_parts, or_parts, eqb-false, leb-true, ltb-false, cases_lt, lt-ltb, le-ltb}
use Rattle.std.proofs.lemmas.Bool.Decides.{nat_tests}
use Rattle.std.proofs.lemmas.List.{length_push}
use Rattle.std.proofs.lemmas.List.Elements.{All-nil, All-cons, All-append}
use Rattle.std.proofs.lemmas.List.Quantifiers.{position-Some}
use Rattle.std.proofs.lemmas.Option.{none-some, slice_get_within, get_or_from_slice_get, slice_get-get_or}
use Rattle.std.proofs.Math.Seq.{get_or-append_seam}
use Rattle.std.proofs.Math.ListN.{get_or-append}
use Rattle.raw_asm.specs.NameTable.{named_in}
use Rattle.raw_answer.specs.Places.{AreFaultless}
use Rattle.raw_set_text.specs.declared.kind.SetKind.TheVariants.{Missing, BadLine, BadSize, Repeated, OverLimit, Asm}
use Rattle.raw_asm.specs.declared.kind.AsmKind.TheVariants.{UnknownName}
use Rattle.raw_set_text.specs.Forms.{◌>>=◌, number_at}
use Rattle.raw_set_text.specs.Faults.{fault_if, is_within}
use Rattle.raw_set_text.proofs.Lawful.Entries.{none_if}
use Rattle.raw_text.proofs.NumberBounds.{number_small}
use Rattle.raw_grid.specs.declared.limits.TheConstants.{MAX_SIZE}
use Rattle.raw_grid.specs.Topology.{IsSize}
use Rattle.raw_flow.specs.declared.node.Node.{Node}
use Rattle.raw_flow.specs.declared.node.Node.TheVariants as node
use Rattle.raw_flow.specs.declared.limits.TheConstants.{MAX_NODES}
use Rattle.raw_flow.specs.Flows.{IsNode, AreNodes, with_input, inputs_in}
use Rattle.raw_flow.proofs.Counting.{inputs_push}
use Rattle.raw_flow_text.specs.declared.word.Word.{Word}
use Rattle.raw_flow_text.specs.declared.word.Word.TheVariants as word
use Rattle.raw_flow_text.specs.Statement.{Statement}
use Rattle.raw_flow_text.specs.Statement.Statement.{Grid, Input, Const, Apply, Out}
use Rattle.raw_flow_text.specs.Forms.{word_name, all_words, name_at, op_at, grid_form, input_form, const_form, apply_form, out_form, worded_form, line_statement}
use Rattle.raw_flow_text.specs.Flows.{IsFed, size_of, size_in, name_of, names_in, number_in, node_number, node_of, out_of, nodes_in, outs_in, word_of, words_in, fed_by}
use Rattle.raw_flow_text.specs.Faults.{has_name, is_unwanted, statement_fault, form_fault, is_missing, line_fault, end_fault}
use Rattle.raw_flow_text.specs.Meaning.{said_before, fault_at}
use Rattle.raw_flow_text.proofs.Next.{filter_next, given_next, count, said_next}

-- the word in a statement fits
abbrev pub IsWritten : Statement → Type 0
IsWritten (Input name word) = word < 2 ^ 32
IsWritten (Const name word) = word < 2 ^ 32
IsWritten _ = Unit {0}

pub if_some : (test : Bool) (form : Option Statement) → IfSome form IsWritten → IfSome (cond test form None) IsWritten
if_some true form is = is
if_some false form is = tt

pub bind_some : {A : Type 0} (o : Option A) (f : A → Option Statement) → ((x : A) → o ≡ Some x → IfSome (f x) IsWritten) → IfSome (o >>= f) IsWritten
bind_some None f is = tt
bind_some (Some x) f is = is x refl

pub number_word : (operands : List (List ℕ)) (i word : ℕ) → number_at operands i ≡ Some word → word < 2 ^ 32
unfolding number_at
number_word operands i word e = number_small (get_or operands i []) word e

grid_written : (operands : List (List ℕ)) → IfSome (grid_form operands) IsWritten
unfolding grid_form
grid_written operands = if_some _ _ (bind_some (number_at operands 0) _ (λ columns _. bind_some (number_at operands 1) _ (λ rows _. tt)))

input_written : (operands : List (List ℕ)) → IfSome (input_form operands) IsWritten
unfolding input_form
input_written operands = if_some _ _ (bind_some (name_at operands 0) _ (λ name _. bind_some (number_at operands 1) _ (λ word e. number_word operands 1 word e)))

const_written : (operands : List (List ℕ)) → IfSome (const_form operands) IsWritten
unfolding const_form
const_written operands = if_some _ _ (bind_some (name_at operands 0) _ (λ name _. bind_some (number_at operands 2) _ (λ word e. number_word operands 2 word e)))

apply_written : (operands : List (List ℕ)) → IfSome (apply_form operands) IsWritten
unfolding apply_form
apply_written operands =
    if_some _ _ (bind_some (name_at operands 0) _ (λ name _. bind_some (op_at operands 1) _ (λ op _. bind_some (name_at operands 2) _ (λ a _. bind_some (name_at operands 3) _ (λ b _. tt)))))

out_written : (operands : List (List ℕ)) → IfSome (out_form operands) IsWritten
unfolding out_form
out_written operands = if_some _ _ (bind_some (name_at operands 0) _ (λ name _. tt))

def_written : (operands : List (List ℕ)) (test : Bool) → IfSome (cond test (const_form operands) (apply_form operands)) IsWritten
def_written operands true = const_written operands
def_written operands false = apply_written operands

worded_written : (w : Word) (operands : List (List ℕ)) → IfSome (worded_form w operands) IsWritten
worded_written word.Grid operands = grid_written operands
worded_written word.Input operands = input_written operands
worded_written word.Def operands = def_written operands (eqb (length operands) 3)
worded_written word.Out operands = out_written operands

pub line_written : (line : List (List ℕ)) → IfSome (line_statement line) IsWritten
unfolding line_statement
line_written line = bind_some (named_in word_name all_words (get_or line 0 [])) (λ w. worded_form w (drop 1 line)) (λ w _. worded_written w (drop 1 line))

-- nodes with one more
nodes_push : (nodes : List Node) (last : Node) → AreNodes nodes → IsNode (length nodes) last → AreNodes (nodes ++ last ∷ [])
nodes_push nodes last are is v other e =
    let within = slice_get_within (nodes ++ last ∷ []) v other e in
    let there = get_or_from_slice_get (nodes ++ last ∷ []) v other last e in
    ⊎_elim
    (λ (lt : v < length nodes). are v other (slice_get-get_or nodes v last lt ∙ ap Some (sym (get_or-append nodes (last ∷ []) last v lt) ∙ there)))
    (λ (ge : length nodes ≤ v).
    let same : v ≡ length nodes = omega (arith, length_push nodes last, within, ge) in
    let is_last : last ≡ other = sym (get_or-append_seam nodes last [] last) ∙ ap (λ k. get_or (nodes ++ last ∷ []) k last) (sym same) ∙ there in
    subst (λ x. IsNode v x) is_last (subst (λ k. IsNode k last) (sym same) is))
    (cases_lt v (length nodes))

-- what statements give, in parts
record Parts : Type 0 where
  sizes : List (ℕ × ℕ)
  names : List (List ℕ)
  nodes : List Node
  outs : List ℕ
  words : List ℕ

abbrev parts_of : List Statement → Parts
parts_of said = record { sizes = filter_map size_of said; names = names_in said; nodes = nodes_in said; outs = outs_in said; words = words_in said }

-- with one statement more
abbrev parts_with : Parts → Statement → Parts
parts_with parts statement = record {
  sizes = parts.sizes ++ option_to_list (size_of statement);
  names = parts.names ++ option_to_list (name_of statement);
  nodes = parts.nodes ++ option_to_list (node_of parts.names statement);
  outs = parts.outs ++ option_to_list (out_of parts.names statement);
  words = parts.words ++ option_to_list (word_of statement);
}

parts_next : (said : List Statement) (statement : Statement) → parts_of (said ++ statement ∷ []) ≡ parts_with (parts_of said) statement
parts_next said statement =
    let sizes = filter_next size_of said statement in
    let names = filter_next name_of said statement in
    let nodes = given_next node_of [] said statement in
    let outs = given_next out_of [] said statement in
    let words = filter_next word_of said statement in
    rw (sizes, names, nodes, outs, words) refl

-- what they keep where no statement has a fault
record AreSound (parts : Parts) : Type 0 where
  sizes : All (λ (size : ℕ × ℕ). IsSize size.0 size.1) parts.sizes
  nodes : AreNodes parts.nodes
  outs : All (λ v. v < length parts.nodes) parts.outs
  inputs : length parts.words ≡ inputs_in parts.nodes
  words : All (λ word. word < 2 ^ 32) parts.words

pub not_false : (b : Bool) → not b ≡ false → b ≡ true
not_false true e = refl
not_false false e = absurd (cc e)

-- a name that is defined has a number
pub known_number : (names : List (List ℕ)) (name : List ℕ) (number : Option ℕ) → number_in names name ≡ number → is_some number ≡ true → unwrap_or number 0 < length names
known_number names name None e some = absurd (cc some)
known_number names name (Some i) e some = (position-Some (λ other. bytes_eq other name) names i [] e).0

-- with one node more, which names earlier ones, and maybe a word
with_node : (parts : Parts) (name : List ℕ) (last : Node) (more : List ℕ) → AreSound parts → IsNode (length parts.nodes) last
    → length (parts.words ++ more) ≡ with_input last (inputs_in parts.nodes) → All (λ word. word < 2 ^ 32) more
    → AreSound (record { sizes = parts.sizes ++ []; names = parts.names ++ name ∷ []; nodes = parts.nodes ++ last ∷ []; outs = parts.outs ++ []; words = parts.words ++ more })
with_node parts name last more are is fits small = record {
  sizes = subst (All (λ (size : ℕ × ℕ). IsSize size.0 size.1)) (sym (append-nil parts.sizes)) are.sizes;
  nodes = nodes_push parts.nodes last are.nodes is;
  outs = subst (All (λ v. v < length (parts.nodes ++ last ∷ []))) (sym (append-nil parts.outs)) (λ k d l. let low = are.outs k d l in omega (arith, low, length_push parts.nodes last));
  inputs = fits ∙ sym (inputs_push parts.nodes last);
  words = All-append (λ word. word < 2 ^ 32) parts.words more are.words small;
}

-- with no node more
without_node : (parts : Parts) (sizes : List (ℕ × ℕ)) (outs : List ℕ) → AreSound parts → All (λ (size : ℕ × ℕ). IsSize size.0 size.1) sizes → All (λ v. v < length parts.nodes) outs
    → AreSound (record { sizes = parts.sizes ++ sizes; names = parts.names ++ []; nodes = parts.nodes ++ []; outs = parts.outs ++ outs; words = parts.words ++ [] })
without_node parts sizes outs are sized known = record {
  sizes = All-append (λ (size : ℕ × ℕ). IsSize size.0 size.1) parts.sizes sizes are.sizes sized;
  nodes = subst AreNodes (sym (append-nil parts.nodes)) are.nodes;
  outs = subst (λ (nodes : List Node). All (λ v. v < length nodes) (parts.outs ++ outs)) (sym (append-nil parts.nodes)) (All-append (λ v. v < length parts.nodes) parts.outs outs are.outs known);
  inputs = ap length (append-nil parts.words) ∙ are.inputs ∙ ap inputs_in (sym (append-nil parts.nodes));
  words = subst (All (λ word. word < 2 ^ 32)) (sym (append-nil parts.words)) are.words;
}

-- a size that is not bad
pub size_fits : (columns rows : ℕ) → not (is_within 1 MAX_SIZE columns && is_within 1 MAX_SIZE rows) ≡ false → IsSize columns rows
size_fits columns rows e =
    let both = and_parts (is_within 1 MAX_SIZE columns) (is_within 1 MAX_SIZE rows) (not_false _ e) in
    let c = and_parts (leb 1 columns) (leb columns MAX_SIZE) both.0 in
    let r = and_parts (leb 1 rows) (leb rows MAX_SIZE) both.1 in
    record {
      some_cols = leb-true 1 columns c.0;
      most_cols = leb-true columns MAX_SIZE c.1;
      some_rows = leb-true 1 rows r.0;
      most_rows = leb-true rows MAX_SIZE r.1;
    }

-- one statement more that has no fault
sound_step : (said : List Statement) (statement : Statement) → AreSound (parts_of said) → IsWritten statement → statement_fault said statement ≡ None → AreSound (parts_with (parts_of said) statement)
unfolding statement_fault
sound_step said (Grid columns rows) are is none =
    let sized = none_if (not (is_within 1 MAX_SIZE columns && is_within 1 MAX_SIZE rows)) BadSize (fault_if (is_some (size_in said)) Repeated None) none in
    let fits : IsSize columns rows = size_fits columns rows sized.0 in
    without_node (parts_of said) ((columns, rows) ∷ []) [] are
    (All-cons (λ (size : ℕ × ℕ). IsSize size.0 size.1) (columns, rows) [] fits (All-nil (λ (size : ℕ × ℕ). IsSize size.0 size.1)))
    (All-nil (λ v. v < length (nodes_in said)))
sound_step said (Input name word) are is none =
    with_node (parts_of said) name node.Input (word ∷ []) are tt (length_push (words_in said) word ∙ ap (λ n. n + 1) are.inputs)
    (All-cons (λ w. w < 2 ^ 32) word [] is (All-nil (λ w. w < 2 ^ 32)))
sound_step said (Const name word) are is none =
    with_node (parts_of said) name (node.Const word) [] are is (ap length (append-nil (words_in said)) ∙ are.inputs) (All-nil (λ w. w < 2 ^ 32))
sound_step said (Apply name op a b) are is none =
    let fresh = none_if (has_name said name) Repeated (fault_if (not (has_name said a && has_name said b)) (Asm UnknownName) None) none in
    let known = none_if (not (has_name said a && has_name said b)) (Asm UnknownName) None fresh.1 in
    let both = and_parts (has_name said a) (has_name said b) (not_false _ known.0) in
    let each = count said in
    let low = known_number (names_in said) a (number_in (names_in said) a) refl both.0 in
    let high = known_number (names_in said) b (number_in (names_in said) b) refl both.1 in
    with_node (parts_of said) name (node.Apply op (node_number (names_in said) a) (node_number (names_in said) b)) [] are
    (omega (arith, low, each), omega (arith, high, each))
    (ap length (append-nil (words_in said)) ∙ are.inputs) (All-nil (λ w. w < 2 ^ 32))
sound_step said (Out name) are is none =
    let known = none_if (not (has_name said name)) (Asm UnknownName) None none in
    let low = known_number (names_in said) name (number_in (names_in said) name) refl (not_false _ known.0) in
    without_node (parts_of said) [] (node_number (names_in said) name ∷ []) are (All-nil (λ (size : ℕ × ℕ). IsSize size.0 size.1))
    (All-cons (λ v. v < length (nodes_in said)) (node_number (names_in said) name) [] (omega (arith, low, count said)) (All-nil (λ v. v < length (nodes_in said))))

-- a form without a fault
form_step : (wanted : Option (ℕ × ℕ)) (said : List Statement) (form : Option Statement) → IfSome form IsWritten → AreSound (parts_of said) → form_fault wanted said form ≡ None → AreSound (parts_of (said ++ option_to_list form))
form_step wanted said None is are none = absurd (none-some BadLine (sym none))
form_step wanted said (Some statement) is are none =
    let sized = none_if (is_unwanted wanted statement) BadSize (statement_fault said statement) none in
    subst AreSound (sym (parts_next said statement)) (sound_step said statement are is sized.1)

by_test : (wanted : Option (ℕ × ℕ)) (said : List Statement) (form : Option Statement) (missing : Bool) → IfSome form IsWritten → AreSound (parts_of said) → (if missing then Some Missing else form_fault wanted said form) ≡ None → AreSound (parts_of (said ++ option_to_list form))
by_test wanted said form true is are none = absurd (none-some Missing (sym none))
by_test wanted said form false is are none = form_step wanted said form is are none

no_tokens : line_statement [] ≡ None
unfolding line_statement
no_tokens = refl

pub blank_says : (line : List (List ℕ)) → length line ≡ 0 → line_statement line ≡ None
blank_says [] none = no_tokens
blank_says (token ∷ tokens) none = absurd (omega (arith, none))

-- a line without a fault
line_step : (wanted : Option (ℕ × ℕ)) (said : List Statement) (line : List (List ℕ)) → AreSound (parts_of said) → line_fault wanted said line ≡ None → AreSound (parts_of (said ++ option_to_list (line_statement line)))
unfolding line_fault
line_step wanted said [] are none = rw (no_tokens, append-nil) are
line_step wanted said (token ∷ tokens) are none =
    let some : eqb (length (token ∷ tokens)) 0 ≡ false = grind (arith, nat_tests) in
    by_test wanted said (line_statement (token ∷ tokens)) (is_missing said (token ∷ tokens)) (line_written (token ∷ tokens)) are (rw some at none)

none_said : AreSound (parts_of [])
none_said = record {
  sizes = All-nil (λ (size : ℕ × ℕ). IsSize size.0 size.1);
  nodes = λ v other e. absurd (none-some other e);
  outs = All-nil (λ v. v < 0);
  inputs = refl;
  words = All-nil (λ word. word < 2 ^ 32);
}

-- the first lines, where none of them has a fault
sound_before : (wanted : Option (ℕ × ℕ)) (lines : List (List (List ℕ))) (k : ℕ) → k ≤ length lines → AreFaultless (fault_at wanted lines) k → AreSound (parts_of (said_before lines k))
unfolding fault_at
sound_before wanted lines zero l faultless = none_said
sound_before wanted lines (suc k) l faultless =
    let lt : k < length lines = omega (arith, l) in
    let here : line_fault wanted (said_before lines k) (get_or lines k []) ≡ None = rw (lt-ltb k (length lines) lt) at (faultless k (omega arith)) in
    let before = sound_before wanted lines k (omega (arith, l)) (λ j below. faultless j (omega (arith, below))) in
    let more : said_before lines (suc k) ≡ said_before lines k ++ option_to_list (line_statement (get_or lines k [])) = rw (sym (add-one k)) (said_next lines k lt) in
    subst (λ said. AreSound (parts_of said)) (sym more) (line_step wanted (said_before lines k) (get_or lines k []) before here)

pub some_size : (sizes : List (ℕ × ℕ)) → is_none (slice_get sizes 0) ≡ false → All (λ (size : ℕ × ℕ). IsSize size.0 size.1) sizes
    → IsSize (unwrap_or (slice_get sizes 0) (0, 0)).0 (unwrap_or (slice_get sizes 0) (0, 0)).1
some_size [] e all = absurd (cc e)
some_size (size ∷ sizes) e all = all 0 size (omega arith)

-- where nothing is wrong at the end either, the flow is one
fed_is_lawful : (said : List Statement) → AreSound (parts_of said) → end_fault said ≡ None → IsFed (fed_by said)
unfolding end_fault fed_by
fed_is_lawful said are none =
    let some = none_if (is_none (size_in said) || eqb (length (outs_in said)) 0) Missing (fault_if (ltb MAX_NODES (length (nodes_in said))) OverLimit None) none in
    let few = none_if (ltb MAX_NODES (length (nodes_in said))) OverLimit None some.1 in
    let both = or_parts (is_none (size_in said)) (eqb (length (outs_in said)) 0) some.0 in
    record {
      flow = record {
        size = some_size (filter_map size_of said) both.0 are.sizes;
        few = ltb-false MAX_NODES (length (nodes_in said)) few.0;
        nodes = are.nodes;
        some_out = omega (arith, eqb-false (length (outs_in said)) 0 both.1);
        outs = are.outs;
      };
      inputs = record { each = are.inputs; words = are.words };
    }

-- where no line has a fault, and nothing is wrong at the end
pub ended_fed : (wanted : Option (ℕ × ℕ)) (lines : List (List (List ℕ))) → AreFaultless (fault_at wanted lines) (length lines) → end_fault (said_before lines (length lines)) ≡ None → IsFed (fed_by (said_before lines (length lines)))
ended_fed wanted lines faultless ended = fed_is_lawful (said_before lines (length lines)) (sound_before wanted lines (length lines) (omega arith) faultless) ended

pub faultless_fed : (wanted : Option (ℕ × ℕ)) (lines : List (List (List ℕ))) → AreFaultless (fault_at wanted lines) (length lines + 1) → IsFed (fed_by (said_before lines (length lines)))
unfolding fault_at
faultless_fed wanted lines faultless =
    let last : end_fault (said_before lines (length lines)) ≡ None = rw (le-ltb (length lines) (length lines) (omega arith)) at (faultless (length lines) (omega arith)) in
    ended_fed wanted lines (λ k below. faultless k (omega (arith, below))) last
