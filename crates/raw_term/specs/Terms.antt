-- Terms: words as far as they are known while the words that are put in are not. A term is an input, a word, or an operation on two terms.
-- A table of terms is a list of nodes of a flow, each named by its number; equal terms have one number.
use Rattle.std.specs.Prelude.{ℕ, ◌+◌, ◌%◌, ◌^◌, ◌-◌, ◌<◌, min, Bool, true, false, ◌&&◌, ◌||◌, ◌==◌, nat_le, nat_lt, bit_and, bit_or, bit_xor, Option, Some, None, unwrap_or, List, [], ◌∷◌, ◌++◌, length, slice_get, if◌then◌else◌}
use Rattle.std.specs.Bool.{then_some}
use Rattle.std.specs.Option.{option_map}
use Rattle.raw_tile_isa.specs.Words.{word_add, word_sub, word_mul_low, word_shift_left, word_shift_right, word_leading_zeros}
use Rattle.raw_flow.specs.declared.node.FlowOp.{FlowOp}
use Rattle.raw_flow.specs.declared.node.FlowOp.TheVariants.{Add, Sub, Mul, MulHigh, MulHighUnsigned, And, Or, Xor, Nor, Less, LessUnsigned, ShiftLeft, ShiftRight, ShiftRightSigned}
use Rattle.raw_flow.specs.declared.node.Node.{Node}
use Rattle.raw_flow.specs.declared.node.Node.TheVariants.{Const, Apply}
use Rattle.raw_flow.specs.Flows.{applied}
use Rattle.raw_term.specs.declared.limits.TheConstants.{MAX_TERMS}
use Rattle.raw_term.specs.declared.form.Form.{Form}
use Rattle.raw_term.specs.declared.form.OnWord.{OnWord}
use Rattle.raw_term.specs.declared.form.Form.TheVariants.{Same, Word, Both, With}

-- a table has no more terms than it may
abbrev pub is_within : List Node → Bool
is_within nodes = nat_le (length nodes) MAX_TERMS

-- more terms than a table may have
abbrev pub Overflows : List Node → Type 0
Overflows nodes = MAX_TERMS < length nodes

-- the word that a term is, where it is one
abbrev pub word_of : Option Node → Option ℕ
word_of (Some (Const word)) = Some word
word_of _ = None

abbrev pub word_in : List Node → ℕ → Option ℕ
word_in nodes c = word_of (slice_get nodes c)

-- a number for each operation
abbrev pub op_number : FlowOp → ℕ
op_number Add = 0
op_number Sub = 1
op_number Mul = 2
op_number MulHigh = 3
op_number MulHighUnsigned = 4
op_number And = 5
op_number Or = 6
op_number Xor = 7
op_number Nor = 8
op_number Less = 9
op_number LessUnsigned = 10
op_number ShiftLeft = 11
op_number ShiftRight = 12
op_number ShiftRightSigned = 13

-- whether two nodes are the same
abbrev pub is_node : Node → Node → Bool
is_node (Const a) (Const b) = a == b
is_node (Apply op a b) (Apply up c d) = (op_number op == op_number up) && ((a == c) && (b == d))
is_node _ _ = false

-- the first place, counted from v on, where a node stands
abbrev pub place_from : ℕ → List Node → Node → Option ℕ
place_from v [] node = None
place_from v (n ∷ nodes) node = if is_node n node then Some v else place_from (v + 1) nodes node

-- a table, and the number of one of its terms
pub record Numbered : Type 0 where
  pub nodes : List Node
  pub number : ℕ

abbrev pub placed : List Node → Node → Option ℕ → Numbered
placed nodes node None = record { nodes = nodes ++ node ∷ []; number = length nodes }
placed nodes node (Some v) = record { nodes = nodes; number = v }

-- the number of a node: the one that it has, or else the next
abbrev pub with_node : List Node → Node → Numbered
with_node nodes node = placed nodes node (place_from 0 nodes node)

-- a term that is an operation on a term and a word, by its node
abbrev pub on_word_of : List Node → Option Node → Option OnWord
on_word_of nodes (Some (Apply op x y)) = option_map (λ v. record { op = op; term = x; word = v }) (word_in nodes y)
on_word_of nodes _ = None

abbrev pub on_word : List Node → ℕ → Option OnWord
on_word nodes a = on_word_of nodes (slice_get nodes a)

abbrev pub is_shift : FlowOp → Bool
is_shift ShiftLeft = true
is_shift ShiftRight = true
is_shift ShiftRightSigned = true
is_shift _ = false

-- whether both orders of two operands give the same
abbrev pub commutes : FlowOp → Bool
commutes Add = true
commutes Mul = true
commutes MulHigh = true
commutes MulHighUnsigned = true
commutes And = true
commutes Or = true
commutes Xor = true
commutes Nor = true
commutes _ = false

-- The rules of the normal form. Each gives a form where it applies; of all rules the first that applies is taken.

-- an operation on term a and the word w, where that is the term or a word
abbrev pub plain : FlowOp → ℕ → ℕ → Option Form
plain Add a w = then_some (w == 0) (Same a)
plain Mul a w = if w == 0 then Some (Word 0) else then_some (w == 1) (Same a)
plain MulHigh a w = then_some (w == 0) (Word 0)
plain MulHighUnsigned a w = then_some (nat_le w 1) (Word 0)
plain And a w = if w == 0 then Some (Word 0) else then_some (w == 2 ^ 32 - 1) (Same a)
plain Or a w = if w == 0 then Some (Same a) else then_some (w == 2 ^ 32 - 1) (Word w)
plain Xor a w = then_some (w == 0) (Same a)
plain LessUnsigned a w = then_some (w == 0) (Word 0)
plain ShiftLeft a w = then_some (w % 32 == 0) (Same a)
plain ShiftRight a w = then_some (w % 32 == 0) (Same a)
plain ShiftRightSigned a w = then_some (w % 32 == 0) (Same a)
plain _ a w = None

-- it stands as it is; a shift is by the word modulo 32
abbrev pub standing : FlowOp → ℕ → ℕ → Form
standing op a w = With op a (if is_shift op then w % 32 else w)

abbrev pub simple : FlowOp → ℕ → ℕ → Form
simple op a w = unwrap_or (plain op a w) (standing op a w)

-- a shift with zeros in, by 32 and more too
abbrev pub shifted : FlowOp → ℕ → ℕ → Form
shifted op x by = if nat_lt by 32 then simple op x by else Word 0

-- an operation on the word w of the same operation on term x and the word v
abbrev pub joined : FlowOp → ℕ → ℕ → ℕ → Option Form
joined Add x v w = Some (simple Add x (word_add v w))
joined Mul x v w = Some (simple Mul x (word_mul_low v w))
joined And x v w = Some (simple And x (bit_and v w))
joined Or x v w = Some (simple Or x (bit_or v w))
joined Xor x v w = Some (simple Xor x (bit_xor v w))
joined ShiftLeft x v w = Some (shifted ShiftLeft x (v % 32 + w % 32))
joined ShiftRight x v w = Some (shifted ShiftRight x (v % 32 + w % 32))
joined ShiftRightSigned x v w = Some (simple ShiftRightSigned x (min (v % 32 + w % 32) 31))
joined _ x v w = None

abbrev pub joined_with : FlowOp → ℕ → Option OnWord → Option Form
joined_with op w None = None
joined_with op w (Some it) = if op_number it.op == op_number op then joined op it.term it.word w else None

-- by these rules alone, for what further rules give
abbrev pub again : List Node → FlowOp → ℕ → ℕ → Form
again nodes op a w = unwrap_or (plain op a w) (unwrap_or (joined_with op w (on_word nodes a)) (standing op a w))

-- the place of the highest bit of a word that is 1
abbrev pub highest : ℕ → ℕ
highest w = 31 - word_leading_zeros w

-- k, from 1 to 31, where a word is 2^k
abbrev pub power_of : ℕ → Option ℕ
power_of w = then_some (nat_le 2 w && (word_shift_left 1 (highest w) == w)) (highest w)

-- an operation on term a and the word w that has another name: a difference is a sum, a product with a power of two a shift
abbrev pub renamed : List Node → FlowOp → ℕ → ℕ → Option Form
renamed nodes Sub a w = Some (again nodes Add a (word_sub 0 w))
renamed nodes Mul a w = option_map (λ k. again nodes ShiftLeft a k) (power_of w)
renamed nodes MulHigh a w = then_some (w == 1) (again nodes ShiftRightSigned a 31)
renamed nodes MulHighUnsigned a w = option_map (λ k. again nodes ShiftRight a (32 - k)) (power_of w)
renamed nodes Nor a w = then_some (w == 0) (again nodes Xor a (2 ^ 32 - 1))
renamed nodes Less a w = then_some (w == 0) (again nodes ShiftRight a 31)
renamed nodes _ a w = None

-- an operation on the word w of another operation, on term x and the word v
abbrev pub crossed : List Node → FlowOp → FlowOp → ℕ → ℕ → ℕ → Option Form
crossed nodes ShiftRight ShiftLeft x v w = then_some (v % 32 == w % 32) (again nodes And x (word_shift_right (2 ^ 32 - 1) w))
crossed nodes ShiftLeft ShiftRight x v w = then_some (v % 32 == w % 32) (again nodes And x (word_shift_left (2 ^ 32 - 1) w))
crossed nodes And Or x v w = then_some (v == w) (Word w)
crossed nodes Or And x v w = then_some (v == w) (Word w)
crossed nodes _ _ x v w = None

abbrev pub crossed_with : List Node → FlowOp → ℕ → Option OnWord → Option Form
crossed_with nodes op w None = None
crossed_with nodes op w (Some it) = crossed nodes op it.op it.term it.word w

-- an operation on term a, which is no word, and the word w
abbrev pub with_word : List Node → FlowOp → ℕ → ℕ → Form
with_word nodes op a w =
    unwrap_or (plain op a w)
    (unwrap_or (joined_with op w (on_word nodes a)) (unwrap_or (renamed nodes op a w) (unwrap_or (crossed_with nodes op w (on_word nodes a)) (standing op a w))))

-- an operation on a term with itself
abbrev pub with_itself : List Node → FlowOp → ℕ → Form
with_itself nodes Sub a = Word 0
with_itself nodes Xor a = Word 0
with_itself nodes And a = Same a
with_itself nodes Or a = Same a
with_itself nodes Nor a = again nodes Xor a (2 ^ 32 - 1)
with_itself nodes Less a = Word 0
with_itself nodes LessUnsigned a = Word 0
with_itself nodes op a = Both op a a

abbrev pub is_either : ℕ → ℕ → ℕ → Bool
is_either t x y = (x == t) || (y == t)

-- the other one of two terms, where t is one of them
abbrev pub other_of : ℕ → ℕ → ℕ → Option Form
other_of t x y = if x == t then Some (Same y) else then_some (y == t) (Same x)

abbrev pub are_ones : Option ℕ → Bool
are_ones None = false
are_ones (Some w) = w == 2 ^ 32 - 1

-- whether term s, which is `xor` of x and y, is the complement of t
abbrev pub is_complement : List Node → ℕ → ℕ → ℕ → Bool
is_complement nodes t x y = (x == t) && are_ones (word_in nodes y)

-- `and` of terms s and t, where s is an operation on x and y
abbrev pub and_beside : List Node → FlowOp → ℕ → ℕ → ℕ → ℕ → Option Form
and_beside nodes Or s t x y = then_some (is_either t x y) (Same t)
and_beside nodes And s t x y = then_some (is_either t x y) (Same s)
and_beside nodes Xor s t x y = then_some (is_complement nodes t x y) (Word 0)
and_beside nodes _ s t x y = None

abbrev pub or_beside : List Node → FlowOp → ℕ → ℕ → ℕ → ℕ → Option Form
or_beside nodes And s t x y = then_some (is_either t x y) (Same t)
or_beside nodes Or s t x y = then_some (is_either t x y) (Same s)
or_beside nodes Xor s t x y = then_some (is_complement nodes t x y) (Word (2 ^ 32 - 1))
or_beside nodes _ s t x y = None

-- an operation on terms s and t, where s is the operation `inner` on x and y
abbrev pub beside : List Node → FlowOp → FlowOp → ℕ → ℕ → ℕ → ℕ → Option Form
beside nodes And inner s t x y = and_beside nodes inner s t x y
beside nodes Or inner s t x y = or_beside nodes inner s t x y
beside nodes Xor Xor s t x y = other_of t x y
beside nodes Sub Add s t x y = other_of t x y
beside nodes Add Sub s t x y = then_some (y == t) (Same x)
beside nodes _ _ s t x y = None

abbrev pub beside_node : List Node → FlowOp → ℕ → ℕ → Option Node → Option Form
beside_node nodes op s t (Some (Apply inner x y)) = beside nodes op inner s t x y
beside_node nodes op s t _ = None

abbrev pub in_order : FlowOp → ℕ → ℕ → Form
in_order op a b = if nat_le b a then Both op b a else Both op a b

-- an operation on two terms that are no words; where both orders give the same, the term that was made first is first
abbrev pub of_terms : List Node → FlowOp → ℕ → ℕ → Form
of_terms nodes op a b =
    if a == b then with_itself nodes op a
    else unwrap_or (beside_node nodes op a b (slice_get nodes a))
    (if commutes op then unwrap_or (beside_node nodes op b a (slice_get nodes b)) (in_order op a b) else Both op a b)

-- the term by which a shift by term b is: of `and` of a term and a word whose low five bits are 1 it is that term
abbrev pub amount_of : ℕ → Option OnWord → ℕ
amount_of b None = b
amount_of b (Some it) = if (op_number it.op == op_number And) && (it.word % 32 == 31) then it.term else b

abbrev pub shift_by : List Node → FlowOp → ℕ → ℕ → Form
shift_by nodes op a b = Both op a (amount_of b (on_word nodes b))

-- an operation on a word, and on a term that is none
abbrev pub of_word : List Node → FlowOp → ℕ → ℕ → ℕ → Form
of_word nodes op a w b =
    if commutes op then with_word nodes op b w
    else (if is_shift op then (if w == 0 then Word 0 else shift_by nodes op a b) else Both op a b)

abbrev pub form_by : List Node → FlowOp → ℕ → ℕ → Option ℕ → Option ℕ → Form
form_by nodes op a b (Some x) (Some y) = Word (applied op x y)
form_by nodes op a b (Some x) None = of_word nodes op a x b
form_by nodes op a b None (Some y) = with_word nodes op a y
form_by nodes op a b None None = if is_shift op then shift_by nodes op a b else of_terms nodes op a b

-- the normal form of an operation on the terms a and b
abbrev pub form_of : List Node → FlowOp → ℕ → ℕ → Form
form_of nodes op a b = form_by nodes op a b (word_in nodes a) (word_in nodes b)

abbrev pub applied_to : FlowOp → ℕ → Numbered → Numbered
applied_to op a r = with_node r.nodes (Apply op a r.number)

-- a normal form in a table
abbrev pub with_form : List Node → Form → Numbered
with_form nodes (Same a) = record { nodes = nodes; number = a }
with_form nodes (Word w) = with_node nodes (Const w)
with_form nodes (Both op a b) = with_node nodes (Apply op a b)
with_form nodes (With op a w) = applied_to op a (with_node nodes (Const w))

-- an operation on the terms a and b
abbrev pub made : List Node → FlowOp → ℕ → ℕ → Numbered
made nodes op a b = with_form nodes (form_of nodes op a b)
