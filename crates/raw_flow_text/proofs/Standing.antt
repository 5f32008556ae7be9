-- What a flow that is being built stands for with one statement more, and the statement's fault.
use Rattle.std.proofs.Common.{◌≡◌, ℕ, Bool, true, false, not, ◌&&◌, cond, List, [], ◌∷◌, ◌++◌, length, Option, Some, None, unwrap_or, refl, sym, ap, ◌∙◌, subst, append-nil}
use Rattle.std.specs.Prelude.{slice_get, Result, Ok, Err}
use Rattle.std.specs.Result.{IsErrAnd}
use Rattle.std.specs.Option.{option_or, option_to_list, is_some}
use Rattle.std.specs.List.{filter_map}
use Rattle.std.specs.Str.{bytes_eq}
use Rattle.std.proofs.lemmas.Option.{none-some, same_Some}
use Rattle.raw_asm.specs.declared.kind.AsmKind.TheVariants.{UnknownName}
use Rattle.raw_asm.specs.NameTable.{value_in}
use Rattle.raw_set_text.specs.declared.kind.SetKind.{SetKind}
use Rattle.raw_set_text.specs.declared.kind.SetKind.TheVariants.{BadSize, Repeated, Asm}
use Rattle.raw_set_text.specs.declared.kind.SetRefusal.{SetRefusal}
use Rattle.raw_set_text.specs.declared.kind.SetRefusal.TheVariants.{At}
use Rattle.raw_set_text.specs.Faults.{fault_if, is_within}
use Rattle.raw_grid.specs.declared.limits.TheConstants.{MAX_SIZE}
use Rattle.raw_flow.specs.declared.node.FlowOp.{FlowOp}
use Rattle.raw_flow.specs.declared.node.Node.{Node}
use Rattle.raw_flow_text.specs.declared.builder.Builder.{Builder}
use Rattle.raw_flow_text.specs.Statement.{Statement}
use Rattle.raw_flow_text.specs.Statement.Statement.{Grid, Input, Const, Apply, Out}
use Rattle.raw_flow_text.specs.Flows.{size_of, size_in, name_of, names_in, number_in, node_number, node_of, out_of, word_of}
use Rattle.raw_flow_text.specs.Faults.{has_name, statement_fault}
use Rattle.raw_flow_text.specs.Building.{BuilderStands, Adds, Defines}
use Rattle.raw_flow_text.proofs.Next.{filter_next, given_next, number_next, count}

-- what each part gets from the statement
module _ (old new : Builder) (said : List Statement) (statement : Statement) (stands : BuilderStands old said) where
  pub extended : new.size ≡ slice_get (filter_map size_of said ++ option_to_list (size_of statement)) 0
      → ((other : List ℕ) → value_in new.numbers other ≡ number_in (names_in said ++ option_to_list (name_of statement)) other)
      → new.nodes.items ≡ old.nodes.items ++ option_to_list (node_of (names_in said) statement)
      → new.outs.items ≡ old.outs.items ++ option_to_list (out_of (names_in said) statement)
      → new.inputs.items ≡ old.inputs.items ++ option_to_list (word_of statement)
      → BuilderStands new (said ++ statement ∷ [])
  extended size numbers nodes outs inputs = record {
    size = size ∙ ap (λ sizes. slice_get sizes 0) (sym (filter_next size_of said statement));
    numbers = λ other. numbers other ∙ ap (λ names. number_in names other) (sym (filter_next name_of said statement));
    nodes = nodes ∙ ap (λ front. front ++ option_to_list (node_of (names_in said) statement)) stands.nodes ∙ sym (given_next node_of [] said statement);
    outs = outs ∙ ap (λ front. front ++ option_to_list (out_of (names_in said) statement)) stands.outs ∙ sym (given_next out_of [] said statement);
    inputs = inputs ∙ ap (λ front. front ++ option_to_list (word_of statement)) stands.inputs ∙ sym (filter_next word_of said statement);
  }

  -- no size and no name more
  same_size : new.size ≡ old.size → new.size ≡ slice_get (filter_map size_of said ++ []) 0
  same_size same = same ∙ stands.size ∙ ap (λ sizes. slice_get sizes 0) (sym (append-nil (filter_map size_of said)))

  same_numbers : ((other : List ℕ) → value_in new.numbers other ≡ value_in old.numbers other) → (other : List ℕ) → value_in new.numbers other ≡ number_in (names_in said ++ []) other
  same_numbers same other = same other ∙ stands.numbers other ∙ ap (λ names. number_in names other) (sym (append-nil (names_in said)))

  more_numbers : (name : List ℕ) → ((other : List ℕ) → value_in new.numbers other ≡ option_or (value_in old.numbers other) (cond (bytes_eq name other) (Some (length old.nodes.items)) None))
      → (other : List ℕ) → value_in new.numbers other ≡ number_in (names_in said ++ name ∷ []) other
  more_numbers name next other =
      let long : length old.nodes.items ≡ length (names_in said) = ap length stands.nodes ∙ count said in
      next other
      ∙ ap (λ there. option_or there (cond (bytes_eq name other) (Some (length old.nodes.items)) None)) (stands.numbers other)
      ∙ ap (λ n. option_or (number_in (names_in said) other) (cond (bytes_eq name other) (Some n) None)) long
      ∙ sym (number_next (names_in said) name other)

-- a name that is new defines a node
pub defined : (old mid new : Builder) (said : List Statement) (statement : Statement) (name : List ℕ) (last : Node) → BuilderStands old said
    → name_of statement ≡ Some name → size_of statement ≡ None → node_of (names_in said) statement ≡ Some last → out_of (names_in said) statement ≡ None
    → Defines old mid name last → new.size ≡ mid.size → new.numbers ≡ mid.numbers → new.nodes ≡ mid.nodes → new.outs ≡ mid.outs
    → new.inputs.items ≡ mid.inputs.items ++ option_to_list (word_of statement)
    → BuilderStands new (said ++ statement ∷ [])
defined old mid new said statement name last stands names sizes nodes outs defines same_sizes same_names same_nodes same_outs inputs =
    extended old new said statement stands
    (subst (λ o. new.size ≡ slice_get (filter_map size_of said ++ option_to_list o) 0) (sym sizes)
    (same_size old new said statement stands (same_sizes ∙ defines.size)))
    (subst (λ o. (other : List ℕ) → value_in new.numbers other ≡ number_in (names_in said ++ option_to_list o) other) (sym names)
    (more_numbers old new said statement stands name (λ other. ap (λ map. value_in map other) same_names ∙ defines.numbers other)))
    (ap (λ v. v.items) same_nodes ∙ defines.nodes ∙ ap (λ o. old.nodes.items ++ option_to_list o) (sym nodes))
    (ap (λ v. v.items) same_outs ∙ defines.outs ∙ sym (append-nil old.outs.items) ∙ ap (λ o. old.outs.items ++ option_to_list o) (sym outs))
    (inputs ∙ ap (λ front. front ++ option_to_list (word_of statement)) defines.inputs)

first_push : {X : Type 0} (xs : List X) (x : X) → is_some (slice_get xs 0) ≡ false → slice_get (xs ++ x ∷ []) 0 ≡ Some x
first_push [] x none = refl
first_push (y ∷ xs) x none = absurd (cc none)

-- the grid
pub grid_added : (old new : Builder) (said : List Statement) (columns rows : ℕ) → BuilderStands old said → is_some (size_in said) ≡ false
    → new.size ≡ Some (columns, rows) → new.numbers ≡ old.numbers → new.nodes ≡ old.nodes → new.outs ≡ old.outs → new.inputs ≡ old.inputs
    → BuilderStands new (said ++ Grid columns rows ∷ [])
grid_added old new said columns rows stands none size numbers nodes outs inputs =
    extended old new said (Grid columns rows) stands
    (size ∙ sym (first_push (filter_map size_of said) (columns, rows) none))
    (same_numbers old new said (Grid columns rows) stands (λ other. ap (λ map. value_in map other) numbers))
    (ap (λ v. v.items) nodes ∙ sym (append-nil old.nodes.items))
    (ap (λ v. v.items) outs ∙ sym (append-nil old.outs.items))
    (ap (λ v. v.items) inputs ∙ sym (append-nil old.inputs.items))

-- the number of a name that is there
pub number_is : (builder : Builder) (said : List Statement) (name : List ℕ) (number : ℕ) → BuilderStands builder said → value_in builder.numbers name ≡ Some number → node_number (names_in said) name ≡ number
number_is builder said name number stands is = ap (λ o. unwrap_or o 0) (sym (stands.numbers name) ∙ is)

-- a value that is wanted
pub out_added : (old new : Builder) (said : List Statement) (name : List ℕ) (number : ℕ) → BuilderStands old said → value_in old.numbers name ≡ Some number
    → new.size ≡ old.size → new.numbers ≡ old.numbers → new.nodes ≡ old.nodes → new.outs.items ≡ old.outs.items ++ number ∷ [] → new.inputs ≡ old.inputs
    → BuilderStands new (said ++ Out name ∷ [])
out_added old new said name number stands is size numbers nodes outs inputs =
    extended old new said (Out name) stands
    (same_size old new said (Out name) stands size)
    (same_numbers old new said (Out name) stands (λ other. ap (λ map. value_in map other) numbers))
    (ap (λ v. v.items) nodes ∙ sym (append-nil old.nodes.items))
    (outs ∙ ap (λ n. old.outs.items ++ n ∷ []) (sym (number_is old said name number stands is)))
    (ap (λ v. v.items) inputs ∙ sym (append-nil old.inputs.items))

-- whether a name is there
pub has_is : (builder : Builder) (said : List Statement) (name : List ℕ) (number : Option ℕ) (test : Bool) → BuilderStands builder said → number ≡ value_in builder.numbers name → is_some number ≡ test → has_name said name ≡ test
has_is builder said name number test stands is there = ap is_some (sym (stands.numbers name)) ∙ ap is_some (sym is) ∙ there

pub has_not : (builder : Builder) (said : List Statement) (name : List ℕ) → BuilderStands builder said → value_in builder.numbers name ≡ None → has_name said name ≡ false
has_not builder said name stands none = has_is builder said name None false stands (sym none) refl

pub has_found : (builder : Builder) (said : List Statement) (name : List ℕ) → BuilderStands builder said → is_some (value_in builder.numbers name) ≡ true → has_name said name ≡ true
has_found builder said name stands some = has_is builder said name (value_in builder.numbers name) true stands refl some

-- a refusal of the line that is passed on
pub refused : {T : Type 0} (old new : Builder) (line : ℕ) (result : Result T SetRefusal) (refusal : SetRefusal) (kind : SetKind) (statement : Statement) → IsErrAnd result (λ other. other ≡ refusal)
    → refusal ≡ At line kind → ((said : List Statement) → BuilderStands old said → statement_fault said statement ≡ Some kind) → Adds old new line result statement
refused old new line (Ok done) refusal kind statement is at fault = absurd is
refused {T} old new line (Err other) refusal kind statement is at fault =
    subst (λ r. Adds {T = T} old new line (Err r) statement) (sym (is ∙ at)) (record { fault = λ said stands. (refl, fault said stands); stands = λ said stands. tt })

-- faults of statements by these tests
bad_size : (test : Bool) (size : ℕ × ℕ) (next : Option SetKind) → cond test (Some size) None ≡ None → fault_if (not test) BadSize next ≡ Some BadSize
bad_size true size next e = absurd (none-some size (sym e))
bad_size false size next e = refl

good_size : (test : Bool) (size found : ℕ × ℕ) (next : Option SetKind) → cond test (Some size) None ≡ Some found → (fault_if (not test) BadSize next ≡ next) × (found ≡ size)
good_size true size found next e = (refl, sym (same_Some size found e))
good_size false size found next e = absurd (none-some found e)

pub grid_bad : (said : List Statement) (columns rows : ℕ) → cond {A = Option (ℕ × ℕ)} (is_within 1 MAX_SIZE columns && is_within 1 MAX_SIZE rows) (Some (columns, rows)) None ≡ None → statement_fault said (Grid columns rows) ≡ Some BadSize
unfolding statement_fault
grid_bad said columns rows e = bad_size (is_within 1 MAX_SIZE columns && is_within 1 MAX_SIZE rows) (columns, rows) (fault_if (is_some (size_in said)) Repeated None) e

pub grid_good : (said : List Statement) (columns rows : ℕ) (found : ℕ × ℕ) → cond {A = Option (ℕ × ℕ)} (is_within 1 MAX_SIZE columns && is_within 1 MAX_SIZE rows) (Some (columns, rows)) None ≡ Some found
    → (statement_fault said (Grid columns rows) ≡ fault_if (is_some (size_in said)) Repeated None) × (found ≡ (columns, rows))
unfolding statement_fault
grid_good said columns rows found e = good_size (is_within 1 MAX_SIZE columns && is_within 1 MAX_SIZE rows) (columns, rows) found (fault_if (is_some (size_in said)) Repeated None) e

pub input_fault : (said : List Statement) (name : List ℕ) (word : ℕ) (test : Bool) → has_name said name ≡ test → statement_fault said (Input name word) ≡ fault_if test Repeated None
unfolding statement_fault
input_fault said name word test e = ap (λ b. fault_if b Repeated None) e

pub const_fault : (said : List Statement) (name : List ℕ) (word : ℕ) (test : Bool) → has_name said name ≡ test → statement_fault said (Const name word) ≡ fault_if test Repeated None
unfolding statement_fault
const_fault said name word test e = ap (λ b. fault_if b Repeated None) e

pub apply_fault : (said : List Statement) (name : List ℕ) (op : FlowOp) (a b : List ℕ) (test : Bool) → has_name said name ≡ test
    → statement_fault said (Apply name op a b) ≡ fault_if test Repeated (fault_if (not (has_name said a && has_name said b)) (Asm UnknownName) None)
unfolding statement_fault
apply_fault said name op a b test e = ap (λ x. fault_if x Repeated (fault_if (not (has_name said a && has_name said b)) (Asm UnknownName) None)) e

pub out_fault : (said : List Statement) (name : List ℕ) (test : Bool) → has_name said name ≡ test → statement_fault said (Out name) ≡ fault_if (not test) (Asm UnknownName) None
unfolding statement_fault
out_fault said name test e = ap (λ x. fault_if (not x) (Asm UnknownName) None) e
