-- One class more.
use Rattle.std.proofs.Common.{◌≡◌, ℕ, ◌<◌, true, List, [], ◌∷◌, ◌++◌, length, Some, Ok, Err, sym, ap, ◌∙◌, subst, ⊎_elim, arith, length-append}
use Rattle.std.specs.Prelude.{slice_get, slice_index, Result, IfOk}
use Rattle.std.proofs.lemmas.List.{get_or_append_left}
use Rattle.std.proofs.lemmas.Option.{slice_get_within, get_or_from_slice_get}
use Rattle.raw_tile_isa.specs.Words.{EachGivesWords}
use Rattle.raw_flow.specs.declared.node.FlowOp.{FlowOp}
use Rattle.raw_flow.specs.declared.node.Node.{Node}
use Rattle.raw_flow.specs.declared.node.Node.TheVariants.{Apply}
use Rattle.raw_flow.specs.Flows.{applied}
use Rattle.raw_term.specs.Terms.{Numbered, made}
use Rattle.raw_term.specs.Same.{is_same}
use Rattle.raw_term.specs.Values.{term_values, Holds, AreTerms}
use Rattle.raw_term.specs.Classes.{HaveClasses, AreClasses}
use Rattle.raw_term.proofs.Terms.{IsMade, get_next}
use Rattle.raw_term.proofs.Forms.{made_is}
use Rattle.raw_term.proofs.SameSums.{less_or_same, holds_index, apply_index}
use Rattle.raw_term.proofs.SameTerms.{same_holds}

last_index : (cs : List ℕ) (n : ℕ) → slice_index (cs ++ n ∷ []) (length cs) ≡ n
last_index cs n = get_or_from_slice_get (cs ++ n ∷ []) (length cs) n 0 (get_next cs [] n)

module _ (inputs : List ℕ) (nodes table : List Node) (classes : List ℕ) (have : HaveClasses inputs nodes table classes) where
  -- a class more, in a table that has grown
  push_class : (next : List Node) (n : ℕ) → AreTerms inputs next → ((c x : ℕ) → Holds (term_values inputs table) c x → Holds (term_values inputs next) c x)
      → ((x : ℕ) → Holds (term_values inputs nodes) (length classes) x → Holds (term_values inputs next) n x) → HaveClasses inputs nodes next (classes ++ n ∷ [])
  push_class next n terms keeps one = record {
    terms = terms;
    keeps = λ c x h. keeps c x (have.keeps c x h);
    each = λ c x l h. ⊎_elim (old c x h) (new c x h) (less_or_same c (length classes) (omega (arith, l, length-append classes (n ∷ []))));
  } where
    old : (c x : ℕ) → Holds (term_values inputs nodes) c x → c < length classes → Holds (term_values inputs next) (slice_index (classes ++ n ∷ []) c) x
    old c x h l = subst (λ d. Holds (term_values inputs next) d x) (sym (get_or_append_left classes (n ∷ []) 0 c l)) (keeps (slice_index classes c) x (have.each c x l h))

    new : (c x : ℕ) → Holds (term_values inputs nodes) c x → c ≡ length classes → Holds (term_values inputs next) (slice_index (classes ++ n ∷ []) c) x
    new c x h e =
        let index : slice_index (classes ++ n ∷ []) c ≡ n = ap (slice_index (classes ++ n ∷ [])) e ∙ last_index classes n in
        subst (λ d. Holds (term_values inputs next) d x) (sym index) (one x (subst (λ d. Holds (term_values inputs nodes) d x) e h))

-- a term that stays as it is, or is the same as another
pub class_kept : (nodes table : List Node) (classes : List ℕ) (n : ℕ) → is_same table n (length classes) ≡ true → AreClasses nodes table classes → AreClasses nodes table (classes ++ n ∷ [])
class_kept nodes table classes n same old inputs are =
    let have = old inputs are in
    push_class inputs nodes table classes have table n have.terms (λ c x h. h) (λ x h. same_holds inputs table have.terms n (length classes) x same (have.keeps (length classes) x h))

-- an operation, made of the classes of its operands, or a term that is the same
pub class_made : EachGivesWords → (nodes table : List Node) (classes : List ℕ) (op : FlowOp) (a b n : ℕ) → length classes < length nodes → slice_get table (length classes) ≡ Some (Apply op a b)
    → is_same (made table op (slice_index classes a) (slice_index classes b)).nodes n (made table op (slice_index classes a) (slice_index classes b)).number ≡ true
    → AreClasses nodes table classes → AreClasses nodes (made table op (slice_index classes a) (slice_index classes b)).nodes (classes ++ n ∷ [])
class_made each nodes table classes op a b n few e same old inputs are =
    let have = old inputs are in
    let i : ℕ = length classes in
    let r : Numbered = made table op (slice_index classes a) (slice_index classes b) in
    let W : List ℕ = term_values inputs nodes in
    let V : List ℕ = term_values inputs table in
    let before = have.terms.are i (Apply op a b) e in
    let within : i < length table = slice_get_within table i (Apply op a b) e in
    let y : ℕ = slice_index V a in
    let z : ℕ = slice_index V b in
    let operand : (c : ℕ) → c < i → Holds V (slice_index classes c) (slice_index V c) =
    λ c l.
    let v = holds_index inputs nodes are c (omega (arith, l, few)) in
    let is : slice_index V c ≡ slice_index W c = get_or_from_slice_get V c (slice_index W c) 0 (have.keeps c (slice_index W c) v) in
    subst (λ u. Holds V (slice_index classes c) u) (sym is) (have.each c (slice_index W c) l v) in
    let m : IsMade inputs table r (applied op y z) = made_is inputs table have.terms each op (slice_index classes a) (slice_index classes b) y z (operand a before.0) (operand b before.1) in
    push_class inputs nodes table classes have r.nodes n m.terms m.keeps (λ x h.
    let is : applied op y z ≡ x = sym (apply_index inputs table have.terms i op a b within e) ∙ get_or_from_slice_get V i x 0 (have.keeps i x h) in
    subst (λ u. Holds (term_values inputs r.nodes) n u) is (same_holds inputs r.nodes m.terms n r.number (applied op y z) same m.value))

-- the same of a result
pub kept_of : {E : Type 0} (table : List Node) (classes : List ℕ) (i : ℕ) → i ≡ length classes → (r : Result ℕ E) → IfOk r (λ n. is_same table n i ≡ true)
    → IfOk r (λ n. (nodes : List Node) → length classes < length nodes → AreClasses nodes table classes → AreClasses nodes table (classes ++ n ∷ []))
kept_of table classes i next (Err e) h = tt
kept_of table classes i next (Ok n) h = λ nodes few old. class_kept nodes table classes n (subst (λ j. is_same table n j ≡ true) next h) old

pub made_of : {E : Type 0} → EachGivesWords → (table : List Node) (classes : List ℕ) (i : ℕ) → i ≡ length classes → (op : FlowOp) (a b x y : ℕ) → x ≡ slice_index classes a → y ≡ slice_index classes b → (q : Numbered)
    → Some (Apply op a b) ≡ slice_get table i → made table op x y ≡ q → (r : Result ℕ E) → IfOk r (λ n. is_same q.nodes n q.number ≡ true)
    → IfOk r (λ n. (nodes : List Node) → length classes < length nodes → AreClasses nodes table classes → AreClasses nodes q.nodes (classes ++ n ∷ []))
made_of each table classes i next op a b x y u v q e is (Err f) h = tt
made_of each table classes i next op a b x y u v q e is (Ok n) h =
    let same : made table op (slice_index classes a) (slice_index classes b) ≡ q = sym (ap (λ z. made table op z y) u ∙ ap (made table op (slice_index classes a)) v) ∙ is in
    λ nodes few old. subst (λ (k : Numbered). AreClasses nodes k.nodes (classes ++ n ∷ [])) same
    (class_made each nodes table classes op a b n few (subst (λ j. slice_get table j ≡ Some (Apply op a b)) next (sym e)) (subst (λ (k : Numbered). is_same k.nodes n k.number ≡ true) (sym same) h) old)
