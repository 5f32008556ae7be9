-- What lines define and name, with one statement more.
use Rattle.std.proofs.Common.{◌≡◌, ℕ, ◌+◌, ◌<◌, ◌≤◌, get_or, Bool, true, false, cond, List, [], ◌∷◌, ◌++◌, length, Option, Some, None, refl, sym, ap, ◌∙◌, subst, append-nil}
use Rattle.std.specs.Prelude.{Result, OnOk}
use Rattle.std.specs.Option.{option_or, option_to_list, is_some}
use Rattle.std.specs.List.{filter_map}
use Rattle.std.specs.Str.{bytes_eq}
use Rattle.std.proofs.lemmas.List.{length_push, take_all}
use Rattle.std.proofs.lemmas.Result.{on_ok_weaker}
use Rattle.std.proofs.lemmas.Slice.Eq.{bytes_eq-Decides}
use Rattle.raw_asm.specs.NameTable.{value_in}
use Rattle.raw_set_text.specs.declared.declaration.Edge.{Edge}
use Rattle.raw_flow_text.specs.Flows.{number_in}
use Rattle.raw_flow_text.proofs.Next.{filter_next, number_next}
use Rattle.raw_stream_text.specs.declared.named.Named.{Named}
use Rattle.raw_stream_text.specs.Edges.{with_edge}
use Rattle.raw_stream_text.specs.Statement.{Statement}
use Rattle.raw_stream_text.specs.Statement.Statement.{Input, Out}
use Rattle.raw_stream_text.specs.Forms.{line_statement}
use Rattle.raw_stream_text.specs.Streams.{name_of, names_in, source_of, sources_in, sink_of, sinks_in}
use Rattle.raw_stream_text.specs.Meaning.{said_before, said_in}
use Rattle.raw_stream_text.specs.Building.{Defines, IsNamed}
use Rattle.raw_stream_text.proofs.Edges.{with_some, once_next}
use Rattle.raw_stream_text.proofs.Next.{said_next}

-- a name that is there keeps its number
kept : (there : Option ℕ) (value : ℕ) (same : Bool) → (same ≡ true → is_some there ≡ true) → there ≡ option_or there (cond same (Some value) None)
kept None value true some = absurd (cc (some refl))
kept None value false some = refl
kept (Some number) value same some = refl

pub noted : (named : Named) (name other : List ℕ) (value : ℕ) → is_some (value_in named.numbers name) ≡ true
    → value_in named.numbers other ≡ option_or (value_in named.numbers other) (cond (bytes_eq name other) (Some value) None)
noted named name other value some =
    kept (value_in named.numbers other) value (bytes_eq name other)
    (λ same. let e : name ≡ other = (bytes_eq-Decides name other).0 same in subst (λ x. is_some (value_in named.numbers x) ≡ true) e some)

module _ (old new : Named) (all : List Statement) (statement : Statement) (is : IsNamed old all) where
  names_more : names_in (all ++ statement ∷ []) ≡ names_in all ++ option_to_list (name_of statement)
  names_more = filter_next name_of all statement

  -- a name is defined, and maybe an edge of a source named
  pub defined : (name : List ℕ) (source : Option Edge) → name_of statement ≡ Some name → source_of statement ≡ source → sink_of statement ≡ None
      → ((other : List ℕ) → value_in new.numbers other ≡ option_or (value_in old.numbers other) (cond (bytes_eq name other) (Some old.count) None)) → new.count ≡ old.count + 1
      → new.sources ≡ with_some old.sources source → new.sinks ≡ old.sinks → IsNamed new (all ++ statement ∷ [])
  defined name source named_is source_is sink_is numbers count sources sinks =
      let more : names_in (all ++ statement ∷ []) ≡ names_in all ++ name ∷ [] = names_more ∙ ap (λ o. names_in all ++ option_to_list o) named_is in
      record {
        numbers = λ other.
            numbers other
            ∙ ap (λ there. option_or there (cond (bytes_eq name other) (Some old.count) None)) (is.numbers other)
            ∙ ap (λ n. option_or (number_in (names_in all) other) (cond (bytes_eq name other) (Some n) None)) is.count
            ∙ sym (number_next (names_in all) name other)
            ∙ ap (λ names. number_in names other) (sym more);
        count = count ∙ ap (λ n. n + 1) is.count ∙ sym (length_push (names_in all) name) ∙ ap length (sym more);
        sources = sources ∙ ap (λ edges. with_some edges source) is.sources ∙ ap (with_some (sources_in all)) (sym source_is) ∙ sym (once_next source_of all statement);
        sinks = sinks ∙ is.sinks ∙ ap (with_some (sinks_in all)) (sym sink_is) ∙ sym (once_next sink_of all statement);
      }

  -- no name is defined
  pub unnamed : (sink : Option Edge) → name_of statement ≡ None → source_of statement ≡ None → sink_of statement ≡ sink
      → new.numbers ≡ old.numbers → new.count ≡ old.count → new.sources ≡ old.sources → new.sinks ≡ with_some old.sinks sink → IsNamed new (all ++ statement ∷ [])
  unnamed sink named_is source_is sink_is numbers count sources sinks =
      let more : names_in (all ++ statement ∷ []) ≡ names_in all = names_more ∙ ap (λ o. names_in all ++ option_to_list o) named_is ∙ append-nil (names_in all) in
      record {
        numbers = λ other. ap (λ map. value_in map other) numbers ∙ is.numbers other ∙ ap (λ names. number_in names other) (sym more);
        count = count ∙ is.count ∙ ap length (sym more);
        sources = sources ∙ is.sources ∙ ap (with_some (sources_in all)) (sym source_is) ∙ sym (once_next source_of all statement);
        sinks = sinks ∙ ap (λ edges. with_some edges sink) is.sinks ∙ ap (with_some (sinks_in all)) (sym sink_is) ∙ sym (once_next sink_of all statement);
      }

-- ---- each kind of statement
module _ (old : Named) (all : List Statement) (is : IsNamed old all) where
  pub nothing_named : (statement : Statement) → name_of statement ≡ None → source_of statement ≡ None → sink_of statement ≡ None → IsNamed old (all ++ statement ∷ [])
  nothing_named statement name source sink = unnamed old old all statement is None name source sink refl refl refl refl

  pub name_defined : {T E : Type 0} (result : Result T E) (new : Named) (statement : Statement) (name : List ℕ) → name_of statement ≡ Some name → source_of statement ≡ None → sink_of statement ≡ None
      → OnOk result (Defines old new name) → OnOk result (IsNamed new (all ++ statement ∷ []))
  name_defined result new statement name says source sink defines =
      on_ok_weaker result (λ (d : Defines old new name). defined old new all statement is name None says source sink d.numbers d.count d.sources d.sinks) defines

  -- a source is added, and then the name
  pub input_named : {T E : Type 0} (result : Result T E) (middle new : Named) (name : List ℕ) (edge : Edge) → middle.numbers ≡ old.numbers → middle.count ≡ old.count → middle.sinks ≡ old.sinks
      → middle.sources ≡ with_edge old.sources edge → OnOk result (Defines middle new name) → OnOk result (IsNamed new (all ++ Input name edge ∷ []))
  input_named result middle new name edge numbers count sinks sources defines =
      on_ok_weaker result
      (λ (d : Defines middle new name).
      defined old new all (Input name edge) is name (Some edge) refl refl refl
      (λ other. d.numbers other ∙ ap (λ map. option_or (value_in map other) (cond (bytes_eq name other) (Some middle.count) None)) numbers ∙ ap (λ n. option_or (value_in old.numbers other) (cond (bytes_eq name other) (Some n) None)) count)
      (d.count ∙ ap (λ n. n + 1) count) (d.sources ∙ sources) (d.sinks ∙ sinks))
      defines

  pub sink_named : {T E : Type 0} (result : Result T E) (new : Named) (name : List ℕ) (edge : Edge) → new.numbers ≡ old.numbers → new.count ≡ old.count → new.sources ≡ old.sources
      → OnOk result (new.sinks ≡ with_edge old.sinks edge) → OnOk result (IsNamed new (all ++ Out name edge ∷ []))
  sink_named result new name edge numbers count sources added =
      on_ok_weaker result (λ (sinks : new.sinks ≡ with_edge old.sinks edge). unnamed old new all (Out name edge) is (Some edge) refl refl refl numbers count sources sinks) added

-- ---- line by line
module _ (named : Named) (lines : List (List (List ℕ))) (k : ℕ) where
  pub named_next : k < length lines → IsNamed named (said_before lines k ++ option_to_list (line_statement (get_or lines k []))) → IsNamed named (said_before lines (k + 1))
  named_next lt is = subst (IsNamed named) (sym (said_next lines k lt)) is

  pub named_all : length lines ≤ k → IsNamed named (said_before lines k) → IsNamed named (said_in lines)
  named_all le is = subst (λ front. IsNamed named (filter_map line_statement front)) (take_all k lines le) is
