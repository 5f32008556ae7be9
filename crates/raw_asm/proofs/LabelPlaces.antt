-- What a table of labels answers.
use Rattle.std.proofs.Common.{◌≡◌, ℕ, ◌<◌, true, false, List, [], length, get_or, Option, Some, None, refl, sym, ap, ◌∙◌, subst, arith, ⊎_elim}
use Rattle.std.specs.Prelude.{slice_get}
use Rattle.std.specs.Option.{option_map, option_and_then}
use Rattle.std.specs.List.{position}
use Rattle.std.specs.Str.{bytes_eq}
use Rattle.std.proofs.lemmas.Bool.{cases_Bool}
use Rattle.std.proofs.lemmas.Slice.Eq.{bytes_eq-Decides}
use Rattle.std.proofs.lemmas.Option.{slice_get-get_or}
use Rattle.std.proofs.lemmas.List.Quantifiers.{position-Some}
use Rattle.raw_asm.specs.declared.label_table.Labels.{Labels}
use Rattle.raw_asm.specs.Names.{is_name}
use Rattle.raw_asm.specs.Language.{Language}
use Rattle.raw_asm.specs.Section.{is_label, has_label, label_place, place_of}
use Rattle.raw_asm.specs.NameTable.{value_in}
use Rattle.raw_asm.specs.Labels.{place_in, StandsFor}

-- a label that is a name is the label of that name
pub label_named : (name other : List ℕ) → is_name name ≡ true → is_label other (Some name) ≡ bytes_eq name other
label_named name other good =
    ⊎_elim
    (λ (same : bytes_eq name other ≡ true). let e : name ≡ other = (bytes_eq-Decides name other).0 same in rw (same, subst (λ x. is_name x ≡ true) e good) refl)
    (λ (differ : bytes_eq name other ≡ false). rw differ refl)
    (cases_Bool (bytes_eq name other))

-- two tables that answer alike are one
pub same_labels : (f g : List ℕ → Option ℕ) → ((q : List ℕ) → f q ≡ g q) → f ≡ g
same_labels f g h = λ i. λ q. h q i

places_agree : {I : Type 0} (language : Language I) (starts : List ℕ) (lines : List (List (List ℕ))) (q : List ℕ) (o : Option ℕ) → o ≡ position (has_label q) lines → length starts ≡ length lines
    → ((k : ℕ) → k < length lines → get_or starts k 0 ≡ place_of language lines k) → option_and_then (λ k. slice_get starts k) o ≡ label_place language lines q
unfolding label_place
places_agree language starts lines q None e count at = ap (option_map (place_of language lines)) e
places_agree language starts lines q (Some k) e count at =
    let p = position-Some (has_label q) lines k [] (sym e) in
    slice_get-get_or starts k 0 (omega (arith, p.0, count)) ∙ ap Some (at k p.0) ∙ ap (option_map (place_of language lines)) e

-- a table that stands for the lines answers as they say
pub place_is : {I : Type 0} (language : Language I) (labels : Labels) (lines : List (List (List ℕ))) → StandsFor language labels lines → place_in labels ≡ label_place language lines
unfolding place_in
place_is language labels lines stands =
    same_labels _ _ (λ q. places_agree language labels.starts.items lines q (value_in labels.lines q) (stands.first_lines q) stands.count stands.starts)
