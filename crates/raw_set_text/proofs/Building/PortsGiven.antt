-- What the ports of some entries are given, port by port.
use Rattle.std.proofs.Common.{◌≡◌, ℕ, true, false, List, [], ◌∷◌, ◌++◌, map, Option, Some, None, refl, ap, ◌∙◌, subst, inl, inr, ◌⊎◌, append-nil}
use Rattle.std.specs.Prelude.{Contains}
use Rattle.std.specs.List.{filter_map, list_any, cons_option}
use Rattle.std.proofs.lemmas.List.Elements.{filter_map-append, Contains-push_cases}
use Rattle.std.proofs.lemmas.List.Concat.{flat_map-append}
use Rattle.std.proofs.lemmas.List.Folds.{list_any-append}
use Rattle.std.proofs.lemmas.Bool.{or_left, not-false}
use Rattle.raw_grid.specs.declared.parts.PortPlace.{PortPlace}
use Rattle.raw_model.specs.Program.{PortProgram}
use Rattle.raw_set_text.specs.Entry.{Entry, same_place}
use Rattle.raw_set_text.specs.Entry.Entry.{Port, Feed}
use Rattle.raw_set_text.specs.Entries.{place_in, words_in, places_of, words_of, port_in, ports_of}
use Rattle.raw_set_text.specs.Faults.{has_port, is_undeclared}
use Rattle.raw_set_text.specs.Answers.{with_entry}
use Rattle.raw_set_text.specs.Building.{AreDeclared}

-- the port that an entry declares, with its capacity
abbrev pub declared_in : Entry → Option (PortPlace × ℕ)
declared_in (Port place capacity) = Some (place, capacity)
declared_in _ = None

abbrev pub declared_of : List Entry → List (PortPlace × ℕ)
declared_of entries = filter_map declared_in entries

-- what a port is given by all entries
abbrev pub given_by : List Entry → PortPlace × ℕ → PortProgram
given_by entries port = record { words = words_of entries port.0; capacity = port.1 }

pub places_are : (entries : List Entry) → places_of entries ≡ map (λ (port : PortPlace × ℕ). port.0) (declared_of entries)
places_are [] = refl
places_are (Port place capacity ∷ entries) = ap (λ places. place ∷ places) (places_are entries)
places_are (_ ∷ entries) = places_are entries

programs_are : (all entries : List Entry) → filter_map (port_in all) entries ≡ map (given_by all) (declared_of entries)
programs_are all [] = refl
programs_are all (Port place capacity ∷ entries) = ap (λ ports. given_by all (place, capacity) ∷ ports) (programs_are all entries)
programs_are all (_ ∷ entries) = programs_are all entries

pub ports_are : (entries : List Entry) → ports_of entries ≡ map (given_by entries) (declared_of entries)
unfolding ports_of
ports_are entries = programs_are entries entries

-- one more item, which gives nothing
pub filter_map_none : {X Y : Type 0} (h : X → Option Y) (xs : List X) (x : X) → h x ≡ None → filter_map h (xs ++ x ∷ []) ≡ filter_map h xs
filter_map_none h xs x e =
    filter_map-append h xs (x ∷ []) ∙ ap (λ o. filter_map h xs ++ cons_option o []) e ∙ append-nil (filter_map h xs)

-- one more item, which gives this
pub filter_map_some : {X Y : Type 0} (h : X → Option Y) (xs : List X) (x : X) (y : Y) → h x ≡ Some y → filter_map h (xs ++ x ∷ []) ≡ filter_map h xs ++ y ∷ []
filter_map_some h xs x y e = filter_map-append h xs (x ∷ []) ∙ ap (λ o. filter_map h xs ++ cons_option o []) e

-- two functions that agree
pub map_agree : {X Y : Type 0} (f g : X → Y) → ((x : X) → f x ≡ g x) → (xs : List X) → map f xs ≡ map g xs
map_agree f g agree xs = ap (λ h. map h xs) (λ i x. agree x i)

-- the words of a source, with one more entry
pub words_with : (entries : List Entry) (entry : Entry) (place : PortPlace) → words_of (with_entry entries entry) place ≡ words_of entries place ++ words_in place entry
words_with entries entry place =
    flat_map-append (words_in place) entries (entry ∷ []) ∙ ap (λ ws. words_of entries place ++ ws) (append-nil (words_in place entry))

-- an entry that declares no port has none
pub declares_none : (entry : Entry) → place_in entry ≡ None → declared_in entry ≡ None
declares_none (Port place capacity) h = cc
declares_none _ h = refl

-- an entry gives this port no words
pub given_same : (entries : List Entry) (entry : Entry) (port : PortPlace × ℕ) → words_in port.0 entry ≡ [] → given_by (with_entry entries entry) port ≡ given_by entries port
given_same entries entry port h =
    let e = words_with entries entry port.0 ∙ ap (λ ws. words_of entries port.0 ++ ws) h ∙ append-nil (words_of entries port.0) in
    ap (λ (ws : List ℕ). let p : PortProgram = record { words = ws; capacity = port.1 } in p) e

-- a port that is declared stays so
pub has_port_still : (entries : List Entry) (entry : Entry) (place : PortPlace) → has_port entries place ≡ true → has_port (with_entry entries entry) place ≡ true
has_port_still entries entry place h =
    ap (list_any (same_place place)) (filter_map-append place_in entries (entry ∷ [])) ∙ list_any-append (same_place place) (places_of entries) (filter_map place_in (entry ∷ [])) ∙ or_left _ _ h

-- so each source that is fed is declared still
pub declared_still : (entries : List Entry) (entry : Entry) → is_undeclared entries entry ≡ false → AreDeclared entries → AreDeclared (with_entry entries entry)
declared_still entries entry h all place words within = has_port_still entries entry place (case (Contains-push_cases entries entry (Feed place words) within))
  where
    case : Contains entries (Feed place words) ⊎ (entry ≡ Feed place words) → has_port entries place ≡ true
    case (inl old) = all place words old
    case (inr e) = not-false _ (subst (λ new. is_undeclared entries new ≡ false) e h)
