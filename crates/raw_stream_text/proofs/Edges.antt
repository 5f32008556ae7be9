-- Edges, each once, and their numbers.
use Rattle.std.proofs.Common.{◌≡◌, ℕ, ◌+◌, Bool, true, false, ◌&&◌, cond, eqb, List, [], ◌∷◌, ◌++◌, length, Option, Some, None, refl, sym, ap, ◌∙◌, subst, append-nil}
use Rattle.std.specs.Prelude.{All}
use Rattle.std.specs.HashMap.{HashMap, get}
use Rattle.std.specs.Option.{option_or, option_to_list, is_some}
use Rattle.std.specs.List.{position, filter_map}
use Rattle.std.proofs.lemmas.Bool.{and_parts, eqb-true, eq-eqb}
use Rattle.std.proofs.lemmas.List.Elements.{All-push, All-head, All-tail}
use Rattle.raw_grid.specs.Names.{net_number, side_number}
use Rattle.raw_set_text.specs.declared.declaration.Edge.{Edge}
use Rattle.raw_flow_text.proofs.Next.{filter_next, position_push}
use Rattle.raw_stream_text.specs.Edges.{Key, key_of, same_key, same_edge, edge_number, with_edge, each_once}
use Rattle.raw_stream_text.specs.Seated.{AreSeats}

-- keys tell edges apart
key_same : (x y : Key) → same_key x y ≡ true → x ≡ y
key_same (a, b, c, d) (p, q, r, s) e =
    let last = and_parts ((eqb a p && eqb b q) && eqb c r) (eqb d s) e in
    let third = and_parts (eqb a p && eqb b q) (eqb c r) last.0 in
    let two = and_parts (eqb a p) (eqb b q) third.0 in
    rw (eqb-true a p two.0, eqb-true b q two.1, eqb-true c r third.1, eqb-true d s last.1) refl

pub edge_itself : (edge : Edge) → same_edge edge edge ≡ true
edge_itself edge =
    rw (eq-eqb (net_number edge.net) (net_number edge.net) refl, eq-eqb edge.tile.x edge.tile.x refl, eq-eqb edge.tile.y edge.tile.y refl, eq-eqb (side_number edge.side) (side_number edge.side) refl) refl

or_none : {X : Type 0} (o : Option X) → option_or o None ≡ o
or_none None = refl
or_none (Some x) = refl

number_push : (edges : List Edge) (edge other : Edge) → edge_number (edges ++ edge ∷ []) other ≡ option_or (edge_number edges other) (cond (same_edge edge other) (Some (length edges)) None)
number_push edges edge other = position_push (λ (x : Edge). same_edge x other) edges edge

-- the map with one edge more, which was not there
pub seats_more : {S : Type 0} (edges : List Edge) (edge : Edge) (old new : HashMap Key ℕ S) → AreSeats edges old → get same_key old (key_of edge) ≡ None
    → ((q : Key) → get same_key new q ≡ cond (same_key (key_of edge) q) (Some (length edges)) (get same_key old q)) → AreSeats (edges ++ edge ∷ []) new
seats_more edges edge old new are none is other = is (key_of other) ∙ by (same_edge edge other) refl ∙ sym (number_push edges edge other) where
  by : (b : Bool) → same_edge edge other ≡ b → cond b (Some (length edges)) (get same_key old (key_of other)) ≡ option_or (edge_number edges other) (cond b (Some (length edges)) None)
  by true e =
      let same : key_of edge ≡ key_of other = key_same (key_of edge) (key_of other) e in
      let absent : edge_number edges other ≡ None = subst (λ (k : Key). position (λ (x : Edge). same_key (key_of x) k) edges ≡ None) same (sym (are edge) ∙ none) in
      rw absent refl
  by false e = are other ∙ sym (or_none (edge_number edges other))

-- ---- each edge once
once_push : (before edges : List Edge) (edge : Edge) → each_once before (edges ++ edge ∷ []) ≡ with_edge (each_once before edges) edge
once_push before [] edge = refl
once_push before (first ∷ edges) edge = once_push (with_edge before first) edges edge

-- with the edge that a statement names, if it does
abbrev pub with_some : List Edge → Option Edge → List Edge
with_some edges None = edges
with_some edges (Some edge) = with_edge edges edge

pub once_next : {A : Type 0} (names : A → Option Edge) (said : List A) (statement : A) → each_once [] (filter_map names (said ++ statement ∷ [])) ≡ with_some (each_once [] (filter_map names said)) (names statement)
once_next names said statement = ap (each_once []) (filter_next names said statement) ∙ by (names statement) where
  by : (o : Option Edge) → each_once [] (filter_map names said ++ option_to_list o) ≡ with_some (each_once [] (filter_map names said)) o
  by None = ap (each_once []) (append-nil (filter_map names said))
  by (Some edge) = once_push [] (filter_map names said) edge

-- an edge keeps its number
kept_one : (edges : List Edge) (edge other : Edge) (i : ℕ) → edge_number edges other ≡ Some i → edge_number (with_edge edges edge) other ≡ Some i
kept_one edges edge other i e = by (is_some (edge_number edges edge)) where
  by : (b : Bool) → edge_number (cond b edges (edges ++ edge ∷ [])) other ≡ Some i
  by true = e
  by false = number_push edges edge other ∙ rw e refl

kept : (before edges : List Edge) (other : Edge) (i : ℕ) → edge_number before other ≡ Some i → edge_number (each_once before edges) other ≡ Some i
kept before [] other i e = e
kept before (edge ∷ edges) other i e = kept (with_edge before edge) edges other i (kept_one before edge other i e)

-- an edge that is named has a number
number_of : (o : Option ℕ) → is_some o ≡ true → (i : ℕ) × (o ≡ Some i)
number_of None e = absurd (cc e)
number_of (Some i) e = (i, refl)

pushed : (o : Option ℕ) (b : Bool) (n : ℕ) → b ≡ true → (i : ℕ) × (option_or o (cond b (Some n) None) ≡ Some i)
pushed None b n e = (n, rw e refl)
pushed (Some i) b n e = (i, refl)

there_one : (edges : List Edge) (edge : Edge) → (i : ℕ) × (edge_number (with_edge edges edge) edge ≡ Some i)
there_one edges edge = by (is_some (edge_number edges edge)) refl where
  by : (b : Bool) → is_some (edge_number edges edge) ≡ b → (i : ℕ) × (edge_number (cond b edges (edges ++ edge ∷ [])) edge ≡ Some i)
  by true e = number_of (edge_number edges edge) e
  by false e =
      let some = pushed (edge_number edges edge) (same_edge edge edge) (length edges) (edge_itself edge) in
      (some.0, number_push edges edge edge ∙ some.1)

pub there : (before xs ys : List Edge) (edge : Edge) → (i : ℕ) × (edge_number (each_once before (xs ++ edge ∷ ys)) edge ≡ Some i)
there before [] ys edge =
    let one = there_one before edge in
    (one.0, kept (with_edge before edge) ys edge one.0 one.1)
there before (x ∷ xs) ys edge = there (with_edge before x) xs ys edge

-- what holds of each edge that is named
all_with : (P : Edge → Type 0) (edges : List Edge) (edge : Edge) → All P edges → P edge → All P (with_edge edges edge)
all_with P edges edge all one = by (is_some (edge_number edges edge)) where
  by : (b : Bool) → All P (cond b edges (edges ++ edge ∷ []))
  by true = all
  by false = All-push P edges edge all one

pub all_once : (P : Edge → Type 0) (before edges : List Edge) → All P before → All P edges → All P (each_once before edges)
all_once P before [] all more = all
all_once P before (edge ∷ edges) all more = all_once P (with_edge before edge) edges (all_with P before edge all (All-head P edge edges more)) (All-tail P edge edges more)
