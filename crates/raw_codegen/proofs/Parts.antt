-- What lists of parts give to tiles and switches.
use Rattle.std.proofs.Common.{◌≡◌, ℕ, zero, suc, ◌+◌, ◌<◌, ◌≤◌, List, [], ◌∷◌, ◌++◌, Option, Some, None, refl, sym, ap, ◌∙◌, subst, ⊎_elim, arith}
use Rattle.std.specs.Prelude.{option_map}
use Rattle.std.specs.List.{flat_map, range_with_len}
use Rattle.std.specs.Option.{option_to_list}
use Rattle.std.proofs.lemmas.Bool.{cases_eq, eq-eqb, ne_eqb}
use Rattle.std.proofs.lemmas.List.{append-nil}
use Rattle.std.proofs.lemmas.Grind.{flat_map-append}
use Rattle.raw_tile_isa.specs.Instruction.{Instruction}
use Rattle.raw_switch_isa.specs.Instruction.{SwitchInstruction}
use Rattle.raw_codegen.specs.Parts.{Part, ToSwitch, for_tile, for_switch, tile_part, switch_part, to_tile, to_switches}

pub tile_part-append : (t : ℕ) (xs ys : List Part) → tile_part t (xs ++ ys) ≡ tile_part t xs ++ tile_part t ys
tile_part-append t xs ys = flat_map-append (for_tile t) xs ys

pub switch_part-append : (t : ℕ) (xs ys : List Part) → switch_part t (xs ++ ys) ≡ switch_part t xs ++ switch_part t ys
switch_part-append t xs ys = flat_map-append (for_switch t) xs ys

-- a block for a tile
pub block_here : (t : ℕ) (code : List Instruction) → tile_part t (to_tile t code) ≡ code
block_here t [] = refl
block_here t (ins ∷ code) = rw (eq-eqb t t refl) (ap (λ xs. ins ∷ xs) (block_here t code))

pub block_there : (t u : ℕ) (code : List Instruction) → (u ≡ t → ⊥) → tile_part u (to_tile t code) ≡ []
block_there t u [] ne = refl
block_there t u (ins ∷ code) ne = rw (ne_eqb t u (λ e. ne (sym e))) (block_there t u code ne)

pub block_switch : (t u : ℕ) (code : List Instruction) → switch_part u (to_tile t code) ≡ []
block_switch t u [] = refl
block_switch t u (ins ∷ code) = block_switch t u code

-- one instruction for a switch
pub switch_here : (t : ℕ) (ins : SwitchInstruction) → switch_part t (ToSwitch t ins ∷ []) ≡ ins ∷ []
switch_here t ins = rw (eq-eqb t t refl) refl

pub switch_there : (t u : ℕ) (ins : SwitchInstruction) → (u ≡ t → ⊥) → switch_part u (ToSwitch t ins ∷ []) ≡ []
switch_there t u ins ne = rw (ne_eqb t u (λ e. ne (sym e))) refl

-- instructions for all switches
abbrev one_for : (ℕ → Option SwitchInstruction) → ℕ → List Part
one_for given t = option_to_list (option_map (ToSwitch t) (given t))

one_tile : (u t : ℕ) (o : Option SwitchInstruction) → tile_part u (option_to_list (option_map (ToSwitch t) o)) ≡ []
one_tile u t None = refl
one_tile u t (Some ins) = refl

one_here : (t : ℕ) (o : Option SwitchInstruction) → switch_part t (option_to_list (option_map (ToSwitch t) o)) ≡ option_to_list o
one_here t None = refl
one_here t (Some ins) = switch_here t ins

one_there : (u t : ℕ) (o : Option SwitchInstruction) → (u ≡ t → ⊥) → switch_part u (option_to_list (option_map (ToSwitch t) o)) ≡ []
one_there u t None ne = refl
one_there u t (Some ins) ne = switch_there t u ins ne

module _ (given : ℕ → Option SwitchInstruction) where
  all_tile : (u : ℕ) (ts : List ℕ) → tile_part u (flat_map (one_for given) ts) ≡ []
  all_tile u [] = refl
  all_tile u (t ∷ ts) = tile_part-append u (one_for given t) (flat_map (one_for given) ts) ∙ rw (one_tile u t (given t)) (all_tile u ts)

  pub switches_tile : (u n : ℕ) → tile_part u (to_switches n given) ≡ []
  switches_tile u n = all_tile u (range_with_len 0 n)

  before_all : (u a n : ℕ) → u < a → switch_part u (flat_map (one_for given) (range_with_len a n)) ≡ []
  before_all u a zero h = refl
  before_all u a (suc n) h =
      switch_part-append u (one_for given a) (flat_map (one_for given) (range_with_len (a + 1) n))
      ∙ rw (one_there u a (given a) (λ e. omega arith)) (before_all u (a + 1) n (omega arith))

  within_all : (u a n : ℕ) → a ≤ u → u < a + n → switch_part u (flat_map (one_for given) (range_with_len a n)) ≡ option_to_list (given u)
  within_all u a zero h k = absurd (omega arith)
  within_all u a (suc n) h k =
      switch_part-append u (one_for given a) (flat_map (one_for given) (range_with_len (a + 1) n))
      ∙ ⊎_elim
      (λ (e : u ≡ a).
      subst (λ (b : ℕ). switch_part u (one_for given b) ++ switch_part u (flat_map (one_for given) (range_with_len (b + 1) n)) ≡ option_to_list (given u)) e
      (ap (λ xs. xs ++ switch_part u (flat_map (one_for given) (range_with_len (u + 1) n))) (one_here u (given u))
      ∙ ap (λ xs. option_to_list (given u) ++ xs) (before_all u (u + 1) n (omega arith))
      ∙ append-nil (option_to_list (given u))))
      (λ (ne : u ≡ a → ⊥). rw (one_there u a (given a) ne) (within_all u (a + 1) n (more ne) (omega arith)))
      (cases_eq u a)
    where
      more : (u ≡ a → ⊥) → a + 1 ≤ u
      more ne = omega arith

  pub switches_here : (u n : ℕ) → u < n → switch_part u (to_switches n given) ≡ option_to_list (given u)
  switches_here u n h = within_all u 0 n (omega arith) (omega arith)
