-- The options behind the name of a command stand in any order, and none of a kind twice.
use Rattle.std.specs.Prelude.{◌≡◌, ℕ, Bool, true, false, List, [], ◌∷◌, ◌++◌, codes, Some, None}
use Rattle.std.specs.Str.{bytes_eq}
use Rattle.raw_command_line.specs.declared.arguments.CommandOption.{CommandOption}
use Rattle.raw_command_line.specs.declared.arguments.CommandOption.TheVariants.{Form, Workers, From, Cycles, More, Made}
use Rattle.raw_command_line.specs.Arguments.{options_in, command_of}

-- the second list has the options of the first in some order: the first option stands somewhere in it, and what is left of it has the others
abbrev pub IsOrderOf : List CommandOption → List CommandOption → Type 0
IsOrderOf [] others = others ≡ []
IsOrderOf (o ∷ options) others =
    (before : List CommandOption) × (after : List CommandOption) × (others ≡ before ++ o ∷ after) × IsOrderOf options (before ++ after)

-- words that are the same options in some order
pub record AreAlike (words others : List (List ℕ)) : Type 0 where
  pub options : List CommandOption
  pub reordered : List CommandOption
  pub said : options_in words ≡ Some options
  pub also : options_in others ≡ Some reordered
  pub order : IsOrderOf options reordered

-- whether two options are of one kind: forms of the set, numbers of workers, first cycles, numbers of cycles, what is written beside, sets that are made
abbrev pub are_of_kind : CommandOption → CommandOption → Bool
are_of_kind (Form f) (Form g) = true
are_of_kind (Workers m) (Workers n) = true
are_of_kind (From a) (From b) = true
are_of_kind (Cycles m) (Cycles n) = true
are_of_kind (More a) (More b) = true
are_of_kind (Made a) (Made b) = true
are_of_kind o p = false

-- words that are options, two of which are of one kind
pub record SayTwice (words : List (List ℕ)) : Type 0 where
  pub before : List CommandOption
  pub one : CommandOption
  pub between : List CommandOption
  pub other : CommandOption
  pub after : List CommandOption
  pub said : options_in words ≡ Some (before ++ one ∷ between ++ other ∷ after)
  pub kind : are_of_kind one other ≡ true

-- commands are the same whose options are
pub record IsFreeOfOrder (words others : List (List ℕ)) : Type 0 where
  pub named : (name : List ℕ) → bytes_eq name (codes "work") ≡ false → command_of (name ∷ words) ≡ command_of (name ∷ others)
  pub work : (number : List ℕ) → command_of (codes "work" ∷ number ∷ words) ≡ command_of (codes "work" ∷ number ∷ others)

-- words with options twice are no command
pub record IsNoCommand (words : List (List ℕ)) : Type 0 where
  pub named : (name : List ℕ) → bytes_eq name (codes "work") ≡ false → command_of (name ∷ words) ≡ None
  pub work : (number : List ℕ) → command_of (codes "work" ∷ number ∷ words) ≡ None
