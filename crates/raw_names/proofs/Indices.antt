-- The ends by their indices.
use Rattle.std.proofs.Common.{◌≡◌, ℕ, refl, subst}
use Rattle.raw_grid.specs.declared.parts.Net.{Net}
use Rattle.raw_grid.specs.declared.parts.Net.TheVariants.{One, Two}
use Rattle.raw_grid.specs.declared.parts.Dir.{Dir}
use Rattle.raw_grid.specs.declared.parts.Dir.TheVariants.{N, E, S, W, P}
use Rattle.raw_grid.specs.declared.parts.End.{End}
use Rattle.raw_grid.specs.Ends.{end_index}
use Rattle.raw_grid.specs.Names.{end}
use Rattle.raw_names.specs.Names.{end_at}

by_parts : (net : Net) (dir : Dir) → end net dir ≡ end_at (end_index net dir)
by_parts One N = refl
by_parts One E = refl
by_parts One S = refl
by_parts One W = refl
by_parts One P = refl
by_parts Two N = refl
by_parts Two E = refl
by_parts Two S = refl
by_parts Two W = refl
by_parts Two P = refl

-- the end whose index this is
pub end_is : (e : End) (index : ℕ) → end_index e.net e.dir ≡ index → e ≡ end_at index
end_is e index is = subst (λ i. e ≡ end_at i) is (by_parts e.net e.dir)
