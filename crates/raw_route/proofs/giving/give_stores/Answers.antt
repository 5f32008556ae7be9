use Rattle.std.proofs.Common.{◌≡◌, ℕ, ◌+◌, ◌<◌, ◌≤◌, List, [], ◌∷◌, ◌++◌, length, map, take, get_or, Err, inl, inr, refl, ap, sym, subst, ◌∙◌, arith}
use Rattle.std.proofs.lemmas.List.{length-set, take_all}
use Rattle.raw_switch_isa.specs.declared.limits.TheConstants.{MAX_SWITCH_CODE}
use Rattle.raw_grid.specs.declared.parts.Net.{Net}
use Rattle.raw_codegen.specs.Parts.{ToTile, Gives}
use Rattle.raw_codegen.specs.Limits.{Overflows}
use Rattle.raw_codegen.specs.Rows.{register_of, store_ins}
use Rattle.raw_route.specs.Hauls.{Haulage}
use Rattle.raw_route.specs.Planned.{Sending, store_part}
use Rattle.raw_route.specs.Counts.{AreCounts}
use Rattle.raw_route.proofs.HaulParts.{no_targets, count_is, counts_more, stores_more, stores_full, tiles_are}
use Rattle.raw_route.proofs.giving.give_stores.Goals as goal

pub loop-i-init : goal.loop-i-init
loop-i-init c = record {
  counts_many = refl;
  gives = λ n earlier are. c.law_giving.ensures.none n c.args.programs.now;
  counted = λ n earlier word are. no_targets n c.args.counts.now.items earlier c.args.haul.now word are;
}

pub returns-then-count-ge-MAX_SWITCH_CODE-clause-too_many : goal.returns-then-count-ge-MAX_SWITCH_CODE-clause-too_many
returns-then-count-ge-MAX_SWITCH_CODE-clause-too_many c = λ n earlier are e.
    let tile = c.index-tile.result.now in
    let count = c.index-count.result.now in
    let haul = c.args.haul.now in
    let to_is = ap (λ (h : Haulage). h.to) c.haul.view_is in
    let long : c.loop-i.i < length c.haul.inside.to.items = let a = c.loop-i-test.true in let b = c.len-i-end.ensures in let d = c.haul.inside.to.ok.0 in omega arith in
    let inside : c.loop-i.i < length haul.to = subst (λ (xs : List ℕ). c.loop-i.i < length xs) to_is long in
    let is : tile ≡ get_or haul.to c.loop-i.i tile = subst (λ (xs : List ℕ). tile ≡ get_or xs c.loop-i.i tile) to_is c.index-tile.ensures in
    let within : tile < n =
    subst (λ m. tile < m) (tiles_are n c.args.counts.now.items earlier are) (subst (λ k. k < length c.args.counts.now.items) (sym is) (c.requires.to c.loop-i.i tile inside)) in
    let same = count_is n c.loop-i.counts.items earlier haul 0 c.loop-i.i tile c.requires.distinct inside is within (c.loop-i.invariant.counted n earlier 0 are) count c.index-count.ensures in
    inr (tile, within, subst (λ k. MAX_SWITCH_CODE ≤ k) same c.if-count-ge-MAX_SWITCH_CODE.true)

pub returns-in_err-give_store-clause-too_many : goal.returns-in_err-give_store-clause-too_many
returns-in_err-give_store-clause-too_many c = λ n earlier are e.
    let k = rw e at c.from_residual.ensures in
    let tile = c.index-tile.result.now in
    let count = c.index-count.result.now in
    let haul = c.args.haul.now in
    let to_is = ap (λ (h : Haulage). h.to) c.haul.view_is in
    let long : c.loop-i.i < length c.haul.inside.to.items = let a = c.loop-i-test.true in let b = c.len-i-end.ensures in let d = c.haul.inside.to.ok.0 in omega arith in
    let inside : c.loop-i.i < length haul.to = subst (λ (xs : List ℕ). c.loop-i.i < length xs) to_is long in
    let is : tile ≡ get_or haul.to c.loop-i.i tile = subst (λ (xs : List ℕ). tile ≡ get_or xs c.loop-i.i tile) to_is c.index-tile.ensures in
    let within : tile < n =
    subst (λ m. tile < m) (tiles_are n c.args.counts.now.items earlier are) (subst (λ k. k < length c.args.counts.now.items) (sym is) (c.requires.to c.loop-i.i tile inside)) in
    let full : Overflows n (ToTile tile (store_ins (register_of haul.net) count) ∷ []) c.loop-i.programs =
    subst (λ (net : Net). Overflows n (ToTile tile (store_ins (register_of net) count) ∷ []) c.loop-i.programs) (ap (λ (h : Haulage). h.net) c.haul.view_is)
    (c.in_err-give_store.ensures.too_many n (ap (λ r. Err r) (sym k.1))) in
    inl (stores_full n c.loop-i.counts.items earlier haul 0 c.loop-i.i tile c.requires.distinct inside is within (c.loop-i.invariant.counted n earlier 0 are) c.law_giving.ensures
    c.args.programs.now c.loop-i.programs (c.loop-i.invariant.gives n earlier are) count c.index-count.ensures full)

pub loop-i-preserved : goal.loop-i-preserved
loop-i-preserved c =
    let tile = c.index-tile.result.now in
    let count = c.index-count.result.now in
    let haul = c.args.haul.now in
    let to_is = ap (λ (h : Haulage). h.to) c.haul.view_is in
    let long : c.loop-i.i < length c.haul.inside.to.items = let a = c.loop-i-test.true in let b = c.len-i-end.ensures in let d = c.haul.inside.to.ok.0 in omega arith in
    let inside : c.loop-i.i < length haul.to = subst (λ (xs : List ℕ). c.loop-i.i < length xs) to_is long in
    let is : tile ≡ get_or haul.to c.loop-i.i tile = subst (λ (xs : List ℕ). tile ≡ get_or xs c.loop-i.i tile) to_is c.index-tile.ensures in
    let within : (n : ℕ) (earlier : List Sending) → AreCounts n c.args.counts.now.items earlier → tile < n =
    λ n earlier are. subst (λ m. tile < m) (tiles_are n c.args.counts.now.items earlier are) (subst (λ k. k < length c.args.counts.now.items) (sym is) (c.requires.to c.loop-i.i tile inside)) in
    record {
      counts_many = length-set c.loop-i.counts.items tile (count + 1) ∙ c.loop-i.invariant.counts_many;
      gives = λ n earlier are.
          stores_more n c.loop-i.counts.items earlier haul 0 c.loop-i.i tile c.requires.distinct inside is (within n earlier are) (c.loop-i.invariant.counted n earlier 0 are) c.law_giving.ensures
          c.args.programs.now c.loop-i.programs (c.loop-i.invariant.gives n earlier are) count c.give_store.new.programs c.index-count.ensures
          (subst (λ (net : Net). Gives n (ToTile tile (store_ins (register_of net) count) ∷ []) c.loop-i.programs c.give_store.new.programs) (ap (λ (h : Haulage). h.net) c.haul.view_is) (c.in_ok-give_store.ensures.gives n));
      counted = λ n earlier word are.
          counts_more n c.loop-i.counts.items earlier haul word c.loop-i.i tile c.requires.distinct inside is (within n earlier are) (c.loop-i.invariant.counted n earlier word are) count c.index-count.ensures;
    }

pub returns-clause-stored : goal.returns-clause-stored
returns-clause-stored c = λ n earlier word are.
    let haul = c.args.haul.now in
    let to_is = ap (λ (h : Haulage). h.to) c.haul.view_is in
    let past : length c.haul.inside.to.items ≤ c.loop-i.i = let a = c.loop-i-test.false in let b = c.len-i-end.ensures in let d = c.haul.inside.to.ok.0 in omega arith in
    let all : take c.loop-i.i haul.to ≡ haul.to = take_all c.loop-i.i haul.to (subst (λ (xs : List ℕ). length xs ≤ c.loop-i.i) to_is past) in (
      subst (λ (ts : List ℕ). Gives n (map (store_part earlier haul.net) ts) c.args.programs.now c.loop-i.programs) all (c.loop-i.invariant.gives n earlier are),
      subst (λ (ts : List ℕ). AreCounts n c.loop-i.counts.items (earlier ++ record { haul = record { from = haul.from; net = haul.net; to = ts }; word = word } ∷ [])) all (c.loop-i.invariant.counted n earlier word are),
    )
