-- A stream with the ports of a set is one that can be claimed of it.
use Rattle.std.proofs.Common.{◌≡◌, ℕ, zero, suc, ◌+◌, ◌*◌, ◌^◌, ◌<◌, ◌≤◌, Bool, true, false, cond, List, [], ◌∷◌, length, get_or, Some, None, refl, sym, ap, ◌∙◌, subst, arith, ⊎_elim}
use Rattle.std.specs.Prelude.{◌==◌, sum_by}
use Rattle.std.specs.List.{All, filter_map, cons_option, range_with_len}
use Rattle.std.proofs.lemmas.Bool.{cases_lt, eq-eqb}
use Rattle.std.proofs.lemmas.List.{length-map}
use Rattle.std.proofs.lemmas.List.Sums.{sum_by-cons}
use Rattle.raw_model.specs.declared.limits.TheConstants.{MAX_ALL_CAPACITIES}
use Rattle.raw_model.specs.Program.{ProgramSet, IsSet}
use Rattle.raw_stream.specs.declared.out.StreamOut.{StreamOut}
use Rattle.raw_stream.specs.Streams.{Stream, IsOut, AreNamed, due_of, due_at}
use Rattle.raw_stream.specs.Kept.{gives, due_count, all_due_count, IsStream}
use Rattle.raw_row_terms.specs.RowClaims.{HasRows, AreSinksOf, IsClaimOf}
use Rattle.raw_row_terms.specs.Seated.{reseated, reseated_out, seated, IsSeated, EachIsSeated}
use Rattle.raw_row_claim_text.specs.Seats.{IsSeatedAs}

-- ---- no more outs than values that sinks get of a row
sum_le : (f g : ℕ → ℕ) (xs : List ℕ) → ((x : ℕ) → f x ≤ g x) → sum_by f xs ≤ sum_by g xs
sum_le f g [] each = omega arith
sum_le f g (x ∷ xs) each = let one = each x in let rest = sum_le f g xs each in omega (arith, one, rest, sum_by-cons f x xs, sum_by-cons g x xs)

sum_plus : (f g : ℕ → ℕ) (xs : List ℕ) → sum_by (λ x. f x + g x) xs ≡ sum_by f xs + sum_by g xs
sum_plus f g [] = omega arith
sum_plus f g (x ∷ xs) = omega (arith, sum_plus f g xs, sum_by-cons f x xs, sum_by-cons g x xs, sum_by-cons (λ y. f y + g y) x xs)

sum_has : (g : ℕ → ℕ) (k n p : ℕ) → k ≤ p → p < k + n → g p ≤ sum_by g (range_with_len k n)
sum_has g k zero p low high = absurd (omega (arith, low, high))
sum_has g k (suc n) p low high =
    ⊎_elim
    (λ (later : k < p). let rest = sum_has g (k + 1) n p (omega (arith, later)) (omega (arith, high)) in omega (arith, rest, sum_by-cons g k (range_with_len (k + 1) n)))
    (λ (over : p ≤ k). let here : g p ≡ g k = ap g (omega (arith, low, over)) in omega (arith, here, sum_by-cons g k (range_with_len (k + 1) n)))
    (cases_lt k p)

one_more : (b : Bool) (v : ℕ) (xs : List ℕ) → cond b 1 0 + length xs ≤ length (cons_option (cond b (Some v) None) xs)
one_more true v xs = omega arith
one_more false v xs = omega arith

outs_few : (m : ℕ) (outs : List StreamOut) → ((k : ℕ) (d : StreamOut) → k < length outs → (get_or outs k d).port < m) → length outs ≤ sum_by (λ q. length (filter_map (due_of q) outs)) (range_with_len 0 m)
outs_few m [] within = omega arith
outs_few m (out ∷ outs) within =
    let all : List ℕ = range_with_len 0 m in
    let port : out.port < m = within 0 out (omega arith) in
    let rest : length outs ≤ sum_by (λ q. length (filter_map (due_of q) outs)) all = outs_few m outs (λ k d lt. within (suc k) d (omega (arith, lt))) in
    let one : gives out.port out ≡ 1 = ap (λ b. cond b 1 0) (eq-eqb out.port out.port refl) in
    let own : gives out.port out ≤ sum_by (λ q. gives q out) all = sum_has (λ q. gives q out) 0 m out.port (omega arith) (omega (arith, port)) in
    let both : sum_by (λ q. gives q out + length (filter_map (due_of q) outs)) all ≡ sum_by (λ q. gives q out) all + sum_by (λ q. length (filter_map (due_of q) outs)) all =
    sum_plus (λ q. gives q out) (λ q. length (filter_map (due_of q) outs)) all in
    let each : sum_by (λ q. gives q out + length (filter_map (due_of q) outs)) all ≤ sum_by (λ q. length (filter_map (due_of q) (out ∷ outs))) all =
    sum_le (λ q. gives q out + length (filter_map (due_of q) outs)) (λ q. length (filter_map (due_of q) (out ∷ outs))) all (λ q. one_more (out.port == q) out.node (filter_map (due_of q) outs)) in
    omega (arith, rest, one, own, both, each)

at_least : (n k : ℕ) → 1 ≤ n → k ≤ n * k
at_least zero k some = absurd (omega (arith, some))
at_least (suc n) k some = omega arith

few_outs : (s : Stream) → IsStream s → length s.outs ≤ MAX_ALL_CAPACITIES
few_outs s is =
    let all : List ℕ = range_with_len 0 (length s.sinks) in
    let few : length s.outs ≤ sum_by (λ q. length (due_at s q)) all = outs_few (length s.sinks) s.outs (λ k d lt. (is.named.outs k d lt).port) in
    let more : sum_by (λ q. length (due_at s q)) all ≤ all_due_count s = sum_le (λ q. length (due_at s q)) (due_count s) all (λ q. at_least s.count (length (due_at s q)) is.some_rows) in
    omega (arith, few, more, is.few_due_in_all)

-- ---- so it can be claimed
pub claim_so : EachIsSeated → (set : ProgramSet) (s there : Stream) (order : List ℕ) → IsSet set → IsStream s → IsSeatedAs set.topo s there order → IsClaimOf set there order
claim_so law set s there order valid is seat =
    let new : Stream = seated set.topo seat.seats order s in
    let same : IsSeated set.topo seat.seats order s = law set.topo seat.seats order s is.named seat.sources seat.sinks in
    let outs : length s.outs ≤ MAX_ALL_CAPACITIES = few_outs s is in
    subst (λ (t : Stream). IsClaimOf set t order) (sym seat.is)
    (record {
      rows = record {
        named = same.named;
        some = is.some_rows;
        few_nodes = let many : length (new.nodes) ≡ length s.nodes = length-map s.nodes (reseated seat.seats) in omega (arith, many, is.few_nodes);
        few_outs = let many : length (new.outs) ≡ length s.outs = length-map s.outs (reseated_out order) in omega (arith, many, outs);
      };
      ports = record { sources = sym valid.each_port; sinks = sym valid.each_port };
      sinks = same.ports;
    })
