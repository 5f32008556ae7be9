use Rattle.std.proofs.Common.{◌≡◌, ℕ, ◌+◌, ◌<◌, ◌==◌, List, [], ◌∷◌, ◌++◌, length, get_or, take, drop, if◌then◌else◌, sym, ap, ap₂, ◌∙◌, arith, append_assoc}
use Rattle.std.proofs.lemmas.List.{drop-drop, drop_more}
use Rattle.raw_stream.specs.declared.row_node.RowNode.{RowNode}
use Rattle.raw_stream.specs.declared.row_node.RowNode.TheVariants.{Input}
use Rattle.raw_rows.specs.Given.{part}
use Rattle.raw_cut.proofs.ports.push_part.Goals as goal
use Rattle.raw_cut.proofs.ports.push_part.Goals.{in-Input+in_ok-push_word-in-Input, in-Const, in-Apply, in-Pre}

-- what a port gives from a node on
part_here : (q : ℕ) (nodes : List RowNode) (i : ℕ) (d node : RowNode) (words : List ℕ) → i < length nodes → get_or nodes i d ≡ node → part q (node ∷ drop (i + 1) nodes) words ≡ part q (drop i nodes) words
part_here q nodes i d node words below is = ap (λ (x : RowNode). part q (x ∷ drop (i + 1) nodes) words) (sym is) ∙ ap (λ (xs : List RowNode). part q xs words) (sym (drop_more nodes i d below))

-- a node that takes no word
part_still : (q : ℕ) (nodes : List RowNode) (i : ℕ) (d node : RowNode) (words all before whole : List ℕ) (n m : ℕ) → i < length nodes → get_or nodes i d ≡ node
    → part q (node ∷ drop (i + 1) nodes) (drop m words) ≡ part q (drop (i + 1) nodes) (drop m words) → all ≡ before → n ≡ m → before ++ part q (drop i nodes) (drop m words) ≡ whole
    → all ++ part q (drop (i + 1) nodes) (drop n words) ≡ whole
part_still q nodes i d node words all before whole n m below is same all_is n_is e =
    ap₂ (λ (xs : List ℕ) (k : ℕ). xs ++ part q (drop (i + 1) nodes) (drop k words)) all_is n_is
    ∙ ap (λ (xs : List ℕ). before ++ xs) (sym same ∙ part_here q nodes i d node (drop m words) below is)
    ∙ e

-- one that takes a word
part_input : (q p : ℕ) (nodes : List RowNode) (i : ℕ) (d : RowNode) (words all before whole : List ℕ) (n m : ℕ) → i < length nodes → get_or nodes i d ≡ Input p
    → all ≡ before ++ (if p == q then take 1 (drop m words) else []) → n ≡ m + 1 → before ++ part q (drop i nodes) (drop m words) ≡ whole
    → all ++ part q (drop (i + 1) nodes) (drop n words) ≡ whole
part_input q p nodes i d words all before whole n m below is all_is n_is e =
    let own : List ℕ = if p == q then take 1 (drop m words) else [] in
    ap₂ (λ (xs : List ℕ) (k : ℕ). xs ++ part q (drop (i + 1) nodes) (drop k words)) all_is n_is
    ∙ append_assoc before own (part q (drop (i + 1) nodes) (drop (m + 1) words))
    ∙ ap (λ (ws : List ℕ). before ++ (own ++ part q (drop (i + 1) nodes) ws)) (sym (drop-drop 1 m words))
    ∙ ap (λ (xs : List ℕ). before ++ xs) (part_here q nodes i d (Input p) (drop m words) below is)
    ∙ e

pub loop-node-preserved : goal.loop-node-preserved
loop-node-preserved c =
    let q : ℕ = c.args.port in
    let nodes : List RowNode = c.args.nodes.now in
    let words : List ℕ = c.args.words.now in
    let whole : List ℕ = c.args.all.now.items ++ part q nodes words in
    let i : ℕ = c.loop-node.node-index in
    let m : ℕ = c.loop-node.next in
    let before : List ℕ = c.loop-node.all.items in
    let all : List ℕ = c.match-node.all.items in
    let n : ℕ = c.match-node.next in
    elim c.match-node.branch [
      | in-Input+in_ok-push_word-in-Input w ↦ (
        part_input q _ nodes i _ words all before whole n m c.loop-node-test.true w.in-Input.is (ap (λ v. v.items) w.all-is ∙ w.in_ok-push_word-in-Input.ensures) w.next-is c.loop-node.invariant.0,
        omega (arith, w.next-is, c.loop-node.invariant.1),
      )
      | in-Const w ↦ (
        part_still q nodes i _ _ words all before whole n m c.loop-node-test.true w.in-Const.is (λ j. part q (drop (i + 1) nodes) (drop m words)) (ap (λ v. v.items) w.all-is) w.next-is c.loop-node.invariant.0,
        omega (arith, w.next-is, c.loop-node.invariant.1),
      )
      | in-Apply w ↦ (
        part_still q nodes i _ _ words all before whole n m c.loop-node-test.true w.in-Apply.is (λ j. part q (drop (i + 1) nodes) (drop m words)) (ap (λ v. v.items) w.all-is) w.next-is c.loop-node.invariant.0,
        omega (arith, w.next-is, c.loop-node.invariant.1),
      )
      | in-Pre w ↦ (
        part_still q nodes i _ _ words all before whole n m c.loop-node-test.true w.in-Pre.is (λ j. part q (drop (i + 1) nodes) (drop m words)) (ap (λ v. v.items) w.all-is) w.next-is c.loop-node.invariant.0,
        omega (arith, w.next-is, c.loop-node.invariant.1),
      )
    ]
