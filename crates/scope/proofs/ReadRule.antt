-- A read is accepted exactly when its limits are passed and every tag on its path is the CMAC of its message.
use mathlib.Core.Path.{sym, subst, ◌∙◌}
use mathlib.Core.List.Memᴰ
use mathlib.Core.List.{List, [], ◌∷◌, Memᴰ}
use Prim.Native.Nat.{ℕ}
use Rattle.cmac.specs.Cmac.{cmac_of}
use Rattle.tree.specs.Nodes.{path_node, path}
use Rattle.tree.specs.Calls.{read, checks}
use Rattle.tree.specs.declared.Anchor.{Anchor}
use Rattle.tree.proofs.LimitLaws.{passed, pass_all}
use Rattle.tree.proofs.NodeLaws.{among}
use Rattle.tree.proofs.WriteLaws.{Right}
use Rattle.tree.proofs.CallLaws.{read-checks, accepted, accept, outcome-answer}
use Rattle.scope.specs.ReadRule.{PathRight, ReadRule}

module _ (a : Anchor) (card : List ℕ) (i : ℕ) (buffer : List ℕ) where
  -- what is so of every node of the path is so of every node that a read checks
  all_right : PathRight a card i → (u : ℕ) → Memᴰ u (checks a.depth (read i buffer))
      → Right (cmac_of a.key) a.depth a.root.0 card u
  unfolding checks path
  all_right f u m =
      let k = among a.depth (λ y. path_node a.depth i y ∷ []) u m in
      subst (λ (w : ℕ). Right (cmac_of a.key) a.depth a.root.0 card w) (sym (Memᴰ.eq_of_singleton k.here))
      (sym (f k.level k.low k.high))

  pub read-rule : ReadRule a card i buffer
  read-rule =
      let F = cmac_of a.key in
      let answer = outcome-answer F a card (read i buffer) in
      record {
        only_if = λ w.
            let k = accepted F a card (read i buffer) (sym answer ∙ w) in
            let p = k.limits-passed in (
              pass_all a card (read i buffer) p,
              λ y h l. sym (k.tags-right (path_node a.depth i y) (read-checks a.depth i buffer p.inside y h l)),
            );
        if-right = λ e f.
            answer ∙ accept F a card (read i buffer) (record { limits-passed = passed a card (read i buffer) e; tags-right = all_right f });
      }
