-- What a card shows after labels were put on it with no tag.
use mathlib.Core.Path.{◌≡◌, refl, sym, ap, subst, ◌∙◌}
use mathlib.Core.List.Memᴰ
use mathlib.Core.List.{List, [], ◌∷◌, Memᴰ}
use mathlib.Core.Logic.{◌⊎◌, inl, inr, ⊎_elim}
use Prim.Native.Nat.{ℕ, ◌+◌, ◌≤◌}
use native.Mathlib.Omega.{arith}
use lib.ListN.{length}
use lib.Seq.{sets, length-sets}
use Rattle.words.specs.Bytes.{part}
use Rattle.words.proofs.Cases.{equal_or_not}
use Rattle.tree.specs.Layout.{IsNode, size, offset, card_length, label, tag}
use Rattle.tree.specs.Labels.{Labels}
use Rattle.tree.specs.Card.{put_each, laid}
use Rattle.tree.proofs.ByteLaws.{part-sets-apart}
use Rattle.tree.proofs.LayoutLaws.{AllNodes, entry-apart, entry-fits}
use Rattle.tree.proofs.LabelLaws.{Sized}
use Rattle.plan.proofs.StoreLaws.{sets-swap, part-sets}

-- no label lies over a tag, its own node's or another's
pub label-off-tag : (n u w : ℕ) → IsNode n u → IsNode n w
    → (offset n u + size n u ≤ offset n w + size n w) ⊎ (offset n w + size n w + 16 ≤ offset n u)
label-off-tag n u w hu hw =
    ⊎_elim (λ (e : u ≡ w). let p = ap (λ (v : ℕ). offset n v + size n v) e in inl (omega arith))
    (λ (d : u ≡ w → ⊥).
    ⊎_elim (λ (p : offset n u + (size n u + 16) ≤ offset n w). inl (omega arith))
    (λ (q : offset n w + (size n w + 16) ≤ offset n u). inr (omega arith)) (entry-apart n u w hu hw d))
    (equal_or_not u w)

module _ (n : ℕ) (L : Labels) (sized : Sized n L) where
  label-put : (card : List ℕ) → length card ≡ card_length n → (u : ℕ) → IsNode n u → label n (sets card (offset n u) (L u)) u ≡ L u
  unfolding label
  label-put card full u h =
      ap (part (sets card (offset n u) (L u)) (offset n u)) (sym (sized u h))
      ∙ part-sets (L u) card (offset n u) (omega (arith, sized u h, entry-fits n u h))

  label_kept : (card : List ℕ) (u w : ℕ) → IsNode n u → IsNode n w → (u ≡ w → ⊥)
      → label n (sets card (offset n w) (L w)) u ≡ label n card u
  unfolding label
  label_kept card u w hu hw d =
      part-sets-apart (L w) card (offset n w) (offset n u) (size n u)
      (⊎_elim (λ (p : offset n u + (size n u + 16) ≤ offset n w). inl (omega arith))
      (λ (q : offset n w + (size n w + 16) ≤ offset n u). let l = sized w hw in inr (omega arith)) (entry-apart n u w hu hw d))

  -- a card shows a node's label where it was there before, or was put
  pub laid-label : (us : List ℕ) → AllNodes n us → (card : List ℕ) → length card ≡ card_length n → (u : ℕ) → IsNode n u
      → (label n card u ≡ L u) ⊎ Memᴰ u us → label n (laid n L us card) u ≡ L u
  unfolding laid put_each
  laid-label [] nodes card full u h (inl e) = e
  laid-label [] nodes card full u h (inr m) = absurd (Memᴰ.not-nil m)
  laid-label (w ∷ us) nodes card full u h o =
      laid-label us (λ v m. nodes v (Memᴰ.tail m)) (sets card (offset n w) (L w)) (length-sets card (offset n w) (L w) ∙ full) u h
      (go (equal_or_not u w) o)
    where
      hw : IsNode n w
      hw = nodes w (Memᴰ.head refl)

      go : (u ≡ w) ⊎ (u ≡ w → ⊥) → (label n card u ≡ L u) ⊎ Memᴰ u (w ∷ us)
          → (label n (sets card (offset n w) (L w)) u ≡ L u) ⊎ Memᴰ u us
      go (inl e) o = inl (subst (λ (v : ℕ). label n (sets card (offset n w) (L w)) v ≡ L v) (sym e) (label-put card full w hw))
      go (inr d) (inl e) = inl (label_kept card u w h hw d ∙ e)
      go (inr d) (inr m) = ⊎_elim (λ (e : u ≡ w). absurd (d e)) (λ (k : Memᴰ u us). inr k) (Memᴰ.cases_cons m)

  -- every tag stays
  pub laid-tag : (us : List ℕ) → AllNodes n us → (card : List ℕ) (u : ℕ) → IsNode n u → tag n (laid n L us card) u ≡ tag n card u
  unfolding laid put_each tag
  laid-tag [] nodes card u h = refl
  laid-tag (w ∷ us) nodes card u h =
      let hw = nodes w (Memᴰ.head refl) in
      let l = sized w hw in
      laid-tag us (λ v m. nodes v (Memᴰ.tail m)) (sets card (offset n w) (L w)) u h
      ∙ part-sets-apart (L w) card (offset n w) (offset n u + size n u) 16
      (⊎_elim (λ (p : offset n w + size n w ≤ offset n u + size n u). inr (omega arith))
      (λ (q : offset n u + size n u + 16 ≤ offset n w). inl q) (label-off-tag n w u hw h))

  -- a tag can be put before the labels or behind them
  pub laid-past : (us : List ℕ) → AllNodes n us → (u : ℕ) → IsNode n u → (x : List ℕ) → length x ≡ 16 → (card : List ℕ)
      → laid n L us (sets card (offset n u + size n u) x) ≡ sets (laid n L us card) (offset n u + size n u) x
  unfolding laid put_each
  laid-past [] nodes u h x e card = refl
  laid-past (w ∷ us) nodes u h x e card =
      let hw = nodes w (Memᴰ.head refl) in
      let l = sized w hw in
      ap (laid n L us)
      (sets-swap x (L w) card (offset n u + size n u) (offset n w)
      (⊎_elim (λ (p : offset n w + size n w ≤ offset n u + size n u). inr (omega arith))
      (λ (q : offset n u + size n u + 16 ≤ offset n w). inl (omega arith)) (label-off-tag n w u hw h)))
      ∙ laid-past us (λ v m. nodes v (Memᴰ.tail m)) u h x e (sets card (offset n w) (L w))
