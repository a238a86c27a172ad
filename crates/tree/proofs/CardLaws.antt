-- What a card shows after nodes were stamped on it.
use mathlib.Core.Path.{◌≡◌, refl, sym, ap, ap₂, subst, ◌∙◌}
use mathlib.Core.List.Memᴰ
use mathlib.Core.List.{List, [], ◌∷◌, ◌++◌, Memᴰ}
use mathlib.Core.Logic.{◌⊎◌, inl, inr, ⊎_elim}
use Prim.Native.Nat.{ℕ, suc, ◌+◌, ◌<◌, ◌≤◌}
use native.Mathlib.Numerals.{add-one}
use native.Mathlib.Omega.{arith}
use lib.ListN.{length, length-append}
use lib.Seq.{length-sets}
use Rattle.words.specs.Bytes.{at, part}
use Rattle.words.proofs.Cases.{equal_or_not}
use Rattle.tree.specs.Layout.{IsNode, size, offset, card_length, label, tag}
use Rattle.tree.specs.Nodes.{up_to}
use Rattle.tree.specs.Labels.{Labels, message}
use Rattle.tree.specs.Card.{put_each, laid, stamp, stamped}
use Rattle.tree.proofs.ByteLaws.{at-sets-apart, at-sets-first, part-sets-apart, part-sets-first, part-sets-second}
use Rattle.tree.proofs.LayoutLaws.{AllNodes, entry-fits, entry-apart}
use Rattle.tree.proofs.LabelLaws.{Sized}

-- two cards show the same entry of u
pub record Alike (n : ℕ) (c d : List ℕ) (u : ℕ) : Type 0 where
  pub label_same : label n c u ≡ label n d u
  pub tag_same : tag n c u ≡ tag n d u

pub alike-trans : {n : ℕ} {c d e : List ℕ} {u : ℕ} → Alike n c d u → Alike n d e u → Alike n c e u
alike-trans p q = record { label_same = p.label_same ∙ q.label_same; tag_same = p.tag_same ∙ q.tag_same }

-- the stamp of u leaves byte j, or puts x there
pub record Puts (n : ℕ) (L : Labels) (u j x : ℕ) : Type 0 where
  pub place : ℕ
  pub below : place < size n u
  pub is : j ≡ offset n u + place
  pub puts : at (L u) place ≡ x

abbrev pub Leaves : ℕ → Labels → ℕ → ℕ → ℕ → Type 0
Leaves n L u j x = ((j < offset n u) ⊎ (offset n u + (size n u + 16) ≤ j)) ⊎ Puts n L u j x

-- Nodes after nodes

module _ (put : ℕ → List ℕ → List ℕ) where
  pub length-each : ((u : ℕ) (card : List ℕ) → length (put u card) ≡ length card) → (us card : List ℕ)
      → length (put_each put us card) ≡ length card
  unfolding put_each
  length-each same [] card = refl
  length-each same (u ∷ us) card = length-each same us (put u card) ∙ same u card

  pub each_append : (us vs card : List ℕ) → put_each put (us ++ vs) card ≡ put_each put vs (put_each put us card)
  unfolding put_each
  each_append [] vs card = refl
  each_append (u ∷ us) vs card = each_append us vs (put u card)

  -- one level more
  pub each_more : (k : ℕ) (f : ℕ → List ℕ) (card : List ℕ)
      → put_each put (up_to (k + 1) f) card ≡ put_each put (f (k + 1)) (put_each put (up_to k f) card)
  unfolding up_to
  each_more k f card =
      ap (λ (j : ℕ). put_each put (up_to j f) card) (add-one k) ∙ each_append (up_to k f) (f (suc k)) card
      ∙ ap (λ (j : ℕ). put_each put (f j) (put_each put (up_to k f) card)) (sym (add-one k))

module _ (F : List ℕ → List ℕ) (n : ℕ) (L : Labels) where
  length-stamp : (card : List ℕ) (u : ℕ) → length (stamp F n L card u) ≡ length card
  length-stamp card u = length-sets card (offset n u) (L u ++ F (message L u))

  pub length-stamped : (us card : List ℕ) → length (stamped F n L us card) ≡ length card
  unfolding stamped
  length-stamped us card = length-each _ (λ u c. length-stamp c u) us card

  pub stamped-append : (us vs card : List ℕ) → stamped F n L (us ++ vs) card ≡ stamped F n L vs (stamped F n L us card)
  unfolding stamped
  stamped-append us vs card = each_append _ us vs card

  pub stamped-more : (k : ℕ) (f : ℕ → List ℕ) (card : List ℕ)
      → stamped F n L (up_to (k + 1) f) card ≡ stamped F n L (f (k + 1)) (stamped F n L (up_to k f) card)
  unfolding stamped
  stamped-more k f card = each_more _ k f card

-- labels alone
module _ (n : ℕ) (L : Labels) where
  pub length-laid : (us card : List ℕ) → length (laid n L us card) ≡ length card
  unfolding laid
  length-laid us card = length-each _ (λ u c. length-sets c (offset n u) (L u)) us card

  pub laid-append : (us vs card : List ℕ) → laid n L (us ++ vs) card ≡ laid n L vs (laid n L us card)
  unfolding laid
  laid-append us vs card = each_append _ us vs card

  pub laid_more : (k : ℕ) (f : ℕ → List ℕ) (card : List ℕ)
      → laid n L (up_to (k + 1) f) card ≡ laid n L (f (k + 1)) (laid n L (up_to k f) card)
  unfolding laid
  laid_more k f card = each_more _ k f card

-- What they show

module _ (F : List ℕ → List ℕ) (F16 : (m : List ℕ) → length (F m) ≡ 16) (n : ℕ) (L : Labels) (sized : Sized n L) where
  -- a card shows u as stamped
  pub record Shows (card : List ℕ) (u : ℕ) : Type 0 where
    pub tag_is : tag n card u ≡ F (message L u)
    pub label_is : label n card u ≡ L u

  pub entry_length : (u : ℕ) → IsNode n u → length (L u ++ F (message L u)) ≡ size n u + 16
  entry_length u h = length-append (L u) (F (message L u)) ∙ ap₂ ◌+◌ (sized u h) (F16 (message L u))

  module _ (card : List ℕ) (full : length card ≡ card_length n) (u : ℕ) (h : IsNode n u) where
    room : offset n u + length (L u ++ F (message L u)) ≤ length card
    room = omega (arith, entry_length u h, entry-fits n u h)

    stamp-shows : Shows (stamp F n L card u) u
    unfolding label tag
    stamp-shows =
        let c = stamp F n L card u in
        record {
          tag_is =
              ap₂ (λ (k m : ℕ). part c (offset n u + k) m) (sym (sized u h)) (sym (F16 (message L u)))
              ∙ part-sets-second (L u) (F (message L u)) card (offset n u) room;
          label_is = ap (part c (offset n u)) (sym (sized u h)) ∙ part-sets-first (L u) (F (message L u)) card (offset n u) room;
        }

    stamp-keeps : (w : ℕ) → IsNode n w → (w ≡ u → ⊥) → Alike n (stamp F n L card u) card w
    unfolding label tag
    stamp-keeps w hw d =
        let x = L u ++ F (message L u) in
        let l = entry_length u h in
        record {
          label_same =
              part-sets-apart x card (offset n u) (offset n w) (size n w)
              (⊎_elim (λ (p : offset n w + (size n w + 16) ≤ offset n u). inl (omega arith))
              (λ (q : offset n u + (size n u + 16) ≤ offset n w). inr (omega arith)) (entry-apart n w u hw h d));
          tag_same =
              part-sets-apart x card (offset n u) (offset n w + size n w) 16
              (⊎_elim (λ (p : offset n w + (size n w + 16) ≤ offset n u). inl (omega arith))
              (λ (q : offset n u + (size n u + 16) ≤ offset n w). inr (omega arith)) (entry-apart n w u hw h d));
        }

  stamp-byte : (card : List ℕ) → length card ≡ card_length n → (u : ℕ) → IsNode n u → (j x : ℕ) → Leaves n L u j x → at card j ≡ x
      → at (stamp F n L card u) j ≡ x
  stamp-byte card full u h j x (inl o) e =
      let l = entry_length u h in
      at-sets-apart (L u ++ F (message L u)) card (offset n u) j
      (⊎_elim (λ (p : j < offset n u). inl p) (λ (q : offset n u + (size n u + 16) ≤ j). inr (omega arith)) o) ∙ e
  stamp-byte card full u h j x (inr p) e =
      let l = sized u h in
      ap (at (stamp F n L card u)) p.is
      ∙ at-sets-first (L u) (F (message L u)) card (offset n u) (room card full u h) p.place (omega (arith, p.below)) ∙ p.puts

  -- a stamped node is shown as stamped
  pub stamped-shows : (us : List ℕ) → AllNodes n us → (card : List ℕ) → length card ≡ card_length n
      → (u : ℕ) → IsNode n u → Shows card u ⊎ Memᴰ u us → Shows (stamped F n L us card) u
  unfolding stamped put_each
  stamped-shows [] nodes card full u h (inl s) = s
  stamped-shows [] nodes card full u h (inr m) = absurd (Memᴰ.not-nil m)
  stamped-shows (w ∷ us) nodes card full u h o =
      stamped-shows us (λ v m. nodes v (Memᴰ.tail m)) (stamp F n L card w)
      (length-stamp F n L card w ∙ full) u h (go (equal_or_not u w) o)
    where
      hw : IsNode n w
      hw = nodes w (Memᴰ.head refl)

      go : (u ≡ w) ⊎ (u ≡ w → ⊥) → Shows card u ⊎ Memᴰ u (w ∷ us) → Shows (stamp F n L card w) u ⊎ Memᴰ u us
      go (inl e) o = inl (subst (λ (v : ℕ). Shows (stamp F n L card w) v) (sym e) (stamp-shows card full w hw))
      go (inr d) (inl s) =
          let k = stamp-keeps card full w hw u h d in
          inl (record { label_is = k.label_same ∙ s.label_is; tag_is = k.tag_same ∙ s.tag_is })
      go (inr d) (inr m) = ⊎_elim (λ (e : u ≡ w). absurd (d e)) (λ (t : Memᴰ u us). inr t) (Memᴰ.cases_cons m)

  -- a byte that every stamp leaves, or puts again
  pub stamped-byte : (us : List ℕ) → AllNodes n us → (card : List ℕ) → length card ≡ card_length n
      → (j x : ℕ) → ((w : ℕ) → Memᴰ w us → Leaves n L w j x) → at card j ≡ x → at (stamped F n L us card) j ≡ x
  unfolding stamped put_each
  stamped-byte [] nodes card full j x f e = e
  stamped-byte (w ∷ us) nodes card full j x f e =
      stamped-byte us (λ v m. nodes v (Memᴰ.tail m)) (stamp F n L card w)
      (length-stamp F n L card w ∙ full) j x (λ v m. f v (Memᴰ.tail m))
      (stamp-byte card full w (nodes w (Memᴰ.head refl)) j x (f w (Memᴰ.head refl)) e)

  -- any other is shown as before
  pub stamped-keeps : (us : List ℕ) → AllNodes n us → (card : List ℕ) → length card ≡ card_length n
      → (u : ℕ) → IsNode n u → (Memᴰ u us → ⊥) → Alike n (stamped F n L us card) card u
  unfolding stamped put_each
  stamped-keeps [] nodes card full u h o = record { label_same = refl; tag_same = refl }
  stamped-keeps (w ∷ us) nodes card full u h o =
      alike-trans
      (stamped-keeps us (λ v m. nodes v (Memᴰ.tail m)) (stamp F n L card w)
      (length-stamp F n L card w ∙ full) u h (λ m. o (Memᴰ.tail m)))
      (stamp-keeps card full w (nodes w (Memᴰ.head refl)) u h (λ e. o (Memᴰ.head e)))
