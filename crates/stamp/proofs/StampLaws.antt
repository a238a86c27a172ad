-- Entries put on a card, one after another.
use mathlib.Core.Path.{◌≡◌, sym, ap, ap₂, subst, ◌∙◌}
use mathlib.Core.List.Memᴰ
use mathlib.Core.List.{List, [], ◌∷◌, ◌++◌, Memᴰ}
use mathlib.Core.Logic.{⊎_elim}
use Prim.Native.Nat.{ℕ, suc, ◌+◌, ◌*◌, ◌-◌, ◌/◌, ◌%◌, ◌^◌, ◌<◌, ◌≤◌}
use native.Mathlib.Nat.{add-zero, eq-or-lt_of_le, pow-suc}
use native.Mathlib.Numerals.{add-one}
use native.Mathlib.Omega.{arith}
use borrow.Author.Tests.{lt-ltb, le-ltb}
use lib.ListN.{length, replicate}
use lib.Pow.{pow_mono}
use lib.Seq.{sets}
use Rattle.words.specs.Bytes.{part}
use Rattle.words.proofs.Stores.{sets-append}
use Rattle.words.proofs.Cases.{below_or_not}
use Rattle.words.specs.Words.{bytes}
use Rattle.cmac.specs.Context.{count_by}
use Rattle.cmac.specs.declared.Context.{Context}
use Rattle.tree.specs.Numbers.{be8}
use Rattle.tree.specs.declared.path.Path.{Path}
use Rattle.tree.specs.Layout.{IsNode, IsCard, size, offset, label}
use Rattle.tree.specs.Nodes.{up_to, path_node, sibling, pair, pairs}
use Rattle.tree.specs.Labels.{Labels, form, message, labels, nonce_or_block, blank_labels, new_labels}
use Rattle.tree.specs.Card.{put_each, stamp, stamped}
use Rattle.tree.proofs.ByteLaws.{length-be, part-sets-second, sets-there}
use Rattle.tree.proofs.LayoutLaws.{AllNodes, inner, leaf, size_low, length_label, entry-on}
use Rattle.tree.proofs.NodeLaws.{Off, among, is_among, sibling-half, path-leaf, path_parent, path-level}
use Rattle.tree.proofs.NodeLaws.{path-node, path-distinct, pair-parent, pair-node, child-off, twin-node}
use Rattle.tree.proofs.LabelLaws.{Sized, labels-below, labels-sized, new-path, new-leaf, new-off, new-sized}
use Rattle.tree.proofs.CardLaws.{length-stamped, stamped-append, stamped-more, stamped-keeps}
use Rattle.tree.proofs.CountLaws.{length-form}
use Rattle.card.proofs.WalkLaws.{few-calls}

-- Stores

-- putting y behind x where x is there puts both
sets_behind : (x y c : List ℕ) (o : ℕ) → o + length x ≤ length c → part c o (length x) ≡ x → sets c (o + length x) y ≡ sets c o (x ++ y)
sets_behind x y c o h e = sym (sets-append c o x y ∙ ap (λ (l : List ℕ). sets l (o + length x) y) (sets-there x c o h e))

-- The label of a node, a nonce or a block

module _ (n t : ℕ) (b : List ℕ) (u : ℕ) where
  pub put-inner : u < 2 ^ n → nonce_or_block n t b u ≡ be8 t
  put-inner h = rw (lt-ltb u (2 ^ n) h)

  pub put-leaf : 2 ^ n ≤ u → nonce_or_block n t b u ≡ b
  put-leaf h = rw (le-ltb u (2 ^ n) h)

  pub put-sized : length b ≡ 64 → length (nonce_or_block n t b u) ≡ size n u
  put-sized e =
      ⊎_elim (λ (l : u < 2 ^ n). ap length (put-inner l) ∙ length-be 8 t ∙ sym (inner n u l).size_is)
      (λ (g : 2 ^ n ≤ u). ap length (put-leaf g) ∙ e ∙ sym (leaf n u g).size_is)
      (below_or_not u (2 ^ n))

-- Few calls

-- the message of a label that is no longer than a block takes at most five calls
few-form : (c : Context) (x : List ℕ) (p s k : ℕ) → length x ≤ 64 → k ≡ count_by c (form x (bytes 8 p) s) → k ≤ 5
few-form c x p s k h e = few-calls c (form x (bytes 8 p) s) k e (omega (arith, length-form x (bytes 8 p) s))

pub few-put : (c : Context) (n t : ℕ) (b : List ℕ) (u p s k : ℕ) → length b ≡ 64
    → k ≡ count_by c (form (nonce_or_block n t b u) (bytes 8 p) s) → k ≤ 5
few-put c n t b u p s k h e = few-form c (nonce_or_block n t b u) p s k (omega (arith, put-sized n t b u h, size_low n u)) e

pub few-label : (c : Context) {n : ℕ} {card : List ℕ} (u p s k : ℕ) → IsCard n card → IsNode n u
    → k ≡ count_by c (form (label n card u) (bytes 8 p) s) → k ≤ 5
few-label c {n} {card} u p s k d h e = few-form c (label n card u) p s k (omega (arith, length_label n card u d.full h, size_low n u)) e

-- Nodes of a path

-- the node of the next level
pub on_path : (p : Path) (y u : ℕ) → y < p.depth.levels → u ≡ path_node p.depth.levels p.index.0 (y + 1) → IsNode p.depth.levels u
on_path p y u h e =
    let n = p.depth.levels in
    subst (λ (w : ℕ). IsNode n w) (sym e) (path-node n p.index.0 p.on_card (y + 1) (omega arith) (omega arith))

-- a node's sibling
pub beside : (n u v : ℕ) → v ≡ sibling u → IsNode n u → IsNode n v
beside n u v e h = twin-node n u v (ap (λ (w : ℕ). w / 2) e ∙ sibling-half u) h

-- One entry

pub same-card : {n : ℕ} {card : List ℕ} (c : List ℕ) → length c ≡ length card → IsCard n card → IsCard n c
same-card c e d = record { deep = d.deep; shallow = d.shallow; full = e ∙ d.full }

module _ (n : ℕ) (card : List ℕ) (u : ℕ) (d : IsCard n card) (h : IsNode n u) where
  label-put : (x : List ℕ) → length x ≡ size n u → label n (sets card (offset n u) x) u ≡ x
  unfolding label
  label-put x e =
      let o = offset n u in
      ap₂ (part (sets card o x)) (sym (add-zero o)) (sym e) ∙ part-sets-second [] x card o (omega (arith, entry-on n card u d h))

  pub label_is : (x c : List ℕ) → length x ≡ size n u → c ≡ sets card (offset n u) x → label n c u ≡ x
  label_is x c e q = ap (λ (l : List ℕ). label n l u) q ∙ label-put x e

  -- the label, and then the tag of the label that is there
  pub entry-put : (F : List ℕ → List ℕ) (x p c : List ℕ) → length x ≡ size n u → c ≡ sets card (offset n u) x
      → sets c (offset n u + size n u) (F (form (label n c u) p (u % 2))) ≡ sets card (offset n u) (x ++ F (form x p (u % 2)))
  entry-put F x p c e q =
      let o = offset n u in
      let z = F (form x p (u % 2)) in
      ap₂ (λ (l y : List ℕ). sets l (o + size n u) (F (form y p (u % 2)))) q (label_is x c e q)
      ∙ ap (λ (k : ℕ). sets (sets card o x) (o + k) z) (sym e) ∙ sym (sets-append card o x z)

  -- the tag alone, where the label is there
  tag-put : (F : List ℕ → List ℕ) (x p : List ℕ) → label n card u ≡ x → length x ≡ size n u
      → sets card (offset n u + size n u) (F (form (label n card u) p (u % 2))) ≡ sets card (offset n u) (x ++ F (form x p (u % 2)))
  unfolding label
  tag-put F x p q e =
      let o = offset n u in
      let z = F (form x p (u % 2)) in
      ap₂ (λ (k : ℕ) (y : List ℕ). sets card (o + k) (F (form y p (u % 2)))) (sym e) q
      ∙ sets_behind x z card o (omega (arith, entry-on n card u d h)) (ap (part card o) e ∙ q)

-- Many entries

-- the message of a node of a blank card, whose parent is the root or an inner node
pub blank-message : (n t u : ℕ) (p : List ℕ) → u < 2 * 2 ^ n → p ≡ be8 t
    → form (nonce_or_block n t (replicate 64 0) u) p (u % 2) ≡ message (blank_labels n t) u
unfolding blank_labels
blank-message n t u p h e =
    ap (λ (s : List ℕ). form (nonce_or_block n t (replicate 64 0) u) s (u % 2))
    (e ∙ sym (put-inner n t (replicate 64 0) (u / 2) (omega arith)))

-- a blank card: one node more
pub blank-more : (F : List ℕ → List ℕ) (n t y u : ℕ) (card c p : List ℕ) → u ≡ y + 1 + 1 → u < 2 * 2 ^ n → p ≡ be8 t
    → c ≡ stamped F n (blank_labels n t) (up_to y (λ z. (z + 1) ∷ [])) card
    → let x = nonce_or_block n t (replicate 64 0) u in
    sets c (offset n u) (x ++ F (form x p (u % 2))) ≡ stamped F n (blank_labels n t) (up_to (y + 1) (λ z. (z + 1) ∷ [])) card
unfolding stamped put_each blank_labels
blank-more F n t y u card c p d h e q =
    let x = nonce_or_block n t (replicate 64 0) u in
    let L = blank_labels n t in
    ap₂ (λ (l m : List ℕ). sets l (offset n u) (x ++ F m)) q (blank-message n t u p h e)
    ∙ ap (λ (w : ℕ). stamp F n L (stamped F n L (up_to y (λ z. (z + 1) ∷ [])) card) w) d
    ∙ sym (stamped-more F n L y (λ z. (z + 1) ∷ []) card)

-- A write: level y + 1, its node u on the path, and u's sibling v

module _ (n i : ℕ) (inside : i < 2 ^ n) (y u v : ℕ) (h : y < n) (on : u ≡ path_node n i (y + 1)) (twin : v ≡ sibling u) where
  on-next : u ≡ path_node n i (suc y)
  on-next = on ∙ ap (path_node n i) (add-one y)

  u-parent : u / 2 ≡ path_node n i y
  u-parent = ap (λ (w : ℕ). w / 2) on-next ∙ path_parent n i inside y h

  v-half : v / 2 ≡ u / 2
  v-half = ap (λ (w : ℕ). w / 2) twin ∙ sibling-half u

  v-other : v ≡ u → ⊥
  unfolding sibling
  v-other e = omega (arith, twin)

  pub u-node : IsNode n u
  u-node = subst (λ (w : ℕ). IsNode n w) (sym on) (path-node n i inside (y + 1) (omega arith) (omega arith))

  pub v-node : IsNode n v
  v-node = twin-node n u v v-half u-node

  v-off : Off n i inside n v
  v-off =
      child-off n i inside v (record { level = y; high = h; is = v-half ∙ u-parent })
      (λ (e : v ≡ path_node n i (suc y)). v-other (e ∙ sym on-next))

  -- the nodes before v, and v is none of them
  first-nodes : AllNodes n (up_to y (pair n i) ++ (u ∷ []))
  unfolding pairs
  first-nodes w m =
      ⊎_elim
      (λ (p : Memᴰ w (up_to y (pair n i))).
      let a = among y (pair n i) w p in
      pair-node n i inside w
      (is_among n (pair n i) w (record { level = a.level; low = a.low; high = omega (arith, a.high); here = a.here })))
      (λ (p : Memᴰ w (u ∷ [])). subst (λ (z : ℕ). IsNode n z) (sym (Memᴰ.eq_of_singleton p)) u-node)
      (Memᴰ.append_cases (up_to y (pair n i)) m)

  v-later : Memᴰ v (up_to y (pair n i) ++ (u ∷ [])) → ⊥
  v-later m =
      ⊎_elim
      (λ (p : Memᴰ v (up_to y (pair n i))).
      let a = among y (pair n i) v p in
      let e : suc (a.level - 1) ≡ a.level = omega (arith, a.low) in
      let q = pair-parent n i inside v (a.level - 1) (subst (λ (z : ℕ). Memᴰ v (pair n i z)) (sym e) a.here)
      (omega (arith, a.high)) in
      let k = path-distinct n i inside (a.level - 1) y (omega (arith, a.high)) (omega arith) (sym q ∙ v-half ∙ u-parent) in
      omega (arith, a.low, a.high))
      (λ (p : Memᴰ v (u ∷ [])). v-other (Memᴰ.eq_of_singleton p))
      (Memᴰ.append_cases (up_to y (pair n i)) m)

  module _ (new : ℕ) (b : List ℕ) (low : n ≤ new) (M : Labels) where
    abbrev N : Labels
    N = new_labels n (new - n) i b M

    pub u-label : nonce_or_block n (new - y - 1) b u ≡ new_labels n (new - n) i b M u
    u-label =
        let g : y + 1 ≤ n = omega arith in
        ⊎_elim
        (λ (e : y + 1 ≡ n).
        let q : u ≡ 2 ^ n + i = on ∙ ap (path_node n i) e ∙ path-leaf n i inside in
        put-leaf n (new - y - 1) b u (omega arith) ∙ sym (ap N q ∙ new-leaf n (new - n) i b inside M))
        (λ (l : y + 1 < n).
        let k = path-level n i inside (y + 1) (omega arith) in
        let p : 2 ^ suc (y + 1) ≤ 2 ^ n = pow_mono l in
        let q = pow-suc 2 (y + 1) in
        let e : new - n + n - (y + 1) ≡ new - y - 1 = omega arith in
        put-inner n (new - y - 1) b u (omega (arith, k)) ∙ sym (ap N on ∙ new-path n (new - n) i b inside M (y + 1) l ∙ ap be8 e))
        (eq-or-lt_of_le g)

    parent-label : (w : ℕ) → w / 2 ≡ path_node n i y → be8 (new - y) ≡ new_labels n (new - n) i b M (w / 2)
    parent-label w q =
        let e : new - n + n - y ≡ new - y = omega arith in
        sym (ap N q ∙ new-path n (new - n) i b inside M y h ∙ ap be8 e)

  module _ (F : List ℕ → List ℕ) (F16 : (m : List ℕ) → length (F m) ≡ 16) (new r : ℕ) (b card : List ℕ) (low : n ≤ new)
      (long : length b ≡ 64)
      (d : IsCard n card) where
    abbrev L : Labels
    L = new_labels n (new - n) i b (labels n r card)

    sized : Sized n (new_labels n (new - n) i b (labels n r card))
    sized = new-sized n (new - n) i b inside (labels n r card) long (labels-sized n r card d.full)

    v-label : (c : List ℕ) → c ≡ stamped F n L (up_to y (pair n i) ++ (u ∷ [])) card → label n c v ≡ L v
    v-label c e =
        ap (λ (l : List ℕ). label n l v) e
        ∙ (stamped-keeps F F16 n L sized (up_to y (pair n i) ++ (u ∷ [])) first-nodes card d.full v v-node v-later).label_same
        ∙ sym (new-off n (new - n) i b inside (labels n r card) v v-off ∙ labels-below n r card v v-node.low)

    -- the card with both entries, and their messages: c has the levels above, c1 the entry of u too
    pub record Pair (p c1 : List ℕ) : Type 0 where
      pub put : sets c1 (offset n v + size n v) (F (form (label n c1 v) p (v % 2))) ≡ stamped F n L (up_to (y + 1) (pair n i)) card
      pub own : form (nonce_or_block n (new - y - 1) b u) p (u % 2) ≡ message L (path_node n i (y + 1))
      pub other : form (label n c1 v) p (v % 2) ≡ message L (sibling (path_node n i (y + 1)))

    pub write-more : (p c c1 : List ℕ) → p ≡ be8 (new - y) → c ≡ stamped F n L (up_to y (pair n i)) card
        → let x = nonce_or_block n (new - y - 1) b u in
        c1 ≡ sets c (offset n u) (x ++ F (form x p (u % 2))) → Pair p c1
    unfolding stamped put_each
    write-more p c c1 q e e1 =
        let c0 = stamped F n L (up_to y (pair n i)) card in
        let x = nonce_or_block n (new - y - 1) b u in
        let M = labels n r card in
        let pu : p ≡ L (u / 2) = q ∙ parent-label new b low M u u-parent in
        let pv : p ≡ L (v / 2) = q ∙ parent-label new b low M v (v-half ∙ u-parent) in
        let s1 : c1 ≡ stamp F n L c0 u =
        e1 ∙ ap (λ (l : List ℕ). sets l (offset n u) (x ++ F (form x p (u % 2)))) e
        ∙ ap₂ (λ (z s : List ℕ). sets c0 (offset n u) (z ++ F (form z s (u % 2)))) (u-label new b low M) pu in
        let s2 : c1 ≡ stamped F n L (up_to y (pair n i) ++ (u ∷ [])) card =
        s1 ∙ sym (stamped-append F n L (up_to y (pair n i)) (u ∷ []) card) in
        let d1 : IsCard n c1 = same-card c1 (ap length s2 ∙ length-stamped F n L (up_to y (pair n i) ++ (u ∷ [])) card) d in
        record {
          put =
              tag-put n c1 v d1 v-node F (L v) p (v-label c1 s2) (sized v v-node)
              ∙ ap₂ (λ (l s : List ℕ). sets l (offset n v) (L v ++ F (form (L v) s (v % 2)))) s1 pv
              ∙ ap (λ (us : List ℕ). stamped F n L us c0) (ap₂ (λ (a z : ℕ). a ∷ z ∷ []) on (twin ∙ ap sibling on))
              ∙ sym (stamped-more F n L y (pair n i) card);
          own = ap₂ (λ (z s : List ℕ). form z s (u % 2)) (u-label new b low M) pu ∙ ap (message L) on;
          other = ap₂ (λ (z s : List ℕ). form z s (v % 2)) (v-label c1 s2) pv ∙ ap (message L) (twin ∙ ap sibling on);
        }
