-- What the tagged messages say of a card whose checked messages are among them.
use mathlib.Core.Path.{◌≡◌, refl, sym, ap, ◌∙◌}
use mathlib.Core.List.Memᴰ
use mathlib.Core.List.{List, [], ◌++◌, map, Memᴰ}
use mathlib.Core.Logic.{◌⊎◌, ⊎_elim}
use Prim.Native.Nat.{ℕ, zero, suc, ◌+◌, ◌/◌, ◌^◌, ◌<◌, ◌≤◌}
use native.Mathlib.Omega.{arith}
use borrow.Author.Tests.{eq-eqb, ne_eqb}
use lib.ListN.{length, set, replicate, get_or-replicate, length-replicate, length-set}
use lib.Seq.{get_or-set_same, get_or-set_other}
use lib.Pow.{pow_mono}
use Rattle.words.proofs.Cases.{below_or_not, equal_or_not}
use Rattle.tree.specs.Numbers.{be8}
use Rattle.tree.specs.Layout.{IsNode, size, card_length, label}
use Rattle.tree.proofs.LayoutLaws.{inner, leaf}
use Rattle.tree.proofs.CountLaws.{length-form}
use Rattle.tree.specs.Nodes.{path_node, pairs, all_nodes}
use Rattle.tree.specs.Labels.{Labels, message, labels, blank_labels, new_labels}
use Rattle.tree.specs.Card.{blanked}
use Rattle.tree.proofs.NodeLaws.{path-root, path-leaf, path_parent, path-node, Off, Child, pairs-child, child-pairs, child-node}
use Rattle.tree.proofs.NodeLaws.{path-pairs, inner-not-leaf, among-node}
use Rattle.tree.proofs.LabelLaws.{Sized, message-same, labels-root, labels-below, labels-sized, blank-root, blank-leaf, blank-sized}
use Rattle.tree.proofs.LabelLaws.{new-root, new-same, new-sized, new-block}
use Rattle.tree.proofs.WriteLaws.{blanked-message}
use Rattle.replay.specs.Array.{Array, zeroed, block_at}
use Rattle.replay.specs.Tagged.{WriteTags}
use Rattle.replay.proofs.Core.{Event, Below, AllBelow, AllVouch, AllNonced, Vouches, Says, Foreign, foreign-below, foreign-vouches, raise, down}
use Rattle.replay.proofs.Core.{says-below, says-apart, event-old, event-new, renewed-old, event-nonced}
use Rattle.replay.proofs.Events.{frame, blank-nonced, blank-event, child-nonced, write-event}

-- The messages M, with nonces below H, vouch for labels whose root nonce is t and whose blocks are the array's.
pub record Backs (n H : ℕ) (M : List (List ℕ)) (t : ℕ) (array : Array) : Type 0 where
  pub ideal : Labels
  pub root : ideal 1 ≡ be8 t
  pub vouch : AllVouch (frame n) H ideal M
  pub nonced : AllNonced (frame n) H ideal
  pub sized : Sized n ideal
  pub count : length array ≡ 2 ^ n
  pub blocks : (i : ℕ) → i < 2 ^ n → ideal (2 ^ n + i) ≡ block_at array i

-- of the messages N and M
both : (P : List ℕ → Type 0) (N M : List (List ℕ)) → ((m : List ℕ) → Memᴰ m N → P m) → ((m : List ℕ) → Memᴰ m M → P m)
    → (m : List ℕ) → Memᴰ m (N ++ M) → P m
both P N M f g m h = ⊎_elim (λ (p : Memᴰ m N). f m p) (λ (q : Memᴰ m M). g m q) (Memᴰ.append_cases N h)

-- no label has more than 64 bytes
size-most : (n v : ℕ) → size n v ≤ 64
size-most n v =
    ⊎_elim (λ (l : v < 2 ^ n). omega (arith, inner n v l)) (λ (g : 2 ^ n ≤ v). omega (arith, leaf n v g)) (below_or_not v (2 ^ n))

-- a message of more than 73 bytes is no node's
long-foreign : (n : ℕ) (m : List ℕ) → 73 < length m → Foreign (frame n) m
long-foreign n m l v x p s node sized eight e =
    absurd (omega (arith, ap length e, length-form x p s, sized, eight, size-most n v, l))

-- After a format or a wipe at the nonce t

module _ (F : List ℕ → List ℕ) (F16 : (m : List ℕ) → length (F m) ≡ 16) (n : ℕ) (deep : 1 ≤ n) (t : ℕ) (small : t < 2 ^ 64) (card : List ℕ)
    (full : length card ≡ card_length n) (M : List (List ℕ)) (old : AllBelow (frame n) t M) where
  abbrev blank : List (List ℕ)
  blank = map (message (labels n t (blanked F n t card))) (all_nodes n)

  blank-says : (m : List ℕ) → Memᴰ m (map (message (labels n t (blanked F n t card))) (all_nodes n))
      → Says (frame n) t (suc t) (blank_labels n t) m
  blank-says m h =
      let k = Memᴰ.of_map (message (labels n t (blanked F n t card))) (all_nodes n) h in
      let node = among-node n k.0 k.1 in
      record {
        node = k.0;
        is-node = node;
        fresh = blank-nonced n t k.0 node;
        is = sym k.2 ∙ blanked-message F F16 n deep t card full k.0 node;
      }

  -- whatever older messages said, if their nonces are below t
  pub blank-backs : Backs n (suc t) (map (message (labels n t (blanked F n t card))) (all_nodes n) ++ M) t (zeroed (2 ^ n))
  unfolding zeroed
  blank-backs =
      let I = blank_labels n t in
      let ev = blank-event n t I small in
      record {
        ideal = I;
        root = blank-root n t deep;
        vouch = both (Vouches (frame n) (suc t) I) blank M (λ m h. event-new (frame n) ev (blank-says m h))
            (λ m h. renewed-old (frame n) ev (blank-nonced n t) (old m h));
        nonced = event-nonced (frame n) ev;
        sized = blank-sized n t;
        count = length-replicate (2 ^ n) (replicate 64 0);
        blocks = λ i h. blank-leaf n t (2 ^ n + i) (omega arith) ∙ sym (get_or-replicate (2 ^ n) i (replicate 64 0) [] h);
      }

-- A card of the right length, read with the root nonce t

module _ {n H : ℕ} {M : List (List ℕ)} {t : ℕ} {array : Array} (p : Backs n H M t array) (card : List ℕ)
    (full : length card ≡ card_length n) where
  abbrev C : Labels
  C = labels n t card

  abbrev I : Labels
  I = p.ideal

  -- the message of w as the card shows it
  abbrev Tagged : ℕ → Type 0
  Tagged w = Memᴰ (message (labels n t card) w) M

  step : (v : ℕ) → IsNode n v → C (v / 2) ≡ I (v / 2) → Tagged v → C v ≡ I v
  step v h parent m = down (frame n) C v (p.vouch (message C v) m) h (labels-sized n t card full v h) parent

  module _ (i : ℕ) (inside : i < 2 ^ n) where
    -- down the path
    line : (k : ℕ) → k ≤ n → ((y : ℕ) → 1 ≤ y → y ≤ k → Tagged (path_node n i y)) → C (path_node n i k) ≡ I (path_node n i k)
    line zero h f =
        let e = path-root n i inside in
        ap C e ∙ labels-root n t card ∙ sym p.root ∙ ap I (sym e)
    line (suc k) h f =
        let e = path_parent n i inside k h in
        step (path_node n i (suc k)) (path-node n i inside (suc k) (omega arith) h)
        (ap C e ∙ line k (omega arith) (λ y l g. f y l (omega arith)) ∙ ap I (sym e)) (f (suc k) (omega arith) (omega arith))

    pub read_same : ((y : ℕ) → 1 ≤ y → y ≤ n → Tagged (path_node n i y)) → 1 ≤ n → label n card (2 ^ n + i) ≡ block_at array i
    read_same all deep =
        let e = path-leaf n i inside in
        let two : 2 ^ 1 ≤ 2 ^ n = pow_mono deep in
        sym (labels-below n t card (2 ^ n + i) (omega arith)) ∙ ap C (sym e) ∙ line n (omega arith) all ∙ ap I e ∙ p.blocks i inside

    -- what a write keeps of its pairs
    write_keeps : ((w : ℕ) → Memᴰ w (pairs n i) → (w ≡ 2 ^ n + i → ⊥) → Tagged w) → (w : ℕ) → Memᴰ w (pairs n i)
        → (w ≡ 2 ^ n + i → ⊥) → C w ≡ I w
    write_keeps all w m d =
        let c = pairs-child n i inside w m in
        let l = c.high in
        step w (child-node n i inside w c)
        (ap C c.is
        ∙ line c.level (omega arith)
        (λ y h g. all (path_node n i y) (path-pairs n i inside y h (omega arith)) (inner-not-leaf n i inside y (omega arith)))
        ∙ ap I (sym c.is))
        (all w m d)

  pub check-same : ((w : ℕ) → IsNode n w → Tagged w) → 1 ≤ n → (i : ℕ) → i < 2 ^ n → label n card (2 ^ n + i) ≡ block_at array i
  check-same all deep i inside = read_same i inside (λ y h l. all (path_node n i y) (path-node n i inside y h l)) deep

-- After a write: t is the root nonce that the card was read with, r the last nonce used, and new the messages that it tags

module _ (n : ℕ) (deep : 1 ≤ n) (t r : ℕ) (card : List ℕ) (full : length card ≡ card_length n) (i : ℕ) (inside : i < 2 ^ n) (b : List ℕ)
    (long : length b ≡ 64) (new : List (List ℕ))
    (named : (m : List ℕ) → Memᴰ m new → WriteTags n t r card i b m ⊎ (73 < length m)) where
  -- where labels agree with the card's off the path, the write's messages are those of the same write on them
  says-under : (J : Labels) → ((w : ℕ) → Memᴰ w (pairs n i) → Off n i inside n w → labels n t card w ≡ J w)
      → (m : List ℕ) → WriteTags n t r card i b m → Says (frame n) (suc r) (suc (r + n)) (new_labels n r i b J) m
  says-under J keeps m k =
      let w = k.node in
      let c : Child n i inside w = record { level = k.level; high = k.high; is = k.child } in
      let L = labels n t card in
      record {
        node = w;
        is-node = child-node n i inside w c;
        fresh = child-nonced n r i b inside J w c;
        is = k.is
            ∙ message-same (new_labels n r i b L) (new_labels n r i b J) w
            (new-same n r i b inside L J w (keeps w (child-pairs n i inside w c)))
            (new-same n r i b inside L J (w / 2) (λ f. absurd (f c.level (omega (arith, c.high)) c.is)));
      }

  -- whatever the card showed, they have nonces up to the new one
  pub write-below : {M : List (List ℕ)} → r + n < 2 ^ 64 → AllBelow (frame n) (suc r) M → AllBelow (frame n) (suc (r + n)) (new ++ M)
  write-below {M} unspent old =
      both (Below (frame n) (suc (r + n))) new M
      (λ m h.
      ⊎_elim (λ (k : WriteTags n t r card i b m). says-below (frame n) (says-under (labels n t card) (λ w k f. refl) m k) (omega arith))
      (λ (l : 73 < length m). foreign-below (frame n) (long-foreign n m l))
      (named m h))
      (λ m h. raise (frame n) {m = m} (omega arith) (old m h))

  -- A lost write's messages say nothing of labels under older nonces, whatever the card showed.
  pub lost-backs : {M : List (List ℕ)} {u : ℕ} {array : Array} → Backs n (suc r) M u array → r + n < 2 ^ 64
      → Backs n (suc (r + n)) (new ++ M) u array
  lost-backs {M} p unspent =
      record {
        ideal = p.ideal;
        root = p.root;
        vouch = both (Vouches (frame n) (suc (r + n)) p.ideal) new M
            (λ m h.
            ⊎_elim
            (λ (k : WriteTags n t r card i b m).
            says-apart (frame n) p.nonced (says-under (labels n t card) (λ w k f. refl) m k) (omega arith))
            (λ (l : 73 < length m). foreign-vouches (frame n) p.nonced (long-foreign n m l)) (named m h))
            (λ m h. record { fits = (p.vouch m h).fits; below = raise (frame n) {m = m} (omega arith) (p.vouch m h).below });
        nonced = λ v h. let o = p.nonced v h in record { nonce = o.nonce; is = o.is; low = o.low; high = omega (arith, o.high) };
        sized = p.sized;
        count = p.count;
        blocks = p.blocks;
      }

  pub write-backs : {M : List (List ℕ)} {array : Array} → Backs n (suc r) M t array → r + n < 2 ^ 64
      → ((w : ℕ) → Memᴰ w (pairs n i) → (w ≡ 2 ^ n + i → ⊥) → Memᴰ (message (labels n t card) w) M)
      → Backs n (suc (r + n)) (new ++ M) (r + n) (set array i b)
  write-backs {M} {array} p unspent all =
      record {
        ideal = new_labels n r i b I₀;
        root = new-root n r i b inside I₀ deep;
        vouch = both (Vouches (frame n) (suc (r + n)) (new_labels n r i b I₀)) new M
            (λ m h.
            ⊎_elim (λ (k : WriteTags n t r card i b m). event-new (frame n) ev (says-under I₀ keeps m k))
            (λ (l : 73 < length m). foreign-vouches (frame n) (event-nonced (frame n) ev) (long-foreign n m l)) (named m h))
            (λ m h. event-old (frame n) ev (p.vouch m h));
        nonced = event-nonced (frame n) ev;
        sized = new-sized n r i b inside I₀ long p.sized;
        count = length-set array i b ∙ p.count;
        blocks = blocks;
      }
    where
      I₀ : Labels
      I₀ = p.ideal

      ev : Event (frame n) (suc r) (suc (r + n)) I₀ (new_labels n r i b I₀)
      ev = write-event n r i b inside I₀ unspent long p.sized p.nonced

      keeps : (w : ℕ) → Memᴰ w (pairs n i) → Off n i inside n w → labels n t card w ≡ I₀ w
      keeps w m f =
          write_keeps p card full i inside all w m (λ e. f n (omega arith) (e ∙ sym (path-leaf n i inside)))

      blocks : (j : ℕ) → j < 2 ^ n → new_labels n r i b I₀ (2 ^ n + j) ≡ block_at (set array i b) j
      blocks j h =
          new-block n r i b inside I₀ j
          ∙ ⊎_elim
          (λ (e : j ≡ i).
          rw (eq-eqb j i e) (sym (ap (block_at (set array i b)) e ∙ get_or-set_same array i b [] (omega (arith, p.count)))))
          (λ (d : j ≡ i → ⊥). rw (ne_eqb j i d) (p.blocks j h ∙ sym (get_or-set_other array i j b [] d)))
          (equal_or_not j i)
