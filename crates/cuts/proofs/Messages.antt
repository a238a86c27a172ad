-- Which messages of journals are tagged: none has a root nonce above the reserved one, and one with the root nonce of now is that of the
-- write that left the card.
use mathlib.Core.Path.{◌≡◌, sym, ap, subst, ◌∙◌}
use mathlib.Core.List.Memᴰ
use mathlib.Core.List.{List, ◌++◌, map, Memᴰ}
use mathlib.Core.Logic.{◌⊎◌, inl, inr, ⊎_elim}
use Prim.Native.Nat.{ℕ, ◌+◌, ◌^◌, ◌<◌, ◌≤◌}
use native.Mathlib.Omega.{arith}
use lib.ListN.{length, take}
use lib.Seq.{take_at}
use Rattle.tree.specs.Numbers.{be8}
use Rattle.tree.specs.Layout.{IsNode}
use Rattle.tree.specs.Labels.{Labels, message, labels, blank_labels, new_labels}
use Rattle.tree.specs.Nodes.{all_nodes}
use Rattle.tree.specs.Card.{blanked}
use Rattle.tree.specs.Calls.{Call, write, wipe}
use Rattle.tree.specs.declared.Anchor.{Anchor}
use Rattle.tree.proofs.ByteLaws.{length-be, be-inj}
use Rattle.tree.proofs.LayoutLaws.{size_low}
use Rattle.tree.proofs.LabelLaws.{Sized, labels-sized, blank-sized, blank-root, new-sized, new-root}
use Rattle.tree.proofs.NodeLaws.{Child, child-node}
use Rattle.tree.proofs.CountLaws.{length-message}
use Rattle.tree.proofs.LimitLaws.{Writes}
use Rattle.tree.proofs.CallLaws.{accepted}
use Rattle.journal.specs.Journal.{message_length, journal_message}
use Rattle.replay.specs.Run.{lost, stood, unheard, Step, call, split, attempt, card_of, call_of, State, next}
use Rattle.replay.specs.Claim.{Complete, Untouched}
use Rattle.replay.specs.Tagged.{BlankTags, WriteTags, CallTags, JournalTags, StepTags}
use Rattle.replay.proofs.Moves.{Tags, Move, still, wrote-block, lost-block, wiped-card, move}
use Rattle.replay.proofs.Since.{named_blank}

-- m is as long as a journal's message, and begins with the root nonce t
pub record IsJournal (n t : ℕ) (m : List ℕ) : Type 0 where
  pub long : length m ≡ message_length n
  pub root : take 8 m ≡ be8 t

-- m is the message of the journal of a write that left this card
pub record Own (n t : ℕ) (card m : List ℕ) : Type 0 where
  pub block : ℕ
  pub inside : block < 2 ^ n
  pub is : m ≡ journal_message n t block card

pub own-root : (n t i : ℕ) (card : List ℕ) → take 8 (journal_message n t i card) ≡ be8 t
unfolding journal_message
own-root n t i card = take_at (be8 t) _ 8 (length-be 8 t)

-- what a root nonce is, its message tells
root-tells : (n t u : ℕ) (m : List ℕ) → t < 2 ^ 64 → u < 2 ^ 64 → take 8 m ≡ be8 u → IsJournal n t m → t ≡ u
root-tells n t u m ht hu e is = be-inj 8 t u (omega arith) (omega arith) (sym is.root ∙ e)

-- a node's message is no journal's
pub short-not : (n t : ℕ) (m : List ℕ) → length m ≤ 73 → 1 ≤ n → IsJournal n t m → ⊥
short-not n t m h deep is = omega (arith, is.long)

node-short : (n : ℕ) (L : Labels) → Sized n L → length (L 1) ≡ 8 → (u : ℕ) → IsNode n u → length (message L u) ≤ 73
node-short n L sized root u h = omega (arith, length-message n L sized root u h, size_low n u)

pub blank-short : (n t : ℕ) → 1 ≤ n → (m : List ℕ) → BlankTags n t m → length m ≤ 73
blank-short n t deep m k =
    let L = blank_labels n t in
    subst (λ (x : List ℕ). length x ≤ 73) (sym k.is)
    (node-short n L (blank-sized n t) (ap length (blank-root n t deep) ∙ length-be 8 t) k.node k.is-node)

write-short : {a : Anchor} {card : List ℕ} {i : ℕ} {block ranges : List ℕ} → Writes a card i block ranges → (m : List ℕ)
    → WriteTags a.depth a.root.0 a.reserved.0 card i block m → length m ≤ 73
write-short {a = a} {card = card} {i = i} {block = block} ok m k =
    let n = a.depth in
    let L = labels n a.root.0 card in
    let c : Child n i ok.inside k.node = record { level = k.level; high = k.high; is = k.child } in
    subst (λ (x : List ℕ). length x ≤ 73) (sym k.is)
    (node-short n (new_labels n a.reserved.0 i block L)
    (new-sized n a.reserved.0 i block ok.inside L ok.long (labels-sized n a.root.0 card ok.sound.full))
    (ap length (new-root n a.reserved.0 i block ok.inside L ok.sound.deep) ∙ length-be 8 (a.reserved.0 + n)) k.node
    (child-node n i ok.inside k.node c))

-- What is known of the tagged messages of journals
pub record Told (s : State) : Type 0 where
  pub bound : s.store.anchor.reserved.0 < 2 ^ 64
  pub used : (m : List ℕ) → Memᴰ m s.tagged → (t : ℕ) → t < 2 ^ 64 → IsJournal s.store.anchor.depth t m → t ≤ s.store.anchor.reserved.0
  pub last : (m : List ℕ) → Memᴰ m s.tagged → IsJournal s.store.anchor.depth s.store.anchor.root.0 m
      → Own s.store.anchor.depth s.store.anchor.root.0 s.store.left m

module _ (F : List ℕ → List ℕ) (F16 : (m : List ℕ) → length (F m) ≡ 16) (s : State) where
  abbrev a : Anchor
  a = s.store.anchor

  abbrev t : ℕ
  t = s.store.anchor.reserved.0 + s.store.anchor.depth

  -- A write tags short messages and, if it is an attempt, its journal's.
  module _ (card : List ℕ) (i : ℕ) (block ranges : List ℕ) (ok : Writes s.store.anchor card i block ranges) where
    call-short : (c : Call) → c ≡ write i block ranges → (m : List ℕ) → CallTags s.store.anchor card c m → length m ≤ 73
    call-short c e m k = write-short ok m (subst (λ (d : Call). CallTags a card d m) e k)

    both-short : (c : Call) → c ≡ write i block ranges → (j : ℕ) (b : List ℕ) → j ≡ i → b ≡ block → (m : List ℕ)
        → CallTags s.store.anchor card c m ⊎ JournalTags F s.store.anchor card j b m
        → (length m ≤ 73) ⊎ JournalTags F s.store.anchor card i block m
    both-short c e j b p q m (inl k) = inl (call-short c e m k)
    both-short c e j b p q m (inr k) =
        inr (subst (λ (l : ℕ). JournalTags F a card l block m) p (subst (λ (l : List ℕ). JournalTags F a card j l m) q k))

  step-short : (x : Step) (i : ℕ) (block ranges : List ℕ) → call_of x ≡ write i block ranges
      → Writes s.store.anchor (card_of x) i block ranges
      → (m : List ℕ) → StepTags F s.store.anchor x m → (length m ≤ 73) ⊎ JournalTags F s.store.anchor (card_of x) i block m
  step-short (call card c) i block ranges e ok m k = inl (call-short card i block ranges ok c e m k)
  step-short (split card j b l puts) i block ranges e ok m k = inl (call-short card i block ranges ok (write j b l) e m k)
  step-short (attempt card j b l journal unheard) i block ranges e ok m k = absurd k
  step-short (attempt card j b l journal lost) i block ranges e ok m k =
      both-short card i block ranges ok (write j b l) e j b (cc) (cc) m k
  step-short (attempt card j b l journal stood) i block ranges e ok m k =
      both-short card i block ranges ok (write j b l) e j b (cc) (cc) m k

  module _ (deep : 1 ≤ s.store.anchor.depth) (h : Told s) where
    -- after messages that are short or have the root nonce t, none is above t
    used-more : (new : List (List ℕ))
        → ((m : List ℕ) → Memᴰ m new → (length m ≤ 73) ⊎ (take 8 m ≡ be8 (s.store.anchor.reserved.0 + s.store.anchor.depth)))
        → s.store.anchor.reserved.0 + s.store.anchor.depth < 2 ^ 64 → (m : List ℕ) → Memᴰ m (new ++ s.tagged) → (u : ℕ) → u < 2 ^ 64
        → IsJournal s.store.anchor.depth u m → u ≤ s.store.anchor.reserved.0 + s.store.anchor.depth
    used-more new f fits m k u hu is =
        ⊎_elim
        (λ (l : Memᴰ m new).
        ⊎_elim (λ (z : length m ≤ 73). absurd (short-not a.depth u m z deep is))
        (λ (e : take 8 m ≡ be8 t). let q = root-tells a.depth u t m hu fits e is in omega arith) (f m l))
        (λ (l : Memᴰ m s.tagged). let q = h.used m l u hu is in omega arith) (Memᴰ.append_cases new k)

    -- and none before had t
    old-none : (m : List ℕ) → Memᴰ m s.tagged → s.store.anchor.reserved.0 + s.store.anchor.depth < 2 ^ 64
        → IsJournal s.store.anchor.depth (s.store.anchor.reserved.0 + s.store.anchor.depth) m → ⊥
    old-none m l fits is = let q = h.used m l t fits is in omega (arith, deep)

    pub told-next : (x : Step) → Complete F s.store x → Untouched F s.store x → s.store.anchor.root.0 ≤ s.store.anchor.reserved.0
        → Told (next F s x)
    told-next x complete untouched within = go (move F F16 s x complete)
      where
        tag-root : (i : ℕ) (block ranges : List ℕ) (new : List (List ℕ)) → Tags F s x i block ranges new → (m : List ℕ) → Memᴰ m new
            → (length m ≤ 73) ⊎ (take 8 m ≡ be8 (s.store.anchor.reserved.0 + s.store.anchor.depth))
        tag-root i block ranges new w m l =
            let ok = (accepted F a (card_of x) (write i block ranges) w.whole).limits-passed in
            ⊎_elim (λ (z : length m ≤ 73). inl z)
            (λ (z : JournalTags F a (card_of x) i block m). inr (ap (take 8) z ∙ own-root a.depth t i _))
            (step-short x i block ranges w.is-write ok m (w.tells m l))

        go : Move F s x → Told (next F s x)
        go (still e f g none) = subst Told (sym e) h
        go (wrote-block i block ranges w) =
            let ok = (accepted F a (card_of x) (write i block ranges) w.tags.whole).limits-passed in
            let fits = ok.unspent in
            subst Told (sym w.is)
            (record {
              bound = fits;
              used = used-more w.new (tag-root i block ranges w.new w.tags) fits;
              last = λ m k is.
                  ⊎_elim
                  (λ (l : Memᴰ m w.new).
                  ⊎_elim (λ (z : length m ≤ 73). absurd (short-not a.depth t m z deep is))
                  (λ (z : JournalTags F a (card_of x) i block m).
                  let o : Own a.depth t w.left m = record {
                    block = i;
                    inside = ok.inside;
                    is = z ∙ ap (journal_message a.depth t i) (sym (w.untouched untouched));
                  } in o)
                  (step-short x i block ranges w.tags.is-write ok m (w.tags.tells m l)))
                  (λ (l : Memᴰ m s.tagged). absurd (old-none m l fits is)) (Memᴰ.append_cases w.new k);
            })
        go (lost-block i block ranges w) =
            let ok = (accepted F a (card_of x) (write i block ranges) w.tags.whole).limits-passed in
            let fits = ok.unspent in
            subst Told (sym w.is)
            (record {
              bound = fits;
              used = used-more w.new (tag-root i block ranges w.new w.tags) fits;
              last = λ m k is.
                  ⊎_elim
                  (λ (l : Memᴰ m w.new).
                  ⊎_elim (λ (z : length m ≤ 73). absurd (short-not a.depth a.root.0 m z deep is))
                  (λ (e : take 8 m ≡ be8 t).
                  let q = root-tells a.depth a.root.0 t m (omega (arith, h.bound)) fits e is in absurd (omega (arith, deep)))
                  (tag-root i block ranges w.new w.tags m l))
                  (λ (l : Memᴰ m s.tagged). h.last m l is) (Memᴰ.append_cases w.new k);
            })
        go (wiped-card card i e q) =
            let ok = (accepted F a card wipe e).limits-passed in
            let fits = ok.unspent in
            let new = map (message (labels a.depth t (blanked F a.depth t card))) (all_nodes a.depth) in
            let short = λ (m : List ℕ) (l : Memᴰ m new).
            blank-short a.depth t deep m (named_blank F F16 a.depth t card deep ok.sound.full m l) in
            subst Told (sym q)
            (record {
              bound = fits;
              used = used-more new (λ m l. inl (short m l)) fits;
              last = λ m k is.
                  ⊎_elim (λ (l : Memᴰ m new). absurd (short-not a.depth t m (short m l) deep is))
                  (λ (l : Memᴰ m s.tagged). absurd (old-none m l fits is)) (Memᴰ.append_cases new k);
            })
