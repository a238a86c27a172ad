-- The claim over cuts: "wherever power fails, recovery leaves the old array if T was old and the new one if it was new, or the journal's
-- mark is a forgery". Every item is shown by its place in the list.
use Rattle.std.specs.Prelude.{ℕ, ◌+◌, ◌^◌, ◌<◌, ◌≡◌, ◌⊎◌, length, set, take}
use mathlib.Core.List.{List, Memᴰ}
use Rattle.std.proofs.Math.Option.{none}
use Rattle.tree.specs.Numbers.{be8}
use Rattle.tree.specs.Limits.{Limit, first_failing}
use Rattle.tree.specs.Answer.{Answer, Whole, Wrong}
use Rattle.tree.specs.Calls.{Call, read, write, limits, outcome}
use Rattle.tree.specs.declared.Anchor.{Anchor}
use Rattle.tree.specs.declared.Node.{Node}
use Rattle.journal.specs.Journal.{message_of, tag_of}
use Rattle.journal.specs.Journalled.{Journalled, journalled_limits}
use Rattle.plan.specs.Puts.{PutStep}
use Rattle.replay.specs.Array.{Array, block_at}
use Rattle.replay.specs.Places.{Place, Behind}
use Rattle.replay.specs.Run.{told, after}
use Rattle.replay.specs.Claim.{Agrees, Demand3}
use Rattle.replay.specs.Tagged.{Unforged}
use Rattle.replay.specs.Nonces.{NonceRule}
use Rattle.cuts.specs.Media.{Media}
use Rattle.cuts.specs.World.{Item, attempting, recovering, calling, splitting, Ending, whole, World, tried, recovery, laid_out, media_after}
use Rattle.cuts.specs.World.{next_world, world_after, steps, Writes, Settled, before}

-- What is answered where no cut is open: never 8, and nothing but acceptance within the limits.
pub record Serves (ls : List Limit) (x : Answer) : Type 0 where
  pub never-wrong : (u : Node) → x ≡ Wrong u → ⊥
  pub accepts : first_failing ls ≡ none → x ≡ Whole

-- it is a recovery, which looks at the journal
abbrev pub IsRecovery : Item → Type 0
IsRecovery (attempting i block ranges e) = ⊥
IsRecovery (recovering e) = Unit {0}
IsRecovery (calling c) = ⊥
IsRecovery (splitting i block ranges puts) = ⊥

module _ (F : List ℕ → List ℕ) where
  -- a read of any block is accepted, and gives the array's
  abbrev pub Shows : Anchor → List ℕ → Array → Type 0
  Shows a card array =
      (i : ℕ) (buffer : List ℕ) → i < 2 ^ a.depth → length buffer ≡ 64
      → ((outcome F a card (read i buffer)).answer ≡ Whole) × ((outcome F a card (read i buffer)).lent ≡ block_at array i)

  -- What a finished recovery does: it is accepted, and leaves the card as the last write that stands, wipe or format left it, which shows
  -- the array; anchor and journal stay.
  pub record Restores (w : World) : Type 0 where
    pub accepted : (recovery F w.media).answer ≡ Whole
    pub leaves : media_after F w.media (recovering whole)
        ≡ record { anchor = w.media.anchor; journal = w.media.journal; card = w.known.store.left }
    pub shows : Shows w.media.anchor w.known.store.left w.known.store.array

  -- The journal has the anchor's T and a right tag, and nothing before tagged its message.
  pub record ForgedJournal (w : World) : Type 0 where
    pub root : take 8 w.media.journal ≡ be8 w.media.anchor.root.0
    pub right : F (message_of w.media.anchor.depth w.media.journal) ≡ tag_of w.media.anchor.depth w.media.journal
    pub untagged : Memᴰ (message_of w.media.anchor.depth w.media.journal) w.known.tagged → ⊥

-- What is known in v behind an accepted attempt in w, which does o, by T on the chip: where T is as it was, the array and the card as last
-- left are the old ones; where it is the H that was raised, the new ones, and the card has all its ranges out.
pub record ByRoot (w v : World) (o : Journalled) (i : ℕ) (block : List ℕ) : Type 0 where
  pub old : v.media.anchor.root.0 ≡ w.media.anchor.root.0
      → (v.known.store.array ≡ w.known.store.array) × (v.known.store.left ≡ w.known.store.left)
  pub new : v.media.anchor.root.0 ≡ w.media.anchor.reserved.0 + w.media.anchor.depth
      → (v.known.store.array ≡ set w.known.store.array i block) × (v.known.store.left ≡ o.call.card)
  pub either : (v.media.anchor.root.0 ≡ w.media.anchor.root.0)
      ⊎ (v.media.anchor.root.0 ≡ w.media.anchor.reserved.0 + w.media.anchor.depth)

module _ (F : List ℕ → List ℕ) (w₀ : World) where
  abbrev pub media_before : {xs : List Item} → Place xs → Media
  media_before p = (before F w₀ p).media

  pub record Kept (xs : List Item) : Type 0 where
    -- every finished recovery restores
    pub restored : (p : Place xs) → p.item ≡ recovering whole → Restores F (before F w₀ p)
    -- behind an accepted attempt and then no other write, but recoveries cut anywhere, reads and checks, the card of a recovery that
    -- finishes shows the old array if T on the chip is as it was before the attempt, and the new one if it is the H that was raised; and T
    -- is one of the two
    pub promised : (p q : Place xs) (b : Behind p q) (i : ℕ) (block ranges : List ℕ) (e : Ending) → p.item ≡ attempting i block ranges e
        → (tried F (media_before p) i block ranges).call.answer ≡ Whole → ((r : Place b.between) → Writes r.item → ⊥)
        → q.item ≡ recovering whole →
        let m = media_after F (media_before q) q.item in
        let a = (media_before p).anchor in
        let array = (before F w₀ p).known.store.array in
        (m.anchor.root.0 ≡ a.root.0 → Shows F m.anchor m.card array)
        × (m.anchor.root.0 ≡ a.reserved.0 + a.depth → Shows F m.anchor m.card (set array i block))
        × ((m.anchor.root.0 ≡ a.root.0) ⊎ (m.anchor.root.0 ≡ a.reserved.0 + a.depth))
    -- every attempt and split write is served,
    pub attempts : (p : Place xs) (i : ℕ) (block ranges : List ℕ) (e : Ending) → p.item ≡ attempting i block ranges e →
        let m = media_before p in
        Serves (journalled_limits m.anchor (length m.card) i (length block) (length ranges) (length m.journal))
        (tried F m i block ranges).call.answer
    pub splits : (p : Place xs) (i : ℕ) (block ranges : List ℕ) (puts : List PutStep) → p.item ≡ splitting i block ranges puts →
        let m = media_before p in
        Serves (limits m.anchor m.card (write i block ranges)) (laid_out F m i block ranges).call.answer
    -- and where no cut is open every call is, and agrees with the array
    pub calls : (p : Place xs) (c : Call) → p.item ≡ calling c → Settled p.before →
        let m = media_before p in
        Serves (limits m.anchor m.card c) (outcome F m.anchor m.card c).answer
    pub agrees : (p : Place xs) (c : Call) → p.item ≡ calling c → Settled p.before →
        let m = media_before p in
        (outcome F m.anchor m.card c).answer ≡ Whole
        → Agrees m.anchor.depth (before F w₀ p).known.store.array m.card (outcome F m.anchor m.card c).lent (told c)

  -- a recovery, whole or cut, found a forged journal
  pub record Forgery (xs : List Item) : Type 0 where
    pub place : Place xs
    pub recovery : IsRecovery place.item
    pub forged : ForgedJournal F (before F w₀ place)

  abbrev pub Recovers : List Item → Type 0
  Recovers xs = Kept xs ⊎ Forgery xs

  -- The list is one of demand 3, whatever was forged: its anchor is the chip's, with the key and the depth of the format, and its array and
  -- card as last left are told by T.
  pub record IsList (key : List ℕ) (n : ℕ) (xs : List Item) : Type 0 where
    pub known : (world_after F w₀ xs).known ≡ after F w₀.known (steps F w₀ xs)
    pub chip : (world_after F w₀ xs).media.anchor ≡ (world_after F w₀ xs).known.store.anchor
    pub keeps : ((world_after F w₀ xs).media.anchor.key ≡ key) × ((world_after F w₀ xs).media.anchor.depth ≡ n)
    pub by-root : (p : Place xs) (i : ℕ) (block ranges : List ℕ) (e : Ending) → p.item ≡ attempting i block ranges e
        → (tried F (media_before p) i block ranges).call.answer ≡ Whole
        → ByRoot (before F w₀ p) (next_world F (before F w₀ p) p.item) (tried F (media_before p) i block ranges) i block
    pub demand : Demand3 F w₀.known (steps F w₀ xs)
    pub tagged : Unforged F w₀.known n (steps F w₀ xs)
    pub nonces : NonceRule F w₀.known n (steps F w₀ xs)
