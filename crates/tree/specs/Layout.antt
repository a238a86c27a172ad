-- Where the nodes of a card of depth n lie. A node's entry is its label and then its tag (document 01: mark).
use Rattle.std.specs.Prelude.{ℕ, ◌+◌, ◌*◌, ◌-◌, ◌^◌, ◌<◌, ◌≤◌, ◌≡◌, cond, List, ltb, length}
use Rattle.words.specs.Bytes.{part}

-- a node of the card: any but the root
pub record IsNode (n u : ℕ) : Type 0 where
  pub low : 2 ≤ u
  pub high : u < 2 * 2 ^ n

-- an inner node's label is its nonce, a leaf's is its block
unfoldable pub size : ℕ → ℕ → ℕ
size n u = cond (ltb u (2 ^ n)) 8 64

unfoldable pub offset : ℕ → ℕ → ℕ
offset n u = cond (ltb u (2 ^ n)) (24 * (u - 2)) (24 * (2 ^ n - 2) + 80 * (u - 2 ^ n))

abbrev pub card_length : ℕ → ℕ
card_length n = 104 * 2 ^ n - 48

-- a card of a depth that is allowed
pub record IsCard (n : ℕ) (card : List ℕ) : Type 0 where
  pub deep : 1 ≤ n
  pub shallow : n ≤ 16
  pub full : length card ≡ card_length n

unfoldable pub label : ℕ → List ℕ → ℕ → List ℕ
label n card u = part card (offset n u) (size n u)

unfoldable pub tag : ℕ → List ℕ → ℕ → List ℕ
tag n card u = part card (offset n u + size n u) 16
