-- The bytes of a word as std has them.
use Rattle.std.proofs.Common.{rules, ◌≡◌, refl, sym, ap, ◌∙◌, ℕ, ◌<◌, ◌^◌, List, reverse, length, get_or}
use Rattle.std.proofs.lemmas.Nat.{le_bytes_4, le_bytes_8, be_bytes_4, be_bytes_8}
use Rattle.std.specs.Int.{w32, w64, to_le_bytes, to_be_bytes, from_le_bytes, from_be_bytes, swap_bytes}
use Rattle.words.specs.Words.{bytes}

pub to_le_bytes-bytes_4 : (n : ℕ) → to_le_bytes w32 n ≡ bytes 4 n
to_le_bytes-bytes_4 n = search rules

pub to_le_bytes-bytes_8 : (n : ℕ) → to_le_bytes w64 n ≡ bytes 8 n
to_le_bytes-bytes_8 n = search rules

pub to_be_bytes-bytes_4 : (n : ℕ) → to_be_bytes w32 n ≡ reverse (bytes 4 n)
to_be_bytes-bytes_4 n = search rules

pub to_be_bytes-bytes_8 : (n : ℕ) → to_be_bytes w64 n ≡ reverse (bytes 8 n)
to_be_bytes-bytes_8 n = search rules

pub bytes-swap_bytes_4 : (n : ℕ) → n < 2 ^ 32 → bytes 4 (swap_bytes w32 n) ≡ reverse (bytes 4 n)
bytes-swap_bytes_4 n h = search rules

pub bytes-swap_bytes_8 : (n : ℕ) → n < 2 ^ 64 → bytes 8 (swap_bytes w64 n) ≡ reverse (bytes 8 n)
bytes-swap_bytes_8 n h = search rules

pub bytes-from_le_bytes_4 : (s : List ℕ) → length s ≡ 4 → ((i : ℕ) → get_or s i 0 < 256) → bytes 4 (from_le_bytes w32 s) ≡ s
bytes-from_le_bytes_4 s n h = sym (to_le_bytes-bytes_4 (from_le_bytes w32 s)) ∙ le_bytes_4 s _ n h refl

pub bytes-from_le_bytes_8 : (s : List ℕ) → length s ≡ 8 → ((i : ℕ) → get_or s i 0 < 256) → bytes 8 (from_le_bytes w64 s) ≡ s
bytes-from_le_bytes_8 s n h = sym (to_le_bytes-bytes_8 (from_le_bytes w64 s)) ∙ le_bytes_8 s _ n h refl

pub bytes-from_be_bytes_4 : (s : List ℕ) → length s ≡ 4 → ((i : ℕ) → get_or s i 0 < 256) → bytes 4 (from_be_bytes w32 s) ≡ reverse s
bytes-from_be_bytes_4 s n h = ap reverse (sym (to_be_bytes-bytes_4 (from_be_bytes w32 s)) ∙ be_bytes_4 s _ n h refl)

pub bytes-from_be_bytes_8 : (s : List ℕ) → length s ≡ 8 → ((i : ℕ) → get_or s i 0 < 256) → bytes 8 (from_be_bytes w64 s) ≡ reverse s
bytes-from_be_bytes_8 s n h = ap reverse (sym (to_be_bytes-bytes_8 (from_be_bytes w64 s)) ∙ be_bytes_8 s _ n h refl)
