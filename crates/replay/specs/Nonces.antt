-- The anchor's nonces after a list of calls.
use Rattle.std.specs.Prelude.{ℕ, ◌+◌, ◌*◌, ◌%◌, ◌≤◌, ◌≡◌, true, false, List}
use Rattle.tree.specs.Limits.{nonce_limit}
use Rattle.replay.specs.Run.{Step, State, reserves, stands, after, renewals, losses}
use Rattle.replay.specs.Claim.{Everywhere}

module _ (F : List ℕ → List ℕ) (s₀ : State) where
  -- no write was lost: what reserved nonces stands
  abbrev pub NothingLost : List Step → Type 0
  NothingLost xs = Everywhere F s₀ xs (λ s x. reserves F s.store x ≡ true → stands F s.store x ≡ true)

  -- After a format of depth n and the steps xs: the reserved nonce is n times the writes and wipes that stand and the lost ones, the root
  -- nonce is at most that, both are multiples of n, so that limit 2 is never met; and where nothing was lost the root nonce is n times the
  -- writes and wipes that stand.
  pub record NonceRule (n : ℕ) (xs : List Step) : Type 0 where
    pub reserved : (after F s₀ xs).store.anchor.reserved.0 ≡ (renewals F s₀ xs + losses F s₀ xs) * n
    pub within : (after F s₀ xs).store.anchor.root.0 ≤ (after F s₀ xs).store.anchor.reserved.0
    pub multiple : (after F s₀ xs).store.anchor.root.0 % n ≡ 0
    pub reserved_multiple : (after F s₀ xs).store.anchor.reserved.0 % n ≡ 0
    pub passed : (nonce_limit n (after F s₀ xs).store.anchor.root.0 (after F s₀ xs).store.anchor.reserved.0).fails ≡ false
    pub root : NothingLost xs → (after F s₀ xs).store.anchor.root.0 ≡ renewals F s₀ xs * n
