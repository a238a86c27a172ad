-- Places in a list, so that a claim can speak of an item together with those before it and behind it.
use Rattle.std.specs.Prelude.{◌≡◌, List, ◌∷◌, ◌++◌}

pub record Place {A : Type 0} (xs : List A) : Type 0 where
  pub before : List A
  pub item : A
  pub behind : List A
  pub is : xs ≡ before ++ (item ∷ behind)

-- q stands behind p
pub record Behind {A : Type 0} {xs : List A} (p q : Place xs) : Type 0 where
  pub between : List A
  pub is : q.before ≡ p.before ++ (p.item ∷ between)
